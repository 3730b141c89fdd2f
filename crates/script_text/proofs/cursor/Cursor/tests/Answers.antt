-- Each item that is read goes to the end of those that are there.
use Rattle.std.proofs.Common.{◌∙◌, sym}
use Rattle.script_text.proofs.ListReading.{tests_end, tests_step}
use Rattle.script_text.proofs.cursor.Cursor.tests.Goals as goal

-- none comes behind the last one
pub returns-then-not-accept_word : goal.returns-then-not-accept_word
returns-then-not-accept_word c =
    rw (c.in_ok-push.ensures.items, c.if-not-accept_word.ensures.same)
    (sym c.tests.invariant ∙ tests_end c.tests.items.items c.tests.self c.test.new.self c.in_ok-test.field-0 c.in_ok-test.ensures c.if-not-accept_word.ensures.other)

-- the others are a list behind it
pub tests-preserved : goal.tests-preserved
tests-preserved c =
    rw c.in_ok-push.ensures.items
    (tests_step c.tests.items.items c.tests.self c.test.new.self c.accept_word.new.self c.in_ok-test.field-0 c.in_ok-test.ensures c.if-not-accept_word.ensures ∙ c.tests.invariant)
