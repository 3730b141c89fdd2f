-- Each item that is read goes to the end of those that are there.
use Rattle.std.proofs.Common.{◌∙◌, sym}
use Rattle.script_text.proofs.ListReading.{columns_end, columns_step}
use Rattle.script_text.proofs.cursor.Cursor.columns.Goals as goal

-- none comes behind the last one
pub returns-then-not-accept_mark : goal.returns-then-not-accept_mark
returns-then-not-accept_mark c =
    rw (c.in_ok-push.ensures.items, c.if-not-accept_mark.ensures.same)
    (sym c.columns.invariant ∙ columns_end c.columns.items.items c.columns.self c.field.new.self c.in_ok-field.field-0 c.in_ok-field.ensures c.if-not-accept_mark.ensures.other)

-- the others are a list behind it
pub columns-preserved : goal.columns-preserved
columns-preserved c =
    rw c.in_ok-push.ensures.items
    (columns_step c.columns.items.items c.columns.self c.field.new.self c.accept_mark.new.self c.in_ok-field.field-0 c.in_ok-field.ensures c.if-not-accept_mark.ensures ∙ c.columns.invariant)
