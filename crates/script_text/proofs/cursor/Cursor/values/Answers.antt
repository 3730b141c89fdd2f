-- Each item that is read goes to the end of those that are there.
use Rattle.std.proofs.Common.{◌∙◌, sym, arith}
use Rattle.script_text.specs.Rules.{value_form}
use Rattle.script_text.proofs.ListReading.{values_end, values_step}
use Rattle.script_text.proofs.Whole.{left-within}
use Rattle.script_text.proofs.cursor.Cursor.values.Goals as goal

-- none comes behind the last one
pub returns-then-not-accept_mark : goal.returns-then-not-accept_mark
returns-then-not-accept_mark c =
    rw (c.in_ok-push.ensures.items, c.if-not-accept_mark.ensures.same)
    (sym c.values.invariant ∙ values_end c.values.items.items c.values.self c.value.new.self c.in_ok-value.field-0 c.in_ok-value.ensures c.if-not-accept_mark.ensures.other)

-- the others are a list behind it
pub values-preserved : goal.values-preserved
values-preserved c =
    rw c.in_ok-push.ensures.items
    (values_step c.values.items.items c.values.self c.value.new.self c.accept_mark.new.self c.in_ok-value.field-0 c.in_ok-value.ensures c.if-not-accept_mark.ensures ∙ c.values.invariant)

-- the token between two items is taken
pub values-smaller : goal.values-smaller
values-smaller c =
    let within = left-within value_form c.values.self (c.in_ok-value.field-0, c.value.new.self) c.in_ok-value.ensures in
    omega (arith, within, c.if-not-accept_mark.ensures.fewer)
