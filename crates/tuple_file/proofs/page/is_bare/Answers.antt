-- a slot with a tuple was found, or all were read
use Rattle.std.proofs.Common.{◌∙◌, arith}
use Rattle.tuple_file.proofs.Pastes.{bare_by, tuple_left}
use Rattle.tuple_file.proofs.page.is_bare.Goals as goal

pub returns-then-length_at-ne0-clause-left : goal.returns-then-length_at-ne0-clause-left
returns-then-length_at-ne0-clause-left c = λ e. tuple_left c.args.page.now c.slots.slot (omega (arith, c.slots-test.true, c.count_of-slot-end.ensures))
    (λ z. c.if-length_at-ne0.true (c.length_at.ensures ∙ z))

pub returns-clause-bare : goal.returns-clause-bare
returns-clause-bare c = λ e. bare_by c.args.page.now (λ i l. c.slots.invariant i (omega (arith, l, c.slots-test.false, c.count_of-slot-end.ensures)))
