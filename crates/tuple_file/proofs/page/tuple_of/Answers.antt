-- the slot's place and length
use Rattle.std.proofs.Common.{sym, ◌∙◌, ap₂, ℕ, arith}
use Rattle.code_btree.specs.Bytes.{piece}
use Rattle.tuple_file.proofs.Pastes.{tuple_in, tuple_out}
use Rattle.tuple_file.proofs.page.tuple_of.Goals as goal

pub returns-then-slot-count_of : goal.returns-then-slot-count_of
returns-then-slot-count_of c = sym (tuple_out c.args.page.now c.args.slot (omega (arith, c.if-slot-count_of.true, c.count_of.ensures)))

pub returns : goal.returns
returns c =
    c.piece_of.ensures ∙ (ap₂ (λ (w a : ℕ). piece w a c.args.page.now) (c.from-2.ensures ∙ c.length_at.ensures) (c.from.ensures ∙ c.place_at.ensures)
    ∙ sym (tuple_in c.args.page.now c.args.slot (omega (arith, c.if-slot-count_of.false, c.count_of.ensures))))
