-- One more id has a bit.
use Rattle.std.proofs.Common.{All, refl, sym, subst, ◌∙◌, arith}
use Rattle.std.proofs.lemmas.Bool.{false≢true}
use Rattle.std.proofs.lemmas.List.{take_all}
use Rattle.rank_cursor.specs.AtZero.{HaveBits}
use Rattle.rank_cursor.proofs.AtZeroEntries.{PairHasBit, all_more, bits_joined, bits_apart}
use Rattle.rank_cursor.proofs.at_zero.have_bits.Goals as goal

pub ids-preserved : goal.ids-preserved
ids-preserved c =
    all_more (PairHasBit c.args.queue.now.below) c.pairs-pairs.result.now c.ids.pair-index (0, 0)
    c.ids-test.true c.ids.invariant (c.has_bit.ensures.0 c.if-not-has_bit.false)

pub returns-then-not-has_bit : goal.returns-then-not-has_bit
returns-then-not-has_bit c = (
  λ no. absurd (false≢true no),
  λ all.
      sym c.if-not-has_bit.true
      ∙ c.has_bit.ensures.1
      (bits_apart c.args.queue.now.below c.pairs-pairs.result.now (subst (HaveBits c.args.queue.now.below) (sym c.pairs-pairs.ensures) all) c.ids.pair-index (0, 0) c.ids-test.true),
)

pub returns : goal.returns
returns c = (
  λ yes. subst (HaveBits c.args.queue.now.below) c.pairs-pairs.ensures
      (bits_joined c.args.queue.now.below c.pairs-pairs.result.now
      (subst (All (PairHasBit c.args.queue.now.below)) (take_all c.ids.pair-index c.pairs-pairs.result.now (let end = c.ids-test.false in omega arith)) c.ids.invariant)),
  λ all. refl,
)
