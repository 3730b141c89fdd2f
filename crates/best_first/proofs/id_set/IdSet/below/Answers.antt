use Rattle.std.proofs.Common.{◌*◌, ◌≡◌, length, ap, ◌∙◌, arith}
use Rattle.std.proofs.lemmas.List.{length-replicate}
use Rattle.best_first.proofs.BitsOfNumbers.{none_set, zeros_clear, rounded_up}
use Rattle.best_first.specs.ZeroItems.{bits_for}
use Rattle.best_first.proofs.id_set.IdSet.below.Goals as goal

-- all words are 0
pub returns-clause-none : goal.returns-clause-none
returns-clause-none c =
    let is = c.in_ok-words.ensures.items_if_clones_equal (λ y same. same) in
    none_set c.in_ok-words.words.items (64 * length c.in_ok-words.words.items) (λ k l. zeros_clear _ c.in_ok-words.words.items is k)

-- there are as many bits as the words have
pub returns-clause-bits : goal.returns-clause-bits
returns-clause-bits c =
    let is = c.in_ok-words.ensures.items_if_clones_equal (λ y same. same) in
    let bits : 64 * length c.in_ok-words.words.items ≡ bits_for c.args.count = ap (λ n. 64 * n) (ap length is ∙ length-replicate c.div_ceil.result 0 ∙ c.div_ceil.ensures) in
    (omega arith, bits)

pub invariant_of-result : goal.invariant_of-result
invariant_of-result c =
    let is = c.in_ok-words.ensures.items_if_clones_equal (λ y same. same) in
    record {
      small = rounded_up c.args.count (length c.in_ok-words.words.items) c.ranges.count.fits (ap length is ∙ length-replicate c.div_ceil.result 0 ∙ c.div_ceil.ensures);
      least = λ k l. zeros_clear _ c.in_ok-words.words.items is k;
    }
