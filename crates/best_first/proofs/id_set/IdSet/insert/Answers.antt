use Rattle.std.proofs.Common.{◌≡◌, ◌*◌, ◌/◌, ◌<◌, length, refl, ap, subst, Contains, arith}
use Rattle.std.proofs.lemmas.List.{length-set}
use Rattle.best_first.proofs.BitsOfNumbers.{found_clear, joins, least_joined, with_bit}
use Rattle.best_first.proofs.Ids.{found_set, is_in}
use Rattle.best_first.proofs.id_set.IdSet.insert.Goals as goal

-- the bit was set
pub returns-then-index-bit-ne0-clause-ids : goal.returns-then-index-bit-ne0-clause-ids
returns-then-index-bit-ne0-clause-ids c =
    let words = c.self.inside.words in
    let below : 64 * length words.items ≡ c.args.self.now.below = ap (λ s. s.below) c.self.view_is in
    let inside : c.args.id / 64 < length words.items = let under = c.requires in omega arith in
    let on = found_set words.items c.args.id c.index.result.now inside c.index.ensures c.if-index-bit-ne0.true in
    (refl, subst (λ s. Contains s.ids c.args.id) c.self.view_is (is_in words.items c.args.id c.index.result.now inside c.index.ensures on))

-- the bit was not set, and is now
pub invariant_of-self : goal.invariant_of-self
invariant_of-self c =
    let words = c.self.inside.words in
    let below : 64 * length words.items ≡ c.args.self.now.below = ap (λ s. s.below) c.self.view_is in
    let inside : c.args.id / 64 < length words.items = let under = c.requires in omega arith in
    let off = found_clear words.items c.args.id c.index.result.now inside c.index.ensures c.if-index-bit-ne0.false in
    let same = length-set words.items (c.args.id / 64) (with_bit c.index_mut.result.now c.args.id) in
    record {
      small = (let small = c.self.invariant.small in omega arith);
      least = least_joined words.items c.args.id c.index_mut.result.now inside c.index_mut.ensures.value off c.self.inside.least c.lesser.result c.self.invariant.least c.lesser.ensures;
    }

pub returns-clause-ids : goal.returns-clause-ids
returns-clause-ids c =
    let words = c.self.inside.words in
    let below : 64 * length words.items ≡ c.args.self.now.below = ap (λ s. s.below) c.self.view_is in
    let inside : c.args.id / 64 < length words.items = let under = c.requires in omega arith in
    let off = found_clear words.items c.args.id c.index.result.now inside c.index.ensures c.if-index-bit-ne0.false in
    rw (← ap (λ s. s.ids) c.self.view_is) (joins words.items c.args.id c.index_mut.result.now inside c.index_mut.ensures.value off)
