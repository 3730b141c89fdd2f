use Rattle.std.proofs.Common.{◌≡◌, ◌/◌, ◌<◌, [], length, ap, MatchOption, sym, ◌∙◌, subst, arith}
use Rattle.std.proofs.lemmas.List.{length-set}
use Rattle.best_first.specs.Bits.{HasNoBit, IsLeastBit}
use Rattle.best_first.proofs.BitsOfNumbers.{leaves, none_least, without_bit}
use Rattle.best_first.proofs.Ids.{rest_greater}
use Rattle.best_first.proofs.id_set.IdSet.take_least.Goals as goal

-- there is no least id
pub returns-in_default-clause-ids : goal.returns-in_default-clause-ids
returns-in_default-clause-ids c =
    let none : c.args.self.now.ids ≡ [] = ap (λ s. s.ids) (sym c.self.view_is) ∙ none_least c.self.inside.words.items c.self.inside.least c.self.invariant.least c.in_default.is in
    (none, none)

pub returns-in_default-clause-least : goal.returns-in_default-clause-least
returns-in_default-clause-least c = ap (λ s. s.ids) (sym c.self.view_is) ∙ none_least c.self.inside.words.items c.self.inside.least c.self.invariant.least c.in_default.is

-- its bit is cleared, and the next one is found
pub invariant_of-self : goal.invariant_of-self
invariant_of-self c =
    let words = c.self.inside.words in
    let same = length-set words.items (c.in-Some.id / 64) (without_bit c.index_mut.result.now c.in-Some.id) in
    record {
      small = (let small = c.self.invariant.small in omega arith);
      least = rw c.deref.ensures.value at c.least_from-self-inside.ensures;
    }

pub returns-clause-ids : goal.returns-clause-ids
returns-clause-ids c =
    let words = c.self.inside.words in
    let least : IsLeastBit words.items c.in-Some.id = subst (λ l. MatchOption l (HasNoBit words.items) (IsLeastBit words.items)) c.in-Some.is c.self.invariant.least in
    let inside : c.in-Some.id / 64 < length words.items = let low = least.inside in omega arith in
    rw (← ap (λ s. s.ids) c.self.view_is) (leaves words.items c.in-Some.id c.index_mut.result.now inside c.index_mut.ensures.value least.set)

pub returns-clause-least : goal.returns-clause-least
returns-clause-least c =
    let words = c.self.inside.words in
    let least : IsLeastBit words.items c.in-Some.id = subst (λ l. MatchOption l (HasNoBit words.items) (IsLeastBit words.items)) c.in-Some.is c.self.invariant.least in
    let inside : c.in-Some.id / 64 < length words.items = let low = least.inside in omega arith in
    rest_greater words.items c.in-Some.id c.index_mut.result.now inside c.index_mut.ensures.value least
