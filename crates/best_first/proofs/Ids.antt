-- Ids as bits of words: what is in the set, and what is left once the least id is taken.
use Rattle.std.proofs.Common.{◌≡◌, ◌≢◌, ℕ, zero, suc, ◌*◌, ◌/◌, ◌%◌, ◌<◌, ◌≤◌, ◌^◌, Bool, true, false, cond, List, [], ◌∷◌, length, get_or, set, All, Contains, Option}
use Rattle.std.proofs.Common.{None, Some, MatchOption, ⊎_elim, refl, sym, ap, ◌∙◌, arith, true≢false}
use Rattle.std.specs.Prelude.{nat_eq}
use mir.Val.{bits}
use Rattle.std.specs.Int.{bit_at, w64}
use lib.Bits.{bit_and}
use Rattle.std.proofs.lemmas.Bool.{cases_lt}
use Rattle.std.proofs.lemmas.List.{get_or-set_same, get_or_read, get_or_default}
use Rattle.std.proofs.lemmas.List.Elements.{All-nil, All-cons, All-tail}
use Rattle.std.proofs.lemmas.List.Sorted.{IsPermutation-sym, All-permutation, Contains-permutation}
use Rattle.std.proofs.lemmas.Nat.{one_shl}
use Rattle.std.proofs.Math.Nat.{zero-mul}
use Rattle.std.proofs.lemmas.Nat.Bits.{and_pow, bit_at-lt, bit_at_clear_same}
use Rattle.best_first.specs.Bits.{has_bit, numbers_below, HasNoBit, IsLeastBit}
use Rattle.best_first.proofs.BitsOfNumbers.{leaves, none_set, without_bit}
use Rattle.best_first.specs.ZeroItems.{IsLeastOf}

-- ---- what holds of all ids

kept : (P : ℕ → Type 0) (c : Bool) (n : ℕ) (rest : List ℕ) → (c ≡ true → P n) → All P rest → All P (cond c (n ∷ rest) rest)
kept P true n rest h all = All-cons P n rest (h refl) all
kept P false n rest h all = all

-- what holds of each number with a bit holds of all of them
all_of : (P : ℕ → Type 0) (words : List ℕ) (n : ℕ) → ((k : ℕ) → k < n → has_bit words k ≡ true → P k) → All P (numbers_below words n)
unfolding numbers_below
all_of P words zero h = All-nil P
all_of P words (suc n) h = kept P (has_bit words n) n (numbers_below words n) (h n (omega arith)) (all_of P words n (λ k l. h k (omega arith)))

-- all ids are below the bound
pub all_below : (words : List ℕ) → All (λ id. id < 64 * length words) (numbers_below words (64 * length words))
all_below words = all_of (λ id. id < 64 * length words) words (64 * length words) (λ k l on. l)

-- no id is below the least one
none_less : (words : List ℕ) (id : ℕ) → IsLeastBit words id → All (λ other. id ≤ other) (numbers_below words (64 * length words))
none_less words id least =
    all_of (λ other. id ≤ other) words (64 * length words)
    (λ k l on. ⊎_elim (λ low. absurd (true≢false (sym on ∙ least.before k low))) (λ high. high) (cases_lt k id))

-- ---- the word that an id's bit stands in

-- the id's bit is set where its word has it
pub found_set : (words : List ℕ) (id word : ℕ) → id / 64 < length words → word ≡ get_or words (id / 64) word → bit_and word (1 * 2 ^ (id % 64) % 2 ^ bits w64) ≢ 0 → has_bit words id ≡ true
found_set words id word inside read found =
    let masked : bit_and word (1 * 2 ^ (id % 64) % 2 ^ bits w64) ≡ bit_at word (id % 64) * 2 ^ (id % 64) = ap (bit_and word) (one_shl (id % 64) (bits w64) (omega arith)) ∙ and_pow word (id % 64) in
    let few = bit_at-lt word (id % 64) in
    let some : bit_at word (id % 64) ≡ 0 → ⊥ = λ e. found (masked ∙ ap (λ b. b * 2 ^ (id % 64)) e ∙ zero-mul (2 ^ (id % 64))) in
    let one : bit_at word (id % 64) ≡ 1 = omega arith in
    ap (λ w. nat_eq (bit_at w (id % 64)) 1) (sym (get_or_read words (id / 64) word inside read 0)) ∙ ap (λ b. nat_eq b 1) one

-- the id's bit is clear in the word that is written
cleared : (words : List ℕ) (id word : ℕ) → id / 64 < length words → has_bit (set words (id / 64) (without_bit word id)) id ≡ false
cleared words id word inside =
    ap (λ w. nat_eq (bit_at w (id % 64)) 1) (get_or-set_same words (id / 64) (without_bit word id) 0 inside)
    ∙ ap (λ b. nat_eq b 1) (bit_at_clear_same w64 word (id % 64) (omega arith))

-- ---- the least id

module _ (words : List ℕ) (id word : ℕ) (inside : id / 64 < length words) (read : word ≡ get_or words (id / 64) word) where
  -- an id whose bit is set is in the set
  pub is_in : has_bit words id ≡ true → Contains (numbers_below words (64 * length words)) id
  is_in on =
      let new = set words (id / 64) (without_bit word id) in
      let rest = numbers_below new (64 * length new) in
      Contains-permutation (id ∷ rest) (numbers_below words (64 * length words)) id
      (IsPermutation-sym (numbers_below words (64 * length words)) (id ∷ rest) (leaves words id word inside read on))
      (0, omega arith, refl)

  -- the ids that are left once the least is taken are greater
  pub rest_greater : IsLeastBit words id → All (λ other. id < other) (numbers_below (set words (id / 64) (without_bit word id)) (64 * length (set words (id / 64) (without_bit word id))))
  rest_greater least =
      let new = set words (id / 64) (without_bit word id) in
      let rest = numbers_below new (64 * length new) in
      let not_less = All-tail (λ other. id ≤ other) id rest
      (All-permutation (λ other. id ≤ other) (numbers_below words (64 * length words)) (id ∷ rest) (leaves words id word inside read least.set) (none_less words id least)) in
      let others : All (λ other. other ≢ id) rest = all_of (λ other. other ≢ id) new (64 * length new) (λ k l on e. true≢false (sym on ∙ ap (has_bit new) e ∙ cleared words id word inside)) in
      λ k d l. let a = not_less k d l in let b = others k d l in omega arith

-- the least bit is that of the least id
pub least_id : (words : List ℕ) (least : Option ℕ) → MatchOption least (HasNoBit words) (IsLeastBit words)
    → MatchOption least (numbers_below words (64 * length words) ≡ []) (λ id. IsLeastOf id (numbers_below words (64 * length words)))
least_id words None h = none_set words (64 * length words) h
least_id words (Some id) h =
    let inside : id / 64 < length words = let low = h.inside in omega arith in
    (is_in words id (get_or words (id / 64) 0) inside (get_or_default words (id / 64) 0 (get_or words (id / 64) 0) inside) h.set, none_less words id h)
