-- The set of the numbers with a staged change.
use Rattle.std.proofs.Common.{◌≡◌, ◌<◌, ℕ, suc, zero, List, [], ◌∷◌, Bool, true, false, cond, refl, sym, ap, ◌∙◌, Option, is_some, length, arith}
use Rattle.std.specs.Ordering.{nat_cmp, eq_by_cmp, is_eq}
use Rattle.std.specs.List.{list_any}
use Rattle.std.specs.BTreeSet as tree
use Rattle.std.specs.BTreeSet.{BTreeSet}
use Rattle.std.specs.FinMap as map
use Rattle.std.specs.FinSet as set
use Rattle.page_pool.specs.Inside.{ChangeMap, staged_of, HasNumbersOf}
use Rattle.page_pool.proofs.Maps.{same, get-insert, get-remove, tie_flips, tied, nothing, some_or, none_or}
use Rattle.page_pool.proofs.Changes.{dirty-empty}

-- one more number with a change
pub listed-insert : (s t : BTreeSet ℕ) (m n : ChangeMap) (k : ℕ) (change : Option (List ℕ)) → tree.Updates nat_cmp s t k true → n ≡ map.insert m k change → HasNumbersOf m s → HasNumbersOf n t
listed-insert s t m n k change h put is = λ q.
    h.0 q ∙ (λ i. cond (tie_flips k q i) true (is q i))
    ∙ sym (ap (λ x. map.contains_key x q) put ∙ ap is_some (get-insert m k change q) ∙ some_or (eq_by_cmp nat_cmp q k) change (map.get m q))

-- another change of a number that has one
pub listed-again : (s : BTreeSet ℕ) (m n : ChangeMap) (k : ℕ) (change : Option (List ℕ)) → map.contains_key m k ≡ true → n ≡ map.insert m k change → HasNumbersOf m s → HasNumbersOf n s
listed-again s m n k change there put is = λ q.
    is q ∙ sym (ap (λ x. map.contains_key x q) put ∙ ap is_some (get-insert m k change q) ∙ some_or (eq_by_cmp nat_cmp q k) change (map.get m q) ∙ by_tie q)
  where
    by_tie : (q : ℕ) → cond (eq_by_cmp nat_cmp q k) true (map.contains_key m q) ≡ map.contains_key m q
    by_tie q = (elim (eq_by_cmp nat_cmp q k) as (λ b. eq_by_cmp nat_cmp q k ≡ b → cond b true (map.contains_key m q) ≡ map.contains_key m q) [
      | true ↦ λ tie. sym (ap (map.contains_key m) (tied q k tie) ∙ there)
      | false ↦ λ _. refl
    ]) refl

-- a number leaves with its change
pub listed-remove : (s t : BTreeSet ℕ) (m n : ChangeMap) (k : ℕ) → tree.Updates nat_cmp s t k false → n ≡ map.remove m k → HasNumbersOf m s → HasNumbersOf n t
listed-remove s t m n k h left is = λ q.
    h.0 q ∙ (λ i. cond (tie_flips k q i) false (is q i))
    ∙ sym (ap (λ x. map.contains_key x q) left ∙ ap is_some (get-remove m k q) ∙ none_or (eq_by_cmp nat_cmp q k) (map.get m q))

-- the same numbers and changes
pub listed-same : (s t : BTreeSet ℕ) (m n : ChangeMap) → t.keys ≡ s.keys → n ≡ m → HasNumbersOf m s → HasNumbersOf n t
listed-same s t m n keys changes is = λ q. ap (λ ks. list_any (λ k. is_eq (nat_cmp q k)) ks) keys ∙ is q ∙ sym (ap (λ x. map.contains_key x q) changes)

no_key : (test : ℕ → Bool) (ks : List ℕ) → length ks ≡ 0 → list_any test ks ≡ false
no_key test [] none = refl
no_key test (k ∷ ks) none = absurd (omega arith)

-- no number, so no change
pub listed-none : (s : BTreeSet ℕ) (m : ChangeMap) → length s.keys ≡ 0 → HasNumbersOf m s → m ≡ map.empty
listed-none s m none is = same m map.empty (λ q. nothing (map.get m q) (sym (is q) ∙ no_key (λ k. is_eq (nat_cmp q k)) s.keys none) ∙ sym (map.get-empty nat_cmp q))

pub listed-empty : (s : BTreeSet ℕ) (m : ChangeMap) → length s.keys ≡ 0 → m ≡ map.empty → HasNumbersOf m s
listed-empty s m none empty = λ q. no_key (λ k. is_eq (nat_cmp q k)) s.keys none ∙ sym (ap (λ x. map.contains_key x q) empty ∙ ap is_some (map.get-empty nat_cmp q))

pub staged-empty : (m : ChangeMap) → m ≡ map.empty → staged_of m ≡ record { changes = map.empty; count = 0 }
staged-empty m empty = ap staged_of empty ∙ ap (λ n. record { changes = map.empty; count = n }) (ap set.len dirty-empty ∙ set.len-empty nat_cmp)

pub none_of : (n : ℕ) → (0 < n → ⊥) → n ≡ 0
none_of zero none = refl
none_of (suc n) none = absurd (none (omega arith))
