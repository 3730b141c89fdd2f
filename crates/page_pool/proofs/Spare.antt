-- The list of freed numbers, of which a front is given again from its end.
use Rattle.std.proofs.Common.{◌≡◌, ◌≤◌, ◌<◌, ◌+◌, ◌-◌, ℕ, zero, suc, List, [], ◌∷◌, ◌++◌, length, take, get_or, true, false, cond, not, ◌&&◌, ◌||◌, refl, sym, ap, subst}
use Rattle.std.proofs.Common.{◌∙◌, Some, None, IsTrue, IfSome, nat_eq, nat_lt, ◌^◌, slice_get, inr, arith, length-append, eqb-true}
use Rattle.std.specs.Ordering.{nat_cmp, eq_by_cmp}
use Rattle.std.specs.Cmp.{nat_cmp_total, nat_eq_equiv, unsigned_tied}
use Rattle.std.specs.List.{AllByRecursion, IsDistinct, list_any}
use Rattle.std.specs.FinSet as set
use Rattle.std.specs.FinSet.{nat_cmp-IsAntisymmetric}
use Rattle.std.proofs.Math.Seq.{take-suc, get_or-append_seam}
use Rattle.std.proofs.lemmas.Option.{slice_get-get_or}
use Rattle.page_pool.specs.Disk.{NumberSet}
use Rattle.page_pool.specs.Inside.{NumbersState, TakesNumber, next_number}
use Rattle.page_pool.proofs.Maps.{tie_itself}
use Rattle.page_pool.proofs.Overlay.{same_set}

all_take : {X : Type 0} (P : X → Type 0) (n : ℕ) (xs : List X) → AllByRecursion P xs → AllByRecursion P (take n xs)
all_take P zero xs all = tt
all_take P (suc n) [] all = tt
all_take P (suc n) (x ∷ xs) all = (all.0, all_take P n xs all.1)

-- a front of distinct numbers is distinct
pub distinct_take : (n : ℕ) (xs : List ℕ) → IsDistinct nat_eq xs → IsDistinct nat_eq (take n xs)
unfolding IsDistinct
distinct_take zero xs d = tt
distinct_take (suc n) [] d = tt
distinct_take (suc n) (x ∷ xs) d = (all_take (λ y. nat_eq x y ≡ false) n xs d.0, distinct_take n xs d.1)

pub distinct_none : IsDistinct nat_eq []
unfolding IsDistinct
distinct_none = tt

all_last : {X : Type 0} (P : X → Type 0) (xs : List X) (y : X) → AllByRecursion P (xs ++ y ∷ []) → P y
all_last P [] y all = all.0
all_last P (x ∷ xs) y all = all_last P xs y all.1

-- the last of distinct numbers is none of the others
last_apart : (xs : List ℕ) (y : ℕ) → IsDistinct nat_eq (xs ++ y ∷ []) → list_any (λ x. nat_eq x y) xs ≡ false
unfolding IsDistinct
last_apart [] y d = refl
last_apart (x ∷ xs) y d = λ i. all_last (λ z. nat_eq x z ≡ false) xs y d.0 i || last_apart xs y d.1 i

-- a number that the set lacks is none of the list
pub not_in_list : (xs : List ℕ) (n : ℕ) → set.contains (set.from_list {R = nat_cmp} xs) n ≡ false → list_any (nat_eq n) xs ≡ false
not_in_list xs n out = flipped xs ∙ sym (set.contains-from_list_nat xs n) ∙ out
  where
    flipped : (ys : List ℕ) → list_any (nat_eq n) ys ≡ list_any (λ y. nat_eq y n) ys
    flipped [] = refl
    flipped (y ∷ ys) = λ i. nat_eq_equiv.symm n y i || flipped ys i

-- the number that is given next is the last of the list
next_last : (xs : List ℕ) (m top : ℕ) → next_number (xs ++ m ∷ []) top ≡ Some m
next_last xs m top =
    let ys : List ℕ = xs ++ m ∷ [] in
    let long : length ys ≡ length xs + 1 = length-append xs (m ∷ []) in
    let at : length ys - 1 ≡ length xs = omega arith in
    let within : length xs < length ys = omega arith in
    let found : slice_get ys (length ys - 1) ≡ Some m = ap (slice_get ys) at ∙ slice_get-get_or ys (length xs) 0 within ∙ ap (λ n. Some n) (get_or-append_seam xs m [] 0) in
    (elim (nat_eq (length ys) 0) as (λ b. nat_eq (length ys) 0 ≡ b → cond b (cond (nat_lt (top + 1) (2 ^ 64)) (Some (top + 1)) None) (slice_get ys (length ys - 1)) ≡ Some m) [
      | true ↦ λ none. let empty : length ys ≡ 0 = eqb-true (length ys) 0 none in absurd (omega arith)
      | false ↦ λ _. found
    ]) refl

-- to take a number out that was put in changes nothing, where it wasn't there
minus_plus : (s : NumberSet) (n : ℕ) → set.contains s n ≡ false → s ≡ set.remove (set.insert s n) n
minus_plus s n out = same_set _ _ (λ q. sym (
    set.contains-remove nat_cmp_total (set.insert s n) n q
    ∙ ap (λ b. not (eq_by_cmp nat_cmp q n) && b) (set.contains-insert nat_cmp_total s n q)
    ∙ (elim (eq_by_cmp nat_cmp q n) as (λ b. eq_by_cmp nat_cmp q n ≡ b → (not b && (b || set.contains s q)) ≡ set.contains s q) [
      | true ↦ λ tie. sym (ap (set.contains s) (eqb-true q n (sym (unsigned_tied q n) ∙ tie)) ∙ out)
      | false ↦ λ _. refl
    ]) refl))

-- without its last number the set lacks that number alone
pub taken_last : (xs : List ℕ) (m : ℕ) → IsDistinct nat_eq (xs ++ m ∷ []) →
    IsTrue (set.contains (set.from_list {R = nat_cmp} (xs ++ m ∷ [])) m) × (set.from_list {R = nat_cmp} xs ≡ set.remove (set.from_list (xs ++ m ∷ [])) m)
taken_last xs m d =
    let whole : set.from_list {R = nat_cmp} (xs ++ m ∷ []) ≡ set.insert (set.from_list xs) m = set.from_list_push nat_cmp_total nat_cmp-IsAntisymmetric xs m in
    let out : set.contains (set.from_list {R = nat_cmp} xs) m ≡ false = set.contains-from_list_nat xs m ∙ last_apart xs m d in (
      ap (λ s. set.contains s m) whole ∙ set.contains-insert nat_cmp_total _ m m ∙ ap (λ b. b || set.contains (set.from_list {R = nat_cmp} xs) m) (tie_itself m),
      minus_plus _ m out ∙ ap (λ s. set.remove s m) (sym whole),
    )

-- the numbers by their parts
abbrev pub numbers_of : List ℕ → List ℕ → ℕ → ℕ → NumbersState
numbers_of front items top past_top = record { next = next_number front top; top = top; spare = set.from_list front; past_top = past_top; past_spare = set.from_list items }

-- the last of the front was taken
pub takes_last : (items : List ℕ) (left top past_top : ℕ) → 0 < left → left ≤ length items → IsDistinct nat_eq items →
    IfSome (next_number (take left items) top) (TakesNumber (numbers_of (take left items) items top past_top) (numbers_of (take (left - 1) items) items top past_top))
takes_last items left top past_top some within d =
    let before : left ≡ suc (left - 1) = omega arith in
    let inside : left - 1 < length items = omega arith in
    let front : List ℕ = take (left - 1) items in
    let m : ℕ = get_or items (left - 1) 0 in
    let split : take left items ≡ front ++ m ∷ [] = ap (λ n. take n items) before ∙ take-suc items (left - 1) 0 inside in
    let facts = taken_last front m (subst (IsDistinct nat_eq) split (distinct_take left items d)) in
    subst (λ f. IfSome (next_number f top) (TakesNumber (numbers_of f items top past_top) (numbers_of front items top past_top))) (sym split)
    (subst (λ o. IfSome o (TakesNumber (numbers_of (front ++ m ∷ []) items top past_top) (numbers_of front items top past_top))) (sym (next_last front m top))
    record { past_top = refl; past_spare = refl; again = inr (facts.0, facts.1, refl) })
