-- A list that is sorted by a total order, no two elements of which are tied, rises; what comes at each place of it.
use Rattle.std.proofs.Common.{◌≡◌, ◌⊎◌, inl, inr, ⊎_elim, ℕ, zero, suc, ◌<◌, ◌≤◌, Bool, true, false, cond, true≢false, List, [], ◌∷◌, length, filter, All, Contains}
use Rattle.std.proofs.Common.{Option, None, Some, refl, sym, ap, ◌∙◌, subst, arith, Ordering, Less, Equal, Greater}
use Rattle.std.proofs.lemmas.Bool.{cases_lt}
use Rattle.std.specs.Ordering.{is_lt, ordering_reverse}
use Rattle.std.specs.Prelude.{⊤}
use Rattle.std.specs.Cmp.{IsTotalOrder, tied_itself}
use Rattle.std.proofs.lemmas.List.Elements.{All-nil, All-cons, All-contains, All-head, All-tail}
use Rattle.sand_model.specs.Database.{element}
use Rattle.sand_model.specs.Sources.{placed, sorted}
use Rattle.best_first.proofs.Bags.{here, there, cons_cases, none, only, All-by, from_filter}
use Rattle.rank_cursor.proofs.Elements.{some_is}

-- each element comes before all that stand after it
abbrev pub Rises : {A : Type 0} → (A → A → Ordering) → List A → Type 0
Rises cmp [] = ⊤
Rises cmp (x ∷ xs) = All (λ y. cmp x y ≡ Less) xs × Rises cmp xs

-- no two elements are tied
abbrev pub AreApart : {A : Type 0} → (A → A → Ordering) → List A → Type 0
AreApart cmp [] = ⊤
AreApart cmp (x ∷ xs) = All (λ y. cmp x y ≡ Equal → ⊥) xs × AreApart cmp xs

-- ---- what a sorted list has

placed_split : {A : Type 0} (cmp : A → A → Ordering) (x y : A) (ys : List A) (z : A) (b : Bool) → (Contains (placed cmp x ys) z → (x ≡ z) ⊎ Contains ys z)
    → Contains (cond b (y ∷ placed cmp x ys) (x ∷ y ∷ ys)) z → (x ≡ z) ⊎ Contains (y ∷ ys) z
placed_split cmp x y ys z true rest h =
    ⊎_elim (λ e. inr (subst (Contains (y ∷ ys)) e (here y ys))) (λ t. ⊎_elim (λ e. inl e) (λ m. inr (there y ys z m)) (rest t)) (cons_cases y (placed cmp x ys) z h)
placed_split cmp x y ys z false rest h = cons_cases x (y ∷ ys) z h

pub from_placed : {A : Type 0} (cmp : A → A → Ordering) (x : A) (ys : List A) (z : A) → Contains (placed cmp x ys) z → (x ≡ z) ⊎ Contains ys z
from_placed cmp x [] z h = inl (only x z h)
from_placed cmp x (y ∷ ys) z h = placed_split cmp x y ys z (is_lt (cmp y x)) (from_placed cmp x ys z) h

placed_join : {A : Type 0} (cmp : A → A → Ordering) (x y : A) (ys : List A) (z : A) (b : Bool) → ((x ≡ z) ⊎ Contains ys z → Contains (placed cmp x ys) z)
    → (x ≡ z) ⊎ Contains (y ∷ ys) z → Contains (cond b (y ∷ placed cmp x ys) (x ∷ y ∷ ys)) z
placed_join cmp x y ys z true rest h =
    ⊎_elim (λ e. there y (placed cmp x ys) z (rest (inl e)))
    (λ t. ⊎_elim (λ e. subst (Contains (y ∷ placed cmp x ys)) e (here y (placed cmp x ys))) (λ m. there y (placed cmp x ys) z (rest (inr m))) (cons_cases y ys z t)) h
placed_join cmp x y ys z false rest h = ⊎_elim (λ e. subst (Contains (x ∷ y ∷ ys)) e (here x (y ∷ ys))) (λ t. there x (y ∷ ys) z t) h

pub in_placed : {A : Type 0} (cmp : A → A → Ordering) (x : A) (ys : List A) (z : A) → (x ≡ z) ⊎ Contains ys z → Contains (placed cmp x ys) z
in_placed cmp x [] z h = ⊎_elim (λ e. subst (Contains (x ∷ [])) e (here x [])) (λ t. absurd (none z t)) h
in_placed cmp x (y ∷ ys) z h = placed_join cmp x y ys z (is_lt (cmp y x)) (in_placed cmp x ys z) h

pub from_sorted : {A : Type 0} (cmp : A → A → Ordering) (xs : List A) (z : A) → Contains (sorted cmp xs) z → Contains xs z
from_sorted cmp [] z h = h
from_sorted cmp (x ∷ xs) z h =
    ⊎_elim (λ e. subst (Contains (x ∷ xs)) e (here x xs)) (λ t. there x xs z (from_sorted cmp xs z t)) (from_placed cmp x (sorted cmp xs) z h)

pub in_sorted : {A : Type 0} (cmp : A → A → Ordering) (xs : List A) (z : A) → Contains xs z → Contains (sorted cmp xs) z
in_sorted cmp [] z h = h
in_sorted cmp (x ∷ xs) z h =
    in_placed cmp x (sorted cmp xs) z (⊎_elim (λ e. inl e) (λ t. inr (in_sorted cmp xs z t)) (cons_cases x xs z h))

-- ---- places of a list

pub at_is : {A : Type 0} (xs : List A) (n : ℕ) (x : A) → element xs n ≡ Some x → Contains xs x
at_is {A} [] n x h = absurd (true≢false (ap (λ (o : Option A). elim o as (λ _. Bool) [ None ↦ true | Some z ↦ false ]) h))
at_is (y ∷ ys) zero x h = subst (Contains (y ∷ ys)) (some_is y x h) (here y ys)
at_is (y ∷ ys) (suc n) x h = there y ys x (at_is ys n x h)

pub place_of : {A : Type 0} (xs : List A) (x : A) → Contains xs x → (n : ℕ) × (element xs n ≡ Some x)
place_of [] x h = absurd (none x h)
place_of (y ∷ ys) x h = ⊎_elim (λ e. (0, ap (λ z. Some z) e)) (λ t. let (n, is) = place_of ys x t in (suc n, is)) (cons_cases y ys x h)

pub at_below : {A : Type 0} (xs : List A) (n : ℕ) (x : A) → element xs n ≡ Some x → n < length xs
at_below {A} [] n x h = absurd (true≢false (ap (λ (o : Option A). elim o as (λ _. Bool) [ None ↦ true | Some z ↦ false ]) h))
at_below (y ∷ ys) zero x h = omega arith
at_below (y ∷ ys) (suc n) x h = let below = at_below ys n x h in omega arith

pub below_at : {A : Type 0} (xs : List A) (n : ℕ) → n < length xs → (x : A) × (element xs n ≡ Some x)
below_at [] n h = absurd (omega arith)
below_at (y ∷ ys) zero h = (y, refl)
below_at (y ∷ ys) (suc n) h = below_at ys n (omega arith)

-- ---- rising lists

pub rising_at : {A : Type 0} (cmp : A → A → Ordering) (xs : List A) → Rises cmp xs → (i j : ℕ) (x y : A) → i < j → element xs i ≡ Some x → element xs j ≡ Some y → cmp x y ≡ Less
rising_at {A} cmp [] rise i j x y less h k = absurd (true≢false (ap (λ (o : Option A). elim o as (λ _. Bool) [ None ↦ true | Some z ↦ false ]) h))
rising_at cmp (z ∷ zs) rise i zero x y less h k = absurd (omega arith)
rising_at cmp (z ∷ zs) rise zero (suc j) x y less h k =
    subst (λ w. cmp w y ≡ Less) (some_is z x h) (All-contains (λ w. cmp z w ≡ Less) zs y rise.0 (at_is zs j y k))
rising_at cmp (z ∷ zs) rise (suc i) (suc j) x y less h k = rising_at cmp zs rise.1 i j x y (omega arith) h k

filter_rises_step : {A : Type 0} (cmp : A → A → Ordering) (p : A → Bool) (x : A) (xs : List A) → All (λ y. cmp x y ≡ Less) xs → Rises cmp (filter p xs) → (b : Bool)
    → Rises cmp (cond b (x ∷ filter p xs) (filter p xs))
filter_rises_step cmp p x xs far rise true =
    (All-by (λ y. cmp x y ≡ Less) (filter p xs) (λ y at. All-contains (λ y. cmp x y ≡ Less) xs y far (from_filter p xs y at).0), rise)
filter_rises_step cmp p x xs far rise false = rise

pub filter_rises : {A : Type 0} (cmp : A → A → Ordering) (p : A → Bool) (xs : List A) → Rises cmp xs → Rises cmp (filter p xs)
filter_rises cmp p [] rise = tt
filter_rises cmp p (x ∷ xs) rise = filter_rises_step cmp p x xs rise.0 (filter_rises cmp p xs rise.1) (p x)

module _ {A : Type 0} {cmp : A → A → Ordering} (o : IsTotalOrder cmp) where
  lt_is : (c : Ordering) → is_lt c ≡ true → c ≡ Less
  lt_is Less e = refl
  lt_is Equal e = absurd (true≢false (sym e))
  lt_is Greater e = absurd (true≢false (sym e))

  before : (x y : A) → is_lt (cmp y x) ≡ false → (cmp x y ≡ Equal → ⊥) → cmp x y ≡ Less
  before x y e apart =
      let turned = o.antisymm x y in
      let go : (c : Ordering) → cmp y x ≡ c → is_lt c ≡ false → cmp x y ≡ Less =
      elim [
        | Less ↦ λ h k. absurd (true≢false k)
        | Equal ↦ λ h k. absurd (apart (turned ∙ ap ordering_reverse h))
        | Greater ↦ λ h k. turned ∙ ap ordering_reverse h
      ] in
      go (cmp y x) refl e

  placed_rises_step : (x y : A) (ys : List A) → Rises cmp (y ∷ ys) → All (λ z. cmp x z ≡ Equal → ⊥) (y ∷ ys) → Rises cmp (placed cmp x ys) → (b : Bool)
      → is_lt (cmp y x) ≡ b → Rises cmp (cond b (y ∷ placed cmp x ys) (x ∷ y ∷ ys))
  placed_rises_step x y ys rise apart rest true e = (
    All-by (λ z. cmp y z ≡ Less) (placed cmp x ys) (λ z at.
        ⊎_elim (λ f. subst (λ w. cmp y w ≡ Less) f (lt_is (cmp y x) e)) (λ t. All-contains (λ z. cmp y z ≡ Less) ys z rise.0 t) (from_placed cmp x ys z at)),
    rest,
  )
  placed_rises_step x y ys rise apart rest false e =
      let first = before x y e (All-head (λ z. cmp x z ≡ Equal → ⊥) y ys apart) in (
        All-cons (λ z. cmp x z ≡ Less) y ys first (All-by (λ z. cmp x z ≡ Less) ys (λ z at. o.trans x y z first (All-contains (λ z. cmp y z ≡ Less) ys z rise.0 at))),
        rise,
      )

  placed_rises : (x : A) (ys : List A) → Rises cmp ys → All (λ z. cmp x z ≡ Equal → ⊥) ys → Rises cmp (placed cmp x ys)
  placed_rises x [] rise apart = (All-nil (λ y. cmp x y ≡ Less), tt)
  placed_rises x (y ∷ ys) rise apart =
      placed_rises_step x y ys rise apart (placed_rises x ys rise.1 (All-tail (λ z. cmp x z ≡ Equal → ⊥) y ys apart)) (is_lt (cmp y x)) refl

  pub sorted_rises : (xs : List A) → AreApart cmp xs → Rises cmp (sorted cmp xs)
  sorted_rises [] apart = tt
  sorted_rises (x ∷ xs) apart =
      placed_rises x (sorted cmp xs) (sorted_rises xs apart.1)
      (All-by (λ z. cmp x z ≡ Equal → ⊥) (sorted cmp xs) (λ z at. All-contains (λ z. cmp x z ≡ Equal → ⊥) xs z apart.0 (from_sorted cmp xs z at)))

  -- what comes after an element stands after it
  pub later_place : (xs : List A) → Rises cmp xs → (i j : ℕ) (x y : A) → element xs i ≡ Some x → element xs j ≡ Some y → cmp x y ≡ Less → i < j
  later_place xs rise i j x y h k less =
      ⊎_elim (λ l. l)
      (λ m. ⊎_elim
      (λ l. absurd (let turned : Less ≡ Greater = sym less ∙ o.antisymm x y ∙ ap ordering_reverse (rising_at cmp xs rise j i y x l k h) in cc))
      (λ same. absurd (let one : x ≡ y = some_is x y (sym h ∙ ap (element xs) same ∙ k) in let tied : Less ≡ Equal = sym less ∙ sym (ap (cmp x) one) ∙ tied_itself o x in cc))
      (split i j m))
      (cases i j)
    where
      cases : (i j : ℕ) → (i < j) ⊎ (j ≤ i)
      cases i j = cases_lt i j

      split : (i j : ℕ) → j ≤ i → (j < i) ⊎ (i ≡ j)
      split i j m = ⊎_elim (λ l. inl l) (λ n. inr (omega arith)) (cases_lt j i)
