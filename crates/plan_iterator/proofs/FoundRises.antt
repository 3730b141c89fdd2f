-- What was found comes nearest first: sorted, filtered, or the first of each.
use Rattle.std.proofs.Common.{◌≡◌, ◌⊎◌, ⊎_elim, inl, inr, ℕ, Bool, true, false, cond, not, true≢false, List, [], ◌∷◌, filter}
use Rattle.std.proofs.Common.{Contains, All, refl, sym, ap, ◌∙◌, subst, Greater}
use Rattle.std.specs.Ordering.{is_lt, ordering_then, ordering_reverse, nat_cmp}
use Rattle.std.specs.Prelude.{⊤, nat_eq, nat_lt}
use Rattle.std.proofs.lemmas.List.Elements.{All-nil, All-cons, All-head, All-tail, All-contains, All-filter}
use Rattle.exact_frac.specs.Frac.{value_cmp, value_cmp_total}
use Rattle.sand_model.specs.Sources.{Found, found_cmp, placed, sorted, first_of_each, nearest_after, with_one_more}
use Rattle.best_first.specs.Reach.{IsAtMost}
use Rattle.best_first.proofs.Bags.{All-by, here, there, cons_cases, only, from_filter}
use Rattle.best_first.proofs.Gaps.{at_most_trans, compared, is_less}

-- ---- what was found, nearest first

-- each is at most as far as all that stand after it
abbrev pub IsRising : List Found → Type 0
IsRising [] = ⊤
IsRising (x ∷ xs) = All (λ y. IsAtMost x.gap y.gap) xs × IsRising xs

-- where y doesn't come before x, x is at most as far as y
no_farther : (x y : Found) → is_lt (found_cmp y x) ≡ false → IsAtMost x.gap y.gap
no_farther x y e =
    elim (compared x.gap y.gap) [
      | inl near ↦ near
      | inr below ↦ absurd (true≢false (sym (ap (λ o. is_lt (ordering_then o (ordering_then (nat_cmp y.left x.left) (nat_cmp y.right x.right)))) (is_less y.gap x.gap below)) ∙ e))
    ]

-- and where it does, it is
before_near : (x y : Found) → is_lt (found_cmp y x) ≡ true → IsAtMost y.gap x.gap
before_near x y e =
    elim (compared y.gap x.gap) [
      | inl near ↦ near
      | inr below ↦
          let turned : value_cmp y.gap x.gap ≡ Greater = value_cmp_total.antisymm y.gap x.gap ∙ ap ordering_reverse (is_less x.gap y.gap below) in
          absurd (true≢false (sym e ∙ ap (λ o. is_lt (ordering_then o (ordering_then (nat_cmp y.left x.left) (nat_cmp y.right x.right)))) turned))
    ]

placed_split : (x y : Found) (ys : List Found) (z : Found) (b : Bool) → (Contains (placed found_cmp x ys) z → (x ≡ z) ⊎ Contains ys z)
    → Contains (cond b (y ∷ placed found_cmp x ys) (x ∷ y ∷ ys)) z → (x ≡ z) ⊎ Contains (y ∷ ys) z
placed_split x y ys z true rest h =
    ⊎_elim (λ e. inr (subst (Contains (y ∷ ys)) e (here y ys))) (λ t. ⊎_elim (λ e. inl e) (λ m. inr (there y ys z m)) (rest t)) (cons_cases y (placed found_cmp x ys) z h)
placed_split x y ys z false rest h = cons_cases x (y ∷ ys) z h

-- what stands in a list with a place for one more
from_placed : (x : Found) (ys : List Found) (z : Found) → Contains (placed found_cmp x ys) z → (x ≡ z) ⊎ Contains ys z
from_placed x [] z h = inl (only x z h)
from_placed x (y ∷ ys) z h = placed_split x y ys z (is_lt (found_cmp y x)) (from_placed x ys z) h

-- a place in a rising list keeps it rising
placed_rises : (x : Found) (ys : List Found) → IsRising ys → IsRising (placed found_cmp x ys)
placed_rises x [] rise = (All-nil (λ y. IsAtMost x.gap y.gap), tt)
placed_rises x (y ∷ ys) rise = step (placed_rises x ys rise.1) (is_lt (found_cmp y x)) refl
  where
    step : IsRising (placed found_cmp x ys) → (b : Bool) → is_lt (found_cmp y x) ≡ b → IsRising (cond b (y ∷ placed found_cmp x ys) (x ∷ y ∷ ys))
    step rest true e = (
      All-by (λ z. IsAtMost y.gap z.gap) (placed found_cmp x ys) (λ z at.
          ⊎_elim (λ f. subst (λ w. IsAtMost y.gap w.gap) f (before_near x y e)) (λ t. All-contains (λ z. IsAtMost y.gap z.gap) ys z rise.0 t)
          (from_placed x ys z at)),
      rest,
    )
    step rest false e =
        let near = no_farther x y e in (
          All-cons (λ z. IsAtMost x.gap z.gap) y ys near
              (All-by (λ z. IsAtMost x.gap z.gap) ys (λ z at. at_most_trans x.gap y.gap z.gap near (All-contains (λ z. IsAtMost y.gap z.gap) ys z rise.0 at))),
          rise,
        )

pub sorted_rises : (xs : List Found) → IsRising (sorted found_cmp xs)
sorted_rises [] = tt
sorted_rises (x ∷ xs) = placed_rises x (sorted found_cmp xs) (sorted_rises xs)

pub filter_rises : (p : Found → Bool) (xs : List Found) → IsRising xs → IsRising (filter p xs)
filter_rises p [] rise = tt
filter_rises p (x ∷ xs) rise = step (All-filter p (λ y. IsAtMost x.gap y.gap) xs rise.0) (filter_rises p xs rise.1) (p x)
  where
    step : All (λ y. IsAtMost x.gap y.gap) (filter p xs) → IsRising (filter p xs) → (b : Bool) → IsRising (cond b (x ∷ filter p xs) (filter p xs))
    step far rest true = (far, rest)
    step far rest false = rest

-- what holds of all holds of the first of each
pub first_all : (P : Found → Type 0) (xs : List Found) → All P xs → All P (first_of_each xs)
first_all P [] h = h
first_all P (x ∷ xs) h =
    All-cons P x (filter (λ other. not (nat_eq other.left x.left)) (first_of_each xs)) (All-head P x xs h)
    (All-filter (λ other. not (nat_eq other.left x.left)) P (first_of_each xs) (first_all P xs (All-tail P x xs h)))

pub first_rises : (xs : List Found) → IsRising xs → IsRising (first_of_each xs)
first_rises [] rise = tt
first_rises (x ∷ xs) rise = (
  All-filter (λ other. not (nat_eq other.left x.left)) (λ y. IsAtMost x.gap y.gap) (first_of_each xs) (first_all (λ y. IsAtMost x.gap y.gap) xs rise.0),
  filter_rises (λ other. not (nat_eq other.left x.left)) (first_of_each xs) (first_rises xs rise.1),
)

-- what holds of all holds of the first few of each
pub partners_all : (P : Found → Type 0) (k : ℕ) (came : ℕ → ℕ) (xs : List Found) → All P xs → All P (nearest_after k came xs)
partners_all P k came [] h = h
partners_all P k came (x ∷ xs) h =
    step (partners_all P k (with_one_more came x.left) xs (All-tail P x xs h)) (nat_lt (came x.left) k)
  where
    rest : List Found
    rest = nearest_after k (with_one_more came x.left) xs

    step : All P rest → (b : Bool) → All P (cond b (x ∷ rest) rest)
    step all true = All-cons P x rest (All-head P x xs h) all
    step all false = all

pub partners_rise : (k : ℕ) (came : ℕ → ℕ) (xs : List Found) → IsRising xs → IsRising (nearest_after k came xs)
partners_rise k came [] rise = tt
partners_rise k came (x ∷ xs) rise =
    step (partners_all (λ y. IsAtMost x.gap y.gap) k (with_one_more came x.left) xs rise.0) (partners_rise k (with_one_more came x.left) xs rise.1)
    (nat_lt (came x.left) k)
  where
    rest : List Found
    rest = nearest_after k (with_one_more came x.left) xs

    step : All (λ y. IsAtMost x.gap y.gap) rest → IsRising rest → (b : Bool) → IsRising (cond b (x ∷ rest) rest)
    step far rises true = (far, rises)
    step far rises false = rises

-- what passes a test does
pub filter_passes : {X : Type 0} (p : X → Bool) (xs : List X) → All (λ x. p x ≡ true) (filter p xs)
filter_passes p xs = All-by (λ x. p x ≡ true) (filter p xs) (λ x at. (from_filter p xs x at).1)
