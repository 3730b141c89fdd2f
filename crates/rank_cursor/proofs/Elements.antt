-- What stands in a mapped list, in one that leaves some out, and in a list of which some term is told.
use Rattle.std.proofs.Common.{◌≡◌, ◌⊎◌, inl, inr, ⊎_elim, Bool, true, false, true≢false, List, [], ◌∷◌, ◌++◌, map, filter_map, Contains, Option, None, Some, refl, sym, ap, ◌∙◌, subst}
use Rattle.sand_model.specs.Rings.{SomeOf}
use Rattle.best_first.proofs.Bags.{here, there, cons_cases, none}

-- ---- maps

pub in_map : {X Y : Type 0} (f : X → Y) (xs : List X) (x : X) → Contains xs x → Contains (map f xs) (f x)
in_map f [] x h = absurd (none x h)
in_map f (y ∷ ys) x h =
    ⊎_elim (λ e. subst (λ z. Contains (f y ∷ map f ys) (f z)) e (here (f y) (map f ys)))
    (λ t. there (f y) (map f ys) (f x) (in_map f ys x t)) (cons_cases y ys x h)

pub from_map : {X Y : Type 0} (f : X → Y) (xs : List X) (y : Y) → Contains (map f xs) y → (x : X) × Contains xs x × (f x ≡ y)
from_map f [] y h = absurd (none y h)
from_map f (x ∷ xs) y h =
    ⊎_elim (λ e. (x, here x xs, e)) (λ t. let (z, at, is) = from_map f xs y t in (z, there x xs z at, is)) (cons_cases (f x) (map f xs) y h)

pub map_append : {X Y : Type 0} (f : X → Y) (xs ys : List X) → map f (xs ++ ys) ≡ map f xs ++ map f ys
map_append f [] ys = refl
map_append f (x ∷ xs) ys = ap (λ t. f x ∷ t) (map_append f xs ys)

-- ---- lists that leave some out

-- what a filter_map puts before the rest
abbrev cons_option : {Y : Type 0} → Option Y → List Y → List Y
cons_option None ys = ys
cons_option (Some y) ys = y ∷ ys

-- what two options hold is one where they are
pub some_is : {Y : Type 0} (x y : Y) → Some x ≡ Some y → x ≡ y
some_is {Y} x y e = ap (λ (o : Option Y). elim o as (λ _. Y) [ None ↦ x | Some z ↦ z ]) e

from_step : {X Y : Type 0} (h : X → Option Y) (x : X) (xs : List X) (y : Y) → (Contains (filter_map h xs) y → (z : X) × Contains xs z × (h z ≡ Some y)) → (o : Option Y) → h x ≡ o
    → Contains (cons_option o (filter_map h xs)) y → (z : X) × Contains (x ∷ xs) z × (h z ≡ Some y)
from_step h x xs y rest None e at = let (z, among, is) = rest at in (z, there x xs z among, is)
from_step h x xs y rest (Some w) e at =
    ⊎_elim (λ same. (x, here x xs, e ∙ ap (λ v. Some v) same)) (λ t. let (z, among, is) = rest t in (z, there x xs z among, is)) (cons_cases w (filter_map h xs) y at)

pub from_filter_map : {X Y : Type 0} (h : X → Option Y) (xs : List X) (y : Y) → Contains (filter_map h xs) y → (x : X) × Contains xs x × (h x ≡ Some y)
from_filter_map h [] y at = absurd (none y at)
from_filter_map h (x ∷ xs) y at = from_step h x xs y (from_filter_map h xs y) (h x) refl at

in_step : {X Y : Type 0} (h : X → Option Y) (x : X) (xs : List X) (y : Y) → (o : Option Y) → h x ≡ o → (h x ≡ Some y) ⊎ Contains (filter_map h xs) y
    → Contains (cons_option o (filter_map h xs)) y
in_step {X} {Y} h x xs y None e at = ⊎_elim (λ f. absurd (true≢false (ap (λ (o : Option Y). elim o as (λ _. Bool) [ None ↦ true | Some z ↦ false ]) (sym e ∙ f)))) (λ t. t) at
in_step h x xs y (Some w) e at =
    ⊎_elim (λ f. subst (λ z. Contains (z ∷ filter_map h xs) y) (some_is y w (sym f ∙ e)) (here y (filter_map h xs))) (λ t. there w (filter_map h xs) y t) at

pub in_filter_map : {X Y : Type 0} (h : X → Option Y) (xs : List X) (x : X) (y : Y) → Contains xs x → h x ≡ Some y → Contains (filter_map h xs) y
in_filter_map h [] x y at e = absurd (none x at)
in_filter_map h (z ∷ xs) x y at e =
    in_step h z xs y (h z) refl (⊎_elim (λ same. inl (ap h same ∙ e)) (λ t. inr (in_filter_map h xs x y t e)) (cons_cases z xs x at))

-- ---- terms

pub some_term : {X : Type 0} (P : X → Type 0) (xs : List X) → SomeOf P xs → (x : X) × Contains xs x × P x
some_term P [] h = absurd h
some_term P (x ∷ xs) h =
    ⊎_elim (λ p. (x, here x xs, p)) (λ t. let (z, at, is) = some_term P xs t in (z, there x xs z at, is)) h
