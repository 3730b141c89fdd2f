-- Lists of which each element has a counterpart in the other are equally long, where no two elements have one counterpart.
use Rattle.std.proofs.Common.{◌≡◌, ◌⊎◌, inl, inr, ⊎_elim, suc, ◌≤◌, List, [], ◌∷◌, length, Contains, refl, sym, ap, subst, arith}
use Rattle.std.specs.Prelude.{⊤}
use Rattle.best_first.proofs.Bags.{here, there, cons_cases, none}

-- the list without one of its elements
pub taken_out : {Y : Type 0} (ys : List Y) (y : Y) → Contains ys y → (rest : List Y) × (length ys ≡ suc (length rest)) × ((z : Y) → Contains ys z → (y ≡ z) ⊎ Contains rest z)
taken_out [] y h = absurd (none y h)
taken_out (x ∷ xs) y h =
    ⊎_elim
    (λ e. (xs, refl, λ z at. ⊎_elim (λ f. inl (subst (λ w. w ≡ z) e f)) (λ t. inr t) (cons_cases x xs z at)))
    (λ t.
    let (rest, long, others) = taken_out xs y t in
    (x ∷ rest, ap suc long, λ z at. ⊎_elim (λ f. inr (subst (Contains (x ∷ rest)) f (here x rest))) (λ m. ⊎_elim (λ e. inl e) (λ n. inr (there x rest z n)) (others z m)) (cons_cases x xs z at)))
    (cons_cases x xs y h)

-- no two elements of the list have a counterpart in common
abbrev pub HaveOwn : {X Y : Type 0} → (X → Y → Type 0) → List X → Type 0
HaveOwn R [] = ⊤
HaveOwn {X} {Y} R (x ∷ xs) = ((other : X) → Contains xs other → (y : Y) → R x y → R other y → ⊥) × HaveOwn R xs

pub no_more : {X Y : Type 0} (R : X → Y → Type 0) (xs : List X) (ys : List Y) → HaveOwn R xs → ((x : X) → Contains xs x → (y : Y) × Contains ys y × R x y) → length xs ≤ length ys
no_more R [] ys own each = omega arith
no_more R (x ∷ xs) ys own each =
    let (y, at, is) = each x (here x xs) in
    let (rest, long, others) = taken_out ys y at in
    let few = no_more R xs rest own.1 (λ other there_is.
    let (z, among, so) = each other (there x xs other there_is) in
    ⊎_elim (λ e. absurd (own.0 other there_is y is (subst (R other) (back e) so))) (λ m. (z, m, so)) (others z among)) in
    omega arith
  where
    back : {Z : Type 0} {a b : Z} → a ≡ b → b ≡ a
    back e = sym e
