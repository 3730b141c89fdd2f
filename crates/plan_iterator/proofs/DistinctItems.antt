-- Items of leaves, each once: a test that holds wherever another does keeps at least as many.
use Rattle.std.proofs.Common.{◌≡◌, ◌⊎◌, ⊎_elim, inl, inr, suc, ◌≤◌, Bool, true, false, cond, not, ◌&&◌, true≢false, List, [], ◌∷◌, length, filter, Contains, refl, sym}
use Rattle.std.proofs.Common.{ap, ◌∙◌, subst, arith, Ordering, Less, Equal, Greater}
use Rattle.std.specs.Ordering.{is_eq}
use Rattle.std.specs.Prelude.{⊤, nat_eq}
use Rattle.std.proofs.lemmas.Bool.{eqb-true, eq-eqb}
use Rattle.exact_frac.specs.Frac.{value_cmp}
use Rattle.sand_model.specs.Nodes.{LeafItem}
use Rattle.sand_model.specs.Reach.{same_item, distinct}
use Rattle.best_first.specs.Reach.{IsSameGap}
use Rattle.best_first.proofs.Bags.{here, there, cons_cases, none, in_filter, from_filter}
use Rattle.best_first.proofs.Gaps.{same_itself, same_back, same_trans}

-- ---- lists of which no two elements have a counterpart in common

-- the list without one of its elements
taken_out : {Y : Type 0} (ys : List Y) (y : Y) → Contains ys y → (rest : List Y) × (length ys ≡ suc (length rest)) × ((z : Y) → Contains ys z → (y ≡ z) ⊎ Contains rest z)
taken_out [] y h = absurd (none y h)
taken_out (x ∷ xs) y h =
    ⊎_elim
    (λ e. (xs, refl, λ z at. ⊎_elim (λ f. inl (subst (λ w. w ≡ z) e f)) (λ t. inr t) (cons_cases x xs z at)))
    (λ t.
    let (rest, long, others) = taken_out xs y t in
    (x ∷ rest, ap suc long, λ z at. ⊎_elim (λ f. inr (subst (Contains (x ∷ rest)) f (here x rest))) (λ m. ⊎_elim (λ e. inl e) (λ n. inr (there x rest z n)) (others z m)) (cons_cases x xs z at)))
    (cons_cases x xs y h)

abbrev HaveOwn : {X Y : Type 0} → (X → Y → Type 0) → List X → Type 0
HaveOwn R [] = ⊤
HaveOwn {X} {Y} R (x ∷ xs) = ((other : X) → Contains xs other → (y : Y) → R x y → R other y → ⊥) × HaveOwn R xs

-- where each element has a counterpart in another list, that is at least as long
no_more : {X Y : Type 0} (R : X → Y → Type 0) (xs : List X) (ys : List Y) → HaveOwn R xs → ((x : X) → Contains xs x → (y : Y) × Contains ys y × R x y) → length xs ≤ length ys
no_more R [] ys own each = omega arith
no_more R (x ∷ xs) ys own each =
    let (y, at, is) = each x (here x xs) in
    let (rest, long, others) = taken_out ys y at in
    let few = no_more R xs rest own.1 (λ other there_is.
    let (z, among, so) = each other (there x xs other there_is) in
    ⊎_elim (λ e. absurd (own.0 other there_is y is (subst (R other) (sym e) so))) (λ m. (z, m, so)) (others z among)) in
    omega arith

filter_own : {X Y : Type 0} (R : X → Y → Type 0) (p : X → Bool) (xs : List X) → HaveOwn R xs → HaveOwn R (filter p xs)
filter_own R p [] own = tt
filter_own {X} {Y} R p (x ∷ xs) own = step (filter_own R p xs own.1) (p x)
  where
    step : HaveOwn R (filter p xs) → (b : Bool) → HaveOwn R (cond b (x ∷ filter p xs) (filter p xs))
    step rest true = (λ other at y h k. own.0 other (from_filter p xs other at).0 y h k, rest)
    step rest false = rest

-- ---- items that are one

-- the same ids, and gaps of one value
abbrev IsOne : LeafItem → LeafItem → Type 0
IsOne a b = (a.left ≡ b.left) × (a.right ≡ b.right) × IsSameGap a.gap b.gap

both_true : (a b : Bool) → a && b ≡ true → (a ≡ true) × (b ≡ true)
both_true true b e = (refl, e)
both_true false b e = absurd (true≢false (sym e))

true_both : (a b : Bool) → a ≡ true → b ≡ true → a && b ≡ true
true_both true b e f = f
true_both false b e f = absurd (true≢false (sym e))

eq_is : (c : Ordering) → is_eq c ≡ true → c ≡ Equal
eq_is Less e = absurd (true≢false (sym e))
eq_is Equal e = refl
eq_is Greater e = absurd (true≢false (sym e))

one_is : (a b : LeafItem) → same_item a b ≡ true → IsOne a b
one_is a b e =
    let (left, more) = both_true (nat_eq a.left b.left) _ e in
    let (right, gap) = both_true (nat_eq a.right b.right) (is_eq (value_cmp a.gap b.gap)) more in
    (eqb-true a.left b.left left, eqb-true a.right b.right right, eq_is (value_cmp a.gap b.gap) gap)

is_one : (a b : LeafItem) → IsOne a b → same_item a b ≡ true
is_one a b h =
    true_both (nat_eq a.left b.left) (nat_eq a.right b.right && is_eq (value_cmp a.gap b.gap)) (eq-eqb a.left b.left h.0)
    (true_both (nat_eq a.right b.right) (is_eq (value_cmp a.gap b.gap)) (eq-eqb a.right b.right h.1) (ap is_eq h.2))

one_trans : (a b c : LeafItem) → IsOne a b → IsOne b c → IsOne a c
one_trans a b c h k = (h.0 ∙ k.0, h.1 ∙ k.1, same_trans a.gap b.gap c.gap h.2 k.2)

one_back : (a b : LeafItem) → IsOne a b → IsOne b a
one_back a b h = (sym h.0, sym h.1, same_back a.gap b.gap h.2)

-- ---- each item once

-- the others than an item
abbrev others : LeafItem → List LeafItem → List LeafItem
others x xs = filter (λ other. not (same_item x other)) (distinct xs)

from_distinct : (items : List LeafItem) (a : LeafItem) → Contains (distinct items) a → Contains items a
from_distinct [] a h = h
from_distinct (x ∷ xs) a h =
    ⊎_elim (λ e. subst (Contains (x ∷ xs)) e (here x xs))
    (λ t. there x xs a (from_distinct xs a (from_filter (λ other. not (same_item x other)) (distinct xs) a t).0)) (cons_cases x (others x xs) a h)

-- of the items that are one, one is kept
kept_step : (x : LeafItem) (xs : List LeafItem) (a b : LeafItem) → Contains (distinct xs) b → IsOne b a → (k : Bool) → same_item x b ≡ k
    → (c : LeafItem) × Contains (distinct (x ∷ xs)) c × IsOne c a
kept_step x xs a b at is true e = (x, here x (others x xs), one_trans x b a (one_is x b e) is)
kept_step x xs a b at is false e =
    (b, there x (others x xs) b (in_filter (λ other. not (same_item x other)) (distinct xs) b at (ap not e)), is)

in_distinct : (items : List LeafItem) (a : LeafItem) → Contains items a → (b : LeafItem) × Contains (distinct items) b × IsOne b a
in_distinct [] a h = absurd (none a h)
in_distinct (x ∷ xs) a h =
    ⊎_elim (λ e. (x, here x (others x xs), subst (IsOne x) e (refl, refl, same_itself x.gap)))
    (λ t. let (b, at, is) = in_distinct xs a t in kept_step x xs a b at is (same_item x b) refl) (cons_cases x xs a h)

distinct_own : (items : List LeafItem) → HaveOwn IsOne (distinct items)
distinct_own [] = tt
distinct_own (x ∷ xs) = (
  λ other at y h k.
      absurd (true≢false (sym (from_filter (λ other. not (same_item x other)) (distinct xs) other at).1
      ∙ ap not (is_one x other (one_trans x y other h (one_back other y k))))),
  filter_own IsOne (λ other. not (same_item x other)) (distinct xs) (distinct_own xs),
)

-- a list that has each item of another has at least as many, each once
pub distinct_more : (few many : List LeafItem) → ((a : LeafItem) → Contains few a → Contains many a) → length (distinct few) ≤ length (distinct many)
distinct_more few many h =
    no_more IsOne (distinct few) (distinct many) (distinct_own few) (λ a at.
    let (b, among, one) = in_distinct many a (h a (from_distinct few a at)) in (b, among, one_back b a one))

-- items that pass a test, each once: where another test holds wherever it does, there are at least as many of the other
pub passing_more : (p q : LeafItem → Bool) → ((x : LeafItem) → p x ≡ true → q x ≡ true) → (items : List LeafItem)
    → length (distinct (filter p items)) ≤ length (distinct (filter q items))
passing_more p q h items =
    distinct_more (filter p items) (filter q items) (λ a at.
    let (among, passes) = from_filter p items a at in in_filter q items a among (h a passes))
