-- Rough items that a search has taken, and what the model counts: each has a counterpart among the others, so they are as many.
use Rattle.std.proofs.Common.{◌≡◌, ⊎_elim, Bool, true, false, cond, not, ◌&&◌, true≢false, List, [], ◌∷◌, length, filter, Contains, refl, sym, ap, ◌∙◌, subst}
use Rattle.std.proofs.Common.{le_antisymm, Ordering, Less, Equal, Greater}
use Rattle.std.specs.Ordering.{is_eq}
use Rattle.std.specs.Prelude.{nat_eq}
use Rattle.std.specs.Cmp.{IsTotalOrder, tied_back}
use Rattle.std.proofs.lemmas.Bool.{eqb-true, eq-eqb}
use Rattle.std.proofs.lemmas.List.Elements.{All-contains}
use Rattle.exact_frac.specs.Frac.{value_cmp}
use Rattle.exact_frac.specs.declared.frac.Frac.{Frac}
use Rattle.sand_model.specs.Nodes.{LeafItem}
use Rattle.sand_model.specs.Reach.{Reach, reaches, same_item, distinct}
use Rattle.sand_model.specs.Reach as model
use Rattle.best_first.specs.Frontier.{IsOnce, HasAlike}
use Rattle.best_first.specs.Hierarchy.{Meaning, listed_roughs_within}
use Rattle.best_first.specs.Item.{gap_of, roughs_of, IsAlike}
use Rattle.best_first.specs.Order.{item_cmp, item_total}
use Rattle.best_first.specs.Reach.{IsSameGap}
use Rattle.best_first.specs.Visits.{Reached}
use Rattle.best_first.specs.declared.item.Item.{Item}
use Rattle.best_first.specs.declared.item.Item.TheVariants.{Node, Rough, Row}
use Rattle.best_first.proofs.Alikes.{alike_cmp}
use Rattle.best_first.proofs.Bags.{here, there, cons_cases, none, in_filter, from_filter}
use Rattle.best_first.proofs.Gaps.{same_itself, same_back, same_trans}
use Rattle.best_first.proofs.Ranks.{alike_gap, alike_rough}
use Rattle.rank_cursor.proofs.Pigeons.{HaveOwn, no_more}
use Rattle.rank_cursor.proofs.Places.{both_true, true_both}

-- a rough item and its counterpart in the model
abbrev pub IsCounterpart : {N : Type 0} → Item N → LeafItem → Type 0
IsCounterpart (Node g b) item = ⊥
IsCounterpart (Rough g l s) item = IsSameGap g item.gap × (l ≡ item.left) × (s ≡ item.right)
IsCounterpart (Row g l s) item = ⊥

-- two items are one
abbrev IsOne : LeafItem → LeafItem → Type 0
IsOne a b = (a.left ≡ b.left) × (a.right ≡ b.right) × IsSameGap a.gap b.gap

eq_is : (c : Ordering) → is_eq c ≡ true → c ≡ Equal
eq_is c e = let go : (c : Ordering) → is_eq c ≡ true → c ≡ Equal = elim [ Less ↦ λ e. absurd (true≢false (sym e)) | Equal ↦ λ e. refl | Greater ↦ λ e. absurd (true≢false (sym e)) ] in go c e

one_is : (a b : LeafItem) → same_item a b ≡ true → IsOne a b
one_is a b e =
    let (left, more) = both_true (nat_eq a.left b.left) _ e in
    let (right, gap) = both_true (nat_eq a.right b.right) (is_eq (value_cmp a.gap b.gap)) more in
    (eqb-true a.left b.left left, eqb-true a.right b.right right, eq_is (value_cmp a.gap b.gap) gap)

is_one : (a b : LeafItem) → IsOne a b → same_item a b ≡ true
is_one a b h =
    true_both (nat_eq a.left b.left) (nat_eq a.right b.right && is_eq (value_cmp a.gap b.gap)) (eq-eqb a.left b.left h.0)
    (true_both (nat_eq a.right b.right) (is_eq (value_cmp a.gap b.gap)) (eq-eqb a.right b.right h.1) (ap is_eq h.2))

-- counterparts of one item are one, and an item that is one with a counterpart is one too
one_counterpart : {N : Type 0} (x : Item N) (a b : LeafItem) → IsCounterpart x a → IsCounterpart x b → IsOne a b
one_counterpart (Node g c) a b h k = absurd h
one_counterpart (Rough g l s) a b h k = (sym h.1 ∙ k.1, sym h.2 ∙ k.2, same_trans a.gap g b.gap (same_back g a.gap h.0) k.0)
one_counterpart (Row g l s) a b h k = absurd h

counterpart_too : {N : Type 0} (x : Item N) (a b : LeafItem) → IsOne b a → IsCounterpart x a → IsCounterpart x b
counterpart_too (Node g c) a b e h = absurd h
counterpart_too (Rough g l s) a b e h = (same_trans g a.gap b.gap h.0 (same_back b.gap a.gap e.2), h.1 ∙ sym e.0, h.2 ∙ sym e.1)
counterpart_too (Row g l s) a b e h = absurd h

-- two items with one counterpart are alike
counterparts_alike : {N : Type 0} (x y : Item N) (a : LeafItem) → IsCounterpart x a → IsCounterpart y a → IsAlike x y
counterparts_alike (Node g c) y a h k = absurd h
counterparts_alike (Rough g l s) (Node i c) a h k = absurd k
counterparts_alike (Rough g l s) (Rough i m t) a h k = (same_trans g a.gap i h.0 (same_back i a.gap k.0), h.1 ∙ sym k.1, h.2 ∙ sym k.2)
counterparts_alike (Rough g l s) (Row i m t) a h k = absurd k
counterparts_alike (Row g l s) y a h k = absurd h

-- ---- each item once

from_distinct : (items : List LeafItem) (a : LeafItem) → Contains (distinct items) a → Contains items a
from_distinct [] a h = h
from_distinct (x ∷ xs) a h =
    ⊎_elim (λ e. subst (Contains (x ∷ xs)) e (here x xs))
    (λ t. there x xs a (from_distinct xs a (from_filter (λ other. not (same_item x other)) (distinct xs) a t).0)) (cons_cases x (filter (λ other. not (same_item x other)) (distinct xs)) a h)

-- of the items that are one, one is kept
kept_step : (x : LeafItem) (xs : List LeafItem) (a b : LeafItem) → Contains (distinct xs) b → IsOne b a → (k : Bool) → same_item x b ≡ k
    → (c : LeafItem) × Contains (distinct (x ∷ xs)) c × IsOne c a
kept_step x xs a b at is true e =
    let one = one_is x b e in
    (x, here x (filter (λ other. not (same_item x other)) (distinct xs)), (one.0 ∙ is.0, one.1 ∙ is.1, same_trans x.gap b.gap a.gap one.2 is.2))
kept_step x xs a b at is false e =
    (b, there x (filter (λ other. not (same_item x other)) (distinct xs)) b (in_filter (λ other. not (same_item x other)) (distinct xs) b at (ap not e)), is)

in_distinct : (items : List LeafItem) (a : LeafItem) → Contains items a → (b : LeafItem) × Contains (distinct items) b × IsOne b a
in_distinct [] a h = absurd (none a h)
in_distinct (x ∷ xs) a h =
    ⊎_elim (λ e. (x, here x (filter (λ other. not (same_item x other)) (distinct xs)), subst (IsOne x) e (refl, refl, same_itself x.gap)))
    (λ t. let (b, at, is) = in_distinct xs a t in kept_step x xs a b at is (same_item x b) refl) (cons_cases x xs a h)

filter_own : {X Y : Type 0} (R : X → Y → Type 0) (p : X → Bool) (xs : List X) → HaveOwn R xs → HaveOwn R (filter p xs)
filter_own R p [] own = tt
filter_own {X} {Y} R p (x ∷ xs) own = step (filter_own R p xs own.1) (p x)
  where
    step : HaveOwn R (filter p xs) → (b : Bool) → HaveOwn R (cond b (x ∷ filter p xs) (filter p xs))
    step rest true = (λ other at y h k. own.0 other (from_filter p xs other at).0 y h k, rest)
    step rest false = rest

distinct_own : (N : Type 0) (items : List LeafItem) → HaveOwn (λ (a : LeafItem) (x : Item N). IsCounterpart x a) (distinct items)
distinct_own N [] = tt
distinct_own N (x ∷ xs) = (
  λ other at y h k.
      absurd (true≢false (sym (from_filter (λ other. not (same_item x other)) (distinct xs) other at).1 ∙ ap not (is_one x other (one_counterpart y x other h k)))),
  filter_own (λ (a : LeafItem) (x : Item N). IsCounterpart x a) (λ other. not (same_item x other)) (distinct xs) (distinct_own N xs),
)

once_own : {N : Type 0} {cmp : N → N → Ordering} → IsTotalOrder cmp → (xs : List (Item N)) → IsOnce cmp xs → HaveOwn IsCounterpart xs
once_own o [] once = tt
once_own {N} {cmp} o (x ∷ xs) once = (
  λ other at a h k.
      absurd (All-contains (λ other. item_cmp cmp x other ≡ Equal → ⊥) xs other once.0 at (alike_cmp o x other (counterparts_alike x other a h k))),
  once_own o xs once.1,
)

-- what is one with a rough item has its counterpart
alike_counterpart : {N : Type 0} (cmp : N → N → Ordering) (x y : Item N) (a : LeafItem) → item_cmp cmp x y ≡ Equal → IsCounterpart x a → IsCounterpart y a
alike_counterpart cmp (Node g c) y a e h = absurd h
alike_counterpart {N} cmp (Rough g l s) y a e h =
    let (i, same) = alike_rough cmp g l s y e in
    let near : IsSameGap g i = subst (λ (z : Item N). IsSameGap g (gap_of z)) same (alike_gap cmp (Rough g l s) y e) in
    subst (λ (z : Item N). IsCounterpart z a) (sym same) (same_trans i g a.gap (same_back g i near) h.0, h.1, h.2)
alike_counterpart cmp (Row g l s) y a e h = absurd h

-- ---- counting

-- what the model counts at a reach
abbrev pub is_counted : Reach → LeafItem → Bool
is_counted to item = item.is_rough && reaches to item.gap

-- Rough items that were taken within a reach are as many as the model's, where each item of the tree within it has a counterpart among those of the model, and each of these is one.
pub count_roughs : {N : Type 0} {cmp : N → N → Ordering} → IsTotalOrder cmp → (m : Meaning N) (test : Frac → Bool) (done : List (Item N)) → Reached cmp m test done
    → (to : Reach) (items : List LeafItem)
    → ((x : Item N) → Contains (listed_roughs_within m test) x → (a : LeafItem) × Contains (filter (is_counted to) items) a × IsCounterpart x a)
    → ((a : LeafItem) → Contains (filter (is_counted to) items) a → (x : Item N) × Contains (listed_roughs_within m test) x × IsCounterpart x a)
    → length (roughs_of done) ≡ length (model.roughs_within to items)
count_roughs {N} {cmp} o m test done reached to items model_of item_of =
    le_antisymm
    (no_more IsCounterpart (roughs_of done) (model.roughs_within to items) (once_own o (roughs_of done) reached.once) taken_counterpart)
    (no_more (λ (a : LeafItem) (x : Item N). IsCounterpart x a) (model.roughs_within to items) (roughs_of done) (distinct_own N (filter (is_counted to) items)) counterpart_taken)
  where
    taken_counterpart : (x : Item N) → Contains (roughs_of done) x → (a : LeafItem) × Contains (model.roughs_within to items) a × IsCounterpart x a
    taken_counterpart x at =
        let alike = All-contains (HasAlike cmp (listed_roughs_within m test)) (roughs_of done) x reached.roughs at in
        let (a, among, counter) = model_of alike.other alike.listed in
        let (b, there_is, one) = in_distinct (filter (is_counted to) items) a among in
        (b, there_is, counterpart_too x a b one (alike_counterpart cmp alike.other x a (tied_back (item_total o) x alike.other alike.alike) counter))

    counterpart_taken : (a : LeafItem) → Contains (model.roughs_within to items) a → (x : Item N) × Contains (roughs_of done) x × IsCounterpart x a
    counterpart_taken a at =
        let (x, among, counter) = item_of a (from_distinct (filter (is_counted to) items) a at) in
        let alike = All-contains (HasAlike cmp (roughs_of done)) (listed_roughs_within m test) x reached.all_roughs among in
        (alike.other, alike.listed, alike_counterpart cmp x alike.other a alike.alike counter)
