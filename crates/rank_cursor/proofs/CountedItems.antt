-- Items of leaves as the frontier holds them, each once.
use Rattle.std.proofs.Common.{◌≡◌, ⊎_elim, ℕ, ◌*◌, Bool, true, false, cond, not, ◌&&◌, true≢false, List, [], ◌∷◌, map, length, filter}
use Rattle.std.proofs.Common.{Contains, Option, refl, sym, ap, ◌∙◌, subst, arith, le_antisymm, Ordering, Less, Equal, Greater}
use Rattle.std.specs.Ordering.{is_gt, is_eq}
use Rattle.std.specs.Prelude.{nat_eq}
use Rattle.std.specs.Cmp.{IsTotalOrder, both_ways}
use Rattle.std.proofs.lemmas.Bool.{eqb-true, eq-eqb}
use Rattle.std.proofs.lemmas.List.Elements.{All-contains}
use Rattle.exact_frac.specs.Frac.{value_cmp}
use Rattle.exact_frac.specs.declared.frac.Frac.{Frac}
use Rattle.sand_base.specs.declared.goal.Goal.{Goal}
use Rattle.sand_base.specs.declared.shape.Shape.{Shape}
use Rattle.z_code.specs.declared.block.Block.{Block}
use Rattle.sand_model.specs.Measure.{Measure}
use Rattle.sand_model.specs.Nodes.{LeafItem, greater, rank_items, rank_gaps}
use Rattle.sand_model.specs.Reach.{Nothing, UpTo, Ceiling, reaches, same_item, distinct}
use Rattle.sand_model.specs.Tree.{Tree}
use Rattle.ring_geom.proofs.TreeLaws.{same_compares}
use Rattle.best_first.specs.Frontier.{IsOnce}
use Rattle.best_first.specs.Item.{IsAlike}
use Rattle.best_first.specs.Order.{item_cmp}
use Rattle.best_first.specs.Reach.{IsSameGap, IsAtMost, within, up_to}
use Rattle.best_first.specs.declared.item.Item.{Item}
use Rattle.best_first.specs.declared.item.Item.TheVariants.{Node, Rough, Row}
use Rattle.best_first.proofs.Alikes.{alike_cmp}
use Rattle.best_first.proofs.Bags.{here, there, cons_cases, none, All-by, filter_none, in_filter, from_filter}
use Rattle.best_first.proofs.Gaps.{at_most_trans, equal_at_most, equal_at_least, not_greater, at_most_not_greater, up_to_is, is_up_to, same_itself, same_back, same_trans, reach_same, within_reach}
use Rattle.rank_cursor.specs.Answers.{IsTestOf, CountsAs}
use Rattle.rank_cursor.proofs.Pigeons.{HaveOwn}
use Rattle.rank_cursor.proofs.Places.{both_true, true_both}
use Rattle.rank_cursor.proofs.RankedItems.{greater_first, greater_second, greater_least}

-- ---- reaches

pub row_is_reach : (g h : Frac) → IsSameGap g h → IsTestOf (UpTo h) (up_to g)
row_is_reach g h same a b alike =
    both_ways (up_to g a) (not (is_gt (value_cmp b h)))
    (λ e. ap not (at_most_not_greater b h (at_most_trans b a h (equal_at_least a b alike) (at_most_trans a g h (up_to_is g a e) (equal_at_most g h same)))))
    (λ e. is_up_to g a (at_most_trans a b g (equal_at_most a b alike) (at_most_trans b h g (not_greater b h (not_true (is_gt (value_cmp b h)) e)) (equal_at_least g h same))))
  where
    not_true : (c : Bool) → not c ≡ true → c ≡ false
    not_true true e = absurd (true≢false (sym e))
    not_true false e = refl

pub ceiling_is_reach : (ceiling : Option ℕ) → IsTestOf (Ceiling ceiling) (within ceiling)
ceiling_is_reach ceiling a b alike = sym (reach_same (within ceiling) (within_reach ceiling) a b alike (within ceiling a) refl)

-- nothing lies within the reach nothing
none_reached : (k : Bool) → (k && false) ≡ false
none_reached true = refl
none_reached false = refl

pub nothing_counted : (gap : Measure) (goal : Goal) (shapes : List (ℕ × Shape)) (tree : Tree) → CountsAs gap goal shapes tree Nothing []
nothing_counted gap goal shapes tree = record {
  blocks = sym (ap length (filter_none (reaches Nothing) (rank_gaps gap goal tree) (All-by (λ g. reaches Nothing g ≡ false) (rank_gaps gap goal tree) (λ g at. refl))));
  geometries =
      sym (ap (λ (items : List LeafItem). length (distinct items))
      (filter_none (λ item. item.is_rough && reaches Nothing item.gap) (rank_items gap goal shapes tree)
      (All-by (λ item. (item.is_rough && reaches Nothing item.gap) ≡ false) (rank_items gap goal shapes tree) (λ item at. none_reached item.is_rough))));
}

-- ---- gaps of one value

same_of : (a b : Frac) → IsAtMost a b → IsAtMost b a → IsSameGap a b
same_of a b h k = same_compares (a.num * b.den) (b.num * a.den) (le_antisymm h k)

pub same_greater : (f g h k : Frac) → IsSameGap f h → IsSameGap g k → IsSameGap (greater f g) (greater h k)
same_greater f g h k p q =
    same_of (greater f g) (greater h k)
    (greater_least f g (greater h k) (at_most_trans f h (greater h k) (equal_at_most f h p) (greater_first h k)) (at_most_trans g k (greater h k) (equal_at_most g k q) (greater_second h k)))
    (greater_least h k (greater f g) (at_most_trans h f (greater f g) (equal_at_least f h p) (greater_first f g)) (at_most_trans k g (greater f g) (equal_at_least g k q) (greater_second f g)))

-- ---- counting

count_step : {A B : Type 0} (y : A) (ys : List A) (z : B) (zs : List B) → length ys ≡ length zs → (b c : Bool) → b ≡ c → length (cond b (y ∷ ys) ys) ≡ length (cond c (z ∷ zs) zs)
count_step y ys z zs e true true h = omega (arith, e)
count_step y ys z zs e true false h = absurd (true≢false h)
count_step y ys z zs e false true h = absurd (true≢false (sym h))
count_step y ys z zs e false false h = e

pub count_same : {X A B : Type 0} (f : X → A) (g : X → B) (p : A → Bool) (q : B → Bool) (xs : List X) → ((x : X) → Contains xs x → p (f x) ≡ q (g x))
    → length (filter p (map f xs)) ≡ length (filter q (map g xs))
count_same f g p q [] h = refl
count_same f g p q (x ∷ xs) h =
    count_step (f x) (filter p (map f xs)) (g x) (filter q (map g xs)) (count_same f g p q xs (λ y at. h y (there x xs y at))) (p (f x)) (q (g x)) (h x (here x xs))

-- ---- items of leaves as the frontier holds them

-- a rough item and its counterpart in the model
abbrev pub IsCounterpart : Item Block → LeafItem → Type 0
IsCounterpart (Node g b) item = ⊥
IsCounterpart (Rough g l s) item = IsSameGap g item.gap × (l ≡ item.left) × (s ≡ item.right)
IsCounterpart (Row g l s) item = ⊥

-- two items are one
abbrev pub IsOne : LeafItem → LeafItem → Type 0
IsOne a b = (a.left ≡ b.left) × (a.right ≡ b.right) × IsSameGap a.gap b.gap

eq_is : (c : Ordering) → is_eq c ≡ true → c ≡ Equal
eq_is c e = let go : (c : Ordering) → is_eq c ≡ true → c ≡ Equal = elim [ Less ↦ λ e. absurd (true≢false (sym e)) | Equal ↦ λ e. refl | Greater ↦ λ e. absurd (true≢false (sym e)) ] in go c e

one_is : (a b : LeafItem) → same_item a b ≡ true → IsOne a b
one_is a b e =
    let (left, more) = both_true (nat_eq a.left b.left) _ e in
    let (right, gap) = both_true (nat_eq a.right b.right) (is_eq (value_cmp a.gap b.gap)) more in
    (eqb-true a.left b.left left, eqb-true a.right b.right right, eq_is (value_cmp a.gap b.gap) gap)

is_one : (a b : LeafItem) → IsOne a b → same_item a b ≡ true
is_one a b h =
    true_both (nat_eq a.left b.left) (nat_eq a.right b.right && is_eq (value_cmp a.gap b.gap)) (eq-eqb a.left b.left h.0)
    (true_both (nat_eq a.right b.right) (is_eq (value_cmp a.gap b.gap)) (eq-eqb a.right b.right h.1) (ap is_eq h.2))

-- counterparts of one item are one, and an item that is one with a counterpart is one too
one_counterpart : (x : Item Block) (a b : LeafItem) → IsCounterpart x a → IsCounterpart x b → IsOne a b
one_counterpart (Node g c) a b h k = absurd h
one_counterpart (Rough g l s) a b h k = (sym h.1 ∙ k.1, sym h.2 ∙ k.2, same_trans a.gap g b.gap (same_back g a.gap h.0) k.0)
one_counterpart (Row g l s) a b h k = absurd h

pub counterpart_too : (x : Item Block) (a b : LeafItem) → IsOne b a → IsCounterpart x a → IsCounterpart x b
counterpart_too (Node g c) a b e h = absurd h
counterpart_too (Rough g l s) a b e h = (same_trans g a.gap b.gap h.0 (same_back b.gap a.gap e.2), h.1 ∙ sym e.0, h.2 ∙ sym e.1)
counterpart_too (Row g l s) a b e h = absurd h

-- two items with one counterpart are alike
counterparts_alike : (x y : Item Block) (a : LeafItem) → IsCounterpart x a → IsCounterpart y a → IsAlike x y
counterparts_alike (Node g c) y a h k = absurd h
counterparts_alike (Rough g l s) (Node i c) a h k = absurd k
counterparts_alike (Rough g l s) (Rough i m t) a h k = (same_trans g a.gap i h.0 (same_back i a.gap k.0), h.1 ∙ sym k.1, h.2 ∙ sym k.2)
counterparts_alike (Rough g l s) (Row i m t) a h k = absurd k
counterparts_alike (Row g l s) y a h k = absurd h

-- ---- each item once

pub from_distinct : (items : List LeafItem) (a : LeafItem) → Contains (distinct items) a → Contains items a
from_distinct [] a h = h
from_distinct (x ∷ xs) a h =
    ⊎_elim (λ e. subst (Contains (x ∷ xs)) e (here x xs))
    (λ t. there x xs a (from_distinct xs a (from_filter (λ other. not (same_item x other)) (distinct xs) a t).0)) (cons_cases x (filter (λ other. not (same_item x other)) (distinct xs)) a h)

-- of the items that are one, one is kept
kept_step : (x : LeafItem) (xs : List LeafItem) (a b : LeafItem) → Contains (distinct xs) b → IsOne b a → (k : Bool) → same_item x b ≡ k
    → (c : LeafItem) × Contains (distinct (x ∷ xs)) c × IsOne c a
kept_step x xs a b at is true e =
    let one = one_is x b e in
    (x, here x (filter (λ other. not (same_item x other)) (distinct xs)), (one.0 ∙ is.0, one.1 ∙ is.1, same_trans x.gap b.gap a.gap one.2 is.2))
kept_step x xs a b at is false e =
    (b, there x (filter (λ other. not (same_item x other)) (distinct xs)) b (in_filter (λ other. not (same_item x other)) (distinct xs) b at (ap not e)), is)

pub in_distinct : (items : List LeafItem) (a : LeafItem) → Contains items a → (b : LeafItem) × Contains (distinct items) b × IsOne b a
in_distinct [] a h = absurd (none a h)
in_distinct (x ∷ xs) a h =
    ⊎_elim (λ e. (x, here x (filter (λ other. not (same_item x other)) (distinct xs)), subst (IsOne x) e (refl, refl, same_itself x.gap)))
    (λ t. let (b, at, is) = in_distinct xs a t in kept_step x xs a b at is (same_item x b) refl) (cons_cases x xs a h)

filter_own : {X Y : Type 0} (R : X → Y → Type 0) (p : X → Bool) (xs : List X) → HaveOwn R xs → HaveOwn R (filter p xs)
filter_own R p [] own = tt
filter_own {X} {Y} R p (x ∷ xs) own = step (filter_own R p xs own.1) (p x)
  where
    step : HaveOwn R (filter p xs) → (b : Bool) → HaveOwn R (cond b (x ∷ filter p xs) (filter p xs))
    step rest true = (λ other at y h k. own.0 other (from_filter p xs other at).0 y h k, rest)
    step rest false = rest

pub distinct_own : (items : List LeafItem) → HaveOwn (λ (a : LeafItem) (x : Item Block). IsCounterpart x a) (distinct items)
distinct_own [] = tt
distinct_own (x ∷ xs) = (
  λ other at y h k.
      absurd (true≢false (sym (from_filter (λ other. not (same_item x other)) (distinct xs) other at).1 ∙ ap not (is_one x other (one_counterpart y x other h k)))),
  filter_own (λ (a : LeafItem) (x : Item Block). IsCounterpart x a) (λ other. not (same_item x other)) (distinct xs) (distinct_own xs),
)

pub once_own : {cmp : Block → Block → Ordering} → IsTotalOrder cmp → (xs : List (Item Block)) → IsOnce cmp xs → HaveOwn IsCounterpart xs
once_own o [] once = tt
once_own {cmp} o (x ∷ xs) once = (
  λ other at a h k.
      absurd (All-contains (λ other. item_cmp cmp x other ≡ Equal → ⊥) xs other once.0 at (alike_cmp o x other (counterparts_alike x other a h k))),
  once_own o xs once.1,
)
