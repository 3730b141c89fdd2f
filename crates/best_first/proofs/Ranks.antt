-- The order of the frontier: what it says of gaps, of ids and of the three kinds of items.
use Rattle.std.proofs.Common.{◌≡◌, ℕ, ◌⊎◌, inl, inr, ⊎_elim, false, refl, sym, ap, ◌∙◌, true≢false, Ordering, Less, Equal, Greater, nat_cmp}
use Rattle.std.specs.Ordering.{ordering_then, is_gt}
use Rattle.std.specs.Cmp.{IsTotalOrder, upto, tied_itself, tied_back, alike_right}
use Rattle.std.proofs.lemmas.Cmp.{ranked}
use Rattle.exact_frac.specs.declared.frac.Frac.{Frac}
use Rattle.exact_frac.specs.Frac.{value_cmp}
use Rattle.best_first.specs.declared.item.Item.{Item}
use Rattle.best_first.specs.declared.item.Item.TheVariants.{Node, Rough, Row}
use Rattle.best_first.specs.Item.{gap_of}
use Rattle.best_first.specs.Reach.{IsAtMost, IsBelow}
use Rattle.best_first.specs.Order.{item_cmp, item_total}
use Rattle.best_first.specs.OrderLaws.{kind_cmp, ids_cmp}
use Rattle.best_first.specs.Frontier.{IsAfter}
use Rattle.best_first.proofs.Gaps.{less_is, equal_at_most, greater_is, is_less, below_at_most, not_below}

then_less : (a b : Ordering) → ordering_then a b ≡ Less → (a ≡ Less) ⊎ ((a ≡ Equal) × (b ≡ Less))
then_less Less b e = inl refl
then_less Equal b e = inr (refl, e)
then_less Greater b e = cc

then_equal : (a b : Ordering) → ordering_then a b ≡ Equal → (a ≡ Equal) × (b ≡ Equal)
then_equal Less b e = cc
then_equal Equal b e = (refl, e)
then_equal Greater b e = cc

then_upto : (a b : Ordering) → is_gt (ordering_then a b) ≡ false → (a ≡ Less) ⊎ ((a ≡ Equal) × (is_gt b ≡ false))
then_upto Less b e = inl refl
then_upto Equal b e = inr (refl, e)
then_upto Greater b e = absurd (true≢false e)

pub ids_equal : (l r k s : ℕ) → ids_cmp (l, r) (k, s) ≡ Equal → (l ≡ k) × (r ≡ s)
ids_equal l r k s e =
    let (first, second) = then_equal (nat_cmp l k) (nat_cmp r s) e in
    (ranked l k Equal (sym first), ranked r s Equal (sym second))

module _ {N : Type 0} (cmp : N → N → Ordering) where
  -- what comes after is no nearer
  pub after_far : (x y : Item N) → IsAfter cmp x y → IsAtMost (gap_of x) (gap_of y)
  after_far x y e =
      ⊎_elim (λ a. below_at_most (gap_of x) (gap_of y) (less_is (gap_of x) (gap_of y) a)) (λ a. equal_at_most (gap_of x) (gap_of y) a.0)
      (then_less (value_cmp (gap_of x) (gap_of y)) (kind_cmp cmp x y) e)

  -- what doesn't come before is no nearer
  pub upto_far : (x y : Item N) → is_gt (item_cmp cmp x y) ≡ false → IsAtMost (gap_of x) (gap_of y)
  upto_far x y e =
      ⊎_elim (λ a. below_at_most (gap_of x) (gap_of y) (less_is (gap_of x) (gap_of y) a)) (λ a. equal_at_most (gap_of x) (gap_of y) a.0)
      (then_upto (value_cmp (gap_of x) (gap_of y)) (kind_cmp cmp x y) e)

  -- what comes after, of a kind that stands before at equal gap, is farther
  pub after_strict : (x y : Item N) → kind_cmp cmp x y ≡ Greater → IsAfter cmp x y → IsBelow (gap_of x) (gap_of y)
  after_strict x y k e =
      ⊎_elim (λ a. less_is (gap_of x) (gap_of y) a) (λ a. absurd (let h : Greater ≡ Less = sym k ∙ a.1 in cc))
      (then_less (value_cmp (gap_of x) (gap_of y)) (kind_cmp cmp x y) e)

  -- what doesn't come before, of a kind that stands before at equal gap, is farther
  pub upto_strict : (x y : Item N) → kind_cmp cmp x y ≡ Greater → is_gt (item_cmp cmp x y) ≡ false → IsBelow (gap_of x) (gap_of y)
  upto_strict x y k e =
      ⊎_elim (λ a. less_is (gap_of x) (gap_of y) a) (λ a. absurd (true≢false (sym (ap is_gt k) ∙ a.1)))
      (then_upto (value_cmp (gap_of x) (gap_of y)) (kind_cmp cmp x y) e)

  -- what is farther comes after
  pub far_after : (x y : Item N) → IsBelow (gap_of x) (gap_of y) → IsAfter cmp x y
  far_after x y h = ap (λ a. ordering_then a (kind_cmp cmp x y)) (is_less (gap_of x) (gap_of y) h)

  tie_by : (x y : Item N) → IsAtMost (gap_of x) (gap_of y) → kind_cmp cmp x y ≡ Less → (a : Ordering) → value_cmp (gap_of x) (gap_of y) ≡ a → IsAfter cmp x y
  tie_by x y h k Less e = ap (λ a. ordering_then a (kind_cmp cmp x y)) e
  tie_by x y h k Equal e = ap (λ a. ordering_then a (kind_cmp cmp x y)) e ∙ k
  tie_by x y h k Greater e = absurd (not_below (gap_of y) (gap_of x) (greater_is (gap_of x) (gap_of y) e) h)

  -- what is no nearer, of a kind that stands after at equal gap, comes after
  pub tie_after : (x y : Item N) → IsAtMost (gap_of x) (gap_of y) → kind_cmp cmp x y ≡ Less → IsAfter cmp x y
  tie_after x y h k = tie_by x y h k (value_cmp (gap_of x) (gap_of y)) refl

  pub alike_gap : (x y : Item N) → item_cmp cmp x y ≡ Equal → value_cmp (gap_of x) (gap_of y) ≡ Equal
  alike_gap x y e = (then_equal (value_cmp (gap_of x) (gap_of y)) (kind_cmp cmp x y) e).0

  pub alike_kind : (x y : Item N) → item_cmp cmp x y ≡ Equal → kind_cmp cmp x y ≡ Equal
  alike_kind x y e = (then_equal (value_cmp (gap_of x) (gap_of y)) (kind_cmp cmp x y) e).1

  rough_kind : (g : Frac) (l r : ℕ) (y : Item N) → kind_cmp cmp (Rough g l r) y ≡ Equal → (h : Frac) × (y ≡ Rough h l r)
  rough_kind g l r (Node h b) e = absurd (cc)
  rough_kind g l r (Rough h k s) e = let (a, b) = ids_equal l r k s e in (h, cc)
  rough_kind g l r (Row h k s) e = absurd (cc)

  -- what is one with a rough object is that object under an equal gap
  pub alike_rough : (g : Frac) (l r : ℕ) (y : Item N) → item_cmp cmp (Rough g l r) y ≡ Equal → (h : Frac) × (y ≡ Rough h l r)
  alike_rough g l r y e = rough_kind g l r y (alike_kind (Rough g l r) y e)

  row_kind : (g : Frac) (l r : ℕ) (y : Item N) → kind_cmp cmp (Row g l r) y ≡ Equal → (h : Frac) × (y ≡ Row h l r)
  row_kind g l r (Node h b) e = absurd (cc)
  row_kind g l r (Rough h k s) e = absurd (cc)
  row_kind g l r (Row h k s) e = let (a, b) = ids_equal l r k s e in (h, cc)

  -- what is one with a row is a row with its ids under an equal gap
  pub alike_row : (g : Frac) (l r : ℕ) (y : Item N) → item_cmp cmp (Row g l r) y ≡ Equal → (h : Frac) × (y ≡ Row h l r)
  alike_row g l r y e = row_kind g l r y (alike_kind (Row g l r) y e)

  node_kind : (g : Frac) (a : N) (y : Item N) → kind_cmp cmp (Node g a) y ≡ Equal → (h : Frac) × ((b : N) × (y ≡ Node h b) × (cmp a b ≡ Equal))
  node_kind g a (Node h b) e = (h, (b, refl, e))
  node_kind g a (Rough h k s) e = absurd (cc)
  node_kind g a (Row h k s) e = absurd (cc)

  -- what is one with a node is a node that the order doesn't tell apart
  pub alike_node : (g : Frac) (a : N) (y : Item N) → item_cmp cmp (Node g a) y ≡ Equal → (h : Frac) × ((b : N) × (y ≡ Node h b) × (cmp a b ≡ Equal))
  alike_node g a y e = node_kind g a y (alike_kind (Node g a) y e)

module _ {N : Type 0} {cmp : N → N → Ordering} (o : IsTotalOrder cmp) where
  -- Less and no more than: the strict order chains with the other
  pub after_upto : (x y z : Item N) → IsAfter cmp x y → is_gt (item_cmp cmp y z) ≡ false → IsAfter cmp x z
  after_upto x y z p q =
      let go : (a : Ordering) → item_cmp cmp y z ≡ a → is_gt a ≡ false → IsAfter cmp x z =
      elim [ Less ↦ λ e h. (item_total o).trans x y z p e | Equal ↦ λ e h. sym (alike_right (item_total o) y z x e) ∙ p | Greater ↦ λ e h. absurd (true≢false h) ] in
      go (item_cmp cmp y z) refl q

  pub upto_after : (x y z : Item N) → is_gt (item_cmp cmp x y) ≡ false → IsAfter cmp y z → IsAfter cmp x z
  upto_after x y z p q =
      let go : (a : Ordering) → item_cmp cmp x y ≡ a → is_gt a ≡ false → IsAfter cmp x z =
      elim [ Less ↦ λ e h. (item_total o).trans x y z e q | Equal ↦ λ e h. (item_total o).congr x y z e ∙ q | Greater ↦ λ e h. absurd (true≢false h) ] in
      go (item_cmp cmp x y) refl p

  pub alike_after : (x y z : Item N) → item_cmp cmp x y ≡ Equal → IsAfter cmp x z → IsAfter cmp y z
  alike_after x y z e p = sym ((item_total o).congr x y z e) ∙ p

  -- nothing comes after itself
  pub not_itself : (x y : Item N) → item_cmp cmp x y ≡ Equal → IsAfter cmp x y → ⊥
  not_itself x y e p = let h : Equal ≡ Less = sym e ∙ p in cc

  -- of two first items neither comes before the other
  pub both_first : (x y : Item N) → is_gt (item_cmp cmp x y) ≡ false → is_gt (item_cmp cmp y x) ≡ false → item_cmp cmp x y ≡ Equal
  both_first x y p q =
      let turned = (item_total o).antisymm y x in
      let go : (a : Ordering) → item_cmp cmp x y ≡ a → is_gt a ≡ false → item_cmp cmp x y ≡ Equal =
      elim [
        | Less ↦ λ e h. absurd (let f : item_cmp cmp y x ≡ Greater = turned ∙ ap Rattle.std.specs.Ordering.ordering_reverse e in true≢false (sym (ap is_gt f) ∙ q))
        | Equal ↦ λ e h.
            e
        | Greater ↦ λ e h. absurd (true≢false h)
      ] in
      go (item_cmp cmp x y) refl p
