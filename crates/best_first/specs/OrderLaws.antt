-- The order among items of equal gap is total.
use Rattle.std.specs.Prelude.{◌≡◌, ℕ, refl}
use Rattle.std.specs.Ordering.{ordering_reverse, nat_cmp, on, then_cmp}
use Rattle.std.specs.Cmp.{IsTotalOrder, nat_cmp_total, on_total, then_total}
use Rattle.std.specs.declared.cmp.Ordering.{Ordering}
use Rattle.std.specs.declared.cmp.Ordering.TheVariants.{Less, Equal, Greater}
use Rattle.best_first.specs.declared.item.Item.{Item}
use Rattle.best_first.specs.declared.item.Item.TheVariants.{Node, Rough, Row}

-- the order of two pairs of ids, the left ones first
abbrev pub ids_cmp : ℕ × ℕ → ℕ × ℕ → Ordering
ids_cmp = then_cmp (on (λ ids. ids.0) nat_cmp) (on (λ ids. ids.1) nat_cmp)

-- the order among items of equal gap: nodes, then rough objects, then rows
abbrev pub kind_cmp : {N : Type 0} → (N → N → Ordering) → Item N → Item N → Ordering
kind_cmp cmp (Node g a) (Node h b) = cmp a b
kind_cmp cmp (Node g a) (Rough h l r) = Less
kind_cmp cmp (Node g a) (Row h l r) = Less
kind_cmp cmp (Rough g l r) (Node h b) = Greater
kind_cmp cmp (Rough g l r) (Rough h k s) = ids_cmp (l, r) (k, s)
kind_cmp cmp (Rough g l r) (Row h k s) = Less
kind_cmp cmp (Row g l r) (Node h b) = Greater
kind_cmp cmp (Row g l r) (Rough h k s) = Greater
kind_cmp cmp (Row g l r) (Row h k s) = ids_cmp (l, r) (k, s)

ids_total : IsTotalOrder ids_cmp
ids_total = then_total (on_total (λ ids. ids.0) nat_cmp_total) (on_total (λ ids. ids.1) nat_cmp_total)

module _ {N : Type 0} {cmp : N → N → Ordering} (o : IsTotalOrder cmp) where
  antisymm : (x y : Item N) → kind_cmp cmp x y ≡ ordering_reverse (kind_cmp cmp y x)
  antisymm (Node g1 a1) (Node g2 a2) = o.antisymm a1 a2
  antisymm (Node g1 a1) (Rough g2 l2 r2) = refl
  antisymm (Node g1 a1) (Row g2 l2 r2) = refl
  antisymm (Rough g1 l1 r1) (Node g2 a2) = refl
  antisymm (Rough g1 l1 r1) (Rough g2 l2 r2) = ids_total.antisymm (l1, r1) (l2, r2)
  antisymm (Rough g1 l1 r1) (Row g2 l2 r2) = refl
  antisymm (Row g1 l1 r1) (Node g2 a2) = refl
  antisymm (Row g1 l1 r1) (Rough g2 l2 r2) = refl
  antisymm (Row g1 l1 r1) (Row g2 l2 r2) = ids_total.antisymm (l1, r1) (l2, r2)

  trans : (x y z : Item N) → kind_cmp cmp x y ≡ Less → kind_cmp cmp y z ≡ Less → kind_cmp cmp x z ≡ Less
  trans (Node g1 a1) (Node g2 a2) (Node g3 a3) p q = o.trans a1 a2 a3 p q
  trans (Node g1 a1) (Node g2 a2) (Rough g3 l3 r3) p q = refl
  trans (Node g1 a1) (Node g2 a2) (Row g3 l3 r3) p q = refl
  trans (Node g1 a1) (Rough g2 l2 r2) (Node g3 a3) p q = cc
  trans (Node g1 a1) (Rough g2 l2 r2) (Rough g3 l3 r3) p q = refl
  trans (Node g1 a1) (Rough g2 l2 r2) (Row g3 l3 r3) p q = refl
  trans (Node g1 a1) (Row g2 l2 r2) (Node g3 a3) p q = cc
  trans (Node g1 a1) (Row g2 l2 r2) (Rough g3 l3 r3) p q = refl
  trans (Node g1 a1) (Row g2 l2 r2) (Row g3 l3 r3) p q = refl
  trans (Rough g1 l1 r1) (Node g2 a2) (Node g3 a3) p q = cc
  trans (Rough g1 l1 r1) (Node g2 a2) (Rough g3 l3 r3) p q = cc
  trans (Rough g1 l1 r1) (Node g2 a2) (Row g3 l3 r3) p q = refl
  trans (Rough g1 l1 r1) (Rough g2 l2 r2) (Node g3 a3) p q = cc
  trans (Rough g1 l1 r1) (Rough g2 l2 r2) (Rough g3 l3 r3) p q = ids_total.trans (l1, r1) (l2, r2) (l3, r3) p q
  trans (Rough g1 l1 r1) (Rough g2 l2 r2) (Row g3 l3 r3) p q = refl
  trans (Rough g1 l1 r1) (Row g2 l2 r2) (Node g3 a3) p q = cc
  trans (Rough g1 l1 r1) (Row g2 l2 r2) (Rough g3 l3 r3) p q = cc
  trans (Rough g1 l1 r1) (Row g2 l2 r2) (Row g3 l3 r3) p q = refl
  trans (Row g1 l1 r1) (Node g2 a2) (Node g3 a3) p q = cc
  trans (Row g1 l1 r1) (Node g2 a2) (Rough g3 l3 r3) p q = cc
  trans (Row g1 l1 r1) (Node g2 a2) (Row g3 l3 r3) p q = cc
  trans (Row g1 l1 r1) (Rough g2 l2 r2) (Node g3 a3) p q = cc
  trans (Row g1 l1 r1) (Rough g2 l2 r2) (Rough g3 l3 r3) p q = cc
  trans (Row g1 l1 r1) (Rough g2 l2 r2) (Row g3 l3 r3) p q = cc
  trans (Row g1 l1 r1) (Row g2 l2 r2) (Node g3 a3) p q = cc
  trans (Row g1 l1 r1) (Row g2 l2 r2) (Rough g3 l3 r3) p q = cc
  trans (Row g1 l1 r1) (Row g2 l2 r2) (Row g3 l3 r3) p q = ids_total.trans (l1, r1) (l2, r2) (l3, r3) p q

  congr : (x y z : Item N) → kind_cmp cmp x y ≡ Equal → kind_cmp cmp x z ≡ kind_cmp cmp y z
  congr (Node g1 a1) (Node g2 a2) (Node g3 a3) p = o.congr a1 a2 a3 p
  congr (Node g1 a1) (Node g2 a2) (Rough g3 l3 r3) p = refl
  congr (Node g1 a1) (Node g2 a2) (Row g3 l3 r3) p = refl
  congr (Node g1 a1) (Rough g2 l2 r2) (Node g3 a3) p = cc
  congr (Node g1 a1) (Rough g2 l2 r2) (Rough g3 l3 r3) p = cc
  congr (Node g1 a1) (Rough g2 l2 r2) (Row g3 l3 r3) p = cc
  congr (Node g1 a1) (Row g2 l2 r2) (Node g3 a3) p = cc
  congr (Node g1 a1) (Row g2 l2 r2) (Rough g3 l3 r3) p = cc
  congr (Node g1 a1) (Row g2 l2 r2) (Row g3 l3 r3) p = cc
  congr (Rough g1 l1 r1) (Node g2 a2) (Node g3 a3) p = cc
  congr (Rough g1 l1 r1) (Node g2 a2) (Rough g3 l3 r3) p = cc
  congr (Rough g1 l1 r1) (Node g2 a2) (Row g3 l3 r3) p = cc
  congr (Rough g1 l1 r1) (Rough g2 l2 r2) (Node g3 a3) p = refl
  congr (Rough g1 l1 r1) (Rough g2 l2 r2) (Rough g3 l3 r3) p = ids_total.congr (l1, r1) (l2, r2) (l3, r3) p
  congr (Rough g1 l1 r1) (Rough g2 l2 r2) (Row g3 l3 r3) p = refl
  congr (Rough g1 l1 r1) (Row g2 l2 r2) (Node g3 a3) p = cc
  congr (Rough g1 l1 r1) (Row g2 l2 r2) (Rough g3 l3 r3) p = cc
  congr (Rough g1 l1 r1) (Row g2 l2 r2) (Row g3 l3 r3) p = cc
  congr (Row g1 l1 r1) (Node g2 a2) (Node g3 a3) p = cc
  congr (Row g1 l1 r1) (Node g2 a2) (Rough g3 l3 r3) p = cc
  congr (Row g1 l1 r1) (Node g2 a2) (Row g3 l3 r3) p = cc
  congr (Row g1 l1 r1) (Rough g2 l2 r2) (Node g3 a3) p = cc
  congr (Row g1 l1 r1) (Rough g2 l2 r2) (Rough g3 l3 r3) p = cc
  congr (Row g1 l1 r1) (Rough g2 l2 r2) (Row g3 l3 r3) p = cc
  congr (Row g1 l1 r1) (Row g2 l2 r2) (Node g3 a3) p = refl
  congr (Row g1 l1 r1) (Row g2 l2 r2) (Rough g3 l3 r3) p = refl
  congr (Row g1 l1 r1) (Row g2 l2 r2) (Row g3 l3 r3) p = ids_total.congr (l1, r1) (l2, r2) (l3, r3) p

  -- the order among items of equal gap is total
  pub kind_total : IsTotalOrder (kind_cmp cmp)
  kind_total = record { antisymm = antisymm; trans = trans; congr = congr }
