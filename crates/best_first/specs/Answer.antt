-- The answer of a ranked search: the rows within the ceiling by gap, left id and right id, and what comes next in it.
use Rattle.std.specs.Prelude.{◌≡◌, true, false, Option, None, Some, Contains, ⊤}
use Rattle.std.specs.Ordering.{on, then_cmp, is_gt}
use Rattle.std.specs.declared.cmp.Ordering.{Ordering}
use Rattle.std.specs.declared.cmp.Ordering.TheVariants.{Less}
use Rattle.exact_frac.specs.Frac.{value_cmp}
use Rattle.best_first.specs.declared.hit.Hit.{Hit}
use Rattle.best_first.specs.OrderLaws.{ids_cmp}
use Rattle.best_first.specs.Item.{IsSameRow}
use Rattle.best_first.specs.Reach.{within}
use Rattle.best_first.specs.Hierarchy.{Meaning}

-- the order of the answer: by gap, then by left id, then by right id
abbrev pub hit_cmp : Hit → Hit → Ordering
hit_cmp = then_cmp (on (λ hit. hit.gap) value_cmp) (on (λ hit. (hit.left, hit.right)) ids_cmp)

-- the row is in the answer
abbrev pub IsAnswer : {N : Type 0} → Meaning N → Hit → Type 0
IsAnswer m hit = Contains m.rows hit × (within m.ceiling hit.gap ≡ true)

-- the row comes after the last one that was given, if any was
abbrev pub IsLater : Option Hit → Hit → Type 0
IsLater None hit = ⊤
IsLater (Some last) hit = hit_cmp last hit ≡ Less

-- The row is the first of the answer after the last one given, with its ids and the value of its gap.
pub record IsNext {N : Type 0} (m : Meaning N) (last : Option Hit) (hit : Hit) : Type 0 where
  pub row : Hit
  pub same : IsSameRow row hit
  pub answer : IsAnswer m row
  pub later : IsLater last row
  pub first : (other : Hit) → IsAnswer m other → IsLater last other → is_gt (hit_cmp row other) ≡ false

-- no row of the answer comes after the last one given
abbrev pub IsExhausted : {N : Type 0} → Meaning N → Option Hit → Type 0
IsExhausted m last = (hit : Hit) → IsAnswer m hit → IsLater last hit → ⊥
