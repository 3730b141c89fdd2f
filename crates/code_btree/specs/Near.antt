-- Keys whose leaf is known without a descent, as the separators beside its path tell.
use Rattle.std.specs.Prelude.{ℕ, ◌-◌, ◌≤◌, ◌<◌}
use Rattle.code_btree.specs.declared.map.Tree.{Tree}
use Rattle.code_btree.specs.declared.near.Near.{Near}
use Rattle.code_btree.specs.Tree.{Store}
use Rattle.code_btree.specs.Between.{IsLeafFor}

-- the keys from `low` on and below `high` belong to this leaf under page n
abbrev pub IsNearUnder : Store → ℕ → ℕ → Near → Type 0
IsNearUnder m level n near = (key : ℕ) → near.low ≤ key → key < near.high → IsLeafFor m level n key near.page

-- the same of a tree
abbrev pub IsNear : Store → Tree → Near → Type 0
IsNear m t near = IsNearUnder m (t.height - 1) t.root near

-- a key belongs to this leaf under page n, and so do the keys from `low` on and below `high`
pub record IsFoundNear (m : Store) (level n key : ℕ) (near : Near) : Type 0 where
  pub here : IsLeafFor m level n key near.page
  pub around : IsNearUnder m level n near
