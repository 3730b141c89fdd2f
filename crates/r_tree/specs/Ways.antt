-- The ways down to a box in an R-tree, and how many nodes they pass.
use Rattle.std.specs.Prelude.{ℕ, zero, suc, List, cond}
use Rattle.std.specs.List.{sum_by}
use Rattle.sand_base.specs.declared.rect.Rect.{Rect}
use Rattle.code_btree.specs.Tree.{Store}
use Rattle.r_tree.specs.declared.entry.NodeEntry.{NodeEntry}
use Rattle.r_tree.specs.Entry.{box_of, covers}
use Rattle.r_tree.specs.Tree.{entries_at}

-- how many nodes under the entries of a node have rectangles that hold the box, all the way down
abbrev pub ways_below : Store → ℕ → List NodeEntry → Rect → ℕ
ways_below m zero es box = 0
ways_below m (suc level) es box = sum_by (λ e. cond (covers (box_of e.rough) box) (suc (ways_below m level (entries_at m e.child) box)) 0) es

-- the same, with page n at the top
abbrev pub ways_under : Store → ℕ → ℕ → Rect → ℕ
ways_under m level n box = suc (ways_below m level (entries_at m n) box)
