-- What the code does to what is queued at the distance 0, where it opens a place of the tree.
use Rattle.std.specs.Prelude.{◌≡◌, ℕ, ◌<◌, ◌^◌, ◌++◌, List, [], ◌∷◌, length, flat_map, All}
use Rattle.std.specs.List.{AllZip}
use Rattle.sand_base.specs.declared.goal.Goal.{Goal}
use Rattle.z_code.specs.declared.block.Block.{Block}
use Rattle.pmr_tree.specs.declared.listed.Listed.{Listed}
use Rattle.best_first.specs.Item.{IsAlike}
use Rattle.best_first.specs.declared.item.Item.{Item}
use Rattle.best_first.specs.RowsAtZero.{zero_gap}
use Rattle.best_first.specs.ZeroItems.{ZeroItems, OpensNode}
use Rattle.rank_cursor.specs.Cursor.{entry_found}

-- each id of a list is below the bound
abbrev pub HaveBits : ℕ → List Listed → Type 0
HaveBits below list = All (λ l. l.id < below) list

-- what the list of a leaf at the distance 0 gives
abbrev pub list_found : Goal → List Listed → List (Item Block)
list_found goal list = flat_map (λ l. entry_found goal zero_gap l.id l.rough) list

-- Of items that stand for what the place gives, those at the distance 0 take the place of the block.
pub record OpensPlace (block : Block) (gives : List (Item Block)) (old new : ZeroItems Block) : Type 0 where
  pub found : List (Item Block)
  pub alike : AllZip IsAlike found gives
  pub few : length found < 2 ^ 64
  pub opens : (rest : List Block) → old.nodes ≡ rest ++ block ∷ [] → OpensNode rest found old new
