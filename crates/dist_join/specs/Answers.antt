-- What a join visits, as many as the model counts.
use Rattle.std.specs.Prelude.{◌≡◌, List, length, filter}
use Rattle.z_code.specs.declared.block.Block.{Block}
use Rattle.sand_model.specs.Measure.{Measure}
use Rattle.sand_model.specs.Nodes.{PairNode, pair_nodes, pair_gap, join_items}
use Rattle.sand_model.specs.Reach.{Reach, reaches, roughs_within}
use Rattle.sand_model.specs.Tree.{root_block}
use Rattle.best_first.specs.Item.{nodes_of, roughs_of}
use Rattle.best_first.specs.declared.item.Item.{Item}
use Rattle.dist_join.specs.Joining.{Side}

-- the pairs of places of the trees of both sides
abbrev pub all_pairs : Side → Side → List PairNode
all_pairs left right = pair_nodes root_block left.tree root_block right.tree

-- What was taken counts as the model says at this reach: the pairs of places within it, and the rough pairs of objects with each of their gaps.
pub record CountsAsJoin (gap : Measure) (left right : Side) (to : Reach) (done : List (Item (Block × Block))) : Type 0 where
  pub pairs : length (nodes_of done) ≡ length (filter (λ node. reaches to (pair_gap gap node)) (all_pairs left right))
  pub geometries : length (roughs_of done) ≡ length (roughs_within to (join_items gap left.shapes right.shapes (all_pairs left right)))
