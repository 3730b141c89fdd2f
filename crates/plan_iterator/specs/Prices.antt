-- What a call of a source costs in page gets: the price of each visit that it noted, by the heights of B-trees and by what the leaves list, and the price of a step.
use Rattle.std.specs.Prelude.{◌≡◌, ℕ, ◌+◌, ◌≤◌, ◌&&◌, nat_eq, List, length, ◌++◌, find, option_map, sum_by, Option, Some, Result, Ok, Err}
use Rattle.sand_base.specs.declared.visit.Visit.{Visit}
use Rattle.sand_base.specs.declared.visit.Visit.TheVariants as visit
use Rattle.page_pool.specs.Desk.{DeskState}
use Rattle.page_pool.specs.declared.fault.PageFault.{PageFault}
use Rattle.sand_model.specs.Database.{Database}
use Rattle.statements.specs.Plan as plan
use Rattle.statements.specs.Plan.{Plan}
use Rattle.sand_model.specs.Price.{block_price, pair_price, tuple_price, two_tuples_price}
use Rattle.sand_model.specs.Reach.{quadtree_of, innermost}
use Rattle.sand_model.specs.Tree.{Tree, Leaf, places, root_block}

-- The heights of the B-trees that a source reads: of the index of its column and of the file of its rows, and for a join of those of the right column too.
pub record Heights : Type 0 where
  pub index : ℕ
  pub rows : ℕ
  pub right_index : ℕ
  pub right_rows : ℕ

-- how many ids a place lists: those of a leaf, and none of an inner place
abbrev pub ids_of_place : Option Tree → ℕ
ids_of_place (Some (Leaf ids)) = length ids
ids_of_place place = 0

-- how many ids the place of a tree at a block lists
abbrev pub listed_at : Tree → ℕ → ℕ → ℕ
listed_at tree z level =
    ids_of_place (option_map (λ place. place.1) (find (λ place. nat_eq z place.0.z && nat_eq level place.0.level) (places root_block tree)))

-- a visit of a ranking of a column with this quadtree
abbrev pub rank_visit_price : Heights → Tree → Visit → ℕ
rank_visit_price h tree (visit.Block number z level) = block_price h.index (listed_at tree z level)
rank_visit_price h tree (visit.Geometry id) = tuple_price h.rows
rank_visit_price h tree _ = 0

-- a visit of a join of two columns with these quadtrees
abbrev pub join_visit_price : Heights → Tree → Tree → Visit → ℕ
join_visit_price h left right (visit.Pair b c) = pair_price h.index (listed_at left b.1 b.2) h.right_index (listed_at right c.1 c.2)
join_visit_price h left right (visit.GeometryPair l r) = two_tuples_price h.rows h.right_rows
join_visit_price h left right _ = 0

-- a visit of a ranking by an R-tree: a node costs one page get
abbrev pub near_visit_price : Heights → Visit → ℕ
near_visit_price h (visit.Tree number page) = 1
near_visit_price h (visit.Geometry id) = tuple_price h.rows
near_visit_price h _ = 0

-- a visit of a source; a scan and a pick make none
abbrev pub source_visit_price : Heights → Database → Plan → Visit → ℕ
source_visit_price h d (plan.Rank column goal within) v = rank_visit_price h (quadtree_of d column) v
source_visit_price h d (plan.Near column goal within) v = near_visit_price h v
source_visit_price h d (plan.Window column window) v = rank_visit_price h (quadtree_of d column) v
source_visit_price h d (plan.Join left right within) v = join_visit_price h (quadtree_of d left) (quadtree_of d right) v
source_visit_price h d (plan.Semi left right within) v = join_visit_price h (quadtree_of d left) (quadtree_of d right) v
source_visit_price h d (plan.Knn k left right within) v = join_visit_price h (quadtree_of d left) (quadtree_of d right) v
source_visit_price h d _ v = 0

-- a visit of a plan's source
abbrev pub visit_price : Heights → Database → Plan → Visit → ℕ
visit_price h d p v = source_visit_price h d (innermost p) v

-- what is left to pay after a call, and nothing after a refusal
abbrev pub unless_refused : {T : Type 0} → Result T PageFault → ℕ → ℕ
unless_refused (Ok x) n = n
unless_refused (Err fault) n = 0

-- A call made no more gets than the price of the visits that it noted and of one step, and so many as it owed less than before.
pub record Costs {T : Type 0} (h : Heights) (step owed left : ℕ) (d : Database) (p : Plan) (old new : DeskState) (result : Result T PageFault) : Type 0 where
  pub noted : List Visit
  pub log : new.visits ≡ old.visits ++ noted
  pub most : new.pool.gets + unless_refused result left ≤ old.pool.gets + owed + step + sum_by (visit_price h d p) noted
