-- What a place gives at the distance 0 takes the place of its block as the ranking has it.
use Rattle.std.proofs.Common.{◌≡◌, ℕ, ◌<◌, List, [], ◌∷◌, ◌++◌, Option, IfSome, refl, lit<}
use Rattle.sand_base.specs.Plane.{IsGoalInClosedPlane}
use Rattle.sand_base.specs.declared.TheConstants.{COORDINATE_BITS}
use Rattle.sand_base.specs.declared.goal.Goal.{Goal}
use Rattle.sand_base.specs.declared.shape.Shape.{Shape}
use Rattle.z_code.specs.declared.block.Block.{Block}
use Rattle.page_pool.specs.Desk.{DeskState}
use Rattle.page_pool.specs.Disk.{PageMap}
use Rattle.page_pool.specs.Pool.{IsTold}
use Rattle.pmr_tree.specs.Calls.{HasRoughs}
use Rattle.pmr_tree.specs.Calls as pmr
use Rattle.pmr_tree.specs.Laws.{AreInPlane}
use Rattle.pmr_tree.specs.Quadtree.{tree_at}
use Rattle.pmr_tree.specs.declared.listed.Node.{Node as Place}
use Rattle.pmr_tree.specs.declared.listed.Node.TheVariants as place
use Rattle.pmr_tree.specs.declared.quadtree.Pmr.{Pmr}
use Rattle.best_first.specs.Hierarchy.{Meaning, FindsAlike}
use Rattle.best_first.specs.Visits.{told_pages}
use Rattle.best_first.specs.OpensAs.{OpensAs}
use Rattle.best_first.specs.RowsAtZero.{zero_gap}
use Rattle.best_first.specs.ZeroItems.{ZeroItems}
use Rattle.rank_cursor.specs.AtZero.{OpensPlace}
use Rattle.rank_cursor.specs.Cursor.{ranking_over, block_weight, place_found}
use Rattle.rank_cursor.specs.Ranking.{rank_meaning}
use Rattle.rank_cursor.proofs.AtZeroEntries.{nothing_took}
use Rattle.rank_cursor.proofs.SearchPages.{found_falls, nothing_falls}
use Rattle.rank_cursor.proofs.Searching.{Asks, found_ok}

module _ (rows : PageMap → List (ℕ × Shape)) (Stands : PageMap → Type 0) (price : ℕ) (t : Pmr) (goal : Goal) (ceiling : Option ℕ)
    (in_plane : (p : PageMap) → Stands p → AreInPlane (rows p)) (plane : IsGoalInClosedPlane goal) where
  abbrev m : PageMap → Meaning Block
  m p = rank_meaning (ranking_over rows Stands price t goal ceiling p)

  -- a node that finds nothing leaves, and nothing takes its place
  pub opens_nothing : (d : DeskState) (b : Block) → IfSome (told_pages d) (λ p. FindsAlike ((m p).finds b) [] []) → (old new : ZeroItems Block)
      → ((node : Block) (rest : List Block) → old.nodes ≡ rest ++ node ∷ [] → new ≡ record old { nodes = rest }) → OpensAs block_weight m (told_pages d) b old new
  opens_nothing d b finds old new taken = record {
    found = [];
    alike = finds;
    falls = nothing_falls b [];
    few = lit< tt;
    opens = λ rest is. nothing_took rest old new (taken b rest is);
  }

  -- what stands for what a place gives stands for what the ranking finds at the block
  pub opens_place : (d : DeskState) (b : Block) → Asks rows Stands price t goal ceiling in_plane plane d b zero_gap → (found : Place) → (IsTold d.pool → pmr.FindsPlace (tree_at d.pool.pages t) b found)
      → (IsTold d.pool → HasRoughs d.pool.pages t found) → (found ≡ place.Inner → b.level < COORDINATE_BITS) → (old new : ZeroItems Block)
      → OpensPlace b (place_found goal zero_gap b found) old new → OpensAs block_weight m (told_pages d) b old new
  opens_place d b asks found finds roughs above old new h =
      let alike : FindsAlike (place_found goal zero_gap b found) [] h.found = record { found = h.found; adds = refl; alike = h.alike } in
      record {
        found = h.found;
        alike = found_ok rows Stands price t goal ceiling in_plane plane d b zero_gap asks found finds roughs [] h.found alike;
        falls = found_falls goal zero_gap b found above [] h.found alike;
        few = h.few;
        opens = h.opens;
      }
