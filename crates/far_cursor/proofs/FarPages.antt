-- A call of a cursor, over whatever pages the disk tells.
use Rattle.std.proofs.Common.{◌≡◌, ◌+◌, List, Option, None, Some, IfSome, Ok, Err, Ordering}
use Rattle.sand_base.specs.declared.visit.Visit.{Visit}
use Rattle.z_code.specs.declared.block.Block.{Block}
use Rattle.page_pool.specs.Disk.{PageMap}
use Rattle.page_pool.specs.declared.fault.PageFault.{PageFault}
use Rattle.sand_store.specs.Standing.{TableStands}
use Rattle.sand_store.specs.declared.column.FileShapes.{FileShapes}
use Rattle.best_first.specs.Frontier.{Stands}
use Rattle.best_first.specs.Visits.{SearchState, GivesNext, MakesVisits}
use Rattle.best_first.specs.declared.hit.Hit.{Hit}
use Rattle.best_first.specs.declared.item.Item.{Item}
use Rattle.rank_cursor.specs.Ranking.{rank_meaning}
use Rattle.far_cursor.specs.FarAnswer.{IsTurned, FarVisits}
use Rattle.far_cursor.specs.FarCursor.{shapes_in, far_in, FarStands, GivesFarthest}
use Rattle.far_cursor.specs.FarLaws.{IsLawfulFarOver}
use Rattle.far_cursor.specs.declared.far_tree.FarTree.{FarTree}
use Rattle.far_cursor.proofs.FarCalls.{row_far, end_far, fault_far, row_visits, end_visits, fault_visits}

-- the laws of the search over a column
abbrev pub LawsOf : FarTree FileShapes → Type 0
LawsOf tree = IsLawfulFarOver (shapes_in tree.shapes) (λ m. TableStands m tree.shapes.schema tree.shapes.file) (tree.shapes.file.tree.height + 1) tree.pmr tree.goal

module _ (tree : FarTree FileShapes) (cmp : Block → Block → Ordering) (note : Item Block → Visit) (old new : SearchState Block) where
  -- what is visited, whatever was taken before
  abbrev pub Visits : Rattle.std.specs.Prelude.Result (Option Hit) PageFault → PageMap → Type 0
  Visits result p = (done : List (Item Block)) → Stands cmp (rank_meaning (far_in tree p)) old.held old.last done → FarVisits cmp (rank_meaning (far_in tree p)) note tree.goal done old new result

  pub row_rows : (pages : Option PageMap) (key hit : Hit) → LawsOf tree → IsTurned key hit → new.last ≡ Some key → IfSome pages (FarStands cmp tree old.held old.last)
      → IfSome pages (λ p. GivesNext (rank_meaning (far_in tree p)) old.last (Ok (Some key))) → IfSome pages (GivesFarthest tree old.last new.last (Ok (Some hit)))
  row_rows None key hit laws turned last stands next = tt
  row_rows (Some p) key hit laws turned last stands next =
      row_far (shapes_in tree.shapes) (λ m. TableStands m tree.shapes.schema tree.shapes.file) (tree.shapes.file.tree.height + 1) tree.pmr tree.goal p
      (laws p stands.0.readable.0 stands.0.readable.1) old.last key hit new.last next turned last

  pub row_noted : (pages : Option PageMap) (key hit : Hit) → IsTurned key hit → IfSome pages (λ p. GivesNext (rank_meaning (far_in tree p)) old.last (Ok (Some key)))
      → IfSome pages (λ p. MakesVisits cmp (rank_meaning (far_in tree p)) note old new (Ok (Some key))) → IfSome pages (Visits (Ok (Some hit)))
  row_noted None key hit turned next visits = tt
  row_noted (Some p) key hit turned next visits =
      row_visits (shapes_in tree.shapes) (λ m. TableStands m tree.shapes.schema tree.shapes.file) (tree.shapes.file.tree.height + 1) tree.pmr tree.goal p cmp note old new key hit next turned visits

  pub end_rows : (pages : Option PageMap) → LawsOf tree → new.last ≡ old.last → IfSome pages (FarStands cmp tree old.held old.last)
      → IfSome pages (λ p. GivesNext (rank_meaning (far_in tree p)) old.last (Ok None)) → IfSome pages (GivesFarthest tree old.last new.last (Ok None))
  end_rows None laws last stands next = tt
  end_rows (Some p) laws last stands next =
      end_far (shapes_in tree.shapes) (λ m. TableStands m tree.shapes.schema tree.shapes.file) (tree.shapes.file.tree.height + 1) tree.pmr tree.goal p
      (laws p stands.0.readable.0 stands.0.readable.1) old.last new.last next last

  pub end_noted : (pages : Option PageMap) → IfSome pages (λ p. MakesVisits cmp (rank_meaning (far_in tree p)) note old new (Ok None)) → IfSome pages (Visits (Ok None))
  end_noted None visits = tt
  end_noted (Some p) visits =
      end_visits (shapes_in tree.shapes) (λ m. TableStands m tree.shapes.schema tree.shapes.file) (tree.shapes.file.tree.height + 1) tree.pmr tree.goal p cmp note old new visits

  pub fault_rows : (pages : Option PageMap) (fault : PageFault) → new.last ≡ old.last → IfSome pages (GivesFarthest tree old.last new.last (Err fault))
  fault_rows None fault last = tt
  fault_rows (Some p) fault last =
      fault_far (shapes_in tree.shapes) (λ m. TableStands m tree.shapes.schema tree.shapes.file) (tree.shapes.file.tree.height + 1) tree.pmr tree.goal p fault old.last new.last last

  pub fault_noted : (pages : Option PageMap) (fault : PageFault) → IfSome pages (λ p. MakesVisits cmp (rank_meaning (far_in tree p)) note old new (Err fault)) → IfSome pages (Visits (Err fault))
  fault_noted None fault visits = tt
  fault_noted (Some p) fault visits =
      fault_visits (shapes_in tree.shapes) (λ m. TableStands m tree.shapes.schema tree.shapes.file) (tree.shapes.file.tree.height + 1) tree.pmr tree.goal p cmp note old new fault visits
