-- A call of a ranking as a source, over whatever pages the disk tells.
use Rattle.std.proofs.Common.{◌≡◌, ℕ, List, Option, None, Some, IfSome, Result, Ok, Err, sym, subst}
use Rattle.std.specs.Prelude.{⊤}
use Rattle.std.specs.Cmp.{IsTotalOrder, nat_cmp_total, on_total, then_total}
use Rattle.z_code.specs.declared.block.Block.{Block}
use Rattle.page_pool.specs.Disk.{PageMap}
use Rattle.page_pool.specs.declared.fault.PageFault.{PageFault}
use Rattle.sand_model.specs.Database.{Database}
use Rattle.statements.specs.Plan.{Plan}
use Rattle.sand_model.specs.Taken.{Taken}
use Rattle.sand_store.specs.declared.column.FileShapes.{FileShapes}
use Rattle.best_first.specs.Frontier.{StandsOver}
use Rattle.best_first.specs.Visits.{SearchState, MakesVisits, GivesNext}
use Rattle.best_first.specs.declared.hit.Hit.{Hit}
use Rattle.best_first.specs.declared.item.Item.{Item}
use Rattle.best_first.specs.WithinZero.{StandsWithin}
use Rattle.rank_cursor.specs.declared.rank_tree.RankTree.{RankTree}
use Rattle.rank_cursor.specs.Cursor.{visit_of}
use Rattle.rank_cursor.specs.Ranking.{rank_meaning}
use Rattle.rank_cursor.proofs.RankingLaws.{rank_laws}
use Rattle.plan_iterator.specs.SourceSteps.{SourceStep}
use Rattle.plan_iterator.specs.declared.answer.Answer.{Answer}
use Rattle.plan_sources.specs.Rankings.{by_code, ranking_of, HasTaken}
use Rattle.plan_sources.proofs.SingleItems.{within_zero}
use Rattle.plan_sources.proofs.RankCalls.{TellsRow, counts_by, row_step, end_step, fault_step}

-- the order of blocks is total
blocks_total : IsTotalOrder by_code
blocks_total = then_total (on_total (λ (b : Block). b.z) nat_cmp_total) (on_total (λ (b : Block). b.level) nat_cmp_total)

-- a search by distance stands
pub stands_over : (pages : Option PageMap) (tree : RankTree FileShapes) (held : List (Item Block)) (last : Option Hit)
    → IfSome pages (λ m. ⊤ × StandsOver by_code (rank_meaning (ranking_of tree m)) held last) → IfSome pages (λ m. StandsOver by_code (rank_meaning (ranking_of tree m)) held last)
stands_over None tree held last h = tt
stands_over (Some m) tree held last h = h.1

-- where the ceiling is the distance 0 it stands within that
pub stands_within : (pages : Option PageMap) (tree : RankTree FileShapes) (held : List (Item Block)) (last : Option Hit)
    → IfSome pages (λ m. (tree.ceiling ≡ Some 0) × StandsOver by_code (rank_meaning (ranking_of tree m)) held last)
    → IfSome pages (λ m. StandsWithin by_code (rank_meaning (ranking_of tree m)) held last)
stands_within None tree held last h = tt
stands_within (Some m) tree held last h = (within_zero (ranking_of tree m) h.0, h.1)

module _ (number : ℕ) where
  -- where something was taken the search stands, and has its ceiling
  pub asked : (pages : Option PageMap) (ceiled : Type 0) (tree : RankTree FileShapes) (s : SearchState Block)
      → IfSome pages (λ m. (d : Database) × ((p : Plan) × ((t : Taken) × (ceiled × HasTaken by_code (ranking_of tree m) s.held s.last s.counts d p t))))
      → IfSome pages (λ m. ceiled × StandsOver by_code (rank_meaning (ranking_of tree m)) s.held s.last)
  asked None ceiled tree s h = tt
  asked (Some m) ceiled tree s (d, (p, (t, (k, h)))) = (k, (rank_laws (ranking_of tree m) h.sound, (h.done, h.stands)))

  -- what a call of the source does, over these pages: its search keeps its ceiling
  abbrev pub StepOver : Type 0 → Type 0 → RankTree FileShapes → RankTree FileShapes → SearchState Block → SearchState Block → Result (Option Answer) PageFault → PageMap → Type 0
  StepOver ceiled later tree after old new answer m =
      (d : Database) (p : Plan) (t : Taken) → ceiled × HasTaken by_code (ranking_of tree m) old.held old.last old.counts d p t
      → SourceStep m d p t (counts_by old.counts) (counts_by new.counts) old.desk new.desk answer (λ u. later × HasTaken by_code (ranking_of after m) new.held new.last new.counts d p u)

  -- a call of the search, with what holds of its ceiling
  with_ceiling : (ceiled later : Type 0) → (ceiled → later) → (tree : RankTree FileShapes) (old new : SearchState Block) (answer : Result (Option Answer) PageFault) (m : PageMap)
      → ((d : Database) (p : Plan) (t : Taken) → HasTaken by_code (ranking_of tree m) old.held old.last old.counts d p t
      → SourceStep m d p t (counts_by old.counts) (counts_by new.counts) old.desk new.desk answer (HasTaken by_code (ranking_of tree m) new.held new.last new.counts d p))
      → StepOver ceiled later tree tree old new answer m
  with_ceiling ceiled later keeps tree old new answer m step d p t (k, h) =
      let s = step d p t h in record { row = s.row; at = (keeps k, s.at); visits = s.visits }

  module _ (ceiled later : Type 0) (keeps : ceiled → later) where
    unchanged : (pages : Option PageMap) (tree after : RankTree FileShapes) (old new : SearchState Block) (answer : Result (Option Answer) PageFault) → after ≡ tree
        → IfSome pages (StepOver ceiled later tree tree old new answer) → IfSome pages (StepOver ceiled later tree after old new answer)
    unchanged pages tree after old new answer same h = subst (λ (x : RankTree FileShapes). IfSome pages (StepOver ceiled later tree x old new answer)) (sym same) h

    pub row_over : (pages : Option PageMap) (tree after : RankTree FileShapes) (old new : SearchState Block) (hit : Hit) (a : Answer) → after ≡ tree → TellsRow a hit → new.last ≡ Some hit
        → IfSome pages (λ m. GivesNext (rank_meaning (ranking_of tree m)) old.last (Ok (Some hit)))
        → IfSome pages (λ m. MakesVisits by_code (rank_meaning (ranking_of tree m)) (visit_of number) old new (Ok (Some hit)))
        → IfSome pages (StepOver ceiled later tree after old new (Ok (Some a)))
    row_over None tree after old new hit a same tells last next makes = tt
    row_over (Some m) tree after old new hit a same tells last next makes =
        unchanged (Some m) tree after old new (Ok (Some a)) same
        (with_ceiling ceiled later keeps tree old new (Ok (Some a)) m (λ d p t h. row_step blocks_total (ranking_of tree m) number m d p t old h new hit a tells next last makes))

    pub end_over : (pages : Option PageMap) (tree after : RankTree FileShapes) (old new : SearchState Block) → after ≡ tree → new.last ≡ old.last
        → IfSome pages (λ m. GivesNext (rank_meaning (ranking_of tree m)) old.last (Ok None))
        → IfSome pages (λ m. MakesVisits by_code (rank_meaning (ranking_of tree m)) (visit_of number) old new (Ok None))
        → IfSome pages (StepOver ceiled later tree after old new (Ok None))
    end_over None tree after old new same last next makes = tt
    end_over (Some m) tree after old new same last next makes =
        unchanged (Some m) tree after old new (Ok None) same
        (with_ceiling ceiled later keeps tree old new (Ok None) m (λ d p t h. end_step blocks_total (ranking_of tree m) number m d p t old h new next last makes))

    pub fault_over : (pages : Option PageMap) (tree after : RankTree FileShapes) (old new : SearchState Block) (fault : PageFault) → after ≡ tree → new.last ≡ old.last
        → IfSome pages (λ m. MakesVisits by_code (rank_meaning (ranking_of tree m)) (visit_of number) old new (Err fault))
        → IfSome pages (StepOver ceiled later tree after old new (Err fault))
    fault_over None tree after old new fault same last makes = tt
    fault_over (Some m) tree after old new fault same last makes =
        unchanged (Some m) tree after old new (Err fault) same
        (with_ceiling ceiled later keeps tree old new (Err fault) m (λ d p t h. fault_step blocks_total (ranking_of tree m) number m d p t old h new fault last makes))
