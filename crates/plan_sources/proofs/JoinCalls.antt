-- A call of a join as a source: what it gives, what it visits, and where the source stands then.
use Rattle.std.proofs.Common.{◌≡◌, ℕ, suc, ◌+◌, List, [], ◌∷◌, ◌++◌, true, false, Option, None, Some, option_map, Result, Ok, Err, refl, sym, ap, ◌∙◌, subst, Ordering}
use Rattle.std.proofs.Math.Numerals.{add-one}
use Rattle.std.specs.Cmp.{IsTotalOrder}
use Rattle.z_code.specs.declared.block.Block.{Block}
use Rattle.page_pool.specs.declared.fault.PageFault.{PageFault}
use Rattle.page_pool.specs.Disk.{PageMap}
use Rattle.sand_model.specs.Answer.{pair_row}
use Rattle.sand_model.specs.Database.{Database, element}
use Rattle.statements.specs.Plan as plan
use Rattle.statements.specs.Plan.{Plan}
use Rattle.statements.specs.declared.column.Column.{Column}
use Rattle.sand_model.specs.Reach.{Reach, reach}
use Rattle.sand_model.specs.Sources.{Found}
use Rattle.sand_model.specs.Taken.{Taken}
use Rattle.best_first.specs.Hierarchy.{Meaning}
use Rattle.best_first.specs.Visits.{SearchState, MakesVisits, CallVisits, GivesNext}
use Rattle.best_first.specs.declared.hit.Hit.{Hit}
use Rattle.best_first.specs.declared.item.Item.{Item}
use Rattle.rank_cursor.specs.Answers.{AreGiven, GivesList}
use Rattle.rank_cursor.proofs.SortedRows.{at_is}
use Rattle.dist_join.specs.Joining.{Joining, join_meaning}
use Rattle.dist_join.specs.OverPages.{pair_visit_of}
use Rattle.dist_join.proofs.JoinLaws.{join_laws}
use Rattle.dist_join.proofs.JoinedRows.{gives_joined}
use Rattle.plan_iterator.proofs.PlanMeasure.{plan_measure_is}
use Rattle.plan_iterator.specs.Rows.{plan_measure}
use Rattle.plan_iterator.specs.SourceSteps.{next_taken, SourceStep}
use Rattle.plan_iterator.specs.declared.answer.Answer.{Answer}
use Rattle.plan_sources.specs.Joins.{IsSideOf, pairs_in, counts_by, IsSearched, HasTakenPairs}
use Rattle.plan_sources.proofs.HowFar.{reach_from, CallReach, far_after}
use Rattle.plan_sources.proofs.NextReach.{more_taken, none_taken, next_reach}
use Rattle.plan_sources.proofs.PairCalls.{TellsPair, lowest_row, pair_is, taken_of_all, visits}
use Rattle.plan_sources.proofs.PairPlans.{IsTold, join_told}
use Rattle.plan_sources.proofs.Shorter.{element_past, element_map}
use Rattle.plan_sources.proofs.Unasked.{no_visits}

-- the ids of a pair
abbrev pub ids_of : Found → List ℕ
ids_of found = found.left ∷ found.right ∷ []

module _ {cmp : Block × Block → Block × Block → Ordering} (o : IsTotalOrder cmp) (j : Joining) (left right : ℕ) (pages : PageMap) (d : Database) (t : Taken)
    (one other : Column) (side : IsSideOf j.left d one) (side_too : IsSideOf j.right d other) where
  abbrev m : Meaning (Block × Block)
  m = join_meaning j

  abbrev rows : List Found
  rows = pairs_in j

  abbrev p : Plan
  p = plan.Join one other j.ceiling

  -- the reach of what is taken with the next call
  abbrev to : Reach
  to = reach plan_measure d p (next_taken d p t)

  told : IsTold d p rows j
  told = join_told j d one other side side_too

  to_is : to ≡ reach_from m.ceiling (element rows t.rows)
  to_is = next_reach d p t ids_of rows told.rows_are refl (element rows t.rows) refl

  -- the source as a search has it, when so much was taken
  abbrev Standing : SearchState (Block × Block) → Taken → Type 0
  Standing s u = HasTakenPairs cmp j s.held s.last s.counts d p u

  abbrev Step : SearchState (Block × Block) → SearchState (Block × Block) → Result (Option Answer) PageFault → Type 0
  Step old new answer = SourceStep pages d p t (counts_by old.counts) (counts_by new.counts) old.desk new.desk answer (Standing new)

  module _ (old : SearchState (Block × Block)) (h : IsSearched cmp j old.held old.last old.counts) (given : AreGiven rows t.rows old.last) where
    gives : GivesList m rows
    gives = gives_joined j h.sound plan_measure plan_measure_is

    module _ (new : SearchState (Block × Block)) (result : Result (Option Hit) PageFault) (next : GivesNext m old.last result)
        (call : CallVisits cmp m (pair_visit_of left right) h.done old new result) where
      abbrev all : List (Item (Block × Block))
      all = h.done ++ call.makes.taken

      reached : CallReach cmp m to result call.attempt all
      reached = subst (λ x. CallReach cmp m x result call.attempt all) (sym to_is)
          (far_after m rows gives t.rows old.last given result new.held new.last call.attempt all next call.makes.stands call.bounds)

      -- the source when so much was taken after the call
      stands_at : (u : Taken) → AreGiven rows u.rows new.last → Standing new u
      stands_at u rows_given = record {
        left = one;
        right = other;
        is = refl;
        left_side = side;
        right_side = side_too;
        searched = record { sound = h.sound; done = all; stands = call.makes.stands; counted = call.makes.counted h.counted };
        rows = rows_given;
      }

    pub row_step : (new : SearchState (Block × Block)) (hit : Hit) (a : Answer) → TellsPair a hit → GivesNext m old.last (Ok (Some hit)) → new.last ≡ Some hit
        → MakesVisits cmp m (pair_visit_of left right) old new (Ok (Some hit)) → Step old new (Ok (Some a))
    row_step new hit a tells next last makes =
        let call = makes h.done h.stands in
        let (found, here, same) = gives.next t.rows old.last hit given next in
        let far = reached new (Ok (Some hit)) next call in
        let gap = lowest_row j found (at_is rows t.rows found here) hit same.0 in
        let rows_given : AreGiven rows (t.rows + 1) new.last =
        subst (λ n. AreGiven rows n new.last) (sym (add-one t.rows)) (subst (AreGiven rows (suc t.rows)) (sym last) (found, here, same)) in
        record {
          row = ap (λ l. element l t.rows) told.rows_are ∙ element_map pair_row rows t.rows ∙ ap (option_map pair_row) here ∙ ap (λ x. Some x) (pair_is a found hit tells gap same.1 same.2);
          at = subst (Standing new) (sym (more_taken d p t ids_of rows told.rows_are found here)) (stands_at new (Ok (Some hit)) next call (record { rows = t.rows + 1; is_ended = false }) rows_given);
          visits = visits o j h.sound side.few side_too.few left right pages d p t rows told old new h.done h.stands.tracks h.counted call.attempt
              (taken_of_all call.makes) (Ok (Some hit)) far (Ok (Some a)) far.exact;
        }

    pub end_step : (new : SearchState (Block × Block)) → GivesNext m old.last (Ok None) → new.last ≡ old.last → MakesVisits cmp m (pair_visit_of left right) old new (Ok None) → Step old new (Ok None)
    end_step new over last makes =
        let call = makes h.done h.stands in
        let none : element rows t.rows ≡ None = ap (element rows) (gives.over t.rows old.last given over) ∙ element_past rows in
        let far = reached new (Ok None) over call in
        record {
          row = ap (λ l. element l t.rows) told.rows_are ∙ element_map pair_row rows t.rows ∙ ap (option_map pair_row) none;
          at = subst (Standing new) (sym (none_taken d p t ids_of rows told.rows_are none))
              (stands_at new (Ok None) over call (record { rows = t.rows; is_ended = true }) (subst (AreGiven rows t.rows) (sym last) given));
          visits = visits o j h.sound side.few side_too.few left right pages d p t rows told old new h.done h.stands.tracks h.counted call.attempt
              (taken_of_all call.makes) (Ok None) far (Ok None) far.exact;
        }

    pub fault_step : (new : SearchState (Block × Block)) (fault : PageFault) → new.last ≡ old.last → MakesVisits cmp m (pair_visit_of left right) old new (Err fault) → Step old new (Err fault)
    fault_step new fault last makes =
        let call = makes h.done h.stands in
        let far = reached new (Err fault) tt call in record {
          row = tt;
          at = stands_at new (Err fault) tt call t (subst (AreGiven rows t.rows) (sym last) given);
          visits = visits o j h.sound side.few side_too.few left right pages d p t rows told old new h.done h.stands.tracks h.counted call.attempt
              (taken_of_all call.makes) (Err fault) far (Err fault) tt;
        }

    -- the search wasn't asked
    pub still_step : (fault : PageFault) → Step old old (Err fault)
    still_step fault = fault_step old fault refl (no_visits o m (join_laws j h.sound) (pair_visit_of left right) old fault)
