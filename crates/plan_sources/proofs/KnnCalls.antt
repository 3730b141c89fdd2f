-- A call of a join of k partners as a source: what it gives, what it visits, and where the source stands then.
use Rattle.std.proofs.Common.{◌≡◌, ℕ, zero, suc, ◌+◌, ◌*◌, ◌-◌, ◌≤◌, ◌<◌, min, Bool, true, false, cond, not, ◌&&◌, true≢false, List, [], ◌∷◌, ◌++◌, map, length, take}
use Rattle.std.proofs.Common.{drop, Contains, ◌⊎◌, inl, inr, ⊎_elim, Option, None, Some, IfSome, option_map, Result, Ok, Err, OnOk, All, refl, sym, ap, ap₂, ◌∙◌, subst}
use Rattle.std.proofs.Common.{arith, append-nil, Ordering}
use Rattle.std.specs.Prelude.{nat_eq}
use Rattle.std.proofs.Math.Numerals.{add-one}
use Rattle.std.proofs.lemmas.Bool.{ne_eqb, eq-eqb}
use Rattle.std.proofs.lemmas.List.{length-map}
use Rattle.std.specs.Cmp.{IsTotalOrder}
use Rattle.sand_base.specs.declared.visit.Visit.{Visit}
use Rattle.sand_base.specs.declared.shape.Shape.{Shape}
use Rattle.z_code.specs.declared.block.Block.{Block}
use Rattle.page_pool.specs.Disk.{PageMap}
use Rattle.page_pool.specs.declared.fault.PageFault.{PageFault}
use Rattle.sand_model.specs.Answer.{source, pair_row}
use Rattle.sand_model.specs.Database.{Database, element}
use Rattle.statements.specs.Plan as plan
use Rattle.statements.specs.Plan.{Plan}
use Rattle.statements.specs.declared.column.Column.{Column}
use Rattle.sand_model.specs.Reach.{Reach, Counts, Ceiling, reach, reach_of_last, counts_at, is_saturated}
use Rattle.sand_model.specs.Sources.{Found, nearest_of, column_shapes}
use Rattle.sand_model.specs.Taken.{Taken}
use Rattle.best_first.specs.Hierarchy.{Meaning}
use Rattle.best_first.specs.Visits.{SearchState, MakesVisits as SearchVisits}
use Rattle.best_first.specs.declared.hit.Hit.{Hit}
use Rattle.best_first.specs.declared.item.Item.{Item}
use Rattle.best_first.proofs.Bags.{here, there, cons_cases, none, All-by, from_filter}
use Rattle.best_first.proofs.Gaps.{same_back}
use Rattle.best_first.proofs.Journeys.{stays}
use Rattle.rank_cursor.proofs.SortedRows.{at_is, at_below}
use Rattle.semi_join.specs.Listed.{ListsAnswer, TakesFirst}
use Rattle.knn_join.specs.Listed.{partners_left}
use Rattle.knn_join.specs.PartnerCounts.{PartnerCounts, gives_to}
use Rattle.knn_join.specs.Standing.{AreCountedUpTo}
use Rattle.knn_join.specs.Visits.{PartnerVisits, MakesPartnerVisits}
use Rattle.knn_join.proofs.Bounds.{fault_visits}
use Rattle.knn_join.proofs.Counting.{none_waits}
use Rattle.dist_join.specs.Joining.{Joining, join_meaning}
use Rattle.dist_join.specs.OverPages.{pair_visit_of}
use Rattle.dist_join.proofs.JoinLaws.{join_laws}
use Rattle.dist_join.proofs.JoinedRows.{lists_joined}
use Rattle.plan_iterator.proofs.PlanMeasure.{plan_measure_is}
use Rattle.plan_iterator.proofs.VisitCounts.{plus_none}
use Rattle.plan_iterator.specs.Rows.{plan_measure}
use Rattle.plan_iterator.specs.SourceSteps.{next_taken, counts_taken, SourceStep, MakesVisits as SourceVisits}
use Rattle.plan_iterator.specs.Visited.{LiesWithin}
use Rattle.plan_iterator.specs.declared.answer.Answer.{Answer}
use Rattle.plan_sources.specs.Joins.{IsSideOf, pairs_in, counts_by, IsSearched, HasTakenPartners}
use Rattle.plan_sources.proofs.HowFar.{reach_from, CallReach}
use Rattle.plan_sources.proofs.NextReach.{more_taken, none_taken, next_reach, last_reach, found_row}
use Rattle.plan_sources.proofs.PartnersLeft.{given_next, none_next, far_after}
use Rattle.plan_sources.proofs.JoinCalls.{ids_of}
use Rattle.plan_sources.proofs.PairCalls.{TellsPair, lowest_row, pair_is, taken_of_all, visits}
use Rattle.plan_sources.proofs.PairPlans.{IsTold, knn_told}
use Rattle.plan_sources.proofs.Shorter.{past_all, element_map}
use Rattle.plan_sources.proofs.Unasked.{no_visits}

module _ {cmp : Block × Block → Block × Block → Ordering} (o : IsTotalOrder cmp) (j : Joining) (left right : ℕ) (pages : PageMap) (d : Database) (t : Taken) (counts : PartnerCounts)
    (one other : Column) (side : IsSideOf j.left d one) (side_too : IsSideOf j.right d other) where
  abbrev m : Meaning (Block × Block)
  m = join_meaning j

  abbrev rows : List Found
  rows = nearest_of counts.most (pairs_in j)

  abbrev p : Plan
  p = plan.Knn counts.most one other j.ceiling

  -- the most rows that the join can have
  abbrev most_rows : ℕ
  most_rows = length j.left.shapes * min counts.most (length j.right.shapes)

  -- the reach of what is taken with the next call
  abbrev to : Reach
  to = reach plan_measure d p (next_taken d p t)

  told : IsTold d p rows j
  told = knn_told counts.most j d one other side side_too

  long : length (source plan_measure d p) ≡ length rows
  long = ap length told.rows_are ∙ length-map rows (found_row ids_of)

  most_are : length (column_shapes d one) * min counts.most (length (column_shapes d other)) ≡ most_rows
  most_are = ap₂ (λ (l r : List (ℕ × Shape)). length l * min counts.most (length r)) side.shapes side_too.shapes

  -- a row is still to come, or the end
  row_reach : (found : Found) → element rows t.rows ≡ Some found → to ≡ reach_from j.ceiling (Some found)
  row_reach found e =
      ap (reach plan_measure d p) (more_taken d p t ids_of rows told.rows_are found e)
      ∙ ap (λ l. reach_of_last (take (t.rows + 1) l)) told.rows_are
      ∙ ap (λ n. reach_of_last (take n (map (found_row ids_of) rows))) (add-one t.rows)
      ∙ last_reach ids_of rows t.rows found e

  end_reach : t.rows < most_rows → element rows t.rows ≡ None → to ≡ reach_from j.ceiling None
  end_reach below e =
      let past = past_all rows t.rows e in
      let few : length (source plan_measure d p) ≡ length (column_shapes d one) * min counts.most (length (column_shapes d other)) → ⊥ = λ same.
      let all : length (source plan_measure d p) ≡ most_rows = same ∙ most_are in
      omega (arith, past, below, long, all) in
      next_reach d p t ids_of rows told.rows_are
      (ne_eqb (length (source plan_measure d p)) (length (column_shapes d one) * min counts.most (length (column_shapes d other))) few) None e

  to_is : t.rows < most_rows → to ≡ reach_from m.ceiling (element rows t.rows)
  to_is below =
      let go : (o : Option Found) → element rows t.rows ≡ o → to ≡ reach_from j.ceiling o =
      elim [ None ↦ λ e. end_reach below e | Some found ↦ λ e. row_reach found e ] in
      go (element rows t.rows) refl

  -- where each left row was given all that it can have the source keeps the reach of its last row
  kept_reach : length rows ≡ most_rows → element rows t.rows ≡ None → to ≡ reach_of_last (take t.rows (source plan_measure d p))
  kept_reach full e =
      let same : is_saturated d p (source plan_measure d p) ≡ true =
      eq-eqb (length (source plan_measure d p)) (length (column_shapes d one) * min counts.most (length (column_shapes d other))) (long ∙ full ∙ sym most_are) in
      ap (reach plan_measure d p) (none_taken d p t ids_of rows told.rows_are e)
      ∙ ap (λ k. cond (true && not k) (Ceiling j.ceiling) (reach_of_last (take t.rows (source plan_measure d p)))) same

  -- the source as a search has it, when so much was taken
  abbrev Standing : SearchState (Block × Block) → PartnerCounts → Taken → Type 0
  Standing s partners u = HasTakenPartners cmp j s.held s.last s.counts partners d p u

  abbrev Step : SearchState (Block × Block) → SearchState (Block × Block) → PartnerCounts → Result (Option Answer) PageFault → Type 0
  Step old new partners answer = SourceStep pages d p t (counts_by old.counts) (counts_by new.counts) old.desk new.desk answer (Standing new partners)

  abbrev UpTo : Option Hit → PartnerCounts → Type 0
  UpTo last partners = (answer : List Found) → ListsAnswer m answer → AreCountedUpTo answer last partners

  module _ (old : SearchState (Block × Block)) (h : Standing old counts t) where
    abbrev done : List (Item (Block × Block))
    done = h.searched.done

    lists : ListsAnswer m (pairs_in j)
    lists = lists_joined j h.searched.sound plan_measure plan_measure_is

    -- ---- a call that asks the search

    module _ (waits : 0 < counts.waiting) where
      below : t.rows < most_rows
      below = let all = h.waiting in omega (arith, all, waits)

      module _ (new : SearchState (Block × Block)) (after : PartnerCounts) (result : Result (Option Hit) PageFault)
          (takes : TakesFirst (partners_left old.last counts (pairs_in j)) (partners_left new.last after (pairs_in j)) result)
          (call : PartnerVisits cmp m (pair_visit_of left right) counts done old new result) where
        abbrev all : List (Item (Block × Block))
        all = done ++ call.makes.taken

        reached : CallReach cmp m to result call.attempt all
        reached = subst (λ x. CallReach cmp m x result call.attempt all) (sym (to_is below))
            (far_after m (pairs_in j) lists old.last counts t.rows h.rows new.last after result new.held call.attempt all takes call.makes.stands call.bounds)

        source_visits : (answer : Result (Option Answer) PageFault) → OnOk answer ((call.attempt ≡ []) × Rattle.best_first.specs.Visits.Reached cmp m reached.far.test all)
            → SourceVisits pages d p t (counts_by old.counts) (counts_by new.counts) old.desk new.desk answer
        source_visits answer just =
            visits o j h.searched.sound side.few side_too.few left right pages d p t rows told old new done h.searched.stands.tracks h.searched.counted call.attempt
            (taken_of_all call.makes) result reached answer just

        searched : IsSearched cmp j new.held new.last new.counts
        searched = record { sound = h.searched.sound; done = all; stands = call.makes.stands; counted = call.makes.counted h.searched.counted }

      pub row_step : (new : SearchState (Block × Block)) (after : PartnerCounts) (hit : Hit) (a : Answer) → TellsPair a hit → after ≡ gives_to hit.left counts → UpTo new.last after
          → TakesFirst (partners_left old.last counts (pairs_in j)) (partners_left new.last after (pairs_in j)) (Ok (Some hit))
          → MakesPartnerVisits cmp m (pair_visit_of left right) counts old new (Ok (Some hit)) → Step old new after (Ok (Some a))
      row_step new after hit a tells given upto takes makes =
          let call = makes done h.searched.stands in
          let (found, at, more, same, among) = given_next m (pairs_in j) lists old.last counts t.rows h.rows new.last after hit takes in
          let far = reached new after (Ok (Some hit)) takes call in
          let gap = lowest_row j found among hit (same_back hit.gap found.gap same.0) in
          let next = more_taken d p t ids_of rows told.rows_are found at in
          let made = source_visits new after (Ok (Some hit)) takes call (Ok (Some a)) far.exact in
          let less : after.waiting ≡ counts.waiting - 1 = ap (λ (c : PartnerCounts). c.waiting) given in
          let same_most : after.most ≡ counts.most = ap (λ (c : PartnerCounts). c.most) given in
          let counted : counts_by new.counts ≡ counts_at plan_measure d p (reach_of_last (take (t.rows + 1) (source plan_measure d p))) =
          made.exact ∙ ap (λ (u : Taken). counts_at plan_measure d p (reach plan_measure d p u)) next in
          let total = h.waiting in
          record {
            row = ap (λ l. element l t.rows) told.rows_are ∙ element_map pair_row rows t.rows ∙ ap (option_map pair_row) at
                ∙ ap (λ x. Some x) (pair_is a found hit tells gap (sym same.1) (sym same.2));
            at = subst (Standing new after) (sym next) (record {
              left = one;
              right = other;
              is = ap (λ n. plan.Knn n one other j.ceiling) (sym same_most);
              left_side = side;
              right_side = side_too;
              searched = searched new after (Ok (Some hit)) takes call;
              given = upto;
              rows = more ∙ ap (λ n. drop n rows) (sym (add-one t.rows)) ∙ ap (λ n. drop (t.rows + 1) (nearest_of n (pairs_in j))) (sym same_most);
              few = subst (λ n. t.rows + 1 ≤ length (nearest_of n (pairs_in j))) (sym same_most) (let under = at_below rows t.rows found at in omega (arith, under));
              waiting = subst (λ n. t.rows + 1 + after.waiting ≡ length j.left.shapes * min n (length j.right.shapes)) (sym same_most) (omega (arith, total, less, waits));
              spent = λ e. counted;
            });
            visits = made;
          }

      -- the source when nothing more was given
      stays_at : (new : SearchState (Block × Block)) (after : PartnerCounts) → after ≡ counts → IsSearched cmp j new.held new.last new.counts → UpTo new.last after
          → partners_left new.last after (pairs_in j) ≡ partners_left old.last counts (pairs_in j) → (u : Taken) → u.rows ≡ t.rows → Standing new after u
      stays_at new after same found upto left_same u rows_same =
          let same_most : after.most ≡ counts.most = ap (λ (c : PartnerCounts). c.most) same in
          let waiting_same : after.waiting ≡ counts.waiting = ap (λ (c : PartnerCounts). c.waiting) same in
          let total = h.waiting in
          record {
            left = one;
            right = other;
            is = ap (λ n. plan.Knn n one other j.ceiling) (sym same_most);
            left_side = side;
            right_side = side_too;
            searched = found;
            given = upto;
            rows = left_same ∙ h.rows ∙ ap (λ n. drop n rows) (sym rows_same) ∙ ap (λ n. drop u.rows (nearest_of n (pairs_in j))) (sym same_most);
            few = subst (λ n. u.rows ≤ length (nearest_of n (pairs_in j))) (sym same_most) (subst (λ n. n ≤ length rows) (sym rows_same) h.few);
            waiting = subst (λ n. u.rows + after.waiting ≡ length j.left.shapes * min n (length j.right.shapes)) (sym same_most) (omega (arith, total, waiting_same, rows_same));
            spent = λ e. absurd (omega (arith, e, waiting_same, waits));
          }

      pub end_step : (new : SearchState (Block × Block)) (after : PartnerCounts) → after ≡ counts → UpTo new.last after
          → TakesFirst (partners_left old.last counts (pairs_in j)) (partners_left new.last after (pairs_in j)) (Ok None)
          → MakesPartnerVisits cmp m (pair_visit_of left right) counts old new (Ok None) → Step old new after (Ok None)
      end_step new after same upto takes makes =
          let call = makes done h.searched.stands in
          let nothing = none_next m (pairs_in j) lists old.last counts t.rows h.rows takes.0 in
          let far = reached new after (Ok None) takes call in
          record {
            row = ap (λ l. element l t.rows) told.rows_are ∙ element_map pair_row rows t.rows ∙ ap (option_map pair_row) nothing;
            at = subst (Standing new after) (sym (none_taken d p t ids_of rows told.rows_are nothing))
                (stays_at new after same (searched new after (Ok None) takes call) upto (takes.1 ∙ sym takes.0) (record { rows = t.rows; is_ended = true }) refl);
            visits = source_visits new after (Ok None) takes call (Ok None) far.exact;
          }

      pub fault_step : (new : SearchState (Block × Block)) (after : PartnerCounts) (fault : PageFault) → after ≡ counts → UpTo new.last after
          → TakesFirst (partners_left old.last counts (pairs_in j)) (partners_left new.last after (pairs_in j)) (Err fault)
          → MakesPartnerVisits cmp m (pair_visit_of left right) counts old new (Err fault) → Step old new after (Err fault)
      fault_step new after fault same upto takes makes =
          let call = makes done h.searched.stands in
          record {
            row = tt;
            at = stays_at new after same (searched new after (Err fault) takes call) upto takes t refl;
            visits = source_visits new after (Err fault) takes call (Err fault) tt;
          }

      -- the search wasn't asked
      unasked : (fault : PageFault) → Step old old counts (Err fault)
      unasked fault =
          let note = pair_visit_of left right in
          fault_step old counts fault refl h.given refl
          (fault_visits m note counts old old old fault (λ answer lists. refl) (stays {cmp = cmp} m note old) (no_visits o m (join_laws j h.searched.sound) note old fault))

    -- ---- a call where no row is to come: nothing is asked

    module _ (none_wait : counts.waiting ≡ 0) where
      nothing : element rows t.rows ≡ None
      nothing = none_next m (pairs_in j) lists old.last counts t.rows h.rows (none_waits (pairs_in j) old.last counts (h.given (pairs_in j) lists) none_wait)

      counted : counts_by old.counts ≡ counts_taken d p (next_taken d p t)
      counted =
          let past = past_all rows t.rows nothing in
          let few = h.few in
          let total = h.waiting in
          let full : length rows ≡ most_rows = omega (arith, past, few, total, none_wait) in
          h.spent none_wait ∙ ap (counts_at plan_measure d p) (sym (kept_reach full nothing))

      spent_visits : (answer : Result (Option Answer) PageFault) → SourceVisits pages d p t (counts_by old.counts) (counts_by old.counts) old.desk old.desk answer
      spent_visits answer = record {
        completed = [];
        attempted = [];
        log = sym (append-nil old.desk.visits);
        few = omega arith;
        settled = none_tried answer;
        counted = sym (plus_none (counts_by old.counts));
        near = All-by (LiesWithin plan_measure pages d p to) [] (λ v at. absurd (none v at));
        between = subst (λ (high : Counts). Rattle.sand_model.specs.Cursor.AreBetween (counts_by old.counts) high (counts_by old.counts)) counted
            (record { blocks = (omega arith, omega arith); pairs = (omega arith, omega arith); geometries = (omega arith, omega arith) });
        exact = exactly answer;
        rose = omega arith;
      }
        where
          none_tried : (answer : Result (Option Answer) PageFault) → OnOk answer (◌≡◌ {A = List Visit} [] [])
          none_tried (Ok a) = refl
          none_tried (Err fault) = tt

          exactly : (answer : Result (Option Answer) PageFault) → OnOk answer (counts_by old.counts ≡ counts_taken d p (next_taken d p t))
          exactly (Ok a) = counted
          exactly (Err fault) = tt

      pub spent_step : Step old old counts (Ok None)
      spent_step = record {
        row = ap (λ l. element l t.rows) told.rows_are ∙ element_map pair_row rows t.rows ∙ ap (option_map pair_row) nothing;
        at = subst (Standing old counts) (sym (none_taken d p t ids_of rows told.rows_are nothing)) (record {
          left = one;
          right = other;
          is = refl;
          left_side = side;
          right_side = side_too;
          searched = h.searched;
          given = h.given;
          rows = h.rows;
          few = h.few;
          waiting = h.waiting;
          spent = h.spent;
        });
        visits = spent_visits (Ok None);
      }

      refused_step : (fault : PageFault) → Step old old counts (Err fault)
      refused_step fault = record { row = tt; at = h; visits = spent_visits (Err fault) }

    -- memory was refused before anything was asked
    pub still_step : (fault : PageFault) → Step old old counts (Err fault)
    still_step fault =
        ⊎_elim (λ e. refused_step e fault) (λ w. unasked w fault) (some_or_none counts.waiting)
      where
        some_or_none : (n : ℕ) → (n ≡ 0) ⊎ (0 < n)
        some_or_none zero = inl refl
        some_or_none (suc n) = inr (omega arith)
