-- A call of a semi-join as a source: what it gives, what it visits, and where the source stands then.
use Rattle.std.proofs.Common.{◌≡◌, ℕ, zero, suc, ◌+◌, ◌-◌, ◌≤◌, ◌<◌, min, Bool, true, false, cond, not, ◌&&◌, true≢false, List, [], ◌∷◌, ◌++◌, map, length, take, drop}
use Rattle.std.proofs.Common.{Contains, ◌⊎◌, inl, inr, ⊎_elim, Option, None, Some, IfSome, option_map, Result, Ok, Err, OnOk, All, refl, sym, ap, ◌∙◌, subst, arith}
use Rattle.std.proofs.Common.{append-nil, Ordering}
use Rattle.std.specs.Prelude.{nat_eq}
use Rattle.std.proofs.Math.Numerals.{add-one}
use Rattle.std.proofs.lemmas.Bool.{ne_eqb, eq-eqb}
use Rattle.std.proofs.lemmas.List.{length-map}
use Rattle.std.specs.Cmp.{IsTotalOrder}
use Rattle.sand_base.specs.declared.visit.Visit.{Visit}
use Rattle.z_code.specs.declared.block.Block.{Block}
use Rattle.page_pool.specs.Disk.{PageMap}
use Rattle.page_pool.specs.declared.fault.PageFault.{PageFault}
use Rattle.sand_model.specs.Answer.{source, pair_row}
use Rattle.sand_model.specs.Database.{Database, element}
use Rattle.statements.specs.Plan as plan
use Rattle.statements.specs.Plan.{Plan}
use Rattle.statements.specs.declared.column.Column.{Column}
use Rattle.sand_model.specs.Reach.{Reach, Counts, Ceiling, reach, reach_of_last, counts_at, is_saturated}
use Rattle.sand_model.specs.Sources.{Found, first_of_each, column_shapes}
use Rattle.sand_model.specs.Taken.{Taken}
use Rattle.best_first.specs.Hierarchy.{Meaning}
use Rattle.best_first.specs.Visits.{SearchState}
use Rattle.best_first.specs.declared.hit.Hit.{Hit}
use Rattle.best_first.specs.declared.item.Item.{Item}
use Rattle.best_first.proofs.Bags.{here, there, cons_cases, none, All-by, from_filter}
use Rattle.best_first.proofs.Gaps.{same_back}
use Rattle.best_first.specs.Wanted.{wants_after}
use Rattle.best_first.proofs.WantedRows.{stands_fewer}
use Rattle.rank_cursor.proofs.SortedRows.{at_is, at_below}
use Rattle.semi_join.specs.FirstPairs.{GivesFirstPair, AreAllGiven, AreWaiting}
use Rattle.semi_join.specs.LeftRows.{LeftRows, GivesLeft, is_waiting}
use Rattle.semi_join.specs.Listed.{ListsAnswer, pairs_left, TakesFirst}
use Rattle.semi_join.specs.Visits.{PairVisits, MakesPairVisits}
use Rattle.semi_join.proofs.Waiting.{one_less}
use Rattle.dist_join.specs.Joining.{Joining, join_meaning}
use Rattle.dist_join.specs.OverPages.{pair_visit_of}
use Rattle.dist_join.proofs.JoinLaws.{join_laws}
use Rattle.dist_join.proofs.JoinedRows.{lists_joined}
use Rattle.plan_iterator.proofs.PlanMeasure.{plan_measure_is}
use Rattle.plan_iterator.proofs.VisitCounts.{plus_none}
use Rattle.plan_iterator.specs.Rows.{plan_measure}
use Rattle.plan_iterator.specs.SourceSteps.{next_taken, counts_taken, SourceStep, MakesVisits as SourceVisits}
use Rattle.plan_iterator.specs.Visited.{LiesWithin}
use Rattle.plan_iterator.specs.declared.answer.Answer.{Answer}
use Rattle.plan_sources.specs.Joins.{IsSideOf, pairs_in, counts_by, IsSearchedFor, HasTakenFirsts}
use Rattle.plan_sources.proofs.HowFar.{reach_from, CallReach}
use Rattle.plan_sources.proofs.NextReach.{more_taken, none_taken, next_reach, last_reach, found_row}
use Rattle.plan_sources.proofs.FirstsLeft.{given_next, none_next, far_after, all_given}
use Rattle.plan_sources.proofs.JoinCalls.{ids_of}
use Rattle.plan_sources.proofs.PairCalls.{TellsPair, lowest_row, pair_is, taken_of_some, visits}
use Rattle.plan_sources.proofs.PairPlans.{IsTold, semi_told}
use Rattle.plan_sources.proofs.Shorter.{past_all, element_map}
use Rattle.plan_sources.proofs.Unasked.{no_pair_visits}

-- what stands among the first pairs of a list stands in it
from_firsts : (rows : List Found) (found : Found) → Contains (first_of_each rows) found → Contains rows found
from_firsts [] found at = at
from_firsts (x ∷ xs) found at =
    let others = λ (other : Found). not (nat_eq other.left x.left) in
    ⊎_elim (λ e. subst (Contains (x ∷ xs)) e (here x xs)) (λ t. there x xs found (from_firsts xs found (from_filter others (first_of_each xs) found t).0))
    (cons_cases x (Rattle.std.proofs.Common.filter others (first_of_each xs)) found at)

module _ {cmp : Block × Block → Block × Block → Ordering} (o : IsTotalOrder cmp) (j : Joining) (pages : PageMap) (left right : ℕ) (d : Database) (t : Taken)
    (one other : Column) (side : IsSideOf j.left d one) (side_too : IsSideOf j.right d other) where
  abbrev m : Meaning (Block × Block)
  m = join_meaning j

  abbrev rows : List Found
  rows = first_of_each (pairs_in j)

  abbrev p : Plan
  p = plan.Semi one other j.ceiling

  -- the reach of what is taken with the next call
  abbrev to : Reach
  to = reach plan_measure d p (next_taken d p t)

  told : IsTold d p rows j
  told = semi_told j d one other side side_too

  long : length (source plan_measure d p) ≡ length rows
  long = ap length told.rows_are ∙ length-map rows (found_row ids_of)

  lefts_are : length (column_shapes d one) ≡ length j.left.shapes
  lefts_are = ap length side.shapes

  -- a row is still to come, or the end
  row_reach : (found : Found) → element rows t.rows ≡ Some found → to ≡ reach_from j.ceiling (Some found)
  row_reach found e =
      ap (reach plan_measure d p) (more_taken d p t ids_of rows told.rows_are found e)
      ∙ ap (λ l. reach_of_last (take (t.rows + 1) l)) told.rows_are
      ∙ ap (λ n. reach_of_last (take n (map (found_row ids_of) rows))) (add-one t.rows)
      ∙ last_reach ids_of rows t.rows found e

  end_reach : t.rows < length j.left.shapes → element rows t.rows ≡ None → to ≡ reach_from j.ceiling None
  end_reach below e =
      let past = past_all rows t.rows e in
      let few : length (source plan_measure d p) ≡ length (column_shapes d one) → ⊥ = λ same. omega (arith, past, below, long, lefts_are, same) in
      next_reach d p t ids_of rows told.rows_are (ne_eqb (length (source plan_measure d p)) (length (column_shapes d one)) few) None e

  to_is : t.rows < length j.left.shapes → to ≡ reach_from m.ceiling (element rows t.rows)
  to_is below =
      let go : (o : Option Found) → element rows t.rows ≡ o → to ≡ reach_from j.ceiling o =
      elim [ None ↦ λ e. end_reach below e | Some found ↦ λ e. row_reach found e ] in
      go (element rows t.rows) refl

  -- where each left row was given the source keeps the reach of its last row
  kept_reach : length rows ≡ length j.left.shapes → element rows t.rows ≡ None → to ≡ reach_of_last (take t.rows (source plan_measure d p))
  kept_reach full e =
      let same : is_saturated d p (source plan_measure d p) ≡ true = eq-eqb (length (source plan_measure d p)) (length (column_shapes d one)) (long ∙ full ∙ sym lefts_are) in
      ap (reach plan_measure d p) (none_taken d p t ids_of rows told.rows_are e)
      ∙ ap (λ k. cond (true && not k) (Ceiling j.ceiling) (reach_of_last (take t.rows (source plan_measure d p)))) same

  -- the source as a search has it, when so much was taken
  abbrev Standing : SearchState (Block × Block) → LeftRows → Taken → Type 0
  Standing s lefts u = HasTakenFirsts cmp j s.held s.counts lefts d p u

  abbrev Step : SearchState (Block × Block) → SearchState (Block × Block) → LeftRows → Result (Option Answer) PageFault → Type 0
  Step old new lefts answer = SourceStep pages d p t (counts_by old.counts) (counts_by new.counts) old.desk new.desk answer (Standing new lefts)

  module _ (old : SearchState (Block × Block)) (lefts : LeftRows) (h : Standing old lefts t) where
    abbrev done : List (Item (Block × Block))
    done = h.searched.done

    lists : ListsAnswer m (pairs_in j)
    lists = lists_joined j h.searched.sound plan_measure plan_measure_is

    -- ---- a call that asks the search

    module _ (waits : 0 < lefts.waiting) where
      below : t.rows < length j.left.shapes
      below = let all = h.waiting in omega (arith, all, waits)

      module _ (new : SearchState (Block × Block)) (result : Result (Option Hit) PageFault) (pair : GivesFirstPair m lefts.given result)
          (call : PairVisits cmp m (pair_visit_of left right) lefts done old new result) where
        abbrev all : List (Item (Block × Block))
        all = done ++ call.makes.taken

        reached : CallReach cmp m to result call.attempt all
        reached = subst (λ x. CallReach cmp m x result call.attempt all) (sym (to_is below))
            (far_after m (pairs_in j) lists lefts t.rows h.rows pages result (wants_after (is_waiting lefts) result) new.held call.attempt all pair call.makes.stands call.bounds)

        source_visits : (answer : Result (Option Answer) PageFault) → OnOk answer ((call.attempt ≡ []) × Rattle.best_first.specs.Visits.Reached cmp m reached.far.test all)
            → SourceVisits pages d p t (counts_by old.counts) (counts_by new.counts) old.desk new.desk answer
        source_visits answer just =
            visits o j h.searched.sound side.few side_too.few left right pages d p t rows told old new done h.searched.stands.tracks h.searched.counted call.attempt
            (taken_of_some call.makes) result reached answer just

        searched : (after : LeftRows) → ((id : ℕ) → is_waiting after id ≡ true → wants_after (is_waiting lefts) result id ≡ true) → IsSearchedFor cmp j (is_waiting after) new.held new.counts
        searched after less = record {
          sound = h.searched.sound;
          done = all;
          stands = stands_fewer m (wants_after (is_waiting lefts) result) (is_waiting after) new.held all less call.makes.stands;
          counted = call.makes.counted h.searched.counted;
        }

      pub row_step : (new : SearchState (Block × Block)) (after : LeftRows) (hit : Hit) (a : Answer) → TellsPair a hit → GivesFirstPair m lefts.given (Ok (Some hit))
          → GivesLeft lefts after (Ok (Some hit))
          → AreWaiting m after → TakesFirst (pairs_left lefts.given (pairs_in j)) (pairs_left after.given (pairs_in j)) (Ok (Some hit))
          → MakesPairVisits cmp m (pair_visit_of left right) lefts old new (Ok (Some hit)) → Step old new after (Ok (Some a))
      row_step new after hit a tells pair left_row upto takes makes =
          let call = makes done h.searched.stands in
          let (found, at, more, same) = given_next m (pairs_in j) lists lefts t.rows h.rows after.given hit takes in
          let far = reached new (Ok (Some hit)) pair call in
          let gap = lowest_row j found (from_firsts (pairs_in j) found (at_is rows t.rows found at)) hit (same_back hit.gap found.gap same.0) in
          let next = more_taken d p t ids_of rows told.rows_are found at in
          let made = source_visits new (Ok (Some hit)) pair call (Ok (Some a)) far.exact in
          let taken_so : Taken = record { rows = t.rows + 1; is_ended = false } in
          let less : after.waiting ≡ lefts.waiting - 1 = ap (λ (l : LeftRows). l.waiting) left_row.1 in
          let counted : counts_by new.counts ≡ counts_at plan_measure d p (reach_of_last (take (t.rows + 1) (source plan_measure d p))) =
          made.exact ∙ ap (λ (u : Taken). counts_at plan_measure d p (reach plan_measure d p u)) next in
          let total = h.waiting in
          record {
            row = ap (λ l. element l t.rows) told.rows_are ∙ element_map pair_row rows t.rows ∙ ap (option_map pair_row) at
                ∙ ap (λ x. Some x) (pair_is a found hit tells gap (sym same.1) (sym same.2));
            at = subst (Standing new after) (sym next) (record {
              left = one;
              right = other;
              is = refl;
              left_side = side;
              right_side = side_too;
              searched = searched new (Ok (Some hit)) pair call after
                  (λ id e. one_less lefts hit.left id (subst (λ (l : LeftRows). is_waiting l id ≡ true) left_row.1 e));
              given = upto;
              rows = more ∙ ap (λ n. drop n rows) (sym (add-one t.rows));
              few = let under = at_below rows t.rows found at in omega (arith, under);
              waiting = omega (arith, total, less, waits);
              spent = λ e. counted;
            });
            visits = made;
          }

      -- the source when nothing more was given
      stays_at : (new : SearchState (Block × Block)) (after : LeftRows) → after ≡ lefts → IsSearchedFor cmp j (is_waiting after) new.held new.counts → AreWaiting m after
          → (u : Taken) → u.rows ≡ t.rows → Standing new after u
      stays_at new after same found upto u rows_same =
          let waiting_same : after.waiting ≡ lefts.waiting = ap (λ (l : LeftRows). l.waiting) same in
          let total = h.waiting in
          record {
            left = one;
            right = other;
            is = refl;
            left_side = side;
            right_side = side_too;
            searched = found;
            given = upto;
            rows = ap (λ (l : LeftRows). pairs_left l.given (pairs_in j)) same ∙ h.rows ∙ ap (λ n. drop n rows) (sym rows_same);
            few = subst (λ n. n ≤ length rows) (sym rows_same) h.few;
            waiting = omega (arith, total, waiting_same, rows_same);
            spent = λ e. absurd (omega (arith, e, waiting_same, waits));
          }

      pub end_step : (new : SearchState (Block × Block)) (after : LeftRows) → GivesFirstPair m lefts.given (Ok None) → after ≡ lefts → AreWaiting m after
          → TakesFirst (pairs_left lefts.given (pairs_in j)) (pairs_left after.given (pairs_in j)) (Ok None)
          → MakesPairVisits cmp m (pair_visit_of left right) lefts old new (Ok None) → Step old new after (Ok None)
      end_step new after over same upto takes makes =
          let call = makes done h.searched.stands in
          let nothing = none_next m (pairs_in j) lists lefts t.rows h.rows takes.0 in
          let far = reached new (Ok None) over call in
          record {
            row = ap (λ l. element l t.rows) told.rows_are ∙ element_map pair_row rows t.rows ∙ ap (option_map pair_row) nothing;
            at = subst (Standing new after) (sym (none_taken d p t ids_of rows told.rows_are nothing))
                (stays_at new after same (searched new (Ok None) over call after (λ id e. subst (λ (l : LeftRows). is_waiting l id ≡ true) same e)) upto
                (record { rows = t.rows; is_ended = true }) refl);
            visits = source_visits new (Ok None) over call (Ok None) far.exact;
          }

      pub fault_step : (new : SearchState (Block × Block)) (after : LeftRows) (fault : PageFault) → after ≡ lefts → AreWaiting m after
          → MakesPairVisits cmp m (pair_visit_of left right) lefts old new (Err fault) → Step old new after (Err fault)
      fault_step new after fault same upto makes =
          let call = makes done h.searched.stands in
          record {
            row = tt;
            at = stays_at new after same (searched new (Err fault) tt call after (λ id e. subst (λ (l : LeftRows). is_waiting l id ≡ true) same e)) upto t refl;
            visits = source_visits new (Err fault) tt call (Err fault) tt;
          }

      -- the search wasn't asked
      unasked : (fault : PageFault) → Step old old lefts (Err fault)
      unasked fault =
          let note = pair_visit_of left right in
          fault_step old lefts fault refl h.given
          (no_pair_visits o m (join_laws j h.searched.sound) note lefts h.given old fault)

    -- ---- a call where each left row was given: nothing is asked

    module _ (none_waits : lefts.waiting ≡ 0) (over : AreAllGiven m lefts.given) where
      nothing : element rows t.rows ≡ None
      nothing = all_given m (pairs_in j) lists lefts t.rows h.rows pages over

      counted : counts_by old.counts ≡ counts_taken d p (next_taken d p t)
      counted =
          let past = past_all rows t.rows nothing in
          let few = h.few in
          let total = h.waiting in
          let full : length rows ≡ length j.left.shapes = omega (arith, past, few, total, none_waits) in
          h.spent none_waits ∙ ap (counts_at plan_measure d p) (sym (kept_reach full nothing))

      spent_visits : (answer : Result (Option Answer) PageFault) → SourceVisits pages d p t (counts_by old.counts) (counts_by old.counts) old.desk old.desk answer
      spent_visits answer = record {
        completed = [];
        attempted = [];
        log = sym (append-nil old.desk.visits);
        few = omega arith;
        settled = none_tried answer;
        counted = sym (plus_none (counts_by old.counts));
        near = All-by (LiesWithin plan_measure pages d p to) [] (λ v at. absurd (none v at));
        between = subst (λ (high : Counts). Rattle.sand_model.specs.Cursor.AreBetween (counts_by old.counts) high (counts_by old.counts)) counted
            (record { blocks = (omega arith, omega arith); pairs = (omega arith, omega arith); geometries = (omega arith, omega arith) });
        exact = exactly answer;
        rose = omega arith;
      }
        where
          none_tried : (answer : Result (Option Answer) PageFault) → OnOk answer (◌≡◌ {A = List Visit} [] [])
          none_tried (Ok a) = refl
          none_tried (Err fault) = tt

          exactly : (answer : Result (Option Answer) PageFault) → OnOk answer (counts_by old.counts ≡ counts_taken d p (next_taken d p t))
          exactly (Ok a) = counted
          exactly (Err fault) = tt

      pub spent_step : Step old old lefts (Ok None)
      spent_step = record {
        row = ap (λ l. element l t.rows) told.rows_are ∙ element_map pair_row rows t.rows ∙ ap (option_map pair_row) nothing;
        at = subst (Standing old lefts) (sym (none_taken d p t ids_of rows told.rows_are nothing)) (record {
          left = one;
          right = other;
          is = refl;
          left_side = side;
          right_side = side_too;
          searched = h.searched;
          given = h.given;
          rows = h.rows;
          few = h.few;
          waiting = h.waiting;
          spent = h.spent;
        });
        visits = spent_visits (Ok None);
      }

      refused_step : (fault : PageFault) → Step old old lefts (Err fault)
      refused_step fault = record { row = tt; at = h; visits = spent_visits (Err fault) }

    -- memory was refused before anything was asked
    pub still_step : (lefts.waiting ≡ 0 → AreAllGiven m lefts.given) → (fault : PageFault) → Step old old lefts (Err fault)
    still_step over fault =
        ⊎_elim (λ e. refused_step e (over e) fault) (λ w. unasked w fault) (some_or_none lefts.waiting)
      where
        some_or_none : (n : ℕ) → (n ≡ 0) ⊎ (0 < n)
        some_or_none zero = inl refl
        some_or_none (suc n) = inr (omega arith)
