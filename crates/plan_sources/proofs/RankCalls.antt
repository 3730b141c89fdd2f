-- A call of a ranking as a source: what it gives, what it visits, and where the source stands then.
use Rattle.std.proofs.Common.{◌≡◌, ⊎_elim, ℕ, suc, ◌+◌, ◌-◌, ◌≤◌, min, true, false, true≢false, List, [], ◌∷◌, ◌++◌, map, length, length-append, All, Contains, Option}
use Rattle.std.proofs.Common.{None, Some, option_map, Result, Ok, Err, OnOk, refl, sym, ap, ◌∙◌, subst, arith, Ordering}
use Rattle.std.proofs.Math.Numerals.{add-one}
use Rattle.std.specs.Cmp.{IsTotalOrder}
use Rattle.std.proofs.lemmas.List.{map-append, length-map}
use Rattle.std.proofs.lemmas.List.Elements.{All-contains, Contains-append_left, Contains-append_right, Contains-append_cases}
use Rattle.sand_base.specs.Faults.{last_count}
use Rattle.sand_base.specs.declared.goal.Goal.TheVariants as figure
use Rattle.sand_base.specs.declared.shape.Shape.{Shape}
use Rattle.z_code.specs.declared.block.Block.{Block}
use Rattle.page_pool.specs.declared.fault.PageFault.{PageFault}
use Rattle.page_pool.specs.Disk.{PageMap}
use Rattle.sand_model.specs.Answer.{source, single_row}
use Rattle.sand_model.specs.Cursor.{AreBetween}
use Rattle.sand_model.specs.Database.{Database, element}
use Rattle.statements.specs.Plan.{Plan}
use Rattle.sand_model.specs.Reach.{Reach, Counts, reach}
use Rattle.sand_model.specs.Sources.{Found, found_cmp, ranked, sorted, is_within}
use Rattle.sand_model.specs.Taken.{Taken}
use Rattle.best_first.specs.Frontier.{Stands}
use Rattle.best_first.specs.Hierarchy.{Meaning}
use Rattle.best_first.specs.Item.{gap_of, nodes_of, roughs_of}
use Rattle.best_first.specs.Reach.{IsSameGap}
use Rattle.best_first.specs.Visits.{SearchState, IsVisit, CallVisits, MakesVisits, Reached, GivesNext, IsCounted}
use Rattle.best_first.specs.declared.counts.Counts.{Counts as Numbers}
use Rattle.best_first.specs.declared.hit.Hit.{Hit}
use Rattle.best_first.specs.declared.item.Item.{Item}
use Rattle.best_first.proofs.Bags.{All-by, All-left, from_filter}
use Rattle.best_first.proofs.Gaps.{same_back, same_trans}
use Rattle.best_first.proofs.Pending.{nodes-append, roughs-append}
use Rattle.rank_cursor.specs.Answers.{AreGiven, GivesList}
use Rattle.rank_cursor.specs.Cursor.{visit_of}
use Rattle.rank_cursor.specs.Ranking.{Ranking, rank_meaning}
use Rattle.rank_cursor.proofs.Counted.{counts_as}
use Rattle.rank_cursor.proofs.Elements.{from_map}
use Rattle.rank_cursor.proofs.RankedRows.{gives_ranked}
use Rattle.rank_cursor.proofs.SortedRows.{from_sorted, at_is}
use Rattle.ring_geom.proofs.Measured.{measured}
use Rattle.plan_iterator.proofs.LowestFractions.{lowest_same, lowest_one}
use Rattle.plan_iterator.proofs.CountedVisits.{counts_one}
use Rattle.plan_iterator.proofs.PlanMeasure.{plan_measure_is}
use Rattle.plan_iterator.specs.Lowest.{lowest_of}
use Rattle.plan_iterator.specs.Rows.{plan_measure, row_of}
use Rattle.plan_iterator.specs.SourceSteps.{next_taken, counts_taken, node_count, MakesVisits as SourceVisits, SourceStep}
use Rattle.plan_iterator.specs.Visited.{◌plus◌, visit_counts, LiesWithin}
use Rattle.plan_iterator.specs.declared.answer.Answer.{Answer}
use Rattle.plan_sources.specs.Rankings.{HasTaken}
use Rattle.plan_sources.proofs.HowFar.{reach_from, HowFar, CallReach, far_after}
use Rattle.plan_sources.proofs.NextReach.{more_taken, none_taken, next_reach}
use Rattle.plan_sources.proofs.RankCounts.{block_count, geometry_count, no_more_taken, counted_is}
use Rattle.plan_sources.proofs.RankPlans.{IsTold, told_by}
use Rattle.plan_sources.proofs.RankVisits.{lies_within, visits_counted}
use Rattle.plan_sources.proofs.Shorter.{element_past, element_map}

-- ---- rows in lowest terms

-- a row of the list has its gap in lowest terms
lowest_row : (r : Ranking) (found : Found) → Contains (ranked plan_measure r.goal r.ceiling r.shapes) found → (hit : Hit) → IsSameGap found.gap hit.gap → found.gap ≡ lowest_of hit.gap
lowest_row r found at hit same =
    let list = map (λ (s : ℕ × Shape). record { gap = plan_measure r.goal (figure.Shape s.1); left = s.0; right = 0 }) r.shapes in
    let (there, near) = from_filter (λ (f : Found). is_within r.ceiling f.gap) (sorted found_cmp list) found at in
    let (row, among, is) = from_map (λ (s : ℕ × Shape). record { gap = plan_measure r.goal (figure.Shape s.1); left = s.0; right = 0 }) r.shapes found (from_sorted found_cmp list found there) in
    let g = measured.0 r.goal (figure.Shape row.1) in
    let gap : lowest_of g ≡ found.gap = ap (λ (f : Found). f.gap) is in
    sym gap ∙ lowest_one g hit.gap (same_trans g (lowest_of g) hit.gap (same_back (lowest_of g) g (lowest_same g)) (subst (λ x. IsSameGap x hit.gap) (sym gap) same))

-- the answer is the row that the search gave
abbrev pub TellsRow : Answer → Hit → Type 0
TellsRow a hit = (a.gap ≡ Some hit.gap) × (a.ids ≡ hit.left ∷ []) × (a.values ≡ [])

-- so the answer is that row
pub row_is : (a : Answer) (found : Found) (hit : Hit) → TellsRow a hit → found.gap ≡ lowest_of hit.gap → found.left ≡ hit.left → single_row found ≡ row_of a
row_is a found hit tells gap left =
    λ i. record {
      gap = (ap (λ g. Some g) gap ∙ sym (ap (option_map lowest_of) tells.0)) i;
      ids = (ap (λ (id : ℕ). id ∷ []) left ∙ sym tells.1) i;
      values = sym tells.2 i;
    }

-- the counts of the model, of so many nodes and rough objects
abbrev pub counts_by : Numbers → Counts
counts_by n = record { blocks = n.visited; pairs = 0; geometries = n.fetched }

module _ {cmp : Block → Block → Ordering} (o : IsTotalOrder cmp) (r : Ranking) (number : ℕ) (pages : PageMap) (d : Database) (p : Plan) (t : Taken) where
  abbrev m : Meaning Block
  m = rank_meaning r

  abbrev rows : List Found
  rows = ranked plan_measure r.goal r.ceiling r.shapes

  -- the reach of what is taken with the next call
  abbrev to : Reach
  to = reach plan_measure d p (next_taken d p t)

  module _ (old : SearchState Block) (h : HasTaken cmp r old.held old.last old.counts d p t) where
    -- what the model tells of the plan
    model : IsTold d p r.goal r.ceiling r.shapes r.tree
    model = told_by r d p h.ranks

    -- the search gives the rows of the list
    gives : GivesList m rows
    gives = gives_ranked r h.sound plan_measure plan_measure_is

    -- the reach is that of the next row, or the ceiling
    to_is : to ≡ reach_from m.ceiling (element rows t.rows)
    to_is = next_reach d p t (λ found. found.left ∷ []) rows model.rows model.open_ (element rows t.rows) refl ∙ ap (λ c. reach_from c (element rows t.rows)) model.ceiling_is

    -- the counts of the model at that reach
    next_counts : counts_taken d p (next_taken d p t) ≡ record { blocks = block_count plan_measure r to; pairs = 0; geometries = geometry_count plan_measure r to }
    next_counts = model.counts to

    -- the counters are the numbers of what was taken
    numbers : (held done : List (Item Block)) (n : Numbers) (last : Option Hit) → Stands cmp m held last done → IsCounted done n
        → (n.visited ≡ length (nodes_of done)) × (n.fetched ≡ length (roughs_of done))
    numbers held done n last stands counted = counted_is r h.sound plan_measure plan_measure_is o h.ranks.few held done stands.tracks n counted

    -- what a call may count at most
    most : (held done : List (Item Block)) (last : Option Hit) → Stands cmp m held last done → HowFar m to done
        → (length (nodes_of done) ≤ block_count plan_measure r to) × (length (roughs_of done) ≤ geometry_count plan_measure r to)
    most held done last stands far = no_more_taken r h.sound plan_measure plan_measure_is o to far.test far.goes held done stands.tracks far.near

    -- ---- a call of the search

    module _ (new : SearchState Block) (result : Result (Option Hit) PageFault) (next : GivesNext m old.last result) (call : CallVisits cmp m (visit_of number) h.done old new result) where
      -- all that was ever taken
      abbrev all : List (Item Block)
      all = h.done ++ call.makes.taken

      -- it lies within the reach, with what was attempted
      reached : CallReach cmp m to result call.attempt all
      reached = subst (λ x. CallReach cmp m x result call.attempt all) (sym to_is)
          (far_after m rows gives t.rows old.last h.rows result new.held new.last call.attempt all next call.makes.stands call.bounds)

      taken_far : HowFar m to all
      taken_far = record {
        test = reached.far.test;
        goes = reached.far.goes;
        near = All-by (λ item. reached.far.test (gap_of item) ≡ true) all (λ item at.
            All-contains (λ item. reached.far.test (gap_of item) ≡ true) (all ++ call.attempt) item reached.far.near (Contains-append_left all call.attempt item at));
      }

      now_counted : IsCounted all new.counts
      now_counted = call.makes.counted h.counted

      -- each visit lies within the reach
      near_item : (item : Item Block) → Contains (call.makes.taken ++ call.attempt) item → LiesWithin plan_measure pages d p to (visit_of number item)
      near_item item at =
          let visited = All-contains IsVisit (call.makes.taken ++ call.attempt) item call.makes.visits at in
          let both = Contains-append_cases call.makes.taken call.attempt item at in
          let queued : Contains (all ++ new.held) item =
          ⊎_elim (λ i. Contains-append_left all new.held item (Contains-append_right h.done call.makes.taken item i))
          (λ i. Contains-append_right all new.held item (All-contains (Contains new.held) call.attempt item call.makes.tried i)) both in
          let there : Contains (all ++ call.attempt) item =
          ⊎_elim (λ i. Contains-append_left all call.attempt item (Contains-append_right h.done call.makes.taken item i))
          (λ i. Contains-append_right all call.attempt item i) both in
          model.visits pages to (visit_of number item)
          (lies_within r h.sound plan_measure plan_measure_is to reached.far.test reached.far.goes.tells new.held all call.makes.stands.tracks number item visited queued
          (All-contains (λ item. reached.far.test (gap_of item) ≡ true) (all ++ call.attempt) item reached.far.near there))

      near_all : All (LiesWithin plan_measure pages d p to) (map (visit_of number) (call.makes.taken ++ call.attempt))
      near_all = All-by (LiesWithin plan_measure pages d p to) (map (visit_of number) (call.makes.taken ++ call.attempt)) (λ v at.
          let (item, among, is) = from_map (visit_of number) (call.makes.taken ++ call.attempt) v at in
          subst (LiesWithin plan_measure pages d p to) is (near_item item among))

      more_nodes : length (nodes_of all) ≡ length (nodes_of h.done) + length (nodes_of call.makes.taken)
      more_nodes = ap length (nodes-append h.done call.makes.taken) ∙ length-append (nodes_of h.done) (nodes_of call.makes.taken)

      more_roughs : length (roughs_of all) ≡ length (roughs_of h.done) + length (roughs_of call.makes.taken)
      more_roughs = ap length (roughs-append h.done call.makes.taken) ∙ length-append (roughs_of h.done) (roughs_of call.makes.taken)

      -- the counts don't fall, and rise no further than the reach has
      between : AreBetween (counts_by old.counts) (counts_taken d p (next_taken d p t)) (counts_by new.counts)
      between =
          let (blocks, geometries) = most new.held all new.last call.makes.stands taken_far in
          let (visited, fetched) = numbers old.held h.done old.counts old.last h.stands h.counted in
          let (visits, fetches) = numbers new.held all new.counts new.last call.makes.stands now_counted in
          subst (λ (high : Counts). AreBetween (counts_by old.counts) high (counts_by new.counts)) (sym next_counts)
          (record {
            blocks = (omega (arith, visited, visits, more_nodes), omega (arith, blocks, visits));
            pairs = (omega arith, omega arith);
            geometries = (omega (arith, fetched, fetches, more_roughs), omega (arith, geometries, fetches));
          })

      -- a page get was made for each node
      rose : min (old.desk.pool.gets + (node_count (counts_by new.counts) - node_count (counts_by old.counts))) last_count ≤ new.desk.pool.gets
      rose =
          let (visited, fetched) = numbers old.held h.done old.counts old.last h.stands h.counted in
          let (visits, fetches) = numbers new.held all new.counts new.last call.makes.stands now_counted in
          let some : node_count (counts_by new.counts) - node_count (counts_by old.counts) ≡ length (nodes_of call.makes.taken) = omega (arith, visited, visits, more_nodes) in
          subst (λ n. min (old.desk.pool.gets + n) last_count ≤ new.desk.pool.gets) (sym some) call.makes.rose

      -- the counts rose by what was taken
      counted_taken : counts_by new.counts ≡ counts_by old.counts plus visit_counts (map (visit_of number) call.makes.taken)
      counted_taken =
          let (visited, fetched) = numbers old.held h.done old.counts old.last h.stands h.counted in
          let (visits, fetches) = numbers new.held all new.counts new.last call.makes.stands now_counted in
          let counts = visits_counted number call.makes.taken (All-left IsVisit call.makes.taken call.attempt call.makes.visits) in
          counts_one (counts_by new.counts) (counts_by old.counts plus record { blocks = length (nodes_of call.makes.taken); pairs = 0; geometries = length (roughs_of call.makes.taken) })
          (omega (arith, visited, visits, more_nodes)) refl (omega (arith, fetched, fetches, more_roughs))
          ∙ ap (λ (c : Counts). counts_by old.counts plus c) (sym counts)

      -- the counts when what was taken is just what lies within the reach
      counted_exactly : Reached cmp m reached.far.test all → counts_by new.counts ≡ counts_taken d p (next_taken d p t)
      counted_exactly just =
          let (visits, fetches) = numbers new.held all new.counts new.last call.makes.stands now_counted in
          let counted = counts_as r h.sound plan_measure plan_measure_is cmp o to reached.far.test reached.far.goes.tells all just in
          (λ i. record { blocks = (visits ∙ counted.blocks) i; pairs = 0; geometries = (fetches ∙ counted.geometries) i }) ∙ sym next_counts

      -- the visits of the call
      visits : (answer : Result (Option Answer) PageFault) → OnOk answer ((call.attempt ≡ []) × Reached cmp m reached.far.test all)
          → SourceVisits pages d p t (counts_by old.counts) (counts_by new.counts) old.desk new.desk answer
      visits answer just = record {
        completed = map (visit_of number) call.makes.taken;
        attempted = map (visit_of number) call.attempt;
        log = call.makes.noted.log ∙ ap (λ visits. old.desk.visits ++ visits) both;
        few = subst (λ n. n ≤ 1) (sym (length-map call.attempt (visit_of number))) reached.few;
        settled = settled answer just;
        counted = counted_taken;
        near = subst (All (LiesWithin plan_measure pages d p to)) both near_all;
        between = between;
        exact = exactly answer just;
        rose = rose;
      }
        where
          both : map (visit_of number) (call.makes.taken ++ call.attempt) ≡ map (visit_of number) call.makes.taken ++ map (visit_of number) call.attempt
          both = map-append (visit_of number) call.makes.taken call.attempt

          settled : (answer : Result (Option Answer) PageFault) → OnOk answer ((call.attempt ≡ []) × Reached cmp m reached.far.test all) → OnOk answer (map (visit_of number) call.attempt ≡ [])
          settled (Ok a) just = ap (map (visit_of number)) just.0
          settled (Err fault) just = tt

          exactly : (answer : Result (Option Answer) PageFault) → OnOk answer ((call.attempt ≡ []) × Reached cmp m reached.far.test all)
              → OnOk answer (counts_by new.counts ≡ counts_taken d p (next_taken d p t))
          exactly (Ok a) just = counted_exactly just.1
          exactly (Err fault) just = tt

      -- the source when so much was taken after the call
      stands_at : (u : Taken) → AreGiven rows u.rows new.last → (u.is_ended ≡ true → u.rows ≡ length rows) → HasTaken cmp r new.held new.last new.counts d p u
      stands_at u given over = record { ranks = h.ranks; sound = h.sound; done = all; stands = call.makes.stands; counted = now_counted; rows = given; ended = over }

    -- ---- the three answers

    abbrev Step : SearchState Block → Result (Option Answer) PageFault → Type 0
    Step new answer = SourceStep pages d p t (counts_by old.counts) (counts_by new.counts) old.desk new.desk answer (HasTaken cmp r new.held new.last new.counts d p)

    -- a row
    pub row_step : (new : SearchState Block) (hit : Hit) (a : Answer) → TellsRow a hit → GivesNext m old.last (Ok (Some hit)) → new.last ≡ Some hit
        → MakesVisits cmp m (visit_of number) old new (Ok (Some hit)) → Step new (Ok (Some a))
    row_step new hit a tells next last makes =
        let call = makes h.done h.stands in
        let (found, here, same) = gives.next t.rows old.last hit h.rows next in
        let far = reached new (Ok (Some hit)) next call in
        let gap = lowest_row r found (at_is rows t.rows found here) hit same.0 in
        let given : AreGiven rows (t.rows + 1) new.last =
        subst (λ n. AreGiven rows n new.last) (sym (add-one t.rows)) (subst (AreGiven rows (suc t.rows)) (sym last) (found, here, same)) in
        let row : element (source plan_measure d p) t.rows ≡ Some (row_of a) =
        ap (λ l. element l t.rows) model.rows ∙ element_map single_row rows t.rows ∙ ap (option_map single_row) here ∙ ap (λ x. Some x) (row_is a found hit tells gap same.1) in
        record {
          row = row;
          at = subst (HasTaken cmp r new.held new.last new.counts d p) (sym (more_taken d p t (λ found. found.left ∷ []) rows model.rows found here))
              (stands_at new (Ok (Some hit)) next call (record { rows = t.rows + 1; is_ended = false }) given (λ e. absurd (true≢false (sym e))));
          visits = visits new (Ok (Some hit)) next call (Ok (Some a)) far.exact;
        }

    -- the end
    pub end_step : (new : SearchState Block) → GivesNext m old.last (Ok None) → new.last ≡ old.last → MakesVisits cmp m (visit_of number) old new (Ok None) → Step new (Ok None)
    end_step new over last makes =
        let call = makes h.done h.stands in
        let all_given = gives.over t.rows old.last h.rows over in
        let none : element rows t.rows ≡ None = ap (element rows) all_given ∙ element_past rows in
        let far = reached new (Ok None) over call in
        record {
          row = ap (λ l. element l t.rows) model.rows ∙ element_map single_row rows t.rows ∙ ap (option_map single_row) none;
          at = subst (HasTaken cmp r new.held new.last new.counts d p) (sym (none_taken d p t (λ found. found.left ∷ []) rows model.rows none))
              (stands_at new (Ok None) over call (record { rows = t.rows; is_ended = true }) (subst (AreGiven rows t.rows) (sym last) h.rows) (λ e. all_given));
          visits = visits new (Ok None) over call (Ok None) far.exact;
        }

    -- a refusal
    pub fault_step : (new : SearchState Block) (fault : PageFault) → new.last ≡ old.last → MakesVisits cmp m (visit_of number) old new (Err fault) → Step new (Err fault)
    fault_step new fault last makes =
        let call = makes h.done h.stands in record {
          row = tt;
          at = stands_at new (Err fault) tt call t (subst (AreGiven rows t.rows) (sym last) h.rows) h.ended;
          visits = visits new (Err fault) tt call (Err fault) tt;
        }
