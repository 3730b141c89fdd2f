-- A call of a ranking by an R-tree as a source: what it gives, what it visits, and where the source stands then.
use Rattle.std.proofs.Common.{◌≡◌, ⊎_elim, ℕ, suc, ◌+◌, ◌-◌, ◌≤◌, min, true, false, true≢false, List, [], ◌∷◌, ◌++◌, map, length, length-append, All, Contains, Option}
use Rattle.std.proofs.Common.{None, Some, option_map, Result, Ok, Err, OnOk, refl, sym, ap, ap₂, ◌∙◌, subst, arith}
use Rattle.std.proofs.Math.Numerals.{add-one}
use Rattle.std.proofs.lemmas.List.{map-append, length-map}
use Rattle.std.proofs.lemmas.List.Elements.{All-contains, Contains-append_left, Contains-append_right, Contains-append_cases}
use Rattle.sand_base.specs.Faults.{last_count}
use Rattle.sand_base.specs.declared.goal.Goal.{Goal}
use Rattle.sand_base.specs.declared.goal.Goal.TheVariants as figure
use Rattle.sand_base.specs.declared.shape.Shape.{Shape}
use Rattle.sand_base.specs.declared.visit.Visit.{Visit}
use Rattle.sand_base.specs.declared.visit.Visit.TheVariants as visit
use Rattle.page_pool.specs.Disk.{PageMap}
use Rattle.page_pool.specs.declared.fault.PageFault.{PageFault}
use Rattle.sand_model.specs.Answer.{source, single_row}
use Rattle.sand_model.specs.Cursor.{AreBetween}
use Rattle.sand_model.specs.Database.{Database, element}
use Rattle.statements.specs.Plan as plan
use Rattle.statements.specs.Plan.{Plan}
use Rattle.sand_model.specs.Reach.{Reach, Counts, reach, counts_at, innermost, ceiling_of, is_saturated, polygons_within}
use Rattle.sand_model.specs.Sources.{Found, found_cmp, ranked, sorted, is_within}
use Rattle.sand_model.specs.Taken.{Taken}
use Rattle.sand_store.specs.declared.column.FileShapes.{FileShapes}
use Rattle.best_first.specs.Frontier.{Stands}
use Rattle.best_first.specs.Hierarchy.{Meaning}
use Rattle.best_first.specs.Item.{gap_of, roughs_of}
use Rattle.best_first.specs.Reach.{IsSameGap}
use Rattle.best_first.specs.Visits.{SearchState, IsVisit, CallVisits, MakesVisits, Reached, GivesNext, IsCounted}
use Rattle.best_first.specs.declared.counts.Counts.{Counts as Numbers}
use Rattle.best_first.specs.declared.hit.Hit.{Hit}
use Rattle.best_first.specs.declared.item.Item.{Item}
use Rattle.best_first.proofs.Bags.{All-by, All-left, from_filter}
use Rattle.best_first.proofs.Gaps.{same_back, same_trans}
use Rattle.best_first.proofs.Pending.{roughs-append}
use Rattle.rank_cursor.specs.Answers.{AreGiven, GivesList}
use Rattle.rank_cursor.proofs.Elements.{from_map}
use Rattle.rank_cursor.proofs.SortedRows.{from_sorted, at_is}
use Rattle.ring_geom.proofs.Measured.{measured}
use Rattle.near_cursor.specs.declared.near_tree.NearTree.{NearTree}
use Rattle.near_cursor.specs.NearRanking.{near_visit}
use Rattle.near_cursor.specs.TreeNodes.{PageNode}
use Rattle.plan_iterator.proofs.LowestFractions.{lowest_same, lowest_one}
use Rattle.plan_iterator.proofs.CountedVisits.{counts_one}
use Rattle.plan_iterator.proofs.PlanMeasure.{plan_measure_is}
use Rattle.plan_iterator.specs.Lowest.{lowest_of}
use Rattle.plan_iterator.specs.Rows.{plan_measure, row_of}
use Rattle.plan_iterator.specs.SourceSteps.{next_taken, counts_taken, node_count, MakesVisits as SourceVisits, SourceStep}
use Rattle.plan_iterator.specs.Visited.{◌plus◌, visit_counts, LiesWithin, IsBoundWithin, IsPolygonWithin, page_bound}
use Rattle.plan_iterator.specs.declared.answer.Answer.{Answer}
use Rattle.plan_sources.proofs.HowFar.{reach_from, CallReach, far_after}
use Rattle.plan_sources.proofs.NextReach.{more_taken, none_taken, next_reach}
use Rattle.plan_sources.proofs.RankCalls.{TellsRow, row_is}
use Rattle.plan_sources.proofs.Shorter.{element_past, element_map}
use Rattle.plan_sources.specs.NearPlans.{HasTakenNear, rows_under, nearing, nearest_rows, by_page}
use Rattle.plan_sources.proofs.NearCounts.{pages_total, polygon_count, no_more_taken, counted_is}
use Rattle.plan_sources.proofs.NearVisits.{IsWithin, lies_within, visits_counted}

-- a row of the list has its gap in lowest terms
lowest_row : (tree : NearTree FileShapes) (pages : PageMap) (found : Found) → Contains (nearest_rows tree pages) found → (hit : Hit) → IsSameGap found.gap hit.gap → found.gap ≡ lowest_of hit.gap
lowest_row tree pages found at hit same =
    let made : ℕ × Shape → Found = λ s. record { gap = plan_measure tree.goal (figure.Shape s.1); left = s.0; right = 0 } in
    let list = map made (rows_under tree pages) in
    let (there, near) = from_filter (λ (f : Found). is_within tree.ceiling f.gap) (sorted found_cmp list) found at in
    let (row, among, is) = from_map made (rows_under tree pages) found (from_sorted found_cmp list found there) in
    let g = measured.0 tree.goal (figure.Shape row.1) in
    let gap : lowest_of g ≡ found.gap = ap (λ (f : Found). f.gap) is in
    sym gap ∙ lowest_one g hit.gap (same_trans g (lowest_of g) hit.gap (same_back (lowest_of g) g (lowest_same g)) (subst (λ x. IsSameGap x hit.gap) (sym gap) same))

-- the counts of the model, of so many rough objects
abbrev pub counts_by : Numbers → Counts
counts_by n = record { blocks = 0; pairs = 0; geometries = n.fetched }

-- a visit within a reach, as the model tells it of a column
lies : (tree : NearTree FileShapes) (pages : PageMap) (d : Database) (p : Plan) (held : List (Item PageNode)) (last : Option Hit) (n : Numbers) (t : Taken) → HasTakenNear tree pages held last n d p t
    → (to : Reach) (v : Visit) → IsWithin tree pages to v → LiesWithin plan_measure pages d p to v
lies tree pages d p held last n t h to v is = subst (λ (q : Plan). LiesWithin plan_measure pages d q to v) (sym h.is) (told v is)
  where
    told : (v : Visit) → IsWithin tree pages to v → LiesWithin plan_measure pages d (plan.Near h.column h.goal tree.ceiling) to v
    told (visit.Tree number page) is = subst (λ (goal : Goal). IsBoundWithin plan_measure goal to (page_bound pages page)) h.from_goal is
    told (visit.Geometry id) is =
        subst (λ (shapes : List (ℕ × Shape)). IsPolygonWithin plan_measure (figure.Shape h.goal) shapes to id) (sym h.shapes)
        (subst (λ (goal : Goal). IsPolygonWithin plan_measure goal (rows_under tree pages) to id) h.from_goal is)
    told (visit.Block number z level) is = absurd is
    told (visit.Pair b c) is = absurd is
    told (visit.GeometryPair l r) is = absurd is

module _ (tree : NearTree FileShapes) (pages : PageMap) (number : ℕ) (d : Database) (p : Plan) (t : Taken) where
  abbrev m : Meaning PageNode
  m = nearing tree pages

  abbrev rows : List Found
  rows = nearest_rows tree pages

  -- the reach of what is taken with the next call
  abbrev to : Reach
  to = reach plan_measure d p (next_taken d p t)

  module _ (old : SearchState PageNode) (h : HasTakenNear tree pages old.held old.last old.counts d p t) where
    -- what the model tells of the plan

    rows_told : source plan_measure d p ≡ map single_row rows
    rows_told =
        ap (source plan_measure d) h.is
        ∙ ap₂ (λ (goal : Goal) (shapes : List (ℕ × Shape)). map single_row (ranked plan_measure goal tree.ceiling shapes)) (sym h.from_goal) h.shapes

    open_ : is_saturated d (innermost p) (source plan_measure d p) ≡ false
    open_ = subst (λ (q : Plan). is_saturated d (innermost q) (source plan_measure d q) ≡ false) (sym h.is) refl

    counts_told : (to : Reach) → counts_at plan_measure d (innermost p) to ≡ record { blocks = 0; pairs = 0; geometries = polygon_count tree pages to }
    counts_told to =
        ap (λ (q : Plan). counts_at plan_measure d (innermost q) to) h.is
        ∙ ap₂ (λ (goal : Goal) (shapes : List (ℕ × Shape)). record { blocks = 0; pairs = 0; geometries = length (polygons_within plan_measure goal shapes to) }) (sym h.from_goal) h.shapes

    -- the search gives the rows of the list
    gives : GivesList m rows
    gives = h.lawful.rows plan_measure plan_measure_is

    -- the reach is that of the next row, or the ceiling
    to_is : to ≡ reach_from m.ceiling (element rows t.rows)
    to_is =
        next_reach d p t (λ found. found.left ∷ []) rows rows_told open_ (element rows t.rows) refl
        ∙ ap (λ (q : Plan). reach_from (ceiling_of (innermost q)) (element rows t.rows)) h.is

    -- the counts of the model at that reach
    next_counts : counts_taken d p (next_taken d p t) ≡ record { blocks = 0; pairs = 0; geometries = polygon_count tree pages to }
    next_counts = counts_told to

    -- the counter is the number of what was taken
    number_of : (held done : List (Item PageNode)) (n : Numbers) (last : Option Hit) → Stands by_page m held last done → IsCounted done n → n.fetched ≡ length (roughs_of done)
    number_of held done n last stands counted = counted_is tree pages h.lawful h.few held done stands.tracks n counted

    -- ---- a call of the search

    module _ (new : SearchState PageNode) (result : Result (Option Hit) PageFault) (next : GivesNext m old.last result) (call : CallVisits by_page m (near_visit number) h.done old new result) where
      -- all that was ever taken
      abbrev all : List (Item PageNode)
      all = h.done ++ call.makes.taken

      -- it lies within the reach, with what was attempted
      reached : CallReach by_page m to result call.attempt all
      reached = subst (λ x. CallReach by_page m x result call.attempt all) (sym to_is)
          (far_after m rows gives t.rows old.last h.rows result new.held new.last call.attempt all next call.makes.stands call.bounds)

      now_counted : IsCounted all new.counts
      now_counted = call.makes.counted h.counted

      -- each visit lies within the reach
      near_item : (item : Item PageNode) → Contains (call.makes.taken ++ call.attempt) item → LiesWithin plan_measure pages d p to (near_visit number item)
      near_item item at =
          let visited = All-contains IsVisit (call.makes.taken ++ call.attempt) item call.makes.visits at in
          let both = Contains-append_cases call.makes.taken call.attempt item at in
          let queued : Contains (all ++ new.held) item =
          ⊎_elim (λ i. Contains-append_left all new.held item (Contains-append_right h.done call.makes.taken item i))
          (λ i. Contains-append_right all new.held item (All-contains (Contains new.held) call.attempt item call.makes.tried i)) both in
          let there : Contains (all ++ call.attempt) item =
          ⊎_elim (λ i. Contains-append_left all call.attempt item (Contains-append_right h.done call.makes.taken item i))
          (λ i. Contains-append_right all call.attempt item i) both in
          lies tree pages d p old.held old.last old.counts t h to (near_visit number item)
          (lies_within tree pages h.lawful to reached.far.test reached.far.goes.tells new.held all call.makes.stands.tracks number item visited queued
          (All-contains (λ item. reached.far.test (gap_of item) ≡ true) (all ++ call.attempt) item reached.far.near there))

      near_all : All (LiesWithin plan_measure pages d p to) (map (near_visit number) (call.makes.taken ++ call.attempt))
      near_all = All-by (LiesWithin plan_measure pages d p to) (map (near_visit number) (call.makes.taken ++ call.attempt)) (λ v at.
          let (item, among, is) = from_map (near_visit number) (call.makes.taken ++ call.attempt) v at in
          subst (LiesWithin plan_measure pages d p to) is (near_item item among))

      more_roughs : length (roughs_of all) ≡ length (roughs_of h.done) + length (roughs_of call.makes.taken)
      more_roughs = ap length (roughs-append h.done call.makes.taken) ∙ length-append (roughs_of h.done) (roughs_of call.makes.taken)

      -- the counts don't fall, and rise no further than the reach has
      between : AreBetween (counts_by old.counts) (counts_taken d p (next_taken d p t)) (counts_by new.counts)
      between =
          let near = All-by (λ item. reached.far.test (gap_of item) ≡ true) all (λ item at.
          All-contains (λ item. reached.far.test (gap_of item) ≡ true) (all ++ call.attempt) item reached.far.near (Contains-append_left all call.attempt item at)) in
          let geometries = no_more_taken tree pages h.lawful to reached.far.test reached.far.goes new.held all call.makes.stands.tracks near in
          let fetched = number_of old.held h.done old.counts old.last h.stands h.counted in
          let fetches = number_of new.held all new.counts new.last call.makes.stands now_counted in
          subst (λ (high : Counts). AreBetween (counts_by old.counts) high (counts_by new.counts)) (sym next_counts)
          (record {
            blocks = (omega arith, omega arith);
            pairs = (omega arith, omega arith);
            geometries = (omega (arith, fetched, fetches, more_roughs), omega (arith, geometries, fetches));
          })

      -- the number of page gets doesn't fall
      rose : min (old.desk.pool.gets + (node_count (counts_by new.counts) - node_count (counts_by old.counts))) last_count ≤ new.desk.pool.gets
      rose = let up = call.makes.noted.up in omega (arith, up)

      -- the counts rose by what was taken
      counted_taken : counts_by new.counts ≡ counts_by old.counts plus visit_counts (map (near_visit number) call.makes.taken)
      counted_taken =
          let fetched = number_of old.held h.done old.counts old.last h.stands h.counted in
          let fetches = number_of new.held all new.counts new.last call.makes.stands now_counted in
          let counts = visits_counted number call.makes.taken (All-left IsVisit call.makes.taken call.attempt call.makes.visits) in
          counts_one (counts_by new.counts) (counts_by old.counts plus record { blocks = 0; pairs = 0; geometries = length (roughs_of call.makes.taken) })
          refl refl (omega (arith, fetched, fetches, more_roughs))
          ∙ ap (λ (c : Counts). counts_by old.counts plus c) (sym counts)

      -- the counts when what was taken is just what lies within the reach
      counted_exactly : Reached by_page m reached.far.test all → counts_by new.counts ≡ counts_taken d p (next_taken d p t)
      counted_exactly just =
          let fetches = number_of new.held all new.counts new.last call.makes.stands now_counted in
          let counted = h.lawful.geometries plan_measure plan_measure_is by_page pages_total to reached.far.test reached.far.goes.tells all just in
          (λ i. record { blocks = 0; pairs = 0; geometries = (fetches ∙ counted) i }) ∙ sym next_counts

      -- the visits of the call
      visits : (answer : Result (Option Answer) PageFault) → OnOk answer ((call.attempt ≡ []) × Reached by_page m reached.far.test all)
          → SourceVisits pages d p t (counts_by old.counts) (counts_by new.counts) old.desk new.desk answer
      visits answer just = record {
        completed = map (near_visit number) call.makes.taken;
        attempted = map (near_visit number) call.attempt;
        log = call.makes.noted.log ∙ ap (λ visits. old.desk.visits ++ visits) both;
        few = subst (λ n. n ≤ 1) (sym (length-map call.attempt (near_visit number))) reached.few;
        settled = settled answer just;
        counted = counted_taken;
        near = subst (All (LiesWithin plan_measure pages d p to)) both near_all;
        between = between;
        exact = exactly answer just;
        rose = rose;
      }
        where
          both : map (near_visit number) (call.makes.taken ++ call.attempt) ≡ map (near_visit number) call.makes.taken ++ map (near_visit number) call.attempt
          both = map-append (near_visit number) call.makes.taken call.attempt

          settled : (answer : Result (Option Answer) PageFault) → OnOk answer ((call.attempt ≡ []) × Reached by_page m reached.far.test all) → OnOk answer (map (near_visit number) call.attempt ≡ [])
          settled (Ok a) just = ap (map (near_visit number)) just.0
          settled (Err fault) just = tt

          exactly : (answer : Result (Option Answer) PageFault) → OnOk answer ((call.attempt ≡ []) × Reached by_page m reached.far.test all)
              → OnOk answer (counts_by new.counts ≡ counts_taken d p (next_taken d p t))
          exactly (Ok a) just = counted_exactly just.1
          exactly (Err fault) just = tt

      -- the source when so much was taken after the call
      stands_at : (u : Taken) → AreGiven rows u.rows new.last → (u.is_ended ≡ true → u.rows ≡ length rows) → HasTakenNear tree pages new.held new.last new.counts d p u
      stands_at u given over = record {
        column = h.column;
        goal = h.goal;
        is = h.is;
        from_goal = h.from_goal;
        shapes = h.shapes;
        few = h.few;
        lawful = h.lawful;
        done = all;
        stands = call.makes.stands;
        counted = now_counted;
        rows = given;
        ended = over;
      }

    -- ---- the three answers

    abbrev Step : SearchState PageNode → Result (Option Answer) PageFault → Type 0
    Step new answer = SourceStep pages d p t (counts_by old.counts) (counts_by new.counts) old.desk new.desk answer (HasTakenNear tree pages new.held new.last new.counts d p)

    -- a row
    pub row_step : (new : SearchState PageNode) (hit : Hit) (a : Answer) → TellsRow a hit → GivesNext m old.last (Ok (Some hit)) → new.last ≡ Some hit
        → MakesVisits by_page m (near_visit number) old new (Ok (Some hit)) → Step new (Ok (Some a))
    row_step new hit a tells next last makes =
        let call = makes h.done h.stands in
        let (found, here, same) = gives.next t.rows old.last hit h.rows next in
        let far = reached new (Ok (Some hit)) next call in
        let gap = lowest_row tree pages found (at_is rows t.rows found here) hit same.0 in
        let given : AreGiven rows (t.rows + 1) new.last =
        subst (λ n. AreGiven rows n new.last) (sym (add-one t.rows)) (subst (AreGiven rows (suc t.rows)) (sym last) (found, here, same)) in
        let row : element (source plan_measure d p) t.rows ≡ Some (row_of a) =
        ap (λ l. element l t.rows) rows_told ∙ element_map single_row rows t.rows ∙ ap (option_map single_row) here ∙ ap (λ x. Some x) (row_is a found hit tells gap same.1) in
        record {
          row = row;
          at = subst (HasTakenNear tree pages new.held new.last new.counts d p) (sym (more_taken d p t (λ found. found.left ∷ []) rows rows_told found here))
              (stands_at new (Ok (Some hit)) next call (record { rows = t.rows + 1; is_ended = false }) given (λ e. absurd (true≢false (sym e))));
          visits = visits new (Ok (Some hit)) next call (Ok (Some a)) far.exact;
        }

    -- the end
    pub end_step : (new : SearchState PageNode) → GivesNext m old.last (Ok None) → new.last ≡ old.last → MakesVisits by_page m (near_visit number) old new (Ok None) → Step new (Ok None)
    end_step new over last makes =
        let call = makes h.done h.stands in
        let all_given = gives.over t.rows old.last h.rows over in
        let none : element rows t.rows ≡ None = ap (element rows) all_given ∙ element_past rows in
        let far = reached new (Ok None) over call in
        record {
          row = ap (λ l. element l t.rows) rows_told ∙ element_map single_row rows t.rows ∙ ap (option_map single_row) none;
          at = subst (HasTakenNear tree pages new.held new.last new.counts d p) (sym (none_taken d p t (λ found. found.left ∷ []) rows rows_told none))
              (stands_at new (Ok None) over call (record { rows = t.rows; is_ended = true }) (subst (AreGiven rows t.rows) (sym last) h.rows) (λ e. all_given));
          visits = visits new (Ok None) over call (Ok None) far.exact;
        }

    -- a refusal
    pub fault_step : (new : SearchState PageNode) (fault : PageFault) → new.last ≡ old.last → MakesVisits by_page m (near_visit number) old new (Err fault) → Step new (Err fault)
    fault_step new fault last makes =
        let call = makes h.done h.stands in record {
          row = tt;
          at = stands_at new (Err fault) tt call t (subst (AreGiven rows t.rows) (sym last) h.rows) h.ended;
          visits = visits new (Err fault) tt call (Err fault) tt;
        }
