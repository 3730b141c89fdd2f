-- A call of a search over a join, as the call of a source: what it visits, and what is counted.
use Rattle.std.proofs.Common.{◌≡◌, ⊎_elim, ℕ, Bool, true, ◌+◌, ◌-◌, ◌≤◌, min, List, [], ◌∷◌, ◌++◌, map, flat_map, length, length-append, All, Contains, Option, Some}
use Rattle.std.proofs.Common.{option_map, Result, Ok, Err, OnOk, refl, sym, ap, ◌∙◌, subst, arith, Ordering}
use Rattle.std.specs.Cmp.{IsTotalOrder}
use Rattle.std.proofs.lemmas.List.{map-append, length-map}
use Rattle.std.proofs.lemmas.List.Elements.{All-contains, Contains-append_left, Contains-append_right, Contains-append_cases}
use Rattle.sand_base.specs.Faults.{last_count}
use Rattle.sand_base.specs.declared.goal.Goal.TheVariants as figure
use Rattle.sand_base.specs.declared.shape.Shape.{Shape}
use Rattle.sand_base.specs.declared.visit.Visit.{Visit}
use Rattle.z_code.specs.declared.block.Block.{Block}
use Rattle.page_pool.specs.declared.fault.PageFault.{PageFault}
use Rattle.page_pool.specs.Disk.{PageMap}
use Rattle.sand_model.specs.Answer.{pair_row}
use Rattle.sand_model.specs.Cursor.{AreBetween}
use Rattle.sand_model.specs.Database.{Database}
use Rattle.statements.specs.Plan.{Plan}
use Rattle.sand_model.specs.Reach.{Reach, Counts, reach}
use Rattle.sand_model.specs.Sources.{Found, found_cmp, sorted, is_within}
use Rattle.sand_model.specs.Taken.{Taken}
use Rattle.best_first.specs.Frontier.{Tracks}
use Rattle.best_first.specs.Hierarchy.{Meaning}
use Rattle.best_first.specs.Item.{gap_of, nodes_of, roughs_of}
use Rattle.best_first.specs.Reach.{IsSameGap}
use Rattle.best_first.specs.Visits.{SearchState, Noted, RoseBy, IsVisit, IsCounted, Makes, Reached}
use Rattle.best_first.specs.Wanted.{MakesFor}
use Rattle.best_first.specs.declared.counts.Counts.{Counts as Numbers}
use Rattle.best_first.specs.declared.hit.Hit.{Hit}
use Rattle.best_first.specs.declared.item.Item.{Item}
use Rattle.best_first.proofs.Bags.{All-by, All-left, from_filter, from_flat_map}
use Rattle.best_first.proofs.Gaps.{same_back, same_trans}
use Rattle.best_first.proofs.Pending.{nodes-append, roughs-append}
use Rattle.rank_cursor.proofs.Elements.{from_map}
use Rattle.rank_cursor.proofs.SortedRows.{from_sorted}
use Rattle.ring_geom.proofs.Measured.{measured}
use Rattle.dist_join.specs.Joining.{Joining, IsSoundJoin, join_meaning}
use Rattle.dist_join.specs.OverPages.{pair_visit_of}
use Rattle.dist_join.proofs.CountedPairs.{counts_as}
use Rattle.plan_iterator.proofs.LowestFractions.{lowest_same, lowest_one}
use Rattle.plan_iterator.proofs.CountedVisits.{counts_one}
use Rattle.plan_iterator.proofs.PlanMeasure.{plan_measure_is}
use Rattle.plan_iterator.specs.Lowest.{lowest_of}
use Rattle.plan_iterator.specs.Rows.{plan_measure, row_of}
use Rattle.plan_iterator.specs.SourceSteps.{next_taken, counts_taken, node_count, MakesVisits as SourceVisits}
use Rattle.plan_iterator.specs.Visited.{◌plus◌, visit_counts, LiesWithin}
use Rattle.plan_iterator.specs.declared.answer.Answer.{Answer}
use Rattle.sand_model.specs.Tree.{listings}
use Rattle.sand_store.specs.Catalog.{most_listings}
use Rattle.plan_sources.specs.Joins.{pairs_in, counts_by}
use Rattle.plan_sources.proofs.HowFar.{CallReach}
use Rattle.plan_sources.proofs.PairCounts.{no_more_taken, counted_is}
use Rattle.plan_sources.proofs.PairPlans.{IsTold, counts_of_join}
use Rattle.plan_sources.proofs.PairVisits.{lies_within, visits_counted}

-- ---- rows in lowest terms

-- two rows as the model's list has them
abbrev found_of_pair : ℕ × Shape → ℕ × Shape → Found
found_of_pair s t = record { gap = plan_measure (figure.Shape s.1) (figure.Shape t.1); left = s.0; right = t.0 }

-- a row of the list has its gap in lowest terms
pub lowest_row : (j : Joining) (found : Found) → Contains (pairs_in j) found → (hit : Hit) → IsSameGap found.gap hit.gap → found.gap ≡ lowest_of hit.gap
lowest_row j found at hit same =
    let rows_with = λ (s : ℕ × Shape). map (found_of_pair s) j.right.shapes in
    let list = flat_map rows_with j.left.shapes in
    let (there, near) = from_filter (λ (f : Found). is_within j.ceiling f.gap) (sorted found_cmp list) found at in
    let (row, among, more) = from_flat_map rows_with j.left.shapes found (from_sorted found_cmp list found there) in
    let (other, too, is) = from_map (found_of_pair row) j.right.shapes found more in
    let g = measured.0 (figure.Shape row.1) (figure.Shape other.1) in
    let gap : lowest_of g ≡ found.gap = ap (λ (f : Found). f.gap) is in
    sym gap ∙ lowest_one g hit.gap (same_trans g (lowest_of g) hit.gap (same_back (lowest_of g) g (lowest_same g)) (subst (λ x. IsSameGap x hit.gap) (sym gap) same))

-- the answer is the pair of rows that the search gave
abbrev pub TellsPair : Answer → Hit → Type 0
TellsPair a hit = (a.gap ≡ Some hit.gap) × (a.ids ≡ hit.left ∷ hit.right ∷ []) × (a.values ≡ [])

pub pair_is : (a : Answer) (found : Found) (hit : Hit) → TellsPair a hit → found.gap ≡ lowest_of hit.gap → found.left ≡ hit.left → found.right ≡ hit.right → pair_row found ≡ row_of a
pair_is a found hit tells gap left right =
    λ i. record {
      gap = (ap (λ g. Some g) gap ∙ sym (ap (option_map lowest_of) tells.0)) i;
      ids = (ap (λ (id : ℕ). id ∷ found.right ∷ []) left ∙ ap (λ (id : ℕ). hit.left ∷ id ∷ []) right ∙ sym tells.1) i;
      values = sym tells.2 i;
    }

-- ---- calls

-- What a call took and attempted, whatever rows the search stands for behind it.
pub record CallTakes {N : Type 0} (cmp : N → N → Ordering) (m : Meaning N) (note : Item N → Visit) (done : List (Item N)) (old new : SearchState N) (attempt : List (Item N)) : Type 0 where
  pub taken : List (Item N)
  pub noted : Noted note m.price (taken ++ attempt) old.desk new.desk
  pub rose : RoseBy (length (nodes_of taken)) old.desk new.desk
  pub tracks : Tracks cmp m new.held (done ++ taken)
  pub visits : All IsVisit (taken ++ attempt)
  pub tried : All (Contains new.held) attempt
  pub counted : IsCounted done old.counts → IsCounted (done ++ taken) new.counts

-- a call of a search for all rows
abbrev pub taken_of_all : {N : Type 0} {cmp : N → N → Ordering} {m : Meaning N} {note : Item N → Visit} {done : List (Item N)} {old new : SearchState N} {attempt : List (Item N)}
    → Makes cmp m note done old new attempt → CallTakes cmp m note done old new attempt
taken_of_all makes = record {
  taken = makes.taken;
  noted = makes.noted;
  rose = makes.rose;
  tracks = makes.stands.tracks;
  visits = makes.visits;
  tried = makes.tried;
  counted = makes.counted;
}

-- and one of a search for the rows of some left ids
abbrev pub taken_of_some : {N : Type 0} {cmp : N → N → Ordering} {m : Meaning N} {note : Item N → Visit} {wants : ℕ → Bool} {done : List (Item N)} {old new : SearchState N}
    {attempt : List (Item N)} → MakesFor cmp m note wants done old new attempt → CallTakes cmp m note done old new attempt
taken_of_some makes = record {
  taken = makes.taken;
  noted = makes.noted;
  rose = makes.rose;
  tracks = makes.stands.tracks;
  visits = makes.visits;
  tried = makes.tried;
  counted = makes.counted;
}

module _ {cmp : Block × Block → Block × Block → Ordering} (o : IsTotalOrder cmp) (j : Joining) (sound : IsSoundJoin j) (few : listings j.left.tree ≤ most_listings)
    (few_too : listings j.right.tree ≤ most_listings)
    (left right : ℕ) (pages : PageMap) (d : Database) (p : Plan) (t : Taken) (rows : List Found) (told : IsTold d p rows j) where
  abbrev m : Meaning (Block × Block)
  m = join_meaning j

  -- the reach of what is taken with the next call
  abbrev to : Reach
  to = reach plan_measure d p (next_taken d p t)

  next_counts : counts_taken d p (next_taken d p t) ≡ counts_of_join j to
  next_counts = told.counts to

  numbers : (held done : List (Item (Block × Block))) (n : Numbers) → Tracks cmp m held done → IsCounted done n
      → (n.visited ≡ length (nodes_of done)) × (n.fetched ≡ length (roughs_of done))
  numbers held done n tracks counted = counted_is j sound plan_measure plan_measure_is o few few_too held done tracks n counted

  -- the search before the call, what the call took and attempted, and how far that is
  module _ (old new : SearchState (Block × Block)) (done : List (Item (Block × Block))) (before : Tracks cmp m old.held done) (counted : IsCounted done old.counts)
      (attempt : List (Item (Block × Block))) (makes : CallTakes cmp m (pair_visit_of left right) done old new attempt) (result : Result (Option Hit) PageFault)
      (reached : CallReach cmp m to result attempt (done ++ makes.taken)) where
    abbrev all : List (Item (Block × Block))
    all = done ++ makes.taken

    taken_near : All (λ item. reached.far.test (gap_of item) ≡ true) all
    taken_near = All-by (λ item. reached.far.test (gap_of item) ≡ true) all (λ item at.
        All-contains (λ item. reached.far.test (gap_of item) ≡ true) (all ++ attempt) item reached.far.near (Contains-append_left all attempt item at))

    now_counted : IsCounted all new.counts
    now_counted = makes.counted counted

    near_item : (item : Item (Block × Block)) → Contains (makes.taken ++ attempt) item → LiesWithin plan_measure pages d p to (pair_visit_of left right item)
    near_item item at =
        let visited = All-contains IsVisit (makes.taken ++ attempt) item makes.visits at in
        let both = Contains-append_cases makes.taken attempt item at in
        let queued : Contains (all ++ new.held) item =
        ⊎_elim (λ i. Contains-append_left all new.held item (Contains-append_right done makes.taken item i))
        (λ i. Contains-append_right all new.held item (All-contains (Contains new.held) attempt item makes.tried i)) both in
        let there : Contains (all ++ attempt) item =
        ⊎_elim (λ i. Contains-append_left all attempt item (Contains-append_right done makes.taken item i))
        (λ i. Contains-append_right all attempt item i) both in
        told.visits pages to (pair_visit_of left right item)
        (lies_within j sound plan_measure plan_measure_is to reached.far.test reached.far.goes.tells new.held all makes.tracks left right item visited queued
        (All-contains (λ item. reached.far.test (gap_of item) ≡ true) (all ++ attempt) item reached.far.near there))

    near_all : All (LiesWithin plan_measure pages d p to) (map (pair_visit_of left right) (makes.taken ++ attempt))
    near_all = All-by (LiesWithin plan_measure pages d p to) (map (pair_visit_of left right) (makes.taken ++ attempt)) (λ v at.
        let (item, among, is) = from_map (pair_visit_of left right) (makes.taken ++ attempt) v at in
        subst (LiesWithin plan_measure pages d p to) is (near_item item among))

    more_nodes : length (nodes_of all) ≡ length (nodes_of done) + length (nodes_of makes.taken)
    more_nodes = ap length (nodes-append done makes.taken) ∙ length-append (nodes_of done) (nodes_of makes.taken)

    more_roughs : length (roughs_of all) ≡ length (roughs_of done) + length (roughs_of makes.taken)
    more_roughs = ap length (roughs-append done makes.taken) ∙ length-append (roughs_of done) (roughs_of makes.taken)

    between : AreBetween (counts_by old.counts) (counts_taken d p (next_taken d p t)) (counts_by new.counts)
    between =
        let (pairs, geometries) = no_more_taken j sound plan_measure plan_measure_is o to reached.far.test reached.far.goes new.held all makes.tracks taken_near in
        let (visited, fetched) = numbers old.held done old.counts before counted in
        let (visits, fetches) = numbers new.held all new.counts makes.tracks now_counted in
        subst (λ (high : Counts). AreBetween (counts_by old.counts) high (counts_by new.counts)) (sym next_counts)
        (record {
          blocks = (omega arith, omega arith);
          pairs = (omega (arith, visited, visits, more_nodes), omega (arith, pairs, visits));
          geometries = (omega (arith, fetched, fetches, more_roughs), omega (arith, geometries, fetches));
        })

    rose : min (old.desk.pool.gets + (node_count (counts_by new.counts) - node_count (counts_by old.counts))) last_count ≤ new.desk.pool.gets
    rose =
        let (visited, fetched) = numbers old.held done old.counts before counted in
        let (visits, fetches) = numbers new.held all new.counts makes.tracks now_counted in
        let some : node_count (counts_by new.counts) - node_count (counts_by old.counts) ≡ length (nodes_of makes.taken) = omega (arith, visited, visits, more_nodes) in
        subst (λ n. min (old.desk.pool.gets + n) last_count ≤ new.desk.pool.gets) (sym some) makes.rose

    -- the counts rose by what was taken
    counted_taken : counts_by new.counts ≡ counts_by old.counts plus visit_counts (map (pair_visit_of left right) makes.taken)
    counted_taken =
        let (visited, fetched) = numbers old.held done old.counts before counted in
        let (visits, fetches) = numbers new.held all new.counts makes.tracks now_counted in
        let counts = visits_counted left right makes.taken (All-left IsVisit makes.taken attempt makes.visits) in
        counts_one (counts_by new.counts) (counts_by old.counts plus record { blocks = 0; pairs = length (nodes_of makes.taken); geometries = length (roughs_of makes.taken) })
        refl (omega (arith, visited, visits, more_nodes)) (omega (arith, fetched, fetches, more_roughs))
        ∙ ap (λ (c : Counts). counts_by old.counts plus c) (sym counts)

    -- the counts when what was taken is just what lies within the reach
    counted_exactly : Reached cmp m reached.far.test all → counts_by new.counts ≡ counts_taken d p (next_taken d p t)
    counted_exactly just =
        let (visits, fetches) = numbers new.held all new.counts makes.tracks now_counted in
        let counted = counts_as j sound plan_measure plan_measure_is cmp o to reached.far.test reached.far.goes.tells all just in
        (λ i. record { blocks = 0; pairs = (visits ∙ counted.pairs) i; geometries = (fetches ∙ counted.geometries) i }) ∙ sym next_counts

    pub visits : (answer : Result (Option Answer) PageFault) → OnOk answer ((attempt ≡ []) × Reached cmp m reached.far.test all)
        → SourceVisits pages d p t (counts_by old.counts) (counts_by new.counts) old.desk new.desk answer
    visits answer just = record {
      completed = map (pair_visit_of left right) makes.taken;
      attempted = map (pair_visit_of left right) attempt;
      log = makes.noted.log ∙ ap (λ visits. old.desk.visits ++ visits) both;
      few = subst (λ n. n ≤ 1) (sym (length-map attempt (pair_visit_of left right))) reached.few;
      settled = settled answer just;
      counted = counted_taken;
      near = subst (All (LiesWithin plan_measure pages d p to)) both near_all;
      between = between;
      exact = exactly answer just;
      rose = rose;
    }
      where
        both : map (pair_visit_of left right) (makes.taken ++ attempt) ≡ map (pair_visit_of left right) makes.taken ++ map (pair_visit_of left right) attempt
        both = map-append (pair_visit_of left right) makes.taken attempt

        settled : (answer : Result (Option Answer) PageFault) → OnOk answer ((attempt ≡ []) × Reached cmp m reached.far.test all) → OnOk answer (map (pair_visit_of left right) attempt ≡ [])
        settled (Ok a) just = ap (map (pair_visit_of left right)) just.0
        settled (Err fault) just = tt

        exactly : (answer : Result (Option Answer) PageFault) → OnOk answer ((attempt ≡ []) × Reached cmp m reached.far.test all)
            → OnOk answer (counts_by new.counts ≡ counts_taken d p (next_taken d p t))
        exactly (Ok a) just = counted_exactly just.1
        exactly (Err fault) just = tt
