-- The rows that were printed so far, and the step that comes next.
use Rattle.std.proofs.Common.{◌≡◌, inl, inr, ℕ, zero, suc, ◌+◌, ◌-◌, ◌<◌, ◌≤◌, min, true, false, true≢false, List, [], ◌∷◌, ◌++◌, Option, None, Some, Result, Ok, Err}
use Rattle.std.proofs.Common.{refl, sym, ap, ◌∙◌, subst, arith, append_assoc, append-nil, length-append}
use Rattle.std.specs.Prelude.{All}
use Rattle.std.proofs.lemmas.Bool.{lt-ltb, le-ltb}
use Rattle.std.proofs.lemmas.List.Elements.{All-nil, All-append, All-contains}
use Rattle.sand_base.specs.Faults.{last_count}
use Rattle.sand_base.specs.declared.refusal.Refusal.{Refusal}
use Rattle.sand_base.specs.declared.refusal.Refusal.TheVariants as why
use Rattle.sand_base.specs.declared.source.Failed.{Failed}
use Rattle.sand_base.specs.declared.visit.Visit.{Visit}
use Rattle.page_pool.specs.Desk.{DeskState}
use Rattle.page_pool.specs.Disk.{PageMap}
use Rattle.page_pool.specs.declared.fault.PageFault.{PageFault}
use Rattle.sand_model.specs.Answer.{answer}
use Rattle.sand_model.specs.Cursor as line
use Rattle.sand_model.specs.Cursor.{Cursor, OutputLine, step_of}
use Rattle.sand_model.specs.Database.{Database, element}
use Rattle.sand_model.specs.Operators.{PlanRow}
use Rattle.sand_model.specs.OutputText.{IsText}
use Rattle.statements.specs.Plan.{Plan}
use Rattle.sand_model.specs.Reach.{Counts, reach, reach_of_last}
use Rattle.sand_model.specs.Taken.{Taken, has_taken, is_lazy}
use Rattle.best_first.proofs.Bags.{All-by}
use Rattle.output_text.specs.Writing.{Writes, WritesPrefix}
use Rattle.plan_iterator.specs.Needed.{AreAtMost}
use Rattle.plan_iterator.specs.Rows.{plan_measure, row_of}
use Rattle.plan_iterator.specs.SourceSteps.{node_count}
use Rattle.plan_iterator.specs.Visited.{◌plus◌, visit_counts, LiesWithin}
use Rattle.plan_iterator.specs.declared.answer.Answer.{Answer}
use Rattle.plan_iterator.proofs.CountedVisits.{at_most_itself, at_most_trans, between_low}
use Rattle.plan_iterator.proofs.GrowingReach.{IsBefore, grows}
use Rattle.plan_iterator.proofs.ModelSteps as model
use Rattle.plan_iterator.proofs.ModelSteps.{element_below, step_row, step_end}
use Rattle.plan_iterator.proofs.VisitCounts.{plus_none, counts_behind}
use Rattle.plan_iterator.specs.CursorStep.{step_taken, CursorStep}
use Rattle.plan_iterator.proofs.StepsTaken.{taken_same}
use Rattle.plan_iterator.proofs.Counting.{end_given}
use Rattle.plan_iterator.proofs.ModelTaken.{model_later, model_reach}
use Rattle.row_output.specs.Printing.{MakesSteps, PrintsRows}
use Rattle.row_output.specs.Stepping.{PrintsStep, PrintsNext}
use Rattle.row_output.specs.declared.next.Next.TheVariants as next
use Rattle.row_output.specs.declared.rows.Printed.TheVariants.{Rows, Refused}
use Rattle.row_output.proofs.RowSteps.{RowSteps, is_row, gives_one, rows_length, rows_given, rows_database, rows_plan, rows_more, rows_then, rows_all, rows_last}
use Rattle.row_output.proofs.RowSteps.{same_last, same_row, end_no_row, none_last}
use Rattle.sand_model.specs.PlainLines.{IsPlainRow, IsPlainLine}
use Rattle.row_output.proofs.CountedLines.{plain_answer, plain_behind}
use Rattle.row_output.proofs.Texts.{writes_none, writes_both, writes_prefix, writes_stay, cut_in_last}

-- ---- visits

-- the visits lie within the reach of what was taken
abbrev pub Within : PageMap → Database → Plan → Taken → List Visit → Type 0
Within pages d p t noted = All (LiesWithin plan_measure pages d p (reach plan_measure d p t)) noted

within_later : (pages : PageMap) (d : Database) (p : Plan) (t later : Taken) (noted : List Visit) → IsBefore t later → Within pages d p t noted → Within pages d p later noted
within_later pages d p t later noted h near =
    All-by (LiesWithin plan_measure pages d p (reach plan_measure d p later)) noted (λ v at.
    (grows plan_measure d p t later h).visits pages v (All-contains (LiesWithin plan_measure pages d p (reach plan_measure d p t)) noted v near at))

within_same : (pages : PageMap) (d e : Database) (p q : Plan) → d ≡ e → p ≡ q → (t : Database → Plan → Taken) (noted : List Visit) → Within pages d p (t d p) noted → Within pages e q (t e q) noted
within_same pages d e p q same alike t noted near =
    subst (λ x. Within pages x q (t x q) noted) same (subst (λ y. Within pages d y (t d y) noted) alike near)

-- the element of the answer over the same database
same_element : (d e : Database) (p q : Plan) (n : ℕ) (o : Option PlanRow) → d ≡ e → p ≡ q → element (answer plan_measure d p) n ≡ o → element (answer plan_measure e q) n ≡ o
same_element d e p q n o same alike h =
    subst (λ x. element (answer plan_measure x q) n ≡ o) same (subst (λ y. element (answer plan_measure d y) n ≡ o) alike h)

-- the end is given where no row is left
none_left : (c after : Cursor) → step_of plan_measure c ≡ (line.End, after) → element (answer plan_measure c.database c.plan) c.given ≡ None
none_left c after h = go (element (answer plan_measure c.database c.plan) c.given) refl
  where
    go : (o : Option PlanRow) → element (answer plan_measure c.database c.plan) c.given ≡ o → o ≡ None
    go None e = refl
    go (Some row) e = absurd (true≢false (sym (ap (λ (q : OutputLine × Cursor). is_row q.0) (sym h ∙ step_row plan_measure c row e))))

-- ---- so far

-- So many rows were printed, and no step was refused.
pub record SoFar (pages : PageMap) (c : Cursor) (rows : ℕ) (old now : DeskState) (before at : List ℕ → Type 0) (Stands : Cursor → Type 0) : Type 0 where
  pub lines : List OutputLine
  pub after : Cursor
  pub stands : Stands after
  pub steps : RowSteps rows c lines after
  pub plain : All IsPlainLine lines
  pub writes : Writes (IsText lines) before at
  pub completed : List Visit
  pub log : now.visits ≡ old.visits ++ completed
  pub counted : after.counts ≡ c.counts plus visit_counts completed
  pub near : Within pages c.database c.plan (has_taken plan_measure c.database c.plan after.given false) completed
  pub first : rows ≡ 0 → completed ≡ []
  pub up : AreAtMost c.counts after.counts
  pub rose : min (old.pool.gets + (node_count after.counts - node_count c.counts)) last_count ≤ now.pool.gets

-- at first
pub so_far_none : (pages : PageMap) (c : Cursor) (desk : DeskState) (before : List ℕ → Type 0) (Stands : Cursor → Type 0) → Stands c → SoFar pages c 0 desk desk before before Stands
so_far_none pages c desk before Stands stands = record {
  lines = [];
  after = c;
  stands = stands;
  steps = (refl, refl);
  plain = All-nil IsPlainLine;
  writes = writes_none before;
  completed = [];
  log = sym (append-nil desk.visits);
  counted = sym (plus_none c.counts);
  near = All-nil (LiesWithin plan_measure pages c.database c.plan (reach plan_measure c.database c.plan (has_taken plan_measure c.database c.plan c.given false)));
  first = λ _. refl;
  up = at_most_itself c.counts;
  rose = omega arith;
}

-- where the last line is that of a row, without a sort, the visits lie within its gap
last_within : (pages : PageMap) (n : ℕ) (c : Cursor) (lines : List OutputLine) (after : Cursor) (noted : List Visit) → RowSteps n c lines after
    → Within pages c.database c.plan (has_taken plan_measure c.database c.plan after.given false) noted → is_lazy c.plan ≡ true → (front : List OutputLine) (row : PlanRow)
    → lines ≡ front ++ line.Row row ∷ [] → All (LiesWithin plan_measure pages c.database c.plan (reach_of_last (row ∷ []))) noted
last_within pages zero c lines after noted steps near lazy front row e = absurd (none_last front (line.Row row) (sym steps.0 ∙ e))
last_within pages (suc n) c lines after noted steps near lazy front row e =
    let last = rows_last n c lines after steps in
    let one = gives_one last.prev after last.row last.step in
    let same : last.row ≡ row = same_row last.row row (same_last last.front front (line.Row last.row) (line.Row row) (sym last.split ∙ e)) in
    let there = same_element last.prev.database c.database last.prev.plan c.plan last.prev.given (Some row) last.database last.plan (one.there ∙ ap Some same) in
    subst (λ to. All (LiesWithin plan_measure pages c.database c.plan to) noted)
    (ap (λ k. reach plan_measure c.database c.plan (has_taken plan_measure c.database c.plan k false)) one.given
    ∙ model_reach c.database c.plan last.prev.given row lazy there) near

-- page gets for one node after another
gets_chain : (o b m n most g h : ℕ) → b ≤ m → m ≤ n → min (o + (m - b)) most ≤ g → min (g + (n - m)) most ≤ h → min (o + (n - b)) most ≤ h
gets_chain o b m n most g h first second i j = omega arith

nodes_rose : (before now : Counts) → AreAtMost before now → node_count before ≤ node_count now
nodes_rose before now h = let blocks = h.blocks in let pairs = h.pairs in omega (arith, blocks, pairs)

module _ (pages : PageMap) (c : Cursor) (rows : ℕ) (old mid new : DeskState) (before at now : List ℕ → Type 0) (Stands After : Cursor → Type 0) (s : SoFar pages c rows old mid before at Stands) where
  module _ (answer : Result (Option Answer) PageFault) (st : CursorStep pages s.after mid new answer After) where
    -- the visits of all steps
    abbrev all_completed : List Visit
    all_completed = s.completed ++ st.visits.completed

    abbrev all_noted : List Visit
    all_noted = all_completed ++ st.visits.attempted

    grouped : s.completed ++ (st.visits.completed ++ st.visits.attempted) ≡ all_noted
    grouped = sym (append_assoc s.completed st.visits.completed st.visits.attempted)

    all_log : new.visits ≡ old.visits ++ all_noted
    all_log =
        st.visits.log
        ∙ ap (λ l. l ++ (st.visits.completed ++ st.visits.attempted)) s.log
        ∙ append_assoc old.visits s.completed (st.visits.completed ++ st.visits.attempted)
        ∙ ap (λ l. old.visits ++ l) grouped

    all_counted : st.after.counts ≡ c.counts plus visit_counts all_completed
    all_counted = counts_behind c.counts s.after.counts st.after.counts s.completed st.visits.completed s.counted st.visits.counted

    -- what the next step takes, over the database of the first one
    abbrev next_taken : Taken
    next_taken = model.step_taken plan_measure c.database c.plan s.after.given

    same_taken : (other : Cursor) → other.database ≡ c.database → other.plan ≡ c.plan → other.given ≡ s.after.given → step_taken other ≡ next_taken
    same_taken other d p g =
        sym (taken_same other)
        ∙ ap (λ k. model.step_taken plan_measure other.database other.plan k) g
        ∙ ap (λ q. model.step_taken plan_measure other.database q s.after.given) p
        ∙ ap (λ e. model.step_taken plan_measure e c.plan s.after.given) d

    old_near : (n : ℕ) → rows ≡ n → Within pages c.database c.plan next_taken s.completed
    old_near zero is =
        subst (Within pages c.database c.plan next_taken) (sym (s.first is)) (All-nil (LiesWithin plan_measure pages c.database c.plan (reach plan_measure c.database c.plan next_taken)))
    old_near (suc n) is =
        let last = rows_last n c s.lines s.after (subst (λ k. RowSteps k c s.lines s.after) is s.steps) in
        let one = gives_one last.prev s.after last.row last.step in
        let there = same_element last.prev.database c.database last.prev.plan c.plan last.prev.given (Some last.row) last.database last.plan one.there in
        let some = element_below (Rattle.sand_model.specs.Answer.answer plan_measure c.database c.plan) last.prev.given last.row there in
        within_later pages c.database c.plan (has_taken plan_measure c.database c.plan s.after.given false) next_taken s.completed
        (subst (λ k. IsBefore (has_taken plan_measure c.database c.plan k false) (model.step_taken plan_measure c.database c.plan k)) (sym one.given)
        (model_later c.database c.plan last.prev.given some)) s.near

    new_near : Within pages c.database c.plan next_taken (st.visits.completed ++ st.visits.attempted)
    new_near =
        subst (λ t. Within pages c.database c.plan t (st.visits.completed ++ st.visits.attempted)) (same_taken (record s.after { database = c.database; plan = c.plan }) refl refl refl)
        (within_same pages s.after.database c.database s.after.plan c.plan (rows_database rows c s.lines s.after s.steps) (rows_plan rows c s.lines s.after s.steps)
        (λ d p. step_taken (record s.after { database = d; plan = p })) (st.visits.completed ++ st.visits.attempted) st.visits.near)

    all_near : Within pages c.database c.plan next_taken all_noted
    all_near =
        subst (Within pages c.database c.plan next_taken) grouped
        (All-append (LiesWithin plan_measure pages c.database c.plan (reach plan_measure c.database c.plan next_taken)) s.completed (st.visits.completed ++ st.visits.attempted)
        (old_near rows refl) new_near)

    step_up : AreAtMost s.after.counts st.after.counts
    step_up = between_low s.after.counts (step_of plan_measure s.after).1.counts st.after.counts st.visits.between

    all_up : AreAtMost c.counts st.after.counts
    all_up = at_most_trans c.counts s.after.counts st.after.counts s.up step_up

    all_rose : min (old.pool.gets + (node_count st.after.counts - node_count c.counts)) last_count ≤ new.pool.gets
    all_rose =
        gets_chain old.pool.gets (node_count c.counts) (node_count s.after.counts) (node_count st.after.counts) last_count mid.pool.gets new.pool.gets
        (nodes_rose c.counts s.after.counts s.up) (nodes_rose s.after.counts st.after.counts step_up) s.rose st.visits.rose

  -- ---- the next step gave a row

  module _ (row : PlanRow) (answer : Result (Option Answer) PageFault) (st : CursorStep pages s.after mid new answer After)
      (is : step_of plan_measure s.after ≡ (line.Row row, st.after)) (none : st.visits.attempted ≡ []) where
    abbrev lines_row : List OutputLine
    lines_row = s.lines ++ line.Row row ∷ []

    steps_row : RowSteps (rows + 1) c lines_row st.after
    steps_row =
        let add : rows + 1 ≡ suc rows = omega arith in
        subst (λ n. RowSteps n c lines_row st.after) (sym add) (rows_more rows c s.lines s.after st.after row s.steps is)

    near_row : Within pages c.database c.plan (has_taken plan_measure c.database c.plan st.after.given false) (all_noted answer st)
    near_row =
        let one = gives_one s.after st.after row is in
        let there = same_element s.after.database c.database s.after.plan c.plan s.after.given (Some row)
        (rows_database rows c s.lines s.after s.steps) (rows_plan rows c s.lines s.after s.steps) one.there in
        subst (λ t. Within pages c.database c.plan t (all_noted answer st))
        (model.step_taken_row plan_measure c.database c.plan s.after.given row there ∙ ap (λ k. has_taken plan_measure c.database c.plan k false) (sym one.given))
        (all_near answer st)

    -- nothing was attempted in vain
    bare : all_noted answer st ≡ all_completed answer st
    bare = ap (λ l. all_completed answer st ++ l) none ∙ append-nil (all_completed answer st)

    more_row : IsPlainRow row → Writes (IsText (line.Row row ∷ [])) at now → SoFar pages c (rows + 1) old new before now After
    more_row k w = record {
      lines = lines_row;
      after = st.after;
      stands = st.at;
      steps = steps_row;
      plain = plain_behind s.lines (line.Row row) s.plain k;
      writes = writes_both s.lines (line.Row row ∷ []) before at now s.writes w;
      completed = all_completed answer st;
      log = all_log answer st ∙ ap (λ l. old.visits ++ l) bare;
      counted = all_counted answer st;
      near = subst (Within pages c.database c.plan (has_taken plan_measure c.database c.plan st.after.given false)) bare near_row;
      first = λ none. absurd (omega (arith, none));
      up = all_up answer st;
      rose = all_rose answer st;
    }

    -- the steps of this row and those before it
    makes_row : MakesSteps c (rows + 1) (rows + 1) false lines_row st.after (has_taken plan_measure c.database c.plan st.after.given false)
    makes_row = record {
      steps = rows_all (λ refusal. ⊥) (rows + 1) c lines_row st.after steps_row;
      given = rows_given (rows + 1) c lines_row st.after steps_row;
      long = rows_length (rows + 1) c lines_row st.after steps_row ∙ omega arith;
      taken = refl;
    }

    broke_row : IsPlainRow row → (count : ℕ) (failed : Failed) → rows < count → WritesPrefix (IsText (line.Row row ∷ [])) at now → PrintsRows pages c count old new before now (Err failed) After
    broke_row k count failed few w = record {
      lines = lines_row;
      after = st.after;
      last = has_taken plan_measure c.database c.plan st.after.given false;
      at = st.at;
      gives = (rows + 1, rows + 1, false, omega (arith, few), makes_row);
      plain = plain_behind s.lines (line.Row row) s.plain k;
      writes = writes_prefix s.lines (line.Row row ∷ []) before at now s.writes w;
      cuts = cut_in_last s.lines (line.Row row) before at now s.writes w;
      completed = all_completed answer st;
      attempted = st.visits.attempted;
      log = all_log answer st;
      few = st.visits.few;
      settled = none;
      counted = all_counted answer st;
      near = near_row;
      row = last_within pages (rows + 1) c lines_row st.after (all_noted answer st) steps_row near_row;
      rose = all_rose answer st;
    }

  -- ---- it gave the end

  module _ (answer : Result (Option Answer) PageFault) (st : CursorStep pages s.after mid new answer After) (is : step_of plan_measure s.after ≡ (line.End, st.after))
      (none : st.visits.attempted ≡ []) where
    abbrev lines_end : List OutputLine
    lines_end = s.lines ++ line.End ∷ []

    given_end : st.after.given ≡ s.after.given
    given_end = end_given s.after st.after is

    near_end : Within pages c.database c.plan (has_taken plan_measure c.database c.plan st.after.given true) (all_noted answer st)
    near_end =
        let none = same_element s.after.database c.database s.after.plan c.plan s.after.given None
        (rows_database rows c s.lines s.after s.steps) (rows_plan rows c s.lines s.after s.steps) (none_left s.after st.after is) in
        subst (λ t. Within pages c.database c.plan t (all_noted answer st))
        (model.step_taken_end plan_measure c.database c.plan s.after.given none ∙ ap (λ k. has_taken plan_measure c.database c.plan k true) (sym given_end))
        (all_near answer st)

    makes_end : (count : ℕ) → rows < count → MakesSteps c count rows true lines_end st.after (has_taken plan_measure c.database c.plan st.after.given true)
    makes_end zero few = absurd (omega (arith, few))
    makes_end (suc count) few = record {
      steps =
          rows_then (λ refusal. ⊥) rows (suc (count - rows)) (suc count) (omega (arith, few)) c s.lines s.after (line.End ∷ []) st.after s.steps (inr (inl (is, refl)));
      given = given_end ∙ rows_given rows c s.lines s.after s.steps;
      long = length-append s.lines (line.End ∷ []) ∙ ap (λ n. n + 1) (rows_length rows c s.lines s.after s.steps);
      taken = refl;
    }

    row_end : is_lazy c.plan ≡ true → (front : List OutputLine) (row : PlanRow) → lines_end ≡ front ++ line.Row row ∷ []
        → All (LiesWithin plan_measure pages c.database c.plan (reach_of_last (row ∷ []))) (all_noted answer st)
    row_end lazy front row e = absurd (end_no_row row (same_last s.lines front line.End (line.Row row) e))

    done_end : (count : ℕ) → rows < count → Writes (IsText (line.End ∷ [])) at now → PrintsRows pages c count old new before now (Ok (Rows rows true)) After
    done_end count few w = record {
      lines = lines_end;
      after = st.after;
      last = has_taken plan_measure c.database c.plan st.after.given true;
      at = st.at;
      gives = (omega (arith, few), sym (lt-ltb rows count few), makes_end count few);
      plain = plain_behind s.lines line.End s.plain tt;
      writes = writes_both s.lines (line.End ∷ []) before at now s.writes w;
      cuts = tt;
      completed = all_completed answer st;
      attempted = st.visits.attempted;
      log = all_log answer st;
      few = st.visits.few;
      settled = none;
      counted = all_counted answer st;
      near = near_end;
      row = row_end;
      rose = all_rose answer st;
    }

    broke_end : (count : ℕ) (failed : Failed) → rows < count → WritesPrefix (IsText (line.End ∷ [])) at now → PrintsRows pages c count old new before now (Err failed) After
    broke_end count failed few w = record {
      lines = lines_end;
      after = st.after;
      last = has_taken plan_measure c.database c.plan st.after.given true;
      at = st.at;
      gives = (count, rows, true, omega arith, makes_end count few);
      plain = plain_behind s.lines line.End s.plain tt;
      writes = writes_prefix s.lines (line.End ∷ []) before at now s.writes w;
      cuts = cut_in_last s.lines line.End before at now s.writes w;
      completed = all_completed answer st;
      attempted = st.visits.attempted;
      log = all_log answer st;
      few = st.visits.few;
      settled = none;
      counted = all_counted answer st;
      near = near_end;
      row = row_end;
      rose = all_rose answer st;
    }

  -- ---- it was refused

  done_refused : (fault : PageFault) (st : CursorStep pages s.after mid new (Err fault) After) (count : ℕ) → rows < count → ((bytes : List ℕ) → at bytes → now bytes)
      → PrintsRows pages c count old new before now (Ok (Refused rows fault)) After
  done_refused fault st count few stays = record {
    lines = s.lines;
    after = st.after;
    last = step_taken st.after;
    at = st.at;
    gives = record {
      steps = λ refusal. refused_steps count refusal few;
      given = ap (λ (d : Cursor). d.given) only_counts ∙ rows_given rows c s.lines s.after s.steps;
      long = rows_length rows c s.lines s.after s.steps;
      few = few;
      taken = refl;
    };
    plain = s.plain;
    writes = writes_stay s.lines before at now s.writes stays;
    cuts = tt;
    completed = all_completed (Err fault) st;
    attempted = st.visits.attempted;
    log = all_log (Err fault) st;
    few = st.visits.few;
    settled = tt;
    counted = all_counted (Err fault) st;
    near =
        subst (λ t. Within pages c.database c.plan t (all_noted (Err fault) st))
        (sym (same_taken (Err fault) st st.after (ap (λ (d : Cursor). d.database) only_counts ∙ rows_database rows c s.lines s.after s.steps)
        (ap (λ (d : Cursor). d.plan) only_counts ∙ rows_plan rows c s.lines s.after s.steps) (ap (λ (d : Cursor). d.given) only_counts)))
        (all_near (Err fault) st);
    row = tt;
    rose = all_rose (Err fault) st;
  }
    where
      only_counts : st.after ≡ record s.after { counts = (st.gives why.Memory).0 }
      only_counts = (st.gives why.Memory).2

      refused_steps : (count : ℕ) (refusal : Refusal) → rows < count
          → Rattle.sand_model.specs.Cursor.Steps plan_measure (λ other. other ≡ refusal) count c (s.lines ++ line.Refused refusal ∷ []) st.after
      refused_steps zero refusal few = absurd (omega (arith, few))
      refused_steps (suc count) refusal few =
          rows_then (λ other. other ≡ refusal) rows (suc (count - rows)) (suc count) (omega (arith, few)) c s.lines s.after (line.Refused refusal ∷ []) st.after s.steps
          (inr (inr (refusal, refl, st.gives refusal, refl)))

  -- ---- what was printed of the next step

  pub prints_more : PrintsNext pages s.after mid new at now (Ok next.Row) After → SoFar pages c (rows + 1) old new before now After
  prints_more n = go n.answer n.step n.prints
    where
      go : (answer : Result (Option Answer) PageFault) → CursorStep pages s.after mid new answer After → PrintsStep answer (Ok next.Row) at now → SoFar pages c (rows + 1) old new before now After
      go (Ok (Some a)) st w = more_row (row_of a) (Ok (Some a)) st st.gives st.visits.settled (plain_answer a) w
      go (Ok None) st w = absurd w
      go (Err fault) st w = absurd w

  pub prints_end : (count : ℕ) → rows < count → PrintsNext pages s.after mid new at now (Ok next.End) After → PrintsRows pages c count old new before now (Ok (Rows rows true)) After
  prints_end count few n = go n.answer n.step n.prints
    where
      go : (answer : Result (Option Answer) PageFault) → CursorStep pages s.after mid new answer After → PrintsStep answer (Ok next.End) at now
          → PrintsRows pages c count old new before now (Ok (Rows rows true)) After
      go (Ok (Some a)) st w = absurd w
      go (Ok None) st w = done_end (Ok None) st st.gives st.visits.settled count few w
      go (Err fault) st w = absurd w

  pub prints_refused : (count : ℕ) (fault : PageFault) → rows < count → PrintsNext pages s.after mid new at now (Ok (next.Refused fault)) After
      → PrintsRows pages c count old new before now (Ok (Refused rows fault)) After
  prints_refused count fault few n = go n.answer n.step n.prints
    where
      go : (answer : Result (Option Answer) PageFault) → CursorStep pages s.after mid new answer After → PrintsStep answer (Ok (next.Refused fault)) at now
          → PrintsRows pages c count old new before now (Ok (Refused rows fault)) After
      go (Ok (Some a)) st w = absurd w
      go (Ok None) st w = absurd w
      go (Err other) st w = done_refused fault (subst (λ f. CursorStep pages s.after mid new (Err f) After) (sym w.0) st) count few w.1

  pub prints_failed : (count : ℕ) (failed : Failed) → rows < count → PrintsNext pages s.after mid new at now (Err failed) After → PrintsRows pages c count old new before now (Err failed) After
  prints_failed count failed few n = go n.answer n.step n.prints
    where
      go : (answer : Result (Option Answer) PageFault) → CursorStep pages s.after mid new answer After → PrintsStep answer (Err failed) at now
          → PrintsRows pages c count old new before now (Err failed) After
      go (Ok (Some a)) st w = broke_row (row_of a) (Ok (Some a)) st st.gives st.visits.settled (plain_answer a) count failed few w
      go (Ok None) st w = broke_end (Ok None) st st.gives st.visits.settled count failed few w
      go (Err other) st w = absurd w

-- all rows that were asked were given
pub prints_all : (pages : PageMap) (c : Cursor) (rows count : ℕ) (old now : DeskState) (before at : List ℕ → Type 0) (Stands : Cursor → Type 0) → rows ≡ count
    → SoFar pages c rows old now before at Stands → PrintsRows pages c count old now before at (Ok (Rows rows false)) Stands
prints_all pages c rows count old now before at Stands same s = record {
  lines = s.lines;
  after = s.after;
  last = has_taken plan_measure c.database c.plan s.after.given false;
  at = s.stands;
  gives = (
    omega (arith, same),
    sym (le-ltb rows count (omega (arith, same))),
    record {
      steps = subst (λ n. Rattle.sand_model.specs.Cursor.Steps plan_measure (λ refusal. ⊥) n c s.lines s.after) same (rows_all (λ refusal. ⊥) rows c s.lines s.after s.steps);
      given = rows_given rows c s.lines s.after s.steps;
      long = rows_length rows c s.lines s.after s.steps ∙ omega arith;
      taken = refl;
    },
  );
  plain = s.plain;
  writes = s.writes;
  cuts = tt;
  completed = s.completed;
  attempted = [];
  log = s.log ∙ ap (λ l. old.visits ++ l) (sym (append-nil s.completed));
  few = omega arith;
  settled = refl;
  counted = s.counted;
  near = near_all;
  row = last_within pages rows c s.lines s.after (s.completed ++ []) s.steps near_all;
  rose = s.rose;
}
  where
    near_all : Within pages c.database c.plan (has_taken plan_measure c.database c.plan s.after.given false) (s.completed ++ [])
    near_all = subst (Within pages c.database c.plan (has_taken plan_measure c.database c.plan s.after.given false)) (sym (append-nil s.completed)) s.near
