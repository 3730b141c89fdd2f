-- The calls of a source in one step of a cursor, one after another: their visits lie within the reach after the step, and are counted.
use Rattle.std.proofs.Common.{◌≡◌, ◌⊎◌, inl, inr, ℕ, ◌+◌, ◌-◌, ◌≤◌, min, Bool, true, false, cond, nat_lt, true≢false, List, [], ◌++◌, length, take, Option, Result, Ok}
use Rattle.std.proofs.Common.{Err, OnOk, refl, sym, ap, ◌∙◌, subst, arith, append_assoc, append-nil, le_antisymm, le_trans}
use Rattle.std.specs.Prelude.{All}
use Rattle.std.proofs.lemmas.Bool.{ltb-true}
use Rattle.std.proofs.lemmas.List.Elements.{All-nil, All-append, All-contains}
use Rattle.sand_base.specs.Faults.{last_count}
use Rattle.sand_base.specs.declared.visit.Visit.{Visit}
use Rattle.page_pool.specs.Desk.{DeskState}
use Rattle.page_pool.specs.Disk.{PageMap}
use Rattle.page_pool.specs.declared.fault.PageFault.{PageFault}
use Rattle.sand_model.specs.Answer.{source}
use Rattle.sand_model.specs.Database.{Database}
use Rattle.sand_model.specs.Operators.{over}
use Rattle.statements.specs.Plan.{Plan}
use Rattle.sand_model.specs.Reach.{Counts, no_counts, reach}
use Rattle.sand_model.specs.Taken.{Taken, is_full, is_lazy, beneath_sort}
use Rattle.best_first.proofs.Bags.{All-by}
use Rattle.plan_iterator.specs.Needed.{AreAtMost, AreTakenCounts, IsNeeded, MayBeAsked}
use Rattle.plan_iterator.specs.Rows.{plan_measure}
use Rattle.plan_iterator.specs.SourceSteps.{nothing_taken, next_taken, taken_after, counts_taken, node_count, MakesVisits}
use Rattle.plan_iterator.specs.Visited.{◌plus◌, visit_counts, LiesWithin}
use Rattle.plan_iterator.specs.declared.answer.Answer.{Answer}
use Rattle.plan_iterator.proofs.CountedVisits.{counts_one, at_most_itself, at_most_trans, between_low, between_high, nothing_taken_counts}
use Rattle.plan_iterator.proofs.GrowingReach.{IsBefore, grows}
use Rattle.plan_iterator.proofs.ModelSteps.{step_taken}
use Rattle.plan_iterator.proofs.VisitCounts.{plus_none, counts_behind}
use Rattle.plan_iterator.proofs.NextNeeds.{IsSpent}
use Rattle.plan_iterator.proofs.TakenSoFar.{needed_before, asked_before}

-- What the calls of a source in a step did to what was visited: each visit lies within the reach of what is taken later, the counts rose by
-- those that were completed, at most one was attempted in vain after them where the last call was refused, and a page get was made for each
-- node that was counted.
pub record VisitsWithin {T : Type 0} (pages : PageMap) (d : Database) (p : Plan) (later : Taken) (before now : Counts) (old new : DeskState) (result : Result T PageFault) : Type 0 where
  pub completed : List Visit
  pub attempted : List Visit
  pub log : new.visits ≡ old.visits ++ (completed ++ attempted)
  pub few : length attempted ≤ 1
  pub settled : OnOk result (attempted ≡ [])
  pub counted : now ≡ before plus visit_counts completed
  pub near : All (LiesWithin plan_measure pages d p (reach plan_measure d p later)) (completed ++ attempted)
  pub up : AreAtMost before now
  pub rose : min (old.pool.gets + (node_count now - node_count before)) last_count ≤ new.pool.gets

-- what holds, holds where the answer is Ok
on_any : {T P : Type 0} (result : Result T PageFault) → P → OnOk result P
on_any (Ok x) holds = holds
on_any (Err fault) holds = tt

-- page gets for no node, and for one node after another
gets_none : (o x most g : ℕ) → min o most ≤ g → min (o + (x - x)) most ≤ g
gets_none o x most g h = omega arith

gets_chain : (o b m n most g h : ℕ) → b ≤ m → m ≤ n → min (o + (m - b)) most ≤ g → min (g + (n - m)) most ≤ h → min (o + (n - b)) most ≤ h
gets_chain o b m n most g h first second i j = omega arith

-- counts that rose count no fewer nodes
nodes_rose : (before now : Counts) → AreAtMost before now → node_count before ≤ node_count now
nodes_rose before now h = let blocks = h.blocks in let pairs = h.pairs in omega (arith, blocks, pairs)

module _ (pages : PageMap) (d : Database) (p : Plan) (later : Taken) where
  -- no call
  pub within_none : {T : Type 0} (c : Counts) (old new : DeskState) (result : Result T PageFault) → new.visits ≡ old.visits → min old.pool.gets last_count ≤ new.pool.gets
      → VisitsWithin pages d p later c c old new result
  within_none {T} c old new result log up = record {
    completed = [];
    attempted = [];
    log = log ∙ sym (append-nil old.visits);
    few = omega arith;
    settled = on_any result refl;
    counted = sym (plus_none c);
    near = All-nil (LiesWithin plan_measure pages d p (reach plan_measure d p later));
    up = at_most_itself c;
    rose = gets_none old.pool.gets (node_count c) last_count new.pool.gets up;
  }

  -- one call, of a source of which no more is taken than later, in a step that is refused where the call is
  pub within_call : {T : Type 0} (t : Taken) (before now : Counts) (old new : DeskState) (answer : Result (Option Answer) PageFault) (result : Result T PageFault)
      → ((fault : PageFault) → answer ≡ Err fault → result ≡ Err fault) → IsBefore (next_taken d p t) later → MakesVisits pages d p t before now old new answer
      → VisitsWithin pages d p later before now old new result
  within_call {T} t before now old new answer result refused h call =
      let more = grows plan_measure d p (next_taken d p t) later h in record {
        completed = call.completed;
        attempted = call.attempted;
        log = call.log;
        few = call.few;
        settled = settled_after answer call.settled refused;
        counted = call.counted;
        near = All-by (LiesWithin plan_measure pages d p (reach plan_measure d p later)) (call.completed ++ call.attempted) (λ v at.
            more.visits pages v (All-contains (LiesWithin plan_measure pages d p (reach plan_measure d p (next_taken d p t))) (call.completed ++ call.attempted) v call.near at));
        up = between_low before (counts_taken d p (next_taken d p t)) now call.between;
        rose = call.rose;
      }
    where
      settled_after : (answer : Result (Option Answer) PageFault) → OnOk answer (call.attempted ≡ []) → ((fault : PageFault) → answer ≡ Err fault → result ≡ Err fault)
          → OnOk result (call.attempted ≡ [])
      settled_after (Ok row) none refused = on_any result none
      settled_after (Err fault) none refused = subst (λ r. OnOk r (call.attempted ≡ [])) (sym (refused fault refl)) tt

  -- a step that was not refused attempted nothing in vain
  pub within_ok : {T : Type 0} (before now : Counts) (old new : DeskState) (result : Result T PageFault) (x : T) → result ≡ Ok x → VisitsWithin pages d p later before now old new result
      → VisitsWithin {T = Unit} pages d p later before now old new (Ok tt)
  within_ok {T} before now old new result x ok within = record {
    completed = within.completed;
    attempted = within.attempted;
    log = within.log;
    few = within.few;
    settled = subst (λ r. OnOk r (within.attempted ≡ [])) ok within.settled;
    counted = within.counted;
    near = within.near;
    up = within.up;
    rose = within.rose;
  }

  -- some calls after others, which were not refused
  pub within_chain : {T : Type 0} (before mid now : Counts) (old middle new : DeskState) (result : Result T PageFault) → VisitsWithin {T = Unit} pages d p later before mid old middle (Ok tt)
      → VisitsWithin pages d p later mid now middle new result → VisitsWithin pages d p later before now old new result
  within_chain {T} before mid now old middle new result first second = record {
    completed = first.completed ++ second.completed;
    attempted = second.attempted;
    log =
        second.log ∙ ap (λ l. l ++ (second.completed ++ second.attempted)) (first.log ∙ ap (λ l. old.visits ++ l) all_completed)
        ∙ append_assoc old.visits first.completed (second.completed ++ second.attempted)
        ∙ ap (λ l. old.visits ++ l) (sym (append_assoc first.completed second.completed second.attempted));
    few = second.few;
    settled = second.settled;
    counted = counts_behind before mid now first.completed second.completed first.counted second.counted;
    near =
        subst (All (LiesWithin plan_measure pages d p (reach plan_measure d p later))) (sym (append_assoc first.completed second.completed second.attempted))
        (All-append (LiesWithin plan_measure pages d p (reach plan_measure d p later)) first.completed (second.completed ++ second.attempted)
        (subst (All (LiesWithin plan_measure pages d p (reach plan_measure d p later))) all_completed first.near) second.near);
    up = at_most_trans before mid now first.up second.up;
    rose =
        gets_chain old.pool.gets (node_count before) (node_count mid) (node_count now) last_count middle.pool.gets new.pool.gets
        (nodes_rose before mid first.up) (nodes_rose mid now second.up) first.rose second.rose;
  }
    where
      all_completed : first.completed ++ first.attempted ≡ first.completed
      all_completed = ap (λ l. first.completed ++ l) first.settled ∙ append-nil first.completed

-- counts that are told
pub counted_is : (d : Database) (p : Plan) (given : ℕ) (t : Taken) (seen : Counts) → seen ≡ counts_taken d p t → AreTakenCounts d p given t seen
counted_is d p given t seen e = record { low = subst (AreAtMost (counts_taken d p t)) (sym e) (at_most_itself (counts_taken d p t)); exact = inl e }

-- at first
pub counted_none : (d : Database) (p : Plan) (given : ℕ) → AreTakenCounts d p given nothing_taken no_counts
counted_none d p given = counted_is d p given nothing_taken no_counts (sym (nothing_taken_counts d p))

-- after a call
pub counted_call : (pages : PageMap) (d : Database) (p : Plan) (given : ℕ) (t : Taken) (before now : Counts) (old new : DeskState) (result : Result (Option Answer) PageFault)
    → MayBeAsked d p given t → AreTakenCounts d p given t before → MakesVisits pages d p t before now old new result → AreTakenCounts d p given (taken_after d p t result) now
counted_call pages d p given t before now old new (Ok a) asks counted call = counted_is d p given (next_taken d p t) now call.exact
counted_call pages d p given t before now old new (Err fault) asks counted call =
    let high = counts_taken d p (next_taken d p t) in record {
      low = at_most_trans (counts_taken d p t) before now counted.low (between_low before high now call.between);
      exact = inr (asks, between_high before high now call.between);
    }

-- after more rows were given
pub counted_given : (d : Database) (p : Plan) (given more : ℕ) (t : Taken) (seen : Counts) → given ≤ more → AreTakenCounts d p given t seen → AreTakenCounts d p more t seen
counted_given d p given more t seen h counted = record {
  low = counted.low;
  exact = elim counted.exact [ inl e ↦ inl e | inr k ↦ inr ((k.0.0, λ lazy. le_trans (k.0.1 lazy) h), k.1) ];
}

-- after its end a source gives its end
next_of_ended : (d : Database) (p : Plan) (t : Taken) → t.is_ended ≡ true → t.rows ≡ length (source plan_measure d p) → next_taken d p t ≡ t
next_of_ended d p t end all = go (nat_lt t.rows (length (source plan_measure d p))) refl
  where
    go : (b : Bool) → nat_lt t.rows (length (source plan_measure d p)) ≡ b
        → cond b (record { rows = t.rows + 1; is_ended = false }) (record { rows = t.rows; is_ended = true }) ≡ t
    go true e = let less = ltb-true t.rows (length (source plan_measure d p)) e in absurd (omega (arith, less, all))
    go false e = λ i. record { rows = t.rows; is_ended = sym end i }

-- counts that bound each other are one
both_at_most : (a b : Counts) → AreAtMost a b → AreAtMost b a → a ≡ b
both_at_most a b h k = counts_one a b (le_antisymm h.blocks k.blocks) (le_antisymm h.pairs k.pairs) (le_antisymm h.geometries k.geometries)

module _ (d : Database) (p : Plan) (given : ℕ) (t : Taken) (seen : Counts) (needed : IsNeeded plan_measure d p given t) (counted : AreTakenCounts d p given t seen) where
  -- what was visited is counted exactly where a row is to be given
  pub counted_row : is_lazy p ≡ true → given + 1 ≤ length (over plan_measure d p (take t.rows (source plan_measure d p))) → seen ≡ counts_taken d p t
  counted_row lazy enough = elim counted.exact [ inl e ↦ e | inr k ↦ let few = k.0.1 lazy in absurd (omega (arith, few, enough)) ]

  -- and where the source need not be asked any more
  pub counted_spent : IsSpent plan_measure d p t → seen ≡ counts_taken d p t
  counted_spent spent_it =
      elim counted.exact [
        | inl e ↦ e
        | inr k ↦ elim spent_it [
          | inl full ↦ absurd (true≢false (sym full ∙ k.0.0))
          | inr end ↦
              both_at_most seen (counts_taken d p t)
              (subst (λ (u : Taken). AreAtMost seen (counts_taken d p u)) (next_of_ended d p t end (needed.ended end)) k.1) counted.low
        ]
      ]

  -- it counts no more than the model after the next step
  pub counted_before : AreAtMost seen (counts_taken d p (step_taken plan_measure d p given))
  counted_before =
      elim counted.exact [
        | inl e ↦
            subst (λ c. AreAtMost c (counts_taken d p (step_taken plan_measure d p given))) (sym e)
            (grows plan_measure d p t (step_taken plan_measure d p given) (needed_before plan_measure d p given t needed)).counts
        | inr k ↦
            at_most_trans seen (counts_taken d p (next_taken d p t)) (counts_taken d p (step_taken plan_measure d p given)) k.1
            (grows plan_measure d p (next_taken d p t) (step_taken plan_measure d p given) (asked_before d p given t needed k.0.0 k.0.1)).counts
      ]
