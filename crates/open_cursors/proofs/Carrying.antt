-- What becomes of the open cursors where one makes steps or is closed, with the lines that were written.
use Rattle.std.proofs.Common.{◌≡◌, ℕ, ◌+◌, ◌≤◌, arith, Bool, true, false, cond, List, [], ◌∷◌, ◌++◌, Option, Some, None, refl, sym, ap, subst, inl, inr, true≢false}
use Rattle.std.specs.Prelude.{All, Result, Ok, Err, IfOk, OnErr, is_some, is_err}
use Rattle.output_text.specs.Writing.{Writes, WritesPrefix}
use Rattle.page_pool.specs.Pool.{StampMap}
use Rattle.page_pool.specs.Pool.{PoolState}
use Rattle.page_pool.specs.Reads.{IsRead}
use Rattle.plan_iterator.specs.declared.cursor.RowCursor.{RowCursor}
use Rattle.plan_iterator.specs.Rows.{plan_measure}
use Rattle.row_output.proofs.StepsAllowed.{steps_allowed}
use Rattle.sand_base.specs.declared.refusal.Refusal.{Refusal}
use Rattle.sand_base.specs.declared.refusal.Refusal.TheVariants as why
use Rattle.sand_base.specs.declared.source.Failed.{Failed}
use Rattle.sand_model.specs.PlainLines.{IsPlainLine}
use Rattle.sand_model.specs.Cursor.{Cursor, OutputLine, Accepted, Refused, Steps, IsRefusedStep}
use Rattle.sand_model.specs.Database.{same_name}
use Rattle.sand_model.specs.Measure.{Measure}
use Rattle.sand_model.specs.Outcome.{IsLicensed, replaced, closed}
use Rattle.sand_model.specs.OutputText.{IsText}
use Rattle.statements.specs.Statement.{Statement, Next, CloseCursor}
use Rattle.sand_model.specs.StatementChecks.{early}
use Rattle.sand_store.specs.Catalog.{CatalogView}
use Rattle.statement_exec.proofs.CausedLines.{caused_inside}
use Rattle.statement_exec.proofs.Outcomes.{outcome_done, outcome_early}
use Rattle.sand_base.specs.Streams.{Stays}
use Rattle.statement_exec.proofs.Texts.{breaks_with, writes_none, writes_then_stays}
use Rattle.statement_exec.specs.Deciding.{ComesBehind}
use Rattle.statement_exec.specs.Ending.{PagesHaveCause, WritesUpTo, is_refusal, refused_line}
use Rattle.statement_exec.specs.LeafLines.{state_beside}
use Rattle.statement_exec.specs.Moment.{beside, rises_between}
use Rattle.statement_exec.specs.Printing.{PrintsSome, WritesOf}
use Rattle.statement_exec.specs.declared.reply.Reply.TheVariants as reply
use Rattle.open_cursors.proofs.CursorOutcomes.{next_performs, close_performs, close_unknown}
use Rattle.open_cursors.proofs.DecidedCursors.{early_decides, passing_decides}
use Rattle.statement_exec.proofs.CountedRows.{steps_up_to}
use Rattle.open_cursors.proofs.OwnNames.{own_replaced, own_closed, replaced_names}
use Rattle.open_cursors.specs.OpenCursors.{Places, StandAll, HaveOwnNames, NextOf, ClosesOf, named}
use Rattle.open_cursors.specs.Outcomes.{PerformsBeside}
use Rattle.open_cursors.specs.Steps.{GivesSome}
use Rattle.open_cursors.specs.declared.open_cursor.OpenCursor.{OpenCursor}
use Rattle.open_cursors.specs.Carried.{CarriesBeside}
use Rattle.open_cursors.proofs.Given.{named_most, most_more, most_replaced, most_closed}
use Rattle.open_cursors.proofs.StepCalls.{plain_refused}
use Rattle.open_cursors.proofs.MoreSteps.{Kept, IsMemory, memory_caused, more_steps, steps_kept}
use Rattle.statement_exec.proofs.Written.{answer_written, ending_written, some_written}

-- how many rows were given after some steps
grown : (c after : Cursor) (bound n : ℕ) → Kept n c after → c.given ≤ bound → after.given ≤ bound + n
grown c after bound n kept few = let more : after.given ≤ c.given + n = kept.given in omega (arith, more, few)

grown_some : (c after : Cursor) (bound made n : ℕ) → made ≤ n → Kept made c after → c.given ≤ bound → after.given ≤ bound + n
grown_some c after bound made n most kept few = let more : after.given ≤ c.given + made = kept.given in omega (arith, more, few, most)

-- where the one of the name is replaced, the new one stands somewhere
found_stands : {S T : Type 0} (At : Places S T) (stamps : StampMap) (xs : List (OpenCursor S T)) (cs : List Cursor) (name : List ℕ) (c after : Cursor) → named cs name ≡ Some c
    → StandAll At stamps xs (replaced name after cs) → (r : OpenCursor S T) × At r stamps after
found_stands At stamps xs [] name c after is h = absurd (true≢false (sym (ap (λ (o : Option Cursor). is_some o) is)))
found_stands At stamps [] (k ∷ cs) name c after is h = absurd h
found_stands {S} {T} At stamps (x ∷ xs) (k ∷ cs) name c after is h =
    let go : (b : Bool) → same_name k.name name ≡ b → cond b (Some k) (named cs name) ≡ Some c → StandAll At stamps (x ∷ xs) (cond b after k ∷ replaced name after cs)
    → (r : OpenCursor S T) × At r stamps after = elim [
      | true ↦ λ e i s. (x, s.1)
      | false ↦ λ e i s. found_stands At stamps xs cs name c after i s.2
    ] in
    go (same_name k.name name) refl is h

module _ (catalog : CatalogView) (cs : List Cursor) (old new : PoolState) (read : IsRead old new) (name : List ℕ) (count : ℕ) where
  -- no cursor has the name, and pages were read
  pub unknown_performs : named cs name ≡ None → PerformsBeside (Next name count) catalog old new cs cs (Refused why.UnknownCursor ∷ [])
  unknown_performs is = λ files shelf. (
    (
      caused_inside (beside cs catalog old files shelf) (beside cs catalog new files shelf) why.UnknownCursor tt,
      early_decides catalog cs cs old new files files shelf shelf (Next name count) refl why.UnknownCursor (λ setting. rw is refl),
    ),
    λ told disk few setting gap s.
        let fails : early setting (state_beside catalog old.pages cs) (Next name count) ≡ Some why.UnknownCursor = rw is refl in
        outcome_early setting (rises_between (beside cs catalog old files shelf) (beside cs catalog new files shelf)) (state_beside catalog old.pages cs) (Next name count)
        (Refused why.UnknownCursor ∷ []) (state_beside catalog new.pages cs)
        why.UnknownCursor fails tt (refl, ap (λ m. state_beside catalog m cs) read.pages),
  )

  -- steps of the cursor of the name, behind which memory may be refused
  pub memory_performs : (c after : Cursor) (lines : List OutputLine) → named cs name ≡ Some c → Steps plan_measure IsMemory count c lines after → All IsPlainLine lines
      → PerformsBeside (Next name count) catalog old new cs (replaced name after cs) lines
  memory_performs c after lines is steps plain = λ files shelf. (
    (
      memory_caused (beside cs catalog old files shelf) (beside (replaced name after cs) catalog new files shelf) count c lines after steps,
      passing_decides catalog cs (replaced name after cs) old new files files shelf shelf (Next name count)
          (replaced_names cs name c after is (steps_kept IsMemory count c lines after steps).name) lines (λ setting. rw is refl)
          (λ setting. steps_up_to plan_measure IsMemory (ComesBehind (Next name count)) (λ w k. subst (ComesBehind (Next name count)) (sym k) tt) count c lines after steps plain) refl,
    ),
    λ told disk few setting gap s.
        let cs' : List Cursor = replaced name after cs in
        let passes : early setting (state_beside catalog old.pages cs) (Next name count) ≡ None = rw is refl in
        let may : Refusal → Type 0 = IsLicensed setting (rises_between (beside cs catalog old files shelf) (beside cs' catalog new files shelf))
        (state_beside catalog old.pages cs) (Next name count) in
        let made : Steps plan_measure may count c lines after = steps_allowed plan_measure IsMemory may (λ r k. subst may (sym k) tt) count c lines after steps in
        let measured : Steps setting.gap may count c lines after = subst (λ (g : Measure). Steps g may count c lines after) (sym gap) made in
        outcome_done setting (rises_between (beside cs catalog old files shelf) (beside cs' catalog new files shelf)) (state_beside catalog old.pages cs)
        (Next name count) lines (state_beside catalog new.pages cs')
        passes refl (c, is, (after, measured, ap (λ m. state_beside catalog m cs') read.pages)),
  )

  -- a prefix of the lines of some steps is one of an outcome
  pub some_performs : (c after : Cursor) (a b : List ℕ → Type 0) → named cs name ≡ Some c → IsRefusedStep plan_measure after why.Memory after → (lines : List OutputLine)
      → GivesSome c count after lines
      → WritesPrefix (IsText lines) a b → WritesPrefix (PrintsSome (PerformsBeside (Next name count) catalog old new cs (replaced name after cs))) a b
  some_performs c after a b is stays lines gives w =
      let P : List OutputLine → Type 0 = PerformsBeside (Next name count) catalog old new cs (replaced name after cs) in
      elim (more_steps gives.0 count c lines after gives.1 stays gives.2) [
        | inl all ↦ some_written P a b lines (memory_performs c after lines is all gives.3) w
        | inr all ↦ breaks_with P a b lines why.Memory (memory_performs c after (lines ++ Refused why.Memory ∷ []) is all (plain_refused lines why.Memory gives.3)) w
      ]

  module _ (own : HaveOwnNames cs) (a b d : List ℕ → Type 0) (At : List Cursor → Type 0) where
    -- steps up to a refusal, and its line
    pub next_carried : (end : Option Refusal) → PagesHaveCause {E = Failed} old new (Ok end) → NextOf (named cs name) cs name count a b (Ok end) At → (r : Result Bool Failed)
        → IfOk r (λ refused. (refused ≡ is_refusal end) × Writes (IsText (refused_line end)) b d) → OnErr r (WritesPrefix (IsText (refused_line end)) b d)
        → CarriesBeside (Next name count) catalog old new cs a d r At
    next_carried end cause h r line part = go (named cs name) refl h where
      inside : Result (Option Refusal) Failed → Option Refusal
      inside (Ok o) = o
      inside (Err failed) = end

      none_up : (o : Option Refusal) → o ≡ Some why.UnknownCursor → named cs name ≡ None → Stays a b → WritesUpTo (PerformsBeside (Next name count) catalog old new cs cs) o a b
      none_up o e is stay = subst (λ (x : Option Refusal). WritesUpTo (PerformsBeside (Next name count) catalog old new cs cs) x a b) (sym e) (record {
        lines = [];
        written = writes_then_stays a a b (IsText []) (writes_none a) stay;
        accepted = refl;
        holds = unknown_performs is;
      })

      go : (o : Option Cursor) → named cs name ≡ o → NextOf o cs name count a b (Ok end) At → CarriesBeside (Next name count) catalog old new cs a d r At
      go None is n = record {
        after = cs;
        own = own;
        at = n.2;
        given = λ bound few. most_more bound count cs few;
        writes = ending_written (PerformsBeside (Next name count) catalog old new cs cs) a b d end (none_up end (ap inside n.0) is n.1) r line part;
      }
      go (Some c) is s =
          let P : List OutputLine → Type 0 = PerformsBeside (Next name count) catalog old new cs (replaced name s.after cs) in
          let kept : Kept count c s.after = steps_kept (λ w. end ≡ Some w) count c (s.steps.lines ++ refused_line end) s.after s.steps.holds.0 in
          let up : WritesUpTo P end a b = record {
            lines = s.steps.lines;
            written = s.steps.written;
            accepted = s.steps.accepted;
            holds = next_performs catalog cs old new read name count c s.after end (s.steps.lines ++ refused_line end) is kept.name s.pages cause s.steps.holds;
          } in
          record {
            after = replaced name s.after cs;
            own = own_replaced cs name c s.after is kept.name own;
            at = s.at;
            given = λ bound few. most_replaced bound count cs name s.after (grown c s.after bound count kept (named_most bound cs name c few is)) few;
            writes = ending_written P a b d end up r line part;
          }

  -- steps where the sink failed
  pub next_broken : {S T : Type 0} (At : Places S T) (stamps : StampMap) (xs : List (OpenCursor S T)) (a b : List ℕ → Type 0) (failed : Failed) → HaveOwnNames cs
      → ((r : OpenCursor S T) (c : Cursor) → At r stamps c → IsRefusedStep plan_measure c why.Memory c)
      → NextOf (named cs name) cs name count a b (Err failed) (λ after. StandAll At stamps xs after)
      → CarriesBeside (Next name count) catalog old new cs a b (Err failed) (λ after. StandAll At stamps xs after)
  next_broken At stamps xs a b failed own stays h = go (named cs name) refl h where
    go : (o : Option Cursor) → named cs name ≡ o → NextOf o cs name count a b (Err failed) (λ after. StandAll At stamps xs after)
        → CarriesBeside (Next name count) catalog old new cs a b (Err failed) (λ after. StandAll At stamps xs after)
    go None is n = absurd (not_ok n.0) where
      not_ok : Err failed ≡ Ok (Some why.UnknownCursor) → ⊥
      not_ok e = true≢false (ap (λ (x : Result (Option Refusal) Failed). is_err x) e)
    go (Some c) is s =
        let some = s.steps in
        let place = found_stands At stamps xs cs name c s.after is s.at in
        let kept : Kept some.1.0 c s.after = steps_kept (λ w. ⊥) some.1.0 c some.0 s.after some.1.2 in
        record {
          after = replaced name s.after cs;
          own = own_replaced cs name c s.after is kept.name own;
          at = s.at;
          given = λ bound few. most_replaced bound count cs name s.after (grown_some c s.after bound some.1.0 count some.1.1 kept (named_most bound cs name c few is)) few;
          writes = some_performs c s.after a b is (stays place.0 s.after place.1) some.0 some.1 some.2;
        }

module _ (catalog : CatalogView) (cs : List Cursor) (pool : PoolState) (name : List ℕ) (a b : List ℕ → Type 0) (At : List Cursor → Type 0) (own : HaveOwnNames cs) where
  inside_of : Refusal → Result (Unit {0}) Refusal → Refusal
  inside_of w (Ok x) = w
  inside_of w (Err r) = r

  -- the cursor of the name was closed
  pub closed_carried : ClosesOf (named cs name) cs name (Ok tt) At → (r : Result Bool Failed)
      → IfOk r (λ refused. (refused ≡ false) × Writes (IsText (Accepted ∷ [])) a b) → OnErr r (WritesPrefix (IsText (Accepted ∷ [])) a b)
      → CarriesBeside (CloseCursor name) catalog pool pool cs a b r At
  closed_carried h r line part = go (named cs name) refl h where
    go : (o : Option Cursor) → named cs name ≡ o → ClosesOf o cs name (Ok tt) At → CarriesBeside (CloseCursor name) catalog pool pool cs a b r At
    go None is n = absurd (true≢false (sym (ap (λ (x : Result (Unit {0}) Refusal). is_err x) n.0)))
    go (Some c) is n = record {
      after = closed name cs;
      own = own_closed cs name own;
      at = n.1;
      given = λ bound few. most_closed bound 0 cs name few;
      writes = answer_written (PerformsBeside (CloseCursor name) catalog pool pool cs (closed name cs)) a b (Ok reply.Accepted) (close_performs catalog cs pool name c is) r line part;
    }

  -- none has the name
  pub unclosed_carried : (w : Refusal) → ClosesOf (named cs name) cs name (Err w) At → (r : Result Bool Failed)
      → IfOk r (λ refused. (refused ≡ true) × Writes (IsText (Refused w ∷ [])) a b) → OnErr r (WritesPrefix (IsText (Refused w ∷ [])) a b)
      → CarriesBeside (CloseCursor name) catalog pool pool cs a b r At
  unfolding inside_of
  unclosed_carried w h r line part = go (named cs name) refl h where
    go : (o : Option Cursor) → named cs name ≡ o → ClosesOf o cs name (Err w) At → CarriesBeside (CloseCursor name) catalog pool pool cs a b r At
    go None is n = record {
      after = cs;
      own = own;
      at = n.1;
      given = λ bound few. most_more bound 0 cs few;
      writes = answer_written (PerformsBeside (CloseCursor name) catalog pool pool cs cs) a b (Err w)
          (subst (λ (x : Refusal). PerformsBeside (CloseCursor name) catalog pool pool cs cs (Refused x ∷ [])) (sym (ap (inside_of w) n.0)) (close_unknown catalog cs pool name is)) r line part;
    }
    go (Some c) is n = absurd (true≢false (ap (λ (x : Result (Unit {0}) Refusal). is_err x) n.0))
