-- An open cursor through a line, and through the lines of a run.
use Rattle.std.proofs.Common.{◌≡◌, ◌⊎◌, ℕ, Bool, true, false, ◌||◌, List, [], ◌∷◌, ◌++◌, Option, Some, None, refl, sym, ap, subst, ◌∙◌, inl, inr, true≢false}
use Rattle.std.specs.List.{list_any}
use Rattle.sand_base.specs.declared.refusal.Refusal.{Refusal}
use Rattle.sand_base.specs.declared.refusal.Refusal.TheVariants as why
use Rattle.sand_model.specs.Checks.{first_refusal}
use Rattle.sand_model.specs.Cursor.{State, Cursor, OutputLine, Steps, new_cursor}
use Rattle.sand_model.specs.Outcome.{Rises, Outcome, IsLicensed, IsRefusedBy, IsRefusalCaused, IsCarriedOut}
use Rattle.sand_model.specs.Run.{LineOutcome, Run}
use Rattle.statements.specs.Statement.{Statement, Create, Insert, Delete, Load, Index as IndexOn, Rtree, OpenCursor, Next, CloseCursor, Show, Stats, Far, Blocks}
use Rattle.sand_model.specs.ScriptLine.{ScriptLine, Blank, TooLong, BadToken, OutOfRange, Says}
use Rattle.sand_model.specs.StatementChecks.{Setting, early, late, cursor_named}
use Rattle.run_laws.specs.Following.{rows_left, GoesOnPrinting, asks, closes}
use Rattle.run_laws.proofs.CursorsByName.{named, found_name, kept_replaced, kept_closed, kept_opened}
use Rattle.run_laws.proofs.StepsFollow.{steps_follow}

-- what a statement does is that it is refused, or carried out
pub record RefusedWith (old : State) (lines : List OutputLine) (new : State) : Type 0 where
  pub refusal : Refusal
  pub by : IsRefusedBy refusal old lines new

module _ (setting : Setting) (rises : Rises) (old new : State) (lines : List OutputLine) where
  pub refused_or_done : (statement : Statement) → Outcome setting rises old statement lines new → RefusedWith old lines new ⊎ IsCarriedOut setting rises old statement lines new
  refused_or_done statement (inl (refusal, licensed, by)) = inl (record { refusal = refusal; by = by })
  refused_or_done statement (inr by_checks) = go (first_refusal (early setting old statement ∷ late setting old statement ∷ [])) refl where
    go : (o : Option Refusal) → first_refusal (early setting old statement ∷ late setting old statement ∷ []) ≡ o
        → RefusedWith old lines new ⊎ IsCarriedOut setting rises old statement lines new
    go None e = inr (rw e at by_checks)
    go (Some refusal) e =
        let refused : IsRefusalCaused rises refusal × IsRefusedBy refusal old lines new = rw e at by_checks in
        inl (record { refusal = refusal; by = refused.1 })

  -- a line of a run, or its want of memory
  abbrev pub Goes : ScriptLine → Type 0
  Goes line = LineOutcome setting rises old line lines new ⊎ IsRefusedBy why.Memory old lines new

  module _ (name : List ℕ) (c : Cursor) (is : named old.cursors name ≡ Some c) where
    -- the cursor stays where the open cursors stay
    with_these : (cursors : List Cursor) → new.cursors ≡ cursors → named cursors name ≡ Some c → named new.cursors name ≡ Some c
    with_these cursors e h = subst (λ cs. named cs name ≡ Some c) (sym e) h

    with_same : new.cursors ≡ old.cursors → named new.cursors name ≡ Some c
    with_same e = with_these old.cursors e is

    with_refused : (refusal : Refusal) → IsRefusedBy refusal old lines new → named new.cursors name ≡ Some c
    with_refused refusal h = with_same (ap (λ state. state.cursors) h.1)

    with_done : (statement : Statement) → asks name (Says statement) ≡ false → closes name (Says statement) ≡ false → IsCarriedOut setting rises old statement lines new
        → named new.cursors name ≡ Some c
    with_done (Create other columns) a s h = with_same (ap (λ state. state.cursors) h.1)
    with_done (Insert other row) a s (relation, found, h) = with_same (ap (λ state. state.cursors) h.1)
    with_done (Delete other id) a s h = with_same (ap (λ state. state.cursors) h.1)
    with_done (Load other file header) a s (relation, found, h) = with_same (ap (λ state. state.cursors) h.1)
    with_done (IndexOn column threshold) a s h = with_same (ap (λ state. state.cursors) h.1)
    with_done (Rtree column) a s h = with_same (ap (λ state. state.cursors) h.1)
    with_done (OpenCursor other p) a s h =
        with_these (old.cursors ++ new_cursor other p old.database ∷ []) (ap (λ state. state.cursors) h.1) (kept_opened old.cursors name c (new_cursor other p old.database) is)
    with_done (Next other count) a s (cursor, found, rest) =
        with_these _ (ap (λ state. state.cursors) rest.2)
        (kept_replaced old.cursors name other c rest.0 (after_name other count cursor found rest.0 rest.1) a is) where
          after_name : (other : List ℕ) (count : ℕ) (cursor : Cursor) → named old.cursors other ≡ Some cursor → (after : Cursor)
              → Steps setting.gap (IsLicensed setting rises old (Next other count)) count cursor lines after → after.name ≡ other
          after_name other count cursor found after steps =
              steps_name (steps_follow setting.gap (IsLicensed setting rises old (Next other count)) count cursor lines after steps) ∙ found_name old.cursors other cursor found where
                steps_name : GoesOnPrinting (IsLicensed setting rises old (Next other count)) (rows_left setting.gap cursor) count cursor lines after → after.name ≡ cursor.name
                steps_name (inl (enough, printed, gave)) = gave.name
                steps_name (inr (inl (few, printed, gave))) = gave.name
                steps_name (inr (inr (rows, refusal, m, less, within, printed, gave))) = gave.name
    with_done (CloseCursor other) a s h = with_these _ (ap (λ state. state.cursors) h.1) (kept_closed old.cursors name other c s is)
    with_done (Show count p) a s (after, steps, h) = with_same (ap (λ state. state.cursors) h)
    with_done (Stats other) a s (cursor, found, h) = with_same (ap (λ state. state.cursors) h.1)
    with_done (Far count column goal) a s h = with_same (ap (λ state. state.cursors) h.1)
    with_done (Blocks column) a s (relation, found, h) = with_same (ap (λ state. state.cursors) h.1)

    with_outcome : (statement : Statement) → asks name (Says statement) ≡ false → closes name (Says statement) ≡ false
        → RefusedWith old lines new ⊎ IsCarriedOut setting rises old statement lines new → named new.cursors name ≡ Some c
    with_outcome statement a s (inl r) = with_refused r.refusal r.by
    with_outcome statement a s (inr h) = with_done statement a s h

    -- a line that neither asks nor closes it
    pub line_stays : (line : ScriptLine) → asks name line ≡ false → closes name line ≡ false → Goes line → named new.cursors name ≡ Some c
    line_stays line a s (inr h) = with_refused why.Memory h
    line_stays Blank a s (inl h) = with_same (ap (λ state. state.cursors) h.1)
    line_stays TooLong a s (inl h) = with_refused why.LineTooLong h
    line_stays (BadToken column) a s (inl h) = with_refused (why.Syntax column) h
    line_stays OutOfRange a s (inl h) = with_refused why.Range h
    line_stays (Says statement) a s (inl h) = with_outcome statement a s (refused_or_done statement h)

-- neither of two tests is true
pub neither : (a b : Bool) → a || b ≡ false → (a ≡ false) × (b ≡ false)
neither true b h = absurd (true≢false h)
neither false b h = (refl, h)

pub run_stays : (setting : Setting) (old new : State) (script : List ScriptLine) (rises : Rises) (printed : List OutputLine)
    → Run setting old script rises printed new → (name : List ℕ) (c : Cursor)
    → cursor_named old name ≡ Some c → list_any (asks name) script ≡ false → list_any (closes name) script ≡ false
    → cursor_named new name ≡ Some c
run_stays setting old new [] rises printed run name c is a s = subst (λ (state : State). cursor_named state name ≡ Some c) (sym run.1) is
run_stays setting old new (line ∷ script) rises printed run name c is a s =
    let asked = neither (asks name line) (list_any (asks name) script) a in
    let shut = neither (closes name line) (list_any (closes name) script) s in
    run_stays setting run.mid new script run.others run.more run.goes name c
    (line_stays setting run.own old run.mid run.first name c is line asked.0 shut.0 run.outcome) asked.1 shut.1
