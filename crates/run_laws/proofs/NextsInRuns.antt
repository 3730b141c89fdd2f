-- All rows that the `next`s of a cursor print in a run are the following rows of its answer.
use Rattle.std.proofs.Common.{◌≡◌, ◌⊎◌, ℕ, ◌+◌, Bool, true, false, cond, nat_lt, not, ◌&&◌, ◌||◌, List, [], ◌∷◌, length, take, drop, Some, refl}
use Rattle.std.proofs.Common.{sym, ap, subst, ◌∙◌, inl, inr, arith}
use Rattle.std.specs.List.{list_any}
use Rattle.std.proofs.lemmas.List.{length-drop}
use Rattle.sand_base.specs.declared.refusal.Refusal.{Refusal}
use Rattle.sand_base.specs.declared.refusal.Refusal.TheVariants as why
use Rattle.sand_model.specs.Cursor.{State, Cursor, OutputLine}
use Rattle.sand_model.specs.Database.{same_name}
use Rattle.sand_model.specs.Operators.{PlanRow}
use Rattle.sand_model.specs.Outcome.{Rises, IsLicensed, IsRefusedBy, IsCarriedOut}
use Rattle.sand_model.specs.OutputText.{is_refused}
use Rattle.sand_model.specs.Run.{LineOutcome, Run}
use Rattle.statements.specs.Statement.{Create, Insert, Delete, Load, Index as IndexOn, Rtree, OpenCursor, Next, CloseCursor, Show, Stats, Far, Blocks}
use Rattle.sand_model.specs.ScriptLine.{ScriptLine, Blank, TooLong, BadToken, OutOfRange, Says}
use Rattle.sand_model.specs.StatementChecks.{Setting, cursor_named}
use Rattle.run_laws.specs.Following.{rows_left, GoesOnPrinting, asks, closes, rows_among, rows_given, is_end, is_end_given, HasGiven}
use Rattle.run_laws.proofs.CursorsByName.{one_name, found_name, now_replaced}
use Rattle.run_laws.proofs.CursorsInRuns.{RefusedWith, refused_or_done, Goes, line_stays, neither}
use Rattle.run_laws.proofs.StepsFollow.{steps_follow}
use Rattle.run_laws.proofs.NextsOfLines.{and_none, given_nothing, left_after, given_on, given_by_steps, ended_by_steps, fewer_behind, first_few}

module _ (setting : Setting) (rises : Rises) (old new : State) (lines : List OutputLine) (name : List ℕ) (c : Cursor) (is : cursor_named old name ≡ Some c) where
  -- a refused line
  given_refused : (refusal : Refusal) → IsRefusedBy refusal old lines new → HasGiven setting.gap name c (rows_among lines) (list_any is_end lines) new
  given_refused refusal (printed, same) =
      subst (λ ls. HasGiven setting.gap name c (rows_among ls) (list_any is_end ls) new) (sym printed)
      (given_nothing setting.gap name new c (subst (λ (state : State). cursor_named state name ≡ Some c) (sym same) is))

  -- a `next` of it is refused, or goes on
  abbrev pub NextGoes : ℕ → Type 0
  NextGoes count =
      RefusedWith old lines new
      ⊎ ((after : Cursor) × GoesOnPrinting (IsLicensed setting rises old (Next name count)) (rows_left setting.gap c) count c lines after × (cursor_named new name ≡ Some after))

  next_done : (count : ℕ) → RefusedWith old lines new ⊎ IsCarriedOut setting rises old (Next name count) lines new → NextGoes count
  next_done count (inl r) = inl r
  next_done count (inr (found, found_is, rest)) =
      let same : found ≡ c = one_cursor found c found_is is in
      let steps : GoesOnPrinting (IsLicensed setting rises old (Next name count)) (rows_left setting.gap c) count c lines rest.0 =
      subst (λ cursor. GoesOnPrinting (IsLicensed setting rises old (Next name count)) (rows_left setting.gap cursor) count cursor lines rest.0) same
      (steps_follow setting.gap (IsLicensed setting rises old (Next name count)) count found lines rest.0 rest.1) in
      let named_so : rest.0.name ≡ name = steps_name count rest.0 steps ∙ found_name old.cursors name c is in
      let now_is : cursor_named new name ≡ Some rest.0 =
      subst (λ (state : State). cursor_named state name ≡ Some rest.0) (sym rest.2) (now_replaced old.cursors name c rest.0 named_so is) in
      inr (rest.0, steps, now_is) where
        one_cursor : (a b : Cursor) → cursor_named old name ≡ Some a → cursor_named old name ≡ Some b → a ≡ b
        one_cursor a b h k = let e : Some a ≡ Some b = sym h ∙ k in cc

        steps_name : (count : ℕ) (after : Cursor) → GoesOnPrinting (IsLicensed setting rises old (Next name count)) (rows_left setting.gap c) count c lines after → after.name ≡ c.name
        steps_name count after (inl (enough, printed, gave)) = gave.name
        steps_name count after (inr (inl (few, printed, gave))) = gave.name
        steps_name count after (inr (inr (rows, refusal, m, less, within, printed, gave))) = gave.name

  next_goes : (count : ℕ) → Goes setting rises old new lines (Says (Next name count)) → NextGoes count
  next_goes count (inr r) = inl (record { refusal = why.Memory; by = r })
  next_goes count (inl o) = next_done count (refused_or_done setting rises old new lines (Next name count) o)

  -- what it gives
  given_next : (count : ℕ) → NextGoes count → HasGiven setting.gap name c (rows_among lines) (list_any is_end lines) new
  given_next count (inl r) = given_refused r.refusal r.by
  given_next count (inr (after, steps, now_is)) =
      given_by_steps setting.gap name (IsLicensed setting rises old (Next name count)) count c after lines new now_is steps

  pub next_given : (count : ℕ) → Goes setting rises old new lines (Says (Next name count)) → HasGiven setting.gap name c (rows_among lines) (list_any is_end lines) new
  next_given count h = given_next count (next_goes count h)

  -- and whether it prints the end
  ended_next : (count : ℕ) → NextGoes count → list_any is_end lines ≡ nat_lt (length (rows_left setting.gap c)) count && not (list_any is_refused lines)
  ended_next count (inr (after, steps, now_is)) =
      ended_by_steps setting.gap name (IsLicensed setting rises old (Next name count)) count c after lines (rows_left setting.gap c) steps
  ended_next count (inl r) =
      let unended : list_any is_end lines ≡ false = ap (list_any is_end) r.by.0 in
      let refused : list_any is_refused lines ≡ true = ap (list_any is_refused) r.by.0 in
      rw (unended, refused) (sym (and_none (nat_lt (length (rows_left setting.gap c)) count)))

  pub next_ends : (count : ℕ) → Goes setting rises old new lines (Says (Next name count))
      → list_any is_end lines ≡ nat_lt (length (rows_left setting.gap c)) count && not (list_any is_refused lines)
  next_ends count h = ended_next count (next_goes count h)

  -- the rows that a line gives of the cursor
  abbrev Given : ScriptLine → Type 0
  Given line = HasGiven setting.gap name c (cond (asks name line) (rows_among lines) []) (asks name line && list_any is_end lines) new

  -- a line that neither asks nor closes it
  given_beside : (line : ScriptLine) → asks name line ≡ false → closes name line ≡ false → Goes setting rises old new lines line → Given line
  given_beside line a s h = rw a (given_nothing setting.gap name new c (line_stays setting rises old new lines name c is line a s h))

  -- a `next` of any cursor
  given_by_next : (other : List ℕ) (count : ℕ) → Goes setting rises old new lines (Says (Next other count)) → Given (Says (Next other count))
  given_by_next other count h = go (same_name other name) refl where
    go : (b : Bool) → same_name other name ≡ b → Given (Says (Next other count))
    go false a = given_beside (Says (Next other count)) a refl h
    go true a = rw a (next_given count (subst (λ said. Goes setting rises old new lines (Says (Next said count))) (one_name other name a) h))

  -- any line that doesn't close it
  pub line_given : (line : ScriptLine) → closes name line ≡ false → Goes setting rises old new lines line → Given line
  line_given (Says (Next other count)) s h = given_by_next other count h
  line_given (Says (Create other columns)) s h = given_beside (Says (Create other columns)) refl s h
  line_given (Says (Insert other row)) s h = given_beside (Says (Insert other row)) refl s h
  line_given (Says (Delete other id)) s h = given_beside (Says (Delete other id)) refl s h
  line_given (Says (Load other file header)) s h = given_beside (Says (Load other file header)) refl s h
  line_given (Says (IndexOn column threshold)) s h = given_beside (Says (IndexOn column threshold)) refl s h
  line_given (Says (Rtree column)) s h = given_beside (Says (Rtree column)) refl s h
  line_given (Says (OpenCursor other p)) s h = given_beside (Says (OpenCursor other p)) refl s h
  line_given (Says (CloseCursor other)) s h = given_beside (Says (CloseCursor other)) refl s h
  line_given (Says (Show count p)) s h = given_beside (Says (Show count p)) refl s h
  line_given (Says (Stats other)) s h = given_beside (Says (Stats other)) refl s h
  line_given (Says (Far count column goal)) s h = given_beside (Says (Far count column goal)) refl s h
  line_given (Says (Blocks column)) s h = given_beside (Says (Blocks column)) refl s h
  line_given Blank s h = given_beside Blank refl s h
  line_given TooLong s h = given_beside TooLong refl s h
  line_given (BadToken column) s h = given_beside (BadToken column) refl s h
  line_given OutOfRange s h = given_beside OutOfRange refl s h

pub run_given : (setting : Setting) (old new : State) (script : List ScriptLine) (rises : Rises) (printed : List OutputLine)
    → (run : Run setting old script rises printed new) → (name : List ℕ) (c : Cursor)
    → cursor_named old name ≡ Some c → list_any (closes name) script ≡ false
    → HasGiven setting.gap name c (rows_given name setting old script rises printed new run) (is_end_given name setting old script rises printed new run) new
run_given setting old new [] rises printed run name c is s =
    given_nothing setting.gap name new c (subst (λ (state : State). cursor_named state name ≡ Some c) (sym run.1) is)
run_given setting old new (line ∷ script) rises printed run name c is s =
    let shut = neither (closes name line) (list_any (closes name) script) s in
    let first : HasGiven setting.gap name c (cond (asks name line) (rows_among run.first) []) (asks name line && list_any is_end run.first) run.mid =
    line_given setting run.own old run.mid run.first name c is line shut.0 run.outcome in
    given_on setting.gap name c (cond (asks name line) (rows_among run.first) []) (rows_given name setting run.mid script run.others run.more new run.goes)
    (asks name line && list_any is_end run.first) (is_end_given name setting run.mid script run.others run.more new run.goes) run.mid new first
    (run_given setting run.mid new script run.others run.more run.goes name first.now first.found shut.1)

-- the end, behind what a cursor gave
end_behind : (setting : Setting) (rises : Rises) (mid new : State) (lines : List OutputLine) (name : List ℕ) (c : Cursor) (rows : List PlanRow) (mark : Bool)
    → HasGiven setting.gap name c rows mark mid → (count : ℕ) → Goes setting rises mid new lines (Says (Next name count))
    → list_any is_end lines ≡ nat_lt (length (rows_left setting.gap c)) (length rows + count) && not (list_any is_refused lines)
end_behind setting rises mid new lines name c rows mark h count o =
    let left : rows_left setting.gap h.now ≡ drop (length rows) (rows_left setting.gap c) =
    left_after setting.gap name rows (c.is_ended || mark) c h.now h.gave in
    let behind : length (rows_left setting.gap h.now) ≡ length (drop (length rows) (rows_left setting.gap c)) = ap length left in
    let long = length-drop (length rows) (rows_left setting.gap c) in
    let few = first_few (length rows) (rows_left setting.gap c) in
    let first : length rows ≡ length (take (length rows) (rows_left setting.gap c)) = ap length h.first in
    next_ends setting rises mid new lines name h.now h.found count o
    ∙ ap (λ b. b && not (list_any is_refused lines))
    (fewer_behind (length (rows_left setting.gap h.now)) (length rows) (length (rows_left setting.gap c)) count (omega (arith, behind, long, few, first)))

pub run_ends : (setting : Setting) (own rises : Rises) (old mid new : State) (script : List ScriptLine) (printed lines : List OutputLine)
    → (run : Run setting old script rises printed mid) → (name : List ℕ) (c : Cursor)
    → cursor_named old name ≡ Some c → list_any (closes name) script ≡ false
    → (count : ℕ) → LineOutcome setting own mid (Says (Next name count)) lines new ⊎ IsRefusedBy why.Memory mid lines new
    → list_any is_end lines
    ≡ nat_lt (length (rows_left setting.gap c)) (length (rows_given name setting old script rises printed mid run) + count) && not (list_any is_refused lines)
run_ends setting own rises old mid new script printed lines run name c is s count o =
    end_behind setting own mid new lines name c _ _ (run_given setting old mid script rises printed run name c is s) count o
