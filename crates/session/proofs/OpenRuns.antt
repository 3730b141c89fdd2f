-- A run with the cursors that are open: how a line leads it on, and how it ends.
use Rattle.std.proofs.Common.{◌≡◌, ℕ, suc, ◌+◌, ◌*◌, ◌^◌, ◌≤◌, Bool, false, ◌||◌, eqb, List, [], ◌∷◌, ◌++◌, length, Option, Ok, Err, refl, sym, ap, ◌∙◌, subst, append_assoc, arith, length-append}
use Rattle.std.proofs.lemmas.Bool.{cond_both}
use Rattle.line_exec.proofs.Moments.{follows_open, none_stand}
use Rattle.line_exec.specs.LineCarried.{CarriesKept, LineCarried}
use Rattle.line_exec.specs.Keeping.{IsUntold, last_end, most_kept}
use Rattle.line_exec.specs.declared.fault.LineFault.{LineFault}
use Rattle.line_exec.specs.declared.fault.LineFault.TheVariants as fault
use Rattle.line_meaning.proofs.Runs.{follows_on}
use Rattle.line_meaning.specs.Carrying.{FollowsMoment}
use Rattle.open_cursors.specs.Carried.{AreCounted, GaveAtMost}
use Rattle.open_cursors.specs.OpenCursors.{AreHeld}
use Rattle.open_cursors.specs.OverPages.{StandOver}
use Rattle.open_cursors.specs.declared.open_cursor.OpenCursor.{OpenCursor}
use Rattle.plan_ops.specs.declared.source.Source.{Source}
use Rattle.plan_ops.specs.declared.stage.Stage.{Stage}
use Rattle.sand_base.specs.Faults.{last_count}
use Rattle.sand_base.specs.Shelf.{Files}
use Rattle.sand_base.specs.declared.limits.Limits.{Limits}
use Rattle.sand_base.specs.declared.source.Failed.{Failed}
use Rattle.sand_journal.specs.ChangeBody.{ChangeValue}
use Rattle.sand_model.specs.Cursor.{Cursor, OutputLine, State}
use Rattle.sand_store.specs.Catalog.{StoreState}
use Rattle.script_lines.specs.Lines.{cut, onto, lines, last_line}
use Rattle.script_lines.specs.Reading.{ReadsLines}
use Rattle.script_lines.specs.declared.TheConstants.{LONGEST_SCRIPT}
use Rattle.script_lines.specs.declared.script_lines.ScriptLines.{ScriptLines}
use Rattle.sand_store.specs.Contents.{database}
use Rattle.statement_exec.specs.Moment.{Moment, moment_of, state_with, while_open}
use Rattle.session.proofs.KeptChanges.{IsLastOf}
use Rattle.session.specs.OpenRun.{HasGivenLines, OpenRun, Spot, spot_of}
use Rattle.statement_exec.specs.Printing.{Prints}
use Rattle.session.specs.KeptLines.{IsInHand}
use Rattle.session.specs.RunStates.{CarriesAll, Draws, EndsAt, FromBetweenLines, IsBeforeHand, RunState, ended, kept_both, kept_by, run_state, status_of_line, untold_by}
use Rattle.session.specs.declared.status.Status.{Status}
use Rattle.session.specs.declared.status.Status.TheVariants as status
use Rattle.session.proofs.LinesCarried.{leads_nowhere, then_carried, then_drawn, hand_carried}
use Rattle.session.proofs.Endings.{Ends-broken, Ends-over, Ends-paused}

-- ---- the rows that cursors gave

-- no more than so many, and so no more than this
pub most_upto : (few many : ℕ) (cs : List Cursor) → few ≤ many → GaveAtMost few cs → GaveAtMost many cs
most_upto few many [] up h = tt
most_upto few many (c ∷ cs) up h = (omega (arith, up, h.0), most_upto few many cs up h.1)

-- ---- the lines that a reader gave

-- a cut text has no more lines than bytes
cut_few : (bytes : List ℕ) → length (cut bytes).0 + length (cut bytes).1 ≤ length bytes
cut_few [] = omega arith
cut_few (b ∷ bytes) =
    let rest = cut_few bytes in
    let front : (ls : List (List ℕ)) (piece : List ℕ) → length ls + length piece ≤ length bytes
    → length (onto b ls piece).0 + length (onto b ls piece).1 ≤ suc (length bytes) =
    elim [ [] ↦ λ piece few. omega (arith, few) | line ∷ ls ↦ λ piece few. omega (arith, few) ] in
    cond_both (eqb b 10) ([] ∷ (cut bytes).0, (cut bytes).1) (onto b (cut bytes).0 (cut bytes).1) (λ w. length w.0 + length w.1 ≤ suc (length bytes))
    (λ e. omega (arith, rest)) (λ e. front (cut bytes).0 (cut bytes).1 rest)

last_few : (piece : List ℕ) → length (last_line piece) ≤ length piece
last_few [] = omega arith
last_few (b ∷ piece) = omega arith

lines_few : (bytes : List ℕ) → length (lines bytes) ≤ length bytes
lines_few bytes = omega (arith, length-append (cut bytes).0 (last_line (cut bytes).1), last_few (cut bytes).1, cut_few bytes)

module _ (reader reader' : ScriptLines) (between left : Option (List ℕ)) (count : ℕ) (is_long : Bool) (draws : Draws (Ok is_long) reader reader' between left)
    (h : HasGivenLines reader between count) where
  -- one more line was given
  pub counted_more : HasGivenLines reader' left (count + 1)
  counted_more =
      let one = draws.2 h.bytes h.given h.reads in
      record {
        bytes = h.bytes ++ one.0;
        given = h.given ++ one.2.line ∷ [];
        reads = one.2.reads;
        counted = omega (arith, length-append h.given (one.2.line ∷ []), h.counted);
      }

  -- a script has no more lines than bytes
  few_given : count ≤ LONGEST_SCRIPT
  few_given =
      let one = draws.2 h.bytes h.given h.reads in
      let first : length (lines (h.bytes ++ one.0)) ≡ length ((h.given ++ one.2.line ∷ []) ++ one.2.others) = ap length one.2.first in
      omega (arith, first, length-append (h.given ++ one.2.line ∷ []) one.2.others, length-append h.given (one.2.line ∷ []), lines_few (h.bytes ++ one.0), one.2.most, h.counted)

-- ---- how the run goes on and ends

-- which cursors are open is nothing of what follows
follows_state : (first last : Moment) (state : State) → FollowsMoment first last → FollowsMoment first (record last { state = state })
follows_state first last state f = record { limits = f.limits; told = f.told; files = f.files; disk = f.disk; shelf = f.shelf }

-- before the first line
abbrev pub OpenRun-begin : (reader : ScriptLines) (left : Option (List ℕ)) (store : StoreState) (files : Option Files) (shelf : ℕ) (items : List (OpenCursor Source Stage)) (took : List ℕ → Type 0)
    (kept : Option (List ChangeValue)) → ((left : Option (List ℕ)) → ReadsLines reader left [] []) → items ≡ [] → AreHeld store.pool.stamps items
    → OpenRun (run_state reader left (moment_of store files shelf) false kept) took (spot_of reader left store files shelf items false took)
OpenRun-begin reader left store files shelf items took kept begun none held = record {
  cs = [];
  own = refl;
  stand = none_stand store.pool items none;
  held = held;
  count = 0;
  counted = record { bytes = []; given = []; reads = begun left; counted = refl };
  given = tt;
  kept = kept;
  goes = leads_nowhere (run_state reader left (moment_of store files shelf) false kept) took;
}

module _ (start : RunState) (before : List ℕ → Type 0) (at : Spot) (run : OpenRun start before at) where
  -- no more lines
  pub Ends-open : (untold : Option (List ChangeValue)) (why result : Status) (reader' : ScriptLines) (left : Option (List ℕ)) → result ≡ ended why at.refused
      → Draws (Err why) at.reader reader' at.left left
      → FromBetweenLines start (EndsAt result (while_open at.store at.files at.shelf run.cs) run.kept untold left before at.took)
  Ends-open untold why result reader' left is draws =
      Ends-over start before at.took why at.reader reader' at.left left (while_open at.store at.files at.shelf run.cs) at.refused run.kept untold result is run.goes draws

  module _ (reader' : ScriptLines) (left' : Option (List ℕ)) (is_long : Bool) (draws : Draws (Ok is_long) at.reader reader' at.left left') where
    -- no cursor gave more rows than are counted
    pub rows_counted : AreCounted run.cs
    rows_counted =
        let few : run.count ≤ LONGEST_SCRIPT = few_given at.reader reader' at.left left' run.count is_long draws run.counted in
        most_upto (run.count * 4294967295) last_count run.cs (omega (arith, few)) run.given

    -- the journal has room for what the next line keeps
    pub room_left : 2 ^ 62 + run.count * most_kept ≤ last_end
    room_left =
        let few : run.count ≤ LONGEST_SCRIPT = few_given at.reader reader' at.left left' run.count is_long draws run.counted in
        omega (arith, few)

    module _ (store' : StoreState) (files' : Option Files) (shelf' : ℕ) (items' : List (OpenCursor Source Stage)) (now : List ℕ → Type 0)
        (follows : FollowsMoment (moment_of at.store at.files at.shelf) (moment_of store' files' shelf')) where
      -- the next line was carried out
      abbrev pub OpenRun-line : (mine : Option (List ChangeValue)) (r t : Bool) (l : LineCarried (CarriesKept reader'.line mine) (while_open at.store at.files at.shelf) (while_open store' files' shelf') run.cs at.took now
          (Ok r) (StandOver store'.pool items')) → AreHeld store'.pool.stamps items'
          → t ≡ (at.refused || r) → OpenRun start before (spot_of reader' left' store' files' shelf' items' t now)
      OpenRun-line mine r t l held joined =
          let old : Moment = while_open at.store at.files at.shelf run.cs in
          let new : Moment = while_open store' files' shelf' l.after in
          record {
            cs = l.after;
            own = l.own;
            stand = l.at;
            held = held;
            count = run.count + 1;
            counted = counted_more at.reader reader' at.left left' run.count is_long draws run.counted;
            given = most_upto (run.count * 4294967295 + 4294967295) ((run.count + 1) * 4294967295) l.after (omega arith) (l.given (run.count * 4294967295) run.given);
            kept = kept_both run.kept mine;
            goes = then_carried start (run_state reader' left' old at.refused run.kept) (run_state reader' left' new t (kept_both run.kept mine)) before at.took now
                (then_drawn start before at.took at.reader reader' at.left left' old at.refused run.kept is_long run.goes draws)
                (hand_carried (run_state reader' left' old at.refused run.kept) new at.took now r t mine l.writes (follows_open at.store store' at.files files' at.shelf shelf' run.cs l.after follows) joined);
          }

      -- the sink failed
      pub Ends-line : (own untold : Option (List ChangeValue)) (e : Failed) (l : LineCarried (CarriesKept reader'.line own) (while_open at.store at.files at.shelf) (while_open store' files' shelf') run.cs at.took now (Err e) (StandOver store'.pool items'))
          → FromBetweenLines start (EndsAt status.WriteFault (while_open store' files' shelf' l.after) (kept_both run.kept own) untold left' before now)
      Ends-line own untold e l first script text so_far =
          let old : Moment = while_open at.store at.files at.shelf run.cs in
          let new : Moment = while_open store' files' shelf' l.after in
          Ends-paused start (run_state reader' left' old at.refused run.kept) before at.took now status.WriteFault new (kept_both run.kept own) untold left'
          (then_drawn start before at.took at.reader reader' at.left left' old at.refused run.kept is_long run.goes draws)
          (Ends-broken (run_state reader' left' old at.refused run.kept) new at.took now own untold l.writes
          (follows_open at.store store' at.files files' at.shelf shelf' run.cs l.after follows)) first script text so_far

      -- where nothing of the line was written and no count rose, the moment before it is the last one but for its state
      last_untold : (n m : Moment) → n.disk ≡ m.disk → n.shelf ≡ m.shelf → FollowsMoment m n → record n { state = m.state } ≡ m
      last_untold n m disk shelf f =
          ap (λ (l : Limits). record n { state = m.state; limits = l }) f.limits
          ∙ ap (λ (b : Bool). record n { state = m.state; limits = m.limits; told = b }) f.told
          ∙ ap (λ (o : Option Files). record n { state = m.state; limits = m.limits; told = m.told; files = o }) f.files
          ∙ ap (λ (k : ℕ). record m { disk = k; shelf = n.shelf }) disk
          ∙ ap (λ (k : ℕ). record m { shelf = k }) shelf

      -- the journal failed: what was written is the text of the lines before this one, which is in hand
      pub Ends-untold : (own : Option (List ChangeValue)) (e : Failed)
          → LineCarried (CarriesKept reader'.line own) (while_open at.store at.files at.shelf) (while_open store' files' shelf') run.cs at.took now (Err e) (StandOver store'.pool items')
          → IsUntold at.took now (moment_of at.store at.files at.shelf) (moment_of store' files' shelf') fault.Journal
          → FromBetweenLines start (EndsAt status.JournalFault (record (moment_of store' files' shelf') { state = (while_open at.store at.files at.shelf run.cs).state }) run.kept own left' before now)
      Ends-untold own e l untold first script text so_far =
          let old : Moment = while_open at.store at.files at.shelf run.cs in
          let last : Moment = moment_of store' files' shelf' in
          let follows_old : FollowsMoment old last = follows_open at.store store' at.files files' at.shelf shelf' run.cs [] follows in
          let grown = then_drawn start before at.took at.reader reader' at.left left' old at.refused run.kept is_long run.goes draws first script text so_far in
          let hand = grown.2 in
          let same : record last { state = old.state } ≡ old = last_untold last old untold.1 untold.2 follows_old in
          let printed : List OutputLine = l.writes.holds.1.lines in
          let made : CarriesKept reader'.line own (record last { state = old.state }) (while_open store' files' shelf' l.after) printed =
          subst (λ (m : Moment). CarriesKept reader'.line own m (while_open store' files' shelf' l.after) printed) (sym same) l.writes.holds.1.holds in
          let stops : IsBeforeHand (CarriesAll run.kept first (record last { state = old.state })) (IsInHand own (record last { state = old.state })) (lines hand.bytes) (text ++ grown.0) = record {
            carried_out = hand.given;
            in_hand = hand.gives.line;
            others = hand.gives.others;
            first_of = hand.gives.first ∙ append_assoc hand.given (hand.gives.line ∷ []) hand.gives.others;
            hand = (
              (while_open store' files' shelf' l.after).state,
              printed,
              subst (λ (line : Option (List ℕ)). CarriesKept line own (record last { state = old.state }) (while_open store' files' shelf' l.after) printed) hand.gives.hand made,
            );
            printed = (at.refused, subst (λ (m : Moment). Prints (CarriesAll run.kept first m hand.given) at.refused (text ++ grown.0)) (sym same) hand.printed);
          } in (
            (grown.0, λ bytes taken. untold.0 (bytes ++ grown.0) (grown.1 bytes taken), (hand.bytes, hand.consumed, (hand.gives.most, stops))),
            follows_state first last old.state (follows_on first old last hand.follows follows_old),
          )

      -- the line ended the run: in a state behind it where the sink failed, and before it where the journal did
      abbrev pub HandEnds : Option (List ChangeValue) → LineFault → Status → Type 0
      HandEnds own why result = (last : State) × IsLastOf why (database at.store) (database store') last
          × FromBetweenLines start (EndsAt result (record (moment_of store' files' shelf') { state = last }) (kept_by why run.kept own) (untold_by why own) left' before now)

      pub Ends-hand : (own : Option (List ChangeValue)) (why : LineFault) (result : Status) → result ≡ status_of_line why
          → LineCarried (CarriesKept reader'.line own) (while_open at.store at.files at.shelf) (while_open store' files' shelf') run.cs at.took now (Err (record {})) (StandOver store'.pool items')
          → IsUntold at.took now (moment_of at.store at.files at.shelf) (moment_of store' files' shelf') why → HandEnds own why result
      Ends-hand own why result is l untold = subst (λ (s : Status). HandEnds own why s) (sym is) (by why untold) where
        by : (w : LineFault) → IsUntold at.took now (moment_of at.store at.files at.shelf) (moment_of store' files' shelf') w → HandEnds own w (status_of_line w)
        by fault.Sink u = (state_with l.after (database store'), refl, Ends-line own (untold_by fault.Sink own) (record {}) l)
        by fault.Journal u = (state_with run.cs (database at.store), refl, Ends-untold own (record {}) l u)
