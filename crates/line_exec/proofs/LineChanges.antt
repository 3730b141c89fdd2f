-- The changes that a line makes: none, or that of its statement.
use Rattle.std.proofs.Common.{◌≡◌, ℕ, Bool, true, false, List, [], ◌∷◌, Option, Some, None, refl, sym, subst, true≢false}
use Rattle.std.specs.List.{list_any}
use Rattle.std.specs.Prelude.{Result, Ok, Err, is_some}
use Rattle.journal_replay.specs.LedBy.{LedByOne}
use Rattle.line_meaning.specs.Carrying.{CarriesLine}
use Rattle.line_meaning.specs.Reading.{Says}
use Rattle.line_meaning.specs.Spoken.{IsLine}
use Rattle.open_cursors.specs.Carried.{ChangesRelations}
use Rattle.sand_base.specs.Shelf.{Files}
use Rattle.sand_base.specs.declared.refusal.Refusal.{Refusal}
use Rattle.sand_journal.specs.ChangeBody.{ChangeValue}
use Rattle.sand_journal.specs.declared.journal.Journal.{Journal}
use Rattle.sand_model.specs.Cursor.{Cursor, OutputLine, Refused}
use Rattle.sand_model.specs.Database.{Database}
use Rattle.sand_model.specs.OutputText.{is_refused}
use Rattle.sand_model.specs.ScriptLine as script_line
use Rattle.sand_model.specs.ScriptLine.{ScriptLine}
use Rattle.sand_store.specs.Calls.{IsUnchanged}
use Rattle.sand_store.specs.Catalog.{StoreState}
use Rattle.sand_store.specs.Contents.{database}
use Rattle.statements.specs.Statement as statement
use Rattle.statements.specs.Statement.{Statement, statement_value}
use Rattle.statements.specs.declared.statement.Statement as declared
use Rattle.statement_exec.specs.Moment.{Moment, while_open}
use Rattle.statement_exec.specs.Performing.{line_of_answer, reply_line}
use Rattle.statement_exec.specs.declared.reply.Reply.{Reply}
use Rattle.statement_exec.specs.declared.reply.Reply.TheVariants as reply
use Rattle.line_exec.proofs.Led.{lead_none, lead_one}
use Rattle.line_exec.specs.KeptChanges.{IsToKeep, LeadTo, no_changes}
use Rattle.line_exec.specs.LineCarried.{CarriesKept, MakesChanges}
use Rattle.line_exec.specs.MadeChanges.{AreChangesBy, AreChangesOf, IsAccepted, IsChangeBy}

-- ---- no change

-- a refusal makes none, whatever was said
pub none_by_refusal : (d : Database) (said : ScriptLine) (w : Refusal) → AreChangesOf d said (Refused w ∷ []) []
none_by_refusal d script_line.Blank w = refl
none_by_refusal d script_line.TooLong w = refl
none_by_refusal d (script_line.BadToken column) w = refl
none_by_refusal d script_line.OutOfRange w = refl
none_by_refusal d (script_line.Says s) w = λ accepted. true≢false accepted.1

-- nothing leads to another state
lead_nowhere : (m : Moment) → LeadTo [] m m.state
lead_nowhere m = record { sketched = refl; takes = λ told setting is limits. tt; becomes = λ told setting is limits. refl }

module _ {T : Type 0} (journal : Option (Journal T)) where
  -- a line that made no change
  none_made : (line : Option (List ℕ)) (old new : Moment) (printed : List OutputLine) → ((said : ScriptLine) → IsLine line said → AreChangesOf old.state.database said printed [])
      → LeadTo [] old new.state → CarriesLine line old new printed → CarriesKept line (no_changes journal) old new printed
  none_made line old new printed own lead carries = by journal where
    by : (j : Option (Journal T)) → CarriesKept line (no_changes j) old new printed
    by None = carries
    by (Some j) = record { carries = carries; own = own; lead = lead }

  -- a line that was refused
  pub none_of_refusal : (line : Option (List ℕ)) (m : Moment) (w : Refusal) → CarriesLine line m m (Refused w ∷ []) → CarriesKept line (no_changes journal) m m (Refused w ∷ [])
  none_of_refusal line m w = none_made line m m (Refused w ∷ []) (λ said is. none_by_refusal m.state.database said w) (lead_nowhere m)

  -- a line that says nothing
  pub none_of_nothing : (line : List ℕ) (m : Moment) → Says line None → CarriesLine (Some line) m m [] → CarriesKept (Some line) (no_changes journal) m m []
  none_of_nothing line m says =
      none_made (Some line) m m [] (λ said is. subst (λ (t : ScriptLine). AreChangesOf m.state.database t [] []) (sym (says said is)) refl) (lead_nowhere m)

  -- a statement that only reads
  pub none_of_reading : (line : List ℕ) (s : declared.Statement) (old new : Moment) (printed : List OutputLine) → Says line (Some s) → (ChangesRelations (statement_value s) → ⊥) → LeadTo [] old new.state
      → CarriesLine (Some line) old new printed → CarriesKept (Some line) (no_changes journal) old new printed
  none_of_reading line s old new printed says reads =
      none_made (Some line) old new printed
      (λ said is. subst (λ (t : ScriptLine). AreChangesOf old.state.database t printed []) (sym (says.1 said is)) (λ (accepted : IsAccepted (statement_value s) printed). reads accepted.0))

-- which cursors are open is nothing of where changes lead
pub lead_open : (changes : List ChangeValue) (old new : StoreState) (files files' : Option Files) (shelf shelf' : ℕ) (cs cs' : List Cursor)
    → LeadTo changes (while_open old files shelf []) (while_open new files shelf []).state → LeadTo changes (while_open old files shelf cs) (while_open new files' shelf' cs').state
lead_open changes old new files files' shelf shelf' cs cs' lead = record { sketched = lead.sketched; takes = lead.takes; becomes = lead.becomes }

-- ---- the change of a statement

-- a statement that has a change changes relations
changes_by : (d : Database) (s : Statement) (change : ChangeValue) → IsChangeBy d s change → ChangesRelations s
changes_by d (statement.Create relation columns) change is = tt
changes_by d (statement.Insert relation values) change is = tt
changes_by d (statement.Delete relation id) change is = tt
changes_by d (statement.Load relation file header) change is = tt
changes_by d (statement.Index column threshold) change is = tt
changes_by d (statement.Rtree column) change is = tt
changes_by d (statement.OpenCursor cursor p) change is = absurd is
changes_by d (statement.Next cursor count) change is = absurd is
changes_by d (statement.CloseCursor cursor) change is = absurd is
changes_by d (statement.Show count p) change is = absurd is
changes_by d (statement.Stats cursor) change is = absurd is
changes_by d (statement.Far count column goal) change is = absurd is
changes_by d (statement.Blocks column) change is = absurd is

-- the line of a reply is no refusal
not_refused : (given : Reply) → list_any is_refused (reply_line given ∷ []) ≡ false
not_refused reply.Accepted = refl
not_refused (reply.Id id) = refl
not_refused (reply.Loaded rows) = refl

-- the changes of a statement that was answered so, where they are kept
abbrev pub made : {T : Type 0} (journal : Option (Journal T)) (s : Statement) (answer : Result Reply Refusal) (body : Option (List ℕ)) (old new : StoreState)
    → IsToKeep (is_some journal) s answer body old new → Option (List ChangeValue)
made {T} None s answer body old new keep = None
made {T} (Some journal) s (Err why) body old new keep = Some []
made {T} (Some journal) s (Ok given) None old new keep = absurd keep
made {T} (Some journal) s (Ok given) (Some body) old new keep = Some (keep.change ∷ [])

-- the statement's line made them
pub carries_made : {T : Type 0} (journal : Option (Journal T)) (s : declared.Statement) (answer : Result Reply Refusal) (body : Option (List ℕ)) (old new : StoreState)
    → (keep : IsToKeep (is_some journal) (statement_value s) answer body old new) → (files files' : Option Files) (shelf shelf' : ℕ) (cs : List Cursor) (line : List ℕ) → Says line (Some s)
    → CarriesLine (Some line) (while_open old files shelf cs) (while_open new files' shelf' cs) (line_of_answer answer ∷ [])
    → CarriesKept (Some line) (made journal (statement_value s) answer body old new keep) (while_open old files shelf cs) (while_open new files' shelf' cs) (line_of_answer answer ∷ [])
carries_made {T} None s answer body old new keep files files' shelf shelf' cs line says carries = carries
carries_made {T} (Some journal) s (Err why) body old new keep files files' shelf shelf' cs line says carries = record {
  carries = carries;
  own = λ said is. none_by_refusal (database old) said why;
  lead = lead_open [] old new files files' shelf shelf' cs cs (lead_none old new files shelf keep);
}
carries_made {T} (Some journal) s (Ok given) None old new keep files files' shelf shelf' cs line says carries = absurd keep
carries_made {T} (Some journal) s (Ok given) (Some body) old new keep files files' shelf shelf' cs line says carries = record {
  carries = carries;
  own = λ said is.
      let own : AreChangesBy (database old) (statement_value s) (reply_line given ∷ []) (keep.change ∷ []) =
      ((changes_by (database old) (statement_value s) keep.change keep.by, not_refused given), keep.by) in
      subst (λ (t : ScriptLine). AreChangesOf (database old) t (reply_line given ∷ []) (keep.change ∷ [])) (sym (says.1 said is)) own;
  lead = lead_open (keep.change ∷ []) old new files files' shelf shelf' cs cs (lead_one old new files shelf keep.change keep.led);
}
