-- What the answer of a call says, by its cases.
use Rattle.std.proofs.Common.{◌≡◌, ℕ, Bool, true, false, true≢false, Option, None, Some, Result, Ok, Err, IfOk, IfErr, OnOk, OnErr, sym, ap, ◌∙◌, subst, arith}
use Rattle.std.specs.Prelude.{is_some}
use Rattle.line_exec.specs.Keeping.{HasLineCause, tape_count}
use Rattle.line_exec.specs.declared.fault.LineFault.{LineFault}
use Rattle.line_exec.specs.declared.fault.LineFault.TheVariants as fault
use Rattle.sand_base.specs.Faults.{next_count}
use Rattle.sand_journal.specs.Tape.{TapeView}
use Rattle.sand_journal.specs.declared.journal.Journal.{Journal}
use Rattle.session.specs.Ends.{IsCaused, IsStill, source_after, sink_after, tape_after}
use Rattle.session.specs.RunStates.{IsEnd, ended, status_of_line}
use Rattle.session.specs.declared.status.Status.{Status}
use Rattle.session.specs.declared.status.Status.TheVariants as status

-- what holds of the value of an answer
pub if_ok : {T E : Type 0} (P : T → Type 0) (answer : Result T E) (x : T) → answer ≡ Ok x → IfOk answer P → P x
if_ok {T} {E} P answer x is h = subst (λ (a : Result T E). IfOk a P) is h

pub if_err : {T E : Type 0} (P : E → Type 0) (answer : Result T E) (e : E) → answer ≡ Err e → IfErr answer P → P e
if_err {T} {E} P answer e is h = subst (λ (a : Result T E). IfErr a P) is h

pub on_ok : {T E : Type 0} (P : Type 0) (answer : Result T E) (x : T) → answer ≡ Ok x → OnOk answer P → P
on_ok {T} {E} P answer x is h = subst (λ (a : Result T E). OnOk a P) is h

pub on_err : {T E : Type 0} (P : Type 0) (answer : Result T E) (e : E) → answer ≡ Err e → OnErr answer P → P
on_err {T} {E} P answer e is h = subst (λ (a : Result T E). OnErr a P) is h

-- the lines are over, and the counts are as the status says
pub Caused-over : (why result : Status) (b : Bool) (source source' sink sink' : ℕ) → IsEnd why → result ≡ ended why b → source' ≡ source_after why source
    → sink' ≡ sink → IsCaused result source source' sink sink'
Caused-over why result b source source' sink sink' end is counted same =
    subst (λ s. IsCaused s source source' sink sink') (sym is) (by why b end counted) where
      by : (s : Status) (b : Bool) → IsEnd s → source' ≡ source_after s source → IsCaused (ended s b) source source' sink sink'
      by status.Done true e c = record { of_source = c; of_sink = same }
      by status.Done false e c = record { of_source = c; of_sink = same }
      by status.ReadFault b e c = record { of_source = c; of_sink = same }
      by status.ScriptTooLong b e c = record { of_source = c; of_sink = same }
      by status.SomeRefused b e c = absurd e
      by status.Usage b e c = absurd e
      by status.WriteFault b e c = absurd e
      by status.NoMemory b e c = absurd e
      by status.DiskNotStarted b e c = absurd e
      by status.JournalFault b e c = absurd e
      by status.JournalBad b e c = absurd e
      by status.ReplayFault b e c = absurd e
      by status.ReplayDamaged b e c = absurd e

-- no stream counted a fault, and then none again, or the one of the status
pub Still-after : (a b c x y z : ℕ) → IsStill a b x y → IsStill b c y z → IsStill a c x z
Still-after a b c x y z h k = record { of_source = k.of_source ∙ h.of_source; of_sink = k.of_sink ∙ h.of_sink }

pub Caused-after : (why : Status) (a b c x y z : ℕ) → IsStill a b x y → IsCaused why b c y z → IsCaused why a c x z
Caused-after why a b c x y z h k =
    record { of_source = k.of_source ∙ ap (source_after why) h.of_source; of_sink = k.of_sink ∙ ap (sink_after why) h.of_sink }

-- why a line ended the run, where it didn't and where it did
pub Caused-line : (a b t u : ℕ) (r : Result Bool LineFault) (x : Bool) → r ≡ Ok x → HasLineCause a b t u r → (b ≡ a) × (u ≡ t)
Caused-line a b t u r x is h =
    let h' : HasLineCause a b t u (Ok x) = subst (λ (q : Result Bool LineFault). HasLineCause a b t u q) is h in
    (h'.of_sink, h'.of_tape)

-- the counts behind a line that ended the run are those of its status
pub Caused-hand : (s s' a b t u : ℕ) (r : Result Bool LineFault) (why : LineFault) (result : Status) → r ≡ Err why → result ≡ status_of_line why → HasLineCause a b t u r → s' ≡ s
    → IsCaused result s s' a b × (u ≡ tape_after result t)
Caused-hand s s' a b t u r why result is named h still =
    subst (λ (q : Status). IsCaused q s s' a b × (u ≡ tape_after q t)) (sym named)
    (by why (subst (λ (q : Result Bool LineFault). HasLineCause a b t u q) is h)) where
      by : (w : LineFault) → HasLineCause a b t u (Err w) → IsCaused (status_of_line w) s s' a b × (u ≡ tape_after (status_of_line w) t)
      by fault.Sink k = (record { of_source = still; of_sink = k.of_sink }, k.of_tape)
      by fault.Journal k = (record { of_source = still; of_sink = k.of_sink }, k.of_tape)

-- the tape counts no fault of lines that are over
pub Tape-over : (why result : Status) (b : Bool) (t u : ℕ) → IsEnd why → result ≡ ended why b → u ≡ t → u ≡ tape_after result t
Tape-over why result b t u end is same = subst (λ (q : Status). u ≡ tape_after q t) (sym is) (by why b end) where
  by : (w : Status) (b : Bool) → IsEnd w → u ≡ tape_after (ended w b) t
  by status.Done true e = same
  by status.Done false e = same
  by status.ReadFault b e = same
  by status.ScriptTooLong b e = same
  by status.SomeRefused b e = absurd e
  by status.Usage b e = absurd e
  by status.WriteFault b e = absurd e
  by status.NoMemory b e = absurd e
  by status.DiskNotStarted b e = absurd e
  by status.JournalFault b e = absurd e
  by status.JournalBad b e = absurd e
  by status.ReplayFault b e = absurd e
  by status.ReplayDamaged b e = absurd e

-- a run that no journal keeps doesn't fail by its tape
pub No-journal : {T : Type 0} (seen : T → TapeView) (new : Option (Journal T)) (why : Status) → is_some new ≡ false → tape_count seen new ≡ tape_after why 0 → why ≡ status.JournalFault → ⊥
No-journal {T} seen None why none counted is =
    let one : 0 ≡ next_count 0 = subst (λ (q : Status). 0 ≡ tape_after q 0) is counted in omega (arith, one)
No-journal {T} seen (Some journal) why none counted is = absurd (true≢false none)

-- the tape of a journal that is there counts as the run's end says
pub Tape-there : {T : Type 0} (seen : T → TapeView) (new : Option (Journal T)) (journal : Journal T) (why : Status) (t : ℕ) → new ≡ Some journal
    → tape_count seen new ≡ tape_after why t → (seen journal.tape).faults ≡ tape_after why t
Tape-there {T} seen new journal why t is counted = subst (λ (o : Option (Journal T)). tape_count seen o ≡ tape_after why t) is counted
