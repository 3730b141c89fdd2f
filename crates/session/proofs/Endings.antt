-- How a run ends.
use Rattle.std.proofs.Common.{◌≡◌, ℕ, ◌+◌, ◌≤◌, Bool, true, false, ◌||◌, List, [], ◌++◌, length, take, Option, Err, sym, subst, append_assoc, append-nil}
use Rattle.std.specs.Io.KnownBytes.{Consumes}
use Rattle.std.proofs.KnownBytes.{Consumes-trans}
use Rattle.sand_base.specs.Streams.{Adds}
use Rattle.output_text.specs.Writing.{WritesPrefix}
use Rattle.output_text.proofs.WrittenPrefix.{Adds-trans}
use Rattle.output_text.proofs.Forming.{AddsPrefix-past}
use Rattle.statement_exec.proofs.Texts.{adds_none}
use Rattle.script_lines.specs.Lines.{lines, ended_lines}
use Rattle.script_lines.specs.declared.TheConstants.{LONGEST_SCRIPT}
use Rattle.script_lines.specs.declared.script_lines.ScriptLines.{ScriptLines}
use Rattle.line_exec.specs.LineCarried.{CarriesKept}
use Rattle.line_meaning.specs.Carrying.{FollowsMoment}
use Rattle.sand_journal.specs.ChangeBody.{ChangeValue}
use Rattle.sand_model.specs.Cursor.{OutputLine}
use Rattle.statement_exec.specs.Moment.{Moment}
use Rattle.statement_exec.specs.Printing.{Prints, PrintsSome}
use Rattle.script_lines.specs.Reading.{ReadsLines}
use Rattle.session.specs.Outside.{SourceView, SinkView}
use Rattle.session.specs.Ends.{HasBegun, WritesRun, EndsBetween, HasReadAll, HasRead, OfLines}
use Rattle.session.specs.KeptLines.{IsInHand}
use Rattle.session.specs.RunStates.{RunState, run_state, IsBetweenLines, Draws, GrowsText, FromBetweenLines, FromLineInHand, Leads, HasLineInHand, AreLinesOver}
use Rattle.session.specs.RunStates.{CarriesAll, IsBeforeHand, IsOfFirst, EndsText, EndsAt, ended, kept_both}
use Rattle.session.specs.declared.status.Status.{Status}
use Rattle.session.specs.declared.status.Status.TheVariants as status
use Rattle.session.proofs.LinesCarried.{NoneYet, begun_between, carried}

-- The lines of a script are over: what was read, how the run over the lines given went, and what the end says.
record Over (why : Status) (Runs : OfLines) (script left : Option (List ℕ)) (text : List ℕ) (b : Bool) : Type 0 where
  bytes : List ℕ
  given : List (List ℕ)
  consumed : Consumes script left bytes
  printed : Prints (Runs given) b text
  over : AreLinesOver why left bytes given

-- the reader found no more line
over : (why : Status) (first now : Moment) (script between left : Option (List ℕ)) (text : List ℕ) (reader reader' : ScriptLines) (b : Bool) (kept : Option (List ChangeValue))
    → Draws (Err why) reader reader' between left → IsBetweenLines first script text (run_state reader between now b kept)
    → Over why (CarriesAll kept first now) script left text b
over why first now script between left text reader reader' b kept draws so_far =
    let one = draws so_far.bytes so_far.given so_far.reads in
    record {
      bytes = so_far.bytes ++ one.0;
      given = so_far.given;
      consumed = Consumes-trans script between left so_far.bytes one.0 so_far.consumed one.1;
      printed = so_far.printed;
      over = one.2;
    }

-- nothing more is written at the end
still : (took : List ℕ → Type 0) (text : List ℕ) (P : List ℕ → Type 0) → P text → GrowsText took took text P
still took text P holds = ([], adds_none took, subst P (sym (append-nil text)) holds)

-- the end of the script
ends_done : (Runs : OfLines) (script left : Option (List ℕ)) (took : List ℕ → Type 0) (text : List ℕ) (b : Bool) → Over status.Done Runs script left text b
    → GrowsText took took text (λ all. HasReadAll script left (λ bytes. Prints (Runs (lines bytes)) b all))
ends_done Runs script left took text b o =
    let whole : Prints (Runs (lines o.bytes)) b text = subst (λ l. Prints (Runs l) b text) (sym o.over.2) o.printed in
    still took text (λ all. HasReadAll script left (λ bytes. Prints (Runs (lines bytes)) b all))
    (o.over.0, (o.bytes, o.consumed, (o.over.1, whole)))

-- by the status
ends_by : (why : Status) (Runs : OfLines) (Hand : List ℕ → Type 0) (script left : Option (List ℕ)) (took : List ℕ → Type 0) (text : List ℕ) (b : Bool) → Over why Runs script left text b
    → EndsText (ended why b) Runs Hand script left took took text
ends_by status.Done Runs Hand script left took text true o = ends_done Runs script left took text true o
ends_by status.Done Runs Hand script left took text false o = ends_done Runs script left took text false o
ends_by status.ReadFault Runs Hand script left took text b o =
    still took text (λ all. HasRead script left (λ bytes. (length bytes ≤ LONGEST_SCRIPT)
    × (some_refused : Bool) × Prints (Runs (ended_lines bytes)) some_refused all))
    (o.bytes, o.consumed, (o.over.0, b, subst (λ l. Prints (Runs l) b text) (sym o.over.1) o.printed))
ends_by status.ScriptTooLong Runs Hand script left took text b o =
    still took text (λ all. HasRead script left (λ bytes. (length bytes ≡ LONGEST_SCRIPT + 1)
    × (some_refused : Bool) × Prints (Runs (ended_lines (take LONGEST_SCRIPT bytes))) some_refused all))
    (o.bytes, o.consumed, (o.over.0, b, subst (λ l. Prints (Runs l) b text) (sym o.over.1) o.printed))
ends_by status.SomeRefused Runs Hand script left took text b o = absurd o.over
ends_by status.Usage Runs Hand script left took text b o = absurd o.over
ends_by status.WriteFault Runs Hand script left took text b o = absurd o.over
ends_by status.NoMemory Runs Hand script left took text b o = absurd o.over
ends_by status.DiskNotStarted Runs Hand script left took text b o = absurd o.over
ends_by status.JournalFault Runs Hand script left took text b o = absurd o.over
ends_by status.JournalBad Runs Hand script left took text b o = absurd o.over
ends_by status.ReplayFault Runs Hand script left took text b o = absurd o.over
ends_by status.ReplayDamaged Runs Hand script left took text b o = absurd o.over

-- an end of a text that grew is one of the text before
ends_grown : (why : Status) (Runs : OfLines) (Hand : List ℕ → Type 0) (script left : Option (List ℕ)) (a b c : List ℕ → Type 0) (text more : List ℕ) → Adds a b more
    → EndsText why Runs Hand script left b c (text ++ more) → EndsText why Runs Hand script left a c text
ends_grown status.Done Runs Hand script left a b c text more adds ends = (
  more ++ ends.0,
  Adds-trans a b c more ends.0 adds ends.1,
  subst (λ t. HasReadAll script left (λ bytes. Prints (Runs (lines bytes)) false t)) (append_assoc text more ends.0) ends.2,
)
ends_grown status.SomeRefused Runs Hand script left a b c text more adds ends = (
  more ++ ends.0,
  Adds-trans a b c more ends.0 adds ends.1,
  subst (λ t. HasReadAll script left (λ bytes. Prints (Runs (lines bytes)) true t)) (append_assoc text more ends.0) ends.2,
)
ends_grown status.ReadFault Runs Hand script left a b c text more adds ends = (
  more ++ ends.0,
  Adds-trans a b c more ends.0 adds ends.1,
  subst (λ t. HasRead script left (λ bytes. (length bytes ≤ LONGEST_SCRIPT) × (some_refused : Bool) × Prints (Runs (ended_lines bytes)) some_refused t))
      (append_assoc text more ends.0) ends.2,
)
ends_grown status.ScriptTooLong Runs Hand script left a b c text more adds ends = (
  more ++ ends.0,
  Adds-trans a b c more ends.0 adds ends.1,
  subst (λ t. HasRead script left (λ bytes. (length bytes ≡ LONGEST_SCRIPT + 1) × (some_refused : Bool) × Prints (Runs (ended_lines (take LONGEST_SCRIPT bytes))) some_refused t))
      (append_assoc text more ends.0) ends.2,
)
ends_grown status.WriteFault Runs Hand script left a b c text more adds ends = (
  more ++ ends.0,
  AddsPrefix-past a b c more ends.0 adds ends.1,
  subst (λ t. HasRead script left (λ bytes. (length bytes ≤ LONGEST_SCRIPT + 1) × IsOfFirst Runs (lines bytes) t)) (append_assoc text more ends.0) ends.2,
)
ends_grown status.Usage Runs Hand script left a b c text more adds ends = absurd ends
ends_grown status.NoMemory Runs Hand script left a b c text more adds ends = absurd ends
ends_grown status.DiskNotStarted Runs Hand script left a b c text more adds ends = absurd ends
ends_grown status.JournalFault Runs Hand script left a b c text more adds ends = (
  more ++ ends.0,
  Adds-trans a b c more ends.0 adds ends.1,
  subst (λ t. HasRead script left (λ bytes. (length bytes ≤ LONGEST_SCRIPT + 1) × IsBeforeHand Runs Hand (lines bytes) t)) (append_assoc text more ends.0) ends.2,
)
ends_grown status.JournalBad Runs Hand script left a b c text more adds ends = absurd ends
ends_grown status.ReplayFault Runs Hand script left a b c text more adds ends = absurd ends
ends_grown status.ReplayDamaged Runs Hand script left a b c text more adds ends = absurd ends

-- the lines are over, behind a text that grew
pub ends_grow : (first : Moment) (script : Option (List ℕ)) (text : List ℕ) (before took : List ℕ → Type 0) (why : Status) (reader reader' : ScriptLines)
    (between left : Option (List ℕ)) (now : Moment) (b : Bool) (kept untold : Option (List ChangeValue)) (result : Status)
    → result ≡ ended why b → Draws (Err why) reader reader' between left → GrowsText before took text (λ all. IsBetweenLines first script all (run_state reader between now b kept))
    → EndsAt result now kept untold left before took first script text
ends_grow first script text before took why reader reader' between left now b kept untold result is draws grown =
    let Runs : OfLines = CarriesAll kept first now in
    let Hand : List ℕ → Type 0 = IsInHand untold now in
    let o = over why first now script between left (text ++ grown.0) reader reader' b kept draws grown.2 in
    let ends : EndsText result Runs Hand script left took took (text ++ grown.0) =
    subst (λ s. EndsText s Runs Hand script left took took (text ++ grown.0)) (sym is) (ends_by why Runs Hand script left took (text ++ grown.0) b o) in
    (ends_grown result Runs Hand script left before took took text grown.0 grown.1 ends, grown.2.follows)

-- the lines are over
pub Ends-over : (old : RunState) (before took : List ℕ → Type 0) (why : Status) (reader reader' : ScriptLines) (between left : Option (List ℕ)) (now : Moment) (b : Bool) (kept untold : Option (List ChangeValue)) (result : Status)
    → result ≡ ended why b → Leads IsBetweenLines IsBetweenLines old (run_state reader between now b kept) before took → Draws (Err why) reader reader' between left
    → FromBetweenLines old (EndsAt result now kept untold left before took)
Ends-over old before took why reader reader' between left now b kept untold result is goes draws first script text so_far =
    ends_grow first script text before took why reader reader' between left now b kept untold result is draws (goes first script text so_far)

-- a prefix of the output of the line in hand was written
pub Ends-broken : (at : RunState) (new : Moment) (before now : List ℕ → Type 0) (changes untold : Option (List ChangeValue))
    → WritesPrefix (PrintsSome (CarriesKept at.reader.line changes at.now new)) before now
    → FollowsMoment at.now new → FromLineInHand at (EndsAt status.WriteFault new (kept_both at.kept changes) untold at.left before now)
unfolding carried
Ends-broken at new before now changes untold own follows first script text hand =
    let so_far = carried first script text own.text at new own.holds.0 changes hand own.holds.1 follows in
    let breaks : IsOfFirst (CarriesAll (kept_both at.kept changes) first new) (lines hand.bytes) (text ++ own.text) = record {
      carried_out = so_far.given;
      others = hand.gives.others;
      first_of = hand.gives.first;
      printed = (at.refused || own.holds.0, so_far.printed);
    } in
    ((own.text, own.prefix, (hand.bytes, hand.consumed, (hand.gives.most, breaks))), so_far.follows)

-- an end behind a text that grew
pub ends_past : (first : Moment) (script : Option (List ℕ)) (text : List ℕ) (a b c : List ℕ → Type 0) (why : Status) (last : Moment) (kept untold : Option (List ChangeValue)) (left : Option (List ℕ)) (more : List ℕ) → Adds a b more
    → EndsAt why last kept untold left b c first script (text ++ more) → EndsAt why last kept untold left a c first script text
ends_past first script text a b c why last kept untold left more adds end =
    (ends_grown why (CarriesAll kept first last) (IsInHand untold last) script left a b c text more adds end.0, end.1)

-- the run paused, and then ended
pub Ends-paused : (old mid : RunState) (a b c : List ℕ → Type 0) (why : Status) (last : Moment) (kept untold : Option (List ChangeValue)) (left : Option (List ℕ)) → Leads IsBetweenLines HasLineInHand old mid a b
    → FromLineInHand mid (EndsAt why last kept untold left b c) → FromBetweenLines old (EndsAt why last kept untold left a c)
Ends-paused old mid a b c why last kept untold left pauses ends first script text so_far =
    let grown = pauses first script text so_far in
    ends_past first script text a b c why last kept untold left grown.0 grown.1 (ends first script (text ++ grown.0) grown.2)

-- what holds of a whole script holds where it is weaker
pub whole_of : (script left : Option (List ℕ)) (P Q : List ℕ → Type 0) → ((bytes : List ℕ) → P bytes → Q bytes) → HasReadAll script left P → HasReadAll script left Q
whole_of script left P Q weaker (ended, (bytes, consumed, h)) = (ended, (bytes, consumed, (h.0, weaker bytes h.1)))

-- the end of a run whose text began empty, told by what the source and the sink were
pub between_of : (why : Status) (Runs : OfLines) (Hand : List ℕ → Type 0) (before left : SourceView) (sink sink' : SinkView)
    → EndsText why Runs Hand before.left left.left sink.took sink'.took [] → EndsBetween why Runs Hand before left sink sink'
between_of status.Done Runs Hand before left sink sink' ends =
    whole_of before.left left.left (λ bytes. Prints (Runs (lines bytes)) false ends.0) (λ bytes. WritesRun Runs (lines bytes) false sink sink')
    (λ bytes prints. record { text = ends.0; holds = prints; written = ends.1 }) ends.2
between_of status.SomeRefused Runs Hand before left sink sink' ends =
    whole_of before.left left.left (λ bytes. Prints (Runs (lines bytes)) true ends.0) (λ bytes. WritesRun Runs (lines bytes) true sink sink')
    (λ bytes prints. record { text = ends.0; holds = prints; written = ends.1 }) ends.2
between_of status.ReadFault Runs Hand before left sink sink' ends =
    let read = ends.2 in
    (read.0, read.1, (read.2.0, read.2.1, record { text = ends.0; holds = read.2.2; written = ends.1 }))
between_of status.ScriptTooLong Runs Hand before left sink sink' ends =
    let read = ends.2 in
    (read.0, read.1, (read.2.0, read.2.1, record { text = ends.0; holds = read.2.2; written = ends.1 }))
between_of status.WriteFault Runs Hand before left sink sink' ends =
    let read = ends.2 in
    let breaks = read.2.1 in (
      read.0,
      read.1,
      (
        read.2.0,
        record {
          carried_out = breaks.carried_out;
          others = breaks.others;
          first_of = breaks.first_of;
          prefix = record { text = ends.0; holds = breaks.printed; prefix = ends.1 };
        },
      ),
    )
between_of status.JournalFault Runs Hand before left sink sink' ends =
    let read = ends.2 in
    let stops = read.2.1 in (
      read.0,
      read.1,
      (
        read.2.0,
        record {
          carried_out = stops.carried_out;
          in_hand = stops.in_hand;
          others = stops.others;
          first_of = stops.first_of;
          hand = stops.hand;
          written = record { text = ends.0; holds = stops.printed; written = ends.1 };
        },
      ),
    )
between_of status.Usage Runs Hand before left sink sink' ends = absurd ends
between_of status.NoMemory Runs Hand before left sink sink' ends = absurd ends
between_of status.DiskNotStarted Runs Hand before left sink sink' ends = absurd ends
between_of status.JournalBad Runs Hand before left sink sink' ends = absurd ends
between_of status.ReplayFault Runs Hand before left sink sink' ends = absurd ends
between_of status.ReplayDamaged Runs Hand before left sink sink' ends = absurd ends

-- the status of a run that read
begun_of : (why : Status) (Runs : OfLines) (Hand : List ℕ → Type 0) (script left : Option (List ℕ)) (before now : List ℕ → Type 0) (text : List ℕ)
    → EndsText why Runs Hand script left before now text → HasBegun why
begun_of status.Done Runs Hand script left before now text ends = tt
begun_of status.SomeRefused Runs Hand script left before now text ends = tt
begun_of status.ReadFault Runs Hand script left before now text ends = tt
begun_of status.WriteFault Runs Hand script left before now text ends = tt
begun_of status.ScriptTooLong Runs Hand script left before now text ends = tt
begun_of status.Usage Runs Hand script left before now text ends = absurd ends
begun_of status.NoMemory Runs Hand script left before now text ends = absurd ends
begun_of status.DiskNotStarted Runs Hand script left before now text ends = absurd ends
begun_of status.JournalFault Runs Hand script left before now text ends = tt
begun_of status.JournalBad Runs Hand script left before now text ends = absurd ends
begun_of status.ReplayFault Runs Hand script left before now text ends = absurd ends
begun_of status.ReplayDamaged Runs Hand script left before now text ends = absurd ends

pub Begun-script : (why : Status) (reader : ScriptLines) (first last : Moment) (script left : Option (List ℕ)) (before now : List ℕ → Type 0) (begun kept untold : Option (List ChangeValue))
    → NoneYet begun → ((left : Option (List ℕ)) → ReadsLines reader left [] [])
    → FromBetweenLines (run_state reader script first false begun) (EndsAt why last kept untold left before now) → HasBegun why
Begun-script why reader first last script left before now begun kept untold yet none from =
    let end = from first script [] (begun_between reader first script begun yet none) in
    begun_of why (CarriesAll kept first last) (IsInHand untold last) script left before now [] end.0
