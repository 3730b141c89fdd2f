-- How a run ended, where less is said of its lines.
use Rattle.std.proofs.Common.{ℕ, ◌≤◌, ◌+◌, Bool, true, false, List, Option, length, take}
use Rattle.sand_model.specs.Cursor.{OutputLine}
use Rattle.output_text.specs.Writing.{Writes}
use Rattle.script_lines.specs.Lines.{lines, ended_lines}
use Rattle.script_lines.specs.declared.TheConstants.{LONGEST_SCRIPT}
use Rattle.session.specs.Ends.{EndsBetween, HasReadAll, OfLines, WritesRun}
use Rattle.session.specs.Outside.{SinkView, SourceView}
use Rattle.session.specs.declared.status.Status.{Status}
use Rattle.session.specs.declared.status.Status.TheVariants as status
use Rattle.statement_exec.specs.Printing.{Prints, PrintsSome}
use Rattle.session.proofs.Endings.{whole_of}

module _ (Carries Runs : OfLines) (less : (lines : List (List ℕ)) (printed : List OutputLine) → Carries lines printed → Runs lines printed) where
  prints_less : (lines : List (List ℕ)) (b : Bool) (text : List ℕ) → Prints (Carries lines) b text → Prints (Runs lines) b text
  prints_less lines b text prints = record { lines = prints.lines; holds = less lines prints.lines prints.holds; told = prints.told; refused = prints.refused }

  some_less : (lines : List (List ℕ)) (text : List ℕ) → PrintsSome (Carries lines) text → PrintsSome (Runs lines) text
  some_less lines text prints = (prints.0, prints_less lines prints.0 text prints.1)

  writes_less : (lines : List (List ℕ)) (b : Bool) (before now : SinkView) → WritesRun Carries lines b before now → WritesRun Runs lines b before now
  writes_less lines b before now writes = record { text = writes.text; holds = prints_less lines b writes.text writes.holds; written = writes.written }

  pub between_less : (why : Status) (Hand Less : List ℕ → Type 0) → ((line : List ℕ) → Hand line → Less line) → (before left : SourceView) (sink sink' : SinkView)
      → EndsBetween why Carries Hand before left sink sink' → EndsBetween why Runs Less before left sink sink'
  between_less status.Done Hand Less hand before left sink sink' ends =
      whole_of before.left left.left (λ bytes. WritesRun Carries (lines bytes) false sink sink') (λ bytes. WritesRun Runs (lines bytes) false sink sink')
      (λ bytes. writes_less (lines bytes) false sink sink') ends
  between_less status.SomeRefused Hand Less hand before left sink sink' ends =
      whole_of before.left left.left (λ bytes. WritesRun Carries (lines bytes) true sink sink') (λ bytes. WritesRun Runs (lines bytes) true sink sink')
      (λ bytes. writes_less (lines bytes) true sink sink') ends
  between_less status.ReadFault Hand Less hand before left sink sink' ends =
      (ends.0, ends.1, (ends.2.0, ends.2.1, writes_less (ended_lines ends.0) ends.2.1 sink sink' ends.2.2))
  between_less status.ScriptTooLong Hand Less hand before left sink sink' ends =
      (ends.0, ends.1, (ends.2.0, ends.2.1, writes_less (ended_lines (take LONGEST_SCRIPT ends.0)) ends.2.1 sink sink' ends.2.2))
  between_less status.WriteFault Hand Less hand before left sink sink' ends =
      let breaks = ends.2.1 in (
        ends.0,
        ends.1,
        (
          ends.2.0,
          record {
            carried_out = breaks.carried_out;
            others = breaks.others;
            first_of = breaks.first_of;
            prefix = record { text = breaks.prefix.text; holds = some_less breaks.carried_out breaks.prefix.text breaks.prefix.holds; prefix = breaks.prefix.prefix };
          },
        ),
      )
  between_less status.JournalFault Hand Less hand before left sink sink' ends =
      let stops = ends.2.1 in (
        ends.0,
        ends.1,
        (
          ends.2.0,
          record {
            carried_out = stops.carried_out;
            in_hand = stops.in_hand;
            others = stops.others;
            first_of = stops.first_of;
            hand = hand stops.in_hand stops.hand;
            written = record { text = stops.written.text; holds = some_less stops.carried_out stops.written.text stops.written.holds; written = stops.written.written };
          },
        ),
      )
  between_less status.Usage Hand Less hand before left sink sink' ends = absurd ends
  between_less status.NoMemory Hand Less hand before left sink sink' ends = absurd ends
  between_less status.DiskNotStarted Hand Less hand before left sink sink' ends = absurd ends
  between_less status.JournalBad Hand Less hand before left sink sink' ends = absurd ends
  between_less status.ReplayFault Hand Less hand before left sink sink' ends = absurd ends
  between_less status.ReplayDamaged Hand Less hand before left sink sink' ends = absurd ends
