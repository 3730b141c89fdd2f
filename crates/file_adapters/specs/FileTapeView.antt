-- How a tape is seen that is a file of the system.
use Rattle.std.specs.Prelude.{ℕ, Bool, false, [], IsTrue}
use Rattle.std.proofs.lemmas.Bool.{false≢true}
use Rattle.sand_journal.specs.Tape.{TapeView}

-- such a tape tells nothing but whether a file is taken, and how often a call failed
abbrev pub file_tape_view : Bool → ℕ → TapeView
file_tape_view taken faults = record {
  told = false;
  started = taken;
  bytes = [];
  leaves = λ _. ⊥;
  clock = 0;
  since = λ _ _. ⊥;
  faults = faults;
}

-- it never tells, so anything follows where it does
pub nothing_told : {A : Type 0} → IsTrue false → A
nothing_told told = absurd (false≢true told)
