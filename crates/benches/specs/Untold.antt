-- A tape that doesn't tell what it holds, so that no contract asks what its bytes mean.
use Rattle.std.specs.Prelude.{false, [], IsTrue}
use Rattle.std.proofs.lemmas.Bool.{false≢true}
use Rattle.sand_journal.specs.Tape.{TapeView}
use Rattle.benches.specs.declared.plain_tape.PlainTape.{PlainTape}

-- such a tape tells nothing but whether it was started, and its faults
abbrev pub untold : PlainTape → TapeView
untold tape = record {
  told = false;
  started = tape.started;
  bytes = [];
  leaves = λ _. ⊥;
  clock = 0;
  since = λ _ _. ⊥;
  faults = tape.calls.faults;
}

-- it never tells, so anything follows where it does
pub untold_follows : {A : Type 0} → IsTrue false → A
untold_follows told = absurd (false≢true told)
