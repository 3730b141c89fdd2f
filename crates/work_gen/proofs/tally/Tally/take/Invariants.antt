-- What the loop over the bytes keeps.
use Rattle.std.proofs.Common.{ℕ, List, ◌++◌, take}
use Rattle.work_gen.specs.Tally.{HasCounted}
use Rattle.work_gen.proofs.tally.Tally.take.Given as goal

-- the lines of the text and of the bytes so far were counted
abbrev pub invariant-bytes : goal.invariant-bytes
invariant-bytes l = (text : List ℕ) → HasCounted l.initial.self text → HasCounted l.self (text ++ take l.byte-index l.bytes)
