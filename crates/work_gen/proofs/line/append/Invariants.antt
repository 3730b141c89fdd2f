-- What the loop over the bytes keeps.
use Rattle.std.proofs.Common.{◌≡◌, ◌++◌, take}
use Rattle.work_gen.proofs.line.append.Given as goal

-- the bytes so far stand at the end
abbrev pub invariant-bytes : goal.invariant-bytes
invariant-bytes l = l.line ≡ l.fn.line ++ take l.byte-index l.bytes
