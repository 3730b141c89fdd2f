use Rattle.std.proofs.Common.{◌≡◌, ◌++◌, take}
use Rattle.work_gen.proofs.summary_text.append.Given as goal

-- the bytes so far stand at the end
abbrev pub invariant-loop-byte : goal.invariant-loop-byte
invariant-loop-byte l = l.text ≡ l.initial.text ++ take l.byte-index l.more
