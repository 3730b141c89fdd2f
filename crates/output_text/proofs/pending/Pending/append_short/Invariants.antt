use Rattle.std.proofs.Common.{◌≡◌, ◌++◌, take}
use Rattle.output_text.proofs.pending.Pending.append_short.Given as goal

-- the bytes so far stand at the end
abbrev pub invariant-bytes : goal.invariant-bytes
invariant-bytes l = l.self ≡ l.initial.self ++ take l.byte-index l.more
