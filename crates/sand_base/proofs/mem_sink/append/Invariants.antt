-- What was appended so far, in the room that was reserved.
use Rattle.std.proofs.Common.{◌≡◌, ◌+◌, ◌++◌, take, vec_len, vec_capacity}
use Rattle.sand_base.proofs.mem_sink.append.Given as goal

abbrev pub invariant-loop-byte : goal.invariant-loop-byte
invariant-loop-byte l = record {
  items : l.bytes.items ≡ l.initial.bytes.items ++ take l.byte-index l.more;
  len : vec_len l.bytes ≡ vec_len l.initial.bytes + l.byte-index;
  capacity : vec_capacity l.bytes ≡ vec_capacity l.initial.bytes;
}
