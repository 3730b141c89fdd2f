-- What the loop over the bytes keeps.
use Rattle.std.proofs.Common.{◌≡◌, ◌+◌, ◌*◌, ◌++◌, length, take}
use Rattle.work_gen.specs.Summary.{hexadecimal}
use Rattle.work_gen.proofs.summary_text.append_hexadecimal.Given as goal

-- the digits of the bytes so far stand at the end
abbrev pub invariant-bytes : goal.invariant-bytes
invariant-bytes l = record {
  text : l.text ≡ l.initial.text ++ hexadecimal (take l.byte-index l.bytes);
  long : length l.text ≡ length l.initial.text + 2 * l.byte-index;
}
