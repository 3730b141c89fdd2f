-- What is written so far, and what the bytes after it write.
use Rattle.std.proofs.Common.{◌≡◌, ◌++◌, drop}
use Rattle.script_text.specs.Text.{content, content_after}
use Rattle.script_text.proofs.text.content.Given as goal

abbrev pub invariant-bytes : goal.invariant-bytes
invariant-bytes l = content l.inside ≡ l.bytes.items ++ content_after l.skip (drop l.b-index l.inside)
