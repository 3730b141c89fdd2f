-- What is written so far, and the bytes after it.
use Rattle.std.proofs.Common.{◌≡◌, ◌∷◌, ◌++◌, drop}
use Rattle.script_text.specs.Text.{doubled}
use Rattle.script_text.proofs.printer.quoted.Given as goal

abbrev pub invariant-bytes : goal.invariant-bytes
invariant-bytes l = 34 ∷ doubled l.text ≡ l.bytes.items ++ doubled (drop l.b-index l.text)
