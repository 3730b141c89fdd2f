use Rattle.std.proofs.Common.{◌≡◌, length}
use Rattle.script_text.specs.Lexing.{unread}
use Rattle.script_text.proofs.lexer.unread.Given as goal

-- what is left of the line is what is left of the bytes that are still to be read
abbrev pub invariant-tokens : goal.invariant-tokens
invariant-tokens l = unread l.rest ≡ unread l.line

-- each token takes a byte at least
abbrev pub decreases-tokens : goal.decreases-tokens
decreases-tokens l = length l.rest
