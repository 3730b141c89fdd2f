use Rattle.std.proofs.Common.{sym, subst, ◌∙◌, arith}
use Rattle.std.proofs.lemmas.Bool.{eqb-false}
use Rattle.script_text.specs.Lexical.{IsColumn}
use Rattle.script_text.proofs.LineLemmas.{unread-within, bad-byte, fault-at}
use Rattle.script_text.proofs.parse.parse_line.Goals as goal

-- what is left of the line is within it, and so is its fault
pub syntax_at-requires-clause-within : goal.syntax_at-requires-clause-within
syntax_at-requires-clause-within c =
    let left = unread-within c.args.line.now c.unread-bad.result.now c.unread-bad.ensures in
    omega (arith, left, c.fault_room.ensures.within)

-- what is left begins with the first bad byte
pub returns-then-not-is_empty : goal.returns-then-not-is_empty
returns-then-not-is_empty c =
    fault-at c.args.line.now c.fault_room.result c.syntax_at.result c.syntax_at.ensures (sym c.if-is_passed_over.ensures)
    (λ column place. bad-byte c.args.line.now c.unread-bad.result.now c.unread-bad.ensures
    (eqb-false _ 0 (sym c.is_empty.ensures ∙ c.if-not-is_empty.true)) column
    (subst (λ room. IsColumn c.args.line.now room column) c.fault_room.ensures.room place))
