-- a line feed ends the line in hand, any other byte joins it
use Rattle.std.proofs.Common.{◌∙◌, ap, length, arith}
use Rattle.std.proofs.lemmas.Bool.{ne_eqb}
use Rattle.script_lines.proofs.Cutting.{IsCutSoFar-byte, IsCutSoFar-feed}
use Rattle.script_lines.proofs.script_lines.fill_line.Goals as goal

pub returns-then-byte-eq10-clause-fills : goal.returns-then-byte-eq10-clause-fills
returns-then-byte-eq10-clause-fills c = (
  omega (arith, c.bytes.invariant.0, ap length c.in-Some.ensures.0),
  λ bytes given at.
      IsCutSoFar-feed c.bytes.line c.bytes.chunk.ahead c.next.new.self.ahead bytes given c.in-Some.byte c.if-byte-eq10.true c.in-Some.ensures.0
      (c.bytes.invariant.2 bytes given at),
)

pub bytes-preserved : goal.bytes-preserved
bytes-preserved c = (
  omega (arith, c.bytes.invariant.0, ap length c.in-Some.ensures.0),
  c.in-Some.ensures.1 ∙ c.bytes.invariant.1,
  λ bytes given at.
      IsCutSoFar-byte c.bytes.line c.push.new.self c.bytes.chunk.ahead c.next.new.self.ahead bytes given c.in-Some.byte
      (ne_eqb c.in-Some.byte 10 c.if-byte-eq10.false) c.in-Some.ensures.0 c.push.ensures (c.bytes.invariant.2 bytes given at),
)
