-- no byte was ahead, and none is after a failed read
use Rattle.std.proofs.Common.{rules}
use Rattle.script_lines.proofs.Seeking.{still_over}
use Rattle.script_lines.proofs.chunk.Chunk.refill.Goals as goal

pub returns-in-Err-clause-stays : goal.returns-in-Err-clause-stays
returns-in-Err-clause-stays g c = (
  c.in-Err.ensures.bytes,
  still_over c.self.inside.at c.self.inside.filled c.self.inside.count c.self.inside.piece c.read_piece.new.piece c.args.self.now
      c.self.invariant.0 (search rules) c.self.view_is c.requires.over,
)
