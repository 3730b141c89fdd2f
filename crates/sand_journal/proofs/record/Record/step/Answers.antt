use Rattle.std.proofs.Common.{length, ap, subst, arith}
use Rattle.sand_journal.specs.Images.{IsShort}
use Rattle.sand_journal.proofs.Frames.{entry_short, entry_length}
use Rattle.sand_journal.proofs.record.Record.step.Goals as goal

-- the frame and the gate behind it have as many bytes as the gate before it, the frame
pub returns-clause-step : goal.returns-clause-step
returns-clause-step c = omega (arith, c.len.ensures, c.self.inside.bytes.ok.0, entry_length c.self.inside.bytes.items c.self.invariant, ap length c.self.view_is)

pub returns-clause-short : goal.returns-clause-short
returns-clause-short c = subst IsShort c.self.view_is (entry_short c.self.inside.bytes.items c.self.invariant)
