use Rattle.std.proofs.Common.{length, ap, arith}
use Rattle.sand_journal.specs.ChangeBody.{change_value}
use Rattle.sand_journal.proofs.Bodies.{body_short}
use Rattle.sand_journal.proofs.record.Record.of.Goals as goal

-- the body of a change is short
pub with_body-requires : goal.with_body-requires
with_body-requires c = omega (arith, body_short (change_value c.args.change.now) c.requires, ap length c.in_ok-body.ensures, ap length c.deref.ensures.value)
