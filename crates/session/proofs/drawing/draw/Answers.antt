-- the byte too many
use Rattle.session.proofs.LinesCarried.{Draws-over}
use Rattle.session.proofs.drawing.draw.Goals as goal

pub returns-in-Ok-ScriptTooLong-clause-draws : goal.returns-in-Ok-ScriptTooLong-clause-draws
returns-in-Ok-ScriptTooLong-clause-draws g c =
    Draws-over c.args.lines.now c.next.new.self (g.S.Source.left c.args.script.now) (g.S.Source.left c.next.new.script) _
    c.in-Ok-ScriptTooLong.field-0-is c.in-Ok-ScriptTooLong.ensures.pulls
