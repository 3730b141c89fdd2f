-- Why the lines that are left are the line and those after it, where a turn of inserts begins.
use Rattle.work_gen.proofs.States.{lines_at-point}
use Rattle.work_gen.proofs.script.Script.write_next.Goals as goal

pub returns-in-Point : goal.returns-in-Point
returns-in-Point c =
    rw (c.in-Point.is, c.write_point.ensures.state, c.write_point.ensures.text)
    (lines_at-point c.in-Point.later c.args.self.now.turns c.args.self.now.generator.state)
