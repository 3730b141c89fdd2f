-- each way in which the search ends
use Rattle.std.proofs.Common.{◌∙◌, ap, sym}
use Rattle.script_lines.specs.Reading.{found_line}
use Rattle.script_lines.specs.declared.script_lines.ScriptLines.{ScriptLines}
use Rattle.script_lines.proofs.Pulling.{Pulls-line, Pulls-end, Pulls-over, Pulls-failed, HasFound-line, HasFound-end}
use Rattle.script_lines.proofs.script_lines.ScriptLines.next.Goals as goal

pub returns-in-Ok-LineFeed-clause-pulls : goal.returns-in-Ok-LineFeed-clause-pulls
returns-in-Ok-LineFeed-clause-pulls g c =
    Pulls-line c.args.self.now c.begin_line.new.self c.give.new.self c.give.result c.seek.new.chunk c.seek.new.line
    (g.S.Source.left c.args.script.now) (g.S.Source.left c.seek.new.script) (record { more = c.if-self.false; is = c.begin_line.ensures })
    _ c.in-Ok-LineFeed.field-0-is c.in-Ok-LineFeed.ensures.seeks c.give.ensures.given c.give.ensures.found

pub returns-in-Ok-End-clause-pulls : goal.returns-in-Ok-End-clause-pulls
returns-in-Ok-End-clause-pulls g c =
    Pulls-end c.args.self.now c.begin_line.new.self c.end.new.self c.end.result c.seek.new.chunk c.seek.new.line
    (g.S.Source.left c.args.script.now) (g.S.Source.left c.seek.new.script) (record { more = c.if-self.false; is = c.begin_line.ensures })
    _ c.in-Ok-End.field-0-is c.in-Ok-End.ensures.seeks c.end.ensures

pub returns-in-Ok-ScriptTooLong-clause-pulls : goal.returns-in-Ok-ScriptTooLong-clause-pulls
returns-in-Ok-ScriptTooLong-clause-pulls g c =
    Pulls-over c.args.self.now c.begin_line.new.self c.seek.new.chunk c.seek.new.line
    (g.S.Source.left c.args.script.now) (g.S.Source.left c.seek.new.script) (record { more = c.if-self.false; is = c.begin_line.ensures })
    _ c.in-Ok-ScriptTooLong.field-0-is c.in-Ok-ScriptTooLong.ensures.seeks

pub returns-in-Err-clause-pulls : goal.returns-in-Err-clause-pulls
returns-in-Err-clause-pulls g c =
    Pulls-failed c.args.self.now c.begin_line.new.self c.seek.new.chunk c.seek.new.line
    (g.S.Source.left c.args.script.now) (g.S.Source.left c.seek.new.script) _ (record { more = c.if-self.false; is = c.begin_line.ensures })
    c.in-Err.ensures.seeks

pub returns-in-Ok-LineFeed-clause-found : goal.returns-in-Ok-LineFeed-clause-found
returns-in-Ok-LineFeed-clause-found g c =
    HasFound-line c.give.result c.give.new.self.line (c.give.ensures.found ∙ ap found_line (sym (ap (λ (r : ScriptLines). r.line) c.give.ensures.given)))

pub returns-in-Ok-End-clause-found : goal.returns-in-Ok-End-clause-found
returns-in-Ok-End-clause-found g c = HasFound-end (record { chunk = c.seek.new.chunk; line = c.seek.new.line; is_given = c.begin_line.new.self.is_given; is_ended = c.begin_line.new.self.is_ended })
    c.end.new.self c.end.result c.end.ensures
