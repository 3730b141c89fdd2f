-- a line feed ends the search, and so do the byte too many, the end of the script, and a failed read
use Rattle.std.proofs.Common.{◌∙◌, ◌≤◌, rules}
use Rattle.script_lines.proofs.Seeking.{ReadsOn-fill, ReadsOn-refill, Seeks-line, Seeks-over, Seeks-end, Seeks-failed, bytes-refilled}
use Rattle.script_lines.proofs.script_lines.seek.Goals as goal

pub returns-then-fill_line-clause-seeks : goal.returns-then-fill_line-clause-seeks
returns-then-fill_line-clause-seeks g c =
    Seeks-line c.args.chunk.now c.pieces.chunk c.fill_line.new.chunk c.args.line.now c.pieces.line c.fill_line.new.line
    (g.S.Source.left c.args.script.now) (g.S.Source.left c.pieces.script) c.pieces.invariant.0 c.if-fill_line.ensures.fills c.if-fill_line.ensures.count

pub returns-then-is_over-clause-seeks : goal.returns-then-is_over-clause-seeks
returns-then-is_over-clause-seeks g c =
    Seeks-over c.args.chunk.now c.fill_line.new.chunk c.args.line.now c.fill_line.new.line
    (g.S.Source.left c.args.script.now) (g.S.Source.left c.pieces.script)
    (ReadsOn-fill c.args.chunk.now c.pieces.chunk c.fill_line.new.chunk c.args.line.now c.pieces.line c.fill_line.new.line
    (g.S.Source.left c.args.script.now) (g.S.Source.left c.pieces.script) c.pieces.invariant.0 c.if-fill_line.ensures.fills c.if-fill_line.ensures.count)
    c.if-fill_line.ensures.fills.0 (search rules)

pub pieces-preserved : goal.pieces-preserved
pieces-preserved g c =
    let few : c.fill_line.new.chunk.count ≤ 16777216 = search rules in (
      ReadsOn-refill c.args.chunk.now c.fill_line.new.chunk c.refill.new.self c.args.line.now c.fill_line.new.line
          (g.S.Source.left c.args.script.now) (g.S.Source.left c.pieces.script) (g.S.Source.left c.refill.new.script) _
          (ReadsOn-fill c.args.chunk.now c.pieces.chunk c.fill_line.new.chunk c.args.line.now c.pieces.line c.fill_line.new.line
          (g.S.Source.left c.args.script.now) (g.S.Source.left c.pieces.script) c.pieces.invariant.0 c.if-fill_line.ensures.fills c.if-fill_line.ensures.count)
          c.if-fill_line.ensures.fills.0 few c.in-Ok-true.ensures.refills,
      c.in-Ok-true.ensures.cause.done ∙ c.pieces.invariant.1,
      bytes-refilled c.args.chunk.now c.pieces.chunk c.fill_line.new.chunk c.refill.new.self c.pieces.invariant.2
          c.if-fill_line.ensures.fills.0 c.if-fill_line.ensures.count c.in-Ok-true.ensures.refills,
    )

pub returns-in-Ok-false-clause-seeks : goal.returns-in-Ok-false-clause-seeks
returns-in-Ok-false-clause-seeks g c =
    let few : c.fill_line.new.chunk.count ≤ 16777216 = search rules in
    Seeks-end c.args.chunk.now c.fill_line.new.chunk c.refill.new.self c.args.line.now c.fill_line.new.line
    (g.S.Source.left c.args.script.now) (g.S.Source.left c.pieces.script) (g.S.Source.left c.refill.new.script)
    (ReadsOn-fill c.args.chunk.now c.pieces.chunk c.fill_line.new.chunk c.args.line.now c.pieces.line c.fill_line.new.line
    (g.S.Source.left c.args.script.now) (g.S.Source.left c.pieces.script) c.pieces.invariant.0 c.if-fill_line.ensures.fills c.if-fill_line.ensures.count)
    c.if-fill_line.ensures.fills.0 few _ c.in-Ok-false.field-0-test c.in-Ok-false.ensures.refills

pub returns-in-Err-clause-seeks : goal.returns-in-Err-clause-seeks
returns-in-Err-clause-seeks g c =
    let few : c.fill_line.new.chunk.count ≤ 16777216 = search rules in
    Seeks-failed c.args.chunk.now c.fill_line.new.chunk c.refill.new.self c.args.line.now c.fill_line.new.line
    (g.S.Source.left c.args.script.now) (g.S.Source.left c.pieces.script) (g.S.Source.left c.refill.new.script) _
    (ReadsOn-fill c.args.chunk.now c.pieces.chunk c.fill_line.new.chunk c.args.line.now c.pieces.line c.fill_line.new.line
    (g.S.Source.left c.args.script.now) (g.S.Source.left c.pieces.script) c.pieces.invariant.0 c.if-fill_line.ensures.fills c.if-fill_line.ensures.count)
    c.if-fill_line.ensures.fills.0 few c.in-Err.ensures.stays.0 c.in-Err.ensures.stays.1
