-- The bytes given are the first of those left, and none was left where none is given.
use Rattle.std.proofs.Common.{length, ap, arith}
use Rattle.work_gen.specs.Script.{script_of}
use Rattle.work_gen.proofs.Giving.{given_first, given_none}
use Rattle.work_gen.proofs.work_source.WorkSourceSource.read.Goals as goal

pub returns-clause-bytes : goal.returns-clause-bytes
returns-clause-bytes c =
    let rest = script_of c.fill_line.new.workload in (
      given_first c.give.result c.give.new.piece c.fill_line.new.line c.give.new.self rest _ c.give.ensures.bytes c.give.ensures.left c.fill_line.ensures.left,
      λ none some. given_none c.give.result (length c.args.piece.now) c.fill_line.new.line c.give.new.self rest c.give.ensures.count c.give.ensures.left
          (λ empty. ap script_of (c.fill_line.ensures.end empty)) none (omega (arith, c.give.auto.piece)),
    )
