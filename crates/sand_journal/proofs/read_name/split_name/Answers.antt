use Rattle.std.proofs.Common.{arith}
use Rattle.sand_journal.proofs.RowReads.{long_name}
use Rattle.sand_journal.proofs.read_name.split_name.Goals as goal

-- a name is no longer than what follows its length
pub returns-then-size-after-clause-none : goal.returns-then-size-after-clause-none
returns-then-size-after-clause-none c = λ name rest named is.
    long_name c.args.bytes.now c.in-Some.after.now name rest c.in-Some.size c.in-Some.ensures.found is (omega (arith, c.if-size-after.true, c.from-size.ensures))
