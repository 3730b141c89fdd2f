use Rattle.std.proofs.Common.{arith}
use Rattle.sand_journal.proofs.RowReads.{kept_stuck, kept_over, kept_done, some_by, none_by}
use Rattle.sand_journal.proofs.read_rows.split_rows.Goals as goal

-- with no frame behind fewer rows there aren't so many
pub returns-in_default : goal.returns-in_default
returns-in_default c = kept_stuck c.args.bytes.now c.rows.rows.items c.rows.rest.now c.args.count c.rows.invariant.split (omega (arith, c.rows-test.true, c.len.ensures)) c.in_default.ensures.none

-- with bytes behind so many rows they aren't all
pub returns-then-not-is_empty : goal.returns-then-not-is_empty
returns-then-not-is_empty c =
    kept_over c.args.bytes.now c.rows.rows.items c.rows.rest.now c.args.count c.rows.invariant.split (omega (arith, c.rows-test.false, c.len.ensures, c.rows.invariant.fits))
    (some_by c.rows.rest.now c.is_empty.result c.is_empty.ensures c.if-not-is_empty.true)

-- with none they are
pub returns : goal.returns
returns c =
    kept_done c.args.bytes.now c.rows.rest.now c.args.count c.rows.rows c.rows.invariant.split (omega (arith, c.rows-test.false, c.len.ensures, c.rows.invariant.fits))
    (none_by c.rows.rest.now c.is_empty.result c.is_empty.ensures c.if-not-is_empty.false)
