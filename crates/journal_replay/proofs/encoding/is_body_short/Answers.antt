use Rattle.std.proofs.Common.{arith}
use Rattle.journal_replay.proofs.KeptRows.{sized_more, short_at, body_short}
use Rattle.journal_replay.proofs.encoding.is_body_short.Goals as goal

-- the next row is counted too
pub rows-preserved : goal.rows-preserved
rows-preserved c =
    let more = sized_more c.args.encodings.now c.rows.bytes-index c.bytes-item.result c.rows-test.true c.bytes-item.is in
    let short = short_at c.args.encodings.now c.rows.bytes-index c.bytes-item.result c.rows-test.true c.bytes-item.is c.requires.short in
    record { is = omega (arith, c.rows.invariant.is, c.len.ensures, more); few = omega (arith, c.if-size-ge-BODY_BYTES.false, c.len.ensures, short) }

-- all rows are counted
pub returns : goal.returns
returns c = body_short c.args.relation.now c.args.encodings.now c.rows.bytes-index c.rows.size c.rows.invariant.is c.rows-test.false
