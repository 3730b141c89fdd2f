use Rattle.journal_replay.proofs.KeptRows.{encoded_more}
use Rattle.journal_replay.proofs.encoding.encode_all.Goals as goal

-- the next row is encoded too
pub rows-preserved : goal.rows-preserved
rows-preserved c =
    let found = rw c.in-Some.is at c.in_ok-bytes.ensures in
    encoded_more c.args.schema.now c.args.rows.now c.rows.row-index c.row-item.result c.rows.encodings.items c.push.new.self.items c.in-Some.bytes c.rows-test.true c.row-item.is c.in_ok-push.ensures.items
    c.rows.invariant found.0 found.1
