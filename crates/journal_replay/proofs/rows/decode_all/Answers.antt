use Rattle.std.proofs.Common.{ℕ, ◌+◌, List, take, subst, sym}
use Rattle.sand_base.specs.declared.value.Value.{Value}
use Rattle.sand_journal.specs.RowsBody.{bytes_of_each}
use Rattle.tuple_codec.specs.Decoding.{IsEncodingOf}
use Rattle.journal_replay.specs.EncodedRows.{AreEncodingsOf}
use Rattle.journal_replay.proofs.Decoded.{read_more, none_with, none_found}
use Rattle.journal_replay.proofs.rows.decode_all.Goals as goal

-- where one of the encodings is that of no row, no rows have them
pub returns-in_default : goal.returns-in_default
returns-in_default c =
    none_with c.args.schema.now c.args.encodings.now c.rows.bytes-index c.bytes-item.result c.rows-test.true c.bytes-item.is
    (λ row encoded. none_found c.in_ok-row.field-0 row c.in_default.is
    (c.in_ok-row.ensures.whole row (subst (λ (b : List ℕ). IsEncodingOf c.args.schema.now row b) (sym c.deref.ensures.value) encoded)))

-- the row that was read is that of the next encoding
pub rows-preserved : goal.rows-preserved
rows-preserved c =
    subst (λ (rows : List (List Value)). AreEncodingsOf c.args.schema.now rows (bytes_of_each (take (c.rows.bytes-index + 1) c.args.encodings.now))) (sym c.in_ok-push.ensures.items)
    (read_more c.args.schema.now c.args.encodings.now c.rows.bytes-index c.bytes-item.result c.rows.rows.items c.in-Some.row c.rows-test.true c.bytes-item.is c.rows.invariant
    (subst (λ (b : List ℕ). IsEncodingOf c.args.schema.now c.in-Some.row b) c.deref.ensures.value (rw c.in-Some.is at c.in_ok-row.ensures.found)))
