use Rattle.journal_replay.proofs.RowChanges.{inserted_change, loaded_change}
use Rattle.journal_replay.proofs.laws.changes_of_rows_do_what_their_statements_did.Goals as goal

-- one row, and rows
pub returns : goal.returns
returns c = record {
  inserted = λ setting d name row encodings relation named all passes. inserted_change setting d name relation named row encodings all passes;
  loaded = λ setting d name rows encodings relation named all passes. loaded_change setting d name relation named rows encodings all passes;
}
