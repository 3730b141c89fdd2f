-- a row of another length is not of the schema
use Rattle.std.proofs.Common.{sym}
use Rattle.sand_store.proofs.RowKinds.{kinds_apart}
use Rattle.journal_replay.proofs.encoding.is_of_columns.Goals as goal

pub returns-then-columns-values : goal.returns-then-columns-values
returns-then-columns-values c = sym (kinds_apart c.args.columns.now c.args.values.now c.if-columns-values.true)
