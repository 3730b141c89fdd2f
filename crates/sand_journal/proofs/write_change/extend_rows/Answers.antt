use Rattle.std.proofs.Common.{sym, subst, rules}
use Rattle.sand_journal.specs.ChangeBody.{IsEncodingShort}
use Rattle.sand_journal.proofs.Writes.{vec_short}
use Rattle.sand_journal.proofs.write_change.extend_rows.Goals as goal

-- each row is short
pub extend_row-requires : goal.extend_row-requires
extend_row-requires c = subst IsEncodingShort (sym c.deref.ensures.value) (vec_short c.args.rows.now c.rows.row-index c.row-item.result c.requires (search rules) c.row-item.is)
