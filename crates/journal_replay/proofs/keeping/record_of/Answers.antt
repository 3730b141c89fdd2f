use Rattle.std.proofs.Common.{[], All, sym, subst}
use Rattle.std.proofs.lemmas.List.Elements.{All-nil, All-cons}
use Rattle.sand_base.specs.InRange.{IsRowInRange}
use Rattle.script_text.specs.InRange.{IsInRange}
use Rattle.journal_replay.proofs.KeptLines.{insert_is, insert_kept, none_kept}
use Rattle.journal_replay.proofs.keeping.record_of.Goals as goal

-- an insertion in range names a relation
pub record_of_rows-requires-clause-named : goal.record_of_rows-requires-clause-named
record_of_rows-requires-clause-named c = (subst IsInRange (insert_is c.args.statement.now c.in-Insert.relation c.in-Insert.values c.in-Insert.is) c.requires).0

-- and its row is in range
pub record_of_rows-requires-clause-in_range : goal.record_of_rows-requires-clause-in_range
record_of_rows-requires-clause-in_range c =
    subst (All IsRowInRange) (sym c.from_ref.ensures.value)
    (All-cons IsRowInRange c.in-Insert.values [] (subst IsInRange (insert_is c.args.statement.now c.in-Insert.relation c.in-Insert.values c.in-Insert.is) c.requires).1.all (All-nil IsRowInRange))

-- what is kept of an insertion is the record of its row
pub returns-in-Insert : goal.returns-in-Insert
returns-in-Insert c =
    insert_kept c.args.catalog.now c.args.statement.now c.in-Insert.relation c.in-Insert.values c.from_ref.result.now c.record_of_rows.result c.in-Insert.is c.from_ref.ensures.value c.record_of_rows.ensures

-- nothing is kept of another statement
pub returns-in_default-2 : goal.returns-in_default-2
returns-in_default-2 c = none_kept c.args.catalog.now c.args.statement.now (rw c.in_default-2.is at c.in_ok-line.ensures) c.in_default.not-Insert
