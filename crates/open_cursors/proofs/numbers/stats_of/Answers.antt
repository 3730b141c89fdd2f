-- the cursor at the place of the name, or none has the name
use Rattle.std.proofs.Common.{refl, sym}
use Rattle.plan_iterator.specs.Standing.{IsAt}
use Rattle.plan_iterator.specs.Rows.{counts_of}
use Rattle.open_cursors.proofs.CursorNumbers.{numbers_none, numbers_named}
use Rattle.open_cursors.proofs.NamedCursors.{first_shown, none_shown}
use Rattle.open_cursors.proofs.OpenNames.{open_at, open_none}
use Rattle.open_cursors.specs.OpenCursors.{AtStamp}
use Rattle.open_cursors.proofs.numbers.stats_of.Goals as goal

pub returns-in_default-clause-numbers : goal.returns-in_default-clause-numbers
returns-in_default-clause-numbers g c = λ stamps cs own h.
    numbers_none (AtStamp (λ r. IsAt g.S.RowSource.At g.T.RowStage.Stands g.T.RowStage.closed (λ s. counts_of (g.S.RowSource.seen s)) r)) stamps c.args.cursors.now cs c.args.name.now h
    (none_shown c.args.cursors.now c.args.cursors.now c.as_str.result.now c.args.name.now c.place_of.result c.place_of.ensures c.as_str.ensures refl c.in_default.is)

pub returns-clause-numbers : goal.returns-clause-numbers
returns-clause-numbers g c = λ stamps cs own h.
    numbers_named (AtStamp (λ r. IsAt g.S.RowSource.At g.T.RowStage.Stands g.T.RowStage.closed (λ s. counts_of (g.S.RowSource.seen s)) r)) stamps c.args.cursors.now cs c.args.name.now h
    c.in-Some.at c.index-cursors-at.result c.stats.result c.index-cursors-at.is
    (first_shown c.args.cursors.now c.args.cursors.now c.as_str.result.now c.args.name.now c.place_of.result c.in-Some.at c.place_of.ensures c.as_str.ensures refl c.in-Some.is) own
    (λ m at. c.stats.ensures.stands at.0.pages m at.2)

-- the names alone decide, whatever the pages
pub returns-in_default-clause-known : goal.returns-in_default-clause-known
returns-in_default-clause-known g c = sym (open_none c.args.name.now c.args.cursors.now
    (none_shown c.args.cursors.now c.args.cursors.now c.as_str.result.now c.args.name.now c.place_of.result c.place_of.ensures c.as_str.ensures refl c.in_default.is))

pub returns-clause-known : goal.returns-clause-known
returns-clause-known g c = sym (open_at c.args.name.now c.args.cursors.now c.in-Some.at
    (first_shown c.args.cursors.now c.args.cursors.now c.as_str.result.now c.args.name.now c.place_of.result c.in-Some.at c.place_of.ensures c.as_str.ensures refl c.in-Some.is))
