-- the row of the id is what its bytes are the encoding of
use Rattle.std.proofs.Common.{◌∙◌, sym, subst}
use Rattle.sand_store.specs.Catalog.{RelationView}
use Rattle.sand_store.specs.Standing.{RelationStands}
use Rattle.sand_store.proofs.DeleteCall.{row_fetched, none_at_zero}
use Rattle.sand_store.proofs.delete.found.Goals as goal

pub returns-then-id-eq0-clause-missing : goal.returns-then-id-eq0-clause-missing
returns-then-id-eq0-clause-missing g c = λ e told.
    none_at_zero c.args.pool.now.pages (c.requires.stands told).0 c.args.relation.now c.args.id c.if-id-eq0.true (c.requires.stands told).1

pub fetch-requires : goal.fetch-requires
fetch-requires g c = λ told.
    let H : RelationView → Type 0 = λ y. RelationStands c.args.pool.now.pages (c.requires.stands told).0 y in
    (subst H (sym c.relation.view_is) (c.requires.stands told).1).table.file

pub returns-in-Ok-Some-clause-there : goal.returns-in-Ok-Some-clause-there
returns-in-Ok-Some-clause-there g c = λ told.
    row_fetched c.args.pool.now.pages (c.requires.stands told).0 _ c.args.relation.now c.args.id c.in-Ok-Some.field-0 c.relation.view_is (c.requires.stands told).1 (c.in-Ok-Some.ensures.value told)
    ∙ c.in-Ok-Some.field-0-is

pub returns-in-Ok-None-clause-missing : goal.returns-in-Ok-None-clause-missing
returns-in-Ok-None-clause-missing g c = λ e told.
    row_fetched c.args.pool.now.pages (c.requires.stands told).0 _ c.args.relation.now c.args.id c.in-Ok-None.field-0 c.relation.view_is (c.requires.stands told).1 (c.in-Ok-None.ensures.value told)
    ∙ c.in-Ok-None.field-0-is
