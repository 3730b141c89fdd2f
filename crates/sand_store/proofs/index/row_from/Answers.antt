-- what a scan and a fetch give is the first row from the id on
use Rattle.sand_store.proofs.Filling.{scan_none, file_read, row_found}
use Rattle.sand_store.proofs.index.row_from.Goals as goal

pub returns-in-Ok-None-clause-found : goal.returns-in-Ok-None-clause-found
returns-in-Ok-None-clause-found g c = λ told.
    scan_none c.args.pool.now.pages c.args.shapes.now.schema.now c.args.shapes.now.file c.args.from c.in-Ok-None.field-0 (c.requires told) (c.in-Ok-None.ensures.value told) c.in-Ok-None.field-0-is

pub fetch-requires : goal.fetch-requires
fetch-requires g c = λ told.
    file_read c.args.pool.now c.scan.new.pages c.args.shapes.now.schema.now c.args.shapes.now.file c.requires c.in-Ok-Some.ensures.looks.read told

pub returns-in-Ok-Some-fetch-clause-found : goal.returns-in-Ok-Some-fetch-clause-found
returns-in-Ok-Some-fetch-clause-found g c = λ told.
    row_found c.args.pool.now c.scan.new.pages c.args.shapes.now.schema.now c.args.shapes.now.file c.args.from c.in-Ok-Some.id c.in-Ok-Some-fetch.row c.in-Ok-Some.field-0 c.in-Ok-Some-fetch.field-0
    c.requires c.in-Ok-Some.ensures.looks.read c.in-Ok-Some.ensures.value c.in-Ok-Some.field-0-is c.in-Ok-Some-fetch.ensures.value c.in-Ok-Some-fetch.field-0-is told
