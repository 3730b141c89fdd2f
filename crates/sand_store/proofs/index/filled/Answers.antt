-- each row from an id on can be taken, and after the last one all are there
use Rattle.std.proofs.Common.{◌≡◌, ◌+◌, ◌≤◌, ◌∙◌, sym, subst, arith, ℕ}
use Rattle.page_pool.specs.Steps.{InCommand-trans}
use Rattle.sand_store.proofs.HalfFilled.{Filling}
use Rattle.sand_store.proofs.Filling.{filling_start, filling_table, filling_can, filling_next, filling_full, filling_end, filling_within, filling_open, cause_passed, row_least}
use Rattle.sand_store.proofs.index.filled.Goals as goal

pub rows-init : goal.rows-init
rows-init g c = filling_start c.args.pool.now c.args.limits c.args.shapes.now.schema.now c.args.shapes.now.file c.args.shapes.now.column c.args.path

pub row_from-requires : goal.row_from-requires
row_from-requires g c =
    filling_table c.args.pool.now c.rows.pool c.args.limits c.args.shapes.now.schema.now c.args.shapes.now.file c.args.shapes.now.column c.args.path c.rows.filled c.rows.from c.rows.invariant c.requires.can

pub returns-in-Ok-None-clause-fills : goal.returns-in-Ok-None-clause-fills
returns-in-Ok-None-clause-fills g c =
    filling_end c.args.pool.now c.rows.pool c.row_from.new.pool c.args.limits c.args.shapes.now.schema.now c.args.shapes.now.file c.args.shapes.now.column c.args.path c.rows.filled c.rows.from
    c.rows.invariant c.requires.can c.in-Ok-None.ensures.read (λ told. sym c.in-Ok-None.field-0-is ∙ c.in-Ok-None.ensures.found told)

pub returns-in-Ok-None-clause-of : goal.returns-in-Ok-None-clause-of
returns-in-Ok-None-clause-of g c = c.rows.invariant.of

pub returns-in-Ok-None-clause-within : goal.returns-in-Ok-None-clause-within
returns-in-Ok-None-clause-within g c =
    filling_within c.args.pool.now c.rows.pool c.row_from.new.pool c.args.limits c.args.shapes.now.schema.now c.args.shapes.now.file c.args.shapes.now.column c.args.path c.rows.filled c.rows.from
    c.rows.invariant c.in-Ok-None.ensures.read

pub returns-in-Ok-None-clause-cause : goal.returns-in-Ok-None-clause-cause
returns-in-Ok-None-clause-cause g c = record { counted = c.in-Ok-None.ensures.cause.counted ∙ c.rows.invariant.counted; damaged = tt }

pub returns-in-Err-clause-within : goal.returns-in-Err-clause-within
returns-in-Err-clause-within g c =
    filling_within c.args.pool.now c.rows.pool c.row_from.new.pool c.args.limits c.args.shapes.now.schema.now c.args.shapes.now.file c.args.shapes.now.column c.args.path c.rows.filled c.rows.from
    c.rows.invariant c.in-Err.ensures.read

pub returns-in-Err-clause-cause : goal.returns-in-Err-clause-cause
returns-in-Err-clause-cause g c = cause_passed c.args.pool.now c.rows.pool c.row_from.new.pool c.in-Err.why c.rows.invariant.counted c.in-Err.ensures.cause

pub with_row_of-requires-clause-opened : goal.with_row_of-requires-clause-opened
with_row_of-requires-clause-opened g c =
    filling_open c.args.pool.now c.rows.pool c.row_from.new.pool c.args.limits c.args.shapes.now.schema.now c.args.shapes.now.file c.args.shapes.now.column c.args.path c.rows.filled c.rows.from
    c.rows.invariant c.in-Ok-Some.ensures.read c.requires.opened

pub with_row_of-requires-clause-id : goal.with_row_of-requires-clause-id
with_row_of-requires-clause-id g c =
    let l : c.rows.from ≤ c.in-Ok-Some.found.0 = row_least c.rows.from c.in-Ok-Some.field-0 c.in-Ok-Some.found c.in-Ok-Some.ensures.rises c.in-Ok-Some.field-0-is in
    omega (arith, l, c.rows.invariant.begun)

pub with_row_of-requires-clause-can : goal.with_row_of-requires-clause-can
with_row_of-requires-clause-can g c =
    filling_can c.args.pool.now c.rows.pool c.row_from.new.pool c.args.limits c.args.shapes.now.schema.now c.args.shapes.now.file c.args.shapes.now.column c.args.path c.rows.filled c.rows.from
    c.in-Ok-Some.found.0 c.in-Ok-Some.found.1 c.rows.invariant c.requires.can c.in-Ok-Some.ensures.read (λ told. sym c.in-Ok-Some.field-0-is ∙ c.in-Ok-Some.ensures.found told)

pub returns-in-Err-with_row_of-clause-full : goal.returns-in-Err-with_row_of-clause-full
returns-in-Err-with_row_of-clause-full g c = λ e told gap measure.
    filling_full c.args.pool.now c.rows.pool c.row_from.new.pool c.args.limits c.args.shapes.now.schema.now c.args.shapes.now.file c.args.shapes.now.column c.args.path c.rows.filled c.rows.from
    c.in-Ok-Some.found.0 c.in-Ok-Some.found.1 c.rows.invariant c.requires.can c.in-Ok-Some.ensures.read (λ t. sym c.in-Ok-Some.field-0-is ∙ c.in-Ok-Some.ensures.found t) gap measure
    (λ t h. c.in-Err-with_row_of.ensures.full e t h gap measure) told

pub returns-in-Err-with_row_of-clause-within : goal.returns-in-Err-with_row_of-clause-within
returns-in-Err-with_row_of-clause-within g c =
    InCommand-trans c.args.pool.now c.row_from.new.pool c.with_row_of.new.pool
    (filling_within c.args.pool.now c.rows.pool c.row_from.new.pool c.args.limits c.args.shapes.now.schema.now c.args.shapes.now.file c.args.shapes.now.column c.args.path c.rows.filled c.rows.from
    c.rows.invariant c.in-Ok-Some.ensures.read) c.in-Err-with_row_of.ensures.within

pub returns-in-Err-with_row_of-clause-cause : goal.returns-in-Err-with_row_of-clause-cause
returns-in-Err-with_row_of-clause-cause g c =
    cause_passed c.args.pool.now c.row_from.new.pool c.with_row_of.new.pool c.in-Err-with_row_of.why (c.in-Ok-Some.ensures.cause.counted ∙ c.rows.invariant.counted) c.in-Err-with_row_of.ensures.cause

pub returns-in_default-clause-within : goal.returns-in_default-clause-within
returns-in_default-clause-within g c =
    InCommand-trans c.args.pool.now c.row_from.new.pool c.with_row_of.new.pool
    (filling_within c.args.pool.now c.rows.pool c.row_from.new.pool c.args.limits c.args.shapes.now.schema.now c.args.shapes.now.file c.args.shapes.now.column c.args.path c.rows.filled c.rows.from
    c.rows.invariant c.in-Ok-Some.ensures.read) c.in-Ok.ensures.within

pub returns-in_default-clause-cause : goal.returns-in_default-clause-cause
returns-in_default-clause-cause g c = record { counted = c.in-Ok.ensures.cause.counted ∙ (c.in-Ok-Some.ensures.cause.counted ∙ c.rows.invariant.counted); damaged = tt }

pub rows-smaller : goal.rows-smaller
rows-smaller g c =
    let l : c.rows.from ≤ c.in-Ok-Some.found.0 = row_least c.rows.from c.in-Ok-Some.field-0 c.in-Ok-Some.found c.in-Ok-Some.ensures.rises c.in-Ok-Some.field-0-is in
    omega (arith, l, c.in-Some.ensures)

pub rows-preserved : goal.rows-preserved
rows-preserved g c =
    let next : c.in-Some.next ≡ c.in-Ok-Some.found.0 + 1 = omega (arith, c.in-Some.ensures) in
    let P : ℕ → Type 0 = λ from. Filling c.args.pool.now c.with_row_of.new.pool c.args.limits c.args.shapes.now.schema.now c.args.shapes.now.file c.args.shapes.now.column c.args.path c.in-Ok.grown from in
    subst P (sym next)
    (filling_next c.args.pool.now c.rows.pool c.row_from.new.pool c.with_row_of.new.pool c.args.limits c.args.shapes.now.schema.now c.args.shapes.now.file c.args.shapes.now.column c.args.path c.rows.filled
    c.in-Ok.grown c.rows.from c.in-Ok-Some.found.0 c.in-Ok-Some.found.1 c.rows.invariant c.in-Ok-Some.ensures.read c.in-Ok-Some.ensures.cause.counted
    (λ told. sym c.in-Ok-Some.field-0-is ∙ c.in-Ok-Some.ensures.found told) c.in-Ok.ensures.within c.in-Ok.ensures.cause.counted c.in-Ok.ensures.of c.in-Ok.ensures.took)
