-- each row from an id on adds a member, and after the last one all are gathered
use Rattle.std.proofs.Common.{◌≡◌, ℕ, ◌+◌, List, sym, ◌∙◌, subst, arith}
use Rattle.r_tree.specs.Entry.{Member}
use Rattle.sand_store.proofs.Gathering.{Gathering, gathering_next, gathering_end}
use Rattle.sand_store.proofs.rtree.members.Goals as goal

pub returns-in-Ok-None-clause-members : goal.returns-in-Ok-None-clause-members
returns-in-Ok-None-clause-members g c =
    gathering_end c.args.pool.now c.rows.pool c.args.shapes.now.schema.now c.args.shapes.now.file c.args.shapes.now.column c.rows.from c.rows.members.items c.rows.invariant
    (λ told. sym c.in-Ok-None.field-0-is ∙ c.in-Ok-None.ensures.found told)

pub rows-preserved : goal.rows-preserved
rows-preserved g c =
    let next : c.in-Some-checked_add.next ≡ c.in-Ok-Some.found.0 + 1 = omega (arith, c.in-Some-checked_add.ensures) in
    let P : ℕ → Type 0 = λ from. Gathering c.args.pool.now c.row_from.new.pool c.args.shapes.now.schema.now c.args.shapes.now.file c.args.shapes.now.column from c.push.new.self.items in
    let Q : List Member → Type 0 = λ done. Gathering c.args.pool.now c.row_from.new.pool c.args.shapes.now.schema.now c.args.shapes.now.file c.args.shapes.now.column (c.in-Ok-Some.found.0 + 1) done in
    subst P (sym next) (subst Q (sym c.in_ok-push.ensures.items)
    (gathering_next c.args.pool.now c.rows.pool c.row_from.new.pool c.args.shapes.now.schema.now c.args.shapes.now.file c.args.shapes.now.column c.rows.from c.in-Ok-Some.found.0 c.rows.members.items
    c.in-Ok-Some.found.1 c.in-Some.shape.now c.rough_shape.result c.rows.invariant c.requires c.in-Ok-Some.ensures.read c.in-Ok-Some.ensures.cause.counted
    (λ told. sym c.in-Ok-Some.field-0-is ∙ c.in-Ok-Some.ensures.found told) c.in-Some.ensures.shape c.rough_shape.ensures))
