-- the entries are those of the model's tree
use Rattle.std.proofs.Common.{refl, sym, ◌∙◌}
use Rattle.pmr_tree.specs.declared.quadtree.Pmr.{Pmr}
use Rattle.pmr_build.proofs.Children.{err_passed}
use Rattle.pmr_build.proofs.Built.{premises, entered_told, entries_ascend, builds_over, few_over, full_told}
use Rattle.pmr_build.proofs.quadtree.build.Goals as goal

pub returns-in_err-enter-clause-full : goal.returns-in_err-enter-clause-full
returns-in_err-enter-clause-full g c =
    err_passed _ c.from_residual.result _ c.from_residual.ensures
    (λ full told gap measure.
    let rows = g.S.ShapeOf.rows c.args.shapes.now c.args.pool.now.pages in
    let h = premises rows c.args.members.now c.measure_laws.ensures.children c.measure_laws.ensures.tested c.measure_laws.ensures.root
    (g.met.S.ShapeOf.in_plane c.args.shapes.now c.args.pool.now.pages (c.requires.stands told)) (c.requires.rows told) (c.requires.members told) in
    full_told rows c.args.members.now h gap measure (record { threshold = c.args.threshold; limit = c.args.limit }) c.root.result c.from.result c.new-entries.result.items
    c.root.ensures.first c.root.ensures.level c.from.ensures c.new-entries.ensures.items (λ m. c.in_err-enter.ensures.full full told m))

pub tree_of_entries-requires-clause-ascending : goal.tree_of_entries-requires-clause-ascending
tree_of_entries-requires-clause-ascending g c = λ after.
    let told = sym c.in_ok-enter.ensures.read.told ∙ after in
    let rows = g.S.ShapeOf.rows c.args.shapes.now c.args.pool.now.pages in
    let h = premises rows c.args.members.now c.measure_laws.ensures.children c.measure_laws.ensures.tested c.measure_laws.ensures.root
    (g.met.S.ShapeOf.in_plane c.args.shapes.now c.args.pool.now.pages (c.requires.stands told)) (c.requires.rows told) (c.requires.members told) in
    let gap = c.ring_laws.ensures.measured.0 in
    let measure = c.ring_laws.ensures.measured.1 in
    entries_ascend rows c.args.members.now h gap measure c.args.threshold c.deref.result.now
    (entered_told rows c.args.members.now h gap measure c.args.threshold c.root.result c.from.result c.new-entries.result.items c.enter.new.entries.items c.deref.result.now
    c.root.ensures.first c.root.ensures.level c.from.ensures c.new-entries.ensures.items c.deref.ensures.value (λ m. c.in_ok-enter.ensures.entered told m))

pub returns-clause-built : goal.returns-clause-built
returns-clause-built g c = λ told.
    let rows = g.S.ShapeOf.rows c.args.shapes.now c.args.pool.now.pages in
    let h = premises rows c.args.members.now c.measure_laws.ensures.children c.measure_laws.ensures.tested c.measure_laws.ensures.root
    (g.met.S.ShapeOf.in_plane c.args.shapes.now c.args.pool.now.pages (c.requires.stands told)) (c.requires.rows told) (c.requires.members told) in
    builds_over c.args.pool.now c.enter.new.pages c.tree_of_entries.new.pool (record { map = c.in_ok-map.map; threshold = c.args.threshold; number = c.args.number }) c.args.threshold rows
    c.args.members.now c.deref.result.now c.ring_laws.ensures.measured h refl
    (λ gap measure. entered_told rows c.args.members.now h gap measure c.args.threshold c.root.result c.from.result c.new-entries.result.items c.enter.new.entries.items c.deref.result.now
    c.root.ensures.first c.root.ensures.level c.from.ensures c.new-entries.ensures.items c.deref.ensures.value (λ m. c.in_ok-enter.ensures.entered told m))
    c.in_ok-enter.ensures.read (c.in_ok-map.ensures.built (c.in_ok-enter.ensures.read.told ∙ told))

pub returns-clause-few : goal.returns-clause-few
returns-clause-few g c = λ told.
    let rows = g.S.ShapeOf.rows c.args.shapes.now c.args.pool.now.pages in
    let h = premises rows c.args.members.now c.measure_laws.ensures.children c.measure_laws.ensures.tested c.measure_laws.ensures.root
    (g.met.S.ShapeOf.in_plane c.args.shapes.now c.args.pool.now.pages (c.requires.stands told)) (c.requires.rows told) (c.requires.members told) in
    let t : Pmr = record { map = c.in_ok-map.map; threshold = c.args.threshold; number = c.args.number } in
    few_over c.args.pool.now c.enter.new.pages c.tree_of_entries.new.pool t c.args.threshold c.args.limit rows c.args.members.now c.deref.result.now c.enter.new.entries.items
    c.ring_laws.ensures.measured h refl
    (λ gap measure. entered_told rows c.args.members.now h gap measure c.args.threshold c.root.result c.from.result c.new-entries.result.items c.enter.new.entries.items c.deref.result.now
    c.root.ensures.first c.root.ensures.level c.from.ensures c.new-entries.ensures.items c.deref.ensures.value (λ m. c.in_ok-enter.ensures.entered told m))
    c.in_ok-enter.ensures.read (c.in_ok-map.ensures.built (c.in_ok-enter.ensures.read.told ∙ told)) c.deref.ensures.value c.in_ok-enter.ensures.few
