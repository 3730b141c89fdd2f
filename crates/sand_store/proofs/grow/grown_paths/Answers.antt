-- each access path can grow, and after the last one all have
use Rattle.std.proofs.Common.{ℕ, ◌+◌, sym, ◌∙◌, subst, slice_index_or, arith}
use Rattle.code_btree.specs.declared.map.Tree.{Tree}
use Rattle.pmr_tree.specs.declared.quadtree.Pmr.{Pmr}
use Rattle.sand_store.specs.declared.path.AccessPath.{AccessPath}
use Rattle.sand_store.specs.declared.path.AccessPath.TheVariants.{Quadtree}
use Rattle.sand_store.proofs.PathSteps.{Paths, here_any}
use Rattle.sand_store.proofs.Midway.{Between, between_can, between_apart, between_next, between_end, between_full}
use Rattle.sand_store.proofs.grow.grown_paths.Goals as goal

-- what is read past the end
abbrev nothing : ℕ × AccessPath
nothing =
    let map : Tree = record { root = 0; height = 0; entries = 0 } in
    let tree : Pmr = record { map = map; threshold = 0; number = 0 } in (0, Quadtree tree)

pub with_row-requires-clause-can : goal.with_row-requires-clause-can
with_row-requires-clause-can g c =
    let p : ℕ × AccessPath = slice_index_or c.args.paths.now c.paths.at nothing in
    between_can c.args.pool.now c.paths.pool c.args.limits c.args.schema.now c.args.file c.args.id c.args.row.now c.args.paths.now c.paths.grown.items c.paths.at p
    c.paths.invariant c.paths-test.true (here_any c.args.paths.now c.paths.at nothing c.paths-test.true) c.requires.can

pub with_row-requires-clause-apart : goal.with_row-requires-clause-apart
with_row-requires-clause-apart g c =
    let p : ℕ × AccessPath = slice_index_or c.args.paths.now c.paths.at nothing in
    between_apart c.args.pool.now c.paths.pool c.args.limits c.args.schema.now c.args.file c.args.id c.args.row.now c.args.paths.now c.paths.grown.items c.paths.at p
    c.paths.invariant c.paths-test.true (here_any c.args.paths.now c.paths.at nothing c.paths-test.true) c.requires.can

pub paths-preserved : goal.paths-preserved
paths-preserved g c =
    let p : ℕ × AccessPath = slice_index_or c.args.paths.now c.paths.at nothing in
    let P : Paths → Type 0 = λ done. Between c.args.pool.now c.with_row.new.pool c.args.limits c.args.schema.now c.args.file c.args.id c.args.row.now c.args.paths.now done (c.paths.at + 1) in
    subst P (sym c.in_ok-push-in-Ok.ensures.items)
    (between_next c.args.pool.now c.paths.pool c.with_row.new.pool c.args.limits c.args.schema.now c.args.file c.args.id c.args.row.now c.args.paths.now c.paths.grown.items c.paths.at p c.in-Ok.path
    c.paths.invariant c.paths-test.true (here_any c.args.paths.now c.paths.at nothing c.paths-test.true) c.in-Ok.ensures.within c.in-Ok.ensures.cause.counted c.in-Ok.ensures.of c.in-Ok.ensures.grew)

pub returns-clause-grew : goal.returns-clause-grew
returns-clause-grew g c =
    between_end c.args.pool.now c.paths.pool c.args.limits c.args.schema.now c.args.file c.args.id c.args.row.now c.args.paths.now c.paths.grown.items c.paths.at
    c.paths.invariant (omega (arith, c.paths-test.false)) c.requires.can

pub returns-in-Err-clause-full : goal.returns-in-Err-clause-full
returns-in-Err-clause-full g c = λ e told gap measure.
    let p : ℕ × AccessPath = slice_index_or c.args.paths.now c.paths.at nothing in
    between_full c.args.pool.now c.paths.pool c.args.limits c.args.schema.now c.args.file c.args.id c.args.row.now c.args.paths.now c.paths.grown.items c.paths.at p
    c.paths.invariant c.paths-test.true (here_any c.args.paths.now c.paths.at nothing c.paths-test.true) c.requires.can told gap measure
    (c.in-Err.ensures.full e (c.paths.invariant.within.told ∙ told) gap measure)
