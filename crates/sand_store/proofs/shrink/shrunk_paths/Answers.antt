-- each access path can lose the row, and after the last one all have
use Rattle.std.proofs.Common.{ℕ, ◌+◌, sym, ◌∙◌, subst, slice_index_or, arith}
use Rattle.code_btree.specs.declared.map.Tree.{Tree}
use Rattle.pmr_tree.specs.declared.quadtree.Pmr.{Pmr}
use Rattle.sand_store.specs.declared.path.AccessPath.{AccessPath}
use Rattle.sand_store.specs.declared.path.AccessPath.TheVariants.{Quadtree}
use Rattle.sand_store.proofs.PathSteps.{Paths, here_any, Losing, losing_can, losing_next, losing_end, losing_places}
use Rattle.sand_store.proofs.shrink.shrunk_paths.Goals as goal

-- what is read past the end
abbrev nothing : ℕ × AccessPath
nothing =
    let map : Tree = record { root = 0; height = 0; entries = 0 } in
    let tree : Pmr = record { map = map; threshold = 0; number = 0 } in (0, Quadtree tree)

pub without_row-requires-clause-can : goal.without_row-requires-clause-can
without_row-requires-clause-can g c = λ told.
    let p : ℕ × AccessPath = slice_index_or c.args.paths.now c.paths.at nothing in
    let can = c.requires.can (sym c.paths.invariant.within.told ∙ told) in (
      can.0,
      losing_can c.args.pool.now c.paths.pool can.0 c.args.id c.args.row.now c.args.paths.now c.paths.shrunk.items c.paths.at p
          c.paths.invariant c.paths-test.true (here_any c.args.paths.now c.paths.at nothing c.paths-test.true) told can.1,
    )

pub paths-preserved : goal.paths-preserved
paths-preserved g c =
    let p : ℕ × AccessPath = slice_index_or c.args.paths.now c.paths.at nothing in
    let P : Paths → Type 0 = λ done. Losing c.args.pool.now c.without_row.new.pool c.args.id c.args.row.now c.args.paths.now done (c.paths.at + 1) in
    subst P (sym c.in_ok-push-in-Ok.ensures.items)
    (losing_next c.args.pool.now c.paths.pool c.without_row.new.pool c.args.id c.args.row.now c.args.paths.now c.paths.shrunk.items c.paths.at p c.in-Ok.path
    c.paths.invariant c.paths-test.true (here_any c.args.paths.now c.paths.at nothing c.paths-test.true) c.in-Ok.ensures.within c.in-Ok.ensures.cause.counted c.in-Ok.ensures.of c.in-Ok.ensures.lost)

pub returns-clause-lost : goal.returns-clause-lost
returns-clause-lost g c = λ told held can.
    losing_end c.args.pool.now c.paths.pool held c.args.id c.args.row.now c.args.paths.now c.paths.shrunk.items c.paths.at
    c.paths.invariant (omega (arith, c.paths-test.false)) told can

pub returns-clause-places : goal.returns-clause-places
returns-clause-places g c =
    losing_places c.args.pool.now c.paths.pool c.args.id c.args.row.now c.args.paths.now c.paths.shrunk.items c.paths.at c.paths.invariant (omega (arith, c.paths-test.false))
