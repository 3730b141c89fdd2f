-- The map has the entry; rows lie on other pages, which stay.
use Rattle.std.proofs.Common.{refl, sym, ◌∙◌, ap, subst}
use Rattle.std.specs.Prelude.{None}
use Rattle.pmr_tree.specs.Leaves.{firsts, Passes}
use Rattle.pmr_tree.proofs.PairLists.{firsts_put, put_passes}
use Rattle.pmr_tree.proofs.OwnPages.{leads_changed}
use Rattle.pmr_tree.proofs.plot.PlotGroundPool.put.Goals as goal

pub returns-clause-leads : goal.returns-clause-leads
returns-clause-leads g c =
    let s = c.args.self.now.shapes.now in (
      refl,
      (
        refl,
        (
          refl,
          leads_changed (g.G.ShapeOf.rows s) c.args.self.now.shape.now (g.G.ShapeOf.Stands s) (g.G.ShapeOf.Owns s) (g.met.G.ShapeOf.own_stands s)
              (g.met.G.ShapeOf.own_rows s) (g.met.G.ShapeOf.own_pages s)
              c.args.self.now.tree c.args.pages.now _ _ None c.insert.ensures.within (record { counted = c.in_ok-insert.ensures.cause.counted; damaged = tt }) tt
              (λ e told ready. (let i = c.in_ok-insert.ensures.value told in (i.tree, i.keeps))),
        ),
      ),
    )

pub returns-clause-keys : goal.returns-clause-keys
returns-clause-keys g c = λ told. (let i = c.in_ok-insert.ensures.value told in ap firsts i.items ∙ firsts_put c.args.key c.args.value _ (c.requires.tree told).at.ascending)

pub returns-clause-values : goal.returns-clause-values
returns-clause-values g c = λ told test one w. (let i = c.in_ok-insert.ensures.value told in subst (Passes test) (sym i.items) (put_passes test c.args.key c.args.value _ one w))
