-- The rough object joins, if it is not there.
use Rattle.std.proofs.Common.{[], ◌∷◌, refl, subst}
use Rattle.best_first.specs.RowsAtZero.{zero_gap}
use Rattle.best_first.specs.ZeroItems.{ZeroItems, OpensNode, rough_at_zero}
use Rattle.best_first.proofs.Queued.{rough_joins, puts_one}
use Rattle.best_first.proofs.zero_queue.ZeroQueue.add_rough.Goals as goal

pub returns : goal.returns
returns g c =
    let was : ZeroItems g.row.N.Denot = record { nodes = c.self.inside.nodes.items; roughs = c.self.inside.roughs.ids; rows = c.self.inside.rows.ids; below = c.self.inside.rows.below } in
    let new : ZeroItems g.row.N.Denot = record was { roughs = c.insert.new.self.ids } in
    subst (λ (q : ZeroItems g.row.N.Denot). OpensNode q.nodes (rough_at_zero c.args.id ∷ []) q new) c.self.view_is
    (rough_joins (rough_at_zero c.args.id) zero_gap c.args.id 0 was c.insert.new.self.ids refl refl
    (puts_one c.insert.result c.args.id c.self.inside.roughs.ids c.insert.new.self.ids c.insert.ensures.ids))
