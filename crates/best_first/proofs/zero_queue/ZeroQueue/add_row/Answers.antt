-- The row joins, if it is not there.
use Rattle.std.proofs.Common.{[], ◌∷◌, refl, subst}
use Rattle.best_first.specs.RowsAtZero.{zero_gap, row_at_zero}
use Rattle.best_first.specs.ZeroItems.{ZeroItems, OpensNode}
use Rattle.best_first.proofs.Queued.{row_joins, puts_one}
use Rattle.best_first.proofs.zero_queue.ZeroQueue.add_row.Goals as goal

pub returns : goal.returns
returns g c =
    let was : ZeroItems g.row.N.Denot = record { nodes = c.self.inside.nodes.items; roughs = c.self.inside.roughs.ids; rows = c.self.inside.rows.ids; below = c.self.inside.rows.below } in
    let new : ZeroItems g.row.N.Denot = record was { rows = c.insert.new.self.ids; below = c.insert.new.self.below } in
    subst (λ (q : ZeroItems g.row.N.Denot). OpensNode q.nodes (row_at_zero c.args.id ∷ []) q new) c.self.view_is
    (row_joins (row_at_zero c.args.id) zero_gap c.args.id 0 was c.insert.new.self.ids c.insert.new.self.below refl refl c.insert.ensures.bits
    (puts_one c.insert.result c.args.id c.self.inside.rows.ids c.insert.new.self.ids c.insert.ensures.ids))
