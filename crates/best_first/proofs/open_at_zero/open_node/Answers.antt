-- The node is opened, or the frontier stays.
use Rattle.std.proofs.Common.{ap, refl}
use Rattle.best_first.specs.declared.item.Item.TheVariants.{Node}
use Rattle.best_first.specs.Visits.{told_pages}
use Rattle.best_first.proofs.Lifts.{err_case}
use Rattle.best_first.specs.RowsAtZero.{zero_gap}
use Rattle.best_first.specs.ZeroItems.{items_of}
use Rattle.best_first.proofs.ZeroSteps.{node_asks_zero, node_queued_at, open_falls_zero, opens_zero, refused_zero}
use Rattle.best_first.proofs.open_at_zero.open_node.Goals as goal

pub open_near-requires-clause-node : goal.open_near-requires-clause-node
open_near-requires-clause-node g c =
    let f = c.args.frontier.now in
    let (rest, ends) = c.requires.next in
    node_asks_zero g.met.H.Node.Ord.total (g.H.Hierarchy.meaning c.args.hierarchy.now) (g.H.Hierarchy.note c.args.hierarchy.now) (told_pages c.args.desk.now)
    f.queue f.last rest zero_gap c.args.node refl ends c.requires.stands

-- the opening was refused, and at most its visit was noted
pub returns-in_err-open_near-clause-moves : goal.returns-in_err-open_near-clause-moves
returns-in_err-open_near-clause-moves g c =
    let f = c.args.frontier.now in
    let (rest, ends) = c.requires.next in
    err_case _ _ _ c.from_residual.ensures.0
    (refused_zero g.met.H.Node.Ord.total (g.H.Hierarchy.meaning c.args.hierarchy.now) (g.H.Hierarchy.note c.args.hierarchy.now) (told_pages c.args.desk.now)
    (items_of f.queue) (items_of c.open_near.new.queue) f.last f.counts c.args.desk.now c.open_near.new.desk (Node zero_gap c.args.node) tt refl
    (node_queued_at f.queue rest zero_gap c.args.node refl ends)
    (ap items_of c.in_err-open_near.ensures.refused) c.in_err-open_near.ensures.visits)

pub returns-clause-falls : goal.returns-clause-falls
returns-clause-falls g c =
    let (rest, ends) = c.requires.next in
    let o = c.in_ok-open_near.ensures.opened in
    open_falls_zero (g.H.Hierarchy.weight c.args.hierarchy.now) c.args.frontier.now.queue c.open_near.new.queue rest o.found c.args.node ends (o.opens rest ends) o.falls o.few

pub returns-clause-moves : goal.returns-clause-moves
returns-clause-moves g c =
    let f = c.args.frontier.now in
    let (rest, ends) = c.requires.next in
    let o = c.in_ok-open_near.ensures.opened in
    opens_zero g.met.H.Node.Ord.total (g.H.Hierarchy.meaning c.args.hierarchy.now) (g.H.Hierarchy.note c.args.hierarchy.now) (told_pages c.args.desk.now)
    f.queue c.open_near.new.queue f.last f.counts (record f.counts { visited = c.saturating_add-frontier.result }) c.args.desk.now c.open_near.new.desk
    rest o.found zero_gap c.args.node refl ends (o.opens rest ends)
    c.saturating_add-frontier.ensures refl c.requires.stands o.alike c.in_ok-open_near.ensures.visits c.in_ok-open_near.ensures.gets
