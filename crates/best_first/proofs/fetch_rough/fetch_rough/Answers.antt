-- The rough object is fetched, or the frontier stays.
use Rattle.std.proofs.Common.{refl}
use Rattle.best_first.specs.declared.item.Item.TheVariants.{Rough}
use Rattle.best_first.specs.Visits.{told_pages, state}
use Rattle.best_first.proofs.Lifts.{err_case, rough_asks, refused, fetches, tries_at}
use Rattle.best_first.proofs.Falling.{fetch_falls}
use Rattle.best_first.proofs.fetch_rough.fetch_rough.Goals as goal

pub resolve-requires : goal.resolve-requires
resolve-requires g c =
    rough_asks g.met.H.Node.Ord.total (g.H.Hierarchy.meaning c.args.hierarchy.now) (g.H.Hierarchy.note c.args.hierarchy.now) (told_pages c.args.desk.now)
    (g.Q.Queue.held c.args.frontier.now.queue) c.args.frontier.now.last c.args.gap c.args.left c.args.right c.requires.front.queued c.requires.stands

-- the fetch was refused, and at most its visit was noted
pub returns-in_err-exact-clause-moves : goal.returns-in_err-exact-clause-moves
returns-in_err-exact-clause-moves g c =
    let f = c.args.frontier.now in
    let pages = told_pages c.args.desk.now in
    let meaning = g.H.Hierarchy.meaning c.args.hierarchy.now in
    err_case _ _ _ c.from_residual.ensures.0
    (refused g.met.H.Node.Ord.total meaning (g.H.Hierarchy.note c.args.hierarchy.now) pages
    (state (g.Q.Queue.held f.queue) f.last f.counts c.args.desk.now) (state (g.Q.Queue.held f.queue) f.last f.counts c.resolve.new.desk) (Rough c.args.gap c.args.left c.args.right) tt
    c.requires.front refl refl refl c.requires.stands
    (tries_at pages meaning (g.H.Hierarchy.note c.args.hierarchy.now) c.args.gap c.args.left c.args.right c.args.desk.now c.resolve.new.desk c.in_err-exact.ensures.visits))

pub returns-clause-falls : goal.returns-clause-falls
returns-clause-falls g c =
    fetch_falls g.H.Node.Ord.cmp (g.H.Hierarchy.weight c.args.hierarchy.now) (g.Q.Queue.held c.args.frontier.now.queue) (g.Q.Queue.held c.take_equal.new.queue) (g.Q.Queue.held c.push_row.new.queue)
    c.ceiling.result c.args.gap c.args.left c.args.right (record { gap = c.in_ok-exact.exact; left = c.args.left; right = c.args.right }) c.take_equal.ensures.taken c.push_row.ensures

pub returns-clause-moves : goal.returns-clause-moves
returns-clause-moves g c =
    let f = c.args.frontier.now in
    fetches g.met.H.Node.Ord.total (g.H.Hierarchy.meaning c.args.hierarchy.now) (g.H.Hierarchy.note c.args.hierarchy.now) (told_pages c.args.desk.now)
    (state (g.Q.Queue.held f.queue) f.last f.counts c.args.desk.now)
    (state (g.Q.Queue.held c.push_row.new.queue) f.last (record f.counts { fetched = c.saturating_add-frontier.result }) c.resolve.new.desk)
    (g.Q.Queue.held c.take_equal.new.queue) c.ceiling.result c.args.gap (record { gap = c.in_ok-exact.exact; left = c.args.left; right = c.args.right })
    c.requires.front c.take_equal.ensures.taken c.push_row.ensures c.ceiling.ensures.value refl refl c.saturating_add-frontier.ensures
    c.requires.stands c.in_ok-exact.ensures.value c.in_ok-exact.ensures.visits
