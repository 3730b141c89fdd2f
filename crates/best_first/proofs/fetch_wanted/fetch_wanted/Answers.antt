-- The rough object is fetched, or the frontier stays.
use Rattle.std.proofs.Common.{refl}
use Rattle.best_first.specs.declared.item.Item.TheVariants.{Rough}
use Rattle.best_first.specs.Visits.{told_pages, state}
use Rattle.best_first.proofs.Lifts.{err_case, tries_at}
use Rattle.best_first.proofs.WantedCalls.{rough_asks_for, refused_for, fetches_for, fetch_falls_for}
use Rattle.best_first.proofs.fetch_wanted.fetch_wanted.Goals as goal

pub resolve-requires : goal.resolve-requires
resolve-requires g c =
    rough_asks_for g.met.H.Node.Ord.total (g.H.Hierarchy.meaning c.args.hierarchy.now) (g.H.Hierarchy.note c.args.hierarchy.now) (g.W.Wanted.lefts c.args.wanted.now) (told_pages c.args.desk.now)
    (g.Q.Queue.held c.args.frontier.now.queue) c.args.gap c.args.left c.args.right c.requires.front.queued c.requires.stands

-- the fetch was refused, and at most its visit was noted
pub returns-in_err-exact-clause-moves : goal.returns-in_err-exact-clause-moves
returns-in_err-exact-clause-moves g c =
    let f = c.args.frontier.now in
    let pages = told_pages c.args.desk.now in
    let meaning = g.H.Hierarchy.meaning c.args.hierarchy.now in
    err_case _ _ _ c.from_residual.ensures.0
    (refused_for g.met.H.Node.Ord.total meaning (g.H.Hierarchy.note c.args.hierarchy.now) (g.W.Wanted.lefts c.args.wanted.now) pages
    (state (g.Q.Queue.held f.queue) f.last f.counts c.args.desk.now) (state (g.Q.Queue.held f.queue) f.last f.counts c.resolve.new.desk) (Rough c.args.gap c.args.left c.args.right) tt
    c.requires.front refl refl c.requires.stands
    (tries_at pages meaning (g.H.Hierarchy.note c.args.hierarchy.now) c.args.gap c.args.left c.args.right c.args.desk.now c.resolve.new.desk c.in_err-exact.ensures.visits))

pub returns-clause-falls : goal.returns-clause-falls
returns-clause-falls g c =
    fetch_falls_for g.H.Node.Ord.cmp (g.W.Wanted.lefts c.args.wanted.now) (g.H.Hierarchy.weight c.args.hierarchy.now) (g.Q.Queue.held c.args.frontier.now.queue)
    (g.Q.Queue.held c.take_equal.new.queue) (g.Q.Queue.held c.push_wanted.new.queue)
    c.ceiling.result c.args.gap c.args.left c.args.right (record { gap = c.in_ok-exact.exact; left = c.args.left; right = c.args.right }) c.take_equal.ensures.taken c.push_wanted.ensures

pub returns-clause-moves : goal.returns-clause-moves
returns-clause-moves g c =
    let f = c.args.frontier.now in
    fetches_for g.met.H.Node.Ord.total (g.H.Hierarchy.meaning c.args.hierarchy.now) (g.H.Hierarchy.note c.args.hierarchy.now) (g.W.Wanted.lefts c.args.wanted.now) (told_pages c.args.desk.now)
    (state (g.Q.Queue.held f.queue) f.last f.counts c.args.desk.now)
    (state (g.Q.Queue.held c.push_wanted.new.queue) f.last (record f.counts { fetched = c.saturating_add-frontier.result }) c.resolve.new.desk)
    (g.Q.Queue.held c.take_equal.new.queue) c.ceiling.result c.args.gap (record { gap = c.in_ok-exact.exact; left = c.args.left; right = c.args.right })
    c.requires.front c.take_equal.ensures.taken c.push_wanted.ensures c.ceiling.ensures.value refl c.saturating_add-frontier.ensures
    c.requires.stands c.in_ok-exact.ensures.value c.in_ok-exact.ensures.visits
