-- The rough object is fetched, or the frontier stays.
use Rattle.std.proofs.Common.{ap, nat_eq, refl}
use Rattle.best_first.specs.RowsAtZero.{zero_gap}
use Rattle.best_first.specs.Visits.{told_pages}
use Rattle.best_first.proofs.Lifts.{err_case, tries_at}
use Rattle.best_first.specs.ZeroItems.{items_of, rough_at_zero}
use Rattle.best_first.proofs.ZeroSteps.{fetch_falls_zero, fetches_zero, refused_zero, rough_asks_zero, rough_queued}
use Rattle.best_first.proofs.fetch_at_zero.fetch_rough.Goals as goal

pub resolve-requires : goal.resolve-requires
resolve-requires g c =
    rough_asks_zero g.met.H.Node.Ord.total (g.H.Hierarchy.meaning c.args.hierarchy.now) (g.H.Hierarchy.note c.args.hierarchy.now) (told_pages c.args.desk.now)
    c.args.frontier.now.queue c.args.frontier.now.last c.args.id c.requires.next c.requires.stands

-- the fetch was refused, and at most its visit was noted
pub returns-in_err-exact-clause-moves : goal.returns-in_err-exact-clause-moves
returns-in_err-exact-clause-moves g c =
    let f = c.args.frontier.now in
    let held = items_of f.queue in
    let pages = told_pages c.args.desk.now in
    let meaning = g.H.Hierarchy.meaning c.args.hierarchy.now in
    let note = g.H.Hierarchy.note c.args.hierarchy.now in
    err_case _ _ _ c.from_residual.ensures.0
    (refused_zero g.met.H.Node.Ord.total meaning note pages held held f.last f.counts c.args.desk.now c.resolve.new.desk (rough_at_zero c.args.id) tt refl
    (rough_queued f.queue c.args.id c.requires.next) refl
    (tries_at pages meaning note zero_gap c.args.id 0 c.args.desk.now c.resolve.new.desk c.in_err-exact.ensures.visits))

pub returns-clause-falls : goal.returns-clause-falls
returns-clause-falls g c =
    fetch_falls_zero g.met.H.Node.Ord.total (g.H.Hierarchy.weight c.args.hierarchy.now) c.args.frontier.now.queue c.fetch.new.self c.args.id _ c.in_ok-exact.exact
    (ap (λ n. nat_eq n 0) c.num.ensures) c.requires.opened c.fetch.ensures

pub returns-clause-moves : goal.returns-clause-moves
returns-clause-moves g c =
    let f = c.args.frontier.now in
    fetches_zero g.met.H.Node.Ord.total (g.H.Hierarchy.meaning c.args.hierarchy.now) (g.H.Hierarchy.note c.args.hierarchy.now) (told_pages c.args.desk.now)
    f.queue c.fetch.new.self f.last f.counts (record f.counts { fetched = c.saturating_add-frontier.result }) c.args.desk.now c.resolve.new.desk
    c.args.id _ c.in_ok-exact.exact (ap (λ n. nat_eq n 0) c.num.ensures) c.requires.opened c.requires.next c.fetch.ensures refl c.saturating_add-frontier.ensures
    c.requires.stands c.in_ok-exact.ensures.value c.in_ok-exact.ensures.visits
