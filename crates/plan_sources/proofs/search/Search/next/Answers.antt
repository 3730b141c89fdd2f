-- What the search by distance gives is given, and what the search within the distance 0 gives.
use Rattle.std.proofs.Common.{ap, ◌∙◌}
use Rattle.best_first.specs.Visits.{told_pages}
use Rattle.rank_cursor.specs.declared.rank_tree.RankTree.{RankTree}
use Rattle.sand_store.specs.declared.column.FileShapes.{FileShapes}
use Rattle.best_first.specs.ZeroItems.{items_of}
use Rattle.plan_sources.proofs.OverPages.{stands_over, stands_within}
use Rattle.plan_sources.proofs.search.Search.next.Goals as goal

-- the search stands, and within the distance 0 its ceiling is that distance

pub next-requires : goal.next-requires
next-requires g c =
    let s = c.in-Nearest.search in
    stands_over (told_pages c.args.desk.now) s.hierarchy s.frontier.queue.items s.frontier.last (rw c.in-Nearest.is at c.requires)

pub next-requires-in-AtZero : goal.next-requires-in-AtZero
next-requires-in-AtZero g c =
    let s = c.in-AtZero.search in
    stands_within (told_pages c.args.desk.now) s.hierarchy (items_of s.frontier.queue) s.frontier.last (rw c.in-AtZero.is at c.requires)

-- a ranking

pub returns-in-Nearest-clause-hierarchy : goal.returns-in-Nearest-clause-hierarchy
returns-in-Nearest-clause-hierarchy g c = rw c.in-Nearest.is c.next.ensures.hierarchy

pub returns-in-Nearest-clause-row : goal.returns-in-Nearest-clause-row
returns-in-Nearest-clause-row g c = rw c.in-Nearest.is c.next.ensures.row

pub returns-in-Nearest-clause-last : goal.returns-in-Nearest-clause-last
returns-in-Nearest-clause-last g c = rw c.in-Nearest.is c.next.ensures.last

pub returns-in-Nearest-clause-visits : goal.returns-in-Nearest-clause-visits
returns-in-Nearest-clause-visits g c = rw c.in-Nearest.is c.next.ensures.visits

pub returns-in-Nearest-clause-falls : goal.returns-in-Nearest-clause-falls
returns-in-Nearest-clause-falls g c = rw c.in-Nearest.is c.next.ensures.falls

-- within the distance 0

pub returns-in-AtZero-clause-hierarchy : goal.returns-in-AtZero-clause-hierarchy
returns-in-AtZero-clause-hierarchy g c = rw c.in-AtZero.is c.next-in-AtZero.ensures.hierarchy

pub returns-in-AtZero-clause-ceiling : goal.returns-in-AtZero-clause-ceiling
returns-in-AtZero-clause-ceiling g c = rw c.in-AtZero.is (λ e. ap (λ (tree : RankTree FileShapes). tree.ceiling) c.next-in-AtZero.ensures.hierarchy ∙ e)

pub returns-in-AtZero-clause-row : goal.returns-in-AtZero-clause-row
returns-in-AtZero-clause-row g c = rw c.in-AtZero.is c.next-in-AtZero.ensures.row

pub returns-in-AtZero-clause-last : goal.returns-in-AtZero-clause-last
returns-in-AtZero-clause-last g c = rw c.in-AtZero.is c.next-in-AtZero.ensures.last

pub returns-in-AtZero-clause-visits : goal.returns-in-AtZero-clause-visits
returns-in-AtZero-clause-visits g c = rw c.in-AtZero.is c.next-in-AtZero.ensures.visits

pub returns-in-AtZero-clause-falls : goal.returns-in-AtZero-clause-falls
returns-in-AtZero-clause-falls g c = rw c.in-AtZero.is c.next-in-AtZero.ensures.falls
