-- The end where no left row waits; and what is left of the answer as a list, by what the call gives and by the left rows.
use Rattle.std.proofs.Common.{Ok, None, refl, sym, ◌∙◌}
use Rattle.best_first.specs.Visits.{told_pages, state}
use Rattle.semi_join.proofs.Turns.{ended}
use Rattle.semi_join.proofs.Lists.{takes_first_over}
use Rattle.semi_join.proofs.semi.Semi.next.Goals as goal

-- no left row waits, so none is left
pub returns-then-waiting-eq0-clause-pair : goal.returns-then-waiting-eq0-clause-pair
returns-then-waiting-eq0-clause-pair g c =
    let semi = c.args.self.now in
    let f = semi.engine.frontier in
    let none = c.if-waiting-eq0.true in
    let is = c.waiting.ensures in
    ended g.H.Node.Ord.cmp (g.H.Hierarchy.meaning semi.engine.hierarchy) (g.H.Hierarchy.note semi.engine.hierarchy) semi.lefts
    (state (g.Q.Queue.held f.queue) f.last f.counts c.args.desk.now) (told_pages c.args.desk.now) (sym is ∙ none) c.requires

pub returns-then-waiting-eq0-clause-rest : goal.returns-then-waiting-eq0-clause-rest
returns-then-waiting-eq0-clause-rest g c =
    let semi = c.args.self.now in
    let f = semi.engine.frontier in
    let meaning = g.H.Hierarchy.meaning semi.engine.hierarchy in
    let pages = told_pages c.args.desk.now in
    let none = c.if-waiting-eq0.true in
    let is = c.waiting.ensures in
    takes_first_over meaning pages semi.lefts semi.lefts (Ok None)
    (ended g.H.Node.Ord.cmp meaning (g.H.Hierarchy.note semi.engine.hierarchy) semi.lefts (state (g.Q.Queue.held f.queue) f.last f.counts c.args.desk.now) pages (sym is ∙ none) c.requires) refl

pub returns-clause-rest : goal.returns-clause-rest
returns-clause-rest g c =
    takes_first_over (g.H.Hierarchy.meaning c.args.self.now.engine.hierarchy)
    (told_pages c.args.desk.now) c.args.self.now.lefts c.next_pair.new.lefts c.next_pair.result c.next_pair.ensures.pair c.next_pair.ensures.lefts
