-- The first wanted row, the end, or a refusal.
use Rattle.std.proofs.Common.{inl, inr, ⊎_elim, refl, Ok, Err}
use Rattle.best_first.specs.Steps.{steps}
use Rattle.best_first.specs.Visits.{told_pages, state}
use Rattle.best_first.proofs.Answering.{answer_falls}
use Rattle.best_first.proofs.WantedCalls.{answer_row_for, answer_visits_for, answer_is_wanted, refusal_visits_for, stands_after_for}
use Rattle.best_first.proofs.engine.BestFirst.next_wanted.Goals as goal

-- a settled frontier, whatever is wanted
pub give_row-requires : goal.give_row-requires
give_row-requires g c = ⊎_elim inl (λ (hit, (first, _)). inr (hit, first)) c.in-Ok.ensures.settled

pub returns-in-Ok-clause-row : goal.returns-in-Ok-clause-row
returns-in-Ok-clause-row g c =
    let f = c.args.self.now.frontier in
    let m = c.settle_wanted.new.frontier in
    let n = c.give_row.new.frontier in
    answer_row_for g.met.H.Node.Ord.total (g.H.Hierarchy.meaning c.args.self.now.hierarchy) (g.H.Hierarchy.note c.args.self.now.hierarchy) (g.W.Wanted.lefts c.args.wanted.now)
    (told_pages c.args.desk.now)
    (state (g.Q.Queue.held f.queue) f.last f.counts c.args.desk.now) (state (g.Q.Queue.held m.queue) m.last m.counts c.settle_wanted.new.desk)
    (state (g.Q.Queue.held n.queue) n.last n.counts c.settle_wanted.new.desk)
    c.give_row.result c.in-Ok.ensures.settled c.requires c.in-Ok.ensures.moves
    (record { counts = c.give_row.ensures.counts; last = c.give_row.ensures.last; queue = c.give_row.ensures.queue; desk = refl })

pub returns-in-Ok-clause-wanted : goal.returns-in-Ok-clause-wanted
returns-in-Ok-clause-wanted g c =
    let m = c.settle_wanted.new.frontier in
    let n = c.give_row.new.frontier in
    answer_is_wanted g.met.H.Node.Ord.total (g.W.Wanted.lefts c.args.wanted.now)
    (state (g.Q.Queue.held m.queue) m.last m.counts c.settle_wanted.new.desk) (state (g.Q.Queue.held n.queue) n.last n.counts c.settle_wanted.new.desk)
    c.give_row.result c.in-Ok.ensures.settled
    (record { counts = c.give_row.ensures.counts; last = c.give_row.ensures.last; queue = c.give_row.ensures.queue; desk = refl })

pub returns-in-Ok-clause-visits : goal.returns-in-Ok-clause-visits
returns-in-Ok-clause-visits g c =
    let f = c.args.self.now.frontier in
    let m = c.settle_wanted.new.frontier in
    let n = c.give_row.new.frontier in
    answer_visits_for g.met.H.Node.Ord.total (g.H.Hierarchy.meaning c.args.self.now.hierarchy) (g.H.Hierarchy.note c.args.self.now.hierarchy) (g.W.Wanted.lefts c.args.wanted.now)
    (told_pages c.args.desk.now)
    (state (g.Q.Queue.held f.queue) f.last f.counts c.args.desk.now) (state (g.Q.Queue.held m.queue) m.last m.counts c.settle_wanted.new.desk)
    (state (g.Q.Queue.held n.queue) n.last n.counts c.settle_wanted.new.desk)
    c.give_row.result c.requires c.in-Ok.ensures.moves c.in-Ok.ensures.last
    (record { counts = c.give_row.ensures.counts; last = c.give_row.ensures.last; queue = c.give_row.ensures.queue; desk = refl })

pub returns-in-Ok-clause-stands : goal.returns-in-Ok-clause-stands
returns-in-Ok-clause-stands g c =
    let f = c.args.self.now.frontier in
    let m = c.settle_wanted.new.frontier in
    let n = c.give_row.new.frontier in
    let old = state (g.Q.Queue.held f.queue) f.last f.counts c.args.desk.now in
    let new = state (g.Q.Queue.held n.queue) n.last n.counts c.settle_wanted.new.desk in
    let meaning = g.H.Hierarchy.meaning c.args.self.now.hierarchy in
    let note = g.H.Hierarchy.note c.args.self.now.hierarchy in
    let wants = g.W.Wanted.lefts c.args.wanted.now in
    stands_after_for g.met.H.Node.Ord.total meaning note wants (told_pages c.args.desk.now) old new (Ok c.give_row.result) c.requires
    (answer_visits_for g.met.H.Node.Ord.total meaning note wants (told_pages c.args.desk.now)
    old (state (g.Q.Queue.held m.queue) m.last m.counts c.settle_wanted.new.desk) new
    c.give_row.result c.requires c.in-Ok.ensures.moves c.in-Ok.ensures.last
    (record { counts = c.give_row.ensures.counts; last = c.give_row.ensures.last; queue = c.give_row.ensures.queue; desk = refl }))

pub returns-in-Ok-clause-falls : goal.returns-in-Ok-clause-falls
returns-in-Ok-clause-falls g c =
    let f = c.args.self.now.frontier in
    let m = c.settle_wanted.new.frontier in
    let n = c.give_row.new.frontier in
    let weight = g.H.Hierarchy.weight c.args.self.now.hierarchy in
    answer_falls g.H.Node.Ord.cmp weight (steps weight (g.Q.Queue.held f.queue))
    (state (g.Q.Queue.held m.queue) m.last m.counts c.settle_wanted.new.desk) (state (g.Q.Queue.held n.queue) n.last n.counts c.settle_wanted.new.desk)
    c.give_row.result c.in-Ok.ensures.falls (record { counts = c.give_row.ensures.counts; last = c.give_row.ensures.last; queue = c.give_row.ensures.queue; desk = refl })

pub returns-in-Err-clause-visits : goal.returns-in-Err-clause-visits
returns-in-Err-clause-visits g c =
    let f = c.args.self.now.frontier in
    let n = c.settle_wanted.new.frontier in
    refusal_visits_for g.met.H.Node.Ord.total (g.H.Hierarchy.meaning c.args.self.now.hierarchy) (g.H.Hierarchy.note c.args.self.now.hierarchy) (g.W.Wanted.lefts c.args.wanted.now)
    (told_pages c.args.desk.now) (state (g.Q.Queue.held f.queue) f.last f.counts c.args.desk.now)
    (state (g.Q.Queue.held n.queue) n.last n.counts c.settle_wanted.new.desk) c.in-Err.fault c.requires c.in-Err.ensures.moves

pub returns-in-Err-clause-stands : goal.returns-in-Err-clause-stands
returns-in-Err-clause-stands g c =
    let f = c.args.self.now.frontier in
    let n = c.settle_wanted.new.frontier in
    let meaning = g.H.Hierarchy.meaning c.args.self.now.hierarchy in
    let note = g.H.Hierarchy.note c.args.self.now.hierarchy in
    let wants = g.W.Wanted.lefts c.args.wanted.now in
    let old = state (g.Q.Queue.held f.queue) f.last f.counts c.args.desk.now in
    let new = state (g.Q.Queue.held n.queue) n.last n.counts c.settle_wanted.new.desk in
    stands_after_for g.met.H.Node.Ord.total meaning note wants (told_pages c.args.desk.now) old new (Err c.in-Err.fault) c.requires
    (refusal_visits_for g.met.H.Node.Ord.total meaning note wants (told_pages c.args.desk.now) old new c.in-Err.fault c.requires c.in-Err.ensures.moves)
