-- The next row, the end, or a refusal.
use Rattle.std.proofs.Common.{refl, Ok}
use Rattle.best_first.specs.Steps.{steps}
use Rattle.best_first.specs.Visits.{told_pages, state}
use Rattle.best_first.proofs.Answering.{answer_row, answer_visits, answer_falls, refusal_visits, stands_after}
use Rattle.best_first.specs.ZeroItems.{items_of}
use Rattle.best_first.proofs.OverPages.{over_within, within_over, within_cut}
use Rattle.best_first.proofs.search.ZeroSearch.next.Goals as goal

pub returns-in-Ok-clause-row : goal.returns-in-Ok-clause-row
returns-in-Ok-clause-row g c =
    let f = c.args.self.now.frontier in
    let m = c.settle.new.frontier in
    let n = c.give_row.new.frontier in
    let meaning = g.H.Hierarchy.meaning c.args.self.now.hierarchy in
    answer_row g.met.H.Node.Ord.total meaning (g.H.Hierarchy.note c.args.self.now.hierarchy) (told_pages c.args.desk.now)
    (state (items_of f.queue) f.last f.counts c.args.desk.now) (state (items_of m.queue) m.last m.counts c.settle.new.desk) (state (items_of n.queue) n.last n.counts c.settle.new.desk)
    c.give_row.result c.in-Ok.ensures.last (over_within g.H.Node.Ord.cmp meaning (told_pages c.args.desk.now) (items_of f.queue) f.last c.requires) c.in-Ok.ensures.moves
    (record { counts = c.give_row.ensures.counts; last = c.give_row.ensures.last; queue = c.give_row.ensures.queue; desk = refl })

pub returns-in-Ok-clause-visits : goal.returns-in-Ok-clause-visits
returns-in-Ok-clause-visits g c =
    let f = c.args.self.now.frontier in
    let m = c.settle.new.frontier in
    let n = c.give_row.new.frontier in
    let meaning = g.H.Hierarchy.meaning c.args.self.now.hierarchy in
    answer_visits g.met.H.Node.Ord.total meaning (g.H.Hierarchy.note c.args.self.now.hierarchy) (told_pages c.args.desk.now)
    (state (items_of f.queue) f.last f.counts c.args.desk.now) (state (items_of m.queue) m.last m.counts c.settle.new.desk) (state (items_of n.queue) n.last n.counts c.settle.new.desk)
    c.give_row.result c.in-Ok.ensures.last (over_within g.H.Node.Ord.cmp meaning (told_pages c.args.desk.now) (items_of f.queue) f.last c.requires) c.in-Ok.ensures.moves
    (record { counts = c.give_row.ensures.counts; last = c.give_row.ensures.last; queue = c.give_row.ensures.queue; desk = refl })

pub returns-in-Ok-clause-stands : goal.returns-in-Ok-clause-stands
returns-in-Ok-clause-stands g c =
    let f = c.args.self.now.frontier in
    let m = c.settle.new.frontier in
    let n = c.give_row.new.frontier in
    let old = state (items_of f.queue) f.last f.counts c.args.desk.now in
    let new = state (items_of n.queue) n.last n.counts c.settle.new.desk in
    let meaning = g.H.Hierarchy.meaning c.args.self.now.hierarchy in
    let note = g.H.Hierarchy.note c.args.self.now.hierarchy in
    let stands = over_within g.H.Node.Ord.cmp meaning (told_pages c.args.desk.now) (items_of f.queue) f.last c.requires in
    within_over g.H.Node.Ord.cmp meaning (told_pages c.args.desk.now) (items_of f.queue) (items_of n.queue) f.last n.last c.requires
    (stands_after g.met.H.Node.Ord.total meaning note (told_pages c.args.desk.now) old new (Ok c.give_row.result) stands
    (answer_visits g.met.H.Node.Ord.total meaning note (told_pages c.args.desk.now)
    old (state (items_of m.queue) m.last m.counts c.settle.new.desk) new
    c.give_row.result c.in-Ok.ensures.last stands c.in-Ok.ensures.moves (record { counts = c.give_row.ensures.counts; last = c.give_row.ensures.last; queue = c.give_row.ensures.queue; desk = refl })))

pub returns-in-Ok-clause-falls : goal.returns-in-Ok-clause-falls
returns-in-Ok-clause-falls g c =
    let f = c.args.self.now.frontier in
    let m = c.settle.new.frontier in
    let n = c.give_row.new.frontier in
    let weight = g.H.Hierarchy.weight c.args.self.now.hierarchy in
    answer_falls g.H.Node.Ord.cmp weight (steps weight (items_of f.queue))
    (state (items_of m.queue) m.last m.counts c.settle.new.desk) (state (items_of n.queue) n.last n.counts c.settle.new.desk)
    c.give_row.result c.in-Ok.ensures.falls (record { counts = c.give_row.ensures.counts; last = c.give_row.ensures.last; queue = c.give_row.ensures.queue; desk = refl })

pub returns-in-Err-clause-stands : goal.returns-in-Err-clause-stands
returns-in-Err-clause-stands g c =
    let f = c.args.self.now.frontier in
    let n = c.settle.new.frontier in
    within_cut g.H.Node.Ord.cmp (g.H.Hierarchy.meaning c.args.self.now.hierarchy) (g.H.Hierarchy.note c.args.self.now.hierarchy) (told_pages c.args.desk.now)
    (state (items_of f.queue) f.last f.counts c.args.desk.now) (state (items_of n.queue) n.last n.counts c.settle.new.desk) c.requires c.in-Err.ensures.moves

pub returns-in-Err-clause-visits : goal.returns-in-Err-clause-visits
returns-in-Err-clause-visits g c =
    let f = c.args.self.now.frontier in
    let n = c.settle.new.frontier in
    let meaning = g.H.Hierarchy.meaning c.args.self.now.hierarchy in
    refusal_visits g.met.H.Node.Ord.total meaning (g.H.Hierarchy.note c.args.self.now.hierarchy) (told_pages c.args.desk.now)
    (state (items_of f.queue) f.last f.counts c.args.desk.now) (state (items_of n.queue) n.last n.counts c.settle.new.desk) c.in-Err.fault c.in-Err.ensures.last
    (over_within g.H.Node.Ord.cmp meaning (told_pages c.args.desk.now) (items_of f.queue) f.last c.requires) c.in-Err.ensures.moves
