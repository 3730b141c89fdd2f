-- The node is opened, or the frontier stays.
use Rattle.std.proofs.Common.{IsPermutation, ◌++◌, ◌<◌, ◌≤◌, ◌^◌, length, [], ◌∷◌, subst, sym, refl, arith, IfSome}
use Rattle.rank_queue.specs.Least.{IsFirst}
use Rattle.best_first.specs.declared.item.Item.TheVariants.{Node}
use Rattle.best_first.specs.Item.{gap_of}
use Rattle.best_first.specs.Steps.{AddsLess}
use Rattle.best_first.specs.Hierarchy.{FindsAlike, kept}
use Rattle.best_first.specs.Reach.{within}
use Rattle.best_first.specs.Order.{item_cmp, item_total}
use Rattle.best_first.specs.Visits.{told_pages, state}
use Rattle.best_first.specs.Wanted.{wanted_of}
use Rattle.best_first.proofs.Lifts.{over_one, err_case, popped_node}
use Rattle.best_first.proofs.WantedCalls.{node_asks_for, refused_for, refused_later_for, opens_for}
use Rattle.best_first.proofs.WantedItems.{finds_wanted, less_wanted}
use Rattle.best_first.proofs.Falling.{open_falls}
use Rattle.best_first.proofs.Bags.{filter_short}
use Rattle.best_first.proofs.Removals.{replaces_first}
use Rattle.best_first.proofs.open_wanted.open_wanted.Goals as goal

pub expand_near-requires-clause-node : goal.expand_near-requires-clause-node
expand_near-requires-clause-node g c =
    node_asks_for g.met.H.Node.Ord.total (g.H.Hierarchy.meaning c.args.hierarchy.now) (g.H.Hierarchy.note c.args.hierarchy.now) (g.W.Wanted.lefts c.args.wanted.now) (told_pages c.args.desk.now)
    (g.Q.Queue.held c.args.frontier.now.queue) c.args.gap c.args.node c.requires.front.queued c.requires.stands

-- the expansion was refused, and at most its visit was noted
pub returns-in_err-expand_near-clause-moves : goal.returns-in_err-expand_near-clause-moves
returns-in_err-expand_near-clause-moves g c =
    let f = c.args.frontier.now in
    err_case _ _ _ c.from_residual.ensures.0
    (refused_for g.met.H.Node.Ord.total (g.H.Hierarchy.meaning c.args.hierarchy.now) (g.H.Hierarchy.note c.args.hierarchy.now) (g.W.Wanted.lefts c.args.wanted.now) (told_pages c.args.desk.now)
    (state (g.Q.Queue.held f.queue) f.last f.counts c.args.desk.now) (state (g.Q.Queue.held f.queue) f.last f.counts c.expand_near.new.desk) (Node c.args.gap c.args.node) tt
    c.requires.front refl refl c.requires.stands c.in_err-expand_near.ensures.visits)

-- the places were refused, after the visit was noted
pub returns-in_err-reserve-clause-moves : goal.returns-in_err-reserve-clause-moves
returns-in_err-reserve-clause-moves g c =
    let f = c.args.frontier.now in
    err_case _ _ _ c.from_residual-in_err-reserve.ensures.0
    (refused_later_for g.met.H.Node.Ord.total (g.H.Hierarchy.meaning c.args.hierarchy.now) (g.H.Hierarchy.note c.args.hierarchy.now) (g.W.Wanted.lefts c.args.wanted.now) (told_pages c.args.desk.now)
    (state (g.Q.Queue.held f.queue) f.last f.counts c.args.desk.now) (state (g.Q.Queue.held c.reserve.new.self) f.last f.counts c.expand_near.new.desk) (Node c.args.gap c.args.node) tt
    c.requires.front c.reserve.ensures.items refl c.requires.stands c.in_ok-expand_near.ensures.visits)

-- places for all that was found are reserved, and not all of it may be kept
pub replace_first-requires : goal.replace_first-requires
replace_first-requires g c =
    let found = c.keep_wanted.new.found.items in
    let fewer : length c.keep_within.new.found.items ≤ length found =
    subst (λ l. length l ≤ length found) (sym c.keep_within.ensures) (filter_short (λ item. within c.ceiling.result (gap_of item)) found) in
    record { room = omega (arith, fewer, c.in_ok-reserve.ensures.spare, c.len.ensures, c.keep_wanted.new.found.ok.0) }

pub returns-clause-falls : goal.returns-clause-falls
returns-clause-falls g c =
    let held = g.Q.Queue.held c.args.frontier.now.queue in
    let new = g.Q.Queue.held c.replace_first.new.self in
    let found = c.keep_wanted.new.found.items in
    let inside = kept (within c.ceiling.result) found in
    let weight = g.H.Hierarchy.weight c.args.hierarchy.now in
    let wants = g.W.Wanted.lefts c.args.wanted.now in
    let x = c.in-Some._opened in
    let first = subst (IsFirst (item_cmp g.H.Node.Ord.cmp) x) c.reserve.ensures.items c.in-Some.ensures.first in
    let same = subst (λ l. IsPermutation (inside ++ l) (x ∷ new)) c.reserve.ensures.items
    (subst (λ l. IsPermutation (l ++ g.Q.Queue.held c.reserve.new.self) (x ∷ new)) c.keep_within.ensures c.in-Some.ensures.items) in
    let replaced = replaces_first (item_total g.met.H.Node.Ord.total) x inside held new first same in
    let front = popped_node g.met.H.Node.Ord.total g.met.H.Hierarchy.exact c.args.gap c.args.node x held replaced.rest c.requires.front replaced.taken replaced.least in
    let short : length found < 2 ^ 64 = let len = c.keep_wanted.new.found.ok.0 in let small = c.len.type_inv in let is = c.len.ensures in omega arith in
    open_falls weight held replaced.rest found new x front.0 c.args.node c.ceiling.result front.1 replaced.taken replaced.put
    (subst (AddsLess weight c.args.node []) (sym c.keep_wanted.ensures) (less_wanted wants weight c.args.node c.expand_near.new.found.items
    (subst (λ l. AddsLess weight c.args.node l c.expand_near.new.found.items) c.clear.ensures.items c.in_ok-expand_near.ensures.falls))) short

pub returns-clause-moves : goal.returns-clause-moves
returns-clause-moves g c =
    let f = c.args.frontier.now in
    let held = g.Q.Queue.held f.queue in
    let new = g.Q.Queue.held c.replace_first.new.self in
    let found = c.keep_wanted.new.found.items in
    let inside = kept (within c.ceiling.result) found in
    let meaning = g.H.Hierarchy.meaning c.args.hierarchy.now in
    let pages = told_pages c.args.desk.now in
    let wants = g.W.Wanted.lefts c.args.wanted.now in
    let x = c.in-Some._opened in
    let first = subst (IsFirst (item_cmp g.H.Node.Ord.cmp) x) c.reserve.ensures.items c.in-Some.ensures.first in
    let same = subst (λ l. IsPermutation (inside ++ l) (x ∷ new)) c.reserve.ensures.items
    (subst (λ l. IsPermutation (l ++ g.Q.Queue.held c.reserve.new.self) (x ∷ new)) c.keep_within.ensures c.in-Some.ensures.items) in
    let replaced = replaces_first (item_total g.met.H.Node.Ord.total) x inside held new first same in
    let front = popped_node g.met.H.Node.Ord.total g.met.H.Hierarchy.exact c.args.gap c.args.node x held replaced.rest c.requires.front replaced.taken replaced.least in
    opens_for g.met.H.Node.Ord.total meaning (g.H.Hierarchy.note c.args.hierarchy.now) (g.W.Wanted.lefts c.args.wanted.now) pages
    (state held f.last f.counts c.args.desk.now) (state new f.last (record f.counts { visited = c.saturating_add-frontier.result }) c.expand_near.new.desk)
    x replaced.rest found c.ceiling.result c.args.gap front.0 c.args.node c.requires.front front.1 replaced.taken replaced.least replaced.put
    c.ceiling.ensures.value c.saturating_add-frontier.ensures refl c.requires.stands
    (subst (λ l. IfSome pages (λ p. FindsAlike (wanted_of wants ((meaning p).finds c.args.node)) [] l)) (sym c.keep_wanted.ensures)
    (over_one pages (λ p. FindsAlike ((meaning p).finds c.args.node) [] c.expand_near.new.found.items)
    (λ p. FindsAlike (wanted_of wants ((meaning p).finds c.args.node)) [] (wanted_of wants c.expand_near.new.found.items))
    (λ p h. finds_wanted wants ((meaning p).finds c.args.node) c.expand_near.new.found.items h)
    (subst (λ l. IfSome pages (λ p. FindsAlike ((meaning p).finds c.args.node) l c.expand_near.new.found.items)) c.clear.ensures.items c.in_ok-expand_near.ensures.found)))
    c.in_ok-expand_near.ensures.visits c.in_ok-expand_near.ensures.gets
