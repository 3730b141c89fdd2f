use Rattle.std.proofs.Common.{◌≡◌, ◌≤◌, ◌+◌, Some, inl, inr, sym, ap, ◌∙◌, arith}
use Rattle.std.specs.FinMap as map
use Rattle.page_pool.proofs.Maps.{one_more, no_more_left, undone, found-insert, get-insert_same}
use Rattle.page_pool.proofs.Queued.{queue-put, queue-kept, no_page, page_count}
use Rattle.page_pool.proofs.frames.Frames.put.Goals as goal

pub returns-in_err-insert-clause-sound : goal.returns-in_err-insert-clause-sound
returns-in_err-insert-clause-sound c = λ q bytes found.
    inr (c.make_room.ensures.sound q bytes (ap (λ s. map.get s.pages q) (sym c.self.view_is) ∙ ap (λ m. map.get m q) (sym c.in_err-insert.ensures.unchanged) ∙ found))

-- the place comes in with the page
pub invariant_of-self-in-Ok : goal.invariant_of-self-in-Ok
invariant_of-self-in-Ok c =
    let size = page_count c.self.inside.table c.self.inside.queue c.len-count.ensures.valid.0 c.self.invariant in
    let room = c.make_room.ensures.room in
    let count_is : map.len c.self.inside.table ≡ c.make_room.new.self.count = ap (λ s. s.count) c.self.view_is in
    let most_is : c.self.inside.queue.cap ≡ c.make_room.new.self.most = ap (λ s. s.most) c.self.view_is in
    queue-put c.self.inside.table c.insert.new.self c.args.place c.new.result c.self.inside.queue c.put.new.self c.len-count.ensures.valid.0 (omega arith)
    (ap (λ q. q.entries) c.in-Ok.ensures.entries) c.in_ok-insert.ensures.changed c.self.invariant

-- only a place that isn't queued can be refused
pub invariant_of-self-in-Err : goal.invariant_of-self-in-Err
invariant_of-self-in-Err c =
    queue-kept c.self.inside.table c.take.new.self c.self.inside.queue c.put.new.self c.in-Err.ensures.err
    (undone c.self.inside.table c.insert.new.self c.take.new.self c.args.place c.new.result
    (no_page c.self.inside.table c.args.place c.self.inside.queue c.in-Err.ensures.succeeds c.self.invariant) c.in_ok-insert.ensures.changed c.take.ensures.left)
    c.self.invariant

pub returns-in-Ok-clause-sound : goal.returns-in-Ok-clause-sound
returns-in-Ok-clause-sound c = λ q bytes found.
    elim (found-insert c.self.inside.table c.args.place c.new.result q bytes (ap (λ m. map.get m q) (sym c.in_ok-insert.ensures.changed) ∙ found)) [
      | inl this ↦ inl (this.0, this.1 ∙ c.new.ensures)
      | inr before ↦ inr (c.make_room.ensures.sound q bytes (ap (λ s. map.get s.pages q) (sym c.self.view_is) ∙ before))
    ]

pub returns-in-Ok-clause-added : goal.returns-in-Ok-clause-added
returns-in-Ok-clause-added c = ap (λ m. map.get m c.args.place) c.in_ok-insert.ensures.changed ∙ get-insert_same c.self.inside.table c.args.place c.new.result ∙ ap (λ page. Some page) c.new.ensures

pub returns-in-Err-clause-sound : goal.returns-in-Err-clause-sound
returns-in-Err-clause-sound c = λ q bytes found.
    let kept = undone c.self.inside.table c.insert.new.self c.take.new.self c.args.place c.new.result
    (no_page c.self.inside.table c.args.place c.self.inside.queue c.in-Err.ensures.succeeds c.self.invariant) c.in_ok-insert.ensures.changed c.take.ensures.left in
    inr (c.make_room.ensures.sound q bytes (ap (λ s. map.get s.pages q) (sym c.self.view_is) ∙ ap (λ m. map.get m q) (sym kept) ∙ found))

pub returns-in-Ok-clause-count : goal.returns-in-Ok-clause-count
returns-in-Ok-clause-count c =
    let more : map.len c.insert.new.self ≤ map.len c.self.inside.table + 1 = one_more c.self.inside.table c.insert.new.self c.args.place c.new.result c.in_ok-insert.ensures.changed in
    let fewer = c.make_room.ensures.count in
    let count_is : map.len c.self.inside.table ≡ c.make_room.new.self.count = ap (λ s. s.count) c.self.view_is in omega arith

pub returns-in-Err-clause-count : goal.returns-in-Err-clause-count
returns-in-Err-clause-count c =
    let more : map.len c.insert.new.self ≤ map.len c.self.inside.table + 1 = one_more c.self.inside.table c.insert.new.self c.args.place c.new.result c.in_ok-insert.ensures.changed in
    let less : map.len c.take.new.self ≤ map.len c.insert.new.self = no_more_left c.insert.new.self c.take.new.self c.args.place c.take.ensures.left in
    let fewer = c.make_room.ensures.count in
    let count_is : map.len c.self.inside.table ≡ c.make_room.new.self.count = ap (λ s. s.count) c.self.view_is in omega arith
