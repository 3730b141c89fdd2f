use Rattle.std.proofs.Common.{◌≡◌, ◌<◌, ap, ◌∙◌, arith}
use Rattle.std.specs.FinMap as map
use Rattle.page_pool.proofs.Queued.{page_count}
use Rattle.page_pool.proofs.frames.Frames.make_room.Goals as goal

-- fewer places are queued than there are frames
pub returns-then-len-get-clause-room : goal.returns-then-len-get-clause-room
returns-then-len-get-clause-room c =
    let size = page_count c.self.inside.table c.self.inside.queue c.len.ensures.valid.0 c.self.invariant in
    let less = c.if-len-get.true in
    let queued_is = c.len.ensures.len in
    let cap_is = c.get.ensures.value ∙ c.cap.ensures in
    let count_is : map.len c.self.inside.table ≡ c.args.self.now.count = ap (λ s. s.count) c.self.view_is in
    let most_is : c.self.inside.queue.cap ≡ c.args.self.now.most = ap (λ s. s.most) c.self.view_is in omega arith

-- the queue is full, so a page leaves
pub returns-clause-room : goal.returns-clause-room
returns-clause-room c =
    let size = page_count c.self.inside.table c.self.inside.queue c.len.ensures.valid.0 c.self.invariant in
    let fits = c.len.ensures.valid.1 in
    let full = c.if-len-get.false in
    let queued_is = c.len.ensures.len in
    let cap_is = c.get.ensures.value ∙ c.cap.ensures in
    let positive = c.get.ensures.nonzero in
    let most_is = c.drop_last.ensures.most in
    let count_is : map.len c.self.inside.table ≡ c.args.self.now.count = ap (λ s. s.count) c.self.view_is in
    let cap_most : c.self.inside.queue.cap ≡ c.args.self.now.most = ap (λ s. s.most) c.self.view_is in
    let some : 0 < c.args.self.now.count = omega arith in
    let less = c.drop_last.ensures.fewer some in omega arith
