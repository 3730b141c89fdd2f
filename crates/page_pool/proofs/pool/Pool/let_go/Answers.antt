use Rattle.std.proofs.Common.{◌≡◌, Some, None, false, Ok, Err, IsNone, ◌||◌, cond, is_some, refl, sym, ap, subst, ◌∙◌}
use Rattle.std.specs.FinMap as map
use Rattle.std.specs.FinSet as set
use Rattle.std.proofs.lemmas.Result.{err_from_is_err_and}
use Rattle.page_pool.specs.declared.fault.PageFault.TheVariants.{Memory}
use Rattle.page_pool.specs.Inside.{IsWhole, state_of}
use Rattle.page_pool.specs.Commands.{WritesOne}
use Rattle.page_pool.proofs.Frozen.{shared_falls}
use Rattle.page_pool.proofs.Written.{closed_is, no_one, freed_is, whole-spoiled, writes_spoiled}
use Rattle.page_pool.proofs.Released.{whole-forgot, whole-released, writes_nothing, writes_released, others_released, fewer_released}
use Rattle.page_pool.proofs.pool.Pool.let_go.Goals as goal

-- a number in use isn't spare
pub add-requires : goal.add-requires
add-requires g c =
    let gone : map.get c.self.inside.staged.changes c.args.n ≡ Some None = freed_is c.self.inside.staged.changes c.args.n (ap (λ s. set.contains s.freed c.args.n) c.self.view_is ∙ c.requires.freed) in
    c.self.invariant.numbers_now.apart c.args.n (ap (λ x. is_some x || map.contains_key c.self.inside.archive.kept c.args.n) gone)

pub invariant_of-self : goal.invariant_of-self
invariant_of-self g c =
    let closed : c.self.inside.is_open ≡ false = closed_is c.self.inside.is_open c.self.inside.archive.pages (subst (λ s. IsNone s.beginning) (sym c.self.view_is) c.requires.closed.0) in
    subst (λ a. IsWhole a c.self.inside.staged.changes c.forget.new.self c.self.inside.numbers c.self.inside.is_open) (sym c.in_err-leave.ensures.unchanged)
    (whole-forgot c.self.inside.archive c.self.inside.staged.changes c.self.inside.frames c.forget.new.self c.self.inside.numbers c.self.inside.is_open c.args.n closed c.forget.ensures.newest c.forget.ensures.past c.self.invariant)

-- the image was let go, and the number waits
pub invariant_of-self-in_err-add : goal.invariant_of-self-in_err-add
invariant_of-self-in_err-add g c =
    let closed : c.self.inside.is_open ≡ false = closed_is c.self.inside.is_open c.self.inside.archive.pages (subst (λ s. IsNone s.beginning) (sym c.self.view_is) c.requires.closed.0) in
    let gone : map.get c.self.inside.staged.changes c.args.n ≡ Some None = freed_is c.self.inside.staged.changes c.args.n (ap (λ s. set.contains s.freed c.args.n) c.self.view_is ∙ c.requires.freed) in
    whole-spoiled c.self.inside.archive c.leave.new.self c.self.inside.staged.changes c.self.inside.frames c.forget.new.self c.self.inside.numbers c.add.new.self c.self.inside.is_open c.args.n
    (ap is_some gone) closed c.in_ok-leave.ensures.left.change c.leave.ensures.whole c.forget.ensures.newest c.forget.ensures.past
    (λ p is. no_one p (map.get c.leave.new.self.places c.args.n) c.in_ok-leave.ensures.left.places is _) c.in_err-add.ensures.top c.in_err-add.ensures.unchanged c.self.invariant

pub invariant_of-self-2 : goal.invariant_of-self-2
invariant_of-self-2 g c =
    let closed : c.self.inside.is_open ≡ false = closed_is c.self.inside.is_open c.self.inside.archive.pages (subst (λ s. IsNone s.beginning) (sym c.self.view_is) c.requires.closed.0) in
    let gone : map.get c.self.inside.staged.changes c.args.n ≡ Some None = freed_is c.self.inside.staged.changes c.args.n (ap (λ s. set.contains s.freed c.args.n) c.self.view_is ∙ c.requires.freed) in
    whole-released c.self.inside.archive c.leave.new.self c.self.inside.staged.changes c.take.new.self.changes c.self.inside.frames c.forget.new.self c.self.inside.numbers c.add.new.self c.self.inside.is_open c.args.n
    gone closed c.in_ok-leave.ensures.left.change c.leave.ensures.whole c.in_ok-leave.ensures.left.places c.forget.ensures.newest c.forget.ensures.past c.take.ensures.left c.in_ok-add.ensures.top c.in_ok-add.ensures.spare
    c.self.invariant

pub returns-in_err-leave : goal.returns-in_err-leave
returns-in_err-leave g c =
    let closed : c.self.inside.is_open ≡ false = closed_is c.self.inside.is_open c.self.inside.archive.pages (subst (λ s. IsNone s.beginning) (sym c.self.view_is) c.requires.closed.0) in
    let p = err_from_is_err_and c.from_residual.result c.from_residual.ensures.1 in
    rw (p.1, p.2)
    (subst (λ a. WritesOne c.args.self.now (state_of a c.self.inside.staged c.forget.new.self c.self.inside.numbers c.self.inside.is_open c.self.inside.gets c.self.inside.damages) c.args.n
    (Err Memory)) (sym c.in_err-leave.ensures.unchanged)
    (subst (λ old. WritesOne old (state_of c.self.inside.archive c.self.inside.staged c.forget.new.self c.self.inside.numbers c.self.inside.is_open c.self.inside.gets c.self.inside.damages) c.args.n
    (Err Memory)) c.self.view_is
    record {
      writes = writes_nothing c.self.inside.archive c.self.inside.staged c.self.inside.frames c.forget.new.self c.self.inside.numbers c.self.inside.is_open c.self.inside.gets c.self.inside.damages c.forget.ensures.most;
      others = λ q apart d. d;
      closed = ap (λ b. cond b (Some c.self.inside.archive.pages) None) closed;
      cause = record { counted = refl; damaged = tt };
      undamaged = tt;
      fewer = tt;
    }))

pub returns-in_err-add : goal.returns-in_err-add
returns-in_err-add g c =
    let closed : c.self.inside.is_open ≡ false = closed_is c.self.inside.is_open c.self.inside.archive.pages (subst (λ s. IsNone s.beginning) (sym c.self.view_is) c.requires.closed.0) in
    let gone : map.get c.self.inside.staged.changes c.args.n ≡ Some None = freed_is c.self.inside.staged.changes c.args.n (ap (λ s. set.contains s.freed c.args.n) c.self.view_is ∙ c.requires.freed) in
    let p = err_from_is_err_and c.from_residual-in_err-add.result c.from_residual-in_err-add.ensures.1 in
    rw (p.1, p.2)
    (subst (λ old. WritesOne old (state_of c.leave.new.self c.self.inside.staged c.forget.new.self c.add.new.self c.self.inside.is_open c.self.inside.gets c.self.inside.damages) c.args.n
    (Err Memory)) c.self.view_is
    record {
      writes = writes_spoiled c.self.inside.archive c.leave.new.self c.self.inside.staged.changes c.self.inside.frames c.forget.new.self c.self.inside.numbers c.add.new.self c.self.inside.is_open c.args.n
          (ap is_some gone) closed c.in_ok-leave.ensures.left.change c.leave.ensures.whole c.forget.ensures.newest c.forget.ensures.past
          (λ p is. no_one p (map.get c.leave.new.self.places c.args.n) c.in_ok-leave.ensures.left.places is _) c.self.inside.staged c.self.inside.gets c.self.inside.damages refl c.self.invariant.archived c.forget.ensures.most c.in_err-add.ensures.top
          (shared_falls c.self.inside.archive.shared c.leave.new.self.shared c.self.inside.staged.changes c.self.inside.staged.changes c.args.n c.self.inside.archive.seen c.leave.new.self.seen
          (ap is_some gone) (λ q apart. refl)
          c.in_ok-leave.ensures.left.replaced.shared c.in_ok-leave.ensures.left.replaced.seen);
      others = λ q apart d. d;
      closed = ap (λ b. cond b (Some c.leave.new.self.pages) None) closed;
      cause = record { counted = ap (λ d. (d.faults, c.self.inside.damages)) c.in_ok-leave.ensures.left.disk; damaged = tt };
      undamaged = tt;
      fewer = tt;
    })

pub returns : goal.returns
returns g c =
    let closed : c.self.inside.is_open ≡ false = closed_is c.self.inside.is_open c.self.inside.archive.pages (subst (λ s. IsNone s.beginning) (sym c.self.view_is) c.requires.closed.0) in
    let gone : map.get c.self.inside.staged.changes c.args.n ≡ Some None = freed_is c.self.inside.staged.changes c.args.n (ap (λ s. set.contains s.freed c.args.n) c.self.view_is ∙ c.requires.freed) in
    subst (λ old. WritesOne old (state_of c.leave.new.self c.take.new.self c.forget.new.self c.add.new.self c.self.inside.is_open c.self.inside.gets c.self.inside.damages) c.args.n
    (Ok tt)) c.self.view_is
    record {
      writes = writes_released c.self.inside.archive c.leave.new.self c.self.inside.staged.changes c.take.new.self.changes c.self.inside.frames c.forget.new.self c.self.inside.numbers c.add.new.self c.self.inside.is_open c.args.n
          gone closed c.in_ok-leave.ensures.left.change c.leave.ensures.whole c.in_ok-leave.ensures.left.places c.forget.ensures.newest c.forget.ensures.past c.take.ensures.left c.in_ok-add.ensures.top c.in_ok-add.ensures.spare
          c.self.inside.staged.count c.take.new.self.count c.self.inside.gets c.self.inside.damages c.self.invariant.archived c.forget.ensures.most c.in_ok-leave.ensures.left.replaced;
      others = others_released c.self.inside.archive c.leave.new.self c.self.inside.staged.changes c.take.new.self.changes c.self.inside.frames c.forget.new.self c.self.inside.numbers c.add.new.self c.self.inside.is_open c.args.n
          gone closed c.in_ok-leave.ensures.left.change c.leave.ensures.whole c.in_ok-leave.ensures.left.places c.forget.ensures.newest c.forget.ensures.past c.take.ensures.left c.in_ok-add.ensures.top c.in_ok-add.ensures.spare;
      closed = ap (λ b. cond b (Some c.leave.new.self.pages) None) closed;
      cause = record { counted = ap (λ d. (d.faults, c.self.inside.damages)) c.in_ok-leave.ensures.left.disk; damaged = tt };
      undamaged = tt;
      fewer = fewer_released c.self.inside.archive c.leave.new.self c.self.inside.staged.changes c.take.new.self.changes c.self.inside.frames c.forget.new.self c.self.inside.numbers c.add.new.self c.self.inside.is_open c.args.n
          gone closed c.in_ok-leave.ensures.left.change c.leave.ensures.whole c.in_ok-leave.ensures.left.places c.forget.ensures.newest c.forget.ensures.past c.take.ensures.left c.in_ok-add.ensures.top c.in_ok-add.ensures.spare;
    }
