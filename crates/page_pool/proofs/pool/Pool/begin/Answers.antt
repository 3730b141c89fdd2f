use Rattle.std.proofs.Common.{◌≡◌, ℕ, Some, None, sym, ap, subst, ◌∙◌}
use Rattle.std.specs.FinMap as map
use Rattle.std.proofs.lemmas.Result.{err_from_is_err_and}
use Rattle.page_pool.specs.Causes.{failures_of}
use Rattle.page_pool.specs.Commands.{WritesPages, WritesInOrder}
use Rattle.page_pool.specs.Inside.{IsWhole, state_of}
use Rattle.page_pool.proofs.WritesAdd.{nothing_staged, whole-opened, writes_opened, all_stored, advance_refused}
use Rattle.page_pool.proofs.pool.Pool.begin.Goals as goal

-- nothing waits, so each newest image stands
pub advance-requires : goal.advance-requires
advance-requires g c =
    let none : (q : ℕ) → map.get c.self.inside.staged.changes q ≡ None =
    nothing_staged c.self.inside.staged.changes (ap (λ s. s.dirty) c.self.view_is ∙ c.in_ok-flush.ensures.writes.accepted.dirty)
    (ap (λ s. s.freed) c.self.view_is ∙ c.in_ok-flush.ensures.writes.accepted.freed) in
    λ n. c.self.invariant.stands n (λ _. none n)

pub invariant_of-self : goal.invariant_of-self
invariant_of-self g c = subst (λ a. IsWhole a c.self.inside.staged.changes c.self.inside.frames c.self.inside.numbers c.self.inside.is_open) (sym c.in_err-advance.ensures.unchanged) c.self.invariant

pub invariant_of-self-2 : goal.invariant_of-self-2
invariant_of-self-2 g c =
    let none : (q : ℕ) → map.get c.self.inside.staged.changes q ≡ None =
    nothing_staged c.self.inside.staged.changes (ap (λ s. s.dirty) c.self.view_is ∙ c.in_ok-flush.ensures.writes.accepted.dirty)
    (ap (λ s. s.freed) c.self.view_is ∙ c.in_ok-flush.ensures.writes.accepted.freed) in
    whole-opened c.self.inside.archive c.advance.new.self c.self.inside.staged.changes c.self.inside.frames c.self.inside.numbers c.settle.new.self c.self.inside.is_open none c.in_ok-advance.ensures.begun c.advance.ensures.whole
    (ap (λ s. s.top) c.settle.ensures) (ap (λ s. s.spare) c.settle.ensures) (ap (λ s. s.past_top) c.settle.ensures) (ap (λ s. s.past_spare) c.settle.ensures) c.self.invariant

pub returns-in_err-flush : goal.returns-in_err-flush
returns-in_err-flush g c =
    let p = err_from_is_err_and c.from_residual.result c.from_residual.ensures.1 in
    rw (p.1, p.2) record { writes = c.in_err-flush.ensures.writes; opened = tt; closed = c.flush.ensures.closed }

-- memory was refused, and all is as it was after the writing
pub returns-in_err-advance : goal.returns-in_err-advance
returns-in_err-advance g c =
    let p = err_from_is_err_and c.from_residual-in_err-advance.result c.from_residual-in_err-advance.ensures.1 in
    let as_written : c.flush.new.self ≡ state_of c.advance.new.self c.self.inside.staged c.self.inside.frames c.self.inside.numbers c.self.inside.is_open c.self.inside.gets c.self.inside.damages =
    sym c.self.view_is ∙ ap (λ a. state_of a c.self.inside.staged c.self.inside.frames c.self.inside.numbers c.self.inside.is_open c.self.inside.gets c.self.inside.damages)
    (sym c.in_err-advance.ensures.unchanged) in
    let refused = advance_refused c.args.self.now c.flush.new.self
    (state_of c.advance.new.self c.self.inside.staged c.self.inside.frames c.self.inside.numbers c.self.inside.is_open c.self.inside.gets c.self.inside.damages) tt as_written c.in_ok-flush.ensures.writes c.flush.ensures.closed in
    rw (p.1, p.2) record { writes = refused.0; opened = tt; closed = refused.1.1 }

pub returns : goal.returns
returns g c =
    let dirty = ap (λ s. s.dirty) c.self.view_is ∙ c.in_ok-flush.ensures.writes.accepted.dirty in
    let freed = ap (λ s. s.freed) c.self.view_is ∙ c.in_ok-flush.ensures.writes.accepted.freed in
    let none : (q : ℕ) → map.get c.self.inside.staged.changes q ≡ None = nothing_staged c.self.inside.staged.changes dirty freed in
    record {
      writes = record {
        writes = writes_opened c.args.self.now c.self.inside.archive c.advance.new.self c.self.inside.staged c.self.inside.frames c.self.inside.numbers c.settle.new.self c.self.inside.is_open c.self.inside.gets c.self.inside.damages
            none c.in_ok-advance.ensures.begun (ap (λ s. s.top) c.settle.ensures) (subst (WritesPages c.args.self.now) (sym c.self.view_is) c.in_ok-flush.ensures.writes.writes);
        ascending = subst (WritesInOrder c.args.self.now) (sym c.self.view_is) c.in_ok-flush.ensures.writes.ascending;
        accepted = record { dirty = dirty; freed = freed };
        cause = record {
          counted = ap (λ d. (d.faults, c.self.inside.damages)) c.in_ok-advance.ensures.begun.disk ∙ ap (λ s. failures_of s) c.self.view_is ∙ c.in_ok-flush.ensures.writes.cause.counted;
          damaged = tt;
        };
        undamaged = tt;
      };
      opened = ap (λ m. Some m) (sym (all_stored c.advance.new.self.pages c.self.inside.staged.changes none));
      closed = tt;
    }
