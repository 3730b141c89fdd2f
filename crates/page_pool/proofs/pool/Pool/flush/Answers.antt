use Rattle.std.proofs.Common.{refl, ap, ◌∙◌}
use Rattle.std.proofs.lemmas.Result.{err_from_is_err_and}
use Rattle.page_pool.specs.Causes.{failures_at}
use Rattle.page_pool.proofs.WritesAdd.{in_order_none, in_order_more, Writes-refl, Writes-trans, none_there}
use Rattle.page_pool.proofs.pool.Pool.flush.Goals as goal

pub waiting-init : goal.waiting-init
waiting-init g c = record {
  writes = Writes-refl c.args.self.now c.requires.1;
  ascending = in_order_none c.args.self.now;
  closed = none_there c.args.self.now.beginning c.requires.0;
  faults = refl;
}

pub waiting-preserved : goal.waiting-preserved
waiting-preserved g c = record {
  writes = Writes-trans c.args.self.now c.waiting.self c.write_one.new.self c.waiting.invariant.writes c.write_one.ensures.writes;
  ascending = in_order_more c.args.self.now c.waiting.self c.write_one.new.self c.in-Some.n c.in-Some.ensures.least c.write_one.ensures.others c.write_one.ensures.writes.dirty c.waiting.invariant.ascending;
  closed = c.write_one.ensures.closed;
  faults = c.in_ok-write_one.ensures.cause.counted ∙ c.waiting.invariant.faults;
}

pub waiting-smaller : goal.waiting-smaller
waiting-smaller g c = c.in_ok-write_one.ensures.fewer

pub returns-in_err-write_one : goal.returns-in_err-write_one
returns-in_err-write_one g c =
    let p = err_from_is_err_and c.from_residual.result c.from_residual.ensures.1 in
    rw (p.1, p.2) record {
      writes = record {
        writes = Writes-trans c.args.self.now c.waiting.self c.write_one.new.self c.waiting.invariant.writes c.write_one.ensures.writes;
        ascending = in_order_more c.args.self.now c.waiting.self c.write_one.new.self c.in-Some.n c.in-Some.ensures.least c.write_one.ensures.others c.write_one.ensures.writes.dirty c.waiting.invariant.ascending;
        accepted = tt;
        cause = record {
          counted = c.in_err-write_one.ensures.cause.counted ∙ ap (λ n. failures_at n c.in_err-write_one.field-0.0) c.waiting.invariant.faults;
          damaged = c.in_err-write_one.ensures.cause.damaged;
        };
        undamaged = c.in_err-write_one.ensures.undamaged;
      };
      closed = c.write_one.ensures.closed;
    }

pub returns : goal.returns
returns g c = record {
  writes = record {
    writes = c.waiting.invariant.writes;
    ascending = c.waiting.invariant.ascending;
    accepted = c.in_default.ensures.none;
    cause = record { counted = c.waiting.invariant.faults; damaged = tt };
    undamaged = tt;
  };
  closed = c.waiting.invariant.closed;
}
