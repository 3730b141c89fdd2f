use Rattle.std.proofs.Common.{sym, ap, ◌∙◌}
use Rattle.page_pool.specs.Inside.{staged_of}
use Rattle.page_pool.proofs.Maps.{undone}
use Rattle.page_pool.proofs.Listed.{listed-insert, listed-same}
use Rattle.page_pool.proofs.staged.Staged.insert.Goals as goal

pub invariant_of-self-in-Ok : goal.invariant_of-self-in-Ok
invariant_of-self-in-Ok c = listed-insert c.self.inside.numbers c.insert-2.new.self c.self.inside.table c.insert.new.self c.args.n c.args.change c.in-Ok.ensures.updates c.in_ok-insert.ensures.changed c.self.invariant

-- only a number with no change can be refused
pub invariant_of-self-in-Err : goal.invariant_of-self-in-Err
invariant_of-self-in-Err c =
    listed-same c.self.inside.numbers c.insert-2.new.self c.self.inside.table c.take.new.self c.in-Err.ensures.err
    (undone c.self.inside.table c.insert.new.self c.take.new.self c.args.n c.args.change (sym (c.self.invariant c.args.n) ∙ c.in-Err.ensures.absent) c.in_ok-insert.ensures.changed c.take.ensures.left)
    c.self.invariant

pub returns-in-Err-clause-unchanged : goal.returns-in-Err-clause-unchanged
returns-in-Err-clause-unchanged c =
    ap staged_of (undone c.self.inside.table c.insert.new.self c.take.new.self c.args.n c.args.change
    (sym (c.self.invariant c.args.n) ∙ c.in-Err.ensures.absent) c.in_ok-insert.ensures.changed c.take.ensures.left)
    ∙ c.self.view_is
