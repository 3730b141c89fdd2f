use Rattle.std.proofs.Common.{ℕ, ◌+◌, List, IsTrue, length, take, drop, sym, ap, subst, ◌∙◌, arith}
use Rattle.sand_journal.proofs.Nexts.{ahead_shut, ahead_cut, ahead_far, ahead_short, ahead_body}
use Rattle.sand_journal.proofs.ahead.look_ahead.Goals as goal

pub returns-in-Shut-clause-ahead : goal.returns-in-Shut-clause-ahead
returns-in-Shut-clause-ahead g c = λ bodies stands told.
    ahead_shut (g.T.Tape.seen c.args.tape.now) c.args.end bodies stands told c.in_ok-read_head.field-0 (c.in_ok-read_head.ensures.head told) c.in-Shut.is

pub returns-in-Cut-clause-ahead : goal.returns-in-Cut-clause-ahead
returns-in-Cut-clause-ahead g c = λ bodies stands told.
    ahead_cut (g.T.Tape.seen c.args.tape.now) c.args.end bodies stands told c.in_ok-read_head.field-0 (c.in_ok-read_head.ensures.head told) c.in-Cut.is

-- the gate behind the body would stand above the last
pub returns-then-end-from-clause-ahead : goal.returns-then-end-from-clause-ahead
returns-then-end-from-clause-ahead g c = λ bodies stands told.
    ahead_far (g.T.Tape.seen c.args.tape.now) c.args.end bodies stands told c.in_ok-read_head.field-0 (c.in_ok-read_head.ensures.head told) c.in-Open.size c.in-Open.is
    (omega (arith, c.if-end-from.true, c.from.ensures))

-- the file ends before the gate behind the body
pub returns-in-None-clause-ahead : goal.returns-in-None-clause-ahead
returns-in-None-clause-ahead g c = λ bodies stands told.
    let none = rw c.in-None.is at c.in_ok-body.ensures.none in
    let ends = none (subst IsTrue (sym c.read_head.ensures.read.told) told) in
    ahead_short (g.T.Tape.seen c.args.tape.now) c.args.end bodies stands told c.in_ok-read_head.field-0 (c.in_ok-read_head.ensures.head told) c.in-Open.size c.in-Open.is
    (omega (arith, ends, ap length c.read_head.ensures.read.bytes))

-- the body is that of the next record
pub returns-in-Some-clause-ahead : goal.returns-in-Some-clause-ahead
returns-in-Some-clause-ahead g c = λ bodies stands told.
    let found = rw c.in-Some.is at c.in_ok-body.ensures.body in
    let long = rw c.in-Some.is at c.in_ok-body.ensures.size in
    let body = found (subst IsTrue (sym c.read_head.ensures.read.told) told) in
    ahead_body (g.T.Tape.seen c.args.tape.now) c.args.end bodies stands told c.in_ok-read_head.field-0 (c.in_ok-read_head.ensures.head told) c.in-Open.size c.in-Some.body.items c.in-Open.is
    (omega (arith, c.if-end-from.false, c.from.ensures)) (omega (arith, body.0, ap length c.read_head.ensures.read.bytes))
    (body.1 ∙ ap (λ (l : List ℕ). take c.in-Open.size (drop (c.args.end + 5) l)) c.read_head.ensures.read.bytes) long
