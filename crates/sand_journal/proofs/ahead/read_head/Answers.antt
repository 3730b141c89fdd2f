use Rattle.std.proofs.Common.{ℕ, List, subst, rules}
use Rattle.sand_journal.specs.Ahead.{IsHead}
use Rattle.sand_journal.proofs.Nexts.{head_read}
use Rattle.sand_journal.proofs.ahead.read_head.Goals as goal

-- the bytes that were read are the first five from the place on, or all
pub returns-clause-head : goal.returns-clause-head
returns-clause-head g c = λ told.
    subst (λ (l : List ℕ). IsHead l c.head_of.result)
    (head_read c.read_at.new.piece (g.T.Tape.seen c.args.tape.now).bytes c.args.at c.in_ok-count.count (search rules) (c.in_ok-count.ensures.count told) (c.in_ok-count.ensures.given told))
    c.head_of.ensures
