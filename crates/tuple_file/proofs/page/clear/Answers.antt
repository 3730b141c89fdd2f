-- the length of the slot is 0, if there is such a slot
use Rattle.std.proofs.Common.{arith}
use Rattle.tuple_file.proofs.Pastes.{cleared, cleared_none}
use Rattle.tuple_file.proofs.page.clear.Goals as goal

pub returns-then-slot-count_of : goal.returns-then-slot-count_of
returns-then-slot-count_of c = cleared_none c.args.page.now c.args.slot (omega (arith, c.if-slot-count_of.true, c.count_of.ensures))

pub returns : goal.returns
returns c = cleared c.args.page.now c.paste_half.new.page c.args.slot c.from.result (omega (arith, c.if-slot-count_of.false, c.count_of.ensures)) c.from.ensures c.paste_half.ensures
