-- The next byte of the piece is one more of the text.
use Rattle.work_gen.proofs.Tallying.{HasCounted-more}
use Rattle.work_gen.proofs.tally.Tally.take.Goals as goal

pub bytes-preserved : goal.bytes-preserved
bytes-preserved c = λ text h.
    HasCounted-more c.bytes.self c.byte.new.self text c.args.bytes.now c.bytes.byte-index c.bytes-test.true c.byte.ensures (c.bytes.invariant text h)
