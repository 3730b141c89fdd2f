-- The four lines, one after the other.
use Rattle.work_gen.proofs.FourLines.{four-lines}
use Rattle.work_gen.proofs.digest_sink.DigestSink.summary.Goals as goal

pub returns : goal.returns
returns c = λ text taken.
    four-lines c.args.lines c.args.refused c.args.self.bytes c.finalize.result text c.new-text.result c.append_count.new.text c.append_count-2.new.text
    c.append_count-3.new.text c.append_digest.new.text c.new-text.ensures c.append_count.ensures.text c.append_count-2.ensures.text
    c.append_count-3.ensures.text c.append_digest.ensures taken.counted (c.finalize.ensures text taken.held)
