-- what was held is written
use Rattle.output_text.proofs.Forming.{Forms-flushed}
use Rattle.output_text.proofs.pending.Pending.reserve.Goals as goal

pub returns-in_ok-flush-clause-formed : goal.returns-in_ok-flush-clause-formed
returns-in_ok-flush-clause-formed g c =
    Forms-flushed _ _ _ _ c.in_ok-flush.ensures.written c.in_ok-flush.ensures.empty
