-- a text for which there is never room is written behind what was held
use Rattle.output_text.proofs.Forming.{on_err, Forms-past, AddsPrefix-past}
use Rattle.output_text.proofs.pending.Pending.put.Goals as goal

pub returns-in_err-write_all-clause-prefix : goal.returns-in_err-write_all-clause-prefix
returns-in_err-write_all-clause-prefix g c =
    on_err c.from_residual-in_err-write_all.result
    (AddsPrefix-past _ _ _ _ _ c.in_ok-flush.ensures.written c.in_err-write_all.ensures.prefix)

pub returns-then-text-gt-CAPACITY-clause-formed : goal.returns-then-text-gt-CAPACITY-clause-formed
returns-then-text-gt-CAPACITY-clause-formed g c =
    Forms-past _ _ _ _ _ _ c.in_ok-flush.ensures.written c.in_ok-flush.ensures.empty c.in_ok-write_all.ensures.written
