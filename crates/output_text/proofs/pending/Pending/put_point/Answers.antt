-- room was not made
use Rattle.output_text.proofs.Forming.{on_err, AddsPrefix-longer}
use Rattle.output_text.proofs.pending.Pending.put_point.Goals as goal

pub returns-in_err-reserve-clause-prefix : goal.returns-in_err-reserve-clause-prefix
returns-in_err-reserve-clause-prefix g c =
    on_err c.from_residual.result (AddsPrefix-longer _ _ _ _ c.in_err-reserve.ensures.prefix)
