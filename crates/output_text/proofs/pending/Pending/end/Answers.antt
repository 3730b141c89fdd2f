-- what is held with the line feed broke off
use Rattle.output_text.proofs.Forming.{on_err, Forms-more, Forms-stop}
use Rattle.output_text.proofs.pending.Pending.end.Goals as goal

pub returns-in_err-flush-clause-prefix : goal.returns-in_err-flush-clause-prefix
returns-in_err-flush-clause-prefix g c =
    on_err c.from_residual-in_err-flush.result
    (Forms-stop _ _ _ _ _ _ (Forms-more _ _ _ _ _ _ c.in_ok-reserve.ensures.formed c.push.ensures.text) c.in_err-flush.ensures.prefix)
