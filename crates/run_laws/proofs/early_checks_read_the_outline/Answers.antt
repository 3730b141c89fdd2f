use Rattle.statement_exec.proofs.Outlines.{early_shown}
use Rattle.run_laws.proofs.early_checks_read_the_outline.Goals as goal

-- check by check
pub returns : goal.returns
returns c = λ setting state statement. early_shown state setting statement
