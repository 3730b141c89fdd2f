use Rattle.run_laws.proofs.CausesOfRuns.{run_causes}
use Rattle.run_laws.proofs.refusals_have_causes.Goals as goal

-- line by line
pub returns : goal.returns
returns c = run_causes
