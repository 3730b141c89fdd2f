use Rattle.run_laws.proofs.CalmRuns.{calm_runs_are_one}
use Rattle.run_laws.proofs.the_output_is_determined.Goals as goal

-- line by line
pub returns : goal.returns
returns c = calm_runs_are_one
