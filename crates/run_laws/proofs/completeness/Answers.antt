use Rattle.run_laws.proofs.DefinedOutcomes.{run_complete}
use Rattle.run_laws.proofs.completeness.Goals as goal

-- line by line
pub returns : goal.returns
returns c = run_complete
