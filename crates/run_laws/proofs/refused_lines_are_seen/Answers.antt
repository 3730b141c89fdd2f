use Rattle.run_laws.proofs.DecidedLines.{answered_seen}
use Rattle.run_laws.proofs.refused_lines_are_seen.Goals as goal

-- line by line
pub returns : goal.returns
returns c = answered_seen
