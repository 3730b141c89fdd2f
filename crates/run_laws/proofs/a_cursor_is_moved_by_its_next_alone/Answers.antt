use Rattle.run_laws.proofs.CursorsInRuns.{run_stays}
use Rattle.run_laws.proofs.a_cursor_is_moved_by_its_next_alone.Goals as goal

-- line by line
pub returns : goal.returns
returns c = run_stays
