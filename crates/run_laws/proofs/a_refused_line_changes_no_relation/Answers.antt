use Rattle.run_laws.proofs.RefusedLines.{refused_leaves}
use Rattle.run_laws.proofs.a_refused_line_changes_no_relation.Goals as goal

-- by what the line says
pub returns : goal.returns
returns c = refused_leaves
