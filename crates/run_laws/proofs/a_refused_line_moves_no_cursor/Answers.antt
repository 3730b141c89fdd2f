use Rattle.run_laws.proofs.RefusedLines.{refused_stays}
use Rattle.run_laws.proofs.RefusedNexts.{refused_moves}
use Rattle.run_laws.proofs.a_refused_line_moves_no_cursor.Goals as goal

-- by what the line says
pub returns : goal.returns
returns c = record { others = refused_stays; next = refused_moves }
