use Rattle.run_laws.proofs.Readings.{reading_of}
use Rattle.run_laws.proofs.every_line_has_a_reading.Goals as goal

-- the lexer and the grammar find one
pub returns : goal.returns
returns c = reading_of
