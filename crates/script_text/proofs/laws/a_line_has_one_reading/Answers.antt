use Rattle.script_text.proofs.OneReading.{one-reading}
use Rattle.script_text.proofs.laws.a_line_has_one_reading.Goals as goal

-- each is what the lexer and the reader make of the line
pub returns : goal.returns
returns c = one-reading
