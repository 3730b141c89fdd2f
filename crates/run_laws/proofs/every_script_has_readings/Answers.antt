use Rattle.run_laws.proofs.ScriptReadings.{script_told}
use Rattle.run_laws.proofs.every_script_has_readings.Goals as goal

-- line by line
pub returns : goal.returns
returns c = script_told
