use Rattle.run_laws.proofs.Settings.{moment_setting}
use Rattle.run_laws.proofs.every_moment_has_a_setting.Goals as goal

-- the one of its own limits
pub returns : goal.returns
returns c = moment_setting
