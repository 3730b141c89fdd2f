-- What is promised in every setting of a moment is not empty.
use Rattle.std.specs.Prelude.{◌≡◌}
use Rattle.plan_iterator.specs.Rows.{plan_measure}
use Rattle.sand_model.specs.StatementChecks.{Setting}
use Rattle.statement_exec.specs.Moment.{Moment, IsSettingOf}

-- whether the shelf tells its files or not, a setting with the gap of plans is one of the moment
abbrev pub MomentsHaveSettings : Type 0
MomentsHaveSettings = (moment : Moment) → (setting : Setting) × (setting.gap ≡ plan_measure) × IsSettingOf moment setting
