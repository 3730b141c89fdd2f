-- A setting of a moment.
use Rattle.std.proofs.Common.{◌≡◌, refl}
use Rattle.csv_load.proofs.RowByRow.{file-rows-fit}
use Rattle.csv_load.specs.FileRows.{rows_of_file}
use Rattle.plan_iterator.proofs.PlanMeasure.{plan_measure_is}
use Rattle.plan_iterator.specs.Rows.{plan_measure}
use Rattle.sand_base.specs.Shelf.{Files}
use Rattle.sand_model.specs.StatementChecks.{Setting}
use Rattle.statement_exec.proofs.FileFaults.{some_files}
use Rattle.statement_exec.specs.Moment.{Moment, IsSettingOf}

-- that of its own limits and mark, of these files, and of rows as files have them
abbrev pub setting_of : Moment → Files → Setting
setting_of moment files = record { gap = plan_measure; limits = moment.limits; files = files; rows_of = rows_of_file; tells = moment.told }

-- the one of the files that are told, or of none
pub moment_setting : (moment : Moment) → (setting : Setting) × (setting.gap ≡ plan_measure) × IsSettingOf moment setting
moment_setting moment =
    let some = some_files moment.files in (
      setting_of moment some.0,
      refl,
      record { is = record { gap = plan_measure_is; rows_of = file-rows-fit }; limits = refl; files = some.1; rows_of = refl; tells = refl },
    )
