-- every id that was given out is from 1 on
use Rattle.plan_names.proofs.LookUps.{all_above_zero}
use Rattle.plan_names.proofs.laws.all_rows_are_above_0.Goals as goal

pub returns : goal.returns
returns c = all_above_zero
