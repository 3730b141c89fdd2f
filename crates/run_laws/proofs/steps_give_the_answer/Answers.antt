use Rattle.sand_model.specs.Outcome.{IsLicensed}
use Rattle.run_laws.proofs.StepsFollow.{steps_follow}
use Rattle.run_laws.proofs.steps_give_the_answer.Goals as goal

-- step by step
pub returns : goal.returns
returns c = λ setting rises state statement. steps_follow setting.gap (IsLicensed setting rises state statement)
