-- Ids begin at 1, so none is passed over at the beginning.
use Rattle.std.proofs.Common.{refl}
use Rattle.plan_names.proofs.LookUps.{all_above_zero}
use Rattle.plan_stages.proofs.matching.Match.new.Goals as goal

pub returns : goal.returns
returns c pages d below place column spot look_up = record {
  below = below;
  place = place;
  column = column;
  is = refl;
  spot = spot;
  look_up = look_up;
  all = λ v. all_above_zero d column c.args.look_up pages v look_up;
  splits = record { operator = refl; plain = refl; split = refl };
}
