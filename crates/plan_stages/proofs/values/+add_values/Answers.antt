-- The rest of the places stands, and is shorter.
use Rattle.std.proofs.Common.{length, take, drop, ◌-◌, ◌<◌, subst}
use Rattle.plan_stages.proofs.values.+add_values.Goals as goal
use Rattle.plan_stages.proofs.Reading.{spots_rest}
use Rattle.plan_stages.proofs.Rests.{rest_falls}

pub add_values-requires : goal.add_values-requires
add_values-requires g t c κs within = (
  subst (λ n. length (take (length c.args.spots.now - 1) (drop 1 c.args.spots.now)) < n) c.decreases (rest_falls c.args.spots.now c.in-len1-up.len_at_least),
  (within, spots_rest (g.P.Pages.shown c.args.pages.now) (g.P.Pages.shown c.add_value.new.pages) c.args.spots.now c.add_value.ensures.read c.requires.stands),
)
