-- The rest of the tests stands, and is shorter.
use Rattle.std.proofs.Common.{length, take, drop, ◌-◌, ◌<◌, subst}
use Rattle.plan_stages.proofs.tests.+passes_each.Goals as goal
use Rattle.plan_stages.proofs.Reading.{tests_rest}
use Rattle.plan_stages.proofs.Rests.{rest_falls}

pub passes_each-requires : goal.passes_each-requires
passes_each-requires g t c κs within = (
  subst (λ n. length (take (length c.args.tests.now - 1) (drop 1 c.args.tests.now)) < n) c.decreases (rest_falls c.args.tests.now c.in-len1-up.len_at_least),
  (within, tests_rest (g.P.Pages.shown c.args.pages.now) (g.P.Pages.shown c.passes_one.new.pages) c.args.tests.now c.passes_one.ensures.read c.requires.stands),
)
