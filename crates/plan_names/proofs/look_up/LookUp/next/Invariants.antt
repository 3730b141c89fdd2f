-- entries whose rows have another value are passed over
use Rattle.std.proofs.Common.{◌-◌}
use Rattle.plan_names.specs.Steps.{IsLooking}
use Rattle.plan_names.proofs.look_up.LookUp.next.Given as goal

abbrev pub invariant-entries : goal.invariant-entries
invariant-entries g l = IsLooking l.self l.value l.after l.last (g.P.Pages.shown l.fn.pages) (g.P.Pages.shown l.pages)

abbrev pub decreases-entries : goal.decreases-entries
decreases-entries g l = l.greatest - l.last
