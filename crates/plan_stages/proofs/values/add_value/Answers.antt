-- The value that was read fits its line, as those before it.
use Rattle.std.proofs.Common.{◌≡◌, true, List, Option, Some, sym, subst}
use Rattle.std.specs.Prelude.{IfSome}
use Rattle.std.specs.List.{list_all}
use Rattle.sand_base.specs.InRange.{IsValueInRange}
use Rattle.sand_base.specs.declared.value.Value.{Value}
use Rattle.sand_model.specs.PlainLines.{fits_line}
use Rattle.sand_model.proofs.PlainValues.{one_fits}
use Rattle.plan_stages.proofs.values.add_value.Goals as goal

pub returns-in-Ok-clause-fits : goal.returns-in-Ok-clause-fits
returns-in-Ok-clause-fits g c = λ fit.
    subst (λ (values : List Value). list_all fits_line values ≡ true) (sym c.in-Ok.ensures)
    (one_fits c.args.values.now.items (Some c.in-Ok-Some.value) fit (subst (λ (o : Option Value). IfSome o IsValueInRange) c.in-Ok-Some.field-0-is c.in-Ok-Some.ensures.in_range))
