-- The value of the row that is held is read, and then its matches are looked up.
use Rattle.std.proofs.Common.{Some, ap, sym, ◌∙◌}
use Rattle.plan_stages.proofs.ValueRead.{value_passes, none_passes, value_costs}
use Rattle.plan_stages.proofs.matching.MatchRowStage.work.Goals as goal

-- what is to come are the matches of the value
pub returns-in-Ok-Some-clause-step : goal.returns-in-Ok-Some-clause-step
returns-in-Ok-Some-clause-step g c =
    value_passes c.args.desk.now c.pages.result.now c.args.self.now c.in-Some-Fresh.row c.pages.ensures.pool
    (sym c.take.ensures.value ∙ c.in-Some-Fresh.is ∙ ap Some c.in-Some-Fresh.field-0-is) c.in-Ok-Some.value
    (λ told d names place row is ids. sym c.in-Ok-Some.field-0-is ∙ c.in-Ok-Some.ensures.value told d names place row is (ids ∙ sym c.as_slice.ensures))

-- nothing is to come
pub returns-in-Ok-None-clause-step : goal.returns-in-Ok-None-clause-step
returns-in-Ok-None-clause-step g c =
    none_passes c.args.desk.now c.pages.result.now c.args.self.now c.in-Some-Fresh.row c.pages.ensures.pool
    (sym c.take.ensures.value ∙ c.in-Some-Fresh.is ∙ ap Some c.in-Some-Fresh.field-0-is) c.take.new.self c.take.ensures.after
    (λ told d names place row is ids. sym c.in-Ok-None.field-0-is ∙ c.in-Ok-None.ensures.value told d names place row is (ids ∙ sym c.as_slice.ensures))

-- the look-up is left to pay
pub returns-in-Ok-Some-clause-costs : goal.returns-in-Ok-Some-clause-costs
returns-in-Ok-Some-clause-costs g c =
    value_costs c.args.desk.now c.pages.result.now c.args.self.now c.in-Some-Fresh.row c.pages.ensures.pool
    (sym c.take.ensures.value ∙ c.in-Some-Fresh.is ∙ ap Some c.in-Some-Fresh.field-0-is) c.value.new.pages c.in-Ok-Some.value
    (λ told d names place row is ids. sym c.in-Ok-Some.field-0-is ∙ c.in-Ok-Some.ensures.value told d names place row is (ids ∙ sym c.as_slice.ensures)) c.value.ensures.peeks.within
