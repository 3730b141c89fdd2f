-- the value is that of the row of the k-th id
use Rattle.std.proofs.Common.{sym, ◌∙◌}
use Rattle.std.proofs.lemmas.Result.{IfOk-weaker}
use Rattle.plan_names.proofs.ValuesRead.{spot_value}
use Rattle.plan_names.proofs.spot.Spot.value.Goals as goal

pub returns-clause-value : goal.returns-clause-value
returns-clause-value g c =
    IfOk-weaker c.value_of.result _ _
    (λ value read told d names place row is ids.
    spot_value d names place c.args.self.now (g.P.Pages.shown c.args.pages.now).pages row c.args.ids.now c.in-Some.id value is ids (sym c.kth.ensures ∙ c.in-Some.is) (read told))
    (rw c.deref.ensures at c.value_of.ensures.value)
