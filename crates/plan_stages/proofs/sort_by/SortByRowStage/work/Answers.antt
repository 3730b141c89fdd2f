-- The row is kept with the key that was read.
use Rattle.std.proofs.Common.{ℤ, rules, sym, ap, ◌∙◌, [], ◌∷◌, ◌++◌, FitsSigned, w64}
use Rattle.std.proofs.lemmas.Int.{to_z-of_z}
use Rattle.plan_stages.proofs.Numbered.{kept_number}
use Rattle.plan_stages.proofs.sort_by.SortByRowStage.work.Goals as goal

pub returns-in-Ok-push-clause-step : goal.returns-in-Ok-push-clause-step
returns-in-Ok-push-clause-step g c =
    let fits : FitsSigned w64 c.in-Ok.key = search rules in
    kept_number c.args.self.now c.take.new.self c.push.new.self c.in-Some.row c.in-Ok.key c.as_slice.result.now c.args.desk.now c.pages.result.now
    (sym c.in-Some.ensures.value) c.in-Some.ensures.after
    (c.in-Ok-push.ensures.added ∙ ap (λ (key : ℤ). c.args.self.now.rows ++ record { key = key; row = c.in-Some.row } ∷ []) (to_z-of_z w64 c.in-Ok.key fits)) c.pages.ensures.pool
    (sym c.as_slice.ensures) c.in-Ok.ensures.number
