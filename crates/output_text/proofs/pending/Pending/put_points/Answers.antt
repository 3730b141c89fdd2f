-- the first point broke off, or the others
use Rattle.std.proofs.Common.{refl}
use Rattle.std.specs.Prelude.{codes}
use Rattle.sand_model.specs.OutputText.{point_text}
use Rattle.output_text.proofs.Forming.{on_err, AddsPrefix-first, AddsPrefix-second, Forms-both}
use Rattle.output_text.proofs.Listed.{joined-first}
use Rattle.output_text.proofs.pending.Pending.put_points.Goals as goal

pub returns-in_err-put_point-clause-prefix : goal.returns-in_err-put_point-clause-prefix
returns-in_err-put_point-clause-prefix g c =
    on_err c.from_residual.result
    (AddsPrefix-first _ _ _ _ _ _ c.in_err-put_point.ensures.prefix
    (joined-first (codes " ") point_text c.args.points.now _ (record { x = 0; y = 0 }) c.in-len1-up.len_at_least refl))

pub returns-in_err-put_more_points-clause-prefix : goal.returns-in_err-put_more_points-clause-prefix
returns-in_err-put_more_points-clause-prefix g c =
    on_err c.from_residual-in_err-put_more_points.result
    (AddsPrefix-second _ _ _ _ _ _ _ _ c.in_ok-put_point.ensures.formed c.in_err-put_more_points.ensures.prefix
    (joined-first (codes " ") point_text c.args.points.now _ (record { x = 0; y = 0 }) c.in-len1-up.len_at_least refl))

pub returns-clause-formed : goal.returns-clause-formed
returns-clause-formed g c =
    Forms-both _ _ _ _ _ _ _ _ _ c.in_ok-put_point.ensures.formed c.in_ok-put_more_points.ensures.formed
    (joined-first (codes " ") point_text c.args.points.now _ (record { x = 0; y = 0 }) c.in-len1-up.len_at_least refl)
