-- a bracket broke off, or the vertices
use Rattle.std.proofs.Common.{◌++◌, map, refl}
use Rattle.std.specs.Prelude.{codes}
use Rattle.sand_model.specs.OutputText.{point_text, spaced}
use Rattle.output_text.proofs.Forming.{on_err, AddsPrefix-first, AddsPrefix-second, Forms-both}
use Rattle.output_text.proofs.pending.Pending.put_polygon.Goals as goal

pub returns-in_err-put-clause-prefix : goal.returns-in_err-put-clause-prefix
returns-in_err-put-clause-prefix g c =
    on_err c.from_residual.result
    (AddsPrefix-first _ _ _ _ (spaced (map point_text c.args.corners.now) ++ codes ")") _ c.in_err-put.ensures.prefix refl)

pub returns-in_err-put_points-clause-prefix : goal.returns-in_err-put_points-clause-prefix
returns-in_err-put_points-clause-prefix g c =
    on_err c.from_residual-in_err-put_points.result
    (AddsPrefix-second _ _ _ _ _ _ _ _ c.in_ok-put.ensures.formed
    (AddsPrefix-first _ _ _ _ (codes ")") _ c.in_err-put_points.ensures.prefix refl) refl)

pub returns-in_err-put-2-clause-prefix : goal.returns-in_err-put-2-clause-prefix
returns-in_err-put-2-clause-prefix g c =
    on_err c.from_residual-in_err-put-2.result
    (AddsPrefix-second _ _ _ _ _ _ _ _ c.in_ok-put.ensures.formed
    (AddsPrefix-second _ _ _ _ _ _ _ _ c.in_ok-put_points.ensures.formed c.in_err-put-2.ensures.prefix refl) refl)

pub returns-clause-formed : goal.returns-clause-formed
returns-clause-formed g c =
    Forms-both _ _ _ _ _ _ _ _ _ c.in_ok-put.ensures.formed
    (Forms-both _ _ _ _ _ _ _ _ _ c.in_ok-put_points.ensures.formed c.in_ok-put-2.ensures.formed refl) refl
