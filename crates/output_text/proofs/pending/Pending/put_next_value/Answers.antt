-- the tab broke off, or the value
use Rattle.std.proofs.Common.{refl}
use Rattle.sand_model.specs.OutputText.{value_text}
use Rattle.output_text.proofs.Forming.{on_err, AddsPrefix-first, AddsPrefix-second, Forms-both}
use Rattle.output_text.proofs.pending.Pending.put_next_value.Goals as goal

pub returns-in_err-put-clause-prefix : goal.returns-in_err-put-clause-prefix
returns-in_err-put-clause-prefix g c =
    on_err c.from_residual.result (AddsPrefix-first _ _ _ _ (value_text c.args.value.now) _ c.in_err-put.ensures.prefix refl)

pub returns-in_err-put_value-clause-prefix : goal.returns-in_err-put_value-clause-prefix
returns-in_err-put_value-clause-prefix g c =
    on_err c.from_residual-in_err-put_value.result
    (AddsPrefix-second _ _ _ _ _ _ _ _ c.in_ok-put.ensures.formed c.in_err-put_value.ensures.prefix refl)

pub returns-clause-formed : goal.returns-clause-formed
returns-clause-formed g c =
    Forms-both _ _ _ _ _ _ _ _ _ c.in_ok-put.ensures.formed c.in_ok-put_value.ensures.formed refl
