-- the first value broke off, or the others
use Rattle.std.proofs.Common.{◌∷◌, []}
use Rattle.sand_model.specs.OutputText.{value_text}
use Rattle.output_text.proofs.Forming.{on_err, AddsPrefix-first, AddsPrefix-second, Forms-both}
use Rattle.output_text.proofs.Listed.{joined-first}
use Rattle.output_text.proofs.pending.Pending.put_values.Goals as goal

pub returns-in_err-put_value-clause-prefix : goal.returns-in_err-put_value-clause-prefix
returns-in_err-put_value-clause-prefix g c =
    on_err c.from_residual.result
    (AddsPrefix-first _ _ _ _ _ _ c.in_err-put_value.ensures.prefix
    (joined-first (9 ∷ []) value_text c.args.values.now _ c.first-item.result c.in-len1-up.len_at_least c.first-item.is))

pub returns-in_err-put_more_values-clause-prefix : goal.returns-in_err-put_more_values-clause-prefix
returns-in_err-put_more_values-clause-prefix g c =
    on_err c.from_residual-in_err-put_more_values.result
    (AddsPrefix-second _ _ _ _ _ _ _ _ c.in_ok-put_value.ensures.formed c.in_err-put_more_values.ensures.prefix
    (joined-first (9 ∷ []) value_text c.args.values.now _ c.first-item.result c.in-len1-up.len_at_least c.first-item.is))

pub returns-clause-formed : goal.returns-clause-formed
returns-clause-formed g c =
    Forms-both _ _ _ _ _ _ _ _ _ c.in_ok-put_value.ensures.formed c.in_ok-put_more_values.ensures.formed
    (joined-first (9 ∷ []) value_text c.args.values.now _ c.first-item.result c.in-len1-up.len_at_least c.first-item.is)
