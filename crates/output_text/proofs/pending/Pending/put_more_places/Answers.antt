-- the ids broke off, or the values
use Rattle.std.proofs.Common.{◌∷◌, [], map, sym}
use Rattle.std.specs.Fmt.{decimal}
use Rattle.sand_model.specs.OutputText.{value_text}
use Rattle.output_text.proofs.Forming.{on_err, AddsPrefix-first, AddsPrefix-second, Forms-both}
use Rattle.output_text.proofs.Listed.{led-append}
use Rattle.output_text.proofs.pending.Pending.put_more_places.Goals as goal

pub returns-in_err-put_numbers-clause-prefix : goal.returns-in_err-put_numbers-clause-prefix
returns-in_err-put_numbers-clause-prefix g c =
    on_err c.from_residual.result
    (AddsPrefix-first _ _ _ _ _ _ c.in_err-put_numbers.ensures.prefix
    (sym (led-append (9 ∷ []) (map decimal c.args.ids.now) (map value_text c.args.values.now))))

pub returns-in_err-put_more_values-clause-prefix : goal.returns-in_err-put_more_values-clause-prefix
returns-in_err-put_more_values-clause-prefix g c =
    on_err c.from_residual-in_err-put_more_values.result
    (AddsPrefix-second _ _ _ _ _ _ _ _ c.in_ok-put_numbers.ensures.formed c.in_err-put_more_values.ensures.prefix
    (sym (led-append (9 ∷ []) (map decimal c.args.ids.now) (map value_text c.args.values.now))))

pub returns-clause-formed : goal.returns-clause-formed
returns-clause-formed g c =
    Forms-both _ _ _ _ _ _ _ _ _ c.in_ok-put_numbers.ensures.formed c.in_ok-put_more_values.ensures.formed
    (sym (led-append (9 ∷ []) (map decimal c.args.ids.now) (map value_text c.args.values.now)))
