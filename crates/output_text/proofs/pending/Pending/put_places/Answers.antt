-- the first id broke off, or the others and the values
use Rattle.std.proofs.Common.{map}
use Rattle.sand_model.specs.OutputText.{value_text}
use Rattle.output_text.proofs.Forming.{on_err, AddsPrefix-first, AddsPrefix-second, Forms-both}
use Rattle.output_text.proofs.Parts.{places-first}
use Rattle.output_text.proofs.pending.Pending.put_places.Goals as goal

pub returns-in_err-put_number-clause-prefix : goal.returns-in_err-put_number-clause-prefix
returns-in_err-put_number-clause-prefix g c =
    on_err c.from_residual-in_err-put_number.result
    (AddsPrefix-first _ _ _ _ _ _ c.in_err-put_number.ensures.prefix
    (places-first c.args.ids.now c.from.result (map value_text c.args.values.now) c.in-len1-up.len_at_least c.from.ensures))

pub returns-in_err-put_more_places-clause-prefix : goal.returns-in_err-put_more_places-clause-prefix
returns-in_err-put_more_places-clause-prefix g c =
    on_err c.from_residual-in_err-put_more_places.result
    (AddsPrefix-second _ _ _ _ _ _ _ _ c.in_ok-put_number.ensures.formed c.in_err-put_more_places.ensures.prefix
    (places-first c.args.ids.now c.from.result (map value_text c.args.values.now) c.in-len1-up.len_at_least c.from.ensures))

pub returns-clause-formed : goal.returns-clause-formed
returns-clause-formed g c =
    Forms-both _ _ _ _ _ _ _ _ _ c.in_ok-put_number.ensures.formed c.in_ok-put_more_places.ensures.formed
    (places-first c.args.ids.now c.from.result (map value_text c.args.values.now) c.in-len1-up.len_at_least c.from.ensures)
