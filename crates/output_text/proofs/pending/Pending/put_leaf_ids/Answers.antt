-- the first id broke off, or the others
use Rattle.output_text.proofs.Forming.{on_err, AddsPrefix-first, AddsPrefix-second, Forms-both}
use Rattle.output_text.proofs.Parts.{ids-first}
use Rattle.output_text.proofs.pending.Pending.put_leaf_ids.Goals as goal

pub returns-in_err-put_number-clause-prefix : goal.returns-in_err-put_number-clause-prefix
returns-in_err-put_number-clause-prefix g c =
    on_err c.from_residual-in_err-put_number.result
    (AddsPrefix-first _ _ _ _ _ _ c.in_err-put_number.ensures.prefix
    (ids-first c.args.ids.now c.from.result c.in-len1-up.len_at_least c.from.ensures))

pub returns-in_err-put_numbers-clause-prefix : goal.returns-in_err-put_numbers-clause-prefix
returns-in_err-put_numbers-clause-prefix g c =
    on_err c.from_residual-in_err-put_numbers.result
    (AddsPrefix-second _ _ _ _ _ _ _ _ c.in_ok-put_number.ensures.formed c.in_err-put_numbers.ensures.prefix
    (ids-first c.args.ids.now c.from.result c.in-len1-up.len_at_least c.from.ensures))

pub returns-clause-formed : goal.returns-clause-formed
returns-clause-formed g c =
    Forms-both _ _ _ _ _ _ _ _ _ c.in_ok-put_number.ensures.formed c.in_ok-put_numbers.ensures.formed
    (ids-first c.args.ids.now c.from.result c.in-len1-up.len_at_least c.from.ensures)
