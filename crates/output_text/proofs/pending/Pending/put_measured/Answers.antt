-- the gap broke off, or what stands behind it
use Rattle.output_text.proofs.Forming.{on_err}
use Rattle.output_text.proofs.Lines.{row-first, row-second, row-formed}
use Rattle.output_text.proofs.pending.Pending.put_measured.Goals as goal

pub returns-in_err-put_gap-clause-prefix : goal.returns-in_err-put_gap-clause-prefix
returns-in_err-put_gap-clause-prefix g c =
    on_err c.from_residual.result
    (row-first c.args.gap c.args.ids.now c.args.values.now _ _ _ c.in_err-put_gap.ensures.prefix)

pub returns-in_err-put_more_places-clause-prefix : goal.returns-in_err-put_more_places-clause-prefix
returns-in_err-put_more_places-clause-prefix g c =
    on_err c.from_residual-in_err-put_more_places.result
    (row-second c.args.gap c.args.ids.now c.args.values.now _ _ _ _ _ c.in_ok-put_gap.ensures.formed c.in_err-put_more_places.ensures.prefix)

pub returns-clause-formed : goal.returns-clause-formed
returns-clause-formed g c =
    row-formed c.args.gap c.args.ids.now c.args.values.now _ _ _ _ _ _ c.in_ok-put_gap.ensures.formed c.in_ok-put_more_places.ensures.formed
