-- the row is written, or broke off as it was written
use Rattle.output_text.proofs.Forming.{on_err}
use Rattle.output_text.proofs.Lines.{short-broken, short-written}
use Rattle.output_text.proofs.short_rows.write_short_row.Goals as goal

pub returns-in_err-end_short-clause-prefix : goal.returns-in_err-end_short-clause-prefix
returns-in_err-end_short-clause-prefix g c =
    on_err c.from_residual.result
    (short-broken c.args.gap c.args.ids.now c.new-pending.result c.append_number.new.self c.append_tabbed.new.self c.num.result _ _ c.requires.whole c.num.ensures
    c.new-pending.ensures c.append_number.ensures.text c.append_tabbed.ensures.text c.in_err-end_short.ensures.prefix)

pub returns-clause-written : goal.returns-clause-written
returns-clause-written g c =
    short-written c.args.gap c.args.ids.now c.new-pending.result c.append_number.new.self c.append_tabbed.new.self c.num.result _ _ c.requires.whole c.num.ensures
    c.new-pending.ensures c.append_number.ensures.text c.append_tabbed.ensures.text c.in_ok-end_short.ensures.written
