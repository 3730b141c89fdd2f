use Rattle.std.proofs.Common.{arith}
use Rattle.script_text.proofs.TextLemmas.{run_on}
use Rattle.script_text.proofs.text.text_run.Goals as goal

-- one more character
pub units-preserved : goal.units-preserved
units-preserved c =
    run_on c.args.bytes.now _ c.units.at c.unit_len-len.result c.units.invariant.0 c.units.invariant.1 c.split_at.ensures.back c.unit_len-len.ensures.len (omega (arith, c.if-len-eq0.false))
