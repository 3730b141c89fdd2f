use Rattle.script_text.proofs.NumberLemmas.{int-none}
use Rattle.script_text.proofs.cursor.int.Goals as goal

-- what doesn't fit 64 bits is out of range
pub returns-in-Err : goal.returns-in-Err
returns-in-Err c = int-none c.args.text.now c.in-Err.field-0 c.requires c.in-Err.ensures.value.0
