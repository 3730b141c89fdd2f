use Rattle.std.proofs.Common.{arith}
use Rattle.script_text.proofs.NumberLemmas.{natural-none}
use Rattle.script_text.proofs.cursor.natural.Goals as goal

-- what doesn't fit 64 bits is in no range
pub returns-in_default-3 : goal.returns-in_default-3
returns-in_default-3 c = natural-none c.args.text.now c.in_default.field-0 c.args.least c.args.most c.requires (omega arith) c.in_default.ensures.value.0
