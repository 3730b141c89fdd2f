use Rattle.std.proofs.Common.{sym, ◌∙◌}
use Rattle.sand_journal.proofs.NameBytes.{name_is, name_not}
use Rattle.sand_journal.proofs.read_name.is_name.Goals as goal

-- the first byte begins a name, and the others go on
pub returns-then-starts_name : goal.returns-then-starts_name
returns-then-starts_name c = name_is c.args.bytes.now c.in-Some.rest.now c.in-Some.first c.all_continue.result c.in-Some.ensures.found
    (sym c.starts_name.ensures ∙ c.if-starts_name.true) c.all_continue.ensures

pub returns-else-starts_name : goal.returns-else-starts_name
returns-else-starts_name c = name_not c.args.bytes.now c.in-Some.rest.now c.in-Some.first c.starts_name.result c.in-Some.ensures.found c.starts_name.ensures c.if-starts_name.false
