-- the first name stands among the others, or these decide
use Rattle.std.proofs.Common.{sym, ◌∙◌}
use Rattle.sand_store.proofs.Names.{twice_found, twice_passed}
use Rattle.sand_store.proofs.create.has_name_twice.Goals as goal

pub returns-then-has_name : goal.returns-then-has_name
returns-then-has_name c =
    sym (twice_found c.columns.rest.now c.first-item.result c.as_str.result.now c.has_name.result c.in-len1-up.len_at_least c.first-item.is c.as_str.ensures c.has_name.ensures c.if-has_name.true)
    ∙ c.columns.invariant

pub columns-preserved : goal.columns-preserved
columns-preserved c =
    twice_passed c.columns.rest.now c.first-item.result c.as_str.result.now c.has_name.result c.in-len1-up.len_at_least c.first-item.is c.as_str.ensures c.has_name.ensures c.if-has_name.false
    ∙ c.columns.invariant
