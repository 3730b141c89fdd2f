-- The pairs of the range are those that pass the test of their keys.
use Rattle.std.proofs.Common.{◌∙◌}
use Rattle.pmr_tree.proofs.Ranges.{range_filter}
use Rattle.pmr_tree.proofs.range.entries_between.Goals as goal

pub returns-clause-found : goal.returns-clause-found
returns-clause-found g c = λ told. c.in_ok-found.ensures.value told ∙ range_filter c.args.low c.args.high _
