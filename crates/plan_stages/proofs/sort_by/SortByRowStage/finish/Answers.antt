-- At the end what it kept is sorted.
use Rattle.std.specs.Ordering.{int_cmp}
use Rattle.plan_stages.specs.Keyed.{by_key}
use Rattle.plan_stages.proofs.Numbered.{sorted_numbers}
use Rattle.plan_stages.proofs.Sorting.{falls_of}
use Rattle.plan_stages.proofs.sort_by.SortByRowStage.finish.Goals as goal

pub returns-in-Ok-clause-falls : goal.returns-in-Ok-clause-falls
returns-in-Ok-clause-falls c =
    falls_of (by_key int_cmp) c.args.self.now.held c.args.self.now.closed c.args.self.now.rows c.sort.new.self c.requires.free c.in-Ok.ensures.sorted

pub returns-in-Ok-clause-stands : goal.returns-in-Ok-clause-stands
returns-in-Ok-clause-stands c = sorted_numbers c.args.self.now c.sort.new.self c.requires.free c.in-Ok.ensures.sorted
