-- one level lower each time; the entries that were passed over lack the member
use Rattle.std.proofs.Common.{◌≡◌}
use Rattle.r_tree.specs.Steps.{PassesBy}
use Rattle.r_tree.proofs.remove.+remove_under.Given as goal

abbrev pub decreases-remove_under : goal.decreases-remove_under
decreases-remove_under g l = l.level

abbrev pub invariant-entries : goal.invariant-entries
invariant-entries g l = PassesBy l.initial.pool l.pool l.level l.at l.initial.entries.items (l.id, l.rough) × (l.entries ≡ l.initial.entries)
