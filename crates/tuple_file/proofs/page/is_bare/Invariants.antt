-- the slots read so far have no tuple
use Rattle.std.proofs.Common.{◌≡◌, ℕ, ◌<◌}
use Rattle.tuple_file.specs.Page.{length_in}
use Rattle.tuple_file.proofs.page.is_bare.Given as goal

abbrev pub invariant-slots : goal.invariant-slots
invariant-slots l = (k : ℕ) → k < l.slot → length_in l.page k ≡ 0
