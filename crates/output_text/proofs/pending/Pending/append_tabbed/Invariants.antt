-- What the loop over the numbers keeps.
use Rattle.std.proofs.Common.{◌≡◌, ◌+◌, ◌-◌, ◌*◌, ◌≤◌, ◌++◌, ◌∷◌, [], length, drop, map}
use Rattle.std.specs.Fmt.{decimal}
use Rattle.output_text.specs.Joined.{led}
use Rattle.output_text.proofs.pending.Pending.append_tabbed.Given as goal

-- the numbers that are left go behind those that were appended, and have room
abbrev pub invariant-numbers : goal.invariant-numbers
invariant-numbers l = record {
  so_far : l.self ++ led (9 ∷ []) (map decimal (drop l.number-index l.numbers)) ≡ l.initial.self ++ led (9 ∷ []) (map decimal l.numbers);
  room : length l.self + (length l.numbers - l.number-index) * 21 ≤ length l.initial.self + length l.numbers * 21;
}
