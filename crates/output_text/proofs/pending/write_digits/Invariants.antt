-- What the loop over the digits keeps.
use Rattle.std.proofs.Common.{◌≡◌, ◌≤◌, ◌++◌, length, drop}
use Rattle.std.specs.Fmt.{decimal}
use Rattle.output_text.proofs.pending.write_digits.Given as goal

-- the digits that are left go before those that are written
abbrev pub invariant-digits : goal.invariant-digits
invariant-digits l = record {
  fits : l.at ≡ length (decimal l.left);
  within : l.at ≤ length l.digits;
  written : decimal l.left ++ drop l.at l.digits ≡ decimal l.number;
}

-- the number loses its last digit in each round
abbrev pub decreases-digits : goal.decreases-digits
decreases-digits l = l.left
