-- What the loop over the digits keeps.
use Rattle.std.proofs.Common.{◌≡◌, ◌+◌, ◌≤◌, ◌++◌, length, drop}
use Rattle.std.specs.Fmt.{decimal}
use Rattle.exact_frac.proofs.frac_text.write_small.Given as goal

-- the digits that are left go before those that are written
abbrev pub invariant-digits : goal.invariant-digits
invariant-digits l = record {
  fits : length (decimal l.left) ≤ l.at;
  within : l.at ≤ length l.bytes;
  start : l.at + length (decimal l.number) ≡ l.end + length (decimal l.left);
  written : decimal l.left ++ drop l.at l.bytes ≡ decimal l.number ++ drop l.end l.fn.bytes;
}

-- the number loses its last digit in each round
abbrev pub decreases-digits : goal.decreases-digits
decreases-digits l = l.left
