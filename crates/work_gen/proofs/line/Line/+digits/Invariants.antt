-- Why the recursion over a number's digits ends.
use Rattle.work_gen.proofs.line.Line.+digits.Given as goal

-- the number loses its last digit
abbrev pub decreases-digits : goal.decreases-digits
decreases-digits l = l.number
