-- The sum is the number of the lines.
use Rattle.std.proofs.Common.{ℕ, ◌+◌, ◌*◌, ◌/◌, sym, ap, ◌∙◌}
use Rattle.work_gen.proofs.WorkLines.{length-workload}
use Rattle.work_gen.proofs.counted.line_count.Goals as goal

pub returns-clause-lines : goal.returns-clause-lines
returns-clause-lines c = ap (λ (k : ℕ). 2 * k + 2 * (k / 10 + 1) + 8) c.from-turns.ensures ∙ sym (length-workload c.args.n)
