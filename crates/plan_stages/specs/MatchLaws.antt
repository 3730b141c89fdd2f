-- A match has more steps where more are made beneath it.
use Rattle.std.proofs.Common.{ℕ, ◌<◌, arith}
use Rattle.plan_stages.specs.Matches.{match_steps}
use Rattle.plan_stages.specs.declared.matching.Match.{Match}

-- the steps of a match rise with those of its source
pub match_rises : (s : Match) (m n : ℕ) → m < n → match_steps s m < match_steps s n
match_rises s m n h = omega arith
