-- A sound ranking is lawful.
use Rattle.rank_cursor.specs.Laws.{IsLawful}
use Rattle.rank_cursor.specs.Ranking.{Ranking, IsSound}
use Rattle.rank_cursor.proofs.Counted.{counts_as}
use Rattle.rank_cursor.proofs.RankedRows.{gives_ranked}
use Rattle.rank_cursor.proofs.RankingLaws.{rank_laws}

pub is_lawful : (r : Ranking) → IsSound r → IsLawful r
is_lawful r sound = record { hierarchy = rank_laws r sound; rows = gives_ranked r sound; counts = counts_as r sound }
