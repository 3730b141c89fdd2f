-- A sound join is lawful.
use Rattle.dist_join.specs.Laws.{IsLawfulJoin}
use Rattle.dist_join.specs.Joining.{Joining, IsSoundJoin}
use Rattle.dist_join.proofs.CountedPairs.{counts_as}
use Rattle.dist_join.proofs.JoinLaws.{join_laws}
use Rattle.dist_join.proofs.JoinedRows.{gives_joined, lists_joined, has_lefts}

pub is_lawful : (j : Joining) → IsSoundJoin j → IsLawfulJoin j
is_lawful j sound = record {
  hierarchy = join_laws j sound;
  rows = gives_joined j sound;
  lists = lists_joined j sound;
  lefts = has_lefts j sound;
  counts = counts_as j sound;
}
