use Rattle.run_laws.proofs.NextsInRuns.{run_given, run_ends}
use Rattle.run_laws.proofs.OpenedCursors.{opened}
use Rattle.run_laws.proofs.nexts_follow_the_answer.Goals as goal

-- line by line; and an opened cursor has all rows left
pub returns : goal.returns
returns c = record {
  left = run_given;
  ends = run_ends;
  opened = λ setting own rises old mid new name p script printed accepted run stays.
      let is = opened setting own old mid name p accepted in
      let given = run_given setting mid new script rises printed run name _ is.1 stays in
      (_, given.first, given.all);
}
