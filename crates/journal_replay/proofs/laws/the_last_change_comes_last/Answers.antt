use Rattle.journal_replay.proofs.Leading.{world_push}
use Rattle.journal_replay.proofs.laws.the_last_change_comes_last.Goals as goal

-- by the changes before
pub returns : goal.returns
returns c = λ setting changes change d. world_push setting changes change d
