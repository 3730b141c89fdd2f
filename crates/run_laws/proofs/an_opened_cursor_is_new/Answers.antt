use Rattle.run_laws.proofs.OpenedCursors.{opened}
use Rattle.run_laws.proofs.an_opened_cursor_is_new.Goals as goal

-- its checks say that no cursor had the name
pub returns : goal.returns
returns c = opened
