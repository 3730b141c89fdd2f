-- by induction on the height
use Rattle.code_btree.proofs.Frame.{frame}
use Rattle.code_btree.proofs.laws.own_pages_decide.Goals as goal

pub returns : goal.returns
returns c = λ m w t f. frame m w t f
