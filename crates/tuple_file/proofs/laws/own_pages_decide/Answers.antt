-- its tree stays, and so do the tuples to which that leads
use Rattle.tuple_file.proofs.Houses.{unmoved}
use Rattle.tuple_file.proofs.laws.own_pages_decide.Goals as goal

pub returns : goal.returns
returns c = λ m w f h. unmoved m w f h
