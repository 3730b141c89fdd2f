-- its tree stays
use Rattle.attr_index.proofs.Changes.{unmoved}
use Rattle.attr_index.proofs.laws.own_pages_decide.Goals as goal

pub returns : goal.returns
returns c = λ m w x h. unmoved m w x h
