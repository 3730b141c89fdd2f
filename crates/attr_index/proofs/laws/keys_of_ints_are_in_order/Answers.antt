-- the key of an int v is that of v + 2^63
use Rattle.attr_index.proofs.Ints.{key_lt, lt_by_key, key_back}
use Rattle.attr_index.proofs.laws.keys_of_ints_are_in_order.Goals as goal

pub returns-clause-order : goal.returns-clause-order
returns-clause-order c = λ v u h k. (key_lt v u h k, lt_by_key v u h k)

pub returns-clause-back : goal.returns-clause-back
returns-clause-back c = λ v h. key_back v h
