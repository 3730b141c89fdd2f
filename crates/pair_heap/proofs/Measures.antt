-- What falls as a loop goes over a chain.
use Rattle.std.proofs.Common.{ℕ, suc, ◌+◌, ◌*◌}
use Rattle.pair_heap.specs.Chain.{Chain, end, link}

-- how many trees the chain has
abbrev pub siblings : {X : Type 0} → Chain X → ℕ
siblings end = 0
siblings (link p x kids rest) = suc (siblings rest)

-- what falls where a first child moves up beside its parent, and where a node goes
abbrev pub weight : {X : Type 0} → Chain X → ℕ
weight end = 0
weight (link p x kids rest) = 1 + (2 * weight kids + weight rest)
