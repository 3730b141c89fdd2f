-- Above the finest level all entries are read, and at it the first of them.
use Rattle.std.proofs.Common.{◌≤◌, inl, inr, subst}
use Rattle.sand_base.specs.declared.TheConstants.{COORDINATE_BITS}
use Rattle.pmr_tree.proofs.leaf.few_pairs.Goals as goal

pub returns-then-from-lt-COORDINATE_BITS-clause-found : goal.returns-then-from-lt-COORDINATE_BITS-clause-found
returns-then-from-lt-COORDINATE_BITS-clause-found g c = λ k. inl (c.in_ok-all.ensures.found k)

pub returns-clause-found : goal.returns-clause-found
returns-clause-found g c = λ k.
    let deep : COORDINATE_BITS ≤ c.args.block.level = subst (λ n. COORDINATE_BITS ≤ n) c.from.ensures c.if-from-lt-COORDINATE_BITS.false in
    inr (deep, c.in_ok-first.ensures.found k)
