-- A list of fewer ids than so many is the whole of the leaf; a longer one tells that it has so many.
use Rattle.std.proofs.Common.{inl, inr, arith}
use Rattle.pmr_tree.proofs.Refusals.{passed_on}
use Rattle.pmr_tree.proofs.Entries.{none_found, some_found, if_found, length_ids}
use Rattle.pmr_tree.proofs.Unions.{up_to_many, up_to_few}
use Rattle.pmr_tree.proofs.shrink.small_leaf.Goals as goal

pub returns-in_err-list-clause-leads : goal.returns-in_err-list-clause-leads
returns-in_err-list-clause-leads g c =
    passed_on _ _ (g.S.Ground.Leads c.args.ground.now c.args.pages.now c.args.ground.now c.leaf_of.new.pages) c.from_residual.ensures c.in_err-list.ensures.leads

pub returns-in_default-clause-found : goal.returns-in_default-clause-found
returns-in_default-clause-found g c = λ k. inl (none_found _ _ _ c.in_default.is (c.in_ok-list.ensures.found k))

pub returns-then-len-most-clause-found : goal.returns-then-len-most-clause-found
returns-then-len-most-clause-found g c = λ k.
    let leaf = some_found _ _ _ _ c.in-Some.is (c.in_ok-list.ensures.found k) in
    inr (up_to_many c.args.most _ _ leaf.up_to (omega (arith, length_ids c.in-Some.list.items)))

pub returns-clause-found : goal.returns-clause-found
returns-clause-found g c = λ k.
    let leaf = some_found _ _ _ _ c.in-Some.is (c.in_ok-list.ensures.found k) in
    record { some = leaf.some; ids_are = up_to_few c.args.most _ _ leaf.up_to (omega (arith, length_ids c.in-Some.list.items)) }

pub returns-clause-values : goal.returns-clause-values
returns-clause-values g c = λ k test w. if_found _ _ _ c.in-Some.is (c.in_ok-list.ensures.values k test w)
