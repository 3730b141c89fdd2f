-- An inner child keeps the place apart, and so do enough ids; fewer ids than the threshold come into one leaf.
use Rattle.std.proofs.Common.{ℕ, List, ap, ap₂, sym, ◌∙◌, subst, arith}
use Rattle.pmr_tree.specs.Lists.{put_all}
use Rattle.pmr_tree.specs.Keys.{leaf_keys, own}
use Rattle.pmr_tree.specs.Leaves.{firsts, ids_of, Passes, ListPasses}
use Rattle.pmr_tree.specs.Parts.{without_parts}
use Rattle.pmr_tree.specs.declared.fault.PmrFault.TheVariants.{Memory}
use Rattle.pmr_tree.proofs.Refusals.{passed_on, passed_as}
use Rattle.pmr_tree.proofs.Entries.{none_found, some_found, if_found, length_ids}
use Rattle.pmr_tree.proofs.MergeSteps.{Four, some_large, merge_enough, merge_few}
use Rattle.pmr_tree.proofs.shrink.merge.Goals as goal

-- accepted calls lead on to the refused one, and its refusal is passed on
pub returns-in_err-parts-clause-leads : goal.returns-in_err-parts-clause-leads
returns-in_err-parts-clause-leads g c =
    passed_on _ _ (g.S.Ground.Leads c.args.ground.now c.args.pages.now c.args.ground.now c.leaves_of.new.pages) c.from_residual.ensures c.in_err-parts.ensures.leads

pub returns-in_default-clause-leads : goal.returns-in_default-clause-leads
returns-in_default-clause-leads g c = c.in_ok-parts.ensures.leads

pub returns-in_default-clause-inner : goal.returns-in_default-clause-inner
returns-in_default-clause-inner g c = λ no k. ap (own c.args.block) (ap firsts (c.in_ok-parts.ensures.same k)) ∙ c.requires.inner k

pub returns-in_default-clause-values : goal.returns-in_default-clause-values
returns-in_default-clause-values g c = λ k test w. subst (Passes test) (sym (c.in_ok-parts.ensures.same k)) w

pub returns-in_err-all-clause-leads : goal.returns-in_err-all-clause-leads
returns-in_err-all-clause-leads g c =
    passed_as _ _ Memory (g.S.Ground.Leads c.args.ground.now c.args.pages.now c.args.ground.now c.leaves_of.new.pages) c.from_residual-in_err-all.ensures c.in_err-all.ensures.memory
    (g.met.S.Ground.onward _ _ _ _ _ _ _ c.in_ok-parts.ensures.leads (g.met.S.Ground.spent _ _))

pub returns-then-len-threshold-clause-leads : goal.returns-then-len-threshold-clause-leads
returns-then-len-threshold-clause-leads g c = c.in_ok-parts.ensures.leads

pub returns-then-len-threshold-clause-inner : goal.returns-then-len-threshold-clause-inner
returns-then-len-threshold-clause-inner g c = λ no k. ap (own c.args.block) (ap firsts (c.in_ok-parts.ensures.same k)) ∙ c.requires.inner k

pub returns-then-len-threshold-clause-values : goal.returns-then-len-threshold-clause-values
returns-then-len-threshold-clause-values g c = λ k test w. subst (Passes test) (sym (c.in_ok-parts.ensures.same k)) w

-- accepted calls leave the pages ready for the next one
pub replace_four-requires-clause-ready : goal.replace_four-requires-clause-ready
replace_four-requires-clause-ready g c = g.met.S.Ground.ready _ _ _ _ c.in_ok-parts.ensures.leads c.requires.ready

pub returns-in_err-replace_four-clause-leads : goal.returns-in_err-replace_four-clause-leads
returns-in_err-replace_four-clause-leads g c =
    passed_on _ _ (g.S.Ground.Leads c.args.ground.now c.args.pages.now c.replace_four.new.ground c.replace_four.new.pages) c.from_residual-in_err-replace_four.ensures
    (g.met.S.Ground.onward _ _ _ _ _ _ _ c.in_ok-parts.ensures.leads c.in_err-replace_four.ensures.leads)

pub returns-clause-leads : goal.returns-clause-leads
returns-clause-leads g c = g.met.S.Ground.onward _ _ _ _ _ _ _ c.in_ok-parts.ensures.leads c.in_ok-replace_four.ensures.leads

pub returns-in_default-clause-keys : goal.returns-in_default-clause-keys
returns-in_default-clause-keys g c = λ k.
    some_large c.args.threshold c.args.block _ _ (c.requires.stands k) (c.requires.inner k) (none_found _ _ _ c.in_default.is (c.in_ok-parts.ensures.found k))
    (ap firsts (c.in_ok-parts.ensures.same k))

pub returns-then-len-threshold-clause-keys : goal.returns-then-len-threshold-clause-keys
returns-then-len-threshold-clause-keys g c = λ k.
    let ks : List ℕ = firsts (g.S.Ground.pairs c.args.ground.now c.args.pages.now) in
    let leaves = some_found _ _ _ _ c.in-Some.is (c.in_ok-parts.ensures.found k) in
    let four : Four c.args.block ks (ids_of c.in-Some.parts.first.items) (ids_of c.in-Some.parts.second.items) (ids_of c.in-Some.parts.third.items) (ids_of c.in-Some.parts.fourth.items) =
    record { first = leaves.first; second = leaves.second; third = leaves.third; fourth = leaves.fourth } in
    merge_enough c.args.threshold c.args.block _ _ (ids_of c.in-Some.parts.first.items) (ids_of c.in-Some.parts.second.items) (ids_of c.in-Some.parts.third.items)
    (ids_of c.in-Some.parts.fourth.items) (ids_of c.in_ok-all.all.items) (c.requires.stands k) (c.requires.inner k) four c.in_ok-all.ensures.ids (omega (arith, length_ids c.in_ok-all.all.items))
    (ap firsts (c.in_ok-parts.ensures.same k))

pub returns-clause-keys : goal.returns-clause-keys
returns-clause-keys g c = λ k.
    let ks : List ℕ = firsts (g.S.Ground.pairs c.args.ground.now c.args.pages.now) in
    let leaves = some_found _ _ _ _ c.in-Some.is (c.in_ok-parts.ensures.found k) in
    let four : Four c.args.block ks (ids_of c.in-Some.parts.first.items) (ids_of c.in-Some.parts.second.items) (ids_of c.in-Some.parts.third.items) (ids_of c.in-Some.parts.fourth.items) =
    record { first = leaves.first; second = leaves.second; third = leaves.third; fourth = leaves.fourth } in
    merge_few c.args.threshold c.args.block _ _ (ids_of c.in-Some.parts.first.items) (ids_of c.in-Some.parts.second.items) (ids_of c.in-Some.parts.third.items)
    (ids_of c.in-Some.parts.fourth.items) (ids_of c.in_ok-all.all.items) (c.requires.stands k) (c.requires.inner k) four c.in_ok-all.ensures.ids (omega (arith, length_ids c.in_ok-all.all.items))
    (c.in_ok-replace_four.ensures.keys (g.met.S.Ground.known _ _ _ _ c.in_ok-parts.ensures.leads k)
    ∙ ap₂ (λ x y. put_all (leaf_keys c.args.block (ids_of x)) (without_parts c.args.block c.in-Some.parts y)) c.deref.ensures.value (ap firsts (c.in_ok-parts.ensures.same k)))

pub returns-clause-values : goal.returns-clause-values
returns-clause-values g c = λ k test w.
    let pass = c.in_ok-all.ensures.values test (if_found _ _ _ c.in-Some.is (c.in_ok-parts.ensures.values k test w)) in
    c.in_ok-replace_four.ensures.values (g.met.S.Ground.known _ _ _ _ c.in_ok-parts.ensures.leads k) test (subst (ListPasses test) (sym c.deref.ensures.value) pass)
    (subst (Passes test) (sym (c.in_ok-parts.ensures.same k)) w)
