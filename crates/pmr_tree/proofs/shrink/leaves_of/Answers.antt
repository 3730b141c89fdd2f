-- Each child is a leaf, or the first one that isn't shows an inner place.
use Rattle.std.proofs.Common.{ℕ, List, get_or, ap, sym, ◌∙◌, subst, inl, inr}
use Rattle.z_code.specs.declared.block.Block.{Block}
use Rattle.pmr_tree.specs.Changes.{KeysStand}
use Rattle.pmr_tree.specs.Leaves.{firsts, ids_of, HasLeafIds, Passes}
use Rattle.pmr_tree.specs.FirstIds.{IsLarge}
use Rattle.pmr_tree.proofs.Entries.{none_found, some_found, if_found}
use Rattle.pmr_tree.proofs.Refusals.{passed_on}
use Rattle.pmr_tree.proofs.GrowSteps.{first_block, second_block, third_block, fourth_block, at_child, from_child}
use Rattle.pmr_tree.proofs.Steps.{stands_0, stands_1, stands_2, stands_3}
use Rattle.pmr_tree.proofs.shrink.leaves_of.Goals as goal

pub small_leaf-requires-clause-block : goal.small_leaf-requires-clause-block
small_leaf-requires-clause-block g c = (first_block c.args.block _ _ c.children.ensures.value c.requires.block c.requires.above_points).0

pub small_leaf-requires-2-clause-block : goal.small_leaf-requires-2-clause-block
small_leaf-requires-2-clause-block g c = (second_block c.args.block _ _ c.children.ensures.value c.requires.block c.requires.above_points).0

pub small_leaf-requires-3-clause-block : goal.small_leaf-requires-3-clause-block
small_leaf-requires-3-clause-block g c = (third_block c.args.block _ _ c.children.ensures.value c.requires.block c.requires.above_points).0

pub small_leaf-requires-4-clause-block : goal.small_leaf-requires-4-clause-block
small_leaf-requires-4-clause-block g c = (fourth_block c.args.block _ _ c.children.ensures.value c.requires.block c.requires.above_points).0

-- the children of an inner place have the keys of trees
pub small_leaf-requires-clause-stands : goal.small_leaf-requires-clause-stands
small_leaf-requires-clause-stands g c = λ k.
    let d : Block = record { z = 0; level = 0 } in
    let ks : List ℕ = firsts (g.S.Ground.pairs c.args.ground.now c.args.pages.now) in
    from_child c.args.block c.children.result 0 d (λ x. KeysStand x ks) c.children.ensures.value (stands_0 c.args.block ks (c.requires.stands k) (c.requires.inner k))

pub small_leaf-requires-2-clause-stands : goal.small_leaf-requires-2-clause-stands
small_leaf-requires-2-clause-stands g c = λ known.
    let d : Block = record { z = 0; level = 0 } in
    let l1 = c.in_ok-first.ensures.leads in
    let k = g.met.S.Ground.knew _ _ _ _ l1 known in
    let e1 = c.in_ok-first.ensures.same k in
    let ks : List ℕ = firsts (g.S.Ground.pairs c.args.ground.now c.args.pages.now) in
    subst (KeysStand (get_or c.children.result 1 d)) (sym (ap firsts e1))
    (from_child c.args.block c.children.result 1 d (λ x. KeysStand x ks) c.children.ensures.value (stands_1 c.args.block ks (c.requires.stands k) (c.requires.inner k)))

pub small_leaf-requires-3-clause-stands : goal.small_leaf-requires-3-clause-stands
small_leaf-requires-3-clause-stands g c = λ known.
    let d : Block = record { z = 0; level = 0 } in
    let l1 = c.in_ok-first.ensures.leads in
    let l2 = g.met.S.Ground.onward _ _ _ _ _ _ _ l1 c.in_ok-second.ensures.leads in
    let k = g.met.S.Ground.knew _ _ _ _ l2 known in
    let e1 = c.in_ok-first.ensures.same k in
    let e2 = c.in_ok-second.ensures.same (g.met.S.Ground.known _ _ _ _ l1 k) ∙ e1 in
    let ks : List ℕ = firsts (g.S.Ground.pairs c.args.ground.now c.args.pages.now) in
    subst (KeysStand (get_or c.children.result 2 d)) (sym (ap firsts e2))
    (from_child c.args.block c.children.result 2 d (λ x. KeysStand x ks) c.children.ensures.value (stands_2 c.args.block ks (c.requires.stands k) (c.requires.inner k)))

pub small_leaf-requires-4-clause-stands : goal.small_leaf-requires-4-clause-stands
small_leaf-requires-4-clause-stands g c = λ known.
    let d : Block = record { z = 0; level = 0 } in
    let l1 = c.in_ok-first.ensures.leads in
    let l2 = g.met.S.Ground.onward _ _ _ _ _ _ _ l1 c.in_ok-second.ensures.leads in
    let l3 = g.met.S.Ground.onward _ _ _ _ _ _ _ l2 c.in_ok-third.ensures.leads in
    let k = g.met.S.Ground.knew _ _ _ _ l3 known in
    let e1 = c.in_ok-first.ensures.same k in
    let e2 = c.in_ok-second.ensures.same (g.met.S.Ground.known _ _ _ _ l1 k) ∙ e1 in
    let e3 = c.in_ok-third.ensures.same (g.met.S.Ground.known _ _ _ _ l2 k) ∙ e2 in
    let ks : List ℕ = firsts (g.S.Ground.pairs c.args.ground.now c.args.pages.now) in
    subst (KeysStand (get_or c.children.result 3 d)) (sym (ap firsts e3))
    (from_child c.args.block c.children.result 3 d (λ x. KeysStand x ks) c.children.ensures.value (stands_3 c.args.block ks (c.requires.stands k) (c.requires.inner k)))

pub returns-in_default-clause-found : goal.returns-in_default-clause-found
returns-in_default-clause-found g c = λ k.
    let d : Block = record { z = 0; level = 0 } in
    inl (at_child c.args.block c.children.result 0 d (λ x. IsLarge c.args.most x (firsts (g.S.Ground.pairs c.args.ground.now c.args.pages.now))) c.children.ensures.value
    (none_found _ _ _ c.in_default.is (c.in_ok-first.ensures.found k)))

pub returns-in_default-2-clause-found : goal.returns-in_default-2-clause-found
returns-in_default-2-clause-found g c = λ k.
    let d : Block = record { z = 0; level = 0 } in
    let l1 = c.in_ok-first.ensures.leads in
    let e1 = c.in_ok-first.ensures.same k in
    inr (inl (at_child c.args.block c.children.result 1 d (λ x. IsLarge c.args.most x (firsts (g.S.Ground.pairs c.args.ground.now c.args.pages.now))) c.children.ensures.value
    (subst (IsLarge c.args.most (get_or c.children.result 1 d)) (ap firsts e1) (none_found _ _ _ c.in_default-2.is (c.in_ok-second.ensures.found (g.met.S.Ground.known _ _ _ _ l1 k))))))

pub returns-in_default-3-clause-found : goal.returns-in_default-3-clause-found
returns-in_default-3-clause-found g c = λ k.
    let d : Block = record { z = 0; level = 0 } in
    let l1 = c.in_ok-first.ensures.leads in
    let l2 = g.met.S.Ground.onward _ _ _ _ _ _ _ l1 c.in_ok-second.ensures.leads in
    let e1 = c.in_ok-first.ensures.same k in
    let e2 = c.in_ok-second.ensures.same (g.met.S.Ground.known _ _ _ _ l1 k) ∙ e1 in
    inr (inr (inl (at_child c.args.block c.children.result 2 d (λ x. IsLarge c.args.most x (firsts (g.S.Ground.pairs c.args.ground.now c.args.pages.now))) c.children.ensures.value
    (subst (IsLarge c.args.most (get_or c.children.result 2 d)) (ap firsts e2) (none_found _ _ _ c.in_default-3.is (c.in_ok-third.ensures.found (g.met.S.Ground.known _ _ _ _ l2 k)))))))

pub returns-in_default-4-clause-found : goal.returns-in_default-4-clause-found
returns-in_default-4-clause-found g c = λ k.
    let d : Block = record { z = 0; level = 0 } in
    let l1 = c.in_ok-first.ensures.leads in
    let l2 = g.met.S.Ground.onward _ _ _ _ _ _ _ l1 c.in_ok-second.ensures.leads in
    let l3 = g.met.S.Ground.onward _ _ _ _ _ _ _ l2 c.in_ok-third.ensures.leads in
    let e1 = c.in_ok-first.ensures.same k in
    let e2 = c.in_ok-second.ensures.same (g.met.S.Ground.known _ _ _ _ l1 k) ∙ e1 in
    let e3 = c.in_ok-third.ensures.same (g.met.S.Ground.known _ _ _ _ l2 k) ∙ e2 in
    inr (inr (inr ((at_child c.args.block c.children.result 3 d (λ x. IsLarge c.args.most x (firsts (g.S.Ground.pairs c.args.ground.now c.args.pages.now))) c.children.ensures.value
    (subst (IsLarge c.args.most (get_or c.children.result 3 d)) (ap firsts e3) (none_found _ _ _ c.in_default-4.is (c.in_ok-fourth.ensures.found (g.met.S.Ground.known _ _ _ _ l3 k))))))))

pub returns-clause-found : goal.returns-clause-found
returns-clause-found g c = λ k.
    let d : Block = record { z = 0; level = 0 } in
    let l1 = c.in_ok-first.ensures.leads in
    let l2 = g.met.S.Ground.onward _ _ _ _ _ _ _ l1 c.in_ok-second.ensures.leads in
    let l3 = g.met.S.Ground.onward _ _ _ _ _ _ _ l2 c.in_ok-third.ensures.leads in
    let e1 = c.in_ok-first.ensures.same k in
    let e2 = c.in_ok-second.ensures.same (g.met.S.Ground.known _ _ _ _ l1 k) ∙ e1 in
    let e3 = c.in_ok-third.ensures.same (g.met.S.Ground.known _ _ _ _ l2 k) ∙ e2 in
    let ks : List ℕ = firsts (g.S.Ground.pairs c.args.ground.now c.args.pages.now) in
    record {
      first = at_child c.args.block c.children.result 0 d (λ x. HasLeafIds x ks (ids_of c.in-Some.first.items)) c.children.ensures.value
          (some_found _ _ _ _ c.in-Some.is (c.in_ok-first.ensures.found k));
      second = at_child c.args.block c.children.result 1 d (λ x. HasLeafIds x ks (ids_of c.in-Some-2.second.items)) c.children.ensures.value
          (subst (λ (x : List ℕ). HasLeafIds (get_or c.children.result 1 d) x (ids_of c.in-Some-2.second.items)) (ap firsts e1)
          (some_found _ _ _ _ c.in-Some-2.is (c.in_ok-second.ensures.found (g.met.S.Ground.known _ _ _ _ l1 k))));
      third = at_child c.args.block c.children.result 2 d (λ x. HasLeafIds x ks (ids_of c.in-Some-3.third.items)) c.children.ensures.value
          (subst (λ (x : List ℕ). HasLeafIds (get_or c.children.result 2 d) x (ids_of c.in-Some-3.third.items)) (ap firsts e2)
          (some_found _ _ _ _ c.in-Some-3.is (c.in_ok-third.ensures.found (g.met.S.Ground.known _ _ _ _ l2 k))));
      fourth = at_child c.args.block c.children.result 3 d (λ x. HasLeafIds x ks (ids_of c.in-Some-4.fourth.items)) c.children.ensures.value
          (subst (λ (x : List ℕ). HasLeafIds (get_or c.children.result 3 d) x (ids_of c.in-Some-4.fourth.items)) (ap firsts e3)
          (some_found _ _ _ _ c.in-Some-4.is (c.in_ok-fourth.ensures.found (g.met.S.Ground.known _ _ _ _ l3 k))));
    }

pub returns-clause-values : goal.returns-clause-values
returns-clause-values g c = λ k test w.
    let l1 = c.in_ok-first.ensures.leads in
    let l2 = g.met.S.Ground.onward _ _ _ _ _ _ _ l1 c.in_ok-second.ensures.leads in
    let l3 = g.met.S.Ground.onward _ _ _ _ _ _ _ l2 c.in_ok-third.ensures.leads in
    let e1 = c.in_ok-first.ensures.same k in
    let e2 = c.in_ok-second.ensures.same (g.met.S.Ground.known _ _ _ _ l1 k) ∙ e1 in
    let e3 = c.in_ok-third.ensures.same (g.met.S.Ground.known _ _ _ _ l2 k) ∙ e2 in
    record {
      first = if_found _ _ _ c.in-Some.is (c.in_ok-first.ensures.values k test w);
      second = if_found _ _ _ c.in-Some-2.is (c.in_ok-second.ensures.values (g.met.S.Ground.known _ _ _ _ l1 k) test (subst (Passes test) (sym e1) w));
      third = if_found _ _ _ c.in-Some-3.is (c.in_ok-third.ensures.values (g.met.S.Ground.known _ _ _ _ l2 k) test (subst (Passes test) (sym e2) w));
      fourth = if_found _ _ _ c.in-Some-4.is (c.in_ok-fourth.ensures.values (g.met.S.Ground.known _ _ _ _ l3 k) test (subst (Passes test) (sym e3) w));
    }

-- accepted calls leave the pages ready for the next one
pub small_leaf-requires-2-clause-ready : goal.small_leaf-requires-2-clause-ready
small_leaf-requires-2-clause-ready g c =
    let l1 = c.in_ok-first.ensures.leads in
    g.met.S.Ground.ready _ _ _ _ l1 c.requires.ready

pub small_leaf-requires-3-clause-ready : goal.small_leaf-requires-3-clause-ready
small_leaf-requires-3-clause-ready g c =
    let l1 = c.in_ok-first.ensures.leads in
    let l2 = g.met.S.Ground.onward _ _ _ _ _ _ _ l1 c.in_ok-second.ensures.leads in
    g.met.S.Ground.ready _ _ _ _ l2 c.requires.ready

pub small_leaf-requires-4-clause-ready : goal.small_leaf-requires-4-clause-ready
small_leaf-requires-4-clause-ready g c =
    let l1 = c.in_ok-first.ensures.leads in
    let l2 = g.met.S.Ground.onward _ _ _ _ _ _ _ l1 c.in_ok-second.ensures.leads in
    let l3 = g.met.S.Ground.onward _ _ _ _ _ _ _ l2 c.in_ok-third.ensures.leads in
    g.met.S.Ground.ready _ _ _ _ l3 c.requires.ready

-- accepted calls lead on to the refused one, and its refusal is passed on
pub returns-in_err-first-clause-leads : goal.returns-in_err-first-clause-leads
returns-in_err-first-clause-leads g c =
    passed_on _ _ (g.S.Ground.Leads c.args.ground.now c.args.pages.now c.args.ground.now c.small_leaf.new.pages) c.from_residual.ensures c.in_err-first.ensures.leads

pub returns-in_err-second-clause-leads : goal.returns-in_err-second-clause-leads
returns-in_err-second-clause-leads g c =
    let l1 = c.in_ok-first.ensures.leads in
    passed_on _ _ (g.S.Ground.Leads c.args.ground.now c.args.pages.now c.args.ground.now c.small_leaf-2.new.pages) c.from_residual-in_err-second.ensures
    (g.met.S.Ground.onward _ _ _ _ _ _ _ l1 c.in_err-second.ensures.leads)

pub returns-in_err-third-clause-leads : goal.returns-in_err-third-clause-leads
returns-in_err-third-clause-leads g c =
    let l1 = c.in_ok-first.ensures.leads in
    let l2 = g.met.S.Ground.onward _ _ _ _ _ _ _ l1 c.in_ok-second.ensures.leads in
    passed_on _ _ (g.S.Ground.Leads c.args.ground.now c.args.pages.now c.args.ground.now c.small_leaf-3.new.pages) c.from_residual-in_err-third.ensures
    (g.met.S.Ground.onward _ _ _ _ _ _ _ l2 c.in_err-third.ensures.leads)

pub returns-in_err-fourth-clause-leads : goal.returns-in_err-fourth-clause-leads
returns-in_err-fourth-clause-leads g c =
    let l1 = c.in_ok-first.ensures.leads in
    let l2 = g.met.S.Ground.onward _ _ _ _ _ _ _ l1 c.in_ok-second.ensures.leads in
    let l3 = g.met.S.Ground.onward _ _ _ _ _ _ _ l2 c.in_ok-third.ensures.leads in
    passed_on _ _ (g.S.Ground.Leads c.args.ground.now c.args.pages.now c.args.ground.now c.small_leaf-4.new.pages) c.from_residual-in_err-fourth.ensures
    (g.met.S.Ground.onward _ _ _ _ _ _ _ l3 c.in_err-fourth.ensures.leads)

pub returns-in_default-clause-leads : goal.returns-in_default-clause-leads
returns-in_default-clause-leads g c =
    c.in_ok-first.ensures.leads

pub returns-in_default-clause-same : goal.returns-in_default-clause-same
returns-in_default-clause-same g c =
    c.in_ok-first.ensures.same

pub returns-in_default-clause-values : goal.returns-in_default-clause-values
returns-in_default-clause-values g c =
    λ k test w. tt

pub returns-in_default-2-clause-leads : goal.returns-in_default-2-clause-leads
returns-in_default-2-clause-leads g c =
    let l1 = c.in_ok-first.ensures.leads in
    g.met.S.Ground.onward _ _ _ _ _ _ _ l1 c.in_ok-second.ensures.leads

pub returns-in_default-2-clause-same : goal.returns-in_default-2-clause-same
returns-in_default-2-clause-same g c = λ k.
    let l1 = c.in_ok-first.ensures.leads in
    let e1 = c.in_ok-first.ensures.same k in
    c.in_ok-second.ensures.same (g.met.S.Ground.known _ _ _ _ l1 k) ∙ e1

pub returns-in_default-2-clause-values : goal.returns-in_default-2-clause-values
returns-in_default-2-clause-values g c =
    λ k test w. tt

pub returns-in_default-3-clause-leads : goal.returns-in_default-3-clause-leads
returns-in_default-3-clause-leads g c =
    let l1 = c.in_ok-first.ensures.leads in
    let l2 = g.met.S.Ground.onward _ _ _ _ _ _ _ l1 c.in_ok-second.ensures.leads in
    g.met.S.Ground.onward _ _ _ _ _ _ _ l2 c.in_ok-third.ensures.leads

pub returns-in_default-3-clause-same : goal.returns-in_default-3-clause-same
returns-in_default-3-clause-same g c = λ k.
    let l1 = c.in_ok-first.ensures.leads in
    let l2 = g.met.S.Ground.onward _ _ _ _ _ _ _ l1 c.in_ok-second.ensures.leads in
    let e1 = c.in_ok-first.ensures.same k in
    let e2 = c.in_ok-second.ensures.same (g.met.S.Ground.known _ _ _ _ l1 k) ∙ e1 in
    c.in_ok-third.ensures.same (g.met.S.Ground.known _ _ _ _ l2 k) ∙ e2

pub returns-in_default-3-clause-values : goal.returns-in_default-3-clause-values
returns-in_default-3-clause-values g c =
    λ k test w. tt

pub returns-in_default-4-clause-leads : goal.returns-in_default-4-clause-leads
returns-in_default-4-clause-leads g c =
    let l1 = c.in_ok-first.ensures.leads in
    let l2 = g.met.S.Ground.onward _ _ _ _ _ _ _ l1 c.in_ok-second.ensures.leads in
    let l3 = g.met.S.Ground.onward _ _ _ _ _ _ _ l2 c.in_ok-third.ensures.leads in
    g.met.S.Ground.onward _ _ _ _ _ _ _ l3 c.in_ok-fourth.ensures.leads

pub returns-in_default-4-clause-same : goal.returns-in_default-4-clause-same
returns-in_default-4-clause-same g c = λ k.
    let l1 = c.in_ok-first.ensures.leads in
    let l2 = g.met.S.Ground.onward _ _ _ _ _ _ _ l1 c.in_ok-second.ensures.leads in
    let l3 = g.met.S.Ground.onward _ _ _ _ _ _ _ l2 c.in_ok-third.ensures.leads in
    let e1 = c.in_ok-first.ensures.same k in
    let e2 = c.in_ok-second.ensures.same (g.met.S.Ground.known _ _ _ _ l1 k) ∙ e1 in
    let e3 = c.in_ok-third.ensures.same (g.met.S.Ground.known _ _ _ _ l2 k) ∙ e2 in
    c.in_ok-fourth.ensures.same (g.met.S.Ground.known _ _ _ _ l3 k) ∙ e3

pub returns-in_default-4-clause-values : goal.returns-in_default-4-clause-values
returns-in_default-4-clause-values g c =
    λ k test w. tt

pub returns-clause-leads : goal.returns-clause-leads
returns-clause-leads g c =
    let l1 = c.in_ok-first.ensures.leads in
    let l2 = g.met.S.Ground.onward _ _ _ _ _ _ _ l1 c.in_ok-second.ensures.leads in
    let l3 = g.met.S.Ground.onward _ _ _ _ _ _ _ l2 c.in_ok-third.ensures.leads in
    g.met.S.Ground.onward _ _ _ _ _ _ _ l3 c.in_ok-fourth.ensures.leads

pub returns-clause-same : goal.returns-clause-same
returns-clause-same g c = λ k.
    let l1 = c.in_ok-first.ensures.leads in
    let l2 = g.met.S.Ground.onward _ _ _ _ _ _ _ l1 c.in_ok-second.ensures.leads in
    let l3 = g.met.S.Ground.onward _ _ _ _ _ _ _ l2 c.in_ok-third.ensures.leads in
    let e1 = c.in_ok-first.ensures.same k in
    let e2 = c.in_ok-second.ensures.same (g.met.S.Ground.known _ _ _ _ l1 k) ∙ e1 in
    let e3 = c.in_ok-third.ensures.same (g.met.S.Ground.known _ _ _ _ l2 k) ∙ e2 in
    c.in_ok-fourth.ensures.same (g.met.S.Ground.known _ _ _ _ l3 k) ∙ e3
