-- What the shape does not meet stays; a leaf takes the id; the children of an inner place grow one after another.
use Rattle.std.proofs.Common.{None, ◌<◌, ℕ, List, ap, sym, ◌∙◌, subst, arith}
use Rattle.sand_base.specs.declared.TheConstants.{COORDINATE_BITS}
use Rattle.pmr_tree.specs.Keys.{own}
use Rattle.pmr_tree.specs.Leaves.{firsts, Passes, ListPasses, id_test}
use Rattle.pmr_tree.specs.Changes.{KeysStand, Becomes, grown_where}
use Rattle.pmr_tree.proofs.Entries.{none_found, some_found, if_found, leaf_later}
use Rattle.pmr_tree.proofs.Refusals.{passed_on}
use Rattle.pmr_tree.proofs.Steps.{stands_above}
use Rattle.pmr_tree.proofs.LeafSteps.{becomes_unmet}
use Rattle.pmr_tree.proofs.GrowSteps.{becomes_from, grow_steps, told_later, stands_first, stands_second, stands_third, stands_fourth, first_block, second_block, third_block, fourth_block}
use Rattle.pmr_tree.proofs.grow.+grow.Goals as goal

-- accepted calls lead on to the refused one, and its refusal is passed on
pub returns-in_err-does_meet-clause-leads : goal.returns-in_err-does_meet-clause-leads
returns-in_err-does_meet-clause-leads g t c =
    passed_on _ _ (g.S.Ground.Leads c.args.ground.now c.args.pages.now c.args.ground.now c.does_meet.new.pages) c.from_residual.ensures c.in_err-does_meet.ensures.leads

pub returns-then-not-branch-clause-leads : goal.returns-then-not-branch-clause-leads
returns-then-not-branch-clause-leads g t c = c.in_ok-does_meet.ensures.leads

pub returns-then-not-branch-clause-values : goal.returns-then-not-branch-clause-values
returns-then-not-branch-clause-values g t c = λ k test one w. subst (Passes test) (sym (c.in_ok-does_meet.ensures.same k)) w

-- accepted calls leave the pages ready for the next one
pub leaf_of-requires-clause-ready : goal.leaf_of-requires-clause-ready
leaf_of-requires-clause-ready g t c = g.met.S.Ground.ready _ _ _ _ c.in_ok-does_meet.ensures.leads c.requires.ready

pub leaf_of-requires-clause-stands : goal.leaf_of-requires-clause-stands
leaf_of-requires-clause-stands g t c = λ known.
    let k = g.met.S.Ground.knew c.args.ground.now c.args.pages.now c.args.ground.now c.does_meet.new.pages c.in_ok-does_meet.ensures.leads known in
    subst (KeysStand c.args.block) (sym (ap firsts (c.in_ok-does_meet.ensures.same k))) (c.requires.stands k)

pub returns-in_err-list-clause-leads : goal.returns-in_err-list-clause-leads
returns-in_err-list-clause-leads g t c =
    let l0 = c.in_ok-does_meet.ensures.leads in
    passed_on _ _ (g.S.Ground.Leads c.args.ground.now c.args.pages.now c.args.ground.now c.leaf_of.new.pages) c.from_residual-in_err-list.ensures
    (g.met.S.Ground.onward _ _ _ _ _ _ _ l0 c.in_err-list.ensures.leads)

pub grow_leaf-requires-clause-ready : goal.grow_leaf-requires-clause-ready
grow_leaf-requires-clause-ready g t c =
    let l0 = c.in_ok-does_meet.ensures.leads in
    let l1 = g.met.S.Ground.onward c.args.ground.now c.args.pages.now c.args.ground.now c.does_meet.new.pages c.args.ground.now c.leaf_of.new.pages None l0 c.in_ok-list.ensures.leads in
    g.met.S.Ground.ready c.args.ground.now c.args.pages.now c.args.ground.now c.leaf_of.new.pages l1 c.requires.ready

pub grow_leaf-requires-clause-stands : goal.grow_leaf-requires-clause-stands
grow_leaf-requires-clause-stands g t c = λ known.
    let l0 = c.in_ok-does_meet.ensures.leads in
    let l1 = g.met.S.Ground.onward c.args.ground.now c.args.pages.now c.args.ground.now c.does_meet.new.pages c.args.ground.now c.leaf_of.new.pages None l0 c.in_ok-list.ensures.leads in
    let k = g.met.S.Ground.knew c.args.ground.now c.args.pages.now c.args.ground.now c.leaf_of.new.pages l1 known in
    let same = c.in_ok-list.ensures.same (g.met.S.Ground.known c.args.ground.now c.args.pages.now c.args.ground.now c.does_meet.new.pages l0 k) ∙ c.in_ok-does_meet.ensures.same k in
    subst (KeysStand c.args.block) (sym (ap firsts same)) (c.requires.stands k)

pub grow_leaf-requires-clause-leaf : goal.grow_leaf-requires-clause-leaf
grow_leaf-requires-clause-leaf g t c = λ known.
    let l0 = c.in_ok-does_meet.ensures.leads in
    let l1 = g.met.S.Ground.onward c.args.ground.now c.args.pages.now c.args.ground.now c.does_meet.new.pages c.args.ground.now c.leaf_of.new.pages None l0 c.in_ok-list.ensures.leads in
    let k0 = g.met.S.Ground.known c.args.ground.now c.args.pages.now c.args.ground.now c.does_meet.new.pages l0
    (g.met.S.Ground.knew c.args.ground.now c.args.pages.now c.args.ground.now c.leaf_of.new.pages l1 known) in
    leaf_later c.args.block 1 _ _ _ _ (ap firsts (c.in_ok-list.ensures.same k0)) c.deref.ensures.value (some_found _ _ _ _ c.in-Some.is (c.in_ok-list.ensures.found k0))

pub returns-in_err-grow_leaf-clause-leads : goal.returns-in_err-grow_leaf-clause-leads
returns-in_err-grow_leaf-clause-leads g t c =
    let l0 = c.in_ok-does_meet.ensures.leads in
    let l1 = g.met.S.Ground.onward c.args.ground.now c.args.pages.now c.args.ground.now c.does_meet.new.pages c.args.ground.now c.leaf_of.new.pages None l0 c.in_ok-list.ensures.leads in
    passed_on _ _ (g.S.Ground.Leads c.args.ground.now c.args.pages.now c.grow_leaf.new.ground c.grow_leaf.new.pages) c.from_residual-in_err-grow_leaf.ensures
    (g.met.S.Ground.onward _ _ _ _ _ _ _ l1 c.in_err-grow_leaf.ensures.leads)

pub returns-in-Some-clause-leads : goal.returns-in-Some-clause-leads
returns-in-Some-clause-leads g t c =
    let l0 = c.in_ok-does_meet.ensures.leads in
    let l1 = g.met.S.Ground.onward c.args.ground.now c.args.pages.now c.args.ground.now c.does_meet.new.pages c.args.ground.now c.leaf_of.new.pages None l0 c.in_ok-list.ensures.leads in
    g.met.S.Ground.onward _ _ _ _ _ _ _ l1 c.in_ok-grow_leaf.ensures.leads

pub returns-then-from-ge-COORDINATE_BITS-clause-leads : goal.returns-then-from-ge-COORDINATE_BITS-clause-leads
returns-then-from-ge-COORDINATE_BITS-clause-leads g t c =
    let l0 = c.in_ok-does_meet.ensures.leads in
    g.met.S.Ground.onward _ _ _ _ _ _ _ l0 c.in_ok-list.ensures.leads

pub returns-then-from-ge-COORDINATE_BITS-clause-values : goal.returns-then-from-ge-COORDINATE_BITS-clause-values
returns-then-from-ge-COORDINATE_BITS-clause-values g t c = λ k test one w.
    let l0 = c.in_ok-does_meet.ensures.leads in
    let same = c.in_ok-list.ensures.same (g.met.S.Ground.known c.args.ground.now c.args.pages.now c.args.ground.now c.does_meet.new.pages l0 k) ∙ c.in_ok-does_meet.ensures.same k in
    subst (Passes test) (sym same) w

pub returns-then-not-branch-clause-keys : goal.returns-then-not-branch-clause-keys
returns-then-not-branch-clause-keys g t c = λ k m has tells all one.
    let B : List ℕ → Type 0 = λ x. Becomes c.args.block (grown_where m c.args.threshold c.args.newcomer.id c.args.block) (firsts (g.S.Ground.pairs c.args.ground.now c.args.pages.now)) x in
    subst B (sym (ap firsts (c.in_ok-does_meet.ensures.same k)))
    (becomes_unmet m c.args.threshold c.args.newcomer.id c.args.block _ (c.requires.stands k) (sym (c.in_ok-does_meet.ensures.value k m has tells one) ∙ c.if-not-branch.true))

pub grow_leaf-requires-clause-told : goal.grow_leaf-requires-clause-told
grow_leaf-requires-clause-told g t c = λ known test w.
    let l0 = c.in_ok-does_meet.ensures.leads in
    let l1 = g.met.S.Ground.onward c.args.ground.now c.args.pages.now c.args.ground.now c.does_meet.new.pages c.args.ground.now c.leaf_of.new.pages None l0 c.in_ok-list.ensures.leads in
    let k = g.met.S.Ground.knew c.args.ground.now c.args.pages.now c.args.ground.now c.leaf_of.new.pages l1 known in
    let mid = g.met.S.Ground.known c.args.ground.now c.args.pages.now c.args.ground.now c.does_meet.new.pages l0 k in
    subst (ListPasses test) (sym c.deref.ensures.value)
    (if_found _ _ _ c.in-Some.is (c.in_ok-list.ensures.values mid test (subst (Passes test) (c.in_ok-list.ensures.same mid) w)))

pub returns-in-Some-clause-keys : goal.returns-in-Some-clause-keys
returns-in-Some-clause-keys g t c = λ k m has tells all one.
    let l0 = c.in_ok-does_meet.ensures.leads in
    let l1 = g.met.S.Ground.onward c.args.ground.now c.args.pages.now c.args.ground.now c.does_meet.new.pages c.args.ground.now c.leaf_of.new.pages None l0 c.in_ok-list.ensures.leads in
    let same = c.in_ok-list.ensures.same (g.met.S.Ground.known c.args.ground.now c.args.pages.now c.args.ground.now c.does_meet.new.pages l0 k) ∙ c.in_ok-does_meet.ensures.same k in
    becomes_from c.args.block _ _ _ _ (ap firsts same)
    (c.in_ok-grow_leaf.ensures.keys (g.met.S.Ground.known c.args.ground.now c.args.pages.now c.args.ground.now c.leaf_of.new.pages l1 k) m has
    (g.met.S.Ground.steady c.args.ground.now c.args.pages.now c.args.ground.now c.leaf_of.new.pages l1 c.requires.ready k m has tells)
    (subst (Passes (id_test has)) (sym same) all) one (sym (c.in_ok-does_meet.ensures.value k m has tells one) ∙ c.if-not-branch.false))

pub returns-in-Some-clause-values : goal.returns-in-Some-clause-values
returns-in-Some-clause-values g t c = λ k test one w.
    let l0 = c.in_ok-does_meet.ensures.leads in
    let l1 = g.met.S.Ground.onward c.args.ground.now c.args.pages.now c.args.ground.now c.does_meet.new.pages c.args.ground.now c.leaf_of.new.pages None l0 c.in_ok-list.ensures.leads in
    let same = c.in_ok-list.ensures.same (g.met.S.Ground.known c.args.ground.now c.args.pages.now c.args.ground.now c.does_meet.new.pages l0 k) ∙ c.in_ok-does_meet.ensures.same k in
    c.in_ok-grow_leaf.ensures.values (g.met.S.Ground.known c.args.ground.now c.args.pages.now c.args.ground.now c.leaf_of.new.pages l1 k) test one (subst (Passes test) (sym same) w)

pub returns-then-from-ge-COORDINATE_BITS-clause-keys : goal.returns-then-from-ge-COORDINATE_BITS-clause-keys
returns-then-from-ge-COORDINATE_BITS-clause-keys g t c = λ k m has tells all one.
    let l0 = c.in_ok-does_meet.ensures.leads in
    let none = none_found _ _ _ c.in_default.is (c.in_ok-list.ensures.found (g.met.S.Ground.known c.args.ground.now c.args.pages.now c.args.ground.now c.does_meet.new.pages l0 k)) in
    let stands = subst (KeysStand c.args.block) (sym (ap firsts (c.in_ok-does_meet.ensures.same k))) (c.requires.stands k) in
    let up = stands_above c.args.block _ stands none in
    absurd (omega (arith, up))

pub grow-requires : goal.grow-requires
grow-requires g t c κs live =
    let l0 = c.in_ok-does_meet.ensures.leads in
    let l1 = g.met.S.Ground.onward c.args.ground.now c.args.pages.now c.args.ground.now c.does_meet.new.pages c.args.ground.now c.leaf_of.new.pages None l0 c.in_ok-list.ensures.leads in
    let up = subst (λ n. n < COORDINATE_BITS) c.from.ensures c.if-from-ge-COORDINATE_BITS.false in
    let kid = first_block c.args.block _ _ c.children.ensures.value c.requires.block up in
    let level = kid.1 in (
      omega (arith, up, level),
      (
        live.0,
        (
          live.1,
          (
            g.met.S.Ground.ready c.args.ground.now c.args.pages.now c.args.ground.now c.leaf_of.new.pages l1 c.requires.ready,
            (
              kid.0,
              (
                c.requires.id,
                (
                  λ known.
                      let k = g.met.S.Ground.knew c.args.ground.now c.args.pages.now c.args.ground.now c.leaf_of.new.pages l1 known in
                      let same = c.in_ok-list.ensures.same (g.met.S.Ground.known c.args.ground.now c.args.pages.now c.args.ground.now c.does_meet.new.pages l0 k) ∙ c.in_ok-does_meet.ensures.same k in
                      let none = ap (own c.args.block) (ap firsts (c.in_ok-list.ensures.same (g.met.S.Ground.known c.args.ground.now c.args.pages.now c.args.ground.now c.does_meet.new.pages l0 k)))
                      ∙ none_found _ _ _ c.in_default.is (c.in_ok-list.ensures.found (g.met.S.Ground.known c.args.ground.now c.args.pages.now c.args.ground.now c.does_meet.new.pages l0 k)) in
                      let stands = subst (KeysStand c.args.block) (sym (ap firsts same)) (c.requires.stands k) in
                      stands_first c.args.block _ _ _ c.children.ensures.value stands none,
                  λ known.
                      let k = g.met.S.Ground.knew c.args.ground.now c.args.pages.now c.args.ground.now c.leaf_of.new.pages l1 known in
                      let same = c.in_ok-list.ensures.same (g.met.S.Ground.known c.args.ground.now c.args.pages.now c.args.ground.now c.does_meet.new.pages l0 k) ∙ c.in_ok-does_meet.ensures.same k in
                      told_later _ _ _ _ c.args.newcomer.id (g.met.S.Ground.steady c.args.ground.now c.args.pages.now c.args.ground.now c.leaf_of.new.pages l1 c.requires.ready k)
                      (λ has one w.
                      let w0 = subst (Passes (id_test has)) (sym same) w in
                      w0)
                      (c.requires.shapes k),
                ),
              ),
            ),
          ),
        ),
      ),
    )

pub grow-requires-2 : goal.grow-requires-2
grow-requires-2 g t c κs live =
    let l0 = c.in_ok-does_meet.ensures.leads in
    let l1 = g.met.S.Ground.onward c.args.ground.now c.args.pages.now c.args.ground.now c.does_meet.new.pages c.args.ground.now c.leaf_of.new.pages None l0 c.in_ok-list.ensures.leads in
    let l2 = g.met.S.Ground.onward c.args.ground.now c.args.pages.now c.args.ground.now c.leaf_of.new.pages c.grow.new.ground c.grow.new.pages None l1 c.in_ok-grow.ensures.leads in
    let up = subst (λ n. n < COORDINATE_BITS) c.from.ensures c.if-from-ge-COORDINATE_BITS.false in
    let kid = second_block c.args.block _ _ c.children.ensures.value c.requires.block up in
    let level = kid.1 in (
      omega (arith, up, level),
      (
        live.0,
        (
          live.1,
          (
            g.met.S.Ground.ready c.args.ground.now c.args.pages.now c.grow.new.ground c.grow.new.pages l2 c.requires.ready,
            (
              kid.0,
              (
                c.requires.id,
                (
                  λ known.
                      let k = g.met.S.Ground.knew c.args.ground.now c.args.pages.now c.grow.new.ground c.grow.new.pages l2 known in
                      let same = c.in_ok-list.ensures.same (g.met.S.Ground.known c.args.ground.now c.args.pages.now c.args.ground.now c.does_meet.new.pages l0 k) ∙ c.in_ok-does_meet.ensures.same k in
                      let none = ap (own c.args.block) (ap firsts (c.in_ok-list.ensures.same (g.met.S.Ground.known c.args.ground.now c.args.pages.now c.args.ground.now c.does_meet.new.pages l0 k)))
                      ∙ none_found _ _ _ c.in_default.is (c.in_ok-list.ensures.found (g.met.S.Ground.known c.args.ground.now c.args.pages.now c.args.ground.now c.does_meet.new.pages l0 k)) in
                      let stands = subst (KeysStand c.args.block) (sym (ap firsts same)) (c.requires.stands k) in
                      let told = c.requires.shapes k in
                      let w0 = subst (Passes (id_test told.has)) (sym same) told.listed in
                      let w1 = c.in_ok-grow.ensures.values (g.met.S.Ground.known c.args.ground.now c.args.pages.now c.args.ground.now c.leaf_of.new.pages l1 k) (id_test told.has) told.one w0 in
                      let g0 = c.in_ok-grow.ensures.keys (g.met.S.Ground.known c.args.ground.now c.args.pages.now c.args.ground.now c.leaf_of.new.pages l1 k) told.meets told.has
                      (g.met.S.Ground.steady c.args.ground.now c.args.pages.now c.args.ground.now c.leaf_of.new.pages l1 c.requires.ready k told.meets told.has told.told) w0 told.one in
                      stands_second c.args.block _ _ _ (λ x. grown_where told.meets c.args.threshold c.args.newcomer.id x) _ _ c.children.ensures.value stands none g0,
                  λ known.
                      let k = g.met.S.Ground.knew c.args.ground.now c.args.pages.now c.grow.new.ground c.grow.new.pages l2 known in
                      let same = c.in_ok-list.ensures.same (g.met.S.Ground.known c.args.ground.now c.args.pages.now c.args.ground.now c.does_meet.new.pages l0 k) ∙ c.in_ok-does_meet.ensures.same k in
                      told_later _ _ _ _ c.args.newcomer.id (g.met.S.Ground.steady c.args.ground.now c.args.pages.now c.grow.new.ground c.grow.new.pages l2 c.requires.ready k)
                      (λ has one w.
                      let w0 = subst (Passes (id_test has)) (sym same) w in
                      let w1 = c.in_ok-grow.ensures.values (g.met.S.Ground.known c.args.ground.now c.args.pages.now c.args.ground.now c.leaf_of.new.pages l1 k) (id_test has) one w0 in
                      w1)
                      (c.requires.shapes k),
                ),
              ),
            ),
          ),
        ),
      ),
    )

pub grow-requires-3 : goal.grow-requires-3
grow-requires-3 g t c κs live =
    let l0 = c.in_ok-does_meet.ensures.leads in
    let l1 = g.met.S.Ground.onward c.args.ground.now c.args.pages.now c.args.ground.now c.does_meet.new.pages c.args.ground.now c.leaf_of.new.pages None l0 c.in_ok-list.ensures.leads in
    let l2 = g.met.S.Ground.onward c.args.ground.now c.args.pages.now c.args.ground.now c.leaf_of.new.pages c.grow.new.ground c.grow.new.pages None l1 c.in_ok-grow.ensures.leads in
    let l3 = g.met.S.Ground.onward c.args.ground.now c.args.pages.now c.grow.new.ground c.grow.new.pages c.grow-2.new.ground c.grow-2.new.pages None l2 c.in_ok-grow-2.ensures.leads in
    let up = subst (λ n. n < COORDINATE_BITS) c.from.ensures c.if-from-ge-COORDINATE_BITS.false in
    let kid = third_block c.args.block _ _ c.children.ensures.value c.requires.block up in
    let level = kid.1 in (
      omega (arith, up, level),
      (
        live.0,
        (
          live.1,
          (
            g.met.S.Ground.ready c.args.ground.now c.args.pages.now c.grow-2.new.ground c.grow-2.new.pages l3 c.requires.ready,
            (
              kid.0,
              (
                c.requires.id,
                (
                  λ known.
                      let k = g.met.S.Ground.knew c.args.ground.now c.args.pages.now c.grow-2.new.ground c.grow-2.new.pages l3 known in
                      let same = c.in_ok-list.ensures.same (g.met.S.Ground.known c.args.ground.now c.args.pages.now c.args.ground.now c.does_meet.new.pages l0 k) ∙ c.in_ok-does_meet.ensures.same k in
                      let none = ap (own c.args.block) (ap firsts (c.in_ok-list.ensures.same (g.met.S.Ground.known c.args.ground.now c.args.pages.now c.args.ground.now c.does_meet.new.pages l0 k)))
                      ∙ none_found _ _ _ c.in_default.is (c.in_ok-list.ensures.found (g.met.S.Ground.known c.args.ground.now c.args.pages.now c.args.ground.now c.does_meet.new.pages l0 k)) in
                      let stands = subst (KeysStand c.args.block) (sym (ap firsts same)) (c.requires.stands k) in
                      let told = c.requires.shapes k in
                      let w0 = subst (Passes (id_test told.has)) (sym same) told.listed in
                      let w1 = c.in_ok-grow.ensures.values (g.met.S.Ground.known c.args.ground.now c.args.pages.now c.args.ground.now c.leaf_of.new.pages l1 k) (id_test told.has) told.one w0 in
                      let w2 = c.in_ok-grow-2.ensures.values (g.met.S.Ground.known c.args.ground.now c.args.pages.now c.grow.new.ground c.grow.new.pages l2 k) (id_test told.has) told.one w1 in
                      let g0 = c.in_ok-grow.ensures.keys (g.met.S.Ground.known c.args.ground.now c.args.pages.now c.args.ground.now c.leaf_of.new.pages l1 k) told.meets told.has
                      (g.met.S.Ground.steady c.args.ground.now c.args.pages.now c.args.ground.now c.leaf_of.new.pages l1 c.requires.ready k told.meets told.has told.told) w0 told.one in
                      let g1 = c.in_ok-grow-2.ensures.keys (g.met.S.Ground.known c.args.ground.now c.args.pages.now c.grow.new.ground c.grow.new.pages l2 k) told.meets told.has
                      (g.met.S.Ground.steady c.args.ground.now c.args.pages.now c.grow.new.ground c.grow.new.pages l2 c.requires.ready k told.meets told.has told.told) w1 told.one in
                      stands_third c.args.block _ _ _ _ (λ x. grown_where told.meets c.args.threshold c.args.newcomer.id x)
                      (λ x. grown_where told.meets c.args.threshold c.args.newcomer.id x) _ _ _ c.children.ensures.value stands none g0 g1,
                  λ known.
                      let k = g.met.S.Ground.knew c.args.ground.now c.args.pages.now c.grow-2.new.ground c.grow-2.new.pages l3 known in
                      let same = c.in_ok-list.ensures.same (g.met.S.Ground.known c.args.ground.now c.args.pages.now c.args.ground.now c.does_meet.new.pages l0 k) ∙ c.in_ok-does_meet.ensures.same k in
                      told_later _ _ _ _ c.args.newcomer.id (g.met.S.Ground.steady c.args.ground.now c.args.pages.now c.grow-2.new.ground c.grow-2.new.pages l3 c.requires.ready k)
                      (λ has one w.
                      let w0 = subst (Passes (id_test has)) (sym same) w in
                      let w1 = c.in_ok-grow.ensures.values (g.met.S.Ground.known c.args.ground.now c.args.pages.now c.args.ground.now c.leaf_of.new.pages l1 k) (id_test has) one w0 in
                      let w2 = c.in_ok-grow-2.ensures.values (g.met.S.Ground.known c.args.ground.now c.args.pages.now c.grow.new.ground c.grow.new.pages l2 k) (id_test has) one w1 in
                      w2)
                      (c.requires.shapes k),
                ),
              ),
            ),
          ),
        ),
      ),
    )

pub grow-requires-4 : goal.grow-requires-4
grow-requires-4 g t c κs live =
    let l0 = c.in_ok-does_meet.ensures.leads in
    let l1 = g.met.S.Ground.onward c.args.ground.now c.args.pages.now c.args.ground.now c.does_meet.new.pages c.args.ground.now c.leaf_of.new.pages None l0 c.in_ok-list.ensures.leads in
    let l2 = g.met.S.Ground.onward c.args.ground.now c.args.pages.now c.args.ground.now c.leaf_of.new.pages c.grow.new.ground c.grow.new.pages None l1 c.in_ok-grow.ensures.leads in
    let l3 = g.met.S.Ground.onward c.args.ground.now c.args.pages.now c.grow.new.ground c.grow.new.pages c.grow-2.new.ground c.grow-2.new.pages None l2 c.in_ok-grow-2.ensures.leads in
    let l4 = g.met.S.Ground.onward c.args.ground.now c.args.pages.now c.grow-2.new.ground c.grow-2.new.pages c.grow-3.new.ground c.grow-3.new.pages None l3 c.in_ok-grow-3.ensures.leads in
    let up = subst (λ n. n < COORDINATE_BITS) c.from.ensures c.if-from-ge-COORDINATE_BITS.false in
    let kid = fourth_block c.args.block _ _ c.children.ensures.value c.requires.block up in
    let level = kid.1 in (
      omega (arith, up, level),
      (
        live.0,
        (
          live.1,
          (
            g.met.S.Ground.ready c.args.ground.now c.args.pages.now c.grow-3.new.ground c.grow-3.new.pages l4 c.requires.ready,
            (
              kid.0,
              (
                c.requires.id,
                (
                  λ known.
                      let k = g.met.S.Ground.knew c.args.ground.now c.args.pages.now c.grow-3.new.ground c.grow-3.new.pages l4 known in
                      let same = c.in_ok-list.ensures.same (g.met.S.Ground.known c.args.ground.now c.args.pages.now c.args.ground.now c.does_meet.new.pages l0 k) ∙ c.in_ok-does_meet.ensures.same k in
                      let none = ap (own c.args.block) (ap firsts (c.in_ok-list.ensures.same (g.met.S.Ground.known c.args.ground.now c.args.pages.now c.args.ground.now c.does_meet.new.pages l0 k)))
                      ∙ none_found _ _ _ c.in_default.is (c.in_ok-list.ensures.found (g.met.S.Ground.known c.args.ground.now c.args.pages.now c.args.ground.now c.does_meet.new.pages l0 k)) in
                      let stands = subst (KeysStand c.args.block) (sym (ap firsts same)) (c.requires.stands k) in
                      let told = c.requires.shapes k in
                      let w0 = subst (Passes (id_test told.has)) (sym same) told.listed in
                      let w1 = c.in_ok-grow.ensures.values (g.met.S.Ground.known c.args.ground.now c.args.pages.now c.args.ground.now c.leaf_of.new.pages l1 k) (id_test told.has) told.one w0 in
                      let w2 = c.in_ok-grow-2.ensures.values (g.met.S.Ground.known c.args.ground.now c.args.pages.now c.grow.new.ground c.grow.new.pages l2 k) (id_test told.has) told.one w1 in
                      let w3 = c.in_ok-grow-3.ensures.values (g.met.S.Ground.known c.args.ground.now c.args.pages.now c.grow-2.new.ground c.grow-2.new.pages l3 k) (id_test told.has) told.one w2 in
                      let g0 = c.in_ok-grow.ensures.keys (g.met.S.Ground.known c.args.ground.now c.args.pages.now c.args.ground.now c.leaf_of.new.pages l1 k) told.meets told.has
                      (g.met.S.Ground.steady c.args.ground.now c.args.pages.now c.args.ground.now c.leaf_of.new.pages l1 c.requires.ready k told.meets told.has told.told) w0 told.one in
                      let g1 = c.in_ok-grow-2.ensures.keys (g.met.S.Ground.known c.args.ground.now c.args.pages.now c.grow.new.ground c.grow.new.pages l2 k) told.meets told.has
                      (g.met.S.Ground.steady c.args.ground.now c.args.pages.now c.grow.new.ground c.grow.new.pages l2 c.requires.ready k told.meets told.has told.told) w1 told.one in
                      let g2 = c.in_ok-grow-3.ensures.keys (g.met.S.Ground.known c.args.ground.now c.args.pages.now c.grow-2.new.ground c.grow-2.new.pages l3 k) told.meets told.has
                      (g.met.S.Ground.steady c.args.ground.now c.args.pages.now c.grow-2.new.ground c.grow-2.new.pages l3 c.requires.ready k told.meets told.has told.told) w2 told.one in
                      stands_fourth c.args.block _ _ _ _ _ (λ x. grown_where told.meets c.args.threshold c.args.newcomer.id x)
                      (λ x. grown_where told.meets c.args.threshold c.args.newcomer.id x)
                      (λ x. grown_where told.meets c.args.threshold c.args.newcomer.id x) _ _ _ _ c.children.ensures.value stands none g0 g1 g2,
                  λ known.
                      let k = g.met.S.Ground.knew c.args.ground.now c.args.pages.now c.grow-3.new.ground c.grow-3.new.pages l4 known in
                      let same = c.in_ok-list.ensures.same (g.met.S.Ground.known c.args.ground.now c.args.pages.now c.args.ground.now c.does_meet.new.pages l0 k) ∙ c.in_ok-does_meet.ensures.same k in
                      told_later _ _ _ _ c.args.newcomer.id (g.met.S.Ground.steady c.args.ground.now c.args.pages.now c.grow-3.new.ground c.grow-3.new.pages l4 c.requires.ready k)
                      (λ has one w.
                      let w0 = subst (Passes (id_test has)) (sym same) w in
                      let w1 = c.in_ok-grow.ensures.values (g.met.S.Ground.known c.args.ground.now c.args.pages.now c.args.ground.now c.leaf_of.new.pages l1 k) (id_test has) one w0 in
                      let w2 = c.in_ok-grow-2.ensures.values (g.met.S.Ground.known c.args.ground.now c.args.pages.now c.grow.new.ground c.grow.new.pages l2 k) (id_test has) one w1 in
                      let w3 = c.in_ok-grow-3.ensures.values (g.met.S.Ground.known c.args.ground.now c.args.pages.now c.grow-2.new.ground c.grow-2.new.pages l3 k) (id_test has) one w2 in
                      w3)
                      (c.requires.shapes k),
                ),
              ),
            ),
          ),
        ),
      ),
    )

pub returns-in_err-grow-clause-leads : goal.returns-in_err-grow-clause-leads
returns-in_err-grow-clause-leads g t c =
    let l0 = c.in_ok-does_meet.ensures.leads in
    let l1 = g.met.S.Ground.onward c.args.ground.now c.args.pages.now c.args.ground.now c.does_meet.new.pages c.args.ground.now c.leaf_of.new.pages None l0 c.in_ok-list.ensures.leads in
    passed_on _ _ (g.S.Ground.Leads c.args.ground.now c.args.pages.now c.grow.new.ground c.grow.new.pages) c.from_residual-in_err-grow.ensures
    (g.met.S.Ground.onward _ _ _ _ _ _ _ l1 c.in_err-grow.ensures.leads)

pub returns-in_err-grow-2-clause-leads : goal.returns-in_err-grow-2-clause-leads
returns-in_err-grow-2-clause-leads g t c =
    let l0 = c.in_ok-does_meet.ensures.leads in
    let l1 = g.met.S.Ground.onward c.args.ground.now c.args.pages.now c.args.ground.now c.does_meet.new.pages c.args.ground.now c.leaf_of.new.pages None l0 c.in_ok-list.ensures.leads in
    let l2 = g.met.S.Ground.onward c.args.ground.now c.args.pages.now c.args.ground.now c.leaf_of.new.pages c.grow.new.ground c.grow.new.pages None l1 c.in_ok-grow.ensures.leads in
    passed_on _ _ (g.S.Ground.Leads c.args.ground.now c.args.pages.now c.grow-2.new.ground c.grow-2.new.pages) c.from_residual-in_err-grow-2.ensures
    (g.met.S.Ground.onward _ _ _ _ _ _ _ l2 c.in_err-grow-2.ensures.leads)

pub returns-in_err-grow-3-clause-leads : goal.returns-in_err-grow-3-clause-leads
returns-in_err-grow-3-clause-leads g t c =
    let l0 = c.in_ok-does_meet.ensures.leads in
    let l1 = g.met.S.Ground.onward c.args.ground.now c.args.pages.now c.args.ground.now c.does_meet.new.pages c.args.ground.now c.leaf_of.new.pages None l0 c.in_ok-list.ensures.leads in
    let l2 = g.met.S.Ground.onward c.args.ground.now c.args.pages.now c.args.ground.now c.leaf_of.new.pages c.grow.new.ground c.grow.new.pages None l1 c.in_ok-grow.ensures.leads in
    let l3 = g.met.S.Ground.onward c.args.ground.now c.args.pages.now c.grow.new.ground c.grow.new.pages c.grow-2.new.ground c.grow-2.new.pages None l2 c.in_ok-grow-2.ensures.leads in
    passed_on _ _ (g.S.Ground.Leads c.args.ground.now c.args.pages.now c.grow-3.new.ground c.grow-3.new.pages) c.from_residual-in_err-grow-3.ensures
    (g.met.S.Ground.onward _ _ _ _ _ _ _ l3 c.in_err-grow-3.ensures.leads)

pub returns-in_err-grow-4-clause-leads : goal.returns-in_err-grow-4-clause-leads
returns-in_err-grow-4-clause-leads g t c =
    let l0 = c.in_ok-does_meet.ensures.leads in
    let l1 = g.met.S.Ground.onward c.args.ground.now c.args.pages.now c.args.ground.now c.does_meet.new.pages c.args.ground.now c.leaf_of.new.pages None l0 c.in_ok-list.ensures.leads in
    let l2 = g.met.S.Ground.onward c.args.ground.now c.args.pages.now c.args.ground.now c.leaf_of.new.pages c.grow.new.ground c.grow.new.pages None l1 c.in_ok-grow.ensures.leads in
    let l3 = g.met.S.Ground.onward c.args.ground.now c.args.pages.now c.grow.new.ground c.grow.new.pages c.grow-2.new.ground c.grow-2.new.pages None l2 c.in_ok-grow-2.ensures.leads in
    let l4 = g.met.S.Ground.onward c.args.ground.now c.args.pages.now c.grow-2.new.ground c.grow-2.new.pages c.grow-3.new.ground c.grow-3.new.pages None l3 c.in_ok-grow-3.ensures.leads in
    passed_on _ _ (g.S.Ground.Leads c.args.ground.now c.args.pages.now c.grow-4.new.ground c.grow-4.new.pages) c.from_residual-in_err-grow-4.ensures
    (g.met.S.Ground.onward _ _ _ _ _ _ _ l4 c.in_err-grow-4.ensures.leads)

pub returns-clause-leads : goal.returns-clause-leads
returns-clause-leads g t c =
    let l0 = c.in_ok-does_meet.ensures.leads in
    let l1 = g.met.S.Ground.onward c.args.ground.now c.args.pages.now c.args.ground.now c.does_meet.new.pages c.args.ground.now c.leaf_of.new.pages None l0 c.in_ok-list.ensures.leads in
    let l2 = g.met.S.Ground.onward c.args.ground.now c.args.pages.now c.args.ground.now c.leaf_of.new.pages c.grow.new.ground c.grow.new.pages None l1 c.in_ok-grow.ensures.leads in
    let l3 = g.met.S.Ground.onward c.args.ground.now c.args.pages.now c.grow.new.ground c.grow.new.pages c.grow-2.new.ground c.grow-2.new.pages None l2 c.in_ok-grow-2.ensures.leads in
    let l4 = g.met.S.Ground.onward c.args.ground.now c.args.pages.now c.grow-2.new.ground c.grow-2.new.pages c.grow-3.new.ground c.grow-3.new.pages None l3 c.in_ok-grow-3.ensures.leads in
    g.met.S.Ground.onward _ _ _ _ _ _ _ l4 c.in_ok-grow-4.ensures.leads

pub returns-clause-keys : goal.returns-clause-keys
returns-clause-keys g t c = λ k m has tells all one.
    let l0 = c.in_ok-does_meet.ensures.leads in
    let l1 = g.met.S.Ground.onward c.args.ground.now c.args.pages.now c.args.ground.now c.does_meet.new.pages c.args.ground.now c.leaf_of.new.pages None l0 c.in_ok-list.ensures.leads in
    let l2 = g.met.S.Ground.onward c.args.ground.now c.args.pages.now c.args.ground.now c.leaf_of.new.pages c.grow.new.ground c.grow.new.pages None l1 c.in_ok-grow.ensures.leads in
    let l3 = g.met.S.Ground.onward c.args.ground.now c.args.pages.now c.grow.new.ground c.grow.new.pages c.grow-2.new.ground c.grow-2.new.pages None l2 c.in_ok-grow-2.ensures.leads in
    let l4 = g.met.S.Ground.onward c.args.ground.now c.args.pages.now c.grow-2.new.ground c.grow-2.new.pages c.grow-3.new.ground c.grow-3.new.pages None l3 c.in_ok-grow-3.ensures.leads in
    let l5 = g.met.S.Ground.onward c.args.ground.now c.args.pages.now c.grow-3.new.ground c.grow-3.new.pages c.grow-4.new.ground c.grow-4.new.pages None l4 c.in_ok-grow-4.ensures.leads in
    let same = c.in_ok-list.ensures.same (g.met.S.Ground.known c.args.ground.now c.args.pages.now c.args.ground.now c.does_meet.new.pages l0 k) ∙ c.in_ok-does_meet.ensures.same k in
    let none = ap (own c.args.block) (ap firsts (c.in_ok-list.ensures.same (g.met.S.Ground.known c.args.ground.now c.args.pages.now c.args.ground.now c.does_meet.new.pages l0 k)))
    ∙ none_found _ _ _ c.in_default.is (c.in_ok-list.ensures.found (g.met.S.Ground.known c.args.ground.now c.args.pages.now c.args.ground.now c.does_meet.new.pages l0 k)) in
    let stands = subst (KeysStand c.args.block) (sym (ap firsts same)) (c.requires.stands k) in
    let w0 = subst (Passes (id_test has)) (sym same) all in
    let w1 = c.in_ok-grow.ensures.values (g.met.S.Ground.known c.args.ground.now c.args.pages.now c.args.ground.now c.leaf_of.new.pages l1 k) (id_test has) one w0 in
    let w2 = c.in_ok-grow-2.ensures.values (g.met.S.Ground.known c.args.ground.now c.args.pages.now c.grow.new.ground c.grow.new.pages l2 k) (id_test has) one w1 in
    let w3 = c.in_ok-grow-3.ensures.values (g.met.S.Ground.known c.args.ground.now c.args.pages.now c.grow-2.new.ground c.grow-2.new.pages l3 k) (id_test has) one w2 in
    let w4 = c.in_ok-grow-4.ensures.values (g.met.S.Ground.known c.args.ground.now c.args.pages.now c.grow-3.new.ground c.grow-3.new.pages l4 k) (id_test has) one w3 in
    let g0 = c.in_ok-grow.ensures.keys (g.met.S.Ground.known c.args.ground.now c.args.pages.now c.args.ground.now c.leaf_of.new.pages l1 k) m has
    (g.met.S.Ground.steady c.args.ground.now c.args.pages.now c.args.ground.now c.leaf_of.new.pages l1 c.requires.ready k m has tells) w0 one in
    let g1 = c.in_ok-grow-2.ensures.keys (g.met.S.Ground.known c.args.ground.now c.args.pages.now c.grow.new.ground c.grow.new.pages l2 k) m has
    (g.met.S.Ground.steady c.args.ground.now c.args.pages.now c.grow.new.ground c.grow.new.pages l2 c.requires.ready k m has tells) w1 one in
    let g2 = c.in_ok-grow-3.ensures.keys (g.met.S.Ground.known c.args.ground.now c.args.pages.now c.grow-2.new.ground c.grow-2.new.pages l3 k) m has
    (g.met.S.Ground.steady c.args.ground.now c.args.pages.now c.grow-2.new.ground c.grow-2.new.pages l3 c.requires.ready k m has tells) w2 one in
    let g3 = c.in_ok-grow-4.ensures.keys (g.met.S.Ground.known c.args.ground.now c.args.pages.now c.grow-3.new.ground c.grow-3.new.pages l4 k) m has
    (g.met.S.Ground.steady c.args.ground.now c.args.pages.now c.grow-3.new.ground c.grow-3.new.pages l4 c.requires.ready k m has tells) w3 one in
    becomes_from c.args.block _ _ _ _ (ap firsts same)
    (grow_steps m c.args.threshold c.args.newcomer.id c.args.block _ _ _ _ _ _ _ _ _ _ stands none
    (sym (c.in_ok-does_meet.ensures.value k m has tells one) ∙ c.if-not-branch.false) c.children.ensures.value g0 g1 g2 g3)

pub returns-clause-values : goal.returns-clause-values
returns-clause-values g t c = λ k test one w.
    let l0 = c.in_ok-does_meet.ensures.leads in
    let l1 = g.met.S.Ground.onward c.args.ground.now c.args.pages.now c.args.ground.now c.does_meet.new.pages c.args.ground.now c.leaf_of.new.pages None l0 c.in_ok-list.ensures.leads in
    let l2 = g.met.S.Ground.onward c.args.ground.now c.args.pages.now c.args.ground.now c.leaf_of.new.pages c.grow.new.ground c.grow.new.pages None l1 c.in_ok-grow.ensures.leads in
    let l3 = g.met.S.Ground.onward c.args.ground.now c.args.pages.now c.grow.new.ground c.grow.new.pages c.grow-2.new.ground c.grow-2.new.pages None l2 c.in_ok-grow-2.ensures.leads in
    let l4 = g.met.S.Ground.onward c.args.ground.now c.args.pages.now c.grow-2.new.ground c.grow-2.new.pages c.grow-3.new.ground c.grow-3.new.pages None l3 c.in_ok-grow-3.ensures.leads in
    let l5 = g.met.S.Ground.onward c.args.ground.now c.args.pages.now c.grow-3.new.ground c.grow-3.new.pages c.grow-4.new.ground c.grow-4.new.pages None l4 c.in_ok-grow-4.ensures.leads in
    let same = c.in_ok-list.ensures.same (g.met.S.Ground.known c.args.ground.now c.args.pages.now c.args.ground.now c.does_meet.new.pages l0 k) ∙ c.in_ok-does_meet.ensures.same k in
    let w0 = subst (Passes test) (sym same) w in
    let w1 = c.in_ok-grow.ensures.values (g.met.S.Ground.known c.args.ground.now c.args.pages.now c.args.ground.now c.leaf_of.new.pages l1 k) test one w0 in
    let w2 = c.in_ok-grow-2.ensures.values (g.met.S.Ground.known c.args.ground.now c.args.pages.now c.grow.new.ground c.grow.new.pages l2 k) test one w1 in
    let w3 = c.in_ok-grow-3.ensures.values (g.met.S.Ground.known c.args.ground.now c.args.pages.now c.grow-2.new.ground c.grow-2.new.pages l3 k) test one w2 in
    let w4 = c.in_ok-grow-4.ensures.values (g.met.S.Ground.known c.args.ground.now c.args.pages.now c.grow-3.new.ground c.grow-3.new.pages l4 k) test one w3 in
    w4
