-- What the shape does not meet stays; a leaf loses the id; the children of an inner place shrink one after another, and then it may merge.
use Rattle.std.proofs.Common.{None, ◌<◌, ℕ, List, [], refl, ap, sym, ◌∙◌, subst, arith}
use Rattle.sand_base.specs.declared.TheConstants.{COORDINATE_BITS}
use Rattle.z_code.specs.Block.{child}
use Rattle.pmr_tree.specs.Keys.{own}
use Rattle.pmr_tree.specs.Leaves.{firsts, Passes}
use Rattle.pmr_tree.specs.Changes.{KeysStand, Becomes, shrunk_where, below_shrunk}
use Rattle.pmr_tree.proofs.Entries.{none_found, some_found, leaf_all, leaf_later}
use Rattle.pmr_tree.proofs.Refusals.{passed_on}
use Rattle.pmr_tree.proofs.Steps.{stands_above, stands_after}
use Rattle.pmr_tree.proofs.LeaveSteps.{shrunk_unmet, shrunk_leaf}
use Rattle.pmr_tree.proofs.MergeSteps.{shrink_steps, shrunk_inner, still_inner}
use Rattle.pmr_tree.proofs.GrowSteps.{becomes_from, told_later, stands_first, stands_second, stands_third, stands_fourth, first_block, second_block, third_block, fourth_block}
use Rattle.pmr_tree.proofs.shrink.+shrink.Goals as goal

-- accepted calls lead on to the refused one, and its refusal is passed on
pub returns-in_err-does_meet-clause-leads : goal.returns-in_err-does_meet-clause-leads
returns-in_err-does_meet-clause-leads g t c =
    passed_on _ _ (g.S.Ground.Leads c.args.ground.now c.args.pages.now c.args.ground.now c.does_meet.new.pages) c.from_residual.ensures c.in_err-does_meet.ensures.leads

pub returns-then-not-branch-clause-leads : goal.returns-then-not-branch-clause-leads
returns-then-not-branch-clause-leads g t c = c.in_ok-does_meet.ensures.leads

pub returns-then-not-branch-clause-values : goal.returns-then-not-branch-clause-values
returns-then-not-branch-clause-values g t c = λ k test w. subst (Passes test) (sym (c.in_ok-does_meet.ensures.same k)) w

-- accepted calls leave the pages ready for the next one
pub leaf_of-requires-clause-ready : goal.leaf_of-requires-clause-ready
leaf_of-requires-clause-ready g t c = g.met.S.Ground.ready _ _ _ _ c.in_ok-does_meet.ensures.leads c.requires.ready

pub leaf_of-requires-clause-stands : goal.leaf_of-requires-clause-stands
leaf_of-requires-clause-stands g t c = λ known.
    let k = g.met.S.Ground.knew c.args.ground.now c.args.pages.now c.args.ground.now c.does_meet.new.pages c.in_ok-does_meet.ensures.leads known in
    subst (KeysStand c.args.block) (sym (ap firsts (c.in_ok-does_meet.ensures.same k))) (c.requires.stands k)

pub returns-in_err-list-clause-leads : goal.returns-in_err-list-clause-leads
returns-in_err-list-clause-leads g t c =
    let l0 = c.in_ok-does_meet.ensures.leads in
    passed_on _ _ (g.S.Ground.Leads c.args.ground.now c.args.pages.now c.args.ground.now c.leaf_of.new.pages) c.from_residual-in_err-list.ensures
    (g.met.S.Ground.onward _ _ _ _ _ _ _ l0 c.in_err-list.ensures.leads)

pub leave-requires-clause-ready : goal.leave-requires-clause-ready
leave-requires-clause-ready g t c =
    let l0 = c.in_ok-does_meet.ensures.leads in
    let l1 = g.met.S.Ground.onward c.args.ground.now c.args.pages.now c.args.ground.now c.does_meet.new.pages c.args.ground.now c.leaf_of.new.pages None l0 c.in_ok-list.ensures.leads in
    g.met.S.Ground.ready c.args.ground.now c.args.pages.now c.args.ground.now c.leaf_of.new.pages l1 c.requires.ready

pub leave-requires-clause-stands : goal.leave-requires-clause-stands
leave-requires-clause-stands g t c = λ known.
    let l0 = c.in_ok-does_meet.ensures.leads in
    let l1 = g.met.S.Ground.onward c.args.ground.now c.args.pages.now c.args.ground.now c.does_meet.new.pages c.args.ground.now c.leaf_of.new.pages None l0 c.in_ok-list.ensures.leads in
    let k = g.met.S.Ground.knew c.args.ground.now c.args.pages.now c.args.ground.now c.leaf_of.new.pages l1 known in
    let same = c.in_ok-list.ensures.same (g.met.S.Ground.known c.args.ground.now c.args.pages.now c.args.ground.now c.does_meet.new.pages l0 k) ∙ c.in_ok-does_meet.ensures.same k in
    subst (KeysStand c.args.block) (sym (ap firsts same)) (c.requires.stands k)

pub leave-requires-clause-leaf : goal.leave-requires-clause-leaf
leave-requires-clause-leaf g t c = λ known.
    let l0 = c.in_ok-does_meet.ensures.leads in
    let l1 = g.met.S.Ground.onward c.args.ground.now c.args.pages.now c.args.ground.now c.does_meet.new.pages c.args.ground.now c.leaf_of.new.pages None l0 c.in_ok-list.ensures.leads in
    let k0 = g.met.S.Ground.known c.args.ground.now c.args.pages.now c.args.ground.now c.does_meet.new.pages l0
    (g.met.S.Ground.knew c.args.ground.now c.args.pages.now c.args.ground.now c.leaf_of.new.pages l1 known) in
    leaf_later c.args.block 2 _ _ _ _ (ap firsts (c.in_ok-list.ensures.same k0)) c.deref.ensures.value (some_found _ _ _ _ c.in-Some.is (c.in_ok-list.ensures.found k0))

pub returns-in_err-leave-clause-leads : goal.returns-in_err-leave-clause-leads
returns-in_err-leave-clause-leads g t c =
    let l0 = c.in_ok-does_meet.ensures.leads in
    let l1 = g.met.S.Ground.onward c.args.ground.now c.args.pages.now c.args.ground.now c.does_meet.new.pages c.args.ground.now c.leaf_of.new.pages None l0 c.in_ok-list.ensures.leads in
    passed_on _ _ (g.S.Ground.Leads c.args.ground.now c.args.pages.now c.leave.new.ground c.leave.new.pages) c.from_residual-in_err-leave.ensures
    (g.met.S.Ground.onward _ _ _ _ _ _ _ l1 c.in_err-leave.ensures.leads)

pub returns-in-Some-clause-leads : goal.returns-in-Some-clause-leads
returns-in-Some-clause-leads g t c =
    let l0 = c.in_ok-does_meet.ensures.leads in
    let l1 = g.met.S.Ground.onward c.args.ground.now c.args.pages.now c.args.ground.now c.does_meet.new.pages c.args.ground.now c.leaf_of.new.pages None l0 c.in_ok-list.ensures.leads in
    g.met.S.Ground.onward _ _ _ _ _ _ _ l1 c.in_ok-leave.ensures.leads

pub returns-then-from-ge-COORDINATE_BITS-clause-leads : goal.returns-then-from-ge-COORDINATE_BITS-clause-leads
returns-then-from-ge-COORDINATE_BITS-clause-leads g t c =
    let l0 = c.in_ok-does_meet.ensures.leads in
    g.met.S.Ground.onward _ _ _ _ _ _ _ l0 c.in_ok-list.ensures.leads

pub returns-then-from-ge-COORDINATE_BITS-clause-values : goal.returns-then-from-ge-COORDINATE_BITS-clause-values
returns-then-from-ge-COORDINATE_BITS-clause-values g t c = λ k test w.
    let l0 = c.in_ok-does_meet.ensures.leads in
    let same = c.in_ok-list.ensures.same (g.met.S.Ground.known c.args.ground.now c.args.pages.now c.args.ground.now c.does_meet.new.pages l0 k) ∙ c.in_ok-does_meet.ensures.same k in
    subst (Passes test) (sym same) w

pub returns-then-not-branch-clause-keys : goal.returns-then-not-branch-clause-keys
returns-then-not-branch-clause-keys g t c = λ k m has tells one.
    let B : List ℕ → Type 0 = λ x. Becomes c.args.block (shrunk_where m c.args.threshold c.args.id c.args.block) (firsts (g.S.Ground.pairs c.args.ground.now c.args.pages.now)) x in
    subst B (sym (ap firsts (c.in_ok-does_meet.ensures.same k)))
    (shrunk_unmet m c.args.threshold c.args.id c.args.block _ (c.requires.stands k) (sym (c.in_ok-does_meet.ensures.value k m has tells one) ∙ c.if-not-branch.true))

pub returns-in-Some-clause-keys : goal.returns-in-Some-clause-keys
returns-in-Some-clause-keys g t c = λ k m has tells one.
    let l0 = c.in_ok-does_meet.ensures.leads in
    let l1 = g.met.S.Ground.onward c.args.ground.now c.args.pages.now c.args.ground.now c.does_meet.new.pages c.args.ground.now c.leaf_of.new.pages None l0 c.in_ok-list.ensures.leads in
    let k0 = g.met.S.Ground.known c.args.ground.now c.args.pages.now c.args.ground.now c.does_meet.new.pages l0 k in
    let same = c.in_ok-list.ensures.same k0 ∙ c.in_ok-does_meet.ensures.same k in
    let leaf = leaf_all c.args.block 2 _ _ (some_found _ _ _ _ c.in-Some.is (c.in_ok-list.ensures.found k0)) in
    becomes_from c.args.block _ _ _ _ (ap firsts (c.in_ok-does_meet.ensures.same k))
    (shrunk_leaf m c.args.threshold c.args.id c.args.block _ _ _ leaf (sym (c.in_ok-does_meet.ensures.value k m has tells one) ∙ c.if-not-branch.false)
    (becomes_from c.args.block _ _ _ _ (ap firsts (c.in_ok-list.ensures.same k0))
    (c.in_ok-leave.ensures.keys (g.met.S.Ground.known c.args.ground.now c.args.pages.now c.args.ground.now c.leaf_of.new.pages l1 k))))

pub returns-in-Some-clause-values : goal.returns-in-Some-clause-values
returns-in-Some-clause-values g t c = λ k test w.
    let l0 = c.in_ok-does_meet.ensures.leads in
    let l1 = g.met.S.Ground.onward c.args.ground.now c.args.pages.now c.args.ground.now c.does_meet.new.pages c.args.ground.now c.leaf_of.new.pages None l0 c.in_ok-list.ensures.leads in
    let same = c.in_ok-list.ensures.same (g.met.S.Ground.known c.args.ground.now c.args.pages.now c.args.ground.now c.does_meet.new.pages l0 k) ∙ c.in_ok-does_meet.ensures.same k in
    c.in_ok-leave.ensures.values (g.met.S.Ground.known c.args.ground.now c.args.pages.now c.args.ground.now c.leaf_of.new.pages l1 k) test (subst (Passes test) (sym same) w)

pub returns-then-from-ge-COORDINATE_BITS-clause-keys : goal.returns-then-from-ge-COORDINATE_BITS-clause-keys
returns-then-from-ge-COORDINATE_BITS-clause-keys g t c = λ k m has tells one.
    let l0 = c.in_ok-does_meet.ensures.leads in
    let none = none_found _ _ _ c.in_default.is (c.in_ok-list.ensures.found (g.met.S.Ground.known c.args.ground.now c.args.pages.now c.args.ground.now c.does_meet.new.pages l0 k)) in
    let stands = subst (KeysStand c.args.block) (sym (ap firsts (c.in_ok-does_meet.ensures.same k))) (c.requires.stands k) in
    let up = stands_above c.args.block _ stands none in
    absurd (omega (arith, up))

pub shrink-requires : goal.shrink-requires
shrink-requires g t c κs live =
    let l0 = c.in_ok-does_meet.ensures.leads in
    let l1 = g.met.S.Ground.onward c.args.ground.now c.args.pages.now c.args.ground.now c.does_meet.new.pages c.args.ground.now c.leaf_of.new.pages None l0 c.in_ok-list.ensures.leads in
    let up = subst (λ n. n < COORDINATE_BITS) c.from.ensures c.if-from-ge-COORDINATE_BITS.false in
    let kid = first_block c.args.block _ _ c.children.ensures.value c.requires.block up in
    let level = kid.1 in (
      omega (arith, up, level),
      (
        live.0,
        (
          live.1,
          (
            g.met.S.Ground.ready c.args.ground.now c.args.pages.now c.args.ground.now c.leaf_of.new.pages l1 c.requires.ready,
            (
              kid.0,
              (
                c.requires.id,
                (
                  λ known.
                      let k = g.met.S.Ground.knew c.args.ground.now c.args.pages.now c.args.ground.now c.leaf_of.new.pages l1 known in
                      let same = c.in_ok-list.ensures.same (g.met.S.Ground.known c.args.ground.now c.args.pages.now c.args.ground.now c.does_meet.new.pages l0 k) ∙ c.in_ok-does_meet.ensures.same k in
                      let none = ap (own c.args.block) (ap firsts (c.in_ok-list.ensures.same (g.met.S.Ground.known c.args.ground.now c.args.pages.now c.args.ground.now c.does_meet.new.pages l0 k)))
                      ∙ none_found _ _ _ c.in_default.is (c.in_ok-list.ensures.found (g.met.S.Ground.known c.args.ground.now c.args.pages.now c.args.ground.now c.does_meet.new.pages l0 k)) in
                      let stands = subst (KeysStand c.args.block) (sym (ap firsts same)) (c.requires.stands k) in
                      stands_first c.args.block _ _ _ c.children.ensures.value stands none,
                  λ known.
                      let k = g.met.S.Ground.knew c.args.ground.now c.args.pages.now c.args.ground.now c.leaf_of.new.pages l1 known in
                      told_later _ _ [] [] c.args.id (g.met.S.Ground.steady c.args.ground.now c.args.pages.now c.args.ground.now c.leaf_of.new.pages l1 c.requires.ready k)
                      (λ has one w. w) (c.requires.shapes k),
                ),
              ),
            ),
          ),
        ),
      ),
    )

pub shrink-requires-2 : goal.shrink-requires-2
shrink-requires-2 g t c κs live =
    let l0 = c.in_ok-does_meet.ensures.leads in
    let l1 = g.met.S.Ground.onward c.args.ground.now c.args.pages.now c.args.ground.now c.does_meet.new.pages c.args.ground.now c.leaf_of.new.pages None l0 c.in_ok-list.ensures.leads in
    let l2 = g.met.S.Ground.onward c.args.ground.now c.args.pages.now c.args.ground.now c.leaf_of.new.pages c.shrink.new.ground c.shrink.new.pages None l1 c.in_ok-shrink.ensures.leads in
    let up = subst (λ n. n < COORDINATE_BITS) c.from.ensures c.if-from-ge-COORDINATE_BITS.false in
    let kid = second_block c.args.block _ _ c.children.ensures.value c.requires.block up in
    let level = kid.1 in (
      omega (arith, up, level),
      (
        live.0,
        (
          live.1,
          (
            g.met.S.Ground.ready c.args.ground.now c.args.pages.now c.shrink.new.ground c.shrink.new.pages l2 c.requires.ready,
            (
              kid.0,
              (
                c.requires.id,
                (
                  λ known.
                      let k = g.met.S.Ground.knew c.args.ground.now c.args.pages.now c.shrink.new.ground c.shrink.new.pages l2 known in
                      let same = c.in_ok-list.ensures.same (g.met.S.Ground.known c.args.ground.now c.args.pages.now c.args.ground.now c.does_meet.new.pages l0 k) ∙ c.in_ok-does_meet.ensures.same k in
                      let none = ap (own c.args.block) (ap firsts (c.in_ok-list.ensures.same (g.met.S.Ground.known c.args.ground.now c.args.pages.now c.args.ground.now c.does_meet.new.pages l0 k)))
                      ∙ none_found _ _ _ c.in_default.is (c.in_ok-list.ensures.found (g.met.S.Ground.known c.args.ground.now c.args.pages.now c.args.ground.now c.does_meet.new.pages l0 k)) in
                      let stands = subst (KeysStand c.args.block) (sym (ap firsts same)) (c.requires.stands k) in
                      let told = c.requires.shapes k in
                      let g0 = c.in_ok-shrink.ensures.keys (g.met.S.Ground.known c.args.ground.now c.args.pages.now c.args.ground.now c.leaf_of.new.pages l1 k) told.meets told.has
                      (g.met.S.Ground.steady c.args.ground.now c.args.pages.now c.args.ground.now c.leaf_of.new.pages l1 c.requires.ready k told.meets told.has told.told) told.one in
                      stands_second c.args.block _ _ _ (λ x. shrunk_where told.meets c.args.threshold c.args.id x) _ _ c.children.ensures.value stands none g0,
                  λ known.
                      let k = g.met.S.Ground.knew c.args.ground.now c.args.pages.now c.shrink.new.ground c.shrink.new.pages l2 known in
                      told_later _ _ [] [] c.args.id (g.met.S.Ground.steady c.args.ground.now c.args.pages.now c.shrink.new.ground c.shrink.new.pages l2 c.requires.ready k)
                      (λ has one w. w) (c.requires.shapes k),
                ),
              ),
            ),
          ),
        ),
      ),
    )

pub shrink-requires-3 : goal.shrink-requires-3
shrink-requires-3 g t c κs live =
    let l0 = c.in_ok-does_meet.ensures.leads in
    let l1 = g.met.S.Ground.onward c.args.ground.now c.args.pages.now c.args.ground.now c.does_meet.new.pages c.args.ground.now c.leaf_of.new.pages None l0 c.in_ok-list.ensures.leads in
    let l2 = g.met.S.Ground.onward c.args.ground.now c.args.pages.now c.args.ground.now c.leaf_of.new.pages c.shrink.new.ground c.shrink.new.pages None l1 c.in_ok-shrink.ensures.leads in
    let l3 = g.met.S.Ground.onward c.args.ground.now c.args.pages.now c.shrink.new.ground c.shrink.new.pages c.shrink-2.new.ground c.shrink-2.new.pages None l2 c.in_ok-shrink-2.ensures.leads in
    let up = subst (λ n. n < COORDINATE_BITS) c.from.ensures c.if-from-ge-COORDINATE_BITS.false in
    let kid = third_block c.args.block _ _ c.children.ensures.value c.requires.block up in
    let level = kid.1 in (
      omega (arith, up, level),
      (
        live.0,
        (
          live.1,
          (
            g.met.S.Ground.ready c.args.ground.now c.args.pages.now c.shrink-2.new.ground c.shrink-2.new.pages l3 c.requires.ready,
            (
              kid.0,
              (
                c.requires.id,
                (
                  λ known.
                      let k = g.met.S.Ground.knew c.args.ground.now c.args.pages.now c.shrink-2.new.ground c.shrink-2.new.pages l3 known in
                      let same = c.in_ok-list.ensures.same (g.met.S.Ground.known c.args.ground.now c.args.pages.now c.args.ground.now c.does_meet.new.pages l0 k) ∙ c.in_ok-does_meet.ensures.same k in
                      let none = ap (own c.args.block) (ap firsts (c.in_ok-list.ensures.same (g.met.S.Ground.known c.args.ground.now c.args.pages.now c.args.ground.now c.does_meet.new.pages l0 k)))
                      ∙ none_found _ _ _ c.in_default.is (c.in_ok-list.ensures.found (g.met.S.Ground.known c.args.ground.now c.args.pages.now c.args.ground.now c.does_meet.new.pages l0 k)) in
                      let stands = subst (KeysStand c.args.block) (sym (ap firsts same)) (c.requires.stands k) in
                      let told = c.requires.shapes k in
                      let g0 = c.in_ok-shrink.ensures.keys (g.met.S.Ground.known c.args.ground.now c.args.pages.now c.args.ground.now c.leaf_of.new.pages l1 k) told.meets told.has
                      (g.met.S.Ground.steady c.args.ground.now c.args.pages.now c.args.ground.now c.leaf_of.new.pages l1 c.requires.ready k told.meets told.has told.told) told.one in
                      let g1 = c.in_ok-shrink-2.ensures.keys (g.met.S.Ground.known c.args.ground.now c.args.pages.now c.shrink.new.ground c.shrink.new.pages l2 k) told.meets told.has
                      (g.met.S.Ground.steady c.args.ground.now c.args.pages.now c.shrink.new.ground c.shrink.new.pages l2 c.requires.ready k told.meets told.has told.told) told.one in
                      stands_third c.args.block _ _ _ _ (λ x. shrunk_where told.meets c.args.threshold c.args.id x)
                      (λ x. shrunk_where told.meets c.args.threshold c.args.id x) _ _ _ c.children.ensures.value stands none g0 g1,
                  λ known.
                      let k = g.met.S.Ground.knew c.args.ground.now c.args.pages.now c.shrink-2.new.ground c.shrink-2.new.pages l3 known in
                      told_later _ _ [] [] c.args.id (g.met.S.Ground.steady c.args.ground.now c.args.pages.now c.shrink-2.new.ground c.shrink-2.new.pages l3 c.requires.ready k)
                      (λ has one w. w) (c.requires.shapes k),
                ),
              ),
            ),
          ),
        ),
      ),
    )

pub shrink-requires-4 : goal.shrink-requires-4
shrink-requires-4 g t c κs live =
    let l0 = c.in_ok-does_meet.ensures.leads in
    let l1 = g.met.S.Ground.onward c.args.ground.now c.args.pages.now c.args.ground.now c.does_meet.new.pages c.args.ground.now c.leaf_of.new.pages None l0 c.in_ok-list.ensures.leads in
    let l2 = g.met.S.Ground.onward c.args.ground.now c.args.pages.now c.args.ground.now c.leaf_of.new.pages c.shrink.new.ground c.shrink.new.pages None l1 c.in_ok-shrink.ensures.leads in
    let l3 = g.met.S.Ground.onward c.args.ground.now c.args.pages.now c.shrink.new.ground c.shrink.new.pages c.shrink-2.new.ground c.shrink-2.new.pages None l2 c.in_ok-shrink-2.ensures.leads in
    let l4 = g.met.S.Ground.onward c.args.ground.now c.args.pages.now c.shrink-2.new.ground c.shrink-2.new.pages c.shrink-3.new.ground c.shrink-3.new.pages None l3 c.in_ok-shrink-3.ensures.leads in
    let up = subst (λ n. n < COORDINATE_BITS) c.from.ensures c.if-from-ge-COORDINATE_BITS.false in
    let kid = fourth_block c.args.block _ _ c.children.ensures.value c.requires.block up in
    let level = kid.1 in (
      omega (arith, up, level),
      (
        live.0,
        (
          live.1,
          (
            g.met.S.Ground.ready c.args.ground.now c.args.pages.now c.shrink-3.new.ground c.shrink-3.new.pages l4 c.requires.ready,
            (
              kid.0,
              (
                c.requires.id,
                (
                  λ known.
                      let k = g.met.S.Ground.knew c.args.ground.now c.args.pages.now c.shrink-3.new.ground c.shrink-3.new.pages l4 known in
                      let same = c.in_ok-list.ensures.same (g.met.S.Ground.known c.args.ground.now c.args.pages.now c.args.ground.now c.does_meet.new.pages l0 k) ∙ c.in_ok-does_meet.ensures.same k in
                      let none = ap (own c.args.block) (ap firsts (c.in_ok-list.ensures.same (g.met.S.Ground.known c.args.ground.now c.args.pages.now c.args.ground.now c.does_meet.new.pages l0 k)))
                      ∙ none_found _ _ _ c.in_default.is (c.in_ok-list.ensures.found (g.met.S.Ground.known c.args.ground.now c.args.pages.now c.args.ground.now c.does_meet.new.pages l0 k)) in
                      let stands = subst (KeysStand c.args.block) (sym (ap firsts same)) (c.requires.stands k) in
                      let told = c.requires.shapes k in
                      let g0 = c.in_ok-shrink.ensures.keys (g.met.S.Ground.known c.args.ground.now c.args.pages.now c.args.ground.now c.leaf_of.new.pages l1 k) told.meets told.has
                      (g.met.S.Ground.steady c.args.ground.now c.args.pages.now c.args.ground.now c.leaf_of.new.pages l1 c.requires.ready k told.meets told.has told.told) told.one in
                      let g1 = c.in_ok-shrink-2.ensures.keys (g.met.S.Ground.known c.args.ground.now c.args.pages.now c.shrink.new.ground c.shrink.new.pages l2 k) told.meets told.has
                      (g.met.S.Ground.steady c.args.ground.now c.args.pages.now c.shrink.new.ground c.shrink.new.pages l2 c.requires.ready k told.meets told.has told.told) told.one in
                      let g2 = c.in_ok-shrink-3.ensures.keys (g.met.S.Ground.known c.args.ground.now c.args.pages.now c.shrink-2.new.ground c.shrink-2.new.pages l3 k) told.meets told.has
                      (g.met.S.Ground.steady c.args.ground.now c.args.pages.now c.shrink-2.new.ground c.shrink-2.new.pages l3 c.requires.ready k told.meets told.has told.told) told.one in
                      stands_fourth c.args.block _ _ _ _ _ (λ x. shrunk_where told.meets c.args.threshold c.args.id x)
                      (λ x. shrunk_where told.meets c.args.threshold c.args.id x) (λ x. shrunk_where told.meets c.args.threshold c.args.id x) _ _ _ _ c.children.ensures.value stands none g0 g1 g2,
                  λ known.
                      let k = g.met.S.Ground.knew c.args.ground.now c.args.pages.now c.shrink-3.new.ground c.shrink-3.new.pages l4 known in
                      told_later _ _ [] [] c.args.id (g.met.S.Ground.steady c.args.ground.now c.args.pages.now c.shrink-3.new.ground c.shrink-3.new.pages l4 c.requires.ready k)
                      (λ has one w. w) (c.requires.shapes k),
                ),
              ),
            ),
          ),
        ),
      ),
    )

pub returns-in_err-shrink-clause-leads : goal.returns-in_err-shrink-clause-leads
returns-in_err-shrink-clause-leads g t c =
    let l0 = c.in_ok-does_meet.ensures.leads in
    let l1 = g.met.S.Ground.onward c.args.ground.now c.args.pages.now c.args.ground.now c.does_meet.new.pages c.args.ground.now c.leaf_of.new.pages None l0 c.in_ok-list.ensures.leads in
    passed_on _ _ (g.S.Ground.Leads c.args.ground.now c.args.pages.now c.shrink.new.ground c.shrink.new.pages) c.from_residual-in_err-shrink.ensures
    (g.met.S.Ground.onward _ _ _ _ _ _ _ l1 c.in_err-shrink.ensures.leads)

pub returns-in_err-shrink-2-clause-leads : goal.returns-in_err-shrink-2-clause-leads
returns-in_err-shrink-2-clause-leads g t c =
    let l0 = c.in_ok-does_meet.ensures.leads in
    let l1 = g.met.S.Ground.onward c.args.ground.now c.args.pages.now c.args.ground.now c.does_meet.new.pages c.args.ground.now c.leaf_of.new.pages None l0 c.in_ok-list.ensures.leads in
    let l2 = g.met.S.Ground.onward c.args.ground.now c.args.pages.now c.args.ground.now c.leaf_of.new.pages c.shrink.new.ground c.shrink.new.pages None l1 c.in_ok-shrink.ensures.leads in
    passed_on _ _ (g.S.Ground.Leads c.args.ground.now c.args.pages.now c.shrink-2.new.ground c.shrink-2.new.pages) c.from_residual-in_err-shrink-2.ensures
    (g.met.S.Ground.onward _ _ _ _ _ _ _ l2 c.in_err-shrink-2.ensures.leads)

pub returns-in_err-shrink-3-clause-leads : goal.returns-in_err-shrink-3-clause-leads
returns-in_err-shrink-3-clause-leads g t c =
    let l0 = c.in_ok-does_meet.ensures.leads in
    let l1 = g.met.S.Ground.onward c.args.ground.now c.args.pages.now c.args.ground.now c.does_meet.new.pages c.args.ground.now c.leaf_of.new.pages None l0 c.in_ok-list.ensures.leads in
    let l2 = g.met.S.Ground.onward c.args.ground.now c.args.pages.now c.args.ground.now c.leaf_of.new.pages c.shrink.new.ground c.shrink.new.pages None l1 c.in_ok-shrink.ensures.leads in
    let l3 = g.met.S.Ground.onward c.args.ground.now c.args.pages.now c.shrink.new.ground c.shrink.new.pages c.shrink-2.new.ground c.shrink-2.new.pages None l2 c.in_ok-shrink-2.ensures.leads in
    passed_on _ _ (g.S.Ground.Leads c.args.ground.now c.args.pages.now c.shrink-3.new.ground c.shrink-3.new.pages) c.from_residual-in_err-shrink-3.ensures
    (g.met.S.Ground.onward _ _ _ _ _ _ _ l3 c.in_err-shrink-3.ensures.leads)

pub returns-in_err-shrink-4-clause-leads : goal.returns-in_err-shrink-4-clause-leads
returns-in_err-shrink-4-clause-leads g t c =
    let l0 = c.in_ok-does_meet.ensures.leads in
    let l1 = g.met.S.Ground.onward c.args.ground.now c.args.pages.now c.args.ground.now c.does_meet.new.pages c.args.ground.now c.leaf_of.new.pages None l0 c.in_ok-list.ensures.leads in
    let l2 = g.met.S.Ground.onward c.args.ground.now c.args.pages.now c.args.ground.now c.leaf_of.new.pages c.shrink.new.ground c.shrink.new.pages None l1 c.in_ok-shrink.ensures.leads in
    let l3 = g.met.S.Ground.onward c.args.ground.now c.args.pages.now c.shrink.new.ground c.shrink.new.pages c.shrink-2.new.ground c.shrink-2.new.pages None l2 c.in_ok-shrink-2.ensures.leads in
    let l4 = g.met.S.Ground.onward c.args.ground.now c.args.pages.now c.shrink-2.new.ground c.shrink-2.new.pages c.shrink-3.new.ground c.shrink-3.new.pages None l3 c.in_ok-shrink-3.ensures.leads in
    passed_on _ _ (g.S.Ground.Leads c.args.ground.now c.args.pages.now c.shrink-4.new.ground c.shrink-4.new.pages) c.from_residual-in_err-shrink-4.ensures
    (g.met.S.Ground.onward _ _ _ _ _ _ _ l4 c.in_err-shrink-4.ensures.leads)

pub merge-requires-clause-ready : goal.merge-requires-clause-ready
merge-requires-clause-ready g t c =
    let l0 = c.in_ok-does_meet.ensures.leads in
    let l1 = g.met.S.Ground.onward c.args.ground.now c.args.pages.now c.args.ground.now c.does_meet.new.pages c.args.ground.now c.leaf_of.new.pages None l0 c.in_ok-list.ensures.leads in
    let l2 = g.met.S.Ground.onward c.args.ground.now c.args.pages.now c.args.ground.now c.leaf_of.new.pages c.shrink.new.ground c.shrink.new.pages None l1 c.in_ok-shrink.ensures.leads in
    let l3 = g.met.S.Ground.onward c.args.ground.now c.args.pages.now c.shrink.new.ground c.shrink.new.pages c.shrink-2.new.ground c.shrink-2.new.pages None l2 c.in_ok-shrink-2.ensures.leads in
    let l4 = g.met.S.Ground.onward c.args.ground.now c.args.pages.now c.shrink-2.new.ground c.shrink-2.new.pages c.shrink-3.new.ground c.shrink-3.new.pages None l3 c.in_ok-shrink-3.ensures.leads in
    let l5 = g.met.S.Ground.onward c.args.ground.now c.args.pages.now c.shrink-3.new.ground c.shrink-3.new.pages c.shrink-4.new.ground c.shrink-4.new.pages None l4 c.in_ok-shrink-4.ensures.leads in
    g.met.S.Ground.ready c.args.ground.now c.args.pages.now c.shrink-4.new.ground c.shrink-4.new.pages l5 c.requires.ready

pub returns-in_err-merge-clause-leads : goal.returns-in_err-merge-clause-leads
returns-in_err-merge-clause-leads g t c =
    let l0 = c.in_ok-does_meet.ensures.leads in
    let l1 = g.met.S.Ground.onward c.args.ground.now c.args.pages.now c.args.ground.now c.does_meet.new.pages c.args.ground.now c.leaf_of.new.pages None l0 c.in_ok-list.ensures.leads in
    let l2 = g.met.S.Ground.onward c.args.ground.now c.args.pages.now c.args.ground.now c.leaf_of.new.pages c.shrink.new.ground c.shrink.new.pages None l1 c.in_ok-shrink.ensures.leads in
    let l3 = g.met.S.Ground.onward c.args.ground.now c.args.pages.now c.shrink.new.ground c.shrink.new.pages c.shrink-2.new.ground c.shrink-2.new.pages None l2 c.in_ok-shrink-2.ensures.leads in
    let l4 = g.met.S.Ground.onward c.args.ground.now c.args.pages.now c.shrink-2.new.ground c.shrink-2.new.pages c.shrink-3.new.ground c.shrink-3.new.pages None l3 c.in_ok-shrink-3.ensures.leads in
    let l5 = g.met.S.Ground.onward c.args.ground.now c.args.pages.now c.shrink-3.new.ground c.shrink-3.new.pages c.shrink-4.new.ground c.shrink-4.new.pages None l4 c.in_ok-shrink-4.ensures.leads in
    passed_on _ _ (g.S.Ground.Leads c.args.ground.now c.args.pages.now c.merge.new.ground c.merge.new.pages) c.from_residual-in_err-merge.ensures
    (g.met.S.Ground.onward _ _ _ _ _ _ _ l5 c.in_err-merge.ensures.leads)

pub merge-requires-clause-stands : goal.merge-requires-clause-stands
merge-requires-clause-stands g t c = λ known.
    let l0 = c.in_ok-does_meet.ensures.leads in
    let l1 = g.met.S.Ground.onward c.args.ground.now c.args.pages.now c.args.ground.now c.does_meet.new.pages c.args.ground.now c.leaf_of.new.pages None l0 c.in_ok-list.ensures.leads in
    let l2 = g.met.S.Ground.onward c.args.ground.now c.args.pages.now c.args.ground.now c.leaf_of.new.pages c.shrink.new.ground c.shrink.new.pages None l1 c.in_ok-shrink.ensures.leads in
    let l3 = g.met.S.Ground.onward c.args.ground.now c.args.pages.now c.shrink.new.ground c.shrink.new.pages c.shrink-2.new.ground c.shrink-2.new.pages None l2 c.in_ok-shrink-2.ensures.leads in
    let l4 = g.met.S.Ground.onward c.args.ground.now c.args.pages.now c.shrink-2.new.ground c.shrink-2.new.pages c.shrink-3.new.ground c.shrink-3.new.pages None l3 c.in_ok-shrink-3.ensures.leads in
    let l5 = g.met.S.Ground.onward c.args.ground.now c.args.pages.now c.shrink-3.new.ground c.shrink-3.new.pages c.shrink-4.new.ground c.shrink-4.new.pages None l4 c.in_ok-shrink-4.ensures.leads in
    let k = g.met.S.Ground.knew c.args.ground.now c.args.pages.now c.shrink-4.new.ground c.shrink-4.new.pages l5 known in
    let same = c.in_ok-list.ensures.same (g.met.S.Ground.known c.args.ground.now c.args.pages.now c.args.ground.now c.does_meet.new.pages l0 k) ∙ c.in_ok-does_meet.ensures.same k in
    let none = ap (own c.args.block) (ap firsts (c.in_ok-list.ensures.same (g.met.S.Ground.known c.args.ground.now c.args.pages.now c.args.ground.now c.does_meet.new.pages l0 k)))
    ∙ none_found _ _ _ c.in_default.is (c.in_ok-list.ensures.found (g.met.S.Ground.known c.args.ground.now c.args.pages.now c.args.ground.now c.does_meet.new.pages l0 k)) in
    let stands = subst (KeysStand c.args.block) (sym (ap firsts same)) (c.requires.stands k) in
    let told = c.requires.shapes k in
    let g0 = c.in_ok-shrink.ensures.keys (g.met.S.Ground.known c.args.ground.now c.args.pages.now c.args.ground.now c.leaf_of.new.pages l1 k) told.meets told.has
    (g.met.S.Ground.steady c.args.ground.now c.args.pages.now c.args.ground.now c.leaf_of.new.pages l1 c.requires.ready k told.meets told.has told.told) told.one in
    let g1 = c.in_ok-shrink-2.ensures.keys (g.met.S.Ground.known c.args.ground.now c.args.pages.now c.shrink.new.ground c.shrink.new.pages l2 k) told.meets told.has
    (g.met.S.Ground.steady c.args.ground.now c.args.pages.now c.shrink.new.ground c.shrink.new.pages l2 c.requires.ready k told.meets told.has told.told) told.one in
    let g2 = c.in_ok-shrink-3.ensures.keys (g.met.S.Ground.known c.args.ground.now c.args.pages.now c.shrink-2.new.ground c.shrink-2.new.pages l3 k) told.meets told.has
    (g.met.S.Ground.steady c.args.ground.now c.args.pages.now c.shrink-2.new.ground c.shrink-2.new.pages l3 c.requires.ready k told.meets told.has told.told) told.one in
    let g3 = c.in_ok-shrink-4.ensures.keys (g.met.S.Ground.known c.args.ground.now c.args.pages.now c.shrink-3.new.ground c.shrink-3.new.pages l4 k) told.meets told.has
    (g.met.S.Ground.steady c.args.ground.now c.args.pages.now c.shrink-3.new.ground c.shrink-3.new.pages l4 c.requires.ready k told.meets told.has told.told) told.one in
    stands_after c.args.block _ _ _ (shrink_steps told.meets c.args.threshold c.args.id c.args.block _ _ _ _ _ _ _ _ _ _ stands none c.children.ensures.value g0 g1 g2 g3) stands

pub merge-requires-clause-inner : goal.merge-requires-clause-inner
merge-requires-clause-inner g t c = λ known.
    let l0 = c.in_ok-does_meet.ensures.leads in
    let l1 = g.met.S.Ground.onward c.args.ground.now c.args.pages.now c.args.ground.now c.does_meet.new.pages c.args.ground.now c.leaf_of.new.pages None l0 c.in_ok-list.ensures.leads in
    let l2 = g.met.S.Ground.onward c.args.ground.now c.args.pages.now c.args.ground.now c.leaf_of.new.pages c.shrink.new.ground c.shrink.new.pages None l1 c.in_ok-shrink.ensures.leads in
    let l3 = g.met.S.Ground.onward c.args.ground.now c.args.pages.now c.shrink.new.ground c.shrink.new.pages c.shrink-2.new.ground c.shrink-2.new.pages None l2 c.in_ok-shrink-2.ensures.leads in
    let l4 = g.met.S.Ground.onward c.args.ground.now c.args.pages.now c.shrink-2.new.ground c.shrink-2.new.pages c.shrink-3.new.ground c.shrink-3.new.pages None l3 c.in_ok-shrink-3.ensures.leads in
    let l5 = g.met.S.Ground.onward c.args.ground.now c.args.pages.now c.shrink-3.new.ground c.shrink-3.new.pages c.shrink-4.new.ground c.shrink-4.new.pages None l4 c.in_ok-shrink-4.ensures.leads in
    let k = g.met.S.Ground.knew c.args.ground.now c.args.pages.now c.shrink-4.new.ground c.shrink-4.new.pages l5 known in
    let same = c.in_ok-list.ensures.same (g.met.S.Ground.known c.args.ground.now c.args.pages.now c.args.ground.now c.does_meet.new.pages l0 k) ∙ c.in_ok-does_meet.ensures.same k in
    let none = ap (own c.args.block) (ap firsts (c.in_ok-list.ensures.same (g.met.S.Ground.known c.args.ground.now c.args.pages.now c.args.ground.now c.does_meet.new.pages l0 k)))
    ∙ none_found _ _ _ c.in_default.is (c.in_ok-list.ensures.found (g.met.S.Ground.known c.args.ground.now c.args.pages.now c.args.ground.now c.does_meet.new.pages l0 k)) in
    let stands = subst (KeysStand c.args.block) (sym (ap firsts same)) (c.requires.stands k) in
    let told = c.requires.shapes k in
    let g0 = c.in_ok-shrink.ensures.keys (g.met.S.Ground.known c.args.ground.now c.args.pages.now c.args.ground.now c.leaf_of.new.pages l1 k) told.meets told.has
    (g.met.S.Ground.steady c.args.ground.now c.args.pages.now c.args.ground.now c.leaf_of.new.pages l1 c.requires.ready k told.meets told.has told.told) told.one in
    let g1 = c.in_ok-shrink-2.ensures.keys (g.met.S.Ground.known c.args.ground.now c.args.pages.now c.shrink.new.ground c.shrink.new.pages l2 k) told.meets told.has
    (g.met.S.Ground.steady c.args.ground.now c.args.pages.now c.shrink.new.ground c.shrink.new.pages l2 c.requires.ready k told.meets told.has told.told) told.one in
    let g2 = c.in_ok-shrink-3.ensures.keys (g.met.S.Ground.known c.args.ground.now c.args.pages.now c.shrink-2.new.ground c.shrink-2.new.pages l3 k) told.meets told.has
    (g.met.S.Ground.steady c.args.ground.now c.args.pages.now c.shrink-2.new.ground c.shrink-2.new.pages l3 c.requires.ready k told.meets told.has told.told) told.one in
    let g3 = c.in_ok-shrink-4.ensures.keys (g.met.S.Ground.known c.args.ground.now c.args.pages.now c.shrink-3.new.ground c.shrink-3.new.pages l4 k) told.meets told.has
    (g.met.S.Ground.steady c.args.ground.now c.args.pages.now c.shrink-3.new.ground c.shrink-3.new.pages l4 c.requires.ready k told.meets told.has told.told) told.one in
    still_inner c.args.block (below_shrunk told.meets c.args.threshold c.args.id c.args.block) (shrunk_where told.meets c.args.threshold c.args.id (child c.args.block 0))
    (shrunk_where told.meets c.args.threshold c.args.id (child c.args.block 1)) (shrunk_where told.meets c.args.threshold c.args.id (child c.args.block 2))
    (shrunk_where told.meets c.args.threshold c.args.id (child c.args.block 3)) _ _ (λ p q r s. refl) stands none
    (shrink_steps told.meets c.args.threshold c.args.id c.args.block _ _ _ _ _ _ _ _ _ _ stands none c.children.ensures.value g0 g1 g2 g3)

pub returns-clause-leads : goal.returns-clause-leads
returns-clause-leads g t c =
    let l0 = c.in_ok-does_meet.ensures.leads in
    let l1 = g.met.S.Ground.onward c.args.ground.now c.args.pages.now c.args.ground.now c.does_meet.new.pages c.args.ground.now c.leaf_of.new.pages None l0 c.in_ok-list.ensures.leads in
    let l2 = g.met.S.Ground.onward c.args.ground.now c.args.pages.now c.args.ground.now c.leaf_of.new.pages c.shrink.new.ground c.shrink.new.pages None l1 c.in_ok-shrink.ensures.leads in
    let l3 = g.met.S.Ground.onward c.args.ground.now c.args.pages.now c.shrink.new.ground c.shrink.new.pages c.shrink-2.new.ground c.shrink-2.new.pages None l2 c.in_ok-shrink-2.ensures.leads in
    let l4 = g.met.S.Ground.onward c.args.ground.now c.args.pages.now c.shrink-2.new.ground c.shrink-2.new.pages c.shrink-3.new.ground c.shrink-3.new.pages None l3 c.in_ok-shrink-3.ensures.leads in
    let l5 = g.met.S.Ground.onward c.args.ground.now c.args.pages.now c.shrink-3.new.ground c.shrink-3.new.pages c.shrink-4.new.ground c.shrink-4.new.pages None l4 c.in_ok-shrink-4.ensures.leads in
    g.met.S.Ground.onward _ _ _ _ _ _ _ l5 c.in_ok-merge.ensures.leads

pub returns-clause-keys : goal.returns-clause-keys
returns-clause-keys g t c = λ k m has tells one.
    let l0 = c.in_ok-does_meet.ensures.leads in
    let l1 = g.met.S.Ground.onward c.args.ground.now c.args.pages.now c.args.ground.now c.does_meet.new.pages c.args.ground.now c.leaf_of.new.pages None l0 c.in_ok-list.ensures.leads in
    let l2 = g.met.S.Ground.onward c.args.ground.now c.args.pages.now c.args.ground.now c.leaf_of.new.pages c.shrink.new.ground c.shrink.new.pages None l1 c.in_ok-shrink.ensures.leads in
    let l3 = g.met.S.Ground.onward c.args.ground.now c.args.pages.now c.shrink.new.ground c.shrink.new.pages c.shrink-2.new.ground c.shrink-2.new.pages None l2 c.in_ok-shrink-2.ensures.leads in
    let l4 = g.met.S.Ground.onward c.args.ground.now c.args.pages.now c.shrink-2.new.ground c.shrink-2.new.pages c.shrink-3.new.ground c.shrink-3.new.pages None l3 c.in_ok-shrink-3.ensures.leads in
    let l5 = g.met.S.Ground.onward c.args.ground.now c.args.pages.now c.shrink-3.new.ground c.shrink-3.new.pages c.shrink-4.new.ground c.shrink-4.new.pages None l4 c.in_ok-shrink-4.ensures.leads in
    let same = c.in_ok-list.ensures.same (g.met.S.Ground.known c.args.ground.now c.args.pages.now c.args.ground.now c.does_meet.new.pages l0 k) ∙ c.in_ok-does_meet.ensures.same k in
    let none = ap (own c.args.block) (ap firsts (c.in_ok-list.ensures.same (g.met.S.Ground.known c.args.ground.now c.args.pages.now c.args.ground.now c.does_meet.new.pages l0 k)))
    ∙ none_found _ _ _ c.in_default.is (c.in_ok-list.ensures.found (g.met.S.Ground.known c.args.ground.now c.args.pages.now c.args.ground.now c.does_meet.new.pages l0 k)) in
    let stands = subst (KeysStand c.args.block) (sym (ap firsts same)) (c.requires.stands k) in
    let g0 = c.in_ok-shrink.ensures.keys (g.met.S.Ground.known c.args.ground.now c.args.pages.now c.args.ground.now c.leaf_of.new.pages l1 k) m has
    (g.met.S.Ground.steady c.args.ground.now c.args.pages.now c.args.ground.now c.leaf_of.new.pages l1 c.requires.ready k m has tells) one in
    let g1 = c.in_ok-shrink-2.ensures.keys (g.met.S.Ground.known c.args.ground.now c.args.pages.now c.shrink.new.ground c.shrink.new.pages l2 k) m has
    (g.met.S.Ground.steady c.args.ground.now c.args.pages.now c.shrink.new.ground c.shrink.new.pages l2 c.requires.ready k m has tells) one in
    let g2 = c.in_ok-shrink-3.ensures.keys (g.met.S.Ground.known c.args.ground.now c.args.pages.now c.shrink-2.new.ground c.shrink-2.new.pages l3 k) m has
    (g.met.S.Ground.steady c.args.ground.now c.args.pages.now c.shrink-2.new.ground c.shrink-2.new.pages l3 c.requires.ready k m has tells) one in
    let g3 = c.in_ok-shrink-4.ensures.keys (g.met.S.Ground.known c.args.ground.now c.args.pages.now c.shrink-3.new.ground c.shrink-3.new.pages l4 k) m has
    (g.met.S.Ground.steady c.args.ground.now c.args.pages.now c.shrink-3.new.ground c.shrink-3.new.pages l4 c.requires.ready k m has tells) one in
    becomes_from c.args.block _ _ _ _ (ap firsts same)
    (shrunk_inner m c.args.threshold c.args.id c.args.block _ _ _ none (sym (c.in_ok-does_meet.ensures.value k m has tells one) ∙ c.if-not-branch.false)
    (shrink_steps m c.args.threshold c.args.id c.args.block _ _ _ _ _ _ _ _ _ _ stands none c.children.ensures.value g0 g1 g2 g3)
    (c.in_ok-merge.ensures.keys (g.met.S.Ground.known c.args.ground.now c.args.pages.now c.shrink-4.new.ground c.shrink-4.new.pages l5 k)))

pub returns-clause-values : goal.returns-clause-values
returns-clause-values g t c = λ k test w.
    let l0 = c.in_ok-does_meet.ensures.leads in
    let l1 = g.met.S.Ground.onward c.args.ground.now c.args.pages.now c.args.ground.now c.does_meet.new.pages c.args.ground.now c.leaf_of.new.pages None l0 c.in_ok-list.ensures.leads in
    let l2 = g.met.S.Ground.onward c.args.ground.now c.args.pages.now c.args.ground.now c.leaf_of.new.pages c.shrink.new.ground c.shrink.new.pages None l1 c.in_ok-shrink.ensures.leads in
    let l3 = g.met.S.Ground.onward c.args.ground.now c.args.pages.now c.shrink.new.ground c.shrink.new.pages c.shrink-2.new.ground c.shrink-2.new.pages None l2 c.in_ok-shrink-2.ensures.leads in
    let l4 = g.met.S.Ground.onward c.args.ground.now c.args.pages.now c.shrink-2.new.ground c.shrink-2.new.pages c.shrink-3.new.ground c.shrink-3.new.pages None l3 c.in_ok-shrink-3.ensures.leads in
    let l5 = g.met.S.Ground.onward c.args.ground.now c.args.pages.now c.shrink-3.new.ground c.shrink-3.new.pages c.shrink-4.new.ground c.shrink-4.new.pages None l4 c.in_ok-shrink-4.ensures.leads in
    let same = c.in_ok-list.ensures.same (g.met.S.Ground.known c.args.ground.now c.args.pages.now c.args.ground.now c.does_meet.new.pages l0 k) ∙ c.in_ok-does_meet.ensures.same k in
    let w0 = subst (Passes test) (sym same) w in
    let w1 = c.in_ok-shrink.ensures.values (g.met.S.Ground.known c.args.ground.now c.args.pages.now c.args.ground.now c.leaf_of.new.pages l1 k) test w0 in
    let w2 = c.in_ok-shrink-2.ensures.values (g.met.S.Ground.known c.args.ground.now c.args.pages.now c.shrink.new.ground c.shrink.new.pages l2 k) test w1 in
    let w3 = c.in_ok-shrink-3.ensures.values (g.met.S.Ground.known c.args.ground.now c.args.pages.now c.shrink-2.new.ground c.shrink-2.new.pages l3 k) test w2 in
    let w4 = c.in_ok-shrink-4.ensures.values (g.met.S.Ground.known c.args.ground.now c.args.pages.now c.shrink-3.new.ground c.shrink-3.new.pages l4 k) test w3 in
    c.in_ok-merge.ensures.values (g.met.S.Ground.known c.args.ground.now c.args.pages.now c.shrink-4.new.ground c.shrink-4.new.pages l5 k) test w4
