-- A leaf of the finest level takes any number of ids; fewer ids than the threshold are not too many with one more; else they are counted with it.
use Rattle.std.proofs.Common.{◌≡◌, ◌<◌, ◌≤◌, true, false, ap, sym, ◌∙◌, subst, arith, length}
use Rattle.std.specs.Prelude.{nat_lt, ◌&&◌}
use Rattle.std.proofs.lemmas.Bool.{and_right, le-ltb}
use Rattle.sand_base.specs.declared.TheConstants.{COORDINATE_BITS}
use Rattle.sand_model.specs.Tree.{add}
use Rattle.pmr_tree.specs.Keys.{own, ids_in}
use Rattle.pmr_tree.specs.Leaves.{firsts, ids_of, id_test, ListPasses}
use Rattle.pmr_tree.proofs.Entries.{length_ids, leaf_all, leaf_whole}
use Rattle.pmr_tree.proofs.LeafSteps.{above_finest, becomes_grown_few, becomes_grown_kept, becomes_grown_split}
use Rattle.pmr_tree.proofs.grow.grow_leaf.Goals as goal

-- a leaf of the finest level isn't split
pub returns-then-from-ge-COORDINATE_BITS-clause-keys : goal.returns-then-from-ge-COORDINATE_BITS-clause-keys
returns-then-from-ge-COORDINATE_BITS-clause-keys g c = λ k m has tells all one met.
    let ids = ids_in (own c.args.block (firsts (g.S.Ground.pairs c.args.ground.now c.args.pages.now))) in
    let deep : COORDINATE_BITS ≤ c.args.block.level = subst (λ n. COORDINATE_BITS ≤ n) c.from.ensures c.if-from-ge-COORDINATE_BITS.true in
    becomes_grown_kept m c.args.threshold c.args.newcomer.id c.args.block _ _ ids (leaf_all c.args.block 1 _ _ (c.requires.leaf k)) met
    (and_right (nat_lt c.args.threshold (length (add c.args.newcomer.id ids))) (nat_lt c.args.block.level COORDINATE_BITS) (le-ltb c.args.block.level COORDINATE_BITS deep))
    (c.in_ok-enter.ensures.keys k)

pub returns-then-list-threshold-clause-keys : goal.returns-then-list-threshold-clause-keys
returns-then-list-threshold-clause-keys g c = λ k m has tells all one met.
    let up : c.args.block.level < COORDINATE_BITS = subst (λ n. n < COORDINATE_BITS) c.from.ensures c.if-from-ge-COORDINATE_BITS.false in
    becomes_grown_few m c.args.threshold c.args.newcomer.id c.args.block _ _ (ids_of c.args.list.now) (leaf_whole c.args.block 1 _ _ (c.requires.leaf k) up) met
    (omega (arith, length_ids c.args.list.now)) (c.in_ok-enter-2.ensures.keys k)

pub returns-then-not-is_split-clause-keys : goal.returns-then-not-is_split-clause-keys
returns-then-not-is_split-clause-keys g c = λ k m has tells all one met.
    let up : c.args.block.level < COORDINATE_BITS = subst (λ n. n < COORDINATE_BITS) c.from.ensures c.if-from-ge-COORDINATE_BITS.false in
    let count = ap length c.deref.ensures.value ∙ sym (length_ids c.in_ok-all.all.items) ∙ ap length c.in_ok-all.ensures.ids in
    becomes_grown_kept m c.args.threshold c.args.newcomer.id c.args.block _ _ (ids_of c.args.list.now) (leaf_whole c.args.block 1 _ _ (c.requires.leaf k) up) met
    (subst (λ n. (nat_lt c.args.threshold n && nat_lt c.args.block.level COORDINATE_BITS) ≡ false) count (sym c.is_split.ensures ∙ c.if-not-is_split.true)) (c.in_ok-enter-3.ensures.keys k)

pub split-requires-clause-above_points : goal.split-requires-clause-above_points
split-requires-clause-above_points g c = above_finest c.args.threshold _ c.args.block.level COORDINATE_BITS (sym c.is_split.ensures ∙ c.if-not-is_split.false)

pub split-requires-clause-leaf : goal.split-requires-clause-leaf
split-requires-clause-leaf g c = λ k.
    let up : c.args.block.level < COORDINATE_BITS = subst (λ n. n < COORDINATE_BITS) c.from.ensures c.if-from-ge-COORDINATE_BITS.false in
    leaf_whole c.args.block 1 _ _ (c.requires.leaf k) up

pub split-requires-clause-all : goal.split-requires-clause-all
split-requires-clause-all g c = record { id = c.args.newcomer.id; is_id = c.requires.id; is = ap ids_of c.deref-2.ensures.value ∙ c.in_ok-all.ensures.ids }

pub returns-clause-keys : goal.returns-clause-keys
returns-clause-keys g c = λ k m has tells all one met.
    let up : c.args.block.level < COORDINATE_BITS = subst (λ n. n < COORDINATE_BITS) c.from.ensures c.if-from-ge-COORDINATE_BITS.false in
    let same = ap ids_of c.deref-2.ensures.value ∙ c.in_ok-all.ensures.ids in
    let count = ap length c.deref.ensures.value ∙ sym (length_ids c.in_ok-all.all.items) ∙ sym (ap length (ap ids_of c.deref-2.ensures.value)) in
    becomes_grown_split m c.args.threshold c.args.newcomer.id c.args.block _ _ (ids_of c.args.list.now) _ (leaf_whole c.args.block 1 _ _ (c.requires.leaf k) up) met same
    (subst (λ n. (nat_lt c.args.threshold n && nat_lt c.args.block.level COORDINATE_BITS) ≡ true) count (sym c.is_split.ensures ∙ c.if-not-is_split.false))
    (c.in_ok-split.ensures.keys k m has tells (subst (ListPasses (id_test has)) (sym c.deref-2.ensures.value) (c.in_ok-all.ensures.values (id_test has) one (c.requires.told k (id_test has) all))))

pub returns-clause-values : goal.returns-clause-values
returns-clause-values g c = λ k test one w.
    c.in_ok-split.ensures.values k test (subst (ListPasses test) (sym c.deref-2.ensures.value) (c.in_ok-all.ensures.values test one (c.requires.told k test w))) w
