-- one level down, and up again
use Rattle.std.proofs.Common.{◌≡◌, ◌-◌, ◌<◌, ◌++◌, ℕ, List, suc, length, sym, ◌∙◌, ap, subst, arith}
use Rattle.std.specs.Prelude.{IsSome, Option}
use Rattle.page_pool.specs.Disk.{PageMap}
use Rattle.page_pool.specs.Pool.{IsTold}
use Rattle.code_btree.specs.Tree.{Store, pages_in}
use Rattle.code_btree.proofs.Stores.{same_store}
use Rattle.r_tree.specs.declared.entry.NodeEntry.{NodeEntry}
use Rattle.r_tree.specs.Entry.{member_of}
use Rattle.r_tree.specs.Steps.{NodeTree, EntersUnder, raised}
use Rattle.r_tree.proofs.Inserts.{child_tree, inner_put_from, at_lent}
use Rattle.r_tree.proofs.insert.+insert_under.Goals as goal

pub insert_under-requires : goal.insert_under-requires
insert_under-requires g t c κs within = (omega arith, (within, (opened, (λ told. tree (sym c.read_node.ensures.within.told ∙ told)))))
  where
    opened : IsSome c.read_node.new.pool.beginning
    opened = let P : Option PageMap → Type 0 = λ x. IsSome x in subst P (sym c.read_node.ensures.within.beginning) c.requires.opened

    tree : IsTold c.args.pool.now → NodeTree (pages_in c.read_node.new.pool) (c.args.level - 1) c.swap_remove-child.result.child
    tree told =
        let m : Store = pages_in c.args.pool.now in
        let same : pages_in c.read_node.new.pool ≡ m = same_store c.read_node.new.pool c.args.pool.now c.read_node.ensures.same in
        let es : List NodeEntry = c.in_ok-entries.entries.items in
        let l : c.args.level ≡ suc (c.args.level - 1) = omega arith in
        let S : ℕ → Type 0 = λ x. NodeTree m x c.args.n in
        let M : Store → Type 0 = λ x. NodeTree x (c.args.level - 1) c.swap_remove-child.result.child in
        let at : c.nearest-at.result < length es = at_lent es c.deref.result.now c.nearest-at.result c.deref.ensures.value c.nearest-at.ensures
        (omega (arith, c.if-is_empty.ensures, c.in_ok-entries.entries.ok.0)) in
        subst M (sym same) (child_tree m (c.args.level - 1) c.args.n c.nearest-at.result c.swap_remove-child.result es (c.in_ok-entries.ensures.value told)
        (subst S l (c.requires.tree told)) at c.swap_remove-child.ensures.value)

pub returns-clause-value : goal.returns-clause-value
returns-clause-value g t c = λ told.
    let m : Store = pages_in c.args.pool.now in
    let m0 : Store = pages_in c.read_node.new.pool in
    let u : Store = pages_in c.insert_under.new.pool in
    let w : Store = pages_in c.place.new.pool in
    let l : c.args.level ≡ suc (c.args.level - 1) = omega arith in
    let same : m0 ≡ m = same_store c.read_node.new.pool c.args.pool.now c.read_node.ensures.same in
    let es : List NodeEntry = c.in_ok-entries.entries.items in
    let S : ℕ → Type 0 = λ x. NodeTree m x c.args.n in
    let R : ℕ → Type 0 = λ x. EntersUnder m w x c.args.n (member_of c.args.entry) c.in_ok-grown-2.grown in
    let at : c.nearest-at.result < length es = at_lent es c.deref.result.now c.nearest-at.result c.deref.ensures.value c.nearest-at.ensures
    (omega (arith, c.if-is_empty.ensures, c.in_ok-entries.entries.ok.0)) in
    subst R (sym l) (inner_put_from m m0 u w (c.args.level - 1) c.args.n c.nearest-at.result c.in_ok-below.below c.in_ok-grown-2.grown
    (member_of c.args.entry) c.swap_remove-child.result es c.deref_mut.result.now
    same (c.deref_mut.ensures.value ∙ (c.in_ok-raise.ensures ∙ ap (λ (x : List NodeEntry). x ++ raised c.swap_remove-child.result.child c.in_ok-below.below) c.swap_remove-child.ensures.items))
    (c.in_ok-entries.ensures.value told) (subst S l (c.requires.tree told)) at c.swap_remove-child.ensures.value
    (c.in_ok-below.ensures.value (c.read_node.ensures.within.told ∙ told)) c.in_ok-grown-2.ensures.value c.in_ok-grown-2.ensures.full)
