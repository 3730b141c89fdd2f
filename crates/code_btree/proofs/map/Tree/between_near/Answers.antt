-- the first leaf of the range, and those behind it
use Rattle.std.proofs.Common.{◌-◌, ◌++◌, List, sym, ◌∙◌, ap, subst, arith}
use Rattle.page_pool.specs.Pool.{PoolState}
use Rattle.code_btree.specs.Node.{Pair}
use Rattle.code_btree.specs.Tree.{Store, IsTree, pages_in, tree_items}
use Rattle.code_btree.specs.Between.{items_between, IsTakenIn, IsRest}
use Rattle.code_btree.proofs.Stores.{same_store}
use Rattle.code_btree.proofs.Roots.{subtree_of}
use Rattle.code_btree.proofs.Betweens.{first_taken, price_all}
use Rattle.code_btree.proofs.map.Tree.between_near.Goals as goal

pub leaf_for-requires-clause-tree : goal.leaf_for-requires-clause-tree
leaf_for-requires-clause-tree g c = λ told. subtree_of (pages_in (g.P.Pages.shown c.args.pages.now)) (c.args.self.now.height - 1) c.args.self.now.root c.args.self.now.entries (c.requires.tree told).at

pub take_on-requires : goal.take_on-requires
take_on-requires g c = λ told.
    let a : PoolState = g.P.Pages.shown c.args.pages.now in
    let b : PoolState = g.P.Pages.shown c.leaf_for.new.pages in
    let d : PoolState = g.P.Pages.shown c.take_leaf.new.pages in
    let T : Store → Type 0 = λ x. IsTree x c.args.self.now in
    let r = c.in_ok-leaf.ensures.peeks.read in
    let s = c.in_ok-next.ensures.looks.read in
    subst T (sym (same_store d b s.pages ∙ same_store b a r.pages)) (c.requires.tree (sym r.told ∙ (sym s.told ∙ told)))

pub returns-in_err-take_on-clause-price : goal.returns-in_err-take_on-clause-price
returns-in_err-take_on-clause-price g c = λ told.
    let a : PoolState = g.P.Pages.shown c.args.pages.now in
    let b : PoolState = g.P.Pages.shown c.leaf_for.new.pages in
    let d : PoolState = g.P.Pages.shown c.take_leaf.new.pages in
    let e : PoolState = g.P.Pages.shown c.take_on.new.pages in
    let r = c.in_ok-leaf.ensures.peeks.read in
    let s = c.in_ok-next.ensures.looks.read in
    let W : Store → Type 0 = λ x. IsTakenIn x c.in_ok-leaf.leaf c.args.low c.args.high c.new-found.result.items c.take_leaf.new.found.items c.in_ok-next.next in
    let f = first_taken (pages_in a) c.args.self.now c.args.low c.args.high c.in_ok-leaf.leaf c.in_ok-next.next c.new-found.result.items c.take_leaf.new.found.items
    (c.requires.tree told) (c.in_ok-leaf.ensures.value told)
    (subst W (same_store b a r.pages) (c.in_ok-next.ensures.value (r.told ∙ told))) in
    let R : Store → Type 0 = λ x. IsRest x c.args.self.now c.args.low c.args.high c.in_ok-next.next c.args.self.now.entries f.rest in
    let p = c.in_err-take_on.ensures.price (s.told ∙ (r.told ∙ told)) f.rest (subst R (sym (same_store d b s.pages ∙ same_store b a r.pages)) f.is) in
    price_all a.gets b.gets d.gets e.gets c.args.self.now.height _ _ (omega arith) c.in_ok-leaf.ensures.peeks.within c.in_ok-next.ensures.looks.within p f.fewer

pub returns-clause-value : goal.returns-clause-value
returns-clause-value g c = λ told.
    let a : PoolState = g.P.Pages.shown c.args.pages.now in
    let b : PoolState = g.P.Pages.shown c.leaf_for.new.pages in
    let d : PoolState = g.P.Pages.shown c.take_leaf.new.pages in
    let r = c.in_ok-leaf.ensures.peeks.read in
    let s = c.in_ok-next.ensures.looks.read in
    let W : Store → Type 0 = λ x. IsTakenIn x c.in_ok-leaf.leaf c.args.low c.args.high c.new-found.result.items c.take_leaf.new.found.items c.in_ok-next.next in
    let f = first_taken (pages_in a) c.args.self.now c.args.low c.args.high c.in_ok-leaf.leaf c.in_ok-next.next c.new-found.result.items c.take_leaf.new.found.items
    (c.requires.tree told) (c.in_ok-leaf.ensures.value told)
    (subst W (same_store b a r.pages) (c.in_ok-next.ensures.value (r.told ∙ told))) in
    let R : Store → Type 0 = λ x. IsRest x c.args.self.now c.args.low c.args.high c.in_ok-next.next c.args.self.now.entries f.rest in
    let v = c.in_ok-take_on.ensures.value (s.told ∙ (r.told ∙ told)) f.rest (subst R (sym (same_store d b s.pages ∙ same_store b a r.pages)) f.is) in
    v ∙ (sym f.found ∙ ap (λ (x : List Pair). x ++ items_between c.args.low c.args.high (tree_items (pages_in a) c.args.self.now)) c.new-found.ensures.items)

pub returns-clause-price : goal.returns-clause-price
returns-clause-price g c = λ told.
    let a : PoolState = g.P.Pages.shown c.args.pages.now in
    let b : PoolState = g.P.Pages.shown c.leaf_for.new.pages in
    let d : PoolState = g.P.Pages.shown c.take_leaf.new.pages in
    let e : PoolState = g.P.Pages.shown c.take_on.new.pages in
    let r = c.in_ok-leaf.ensures.peeks.read in
    let s = c.in_ok-next.ensures.looks.read in
    let W : Store → Type 0 = λ x. IsTakenIn x c.in_ok-leaf.leaf c.args.low c.args.high c.new-found.result.items c.take_leaf.new.found.items c.in_ok-next.next in
    let f = first_taken (pages_in a) c.args.self.now c.args.low c.args.high c.in_ok-leaf.leaf c.in_ok-next.next c.new-found.result.items c.take_leaf.new.found.items
    (c.requires.tree told) (c.in_ok-leaf.ensures.value told)
    (subst W (same_store b a r.pages) (c.in_ok-next.ensures.value (r.told ∙ told))) in
    let R : Store → Type 0 = λ x. IsRest x c.args.self.now c.args.low c.args.high c.in_ok-next.next c.args.self.now.entries f.rest in
    let p = c.in_ok-take_on.ensures.price (s.told ∙ (r.told ∙ told)) f.rest (subst R (sym (same_store d b s.pages ∙ same_store b a r.pages)) f.is) in
    price_all a.gets b.gets d.gets e.gets c.args.self.now.height _ _ (omega arith) c.in_ok-leaf.ensures.peeks.within c.in_ok-next.ensures.looks.within p f.fewer
