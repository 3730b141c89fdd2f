-- the root is whole, or a new one stands above it
use Rattle.std.proofs.Common.{◌≡◌, ◌+◌, ◌-◌, subst, arith}
use Rattle.code_btree.specs.Tree.{Store, pages_in}
use Rattle.code_btree.specs.Steps.{InsertsUnder}
use Rattle.code_btree.specs.declared.insert.Grown.{Grown}
use Rattle.code_btree.proofs.Roots.{subtree_of, root_kept, root_grown}
use Rattle.code_btree.proofs.map.Tree.insert.Goals as goal

pub insert_under-requires-clause-tree : goal.insert_under-requires-clause-tree
insert_under-requires-clause-tree g c = λ told. subtree_of (pages_in c.args.pool.now) (c.args.self.now.height - 1) c.args.self.now.root c.args.self.now.entries (c.requires.tree told).at

pub returns-in-Kept-clause-value : goal.returns-in-Kept-clause-value
returns-in-Kept-clause-value g c = λ told.
    let m : Store = pages_in c.args.pool.now in
    let w : Store = pages_in c.insert_under.new.pool in
    let G : Grown → Type 0 = λ x. InsertsUnder m w (c.args.self.now.height - 1) c.args.self.now.root c.args.key c.args.value c.in_ok-was.was' x in
    root_kept m w c.args.self.now c.args.key c.args.value c.in-Some.entries c.in_ok-was.was' (c.requires.tree told) (subst G c.in-Kept.is (c.in_ok-was.ensures.value told)) c.in-Some.ensures

pub returns-in_ok-root-in-Split-clause-value : goal.returns-in_ok-root-in-Split-clause-value
returns-in_ok-root-in-Split-clause-value g c = λ told.
    let m : Store = pages_in c.args.pool.now in
    let w : Store = pages_in c.insert_under.new.pool in
    let x : Store = pages_in c.gain.new.pool in
    let G : Grown → Type 0 = λ y. InsertsUnder m w (c.args.self.now.height - 1) c.args.self.now.root c.args.key c.args.value c.in_ok-was.was' y in
    let taller : c.in-Some-checked_add.height ≡ c.args.self.now.height + 1 = omega (arith, c.in-Some-checked_add.ensures) in
    root_grown m w x c.args.self.now c.args.key c.args.value c.in-Some.entries c.in-Some-checked_add.height c.in-Split.up c.in-Split.right c.in_ok-root-in-Split.root c.in_ok-was.was' c.new_root.result
    (c.requires.tree told) (subst G c.in-Split.is (c.in_ok-was.ensures.value told)) c.in-Some.ensures taller c.in_ok-root-in-Split.ensures.value c.new_root.ensures
