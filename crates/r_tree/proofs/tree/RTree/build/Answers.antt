-- a root over the last level is a tree of the list
use Rattle.std.proofs.Common.{◌≡◌, ◌-◌, ◌∙◌, ℕ, Bool, List, [], refl, sym, ap, subst, arith, nat_lt}
use Rattle.code_btree.specs.Tree.{Store, pages_in}
use Rattle.r_tree.specs.declared.entry.NodeEntry.{NodeEntry}
use Rattle.r_tree.specs.Entry.{bound_of}
use Rattle.r_tree.specs.Steps.{GainsNode}
use Rattle.r_tree.proofs.Removes.{is_inner_test}
use Rattle.r_tree.proofs.Roots.{Rooted}
use Rattle.r_tree.proofs.Wholes.{plants_of}
use Rattle.r_tree.proofs.Tilings.{built}
use Rattle.r_tree.proofs.tree.RTree.build.Goals as goal

pub returns-clause-value : goal.returns-clause-value
returns-clause-value g c = λ told.
    let m : Store = pages_in c.args.pool.now in
    let u : Store = pages_in c.tile_all.new.pool in
    let w : Store = pages_in c.gain_node.new.pool in
    let es : List NodeEntry = c.in_ok-top.top.entries.items in
    let l : ℕ = c.in_ok-top.top.level in
    let R : ℕ → Type 0 = λ x. Rooted m w x c.in_ok-root.root c.bound_of-bound.result [] [] [] c.args.list.now in
    let B : Bool → Type 0 = λ x. GainsNode u w c.in_ok-root.root x es in
    let E : List NodeEntry → Type 0 = λ x. GainsNode u w c.in_ok-root.root (nat_lt 0 l) x in
    let level : c.in-Some.height - 1 ≡ l = omega (arith, c.in-Some.ensures) in
    plants_of m w _ c.args.number c.args.list.now (omega (arith, c.in-Some.ensures)) refl
    (subst R (sym level) (built m u w l c.in_ok-root.root c.bound_of-bound.result es c.args.list.now c.in_ok-top.ensures.fits
    (c.bound_of-bound.ensures ∙ ap (λ (x : List NodeEntry). bound_of x) c.deref.ensures.value) (c.requires.once told) c.in_ok-top.ensures.value
    (subst B (is_inner_test l) (subst E c.deref-2.ensures.value c.in_ok-root.ensures.value))))
