-- the root is whole, or a new one stands over both halves
use Rattle.std.proofs.Common.{◌≡◌, ◌-◌, ◌≤◌, ◌∷◌, ◌++◌, [], ℕ, suc, List, refl, sym, ◌∙◌, ap, subst, arith}
use Rattle.code_btree.specs.Tree.{Store, pages_in}
use Rattle.r_tree.specs.declared.entry.NodeEntry.{NodeEntry}
use Rattle.r_tree.specs.declared.insert.Grown.{Grown}
use Rattle.r_tree.specs.declared.insert.Grown.TheVariants.{Split}
use Rattle.r_tree.specs.Entry.{Member, bound_of}
use Rattle.r_tree.specs.Tree.{tree_members, rtree_pages}
use Rattle.r_tree.specs.Steps.{EntersUnder, raised}
use Rattle.r_tree.proofs.Roots.{Rooted, inserted_kept, inserted_split}
use Rattle.r_tree.proofs.Wholes.{inserts_of}
use Rattle.r_tree.proofs.tree.RTree.insert.Goals as goal

pub returns-in-Kept-clause-value : goal.returns-in-Kept-clause-value
returns-in-Kept-clause-value g c = λ told.
    let m : Store = pages_in c.args.pool.now in
    let w : Store = pages_in c.insert_under.new.pool in
    let t = c.args.self.now in
    let i : Member = (c.args.id, c.args.rough) in
    let G : Grown → Type 0 = λ x. EntersUnder m w (t.height - 1) t.root i x in
    inserts_of m w t _ c.args.id c.args.rough (c.requires.tree told) (c.requires.tree told).tall refl
    (inserted_kept m w (t.height - 1) t.root t.bound i c.in-Kept.bound (c.requires.tree told).at (c.requires.unlisted told) (subst G c.in-Kept.is (c.in_ok-grown.ensures.value told)))

pub returns-in_ok-root-in-Split-clause-value : goal.returns-in_ok-root-in-Split-clause-value
returns-in_ok-root-in-Split-clause-value g c = λ told.
    let m : Store = pages_in c.args.pool.now in
    let u : Store = pages_in c.insert_under.new.pool in
    let w : Store = pages_in c.gain_node.new.pool in
    let t = c.args.self.now in
    let i : Member = (c.args.id, c.args.rough) in
    let g2 : Grown = Split c.in-Split.field-0 c.in-Split.field-1 c.in-Split.field-2 in
    let G : Grown → Type 0 = λ x. EntersUnder m u (t.height - 1) t.root i x in
    let tall : 1 ≤ t.height = (c.requires.tree told).tall in
    let level : c.in-Some.height - 1 ≡ suc (t.height - 1) = omega (arith, c.in-Some.ensures, tall) in
    let es : List NodeEntry = c.deref-in-Split.result.now in
    let e : es ≡ raised t.root g2 = c.deref-in-Split.ensures.value
    ∙ (c.in_ok-raise-in-Split.ensures ∙ (ap (λ (x : List NodeEntry). x ++ raised t.root c.in_ok-grown.grown) c.new-entries.ensures.items ∙ ap (λ (x : Grown). raised t.root x) c.in-Split.is)) in
    let R : ℕ → Type 0 = λ x. Rooted m w x c.in_ok-root-in-Split.root c.bound_of-bound.result (rtree_pages m t) (tree_members m t) [] (i ∷ []) in
    inserts_of m w t _ c.args.id c.args.rough (c.requires.tree told) (omega (arith, c.in-Some.ensures)) refl
    (subst R (sym level) (inserted_split m u w (t.height - 1) t.root c.in_ok-root-in-Split.root t.bound c.bound_of-bound.result i c.in-Split.field-0 c.in-Split.field-1 c.in-Split.field-2 es e
    (c.requires.tree told).at (c.requires.unlisted told) (subst G c.in-Split.is (c.in_ok-grown.ensures.value told)) c.in_ok-root-in-Split.ensures.value
    (c.bound_of-bound.ensures ∙ ap (λ (x : List NodeEntry). bound_of x) (c.deref.ensures.value ∙ sym c.deref-in-Split.ensures.value))))
