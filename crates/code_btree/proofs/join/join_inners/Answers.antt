-- the key between and the first child, and then the other keys and children
use Rattle.std.proofs.Common.{◌+◌, ◌-◌, ◌++◌, ◌∙◌, ℕ, List, take, drop, sym, ap, ap₂, arith}
use Rattle.code_btree.specs.Node.{Node, inner, node_of, keys_of, child_pages}
use Rattle.code_btree.proofs.Joins.{joined_keys, joined_children}
use Rattle.code_btree.proofs.Looks.{child_is}
use Rattle.code_btree.proofs.join.join_inners.Goals as goal

pub returns : goal.returns
returns c =
    let n : ℕ = c.args.count in
    let k : ℕ = c.args.more in
    let ks : List ℕ = keys_of (node_of c.args.page.now) in
    let cs : List ℕ = child_pages (node_of c.args.page.now) in
    let js : List ℕ = keys_of (node_of c.args.right.now) in
    let ds : List ℕ = child_pages (node_of c.args.right.now) in
    let mk = ap (λ (o : Node). keys_of o) c.put_child.ensures.value in
    let mc = ap (λ (o : Node). child_pages o) c.put_child.ensures.value in
    c.splice_inner.ensures.value
    ∙ ap₂ (λ (x y : List ℕ). inner x y)
    (ap₂ (λ (x y : List ℕ). take (n + 1) x ++ (y ++ drop (n + 1) x)) mk (c.keys_at.ensures.keys c.requires.right_inner)
    ∙ joined_keys n (k - 0) c.args.key ks js c.requires.inner.counted (omega (arith, c.requires.right_inner.counted)))
    (ap₂ (λ (x y : List ℕ). take (n + 2) x ++ (y ++ drop (n + 2) x)) mc (c.children_at.ensures.children c.requires.right_inner)
    ∙ joined_children n k c.child_at.result cs ds c.requires.inner.children c.requires.right_inner.children
    (c.child_at.ensures ∙ sym (child_is c.args.right.now k 0 c.requires.right_inner (omega arith))))
