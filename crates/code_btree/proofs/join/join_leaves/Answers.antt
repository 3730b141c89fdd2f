-- the entries of the second stand behind those of the first
use Rattle.std.proofs.Common.{◌≡◌, ◌+◌, ◌-◌, ◌/◌, ◌++◌, ◌∙◌, ℕ, List, length, take, drop, ap, ap₂, subst, arith}
use Rattle.code_btree.specs.Node.{Pair, Node, leaf, node_of, entries_of, IsLeafOf}
use Rattle.code_btree.proofs.Joins.{joined}
use Rattle.code_btree.proofs.join.join_leaves.Goals as goal

pub set_next-requires : goal.set_next-requires
set_next-requires c =
    let P : ℕ → Type 0 = λ x. IsLeafOf c.splice_entries.new.page x in
    let e : c.args.count + (length c.entries_at.result.now / 32 + (c.args.count - c.args.count)) ≡ c.args.count + c.args.more = omega (arith, c.entries_at.ensures.size) in
    subst P e c.splice_entries.ensures.is

pub returns : goal.returns
returns c =
    let es : List Pair = entries_of (node_of c.args.page.now) in
    let fs : List Pair = entries_of (node_of c.args.right.now) in
    let part = c.entries_at.ensures.entries c.requires.right_leaf in
    let row : take c.args.count es ++ (take (c.args.more - 0) (drop 0 fs) ++ drop c.args.count es) ≡ es ++ fs =
    joined c.args.count (c.args.more - 0) es fs c.requires.leaf.counted (omega (arith, c.requires.right_leaf.counted)) in
    c.set_next.ensures.value
    ∙ ap₂ (λ (x : List Pair) (y : ℕ). leaf x y) (ap (λ (x : Node). entries_of x) c.splice_entries.ensures.value
    ∙ (ap (λ (x : List Pair). take c.args.count es ++ (x ++ drop c.args.count es)) part ∙ row)) (c.next_at.ensures c.requires.right_leaf.is_leaf)
