-- the first entry of the second goes to the end of the first, or the last one of the first to the front of the second
use Rattle.std.proofs.Common.{◌≡◌, ◌-◌, ◌∙◌, ℕ, get_or, sym, ap, ap₂, arith}
use Rattle.code_btree.specs.Node.{Pair, Node, node_of, entries_of}
use Rattle.code_btree.proofs.Halves.{halves_leaf_at}
use Rattle.code_btree.proofs.Joins.{even_low, even_high}
use Rattle.code_btree.proofs.Looks.{entry_is}
use Rattle.code_btree.proofs.join.even_leaves.Goals as goal

pub returns-then-count-more-clause-halves : goal.returns-then-count-more-clause-halves
returns-then-count-more-clause-halves c = λ p q.
    let x : Pair = (c.entry_key_at.result, c.entry_value_at.result) in
    let at : x ≡ get_or (entries_of (node_of c.args.right.now)) 0 x = ap₂ (λ (i j : ℕ). (i, j)) c.entry_key_at.ensures c.entry_value_at.ensures
    ∙ sym (entry_is c.args.right.now c.args.more 0 x c.requires.right_leaf (omega arith)) in
    halves_leaf_at _ _ _ _ _ (ap (λ (o : Node). entries_of o) c.put_entry.ensures.value) (ap (λ (o : Node). entries_of o) c.splice_entries.ensures.value)
    (even_low c.args.count c.args.more x (entries_of (node_of c.args.page.now))
    (entries_of (node_of c.args.right.now)) c.requires.leaf.counted c.requires.right_leaf.counted c.if-count-more.true c.requires.many c.requires.right_leaf.fits at p q)

pub returns-clause-halves : goal.returns-clause-halves
returns-clause-halves c = λ p q.
    let x : Pair = (c.entry_key_at-2.result, c.entry_value_at-2.result) in
    let at : x ≡ get_or (entries_of (node_of c.args.page.now)) (c.args.count - 1) x = ap₂ (λ (i j : ℕ). (i, j)) c.entry_key_at-2.ensures c.entry_value_at-2.ensures
    ∙ sym (entry_is c.args.page.now c.args.count (c.args.count - 1) x c.requires.leaf (omega (arith, p))) in
    halves_leaf_at _ _ _ _ _ (ap (λ (o : Node). entries_of o) c.splice_entries-2.ensures.value) (ap (λ (o : Node). entries_of o) c.put_entry-2.ensures.value)
    (even_high c.args.count c.args.more x (entries_of (node_of c.args.page.now))
    (entries_of (node_of c.args.right.now)) c.requires.leaf.counted c.requires.right_leaf.counted c.if-count-more.false c.requires.many c.requires.room c.requires.leaf.fits at p q)
