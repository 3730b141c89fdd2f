-- the first child of the second goes to the end of the first, or the last one of the first to the front of the second
use Rattle.std.proofs.Common.{◌-◌, ◌++◌, ◌∙◌, ℕ, List, refl, sym, ap, arith}
use Rattle.code_btree.specs.Node.{Node, node_of, keys_of, child_pages}
use Rattle.code_btree.proofs.Halves.{halves_inner_at}
use Rattle.code_btree.proofs.Joins.{inners_low, inners_high}
use Rattle.code_btree.proofs.Looks.{key_is, child_is}
use Rattle.code_btree.proofs.join.even_inners.Goals as goal

pub returns-then-count-more-clause-halves : goal.returns-then-count-more-clause-halves
returns-then-count-more-clause-halves c = λ p q. halves_inner_at _ _ _ _ _ _ _ _ _ _ _ _
    (ap (λ (o : Node). keys_of o) c.put_child.ensures.value)
    (ap (λ (o : Node). child_pages o) c.put_child.ensures.value)
    refl
    (ap (λ (o : Node). keys_of o) c.splice_inner.ensures.value)
    (ap (λ (o : Node). child_pages o) c.splice_inner.ensures.value)
    (inners_low c.args.count c.args.more c.args.key c.key_at-up.result c.child_at.result _ _ _ _ c.requires.inner.counted c.requires.inner.children c.requires.right_inner.counted c.requires.right_inner.children c.if-count-more.true c.requires.many c.requires.right_inner.fits
    (c.key_at-up.ensures ∙ sym (key_is c.args.right.now c.args.more 0 c.requires.right_inner (omega arith)))
    (c.child_at.ensures ∙ sym (child_is c.args.right.now c.args.more 0 c.requires.right_inner (omega arith))) p q)

pub returns-clause-halves : goal.returns-clause-halves
returns-clause-halves c = λ p q. halves_inner_at _ _ _ _ _ _ _ _ _ _ _ _
    (ap (λ (o : Node). keys_of o) c.splice_inner-3.ensures.value)
    (ap (λ (o : Node). child_pages o) c.splice_inner-3.ensures.value)
    refl
    (ap (λ (o : Node). keys_of o) c.splice_inner-2.ensures.value ∙ ap (λ (x : List ℕ). x ++ keys_of (node_of c.args.right.now)) c.key_bytes.ensures)
    (ap (λ (o : Node). child_pages o) c.splice_inner-2.ensures.value ∙ ap (λ (x : List ℕ). x ++ child_pages (node_of c.args.right.now)) c.child_bytes.ensures)
    (inners_high c.args.count c.args.more c.args.key c.key_at-up-2.result c.child_at-2.result _ _ _ _ c.requires.inner.counted c.requires.inner.children c.requires.right_inner.counted c.requires.right_inner.children c.if-count-more.false c.requires.many c.requires.room c.requires.inner.fits
    (c.key_at-up-2.ensures ∙ sym (key_is c.args.page.now c.args.count (c.args.count - 1) c.requires.inner (omega (arith, p))))
    (c.child_at-2.ensures ∙ sym (child_is c.args.page.now c.args.count c.args.count c.requires.inner (omega arith))) p q)
