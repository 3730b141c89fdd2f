-- the page is cut in its middle, and the child goes into one half
use Rattle.std.proofs.Common.{ap, ◌∙◌, ◌+◌, ◌-◌, sym, arith}
use Rattle.code_btree.specs.Node.{Node, keys_of, child_pages}
use Rattle.code_btree.specs.Steps.{put_at}
use Rattle.code_btree.proofs.Halves.{inner_low, inner_high, halves_inner_at}
use Rattle.code_btree.proofs.Looks.{key_is}
use Rattle.code_btree.proofs.split.cut_inner.Goals as goal

pub returns-then-at-le84-clause-halves : goal.returns-then-at-le84-clause-halves
returns-then-at-le84-clause-halves c = halves_inner_at _ _ _ _ _ _ _ _ _ _ _ _
    (ap (λ (o : Node). keys_of o) c.put_child.ensures.value ∙ ap (λ (o : Node). put_at c.args.at c.args.key (keys_of o)) c.splice_inner-2.ensures.value)
    (ap (λ (o : Node). child_pages o) c.put_child.ensures.value ∙ ap (λ (o : Node). put_at (c.args.at + 1) c.args.child (child_pages o)) c.splice_inner-2.ensures.value)
    (c.key_at-up.ensures ∙ sym (key_is c.args.page.now 169 84 c.requires.inner (omega arith)))
    (ap (λ (o : Node). keys_of o) c.splice_inner.ensures.value)
    (ap (λ (o : Node). child_pages o) c.splice_inner.ensures.value)
    (inner_low c.args.at c.args.key c.args.child _ _ c.requires.inner.counted c.requires.inner.children c.if-at-le84.true)

pub returns-clause-halves : goal.returns-clause-halves
returns-clause-halves c = halves_inner_at _ _ _ _ _ _ _ _ _ _ _ _
    (ap (λ (o : Node). keys_of o) c.splice_inner-2.ensures.value)
    (ap (λ (o : Node). child_pages o) c.splice_inner-2.ensures.value)
    (c.key_at-up.ensures ∙ sym (key_is c.args.page.now 169 84 c.requires.inner (omega arith)))
    (ap (λ (o : Node). keys_of o) c.put_child-2.ensures.value ∙ ap (λ (o : Node). put_at (c.args.at - 85) c.args.key (keys_of o)) c.splice_inner.ensures.value)
    (ap (λ (o : Node). child_pages o) c.put_child-2.ensures.value ∙ ap (λ (o : Node). put_at ((c.args.at - 85) + 1) c.args.child (child_pages o)) c.splice_inner.ensures.value)
    (inner_high c.args.at c.args.key c.args.child _ _ c.requires.inner.counted c.requires.inner.children (omega arith) c.requires.place)
