-- the cut is chosen so that the first part has 63 entries
use Rattle.std.proofs.Common.{ap, ◌∙◌, ◌-◌, arith}
use Rattle.code_btree.specs.Node.{Node, entries_of}
use Rattle.code_btree.specs.Steps.{put_at}
use Rattle.code_btree.proofs.Halves.{halves_low, halves_high, halves_leaf_at}
use Rattle.code_btree.proofs.split.cut_leaf.Goals as goal

pub returns-then-at-le62-clause-halves : goal.returns-then-at-le62-clause-halves
returns-then-at-le62-clause-halves c = halves_leaf_at _ _ _ _ _
    (ap (λ (o : Node). entries_of o) c.put_entry.ensures.value ∙ ap (λ (o : Node). put_at c.args.at (c.args.key, c.args.value) (entries_of o)) c.splice_entries-then-at-le62.ensures.value)
    (ap (λ (o : Node). entries_of o) c.splice_entries.ensures.value)
    (halves_low c.args.at (c.args.key, c.args.value) _ c.requires.leaf.counted c.if-at-le62.true)

pub returns-clause-halves : goal.returns-clause-halves
returns-clause-halves c = halves_leaf_at _ _ _ _ _
    (ap (λ (o : Node). entries_of o) c.splice_entries-3.ensures.value)
    (ap (λ (o : Node). entries_of o) c.put_entry-2.ensures.value ∙ ap (λ (o : Node). put_at (c.args.at - 63) (c.args.key, c.args.value) (entries_of o)) c.splice_entries-2.ensures.value)
    (halves_high c.args.at (c.args.key, c.args.value) _ c.requires.leaf.counted (omega arith) c.requires.place)
