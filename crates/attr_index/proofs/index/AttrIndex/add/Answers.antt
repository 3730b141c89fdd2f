-- the tree has the entry's place
use Rattle.std.proofs.Common.{◌∙◌, ap, List, ℕ}
use Rattle.code_btree.specs.Tree.{pages_in}
use Rattle.attr_index.specs.Key.{key_number}
use Rattle.attr_index.specs.Entries.{entry_number}
use Rattle.attr_index.proofs.Changes.{added}
use Rattle.attr_index.proofs.index.AttrIndex.add.Goals as goal

pub returns-clause-value : goal.returns-clause-value
returns-clause-value g c = λ told.
    added (pages_in c.args.pool.now) (pages_in c.insert.new.pool) c.args.self.now c.insert.new.self c.args.value.now c.args.id c.place_of-place.result c.length_of.result c.in_ok-_was._was
    c.requires.attribute c.key_of.ensures.range c.ranges.id.fits
    (c.place_of-place.ensures.place ∙ ap (λ (b : List ℕ). entry_number (key_number b, c.args.id)) c.key_of.ensures.value) c.length_of.ensures (c.requires.index told)
    (c.in_ok-_was.ensures.value told)
