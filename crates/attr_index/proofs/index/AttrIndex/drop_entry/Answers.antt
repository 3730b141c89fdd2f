-- the tree lacks the entry's place
use Rattle.std.proofs.Common.{◌∙◌, ap, List, ℕ}
use Rattle.code_btree.specs.Tree.{pages_in}
use Rattle.attr_index.specs.Key.{key_number}
use Rattle.attr_index.specs.Entries.{entry_number}
use Rattle.attr_index.proofs.Changes.{dropped}
use Rattle.attr_index.proofs.index.AttrIndex.drop_entry.Goals as goal

pub returns-clause-value : goal.returns-clause-value
returns-clause-value g c = λ told.
    dropped (pages_in c.args.pool.now) (pages_in c.remove.new.pool) c.args.self.now c.remove.new.self c.args.value.now c.args.id c.place_of.result c.in_ok-_was._was
    (c.place_of.ensures.place ∙ ap (λ (b : List ℕ). entry_number (key_number b, c.args.id)) c.key_of.ensures.value) (c.requires.index told) (c.in_ok-_was.ensures.value told)
