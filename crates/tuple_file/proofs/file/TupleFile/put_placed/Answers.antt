-- the tree stays while the tuple is put into a page, and then leads to it
use Rattle.std.proofs.Common.{sym, ◌∙◌, ℕ, refl, subst}
use Rattle.code_btree.specs.Tree.{pages_in}
use Rattle.code_btree.specs.Calls.{Inserted}
use Rattle.tuple_file.proofs.Puts.{put_done, put_lies, settled_tree}
use Rattle.tuple_file.proofs.file.TupleFile.put_placed.Goals as goal

pub insert-requires-clause-tree : goal.insert-requires-clause-tree
insert-requires-clause-tree g c = λ h.
    let told = sym c.in_ok-spot.ensures.within.told ∙ h in
    settled_tree (pages_in c.args.pool.now) (pages_in c.settle.new.pool) c.args.self.now c.in_ok-spot.spot.page c.in_ok-spot.spot.slot c.in_ok-spot.spot.start c.args.bytes.now
    (c.requires.file told) (c.in_ok-spot.ensures.value told)

pub returns-clause-value : goal.returns-clause-value
returns-clause-value g c = λ told.
    let I : ℕ → Type 0 = λ k. Inserted (pages_in c.settle.new.pool) (pages_in c.insert.new.pool) c.args.self.now.tree c.insert.new.self k c.place_of.result c.in_ok-_was._was in
    put_done (pages_in c.args.pool.now) (pages_in c.settle.new.pool)
    (pages_in c.insert.new.pool) c.args.self.now c.insert.new.self c.args.id c.in_ok-spot.spot.page c.in_ok-spot.spot.slot c.in_ok-spot.spot.start
    c.place_of.result c.args.bytes.now c.in_ok-_was._was
    (c.requires.file told) (c.requires.fresh told) c.requires.some (c.in_ok-spot.ensures.value told) c.place_of.ensures
    (subst I c.from.ensures (c.in_ok-_was.ensures.value (c.in_ok-spot.ensures.within.told ∙ told)))

pub returns-clause-placed : goal.returns-clause-placed
returns-clause-placed g c = λ told.
    let I : ℕ → Type 0 = λ k. Inserted (pages_in c.settle.new.pool) (pages_in c.insert.new.pool) c.args.self.now.tree c.insert.new.self k c.place_of.result c.in_ok-_was._was in
    put_lies (pages_in c.args.pool.now) (pages_in c.settle.new.pool)
    (pages_in c.insert.new.pool) c.args.self.now c.insert.new.self c.args.id c.in_ok-spot.spot.page c.in_ok-spot.spot.slot c.in_ok-spot.spot.start _
    c.place_of.result c.args.bytes.now c.in_ok-_was._was
    (c.requires.file told) refl (c.in_ok-spot.ensures.value told) c.place_of.ensures (subst I c.from.ensures (c.in_ok-_was.ensures.value (c.in_ok-spot.ensures.within.told ∙ told)))
