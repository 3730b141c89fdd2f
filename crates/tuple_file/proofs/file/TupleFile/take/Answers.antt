-- the tree leads to the tuple no more, which is taken out of its page
use Rattle.std.proofs.Common.{sym, ◌∙◌}
use Rattle.std.specs.Prelude.{None, Some}
use Rattle.code_btree.specs.Tree.{pages_in}
use Rattle.tuple_file.proofs.Takes.{take_done, take_none, taken_sound, newest_is, removed_as}
use Rattle.tuple_file.proofs.file.TupleFile.take.Goals as goal

pub returns-in_default-clause-value : goal.returns-in_default-clause-value
returns-in_default-clause-value g c = λ told.
    take_none (pages_in c.args.pool.now) (pages_in c.remove.new.pool) c.args.self.now c.remove.new.self c.args.id (c.requires.file told)
    (removed_as (pages_in c.args.pool.now) (pages_in c.remove.new.pool) c.args.self.now.tree c.remove.new.self c.from.result c.args.id c.in_ok-place.field-0 None c.from.ensures c.in_default.is
    (c.in_ok-place.ensures.value told))

pub empty-requires-clause-sound : goal.empty-requires-clause-sound
empty-requires-clause-sound g c = λ h.
    let told = sym c.in_ok-place.ensures.within.told ∙ h in
    taken_sound (pages_in c.args.pool.now) (pages_in c.remove.new.pool) c.args.self.now c.remove.new.self c.args.id c.in-Some-spot_of.page c.in-Some.place (c.requires.file told)
    (removed_as (pages_in c.args.pool.now) (pages_in c.remove.new.pool) c.args.self.now.tree c.remove.new.self c.from.result c.args.id c.in_ok-place.field-0
    (Some c.in-Some.place) c.from.ensures c.in-Some.is (c.in_ok-place.ensures.value told))
    c.in-Some-spot_of.ensures.page

pub returns-clause-value : goal.returns-clause-value
returns-clause-value g c = λ told.
    take_done (pages_in c.args.pool.now) (pages_in c.remove.new.pool)
    (pages_in c.empty.new.pool) c.args.self.now c.remove.new.self c.args.id c.in-Some-spot_of.page c.in-Some-spot_of.slot c.in-Some.place c.in_ok-freed.freed c.unless_freed.result
    (c.requires.file told)
    (removed_as (pages_in c.args.pool.now) (pages_in c.remove.new.pool) c.args.self.now.tree c.remove.new.self c.from.result c.args.id c.in_ok-place.field-0
    (Some c.in-Some.place) c.from.ensures c.in-Some.is (c.in_ok-place.ensures.value told))
    c.in-Some-spot_of.ensures.page c.in-Some-spot_of.ensures.slot (c.in_ok-freed.ensures.value (c.in_ok-place.ensures.within.told ∙ told))
    (newest_is c.args.self.now.newest c.unless_freed.result c.in-Some-spot_of.page c.in_ok-freed.freed c.unless_freed.ensures.same c.unless_freed.ensures.live c.unless_freed.ensures.kept)
