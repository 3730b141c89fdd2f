-- nothing was taken
use Rattle.std.specs.Int.{w64}
use Rattle.std.proofs.lemmas.Int.{to_z-of_z}
use Rattle.sand_store.specs.Contents.{database_in}
use Rattle.plan_names.specs.Spots.{names_of}
use Rattle.plan_sources.proofs.Bounds.{between_begun}
use Rattle.plan_sources.proofs.pick_between.PickBetween.start.Goals as goal

pub returns-clause-begun : goal.returns-clause-begun
returns-clause-begun c = λ pages h.
    rw (to_z-of_z w64 c.args.low c.ranges.low, to_z-of_z w64 c.args.high c.ranges.high)
    (between_begun pages c.in-Some.look_up (database_in pages c.args.catalog.now.relations)
    (names_of c.args.relation.now c.args.column.now) c.args.low c.args.high c.greatest-greatest.result ((rw c.in-Some.is at c.in_ok-look_up.ensures.found) pages h)
    (c.has_ints.ensures.ints c.if-not-has_ints.false) c.ranges.low c.ranges.high (rw c.deref.ensures at c.greatest-greatest.ensures.given) c.greatest-greatest.type_inv)
