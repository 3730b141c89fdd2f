-- the first place, and then the others
use Rattle.std.proofs.Common.{length, take, drop, ◌-◌, ◌<◌, subst}
use Rattle.sand_model.specs.Operators.{relations_of}
use Rattle.sand_store.specs.Contents.{database_in}
use Rattle.statements.specs.Plan.{plan_value}
use Rattle.plan_ops.proofs.Added.{rest_falls, first_and_rest, spots_added}
use Rattle.plan_ops.proofs.StagesStarted.{first_place, other_places}
use Rattle.plan_ops.proofs.places.+add_spots.Goals as goal

pub spot-requires : goal.spot-requires
spot-requires t c = λ pages.
    let xs = c.args.places.now in
    first_place (database_in pages c.args.catalog.now.relations) (relations_of (plan_value c.args.plan.now)) xs c.place-item.result (take (length xs - 1) (drop 1 xs))
    (first_and_rest xs c.place-item.result c.in-len1-up.len_at_least c.place-item.is) (c.requires pages)

pub add_spots-requires : goal.add_spots-requires
add_spots-requires t c =
    let xs = c.args.places.now in (
      subst (λ n. length (take (length xs - 1) (drop 1 xs)) < n) c.decreases (rest_falls xs c.in-len1-up.len_at_least),
      λ pages. other_places (database_in pages c.args.catalog.now.relations) (relations_of (plan_value c.args.plan.now)) xs c.place-item.result (take (length xs - 1) (drop 1 xs))
          (first_and_rest xs c.place-item.result c.in-len1-up.len_at_least c.place-item.is) (c.requires pages),
    )

pub returns-in_ok-add_spots-in-len1-up : goal.returns-in_ok-add_spots-in-len1-up
returns-in_ok-add_spots-in-len1-up t c = λ pages stands.
    let xs = c.args.places.now in
    spots_added (database_in pages c.args.catalog.now.relations) (relations_of (plan_value c.args.plan.now)) pages xs c.place-item.result
    (take (length xs - 1) (drop 1 xs)) c.in_ok-spot-in-len1-up.field-0
    c.args.found.now.items c.push.new.self.items c.add_spots.new.found.items (first_and_rest xs c.place-item.result c.in-len1-up.len_at_least c.place-item.is)
    c.in_ok-push-in-len1-up.ensures.items (c.in_ok-spot-in-len1-up.ensures pages stands) (c.in_ok-add_spots-in-len1-up.ensures pages stands)
