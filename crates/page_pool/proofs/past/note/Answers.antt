use Rattle.std.proofs.Common.{◌≡◌, Some, subst}
use Rattle.std.specs.FinMap as map
use Rattle.page_pool.proofs.Maps.{found-insert}
use Rattle.page_pool.proofs.past.note.Goals as goal

-- the image is in its place more
pub returns-in-Ok : goal.returns-in-Ok
returns-in-Ok c = λ q e there. found-insert c.args.places.now c.args.place c.args.past q e (subst (λ m. map.get m q ≡ Some e) c.in-Ok.ensures.changed there)
