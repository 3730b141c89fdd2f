-- Why a grid point stands in front, or none does.
use Rattle.std.proofs.lemmas.Bool.{false≢true}
use Rattle.tuple_codec.proofs.Corners.{point_short, point_outside}
use Rattle.tuple_codec.proofs.figures.read_point.Goals as goal

-- the second coordinate is missing
pub returns-in_default-coordinate : goal.returns-in_default-coordinate
returns-in_default-coordinate c =
    point_short c.args.reader.now.left.now c.coordinate.new.self.left.now c.in-Some.x c.in-Some.ensures.0 c.in-Some.ensures.1 c.in_default-coordinate.ensures

-- the coordinates are outside of the plane
pub returns-else-is_in_plane : goal.returns-else-is_in_plane
returns-else-is_in_plane c =
    point_outside c.args.reader.now.left.now c.coordinate.new.self.left.now c.coordinate-2.new.self.left.now
    (record { x = c.in-Some.x; y = c.in-Some-coordinate.y })
    c.in-Some.ensures.0 c.in-Some-coordinate.ensures.0 c.in-Some.ensures.1 c.in-Some-coordinate.ensures.1
    (λ inside. false≢true (c.if-is_in_plane.ensures.1 inside))
