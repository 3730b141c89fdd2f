-- Why a ring stands in front, or none does.
use Rattle.std.proofs.Common.{◌+◌, length, ap, ◌∙◌, arith}
use Rattle.std.proofs.lemmas.List.{length_push}
use Rattle.sand_base.specs.Plane.{IsInPlane}
use Rattle.tuple_codec.specs.Encoding.{point_bytes}
use Rattle.tuple_codec.proofs.Lists.{begins, stops, reads}
use Rattle.tuple_codec.proofs.Corners.{AreInClosedPlane, points_free, corners_go_on, ring_short, ring_bad, ring_read}
use Rattle.tuple_codec.proofs.figures.read_ring.Goals as goal

-- no vertex was read yet
pub corners-init : goal.corners-init
corners-init c = record {
  many = ap length c.in_ok-corners.ensures.items;
  read = rw c.in_ok-corners.ensures.items (begins (AreInClosedPlane c.in-Some.count) point_bytes c.byte.new.self.left.now);
}

-- a vertex is missing
pub returns-in_default-read_point : goal.returns-in_default-read_point
returns-in_default-read_point c =
    ring_short c.args.reader.now.left.now c.byte.new.self.left.now c.in-Some.count c.in-Some.ensures
    (stops IsInPlane (AreInClosedPlane c.in-Some.count) point_bytes c.byte.new.self.left.now c.corners.corners.items c.corners.reader.left.now
    c.corners.invariant.read
    (corners_go_on c.in-Some.count c.corners.corners.items (omega (arith, c.corners.invariant.many)))
    c.in_default-read_point.ensures)

-- one more vertex was read
pub corners-preserved : goal.corners-preserved
corners-preserved c = record {
  many =
      ap length c.in_ok-push.ensures.items
      ∙ length_push c.corners.corners.items c.in-Some-read_point.corner
      ∙ ap (λ n. n + 1) c.corners.invariant.many;
  read =
      rw c.in_ok-push.ensures.items
      (reads IsInPlane (AreInClosedPlane c.in-Some.count) point_bytes points_free c.byte.new.self.left.now c.corners.corners.items c.corners.reader.left.now
      c.read_point.new.reader.left.now c.in-Some-read_point.corner c.corners.invariant.read
      (corners_go_on c.in-Some.count c.corners.corners.items (omega (arith, c.corners.invariant.many)))
      c.in-Some-read_point.ensures.0 c.in-Some-read_point.ensures.1);
}

-- the vertices are a ring
pub returns-in-Ok : goal.returns-in-Ok
returns-in-Ok c =
    rw c.in-Ok.ensures.ring.0 (
      c.in-Ok.ensures.ring.1,
      ring_read c.args.reader.now.left.now c.byte.new.self.left.now c.corners.reader.left.now c.in-Some.count c.corners.corners.items
          c.in-Some.ensures (omega (arith, c.corners.invariant.many)) c.corners.invariant.read,
    )

-- they are none
pub returns : goal.returns
returns c =
    ring_bad c.args.reader.now.left.now c.byte.new.self.left.now c.corners.reader.left.now c.in-Some.count c.corners.corners.items
    c.in-Some.ensures (omega (arith, c.corners.invariant.many)) c.corners.invariant.read c.in-Err.ensures.ring.1
