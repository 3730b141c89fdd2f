-- What the loop over the vertices keeps.
use Rattle.std.proofs.Common.{◌≡◌, length}
use Rattle.tuple_codec.specs.Encoding.{point_bytes}
use Rattle.tuple_codec.proofs.Lists.{HasRead}
use Rattle.tuple_codec.proofs.Corners.{AreInClosedPlane}
use Rattle.tuple_codec.proofs.figures.read_ring.Given as goal

-- so many vertices were read
abbrev pub invariant-corners : goal.invariant-corners
invariant-corners l = record {
  many : length l.corners.items ≡ l.counter;
  read : HasRead (AreInClosedPlane l.count) point_bytes l.initial.reader.left.now l.corners.items l.reader.left.now;
}
