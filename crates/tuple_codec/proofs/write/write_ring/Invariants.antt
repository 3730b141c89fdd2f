-- What the loop over the vertices keeps.
use Rattle.std.proofs.Common.{◌≡◌, ◌∷◌, ◌++◌, length, take}
use Rattle.std.specs.List.{flat_map}
use Rattle.tuple_codec.specs.Encoding.{point_bytes}
use Rattle.tuple_codec.proofs.write.write_ring.Given as goal

-- the count and the vertices so far stand at the end
abbrev pub invariant-corners : goal.invariant-corners
invariant-corners l = l.bytes.items ≡ l.fn.bytes.items ++ length l.corners ∷ flat_map point_bytes (take l.corner-index l.corners)
