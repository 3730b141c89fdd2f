-- Which points are grid points of the plane that is indexed, and which lists of them are rings.
use Rattle.std.specs.Prelude.{◌^◌, ◌<◌, ◌≤◌, List, length, All}
use Rattle.sand_base.specs.declared.TheConstants.{COORDINATE_BITS}
use Rattle.sand_base.specs.declared.point.Point.{Point}

-- the point is a grid point of the plane
pub record IsInPlane (p : Point) : Type 0 where
  pub x : p.x < 2 ^ COORDINATE_BITS
  pub y : p.y < 2 ^ COORDINATE_BITS

-- the point is a grid point of the closed square round the plane, where the corners of blocks lie
pub record IsInClosedPlane (p : Point) : Type 0 where
  pub x : p.x ≤ 2 ^ COORDINATE_BITS
  pub y : p.y ≤ 2 ^ COORDINATE_BITS

-- a ring has 3 to 64 vertices, grid points of the plane
pub record IsRing (corners : List Point) : Type 0 where
  pub fewest : 3 ≤ length corners
  pub most : length corners ≤ 64
  pub in_plane : All IsInPlane corners
