-- The branches so far.
use Rattle.std.proofs.Common.{All, take}
use Rattle.sand_base.specs.Plane.{IsRectInClosedPlane}
use Rattle.near_cursor.proofs.items.are_branches_in_plane.Given as goal

-- each branch so far has a rectangle in the closed square
abbrev pub invariant-branches : goal.invariant-branches
invariant-branches l = All (λ b. IsRectInClosedPlane b.0) (take l.branch-index l.branches)
