-- The members so far.
use Rattle.std.proofs.Common.{All, take}
use Rattle.sand_base.specs.Plane.{IsGoalInClosedPlane}
use Rattle.pmr_tree.specs.Entries.{figure_of}
use Rattle.near_cursor.proofs.items.are_members_in_plane.Given as goal

-- each member so far has a rough shape in the closed square
abbrev pub invariant-members : goal.invariant-members
invariant-members l = All (λ i. IsGoalInClosedPlane (figure_of i.1)) (take l.member-index l.members)
