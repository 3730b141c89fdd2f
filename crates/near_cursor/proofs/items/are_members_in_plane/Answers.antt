-- One more rough shape lies in the closed square; one that doesn't is among them all.
use Rattle.std.proofs.Common.{All, refl, sym, subst, ◌∙◌, arith}
use Rattle.std.proofs.lemmas.Bool.{false≢true}
use Rattle.std.proofs.lemmas.List.{take_all}
use Rattle.sand_base.specs.Plane.{IsGoalInClosedPlane}
use Rattle.pmr_tree.specs.Entries.{figure_of}
use Rattle.rank_cursor.proofs.AtZeroEntries.{all_more}
use Rattle.near_cursor.proofs.items.are_members_in_plane.Goals as goal

pub members-preserved : goal.members-preserved
members-preserved c =
    all_more (λ i. IsGoalInClosedPlane (figure_of i.1)) c.args.members.now c.members.member-index _ c.members-test.true c.members.invariant
    (c.is_rough_in_plane.ensures.0 c.if-not-is_rough_in_plane.false)

pub returns-then-not-is_rough_in_plane : goal.returns-then-not-is_rough_in_plane
returns-then-not-is_rough_in_plane c = (
  λ no. absurd (false≢true no),
  λ all. sym c.if-not-is_rough_in_plane.true ∙ c.is_rough_in_plane.ensures.1 (all c.members.member-index _ c.members-test.true),
)

pub returns : goal.returns
returns c = (
  λ yes. subst (All (λ i. IsGoalInClosedPlane (figure_of i.1))) (take_all c.members.member-index c.args.members.now (let end = c.members-test.false in omega arith)) c.members.invariant,
  λ all. refl,
)
