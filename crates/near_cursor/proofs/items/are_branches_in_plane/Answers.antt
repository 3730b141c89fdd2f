-- One more rectangle lies in the closed square; one that doesn't is among them all.
use Rattle.std.proofs.Common.{All, refl, sym, subst, ◌∙◌, arith}
use Rattle.std.proofs.lemmas.Bool.{false≢true}
use Rattle.std.proofs.lemmas.List.{take_all}
use Rattle.sand_base.specs.Plane.{IsRectInClosedPlane}
use Rattle.rank_cursor.proofs.AtZeroEntries.{all_more}
use Rattle.near_cursor.proofs.InPlane.{in_plane_true, true_in_plane}
use Rattle.near_cursor.proofs.items.are_branches_in_plane.Goals as goal

pub branches-preserved : goal.branches-preserved
branches-preserved c =
    all_more (λ b. IsRectInClosedPlane b.0) c.args.branches.now c.branches.branch-index _ c.branches-test.true c.branches.invariant
    (true_in_plane _ (sym c.is_rect_in_plane.ensures ∙ c.if-not-is_rect_in_plane.false))

pub returns-then-not-is_rect_in_plane : goal.returns-then-not-is_rect_in_plane
returns-then-not-is_rect_in_plane c = (
  λ no. absurd (false≢true no),
  λ all. sym c.if-not-is_rect_in_plane.true ∙ (c.is_rect_in_plane.ensures ∙ in_plane_true _ (all c.branches.branch-index _ c.branches-test.true)),
)

pub returns : goal.returns
returns c = (
  λ yes. subst (All (λ b. IsRectInClosedPlane b.0)) (take_all c.branches.branch-index c.args.branches.now (let end = c.branches-test.false in omega arith)) c.branches.invariant,
  λ all. refl,
)
