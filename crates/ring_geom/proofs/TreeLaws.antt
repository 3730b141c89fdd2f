-- The laws over quadtrees, by a measure.
use Rattle.std.proofs.Common.{◌≡◌, ℕ, sym, subst}
use Rattle.std.specs.Prelude.{map}
use Rattle.std.specs.Ordering.{nat_cmp}
use Rattle.std.specs.declared.cmp.Ordering.TheVariants.{Equal}
use Rattle.std.proofs.lemmas.Bool.Decides.{nat_tests}
use Rattle.std.proofs.Common.{arith}
use Rattle.sand_base.specs.Plane.{IsShapeInClosedPlane}
use Rattle.sand_base.specs.declared.goal.Goal.TheVariants as goal
use Rattle.sand_base.specs.declared.rect.Rect.{Rect}
use Rattle.sand_base.specs.declared.shape.Shape.{Shape}
use Rattle.z_code.specs.Block.{IsBlock, child, square_of}
use Rattle.z_code.proofs.Blocks.{square_in_closed_plane}
use Rattle.z_code.proofs.Children.{child_block}
use Rattle.sand_model.specs.Figures.{corners_of}
use Rattle.sand_model.specs.Rings.{SomeOf}
use Rattle.sand_model.specs.Tree.{leaves, root_block}
use Rattle.ring_geom.specs.Bounding.{AreCovered}
use Rattle.ring_geom.specs.MeasureLaws.{RootMeetsAll, BlockIsNoFarther, LeavesCover, LeafPairsCover}
use Rattle.ring_geom.proofs.BlockLemmas.{child_part, root_square, root_is_block, leaves_tile, leaf_blocks, some_unmapped, some_with_each, meets_is_meeting}
use Rattle.ring_geom.proofs.Covers.{IsReached, IsPairReached, tiles_cover, tiles_cover_pairs, holder_meets, square_holds}
use Rattle.ring_geom.proofs.Farther.{part_held, no_farther}

-- equal numbers compare as equal
pub same_compares : (m n : ℕ) → m ≡ n → nat_cmp m n ≡ Equal
same_compares m n e = grind (arith, nat_tests)

-- the root's square holds each shape
root_holds : (s : Shape) → IsShapeInClosedPlane s → AreCovered (corners_of s) (square_of root_block)
root_holds s h = subst (λ (r : Rect). AreCovered (corners_of s) r) (sym root_square) (square_holds s h)

-- so it meets each
pub root_meets : RootMeetsAll
root_meets gap m s h =
    (meets_is_meeting gap m s (square_of root_block) h (square_in_closed_plane root_block root_is_block)).1
    (holder_meets s (square_of root_block) h (root_holds s h))

-- a block is no farther than its child
pub block_no_farther : BlockIsNoFarther
block_no_farther gap m g b number hg hb above small =
    no_farther g (goal.Rect (square_of (child b number))) (square_of b) _ _ _ _ hg
    (part_held (square_of (child b number)) (square_of b) (child_part b hb above number small))
    (m g (goal.Rect (square_of (child b number))) hg (square_in_closed_plane (child b number) (child_block b hb above number small)))
    (m g (goal.Rect (square_of b)) hg (square_in_closed_plane b hb))

-- some leaf is reached
pub leaves_cover : LeavesCover
leaves_cover gap m g s tree hg hs shallow =
    let f = gap g (goal.Shape s) in
    some_with_each {P = λ leaf. IsBlock leaf.0} {Q = λ leaf. IsReached g s f.num f.den (square_of leaf.0)}
    (λ leaf h k. (
      (meets_is_meeting gap m s (square_of leaf.0) hs (square_in_closed_plane leaf.0 h)).1 k.0,
      k.1 _ _ (m g (goal.Rect (square_of leaf.0)) hg (square_in_closed_plane leaf.0 h)),
    )) (leaves root_block tree) (leaf_blocks root_block tree root_is_block shallow)
    (some_unmapped (IsReached g s f.num f.den) (λ leaf. square_of leaf.0) (leaves root_block tree)
    (tiles_cover g s (square_of root_block) _ f.num f.den hg (root_holds s hs) (leaves_tile root_block tree root_is_block shallow)
    (m g (goal.Shape s) hg hs)))

-- and some pair of leaves
pub leaf_pairs_cover : LeafPairsCover
leaf_pairs_cover gap m a b tree other ha hb shallow flat =
    let f = gap (goal.Shape a) (goal.Shape b) in
    some_with_each {P = λ p. IsBlock p.0}
    {Q = λ p. SomeOf (IsPairReached a b f.num f.den (square_of p.0)) (map (λ leaf. square_of leaf.0) (leaves root_block other))}
    (λ p hp kp.
    some_with_each {P = λ o. IsBlock o.0} {Q = λ o. IsPairReached a b f.num f.den (square_of p.0) (square_of o.0)}
    (λ o ho ko. (
      (meets_is_meeting gap m a (square_of p.0) ha (square_in_closed_plane p.0 hp)).1 ko.0,
      (meets_is_meeting gap m b (square_of o.0) hb (square_in_closed_plane o.0 ho)).1 ko.1,
      ko.2 _ _ (m (goal.Rect (square_of p.0)) (goal.Rect (square_of o.0)) (square_in_closed_plane p.0 hp) (square_in_closed_plane o.0 ho)),
    )) (leaves root_block other) (leaf_blocks root_block other root_is_block flat)
    (some_unmapped (IsPairReached a b f.num f.den (square_of p.0)) (λ leaf. square_of leaf.0) (leaves root_block other) kp))
    (leaves root_block tree) (leaf_blocks root_block tree root_is_block shallow)
    (some_unmapped (λ q. SomeOf (IsPairReached a b f.num f.den q) (map (λ leaf. square_of leaf.0) (leaves root_block other))) (λ leaf. square_of leaf.0)
    (leaves root_block tree)
    (tiles_cover_pairs a b (square_of root_block) (square_of root_block) _ _ f.num f.den (root_holds a ha) (root_holds b hb)
    (leaves_tile root_block tree root_is_block shallow) (leaves_tile root_block other root_is_block flat) (m (goal.Shape a) (goal.Shape b) ha hb)))
