-- The three cases of a point and a segment: behind the first end, beyond the second, and over the foot of a height.
use Rattle.std.proofs.Common.{ℤ, pos, ◌*ℤ◌, ◌≤ℤ◌, ◌<ℤ◌, refl, ◌∙◌, ap₂, lit<, arith}
use Rattle.std.proofs.lemmas.Int.{ints}
use Rattle.exact_frac.specs.declared.TheConstants.{MAX_DEN}
use Rattle.plane_geom.specs.Vectors.{dot_of}
use Rattle.plane_geom.proofs.point_segment.gap_point_segment.Goals as goal
use Rattle.plane_geom.proofs.GapOfPointAndSegment.{behind_least, beyond_least, foot_least}
use Rattle.plane_geom.proofs.SignedWords.{word_is, passed, failed}

-- the point lies behind the first end
pub returns-then-along-le0 : goal.returns-then-along-le0
returns-then-along-le0 c =
    behind_least c.args.p c.args.s c.gap_points.result.num c.gap_points.result.den c.gap_points.ensures.least
    (passed _ _ _ _ (word_is _ _ MAX_DEN c.dot-along.ensures.value c.dot-along.ensures.short (lit< tt)) refl c.if-along-le0.true)

-- the point lies beyond the second end
pub returns-then-along-length : goal.returns-then-along-length
returns-then-along-length c =
    beyond_least c.args.p c.args.s c.gap_points-then-along-length.result.num c.gap_points-then-along-length.result.den
    c.gap_points-then-along-length.ensures.least
    (passed _ _ _ _ (word_is _ _ MAX_DEN c.dot-length.ensures.value c.dot-length.ensures.short (lit< tt))
    (word_is _ _ MAX_DEN c.dot-along.ensures.value c.dot-along.ensures.short (lit< tt)) c.if-along-length.true)

-- the foot of the height lies between the ends
pub returns-else-along-length : goal.returns-else-along-length
returns-else-along-length c =
    let along = word_is _ _ MAX_DEN c.dot-along.ensures.value c.dot-along.ensures.short (lit< tt) in
    let length = word_is _ _ MAX_DEN c.dot-length.ensures.value c.dot-length.ensures.short (lit< tt) in
    let cross = word_is _ _ MAX_DEN c.cross.ensures.value c.cross.ensures.short (lit< tt) in
    let ahead : pos 0 <ℤ dot_of c.args.s.a c.args.s.b c.args.p = failed _ _ _ _ along refl c.if-along-le0.false in
    foot_least c.args.p c.args.s c.height_square.result.num c.height_square.result.den (weak _ ahead)
    (failed _ _ _ _ length along c.if-along-length.false)
    (c.height_square.ensures.num ∙ ap₂ (λ s t. s *ℤ t) cross cross)
    (c.height_square.ensures.den ∙ length)
  where
    weak : (t : ℤ) → pos 0 <ℤ t → pos 0 ≤ℤ t
    weak t h = omega (arith, ints)
