-- The point lies on the segment where it lies on the line and in the box.
use Rattle.std.proofs.Common.{lit<, rules}
use Rattle.exact_frac.specs.declared.TheConstants.{MAX_DEN}
use Rattle.plane_geom.proofs.point_segment.on_segment.Goals as goal
use Rattle.plane_geom.proofs.OnSegment.{lies_on, on_its_line, in_its_box}
use Rattle.plane_geom.proofs.SignedWords.{zero_word, word_zero}

-- on the line, the box decides
pub returns-then-cross-eq0 : goal.returns-then-cross-eq0
returns-then-cross-eq0 c =
    let line = zero_word _ _ MAX_DEN c.cross.ensures.value c.cross.ensures.short (lit< tt) c.if-cross-eq0.true in
    (λ t. lies_on c.args.p c.args.s line (c.in_box.ensures.0 t), λ h. c.in_box.ensures.1 (in_its_box c.args.p c.args.s h))

-- off the line, no point lies on the segment
pub returns-else-cross-eq0 : goal.returns-else-cross-eq0
returns-else-cross-eq0 c = (
  λ t. absurd (c.if-cross-eq0.false (search rules)),
  λ h. absurd (c.if-cross-eq0.false (word_zero _ _ c.cross.ensures.value (on_its_line c.args.p c.args.s h))),
)
