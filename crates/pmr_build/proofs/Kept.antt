-- What entries keep of rough shapes.
use Rattle.std.proofs.Common.{◌≡◌, ℕ, refl, sym, ◌∙◌, ap}
use Rattle.sand_base.specs.declared.goal.Goal.TheVariants as figure
use Rattle.sand_base.specs.declared.point.Point.{Point}
use Rattle.sand_base.specs.declared.rect.Rect.{Rect}
use Rattle.sand_base.specs.declared.rough.Rough.{Rough}
use Rattle.sand_base.specs.declared.rough.Rough.TheVariants as rough
use Rattle.sand_base.specs.declared.segment.Segment.{Segment}
use Rattle.pmr_tree.specs.Entries.{packed, value_of, figure_of}
use Rattle.pmr_tree.proofs.Values.{point_value, segment_value}

pub point_kept : (r : Rough) (at : Point) (value : ℕ) → r ≡ rough.Point at → value ≡ packed 1 at.x at.y 0 0 → value ≡ value_of (figure_of r)
point_kept r at value is e = e ∙ (point_value at ∙ ap (λ x. value_of (figure_of x)) (sym is))

pub segment_kept : (r : Rough) (way : Segment) (value : ℕ) → r ≡ rough.Segment way → value ≡ packed 2 way.a.x way.a.y way.b.x way.b.y → value ≡ value_of (figure_of r)
segment_kept r way value is e = e ∙ (segment_value way ∙ ap (λ x. value_of (figure_of x)) (sym is))

bound_value : (rect : Rect) → packed 3 rect.low.x rect.low.y rect.high.x rect.high.y ≡ value_of (figure.Rect rect)
unfolding value_of
bound_value rect = refl

pub bound_kept : (r : Rough) (rect : Rect) (value : ℕ) → r ≡ rough.Bound rect → value ≡ packed 3 rect.low.x rect.low.y rect.high.x rect.high.y → value ≡ value_of (figure_of r)
bound_kept r rect value is e = e ∙ (bound_value rect ∙ ap (λ x. value_of (figure_of x)) (sym is))
