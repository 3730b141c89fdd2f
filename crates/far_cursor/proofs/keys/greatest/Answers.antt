-- Both squares are short in the closed square, and their sum is the greatest of the four corners'.
use Rattle.std.proofs.Common.{◌≡◌, ◌+◌, ◌*◌, ◌≤◌, ℕ, ◌∙◌, sym, ap₂, arith, subst}
use Rattle.sand_base.specs.Plane.{IsInClosedPlane, IsRectInClosedPlane}
use Rattle.sand_base.specs.declared.point.Point.{Point}
use Rattle.sand_base.specs.declared.rect.Rect.{Rect}
use Rattle.far_cursor.specs.Farthest.{end_gap}
use Rattle.far_cursor.proofs.Axes.{axis_short, farthest_is}
use Rattle.far_cursor.proofs.keys.greatest.Goals as goal

-- the square of what lies along an axis
square_short : (n c low high : ℕ) → n ≡ end_gap c low high → end_gap c low high * end_gap c low high ≤ 1099511627776 → n * n ≤ 1099511627776
square_short n c low high e h = subst (λ k. k * k ≤ 1099511627776) (sym e) h

across_short : (p : Point) (r : Rect) → IsInClosedPlane p → IsRectInClosedPlane r → (n : ℕ) → n ≡ end_gap p.x r.low.x r.high.x → n * n ≤ 1099511627776
across_short p r hp hr n e = square_short n p.x r.low.x r.high.x e (axis_short p.x r.low.x r.high.x hp.x hr.low.x hr.high.x)

up_short : (p : Point) (r : Rect) → IsInClosedPlane p → IsRectInClosedPlane r → (n : ℕ) → n ≡ end_gap p.y r.low.y r.high.y → n * n ≤ 1099511627776
up_short p r hp hr n e = square_short n p.y r.low.y r.high.y e (axis_short p.y r.low.y r.high.y hp.y hr.low.y hr.high.y)

pub overflow_mul-across : goal.overflow_mul-across
overflow_mul-across c =
    let short = across_short c.args.p c.args.r c.requires.point c.requires.rect c.farther_end-across.result c.farther_end-across.ensures in omega arith

pub overflow_mul-up : goal.overflow_mul-up
overflow_mul-up c =
    let short = up_short c.args.p c.args.r c.requires.point c.requires.rect c.farther_end-up.result c.farther_end-up.ensures in omega arith

pub overflow_add-across : goal.overflow_add-across
overflow_add-across c =
    let short = across_short c.args.p c.args.r c.requires.point c.requires.rect c.farther_end-across.result c.farther_end-across.ensures in
    let other = up_short c.args.p c.args.r c.requires.point c.requires.rect c.farther_end-up.result c.farther_end-up.ensures in
    omega arith

pub new-requires-clause-small : goal.new-requires-clause-small
new-requires-clause-small c =
    let short = across_short c.args.p c.args.r c.requires.point c.requires.rect c.farther_end-across.result c.farther_end-across.ensures in
    let other = up_short c.args.p c.args.r c.requires.point c.requires.rect c.farther_end-up.result c.farther_end-up.ensures in
    let is = c.from.ensures in
    omega arith

pub returns-clause-num : goal.returns-clause-num
returns-clause-num c =
    c.new.ensures.num ∙ c.from.ensures
    ∙ ap₂ (λ (x y : ℕ). x * x + y * y) c.farther_end-across.ensures c.farther_end-up.ensures
    ∙ sym (farthest_is c.args.p c.args.r)
