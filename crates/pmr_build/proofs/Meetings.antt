-- Which quarters of a block a member's shape meets, as the function that tells of rows says.
use Rattle.std.proofs.Common.{◌≡◌, ℕ, ◌<◌, ◌≤◌, Bool, true, false, ◌||◌, List, [], ◌∷◌, Some, refl, sym, ◌∙◌, ap, subst, arith}
use Rattle.std.specs.Prelude.{IsTrue, is_some}
use Rattle.std.proofs.lemmas.Bool.{false≢true}
use Rattle.sand_base.specs.declared.TheConstants.{COORDINATE_BITS}
use Rattle.sand_base.specs.declared.goal.Goal.TheVariants as figure
use Rattle.sand_base.specs.declared.point.Point.{Point}
use Rattle.sand_base.specs.declared.rect.Rect.{Rect}
use Rattle.sand_base.specs.declared.rough.Rough.{Rough}
use Rattle.sand_base.specs.declared.rough.Rough.TheVariants as rough
use Rattle.sand_base.specs.declared.segment.Segment.{Segment}
use Rattle.sand_base.specs.declared.shape.Shape.{Shape}
use Rattle.sand_base.specs.declared.shape.Shape.TheVariants as shape
use Rattle.z_code.specs.Block.{IsBlock, child, square_of}
use Rattle.z_code.specs.declared.block.Block.{Block}
use Rattle.sand_model.specs.Figures.{corners_of}
use Rattle.sand_model.specs.Roughs.{bound_from, rough_figure}
use Rattle.ring_geom.specs.Bounding.{AreCovered, Overlap}
use Rattle.ring_geom.proofs.Overlaps.{rejected}
use Rattle.pmr_tree.specs.Entries.{figure_of}
use Rattle.pmr_tree.proofs.PartSteps.{meeting_told}
use Rattle.pmr_tree.proofs.Quarter.{child_block}
use Rattle.pmr_tree.proofs.ShapeLaws.{some_same}
use Rattle.pmr_build.specs.Members.{Member, IsMemberOf, TellsRows}
use Rattle.pmr_build.specs.Parts.{IsSquareOf, AreSquares, MeetsSquares, TellOverlaps, IsJustOne, AreQuartersMet}
use Rattle.pmr_build.specs.declared.met.QuartersMet.{QuartersMet}
use Rattle.pmr_build.specs.declared.met.Squares.{Squares}

-- a point or a segment is its own rough shape

pub point_is : (at : Point) (r : Rough) (s : Shape) → r ≡ rough.Point at → figure_of r ≡ rough_figure s → shape.Point at ≡ s
point_is at r s is e = go s (sym (ap figure_of is) ∙ e) where
  go : (s : Shape) → figure.Shape (shape.Point at) ≡ rough_figure s → shape.Point at ≡ s
  go (shape.Point p) e = cc
  go (shape.Segment p) e = absurd cc
  go (shape.Polygon []) e = absurd cc
  go (shape.Polygon (first ∷ more)) e = absurd cc

pub segment_is : (way : Segment) (r : Rough) (s : Shape) → r ≡ rough.Segment way → figure_of r ≡ rough_figure s → shape.Segment way ≡ s
segment_is way r s is e = go s (sym (ap figure_of is) ∙ e) where
  go : (s : Shape) → figure.Shape (shape.Segment way) ≡ rough_figure s → shape.Segment way ≡ s
  go (shape.Point p) e = absurd cc
  go (shape.Segment p) e = cc
  go (shape.Polygon []) e = absurd cc
  go (shape.Polygon (first ∷ more)) e = absurd cc

-- the answers for a member's shape are those of the function that tells of rows
pub quarters_told : (rows : List (ℕ × Shape)) (m : Block → ℕ → Bool) (b : Block) (i : Member) (s : Shape) (met : QuartersMet) → IsBlock b → b.level < COORDINATE_BITS → TellsRows rows m
    → (h : IsMemberOf rows i) → s ≡ h.shape → MeetsSquares s b met → AreQuartersMet m b i.0 met
quarters_told rows m b i s met block up told h same meets =
    let t = told.tells i.0 (ap is_some h.at) in
    let one : t.0 ≡ s = some_same t.0 s (sym t.1.0 ∙ (h.at ∙ ap Some (sym same))) in record {
      first = meeting_told s t.0 (child b 0) (square_of (child b 0)) met.first (m (child b 0) i.0) one refl meets.first (t.1.1 (child b 0) (child_block b block up 0 (omega arith)));
      second = meeting_told s t.0 (child b 1) (square_of (child b 1)) met.second (m (child b 1) i.0) one refl meets.second (t.1.1 (child b 1) (child_block b block up 1 (omega arith)));
      third = meeting_told s t.0 (child b 2) (square_of (child b 2)) met.third (m (child b 2) i.0) one refl meets.third (t.1.1 (child b 2) (child_block b block up 2 (omega arith)));
      fourth = meeting_told s t.0 (child b 3) (square_of (child b 3)) met.fourth (m (child b 3) i.0) one refl meets.fourth (t.1.1 (child b 3) (child_block b block up 3 (omega arith)));
    }

-- Where a polygon's rectangle touches one quarter alone, the polygon meets this one alone.

bound_holds : (first : Point) (more : List Point) (r : Rect) → r.low.x ≤ (bound_from first more).low.x → (bound_from first more).high.x ≤ r.high.x → r.low.y ≤ (bound_from first more).low.y
    → (bound_from first more).high.y ≤ r.high.y → AreCovered (first ∷ more) r
bound_holds first [] r a b c d = (record { left = a; right = b; bottom = c; top = d }, tt)
bound_holds first (next ∷ more) r a b c d = (
  record { left = omega (arith, a); right = omega (arith, b); bottom = omega (arith, c); top = omega (arith, d) },
  bound_holds next more r (omega (arith, a)) (omega (arith, b)) (omega (arith, c)) (omega (arith, d)),
)

rect_same : (a b : Rect) → figure.Rect a ≡ figure.Rect b → a ≡ b
rect_same a b e = cc

-- the rectangle of a polygon holds its corners
corners_covered : (bound : Rect) (r : Rough) (s : Shape) → r ≡ rough.Bound bound → figure_of r ≡ rough_figure s → AreCovered (corners_of s) bound
corners_covered bound r s is e = go s (sym (ap figure_of is) ∙ e) where
  go : (s : Shape) → figure.Rect bound ≡ rough_figure s → AreCovered (corners_of s) bound
  go (shape.Point p) e = absurd cc
  go (shape.Segment p) e = absurd cc
  go (shape.Polygon []) e = absurd cc
  go (shape.Polygon (first ∷ more)) e =
      let same : bound_from first more ≡ bound = sym (rect_same bound (bound_from first more) e) in
      subst (AreCovered (first ∷ more)) same (bound_holds first more (bound_from first more) (omega arith) (omega arith) (omega arith) (omega arith))

-- just one of four answers is yes, and it is the one that is left
one_left : (n0 n1 n2 n3 q0 q1 q2 q3 : Bool) → IsJustOne n0 n1 n2 n3 → (n0 ≡ false → n0 ≡ q0) → (n1 ≡ false → n1 ≡ q1) → (n2 ≡ false → n2 ≡ q2) → (n3 ≡ false → n3 ≡ q3)
    → (q0 || (q1 || (q2 || q3))) ≡ true → (n0 ≡ q0) × ((n1 ≡ q1) × ((n2 ≡ q2) × (n3 ≡ q3)))
one_left true false false false q0 q1 q2 q3 one f0 f1 f2 f3 or = (only q0 q1 q2 q3 (f1 refl) (f2 refl) (f3 refl) or, (f1 refl, (f2 refl, f3 refl))) where
  only : (a b c d : Bool) → false ≡ b → false ≡ c → false ≡ d → (a || (b || (c || d))) ≡ true → true ≡ a
  only true b c d eb ec ed h = refl
  only false true c d eb ec ed h = absurd (false≢true eb)
  only false false true d eb ec ed h = absurd (false≢true ec)
  only false false false true eb ec ed h = absurd (false≢true ed)
  only false false false false eb ec ed h = absurd (false≢true h)
one_left false true false false q0 q1 q2 q3 one f0 f1 f2 f3 or = (f0 refl, (only q0 q1 q2 q3 (f0 refl) (f2 refl) (f3 refl) or, (f2 refl, f3 refl))) where
  only : (a b c d : Bool) → false ≡ a → false ≡ c → false ≡ d → (a || (b || (c || d))) ≡ true → true ≡ b
  only true b c d ea ec ed h = absurd (false≢true ea)
  only false true c d ea ec ed h = refl
  only false false true d ea ec ed h = absurd (false≢true ec)
  only false false false true ea ec ed h = absurd (false≢true ed)
  only false false false false ea ec ed h = absurd (false≢true h)
one_left false false true false q0 q1 q2 q3 one f0 f1 f2 f3 or = (f0 refl, (f1 refl, (only q0 q1 q2 q3 (f0 refl) (f1 refl) (f3 refl) or, f3 refl))) where
  only : (a b c d : Bool) → false ≡ a → false ≡ b → false ≡ d → (a || (b || (c || d))) ≡ true → true ≡ c
  only true b c d ea eb ed h = absurd (false≢true ea)
  only false true c d ea eb ed h = absurd (false≢true eb)
  only false false true d ea eb ed h = refl
  only false false false true ea eb ed h = absurd (false≢true ed)
  only false false false false ea eb ed h = absurd (false≢true h)
one_left false false false true q0 q1 q2 q3 one f0 f1 f2 f3 or = (f0 refl, (f1 refl, (f2 refl, only q0 q1 q2 q3 (f0 refl) (f1 refl) (f2 refl) or))) where
  only : (a b c d : Bool) → false ≡ a → false ≡ b → false ≡ c → (a || (b || (c || d))) ≡ true → true ≡ d
  only true b c d ea eb ec h = absurd (false≢true ea)
  only false true c d ea eb ec h = absurd (false≢true eb)
  only false false true d ea eb ec h = absurd (false≢true ec)
  only false false false true ea eb ec h = refl
  only false false false false ea eb ec h = absurd (false≢true h)
one_left true true n2 n3 q0 q1 q2 q3 one f0 f1 f2 f3 or = absurd one
one_left true false true n3 q0 q1 q2 q3 one f0 f1 f2 f3 or = absurd one
one_left true false false true q0 q1 q2 q3 one f0 f1 f2 f3 or = absurd one
one_left false true true n3 q0 q1 q2 q3 one f0 f1 f2 f3 or = absurd one
one_left false true false true q0 q1 q2 q3 one f0 f1 f2 f3 or = absurd one
one_left false false true true q0 q1 q2 q3 one f0 f1 f2 f3 or = absurd one
one_left false false false false q0 q1 q2 q3 one f0 f1 f2 f3 or = absurd one

-- a square that the rectangle doesn't touch isn't met
far_told : (rows : List (ℕ × Shape)) (m : Block → ℕ → Bool) (c : Block) (i : Member) (bound r : Rect) (near : Bool) → IsBlock c → TellsRows rows m → (h : IsMemberOf rows i)
    → AreCovered (corners_of h.shape) bound → IsSquareOf c r → (Overlap bound r → IsTrue near) → near ≡ false → near ≡ m c i.0
far_told rows m c i bound r near block told h covered square k e =
    let t = told.tells i.0 (ap is_some h.at) in
    let one : t.0 ≡ h.shape = some_same t.0 h.shape (sym t.1.0 ∙ h.at) in
    meeting_told h.shape t.0 c r near (m c i.0) one square.0 (rejected h.shape bound r near square.1.x square.1.y covered e k) (t.1.1 c block)

pub near_told : (rows : List (ℕ × Shape)) (m : Block → ℕ → Bool) (b : Block) (i : Member) (bound : Rect) (q : Squares) (near : QuartersMet) → IsBlock b → b.level < COORDINATE_BITS → TellsRows rows m
    → (h : IsMemberOf rows i) → m b i.0 ≡ true → i.1 ≡ rough.Bound bound → AreSquares b q → TellOverlaps bound q near → IsJustOne near.first near.second near.third near.fourth → AreQuartersMet m b i.0 near
near_told rows m b i bound q near block up told h met is squares are one =
    let covered = corners_covered bound i.1 h.shape is h.rough in
    let all = one_left near.first near.second near.third near.fourth (m (child b 0) i.0) (m (child b 1) i.0) (m (child b 2) i.0) (m (child b 3) i.0) one
    (far_told rows m (child b 0) i bound q.first near.first (child_block b block up 0 (omega arith)) told h covered squares.first are.first)
    (far_told rows m (child b 1) i bound q.second near.second (child_block b block up 1 (omega arith)) told h covered squares.second are.second)
    (far_told rows m (child b 2) i bound q.third near.third (child_block b block up 2 (omega arith)) told h covered squares.third are.third)
    (far_told rows m (child b 3) i bound q.fourth near.fourth (child_block b block up 3 (omega arith)) told h covered squares.fourth are.fourth)
    (sym (told.quarters b i.0 block up) ∙ met) in record { first = all.0; second = all.1.0; third = all.1.1.0; fourth = all.1.1.1 }
