-- Points, segments, texts and rings: their codes are prefix-free, and what stands in front of some bytes.
use Rattle.std.proofs.Common.{◌≡◌, ℕ, ◌^◌, ◌<◌, List, [], ◌∷◌, ◌++◌, length, sym, refl, ap, ◌∙◌, arith, subst, append_assoc, length-append}
use Rattle.std.specs.List.{flat_map, All}
use Rattle.std.proofs.lemmas.List.Elements.{All-head, All-tail}
use Rattle.std.proofs.lemmas.List.{nil_from_length}
use Rattle.sand_base.specs.declared.point.Point.{Point}
use Rattle.sand_base.specs.declared.segment.Segment.{Segment}
use Rattle.sand_base.specs.Plane.{IsInPlane, IsSegmentInPlane, IsRing}
use Rattle.sand_base.specs.InRange.{IsTextInRange}
use Rattle.tuple_codec.specs.Encoding.{coordinate_bytes, point_bytes, segment_bytes, ring_bytes, text_bytes}
use Rattle.tuple_codec.specs.Front.{IsNoneInFront}
use Rattle.tuple_codec.proofs.PrefixFree.{IsPrefixFree, same_fronts, only, All-behind}
use Rattle.tuple_codec.proofs.Numbers.{coordinates_free}
use Rattle.tuple_codec.proofs.Pairs.{AreParts, first_of_two, none_second, pairs_free}
use Rattle.tuple_codec.proofs.Lists.{HasRead, GoesOn, IsAll, ends}

abbrev pub IsCoordinate : ℕ → Type 0
IsCoordinate n = n < 2 ^ 32

-- a point has two coordinates
pub point_parts : AreParts IsCoordinate IsCoordinate IsInPlane (λ (p : Point). p.x) (λ (p : Point). p.y)
point_parts = record {
  first = λ p h. let x = h.x in omega arith;
  second = λ p h. let y = h.y in omega arith;
  whole = λ p q ex ey.
      let left : p ≡ record { x = q.x; y = p.y } = ap (λ x. record { x = x; y = p.y }) ex in
      left ∙ ap (λ y. record { x = q.x; y = y }) ey;
}

-- no two grid points have codes of which one begins with the other
pub points_free : IsPrefixFree IsInPlane point_bytes
points_free = pairs_free IsCoordinate IsCoordinate IsInPlane coordinate_bytes coordinate_bytes (λ p. p.x) (λ p. p.y) point_parts coordinates_free coordinates_free

-- a point has both coordinates
pub point_short : (old mid : List ℕ) (x : ℕ) → IsCoordinate x → old ≡ coordinate_bytes x ++ mid
    → IsNoneInFront IsCoordinate coordinate_bytes mid → IsNoneInFront IsInPlane point_bytes old
point_short old mid x ix e none =
    none_second IsCoordinate IsCoordinate IsInPlane coordinate_bytes coordinate_bytes (λ p. p.x) (λ p. p.y) point_parts coordinates_free old mid x ix e none

-- the coordinates in front are those of a grid point of the plane
pub point_outside : (old mid new : List ℕ) (p : Point) → IsCoordinate p.x → IsCoordinate p.y
    → old ≡ coordinate_bytes p.x ++ mid → mid ≡ coordinate_bytes p.y ++ new → ¬ (IsInPlane p) → IsNoneInFront IsInPlane point_bytes old
point_outside old mid new p ix iy e h bad a rest ia f =
    let ahead : (p.x ≡ a.x) × (mid ≡ coordinate_bytes a.y ++ rest) =
    first_of_two IsCoordinate IsCoordinate IsInPlane coordinate_bytes coordinate_bytes (λ p. p.x) (λ p. p.y) point_parts coordinates_free
    old mid p.x ix e a rest ia f in
    let behind : p.y ≡ a.y = coordinates_free.one p.y a.y new rest iy (point_parts.second a ia) (sym h ∙ ahead.1) in
    bad (subst IsInPlane (sym (point_parts.whole p a ahead.0 behind)) ia)

-- a segment has two ends
pub segment_parts : AreParts IsInPlane IsInPlane IsSegmentInPlane (λ (s : Segment). s.a) (λ (s : Segment). s.b)
segment_parts = record {
  first = λ s h. h.a;
  second = λ s h. h.b;
  whole = λ p q ea eb.
      let left : p ≡ record { a = q.a; b = p.b } = ap (λ a. record { a = a; b = p.b }) ea in
      left ∙ ap (λ b. record { a = q.a; b = b }) eb;
}

-- nor two segments
pub segments_free : IsPrefixFree IsSegmentInPlane segment_bytes
segments_free = pairs_free IsInPlane IsInPlane IsSegmentInPlane point_bytes point_bytes (λ s. s.a) (λ s. s.b) segment_parts points_free points_free

-- nor two texts
pub texts_free : IsPrefixFree IsTextInRange text_bytes
texts_free = record {
  one = λ a b r s ia ib h.
      let lengths : length a ≡ length b = cc in
      let rests : a ++ r ≡ b ++ s = cc in
      (same_fronts a b r s lengths rests).0;
}

-- a segment has both its ends
pub segment_short : (old mid : List ℕ) (a : Point) → IsInPlane a → old ≡ point_bytes a ++ mid
    → IsNoneInFront IsInPlane point_bytes mid → IsNoneInFront IsSegmentInPlane segment_bytes old
segment_short old mid a ia e none =
    none_second IsInPlane IsInPlane IsSegmentInPlane point_bytes point_bytes (λ s. s.a) (λ s. s.b) segment_parts points_free old mid a ia e none

-- no byte is no text
pub text_empty : (old : List ℕ) → old ≡ [] → IsNoneInFront IsTextInRange text_bytes old
text_empty old e a rest ia h = cc

-- a text has all its bytes
pub text_short : (old mid : List ℕ) (count : ℕ) → old ≡ count ∷ mid → length mid < count → IsNoneInFront IsTextInRange text_bytes old
text_short old mid count e short a rest ia h =
    let lengths : count ≡ length a = cc in
    let rests : mid ≡ a ++ rest = cc in
    absurd (omega (arith, ap length rests ∙ length-append a rest))

-- the bytes are those of a text in range
pub text_bad : (old mid piece new : List ℕ) (count : ℕ) → old ≡ count ∷ mid → length piece ≡ count → mid ≡ piece ++ new
    → ¬ (IsTextInRange piece) → IsNoneInFront IsTextInRange text_bytes old
text_bad old mid piece new count e long split bad a rest ia h =
    let lengths : length a ≡ length piece = cc in
    let rests : a ++ rest ≡ piece ++ new = cc in
    bad (subst IsTextInRange (same_fronts a piece rest new lengths rests).0 ia)

-- a text was read
pub text_read : (old mid piece new : List ℕ) (count : ℕ) → old ≡ count ∷ mid → length piece ≡ count → mid ≡ piece ++ new
    → old ≡ text_bytes piece ++ new
text_read old mid piece new count e long split = e ∙ ap (λ m. count ∷ m) split ∙ ap (λ n. n ∷ (piece ++ new)) (sym long)

-- so many grid points
pub record AreInClosedPlane (count : ℕ) (corners : List Point) : Type 0 where
  pub many : length corners ≡ count
  pub in_plane : All IsInPlane corners

-- fewer points are followed by one more
goes_on : (count : ℕ) (done : List Point) → length done < count → (all more : List Point) → AreInClosedPlane count all → all ≡ done ++ more
    → (a : Point) × ((tail : List Point) × ((more ≡ a ∷ tail) × IsInPlane a))
goes_on count done short all [] fits e = absurd (omega (arith, fits.many, ap length e ∙ length-append done []))
goes_on count done short all (a ∷ tail) fits e =
    (a, (tail, (refl, All-head IsInPlane a tail (All-behind IsInPlane all done (a ∷ tail) e fits.in_plane))))

-- fewer points go on with one more
pub corners_go_on : (count : ℕ) (done : List Point) → length done < count → GoesOn IsInPlane (AreInClosedPlane count) done
corners_go_on count done short = record { next = goes_on count done short }

-- as many points as there are to be are all
is_all : (count : ℕ) (done : List Point) → length done ≡ count → (all more : List Point) → AreInClosedPlane count all → all ≡ done ++ more → more ≡ []
is_all count done full all more fits e =
    nil_from_length more (omega (arith, fits.many, ap length e ∙ length-append done more))

pub corners_are_all : (count : ℕ) (done : List Point) → length done ≡ count → IsAll (AreInClosedPlane count) done
corners_are_all count done full = record { last = is_all count done full }

-- a ring's points are so many
corners_of : (count : ℕ) (corners : List Point) → count ≡ length corners → IsRing corners → AreInClosedPlane count corners
corners_of count corners e ring = record { many = sym e; in_plane = ring.in_plane }

-- no byte is no ring
pub ring_empty : (old : List ℕ) → old ≡ [] → IsNoneInFront IsRing ring_bytes old
ring_empty old e a rest ia h = cc

-- with no such points behind the count there is no ring
pub ring_short : (old mid : List ℕ) (count : ℕ) → old ≡ count ∷ mid
    → IsNoneInFront (AreInClosedPlane count) (λ corners. flat_map point_bytes corners) mid → IsNoneInFront IsRing ring_bytes old
ring_short old mid count e none a rest ia h =
    let lengths : count ≡ length a = cc in
    let rests : mid ≡ flat_map point_bytes a ++ rest = cc in
    none a rest (corners_of count a lengths ia) rests

-- the points behind the count are a ring
pub ring_bad : (old mid new : List ℕ) (count : ℕ) (done : List Point) → old ≡ count ∷ mid → length done ≡ count
    → HasRead (AreInClosedPlane count) point_bytes mid done new → ¬ (IsRing done) → IsNoneInFront IsRing ring_bytes old
ring_bad old mid new count done e full has bad a rest ia h =
    let lengths : count ≡ length a = cc in
    let rests : mid ≡ flat_map point_bytes a ++ rest = cc in
    bad (subst IsRing (ends (AreInClosedPlane count) point_bytes mid done new has (corners_are_all count done full) a rest (corners_of count a lengths ia) rests) ia)

-- a ring was read
pub ring_read : (old mid new : List ℕ) (count : ℕ) (done : List Point) → old ≡ count ∷ mid → length done ≡ count
    → HasRead (AreInClosedPlane count) point_bytes mid done new → old ≡ ring_bytes done ++ new
ring_read old mid new count done e full has =
    e ∙ ap (λ m. count ∷ m) has.read ∙ ap (λ n. n ∷ (flat_map point_bytes done ++ new)) (sym full)

-- the points of two lists of one length that begin the same bytes are the same
corners_one : (a b : List Point) (r s : List ℕ) → length a ≡ length b → All IsInPlane a → All IsInPlane b
    → flat_map point_bytes a ++ r ≡ flat_map point_bytes b ++ s → a ≡ b
corners_one [] [] r s e ia ib h = refl
corners_one [] (y ∷ b) r s e ia ib h = absurd (omega arith)
corners_one (x ∷ a) [] r s e ia ib h = absurd (omega arith)
corners_one (x ∷ a) (y ∷ b) r s e ia ib h =
    let heads : (x ≡ y) × (flat_map point_bytes a ++ r ≡ flat_map point_bytes b ++ s) =
    only IsInPlane point_bytes points_free x y (flat_map point_bytes a ++ r) (flat_map point_bytes b ++ s)
    (All-head IsInPlane x a ia) (All-head IsInPlane y b ib)
    (sym (append_assoc (point_bytes x) (flat_map point_bytes a) r) ∙ h ∙ append_assoc (point_bytes y) (flat_map point_bytes b) s) in
    let tails : a ≡ b = corners_one a b r s (omega arith) (All-tail IsInPlane x a ia) (All-tail IsInPlane y b ib) heads.1 in
    ap (λ z. z ∷ a) heads.0 ∙ ap (λ z. y ∷ z) tails

-- no two rings have codes of which one begins with the other
pub rings_free : IsPrefixFree IsRing ring_bytes
rings_free = record {
  one = λ a b r s ia ib h.
      let lengths : length a ≡ length b = cc in
      let rests : flat_map point_bytes a ++ r ≡ flat_map point_bytes b ++ s = cc in
      corners_one a b r s lengths ia.in_plane ib.in_plane rests;
}
