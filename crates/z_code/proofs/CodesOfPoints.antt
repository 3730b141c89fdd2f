-- The codes of the plane's grid points: each code below 2^(2w) has one point, and each point one code.
use Rattle.std.proofs.Common.{◌≡◌, ℕ, ◌*◌, ◌/◌, ◌^◌, ◌<◌, ap, ap₂, ◌∙◌, subst, add-one}
use Rattle.std.specs.Int.{bit_at}
use Rattle.std.proofs.lemmas.Nat.Bits.{bit_at-suc}
use Rattle.sand_base.specs.Plane.{IsInPlane}
use Rattle.sand_base.specs.declared.TheConstants.{COORDINATE_BITS}
use Rattle.sand_base.specs.declared.point.Point.{Point}
use Rattle.z_code.specs.Code.{code_of, point_of, Interleaves}
use Rattle.z_code.proofs.Codes.{code-lt, even_bits-lt, even_bits-code, even_bits-half_code, code-even_bits, bit_at-even_bits}

-- a point is its coordinates
abbrev pub point : ℕ → ℕ → Point
point x y = record { x = x; y = y }

-- a code is below the count of codes
pub code_of-lt : (p : Point) → code_of p < 2 ^ (2 * COORDINATE_BITS)
code_of-lt p = code-lt COORDINATE_BITS p.x p.y

-- the point of a code is in the plane
pub point_of-in_plane : (z : ℕ) → IsInPlane (point_of z)
point_of-in_plane z = record {
  x = even_bits-lt COORDINATE_BITS z;
  y = even_bits-lt COORDINATE_BITS (z / 2);
}

-- the point of a point's code is the point
pub point_of-code_of : (p : Point) → IsInPlane p → point_of (code_of p) ≡ p
point_of-code_of p h = ap₂ point (even_bits-code COORDINATE_BITS p.x p.y h.x) (even_bits-half_code COORDINATE_BITS p.x p.y h.y)

-- the code of a code's point is the code
pub code_of-point_of : (z : ℕ) → z < 2 ^ (2 * COORDINATE_BITS) → code_of (point_of z) ≡ z
code_of-point_of z h = code-even_bits COORDINATE_BITS z h

-- a code interleaves the bits of its point
pub Interleaves-point_of : (z : ℕ) → Interleaves z (point_of z)
Interleaves-point_of z = record {
  x = λ i h. bit_at-even_bits COORDINATE_BITS z i h;
  y = λ i h. ap (bit_at z) (add-one (2 * i)) ∙ bit_at-suc z (2 * i) ∙ bit_at-even_bits COORDINATE_BITS (z / 2) i h;
}

-- the code of a point interleaves the point's bits
pub Interleaves-code_of : (p : Point) → IsInPlane p → Interleaves (code_of p) p
Interleaves-code_of p h = subst (λ q. Interleaves (code_of p) q) (point_of-code_of p h) (Interleaves-point_of (code_of p))
