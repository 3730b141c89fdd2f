-- How long encodings are.
use Rattle.std.proofs.Common.{◌≡◌, ℕ, ◌+◌, ◌*◌, List, [], ◌∷◌, length, sym, refl, ap, ◌∙◌, arith, length-append}
use Rattle.std.specs.List.{flat_map}
use Rattle.std.proofs.lemmas.List.Sums.{sum_by-cons}
use Rattle.sand_base.specs.declared.point.Point.{Point}
use Rattle.sand_base.specs.declared.shape.Shape.TheVariants as shape
use Rattle.sand_base.specs.declared.value.Value.{Value}
use Rattle.sand_base.specs.declared.value.Value.TheVariants as value
use Rattle.sand_model.specs.RowSize.{value_size, row_size}
use Rattle.tuple_codec.specs.Encoding.{coordinate_bytes, point_bytes, value_bytes, encoding}
use Rattle.tuple_codec.proofs.Numbers.{length-coordinate_bytes, length-int_bytes}

-- a point takes eight bytes
length-point : (p : Point) → length (point_bytes p) ≡ 8
length-point p =
    omega (arith, length-append (coordinate_bytes p.x) (coordinate_bytes p.y), length-coordinate_bytes p.x, length-coordinate_bytes p.y)

-- and each of many does
pub length-points : (ps : List Point) → length (flat_map point_bytes ps) ≡ 8 * length ps
length-points [] = refl
length-points (p ∷ ps) = omega (arith, length-append (point_bytes p) (flat_map point_bytes ps), length-point p, length-points ps)

-- a value takes as many bytes as its size says
pub length-value : (v : Value) → length (value_bytes v) ≡ value_size v
length-value (value.Int n) = length-int_bytes n
length-value (value.Text bytes) = omega arith
length-value (value.Shape (shape.Point p)) = length-point p
length-value (value.Shape (shape.Segment s)) =
    omega (arith, length-append (point_bytes s.a) (point_bytes s.b), length-point s.a, length-point s.b)
length-value (value.Shape (shape.Polygon corners)) = omega (arith, length-points corners)

-- and so does a row
length-encoding : (row : List Value) → length (encoding row) ≡ row_size row
length-encoding [] = refl
length-encoding (v ∷ row) =
    length-append (value_bytes v) (encoding row)
    ∙ ap (λ n. n + length (encoding row)) (length-value v)
    ∙ ap (λ n. value_size v + n) (length-encoding row)
    ∙ sym (sum_by-cons value_size v row)

-- the length of what is an encoding
pub long_as : (bytes : List ℕ) (row : List Value) → bytes ≡ encoding row → length bytes ≡ row_size row
long_as bytes row e = ap length e ∙ length-encoding row
