-- What a row's bytes stand for is the row.
use Rattle.std.proofs.Common.{◌≡◌, ℕ, suc, ◌-◌, ◌^◌, ◌<◌, List, [], ◌∷◌, ◌++◌, length, map, drop, get_or, refl, sym, ◌∙◌, ap, ap₂, arith, All, length-append}
use Rattle.std.proofs.lemmas.List.{append_assoc}
use Rattle.std.specs.Prelude.{ℤ, pos, negsuc, ◌≤ℤ◌}
use Rattle.std.specs.Int.{w32, w64, from_be_bytes, cast_unsigned, cast_signed}
use Rattle.std.specs.List.{flat_map}
use Rattle.std.proofs.lemmas.Nat.{from_be_bytes-to_be_bytes_4, from_be_bytes-to_be_bytes_8}
use Rattle.std.proofs.lemmas.Int.{ints, to_z-of_z}
use Rattle.std.proofs.lemmas.List.{take_at, drop_at}
use Rattle.std.proofs.lemmas.List.Elements.{All-head, All-tail}
use mir.Val.{SFits}
use Rattle.sand_base.specs.InRange.{IsIntInRange, IsValueInRange, IsRowOf, IsRowInRange}
use Rattle.sand_base.specs.Grid.{IsInPlane}
use Rattle.sand_base.specs.Shape.{value_kind}
use Rattle.sand_base.specs.declared.kind.Kind.{Kind}
use Rattle.sand_base.specs.declared.kind.Kind.TheVariants as kind
use Rattle.sand_base.specs.declared.point.Point.{Point}
use Rattle.sand_base.specs.declared.shape.Shape.TheVariants as shape
use Rattle.sand_base.specs.declared.value.Value.{Value}
use Rattle.sand_base.specs.declared.value.Value.TheVariants as value
use Rattle.tuple_codec.specs.Encoding.{coordinate_bytes, int_bytes, point_bytes, value_bytes, encoding}
use Rattle.tuple_codec.specs.Decoding.{IsRowFor}
use Rattle.tuple_codec.proofs.Numbers.{length-coordinate_bytes, length-int_bytes}
use Rattle.sand_store.specs.Tuples.{leading_coordinate, leading_point, points_in, leading_value, row_in}

coordinate_from : (n : ℕ) → n < 2 ^ 32 → from_be_bytes w32 (coordinate_bytes n) ≡ n
unfolding coordinate_bytes
coordinate_from n h = from_be_bytes-to_be_bytes_4 n h

int_fits : (n : ℤ) → IsIntInRange n → SFits w64 n
int_fits (pos n) h = let high : pos n ≤ℤ pos (2 ^ 63 - 1) = h.high in record { sfits = omega (arith, ints) }
int_fits (negsuc n) h = let low : negsuc (2 ^ 63 - 1) ≤ℤ negsuc n = h.low in record { sfits = omega (arith, ints) }

int_bits : (n : ℤ) → IsIntInRange n → cast_unsigned w64 n < 2 ^ 64
int_bits (pos n) h = let high : pos n ≤ℤ pos (2 ^ 63 - 1) = h.high in omega (arith, ints)
int_bits (negsuc n) h = omega arith

int_from : (n : ℤ) → IsIntInRange n → cast_signed w64 (from_be_bytes w64 (int_bytes n)) ≡ n
unfolding int_bytes
int_from n h = ap (cast_signed w64) (from_be_bytes-to_be_bytes_8 (cast_unsigned w64 n) (int_bits n h)) ∙ to_z-of_z w64 n (int_fits n h)

coordinate_back : (n : ℕ) (rest : List ℕ) → n < 2 ^ 32 → leading_coordinate (coordinate_bytes n ++ rest) ≡ n
coordinate_back n rest h = ap (from_be_bytes w32) (take_at (coordinate_bytes n) rest 4 (length-coordinate_bytes n)) ∙ coordinate_from n h

point_length : (p : Point) → length (point_bytes p) ≡ 8
point_length p = omega (arith, length-append (coordinate_bytes p.x) (coordinate_bytes p.y), length-coordinate_bytes p.x, length-coordinate_bytes p.y)

point_back : (p : Point) (rest : List ℕ) → IsInPlane p → leading_point (point_bytes p ++ rest) ≡ p
point_back p rest h =
    let whole : point_bytes p ++ rest ≡ coordinate_bytes p.x ++ (coordinate_bytes p.y ++ rest) = append_assoc (coordinate_bytes p.x) (coordinate_bytes p.y) rest in
    let behind : drop 4 (coordinate_bytes p.x ++ (coordinate_bytes p.y ++ rest)) ≡ coordinate_bytes p.y ++ rest =
    drop_at (coordinate_bytes p.x) (coordinate_bytes p.y ++ rest) 4 (length-coordinate_bytes p.x) in
    ap (λ (b : List ℕ). leading_point b) whole
    ∙ ap₂ (λ (x y : ℕ). record { x = x; y = y }) (coordinate_back p.x (coordinate_bytes p.y ++ rest) (omega (arith, h.x)))
    (ap (λ (b : List ℕ). leading_coordinate b) behind ∙ coordinate_back p.y rest (omega (arith, h.y)))

points_back : (ps : List Point) (rest : List ℕ) → All IsInPlane ps → points_in (length ps) (flat_map point_bytes ps ++ rest) ≡ ps
points_back [] rest h = refl
points_back (p ∷ ps) rest h =
    let whole : (point_bytes p ++ flat_map point_bytes ps) ++ rest ≡ point_bytes p ++ (flat_map point_bytes ps ++ rest) = append_assoc (point_bytes p) (flat_map point_bytes ps) rest in
    let behind : drop 8 (point_bytes p ++ (flat_map point_bytes ps ++ rest)) ≡ flat_map point_bytes ps ++ rest = drop_at (point_bytes p) (flat_map point_bytes ps ++ rest) 8 (point_length p) in
    ap (λ (b : List ℕ). points_in (suc (length ps)) b) whole
    ∙ ap₂ (λ (q : Point) (qs : List Point). q ∷ qs) (point_back p (flat_map point_bytes ps ++ rest) (All-head IsInPlane p ps h))
    (ap (λ (b : List ℕ). points_in (length ps) b) behind ∙ points_back ps rest (All-tail IsInPlane p ps h))

-- a value at the front of some bytes
pub value_back : (v : Value) (rest : List ℕ) → IsValueInRange v → leading_value (value_kind v) (value_bytes v ++ rest) ≡ v
value_back (value.Int n) rest h =
    ap (λ (i : ℤ). value.Int i) (ap (λ (b : List ℕ). cast_signed w64 (from_be_bytes w64 b)) (take_at (int_bytes n) rest 8 (length-int_bytes n)) ∙ int_from n h)
value_back (value.Text bytes) rest h = ap (λ (b : List ℕ). value.Text b) (take_at bytes rest (length bytes) refl)
value_back (value.Shape (shape.Point p)) rest h = ap (λ (q : Point). value.Shape (shape.Point q)) (point_back p rest h)
value_back (value.Shape (shape.Segment s)) rest h =
    let whole : (point_bytes s.a ++ point_bytes s.b) ++ rest ≡ point_bytes s.a ++ (point_bytes s.b ++ rest) = append_assoc (point_bytes s.a) (point_bytes s.b) rest in
    let behind : drop 8 (point_bytes s.a ++ (point_bytes s.b ++ rest)) ≡ point_bytes s.b ++ rest = drop_at (point_bytes s.a) (point_bytes s.b ++ rest) 8 (point_length s.a) in
    ap (λ (b : List ℕ). value.Shape (shape.Segment (record { a = leading_point b; b = leading_point (drop 8 b) }))) whole
    ∙ ap₂ (λ (p q : Point). value.Shape (shape.Segment (record { a = p; b = q }))) (point_back s.a (point_bytes s.b ++ rest) h.a)
    (ap (λ (b : List ℕ). leading_point b) behind ∙ point_back s.b rest h.b)
value_back (value.Shape (shape.Polygon corners)) rest h =
    ap (λ (ps : List Point). value.Shape (shape.Polygon ps)) (points_back corners rest h.in_plane)

-- a row
pub row_back : (schema : List (List ℕ × Kind)) (row : List Value) → IsRowFor schema row → row_in schema (encoding row) ≡ row
row_back schema row h = go schema row h.of_schema h.in_range where
  go : (columns : List (List ℕ × Kind)) (vs : List Value) → IsRowOf columns vs → IsRowInRange vs → row_in columns (encoding vs) ≡ vs
  go [] [] e r = refl
  go [] (v ∷ vs) e r = (let n : suc (length (map value_kind vs)) ≡ 0 = ap (λ (ks : List Kind). length ks) e in absurd (omega (arith, n)))
  go (c ∷ cs) [] e r = (let n : 0 ≡ suc (length (map (λ (x : List ℕ × Kind). x.1) cs)) = ap (λ (ks : List Kind). length ks) e in absurd (omega (arith, n)))
  go (c ∷ cs) (v ∷ vs) e r =
      let k : c.1 ≡ value_kind v = sym (ap (λ (ks : List Kind). get_or ks 0 kind.Int) e) in
      let first : leading_value c.1 (value_bytes v ++ encoding vs) ≡ v =
      ap (λ (x : Kind). leading_value x (value_bytes v ++ encoding vs)) k ∙ value_back v (encoding vs) (All-head IsValueInRange v vs r) in
      let rest : IsRowOf cs vs = ap (λ (ks : List Kind). drop 1 ks) e in
      ap (λ (x : Value). x ∷ row_in cs (drop (length (value_bytes x)) (value_bytes v ++ encoding vs))) first
      ∙ ap (λ (xs : List Value). v ∷ xs) (ap (λ (b : List ℕ). row_in cs b) (drop_at (value_bytes v) (encoding vs) (length (value_bytes v)) refl) ∙ go cs vs rest (All-tail IsValueInRange v vs r))
