-- Values that are passed over, and the one that is read behind them.
use Rattle.std.proofs.Common.{◌≡◌, ℕ, ◌+◌, ◌*◌, ◌<◌, ◌≤◌, Bool, true, List, [], ◌∷◌, ◌++◌, length, get_or, take, drop, Option, Some, None, sym, refl, ap, ◌∙◌, arith}
use Rattle.std.proofs.Common.{length-append, length-take, get_or-take, subst, inl, inr}
use Rattle.std.specs.Prelude.{zero, suc, pos, ◌⊎◌, MatchOption, is_some}
use Rattle.std.specs.Borrow.{Bor}
use Rattle.std.specs.List.{flat_map}
use Rattle.std.proofs.lemmas.List.{length-map, get_or-map, drop_more}
use Rattle.std.proofs.lemmas.List.Elements.{All-get_or}
use Rattle.sand_base.specs.declared.kind.Kind.{Kind}
use Rattle.sand_base.specs.declared.kind.Kind.TheVariants as kind
use Rattle.sand_base.specs.declared.shape.Shape.TheVariants as shape
use Rattle.sand_base.specs.declared.value.Value.{Value}
use Rattle.sand_base.specs.declared.value.Value.TheVariants as value
use Rattle.sand_base.specs.InRange.{IsValueInRange}
use Rattle.sand_base.specs.Shape.{value_kind}
use Rattle.sand_model.specs.Database.{element}
use Rattle.tuple_codec.specs.Encoding.{point_bytes, value_bytes, encoding}
use Rattle.tuple_codec.specs.Front.{Takes}
use Rattle.tuple_codec.specs.Decoding.{IsValueOf, IsRowFor, IsEncodingOf}
use Rattle.tuple_codec.proofs.PrefixFree.{only, same_fronts}
use Rattle.tuple_codec.proofs.Sizes.{length-points, length-value}
use Rattle.tuple_codec.proofs.Rows.{values_free}

-- a whole number and a point take eight bytes
pub eight : (k : Kind) (v : Value) → (k ≡ kind.Int) ⊎ (k ≡ kind.Point) → value_kind v ≡ k → 8 ≡ length (value_bytes v)
eight k (value.Int n) is h = sym (length-value (value.Int n))
eight k (value.Shape (shape.Point p)) is h = sym (length-value (value.Shape (shape.Point p)))
eight k (value.Text b) (inl is) h = cc
eight k (value.Text b) (inr is) h = cc
eight k (value.Shape (shape.Segment s)) (inl is) h = cc
eight k (value.Shape (shape.Segment s)) (inr is) h = cc
eight k (value.Shape (shape.Polygon r)) (inl is) h = cc
eight k (value.Shape (shape.Polygon r)) (inr is) h = cc

-- a segment takes sixteen
pub sixteen : (k : Kind) (v : Value) → k ≡ kind.Segment → value_kind v ≡ k → 16 ≡ length (value_bytes v)
sixteen k (value.Shape (shape.Segment s)) is h = sym (length-value (value.Shape (shape.Segment s)))
sixteen k (value.Int n) is h = cc
sixteen k (value.Text b) is h = cc
sixteen k (value.Shape (shape.Point p)) is h = cc
sixteen k (value.Shape (shape.Polygon r)) is h = cc

-- a polygon takes eight for each of its vertices, behind their number
pub eight_each : (k : Kind) (v : Value) (old new rest : List ℕ) (count : ℕ) → k ≡ kind.Polygon → value_kind v ≡ k → old ≡ count ∷ new
    → old ≡ value_bytes v ++ rest → (bytes : List ℕ) × ((8 * count ≡ length bytes) × (new ≡ bytes ++ rest))
eight_each k (value.Shape (shape.Polygon r)) old new rest count is h e f =
    let many : count ≡ length r = cc in
    let behind : new ≡ flat_map point_bytes r ++ rest = cc in
    (flat_map point_bytes r, (ap (λ n. 8 * n) many ∙ sym (length-points r), behind))
eight_each k (value.Int n) old new rest count is h e f = cc
eight_each k (value.Text b) old new rest count is h e f = cc
eight_each k (value.Shape (shape.Point p)) old new rest count is h e f = cc
eight_each k (value.Shape (shape.Segment s)) old new rest count is h e f = cc

-- so many bytes are there, and are passed over
pub passes : (left new rest bytes : List ℕ) (count : ℕ) (was : Bool) (piece : Option (Bor (List ℕ))) → Some count ≡ Some (length bytes) → left ≡ bytes ++ rest
    → MatchOption piece (length left < count) (λ p. (length p.now ≡ count) × (left ≡ p.now ++ new)) → was ≡ is_some piece → (was ≡ true) × (new ≡ rest)
passes left new rest bytes count was None many e short h =
    let same : count ≡ length bytes = cc in
    absurd (omega (arith, ap length e ∙ length-append bytes rest))
passes left new rest bytes count was (Some piece) many e split h =
    let same : count ≡ length bytes = cc in
    (h, (same_fronts piece.now bytes new rest (split.0 ∙ same) (sym split.1 ∙ e)).1)

-- an element stands at each place of a list, and none behind its end
element_at : {A : Type 0} (xs : List A) (i : ℕ) (d : A) → i < length xs → element xs i ≡ Some (get_or xs i d)
element_at [] i d h = absurd (omega arith)
element_at (x ∷ xs) zero d h = refl
element_at (x ∷ xs) (suc i) d h = element_at xs i d (omega arith)

element_none : {A : Type 0} (xs : List A) (i : ℕ) → length xs ≤ i → element xs i ≡ None
element_none [] i h = refl
element_none (x ∷ xs) zero h = absurd (omega arith)
element_none (x ∷ xs) (suc i) h = element_none xs i (omega arith)

-- the value of a row that stands at a place, before the later ones
pub record StandsAt (k : Kind) (row : List Value) (i : ℕ) (v : Value) : Type 0 where
  pub is : IsValueOf k v
  pub ahead : encoding (drop i row) ≡ value_bytes v ++ encoding (drop (i + 1) row)
  pub here : element row i ≡ Some v

-- a row has a value for each column
long_row : (columns : List (List ℕ × Kind)) (row : List Value) → IsRowFor columns row → length row ≡ length columns
long_row columns row fits =
    sym (length-map row value_kind) ∙ ap length fits.of_schema ∙ length-map columns (λ (c : List ℕ × Kind). c.1)

fitting_too : (columns schema : List (List ℕ × Kind)) (row : List Value) (bytes : List ℕ) → columns ≡ schema → IsEncodingOf schema row bytes → IsRowFor columns row
fitting_too columns schema row bytes same enc =
    let P : List (List ℕ × Kind) → Type 0 = λ s. IsRowFor s row in subst P (sym same) enc.fitting

-- it has one of the column's kind there
value_there : (columns : List (List ℕ × Kind)) (i : ℕ) (column : List ℕ × Kind) → i < length columns → column ≡ get_or columns i column
    → (row : List Value) → IsRowFor columns row → (v : Value) × (StandsAt column.1 row i v)
value_there columns i column h e row fits =
    let none : Value = value.Int (pos 0) in
    let within : i < length row = omega (arith, long_row columns row fits) in
    let kind_is : value_kind (get_or row i none) ≡ column.1 =
    sym (get_or-map value_kind row i none column.1 within)
    ∙ ap (λ ks. get_or ks i column.1) fits.of_schema
    ∙ get_or-map (λ (c : List ℕ × Kind). c.1) columns i column column.1 h
    ∙ ap (λ (c : List ℕ × Kind). c.1) (sym e) in (
      get_or row i none,
      record {
        is = record { of_kind = kind_is; in_range = All-get_or IsValueInRange row i none within fits.in_range };
        ahead = ap encoding (drop_more row i none within);
        here = element_at row i none within;
      },
    )

-- the value in front is the one that is found
pub found_there : (k : Kind) (v : Value) (left new rest : List ℕ) (found : Option Value) → IsValueOf k v → left ≡ value_bytes v ++ rest
    → Takes (IsValueOf k) value_bytes left found new → found ≡ Some v
found_there k v left new rest None is e t = absurd (t v rest is e)
found_there k v left new rest (Some a) is e t =
    ap (λ (x : Value). Some x) (only (IsValueOf k) value_bytes (values_free k) a v new rest t.0 is (sym t.1 ∙ e)).0

-- where a column comes before another one, the row has a value of its kind there
pub value_before : (columns schema : List (List ℕ × Kind)) (n i : ℕ) (column : List ℕ × Kind) (bytes : List ℕ) → columns ≡ schema
    → i < length (take n columns) → column ≡ get_or (take n columns) i column
    → (row : List Value) → IsEncodingOf schema row bytes → (v : Value) × (StandsAt column.1 row i v)
value_before columns schema n i column bytes same h e row enc =
    let within : (i < n) × (i < length columns) = (omega (arith, length-take n columns), omega (arith, length-take n columns)) in
    value_there columns i column within.1 (e ∙ get_or-take n columns i column within.0) row (fitting_too columns schema row bytes same enc)

-- and in the column itself
pub value_in_column : (columns schema : List (List ℕ × Kind)) (i : ℕ) (column : List ℕ × Kind) (bytes : List ℕ) → columns ≡ schema
    → i < length columns → column ≡ get_or columns i column
    → (row : List Value) → IsEncodingOf schema row bytes → (v : Value) × (StandsAt column.1 row i v)
value_in_column columns schema i column bytes same h e row enc = value_there columns i column h e row (fitting_too columns schema row bytes same enc)

-- all before the column were passed over
pub at_column : (columns : List (List ℕ × Kind)) (n i : ℕ) → n < length columns → length (take n columns) ≤ i → i ≤ length (take n columns) → i ≡ n
at_column columns n i h low high = omega (arith, length-take n columns)
