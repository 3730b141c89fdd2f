-- Values and rows: their codes are prefix-free, and what stands in front of some bytes.
use Rattle.std.proofs.Common.{◌≡◌, ℕ, ◌+◌, ◌<◌, ◌≤◌, List, [], ◌∷◌, ◌++◌, length, map, sym, refl, ap, ◌∙◌, arith, append_assoc, append-nil, length-append, subst, get_or, take, drop, Option, None}
use Rattle.std.specs.List.{All}
use Rattle.std.proofs.lemmas.List.Elements.{All-head, All-tail}
use Rattle.std.proofs.lemmas.List.{nil_from_length, length-map, map-append, append_cancel_left, take-append-drop, drop_more, get_or-map, map_push, take_more, take_all}
use Rattle.sand_base.specs.declared.kind.Kind.{Kind}
use Rattle.sand_base.specs.declared.shape.Shape.TheVariants as shape
use Rattle.sand_base.specs.declared.value.Value.{Value}
use Rattle.sand_base.specs.declared.value.Value.TheVariants as value
use Rattle.sand_base.specs.InRange.{IsValueInRange}
use Rattle.sand_base.specs.Shape.{value_kind}
use Rattle.tuple_codec.specs.Encoding.{value_bytes, encoding}
use Rattle.tuple_codec.specs.Front.{IsNoneInFront, Takes}
use Rattle.tuple_codec.specs.Decoding.{IsValueOf, IsRowFor, IsEncodingOf, HaveOneEncoding}
use Rattle.tuple_codec.proofs.PrefixFree.{IsPrefixFree, only, All-behind, none_of, rest_same}
use Rattle.tuple_codec.proofs.Numbers.{ints_free}
use Rattle.tuple_codec.proofs.Corners.{texts_free, points_free, segments_free, rings_free}
use Rattle.tuple_codec.proofs.Lists.{HasRead, GoesOn, IsAll, stops, reads}

-- two values of one kind with codes that begin the same bytes are one
values_one : (a b : Value) (r s : List ℕ) → value_kind a ≡ value_kind b → IsValueInRange a → IsValueInRange b
    → value_bytes a ++ r ≡ value_bytes b ++ s → a ≡ b
values_one (value.Int m) (value.Int n) r s e ia ib h = ap (λ n. value.Int n) (ints_free.one m n r s ia ib h)
values_one (value.Text m) (value.Text n) r s e ia ib h = ap (λ n. value.Text n) (texts_free.one m n r s ia ib h)
values_one (value.Shape (shape.Point m)) (value.Shape (shape.Point n)) r s e ia ib h =
    ap (λ n. value.Shape (shape.Point n)) (points_free.one m n r s ia ib h)
values_one (value.Shape (shape.Segment m)) (value.Shape (shape.Segment n)) r s e ia ib h =
    ap (λ n. value.Shape (shape.Segment n)) (segments_free.one m n r s ia ib h)
values_one (value.Shape (shape.Polygon m)) (value.Shape (shape.Polygon n)) r s e ia ib h =
    ap (λ n. value.Shape (shape.Polygon n)) (rings_free.one m n r s ia ib h)
values_one (value.Int m) (value.Text n) r s e ia ib h = cc
values_one (value.Int m) (value.Shape (shape.Point n)) r s e ia ib h = cc
values_one (value.Int m) (value.Shape (shape.Segment n)) r s e ia ib h = cc
values_one (value.Int m) (value.Shape (shape.Polygon n)) r s e ia ib h = cc
values_one (value.Text m) (value.Int n) r s e ia ib h = cc
values_one (value.Text m) (value.Shape (shape.Point n)) r s e ia ib h = cc
values_one (value.Text m) (value.Shape (shape.Segment n)) r s e ia ib h = cc
values_one (value.Text m) (value.Shape (shape.Polygon n)) r s e ia ib h = cc
values_one (value.Shape (shape.Point m)) (value.Int n) r s e ia ib h = cc
values_one (value.Shape (shape.Point m)) (value.Text n) r s e ia ib h = cc
values_one (value.Shape (shape.Point m)) (value.Shape (shape.Segment n)) r s e ia ib h = cc
values_one (value.Shape (shape.Point m)) (value.Shape (shape.Polygon n)) r s e ia ib h = cc
values_one (value.Shape (shape.Segment m)) (value.Int n) r s e ia ib h = cc
values_one (value.Shape (shape.Segment m)) (value.Text n) r s e ia ib h = cc
values_one (value.Shape (shape.Segment m)) (value.Shape (shape.Point n)) r s e ia ib h = cc
values_one (value.Shape (shape.Segment m)) (value.Shape (shape.Polygon n)) r s e ia ib h = cc
values_one (value.Shape (shape.Polygon m)) (value.Int n) r s e ia ib h = cc
values_one (value.Shape (shape.Polygon m)) (value.Text n) r s e ia ib h = cc
values_one (value.Shape (shape.Polygon m)) (value.Shape (shape.Point n)) r s e ia ib h = cc
values_one (value.Shape (shape.Polygon m)) (value.Shape (shape.Segment n)) r s e ia ib h = cc

-- so values of a kind have a prefix code
pub values_free : (k : Kind) → IsPrefixFree (IsValueOf k) value_bytes
values_free k = record {
  one = λ a b r s ia ib h. values_one a b r s (ia.of_kind ∙ sym ib.of_kind) ia.in_range ib.in_range h;
}

-- a list of values that goes with this list of kinds, each in range
pub record GoesWith (kinds : List Kind) (row : List Value) : Type 0 where
  pub kinds_are : map value_kind row ≡ kinds
  pub in_range : All IsValueInRange row

-- fewer values than kinds are followed by one more, of the next kind
goes_on : (kinds done_kinds later : List Kind) (k : Kind) (done : List Value) → kinds ≡ done_kinds ++ k ∷ later → map value_kind done ≡ done_kinds
    → (all more : List Value) → GoesWith kinds all → all ≡ done ++ more
    → (a : Value) × ((tail : List Value) × ((more ≡ a ∷ tail) × IsValueOf k a))
goes_on kinds done_kinds later k done split so_far all [] fits e =
    let all_kinds : map value_kind done ++ [] ≡ done_kinds ++ k ∷ later =
    sym (map-append value_kind done []) ∙ ap (map value_kind) (sym e) ∙ fits.kinds_are ∙ split in
    let rests : [] ≡ k ∷ later = append_cancel_left done_kinds [] (k ∷ later) (ap (λ z. z ++ []) (sym so_far) ∙ all_kinds) in
    cc
goes_on kinds done_kinds later k done split so_far all (a ∷ tail) fits e =
    let all_kinds : map value_kind done ++ value_kind a ∷ map value_kind tail ≡ done_kinds ++ k ∷ later =
    sym (map-append value_kind done (a ∷ tail)) ∙ ap (map value_kind) (sym e) ∙ fits.kinds_are ∙ split in
    let rests : value_kind a ∷ map value_kind tail ≡ k ∷ later =
    append_cancel_left done_kinds (value_kind a ∷ map value_kind tail) (k ∷ later) (ap (λ z. z ++ (value_kind a ∷ map value_kind tail)) (sym so_far) ∙ all_kinds) in
    let first : value_kind a ≡ k = cc in
    (a, (tail, (refl, record { of_kind = first; in_range = All-head IsValueInRange a tail (All-behind IsValueInRange all done (a ∷ tail) e fits.in_range) })))

pub values_go_on : (kinds done_kinds later : List Kind) (k : Kind) (done : List Value) → kinds ≡ done_kinds ++ k ∷ later
    → map value_kind done ≡ done_kinds → GoesOn (IsValueOf k) (GoesWith kinds) done
values_go_on kinds done_kinds later k done split so_far = record { next = goes_on kinds done_kinds later k done split so_far }

-- as many values as kinds are all
is_all : (kinds : List Kind) (done : List Value) → map value_kind done ≡ kinds → (all more : List Value) → GoesWith kinds all → all ≡ done ++ more → more ≡ []
is_all kinds done full all more fits e =
    nil_from_length more (omega (
      arith,
      ap length e ∙ length-append done more,
      sym (length-map all value_kind) ∙ ap length (fits.kinds_are ∙ sym full) ∙ length-map done value_kind,
    ))

pub values_are_all : (kinds : List Kind) (done : List Value) → map value_kind done ≡ kinds → IsAll (GoesWith kinds) done
values_are_all kinds done full = record { last = is_all kinds done full }

-- the kinds of a schema's columns
abbrev pub kinds_of : List (List ℕ × Kind) → List Kind
kinds_of schema = map (λ column. column.1) schema

-- two rows that go with the same kinds and whose encodings begin the same bytes are one
rows_one : (kinds : List Kind) (a b : List Value) (r s : List ℕ) → GoesWith kinds a → GoesWith kinds b → encoding a ++ r ≡ encoding b ++ s → a ≡ b
rows_one kinds [] [] r s ia ib h = refl
rows_one kinds [] (y ∷ b) r s ia ib h = let e : [] ≡ value_kind y ∷ map value_kind b = ia.kinds_are ∙ sym ib.kinds_are in cc
rows_one kinds (x ∷ a) [] r s ia ib h = let e : [] ≡ value_kind x ∷ map value_kind a = ib.kinds_are ∙ sym ia.kinds_are in cc
rows_one kinds (x ∷ a) (y ∷ b) r s ia ib h =
    let both_kinds : value_kind x ∷ map value_kind a ≡ value_kind y ∷ map value_kind b = ia.kinds_are ∙ sym ib.kinds_are in
    let first_kind : value_kind x ≡ value_kind y = cc in
    let later_kinds : map value_kind b ≡ map value_kind a = cc in
    let heads : (x ≡ y) × (encoding a ++ r ≡ encoding b ++ s) =
    only (IsValueOf (value_kind y)) value_bytes (values_free (value_kind y)) x y (encoding a ++ r) (encoding b ++ s)
    (record { of_kind = first_kind; in_range = All-head IsValueInRange x a ia.in_range })
    (record { of_kind = refl; in_range = All-head IsValueInRange y b ib.in_range })
    (sym (append_assoc (value_bytes x) (encoding a) r) ∙ h ∙ append_assoc (value_bytes y) (encoding b) s) in
    let tails : a ≡ b = rows_one (map value_kind a) a b r s
    (record { kinds_are = refl; in_range = All-tail IsValueInRange x a ia.in_range })
    (record { kinds_are = later_kinds; in_range = All-tail IsValueInRange y b ib.in_range }) heads.1 in
    ap (λ z. z ∷ a) heads.0 ∙ ap (λ z. y ∷ z) tails

-- two rows of one schema with one encoding are one row
pub one_encoding : HaveOneEncoding
one_encoding schema bytes a b ia ib =
    rows_one (kinds_of schema) a b [] []
    (record { kinds_are = ia.fitting.of_schema; in_range = ia.fitting.in_range })
    (record { kinds_are = ib.fitting.of_schema; in_range = ib.fitting.in_range })
    (ap (λ z. z ++ []) (ia.encoded ∙ sym ib.encoded))

-- the kind of the next column stands behind those of the columns before
split_kinds : (columns : List (List ℕ × Kind)) (i : ℕ) (column : List ℕ × Kind) → i < length columns → column ≡ get_or columns i column
    → kinds_of columns ≡ take i (kinds_of columns) ++ column.1 ∷ drop (i + 1) (kinds_of columns)
split_kinds columns i column h e =
    let within : i < length (kinds_of columns) = omega (arith, length-map columns (λ (c : List ℕ × Kind). c.1)) in
    sym (take-append-drop i (kinds_of columns))
    ∙ ap (λ z. take i (kinds_of columns) ++ z)
    (drop_more (kinds_of columns) i column.1 within
    ∙ ap (λ k. k ∷ drop (i + 1) (kinds_of columns))
    (get_or-map (λ (c : List ℕ × Kind). c.1) columns i column column.1 h ∙ ap (λ (c : List ℕ × Kind). c.1) (sym e)))

next_value : (columns : List (List ℕ × Kind)) (i : ℕ) (column : List ℕ × Kind) (done : List Value) → i < length columns
    → column ≡ get_or columns i column → map value_kind done ≡ take i (kinds_of columns)
    → GoesOn (IsValueOf column.1) (GoesWith (kinds_of columns)) done
next_value columns i column done h e so_far =
    values_go_on (kinds_of columns) (take i (kinds_of columns)) (drop (i + 1) (kinds_of columns)) column.1 done (split_kinds columns i column h e) so_far

-- with no value of the next kind in front, no row of the schema stands there
pub row_stops : (columns : List (List ℕ × Kind)) (i : ℕ) (column : List ℕ × Kind) (done : List Value) → i < length columns
    → column ≡ get_or columns i column → map value_kind done ≡ take i (kinds_of columns)
    → (before left new : List ℕ) (found : Option Value) → HasRead (GoesWith (kinds_of columns)) value_bytes before done left
    → found ≡ None → Takes (IsValueOf column.1) value_bytes left found new → IsNoneInFront (IsRowFor columns) encoding before
row_stops columns i column done h e so_far before left new found has none t a rest fits f =
    stops (IsValueOf column.1) (GoesWith (kinds_of columns)) value_bytes before done left has (next_value columns i column done h e so_far)
    (none_of (IsValueOf column.1) value_bytes left new found none t)
    a rest (record { kinds_are = fits.of_schema; in_range = fits.in_range }) f

-- one more value was read
pub row_reads : (columns : List (List ℕ × Kind)) (i : ℕ) (column : List ℕ × Kind) (done : List Value) → i < length columns
    → column ≡ get_or columns i column → map value_kind done ≡ take i (kinds_of columns)
    → (before left new : List ℕ) (a : Value) → HasRead (GoesWith (kinds_of columns)) value_bytes before done left
    → IsValueOf column.1 a → left ≡ value_bytes a ++ new
    → HasRead (GoesWith (kinds_of columns)) value_bytes before (done ++ a ∷ []) new
row_reads columns i column done h e so_far before left new a has ia f =
    reads (IsValueOf column.1) (GoesWith (kinds_of columns)) value_bytes (values_free column.1) before done left new a has
    (next_value columns i column done h e so_far) ia f

-- and its kind is the next one
pub kinds_more : (columns : List (List ℕ × Kind)) (i : ℕ) (column : List ℕ × Kind) (done : List Value) (a : Value) → i < length columns
    → column ≡ get_or columns i column → map value_kind done ≡ take i (kinds_of columns) → value_kind a ≡ column.1
    → map value_kind (done ++ a ∷ []) ≡ take (i + 1) (kinds_of columns)
kinds_more columns i column done a h e so_far kind =
    let within : i < length (kinds_of columns) = omega (arith, length-map columns (λ (c : List ℕ × Kind). c.1)) in
    let next : get_or (kinds_of columns) i column.1 ≡ column.1 =
    get_or-map (λ (c : List ℕ × Kind). c.1) columns i column column.1 h ∙ ap (λ (c : List ℕ × Kind). c.1) (sym e) in
    map_push value_kind done a
    ∙ ap (λ z. z ++ value_kind a ∷ []) so_far
    ∙ ap (λ k. take i (kinds_of columns) ++ k ∷ []) (kind ∙ sym next)
    ∙ sym (take_more (kinds_of columns) i column.1 within)

-- at the end the row has a value for each column
pub all_kinds : (columns : List (List ℕ × Kind)) (i : ℕ) (done : List Value) → length columns ≤ i
    → map value_kind done ≡ take i (kinds_of columns) → map value_kind done ≡ kinds_of columns
all_kinds columns i done h e =
    e ∙ take_all i (kinds_of columns) (omega (arith, length-map columns (λ (c : List ℕ × Kind). c.1)))

-- with no row in front, the bytes are the encoding of none
pub none_whole : (columns schema : List (List ℕ × Kind)) (left bytes : List ℕ) → columns ≡ schema → left ≡ bytes
    → IsNoneInFront (IsRowFor columns) encoding left → (row : List Value) → IsEncodingOf schema row bytes → ⊥
none_whole columns schema left bytes e f none row enc =
    let P : List (List ℕ × Kind) → Type 0 = λ s. IsRowFor s row in
    none row [] (subst P (sym e) enc.fitting) (f ∙ sym enc.encoded ∙ sym (append-nil (encoding row)))

-- the row in front is the only one, with nothing behind it
pub whole_row : (columns schema : List (List ℕ × Kind)) (left bytes new : List ℕ) (values : List Value) → columns ≡ schema → left ≡ bytes
    → IsRowFor columns values → left ≡ encoding values ++ new
    → (row : List Value) → IsEncodingOf schema row bytes → (values ≡ row) × (new ≡ [])
whole_row columns schema left bytes new values e f fits h row enc =
    let split : encoding values ++ new ≡ encoding row ++ [] = sym h ∙ f ∙ sym enc.encoded ∙ sym (append-nil (encoding row)) in
    let same : values ≡ row =
    rows_one (kinds_of schema) values row new []
    (record { kinds_are = fits.of_schema ∙ ap kinds_of e; in_range = fits.in_range })
    (record { kinds_are = enc.fitting.of_schema; in_range = enc.fitting.in_range })
    split in
    (same, rest_same encoding values row new [] same split)
