-- Rows that are encoded one by one, and the length of their body.
use Rattle.std.proofs.Common.{◌≡◌, inl, inr, ℕ, zero, suc, ◌+◌, ◌<◌, ◌≤◌, Bool, true, false, nat_lt, ◌&&◌, List, [], ◌∷◌, ◌++◌, length, get_or, take, drop, map, Vec}
use Rattle.std.proofs.Common.{refl, sym, ap, subst, ◌∙◌, arith, length-append, true≢false}
use Rattle.std.proofs.Math.ListN.{get_or-map}
use Rattle.std.proofs.Math.Seq.{take-suc}
use Rattle.std.proofs.lemmas.List.{length-map, map-append, take_all}
use Rattle.std.proofs.lemmas.Bool.Decides.{leb_tells}
use Rattle.std.specs.Int.{w32, to_be_bytes}
use Rattle.std.specs.List.{AllByRecursion, flat_map}
use Rattle.std.specs.declared.alloc.Global.{Global}
use Rattle.sand_base.specs.InRange.{IsRowOf, IsRowInRange}
use Rattle.sand_base.specs.Shape.{value_kind, same_kind}
use Rattle.sand_base.specs.declared.kind.Kind.{Kind}
use Rattle.sand_base.specs.declared.kind.Kind.TheVariants as kind
use Rattle.sand_base.specs.declared.value.Value.{Value}
use Rattle.sand_journal.specs.ChangeBody.{Rows, IsEncodingShort, framed_row, counted_rows, body_of}
use Rattle.sand_journal.specs.RowsBody.{bytes_of_each}
use Rattle.sand_model.specs.RowSize.{row_size}
use Rattle.sand_model.specs.StatementChecks.{is_row_of}
use Rattle.tuple_codec.specs.Decoding.{IsEncodingOf}
use Rattle.tuple_codec.specs.Encoding.{encoding}
use Rattle.journal_replay.specs.KeptBody.{FitsSchema, AreShortEncodingsOf}
use Rattle.journal_replay.proofs.Decoded.{Columns, encoded_push, taken_more}

-- kinds that are one are told to be one
same_itself : (k : Kind) → same_kind k k ≡ true
same_itself kind.Int = refl
same_itself kind.Text = refl
same_itself kind.Point = refl
same_itself kind.Segment = refl
same_itself kind.Polygon = refl

-- a row of the schema passes the test
passes_test : (cs : Columns) (vs : List Value) → IsRowOf cs vs → is_row_of cs vs ≡ true
passes_test [] [] e = refl
passes_test [] (v ∷ vs) e = (let n : suc (length (map value_kind vs)) ≡ 0 = ap (λ (ks : List Kind). length ks) e in absurd (omega (arith, n)))
passes_test (c ∷ cs) [] e = (let n : 0 ≡ suc (length (map (λ (x : List ℕ × Kind). x.1) cs)) = ap (λ (ks : List Kind). length ks) e in absurd (omega (arith, n)))
passes_test (c ∷ cs) (v ∷ vs) e =
    let here : value_kind v ≡ c.1 = ap (λ (ks : List Kind). get_or ks 0 kind.Int) e in
    let rest : is_row_of cs vs ≡ true = passes_test cs vs (ap (λ (ks : List Kind). drop 1 ks) e) in
    ap (λ (k : Kind). same_kind k c.1 && is_row_of cs vs) here ∙ (ap (λ (b : Bool). b && is_row_of cs vs) (same_itself c.1) ∙ rest)

-- a row that fails it is not of the schema
pub fails_test : (seen cs : Columns) (shown vs : List Value) (told : Bool) → told ≡ is_row_of seen shown → told ≡ false → seen ≡ cs → shown ≡ vs → FitsSchema cs vs → ⊥
fails_test seen cs shown vs told e f a b fits =
    true≢false (sym (passes_test cs vs fits.of_schema) ∙ ap (λ (x : Columns). is_row_of x vs) (sym a) ∙ ap (λ (x : List Value). is_row_of seen x) (sym b) ∙ sym e ∙ f)

-- what holds of each of some, and of one more
pub all_more : {A : Type 0} (P : A → Type 0) (xs : List A) (x : A) → AllByRecursion P xs → P x → AllByRecursion P (xs ++ x ∷ [])
all_more P [] x all one = (one, tt)
all_more P (y ∷ ys) x all one = (all.0, all_more P ys x all.1 one)

-- what holds of each holds of the one at a place
pub all_at : {A : Type 0} (P : A → Type 0) (xs : List A) (at : ℕ) (x : A) → at < length xs → x ≡ get_or xs at x → AllByRecursion P xs → P x
all_at P [] at x within is all = absurd (omega (arith, within))
all_at P (y ∷ ys) zero x within is all = subst P (sym is) all.0
all_at P (y ∷ ys) (suc at) x within is all = all_at P ys at x (omega (arith, within)) is all.1

-- the bytes of one more
pub bytes_push : (xs : List (Vec ℕ Global)) (x : Vec ℕ Global) → bytes_of_each (xs ++ x ∷ []) ≡ bytes_of_each xs ++ x.items ∷ []
bytes_push xs x = map-append (λ (one : Vec ℕ Global). one.items) xs (x ∷ [])

-- the first rows, and the next one
row_more : (rows : List (List Value)) (at : ℕ) (row : List Value) → at < length rows → row ≡ get_or rows at row → take (at + 1) rows ≡ take at rows ++ row ∷ []
row_more rows at row within is =
    let next : at + 1 ≡ suc at = omega arith in
    ap (λ (n : ℕ). take n rows) next ∙ take-suc rows at row within ∙ ap (λ (r : List Value). take at rows ++ r ∷ []) (sym is)

-- the rows encoded so far, and the next one
pub encoded_more : (schema : Columns) (rows : List (List Value)) (at : ℕ) (row : List Value) (old new : List (Vec ℕ Global)) (x : Vec ℕ Global) → at < length rows → row ≡ get_or rows at row
    → new ≡ old ++ x ∷ [] → AreShortEncodingsOf schema (take at rows) (bytes_of_each old) → IsEncodingOf schema row x.items → IsEncodingShort x.items
    → AreShortEncodingsOf schema (take (at + 1) rows) (bytes_of_each new)
encoded_more schema rows at row old new x within is more all one short =
    subst (λ (rs : List (List Value)). AreShortEncodingsOf schema rs (bytes_of_each new)) (sym (row_more rows at row within is))
    (subst (λ (bs : List (List ℕ)). AreShortEncodingsOf schema (take at rows ++ row ∷ []) bs) (sym (ap (λ (l : List (Vec ℕ Global)). bytes_of_each l) more ∙ bytes_push old x))
    (record {
      encoded = encoded_push schema (take at rows) (bytes_of_each old) row x.items all.encoded one;
      short = all_more IsEncodingShort (bytes_of_each old) x.items all.short short;
    }))

-- the size of a row in its frame
framed_size : (row : List ℕ) → length (framed_row row) ≡ length row + 2
unfolding framed_row
framed_size row = omega arith

flat_push : (rows : List (List ℕ)) (row : List ℕ) → length (flat_map framed_row (rows ++ row ∷ [])) ≡ length (flat_map framed_row rows) + length row + 2
flat_push [] row = omega (arith, length-append (framed_row row) [], framed_size row)
flat_push (r ∷ rs) row =
    let rest = flat_push rs row in
    omega (arith, rest, length-append (framed_row r) (flat_map framed_row (rs ++ row ∷ [])), length-append (framed_row r) (flat_map framed_row rs))

-- the size of the rows so far, and the next one
pub sized_more : (xs : List (Vec ℕ Global)) (at : ℕ) (x : Vec ℕ Global) → at < length xs → x ≡ get_or xs at x
    → length (flat_map framed_row (bytes_of_each (take (at + 1) xs))) ≡ length (flat_map framed_row (bytes_of_each (take at xs))) + length x.items + 2
sized_more xs at x within is =
    ap (λ (l : List (List ℕ)). length (flat_map framed_row l)) (taken_more xs at x within is) ∙ flat_push (bytes_of_each (take at xs)) x.items

-- one of the encodings is short
pub short_at : (xs : List (Vec ℕ Global)) (at : ℕ) (x : Vec ℕ Global) → at < length xs → x ≡ get_or xs at x → AllByRecursion IsEncodingShort (bytes_of_each xs) → IsEncodingShort x.items
short_at xs at x within is all =
    all_at IsEncodingShort (bytes_of_each xs) at x.items (omega (arith, within, length-map xs (λ (v : Vec ℕ Global). v.items)))
    (ap (λ (v : Vec ℕ Global). v.items) is ∙ sym (get_or-map (λ (v : Vec ℕ Global). v.items) xs at x)) all

-- the size of the body of rows
pub body_size : (relation : List ℕ) (rows : List (List ℕ)) → length (body_of (Rows relation rows)) ≡ 6 + length relation + length (flat_map framed_row rows)
unfolding body_of counted_rows
body_size relation rows = omega (arith, length-append relation (to_be_bytes w32 (length rows) ++ flat_map framed_row rows), length-append (to_be_bytes w32 (length rows)) (flat_map framed_row rows))

-- a number that the test tells to be less is less
told_less : (a b : ℕ) → nat_lt a b ≡ true → a < b
told_less a b told = elim (leb_tells (suc a) b) [ inl x ↦ omega (arith, x.1) | inr x ↦ absurd (true≢false (sym told ∙ x.0)) ]

-- a size that is small is that of a short body
pub body_short : (relation : List ℕ) (xs : List (Vec ℕ Global)) (at size : ℕ) → size ≡ 6 + length relation + length (flat_map framed_row (bytes_of_each (take at xs))) → length xs ≤ at
    → nat_lt size 4294967296 ≡ true → length (body_of (Rows relation (bytes_of_each xs))) < 4294967296
body_short relation xs at size is le told =
    let whole : length (flat_map framed_row (bytes_of_each (take at xs))) ≡ length (flat_map framed_row (bytes_of_each xs)) =
    ap (λ (l : List (Vec ℕ Global)). length (flat_map framed_row (bytes_of_each l))) (take_all at xs le) in
    let less : size < 4294967296 = told_less size 4294967296 told in
    omega (arith, is, whole, less, body_size relation (bytes_of_each xs))

-- the bytes of a row are its encoding, and short
pub row_encoded : (schema : Columns) (row : List Value) (bytes : List ℕ) → IsRowOf schema row → IsRowInRange row → bytes ≡ encoding row → length bytes ≡ row_size row → row_size row ≤ 3900
    → IsEncodingOf schema row bytes × IsEncodingShort bytes
row_encoded schema row bytes fits range is size short = (record { fitting = record { of_schema = fits; in_range = range }; encoded = sym is }, omega (arith, size, short))
