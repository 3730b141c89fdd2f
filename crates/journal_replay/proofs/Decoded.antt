-- Rows that are read one by one from their encodings.
use Rattle.std.proofs.Common.{◌≡◌, ℕ, zero, suc, ◌+◌, ◌<◌, List, [], ◌∷◌, ◌++◌, length, get_or, take, Vec, Option, Some, None, All, refl, sym, ap, subst, ◌∙◌, arith}
use Rattle.std.proofs.Math.ListN.{get_or-map}
use Rattle.std.proofs.Math.Seq.{take-suc}
use Rattle.std.proofs.lemmas.List.{length-map, map-append}
use Rattle.std.proofs.lemmas.List.Elements.{All-nil, All-cons}
use Rattle.std.specs.declared.alloc.Global.{Global}
use Rattle.sand_base.specs.InRange.{IsRowOf, IsRowInRange}
use Rattle.sand_base.specs.declared.kind.Kind.{Kind}
use Rattle.sand_base.specs.declared.value.Value.{Value}
use Rattle.sand_journal.specs.RowsBody.{bytes_of_each}
use Rattle.sand_store.proofs.Decodes.{row_back}
use Rattle.sand_store.specs.Tuples.{row_in}
use Rattle.tuple_codec.specs.Decoding.{IsEncodingOf}
use Rattle.journal_replay.specs.ChangedDatabase.{rows_of}
use Rattle.journal_replay.specs.EncodedRows.{AreEncodingsOf, EncodeNone}

-- the columns of a schema
abbrev pub Columns : Type 0
Columns = List (List ℕ × Kind)

-- one row more with its encoding
pub encoded_push : (schema : Columns) (rows : List (List Value)) (encodings : List (List ℕ)) (row : List Value) (bytes : List ℕ) → AreEncodingsOf schema rows encodings
    → IsEncodingOf schema row bytes → AreEncodingsOf schema (rows ++ row ∷ []) (encodings ++ bytes ∷ [])
encoded_push schema [] [] row bytes all one = (one, tt)
encoded_push schema [] (b ∷ bs) row bytes all one = absurd all
encoded_push schema (r ∷ rs) [] row bytes all one = absurd all
encoded_push schema (r ∷ rs) (b ∷ bs) row bytes all one = (all.0, encoded_push schema rs bs row bytes all.1 one)

-- the bytes of the first ones are those before, and those at the next place
pub taken_more : (xs : List (Vec ℕ Global)) (at : ℕ) (x : Vec ℕ Global) → at < length xs → x ≡ get_or xs at x
    → bytes_of_each (take (at + 1) xs) ≡ bytes_of_each (take at xs) ++ x.items ∷ []
taken_more xs at x within is =
    let next : at + 1 ≡ suc at = omega arith in
    ap (λ (n : ℕ). bytes_of_each (take n xs)) next ∙ ap (λ (l : List (Vec ℕ Global)). bytes_of_each l) (take-suc xs at x within)
    ∙ map-append (λ (one : Vec ℕ Global). one.items) (take at xs) (get_or xs at x ∷ [])
    ∙ ap (λ (one : Vec ℕ Global). bytes_of_each (take at xs) ++ one.items ∷ []) (sym is)

-- the rows read so far, and the next one
pub read_more : (schema : Columns) (xs : List (Vec ℕ Global)) (at : ℕ) (x : Vec ℕ Global) (rows : List (List Value)) (row : List Value) → at < length xs → x ≡ get_or xs at x
    → AreEncodingsOf schema rows (bytes_of_each (take at xs)) → IsEncodingOf schema row x.items → AreEncodingsOf schema (rows ++ row ∷ []) (bytes_of_each (take (at + 1) xs))
read_more schema xs at x rows row within is all one =
    subst (AreEncodingsOf schema (rows ++ row ∷ [])) (sym (taken_more xs at x within is)) (encoded_push schema rows (bytes_of_each (take at xs)) row x.items all one)

-- each of the encodings is that of a row
encoded_at : (schema : Columns) (rows : List (List Value)) (encodings : List (List ℕ)) (at : ℕ) (other : List ℕ) → at < length encodings → AreEncodingsOf schema rows encodings
    → (row : List Value) × IsEncodingOf schema row (get_or encodings at other)
encoded_at schema [] [] at other within all = absurd (omega (arith, within))
encoded_at schema [] (b ∷ bs) at other within all = absurd all
encoded_at schema (r ∷ rs) [] at other within all = absurd all
encoded_at schema (r ∷ rs) (b ∷ bs) zero other within all = (r, all.0)
encoded_at schema (r ∷ rs) (b ∷ bs) (suc at) other within all = encoded_at schema rs bs at other (omega (arith, within)) all.1

-- where one is that of no row, no rows have them
pub none_with : (schema : Columns) (xs : List (Vec ℕ Global)) (at : ℕ) (x : Vec ℕ Global) → at < length xs → x ≡ get_or xs at x
    → ((row : List Value) → IsEncodingOf schema row x.items → ⊥) → EncodeNone schema (bytes_of_each xs)
none_with schema xs at x within is none rows all =
    let one = encoded_at schema rows (bytes_of_each xs) at x.items (omega (arith, within, length-map xs (λ (v : Vec ℕ Global). v.items))) all in
    none one.0 (subst (IsEncodingOf schema one.0) (get_or-map (λ (v : Vec ℕ Global). v.items) xs at x ∙ ap (λ (v : Vec ℕ Global). v.items) (sym is)) one.1)

-- what is found where there is nothing but None
pub none_found : {A : Type 0} (found : Option A) (a : A) → found ≡ None → found ≡ Some a → ⊥
none_found None a is same = let clash : ⊥ = cc in absurd clash
none_found (Some b) a is same = let clash : ⊥ = cc in absurd clash

-- the rows are in range
pub rows_in_range : (schema : Columns) (rows : List (List Value)) (encodings : List (List ℕ)) → AreEncodingsOf schema rows encodings → All IsRowInRange rows
rows_in_range schema [] encodings all = All-nil IsRowInRange
rows_in_range schema (r ∷ rs) [] all = absurd all
rows_in_range schema (r ∷ rs) (b ∷ bs) all = All-cons IsRowInRange r rs all.0.fitting.in_range (rows_in_range schema rs bs all.1)

-- the rows are of the schema
pub rows_of_schema : (schema : Columns) (rows : List (List Value)) (encodings : List (List ℕ)) → AreEncodingsOf schema rows encodings → All (IsRowOf schema) rows
rows_of_schema schema [] encodings all = All-nil (IsRowOf schema)
rows_of_schema schema (r ∷ rs) [] all = absurd all
rows_of_schema schema (r ∷ rs) (b ∷ bs) all = All-cons (IsRowOf schema) r rs all.0.fitting.of_schema (rows_of_schema schema rs bs all.1)

-- they are the rows that stand in the encodings
pub rows_back : (schema : Columns) (rows : List (List Value)) (encodings : List (List ℕ)) → AreEncodingsOf schema rows encodings → rows_of schema encodings ≡ rows
rows_back schema [] [] all = refl
rows_back schema [] (b ∷ bs) all = absurd all
rows_back schema (r ∷ rs) [] all = absurd all
rows_back schema (r ∷ rs) (b ∷ bs) all =
    ap (λ (v : List Value). v ∷ rows_of schema bs) (ap (λ (bytes : List ℕ). row_in schema bytes) (sym all.0.encoded) ∙ row_back schema r all.0.fitting)
    ∙ ap (λ (vs : List (List Value)). r ∷ vs) (rows_back schema rs bs all.1)

-- there are as many
pub as_many : (schema : Columns) (rows : List (List Value)) (encodings : List (List ℕ)) → AreEncodingsOf schema rows encodings → length rows ≡ length encodings
as_many schema [] [] all = refl
as_many schema [] (b ∷ bs) all = absurd all
as_many schema (r ∷ rs) [] all = absurd all
as_many schema (r ∷ rs) (b ∷ bs) all = ap (λ (n : ℕ). suc n) (as_many schema rs bs all.1)
