-- How a record is read column by column, and a file record by record.
use Rattle.std.proofs.Common.{◌≡◌, ℕ, zero, suc, ◌+◌, ◌-◌, ◌<◌, ◌≤◌, Bool, true, false, List, [], ◌∷◌, ◌++◌, length, drop, get_or, Option, Some, None, Result, Ok, Err}
use Rattle.std.proofs.Common.{Bor, refl, sym, ap, subst, ◌∙◌, arith, append_assoc, length-append, map}
use Rattle.std.specs.Option.{is_some, option_map}
use Rattle.std.specs.Prelude.{All}
use Rattle.std.proofs.lemmas.Bool.{false≢true}
use Rattle.std.proofs.lemmas.List.{append-nil, drop_all, drop-append-le, length-drop}
use Rattle.std.proofs.lemmas.List.Elements.{All-nil, All-cons}
use Rattle.csv.specs.Records.{field_at}
use Rattle.sand_base.specs.InRange.{IsRowOf, IsRowInRange, IsValueInRange}
use Rattle.sand_base.specs.Shape.{value_kind}
use Rattle.sand_base.specs.declared.kind.Kind.{Kind}
use Rattle.sand_base.specs.declared.value.Value.{Value}
use Rattle.sand_model.specs.StatementChecks.{FileRows, AreRows, HasBad}
use Rattle.csv_load.specs.FieldValue.{field_value, field_value_in}
use Rattle.csv_load.specs.FileRows.{put_value, record_row, put_row, rows_from, first_row, rows_of_file}
use Rattle.csv_load.proofs.FieldValues.{value-fits}

-- one element more
pub length-push : {A : Type 0} (xs : List A) (x : A) → length (xs ++ x ∷ []) ≡ suc (length xs)
length-push xs x = omega (arith, length-append xs (x ∷ []))

-- values in front of what the columns after them give
abbrev pub after : List Value → Result (List Value) ℕ → Result (List Value) ℕ
after values (Ok row) = Ok (values ++ row)
after values (Err column) = Err column

-- one value more
after-put : (values : List Value) (v : Value) (at : ℕ) (rest : Result (List Value) ℕ) → after values (put_value at (Some v) rest) ≡ after (values ++ v ∷ []) rest
after-put values v at (Ok row) = ap (λ r. Ok r) (sym (append_assoc values (v ∷ []) row))
after-put values v at (Err column) = refl

-- the first so many columns of the record were read as the values
pub record HasRead (columns : List (List ℕ × Kind)) (fields : List (List ℕ)) (values : List Value) : Type 0 where
  pub within : length values ≤ length columns
  pub read : record_row 1 columns fields ≡ after values (record_row (1 + length values) (drop (length values) columns) (drop (length values) fields))

after-none : (r : Result (List Value) ℕ) → after [] r ≡ r
after-none (Ok row) = refl
after-none (Err column) = refl

-- no column was read yet
pub none-read : (columns : List (List ℕ × Kind)) (fields : List (List ℕ)) → HasRead columns fields []
none-read columns fields = record { within = omega arith; read = sym (after-none (record_row 1 columns fields)) }

-- the column at a place comes next
next-column : {A : Type 0} (xs : List A) (i : ℕ) (x : A) → i < length xs → x ≡ get_or xs i x → drop i xs ≡ x ∷ drop (suc i) xs
next-column [] i x h e = absurd (omega arith)
next-column (y ∷ xs) zero x h e = ap (λ z. z ∷ xs) (sym e)
next-column (y ∷ xs) (suc i) x h e = next-column xs i x (omega arith) e

-- the field at a place comes next, or none is left
next-field : (fields : List (List ℕ)) (i : ℕ) (field : List ℕ) → field_at fields i ≡ Some field → drop i fields ≡ field ∷ drop (suc i) fields
unfolding field_at
next-field [] i field e = absurd cc
next-field (f ∷ fs) zero field e = let same : f ≡ field = cc in ap (λ z. z ∷ fs) same
next-field (f ∷ fs) (suc i) field e = next-field fs i field e

no-field : (fields : List (List ℕ)) (i : ℕ) → field_at fields i ≡ None → drop i fields ≡ []
unfolding field_at
no-field [] zero e = refl
no-field [] (suc i) e = refl
no-field (f ∷ fs) zero e = absurd cc
no-field (f ∷ fs) (suc i) e = no-field fs i e

-- what the columns from a place on give
step : (columns : List (List ℕ × Kind)) (fields : List (List ℕ)) (values : List Value) (column : List ℕ × Kind) → length values < length columns → column ≡ get_or columns (length values) column
    → (found : Option (List ℕ)) → field_at fields (length values) ≡ found
    → (v : Option Value) → field_value_in column.1 found ≡ v
    → record_row (1 + length values) (drop (length values) columns) (drop (length values) fields)
    ≡ put_value (1 + length values) v (record_row (1 + suc (length values)) (drop (suc (length values)) columns) (drop (suc (length values)) fields))
step columns fields values column h e None at v is =
    ap (λ cs. record_row (1 + length values) cs (drop (length values) fields)) (next-column columns (length values) column h e)
    ∙ ap (λ fs. record_row (1 + length values) (column ∷ drop (suc (length values)) columns) fs) (no-field fields (length values) at)
    ∙ ap (λ o. put_value (1 + length values) o (record_row (1 + suc (length values)) (drop (suc (length values)) columns) (drop (suc (length values)) fields))) is
step columns fields values column h e (Some field) at v is =
    let next : suc (1 + length values) ≡ 1 + suc (length values) = omega arith in
    ap (λ cs. record_row (1 + length values) cs (drop (length values) fields)) (next-column columns (length values) column h e)
    ∙ ap (λ fs. record_row (1 + length values) (column ∷ drop (suc (length values)) columns) fs) (next-field fields (length values) field at)
    ∙ ap (λ o. put_value (1 + length values) o (record_row (suc (1 + length values)) (drop (suc (length values)) columns) (drop (suc (length values)) fields))) is
    ∙ ap (λ n. put_value (1 + length values) v (record_row n (drop (suc (length values)) columns) (drop (suc (length values)) fields))) next

-- the column at the index is the next one
at-place : (columns : List (List ℕ × Kind)) (column : List ℕ × Kind) (i n : ℕ) → i ≡ n → column ≡ get_or columns i column → column ≡ get_or columns n column
at-place columns column i n at e = e ∙ ap (λ k. get_or columns k column) at

-- one column more was read
pub more-read : (columns : List (List ℕ × Kind)) (fields : List (List ℕ)) (values : List Value) (i : ℕ) (column : List ℕ × Kind) (v : Value) → i ≡ length values → i < length columns
    → column ≡ get_or columns i column → HasRead columns fields values → Some v ≡ field_value_in column.1 (field_at fields (length values)) → HasRead columns fields (values ++ v ∷ [])
more-read columns fields values i column v at h e so_far is =
    let here : length values < length columns = omega arith in
    let size : length (values ++ v ∷ []) ≡ suc (length values) = length-push values v in
    let one = step columns fields values column here (at-place columns column i (length values) at e) (field_at fields (length values)) refl (Some v) (sym is) in
    record {
      within = omega (arith, size);
      read =
          so_far.read ∙ ap (after values) one
          ∙ after-put values v (1 + length values) (record_row (1 + suc (length values)) (drop (suc (length values)) columns) (drop (suc (length values)) fields))
          ∙ ap (λ n. after (values ++ v ∷ []) (record_row (1 + n) (drop n columns) (drop n fields))) (sym size);
    }

-- the leftmost bad column
pub bad-column : (columns : List (List ℕ × Kind)) (fields : List (List ℕ)) (values : List Value) (i : ℕ) (column : List ℕ × Kind) → i ≡ length values → i < length columns
    → column ≡ get_or columns i column → HasRead columns fields values → None ≡ field_value_in column.1 (field_at fields (length values)) → record_row 1 columns fields ≡ Err (length values + 1)
bad-column columns fields values i column at h e so_far is =
    let here : length values < length columns = omega arith in
    let one = step columns fields values column here (at-place columns column i (length values) at e) (field_at fields (length values)) refl None (sym is) in
    let same : 1 + length values ≡ length values + 1 = omega arith in
    so_far.read ∙ ap (after values) one ∙ ap (λ n. Err n) same

-- no column is left
ended : (columns : List (List ℕ × Kind)) (fields : List (List ℕ)) (values : List Value) → length columns ≤ length values → HasRead columns fields values
    → (left : List (List ℕ)) → drop (length columns) fields ≡ left → record_row 1 columns fields ≡ after values (record_row (1 + length columns) [] left)
ended columns fields values h so_far left e =
    let within = so_far.within in
    let same : length values ≡ length columns = omega arith in
    so_far.read
    ∙ ap (λ n. after values (record_row (1 + n) (drop n columns) (drop n fields))) same
    ∙ ap (λ cs. after values (record_row (1 + length columns) cs (drop (length columns) fields))) (drop_all (length columns) columns (omega arith))
    ∙ ap (λ fs. after values (record_row (1 + length columns) [] fs)) e

-- a field behind the last column, and none there
pub surplus : (columns : List (List ℕ × Kind)) (fields : List (List ℕ)) (values : List Value) → length columns ≤ length values → HasRead columns fields values
    → (field : List ℕ) → field_at fields (length columns) ≡ Some field → record_row 1 columns fields ≡ Err (length columns + 1)
surplus columns fields values h so_far field e =
    let same : 1 + length columns ≡ length columns + 1 = omega arith in
    ended columns fields values h so_far (field ∷ drop (suc (length columns)) fields) (next-field fields (length columns) field e) ∙ ap (λ n. Err n) same

pub whole-row : (columns : List (List ℕ × Kind)) (fields : List (List ℕ)) (values : List Value) → length columns ≤ length values → HasRead columns fields values
    → field_at fields (length columns) ≡ None → record_row 1 columns fields ≡ Ok values
whole-row columns fields values h so_far e =
    ended columns fields values h so_far [] (no-field fields (length columns) e) ∙ ap (λ r. Ok r) (append-nil values)

-- the same, by what stands at the place behind the last column
pub surplus-there : (columns : List (List ℕ × Kind)) (fields : List (List ℕ)) (values : List Value) (i : ℕ) → i ≡ length values → length columns ≤ i → HasRead columns fields values
    → (found : Option (Bor (List ℕ))) → option_map (λ s. s.now) found ≡ field_at fields (length columns) → is_some found ≡ true → record_row 1 columns fields ≡ Err (length columns + 1)
surplus-there columns fields values i at h so_far None e is = absurd (false≢true is)
surplus-there columns fields values i at h so_far (Some field) e is = surplus columns fields values (omega arith) so_far field.now (sym e)

pub whole-there : (columns : List (List ℕ × Kind)) (fields : List (List ℕ)) (values : List Value) (i : ℕ) → i ≡ length values → length columns ≤ i → HasRead columns fields values
    → (found : Option (Bor (List ℕ))) → option_map (λ s. s.now) found ≡ field_at fields (length columns) → is_some found ≡ false → record_row 1 columns fields ≡ Ok values
whole-there columns fields values i at h so_far None e is = whole-row columns fields values (omega arith) so_far (sym e)
whole-there columns fields values i at h so_far (Some field) e is = absurd (false≢true (sym is))

-- rows are those of the records before the last, and the last one
row-parts : (number : ℕ) (row : List Value) (rest : FileRows) (rows : List (List Value)) → put_row number (Ok row) rest ≡ AreRows rows
    → (more : List (List Value)) × (rest ≡ AreRows more) × (rows ≡ row ∷ more)
row-parts number row (AreRows more) rows e = let same : row ∷ more ≡ rows = cc in (more, refl, sym same)
row-parts number row (HasBad later column) rows e = absurd cc

pub more-rows : (schema : List (List ℕ × Kind)) (number : ℕ) (given : List (List (List ℕ))) (rows : List (List Value)) (fields : List (List ℕ)) (row : List Value)
    → rows_from number schema given ≡ AreRows rows → record_row 1 schema fields ≡ Ok row → rows_from number schema (given ++ fields ∷ []) ≡ AreRows (rows ++ row ∷ [])
more-rows schema number [] rows fields row e is =
    let none : [] ≡ rows = cc in
    ap (λ r. put_row number r (AreRows [])) is ∙ ap (λ rs. AreRows (rs ++ row ∷ [])) none
more-rows schema number (g ∷ given) rows fields row e is = go (record_row 1 schema g) e (λ rs h. more-rows schema (suc number) given rs fields row h is) where
  go : (r : Result (List Value) ℕ) → put_row number r (rows_from (suc number) schema given) ≡ AreRows rows
      → ((rs : List (List Value)) → rows_from (suc number) schema given ≡ AreRows rs → rows_from (suc number) schema (given ++ fields ∷ []) ≡ AreRows (rs ++ row ∷ []))
      → put_row number r (rows_from (suc number) schema (given ++ fields ∷ [])) ≡ AreRows (rows ++ row ∷ [])
  go (Ok first) e more =
      let parts = row-parts number first (rows_from (suc number) schema given) rows e in
      ap (put_row number (Ok first)) (more parts.0 parts.1) ∙ ap (λ rs. AreRows (rs ++ row ∷ [])) (sym parts.2)
  go (Err column) e more = absurd cc

-- the first bad record
pub bad-row : (schema : List (List ℕ × Kind)) (number : ℕ) (given : List (List (List ℕ))) (rows : List (List Value)) (fields : List (List ℕ)) (column : ℕ) (left : List (List (List ℕ)))
    → rows_from number schema given ≡ AreRows rows → record_row 1 schema fields ≡ Err column → rows_from number schema (given ++ fields ∷ left) ≡ HasBad (number + length given) column
bad-row schema number [] rows fields column left e is =
    let same : number ≡ number + 0 = omega arith in
    ap (λ r. put_row number r (rows_from (suc number) schema left)) is ∙ ap (λ n. HasBad n column) same
bad-row schema number (g ∷ given) rows fields column left e is = go (record_row 1 schema g) e (λ rs h. bad-row schema (suc number) given rs fields column left h is) where
  go : (r : Result (List Value) ℕ) → put_row number r (rows_from (suc number) schema given) ≡ AreRows rows
      → ((rs : List (List Value)) → rows_from (suc number) schema given ≡ AreRows rs → rows_from (suc number) schema (given ++ fields ∷ left) ≡ HasBad (suc number + length given) column)
      → put_row number r (rows_from (suc number) schema (given ++ fields ∷ left)) ≡ HasBad (number + length (g ∷ given)) column
  go (Ok first) e later =
      let parts = row-parts number first (rows_from (suc number) schema given) rows e in
      let same : suc number + length given ≡ number + length (g ∷ given) = omega arith in
      ap (put_row number (Ok first)) (later parts.0 parts.1) ∙ ap (λ n. HasBad n column) same
  go (Err column) e later = absurd cc

-- the values of a row are of their kinds and in range
value-first : (at : ℕ) (o : Option Value) (rest : Result (List Value) ℕ) (row : List Value) → put_value at o rest ≡ Ok row
    → (v : Value) × (more : List Value) × (o ≡ Some v) × (rest ≡ Ok more) × (row ≡ v ∷ more)
value-first at None rest row e = absurd cc
value-first at (Some v) (Ok more) row e = let same : v ∷ more ≡ row = cc in (v, more, refl, refl, sym same)
value-first at (Some v) (Err column) row e = absurd cc

record-fits : (at : ℕ) (schema : List (List ℕ × Kind)) (fields : List (List ℕ)) (row : List Value) → record_row at schema fields ≡ Ok row → IsRowOf schema row × IsRowInRange row
record-fits at [] [] row e =
    let none : [] ≡ row = cc in
    subst (λ r. IsRowOf [] r × IsRowInRange r) none (refl, All-nil IsValueInRange)
record-fits at [] (field ∷ fields) row e = absurd cc
record-fits at (column ∷ schema) [] row e = absurd cc
record-fits at (column ∷ schema) (field ∷ fields) row e =
    let first = value-first at (field_value column.1 field) (record_row (suc at) schema fields) row e in
    let rest = record-fits (suc at) schema fields first.1 first.3 in
    let one = value-fits column.1 field first.0 first.2 in
    let kinds : IsRowOf (column ∷ schema) (first.0 ∷ first.1) =
    ap (λ k. k ∷ map value_kind first.1) one.0 ∙ ap (λ ks. column.1 ∷ ks) rest.0 in
    subst (λ r. IsRowOf (column ∷ schema) r × IsRowInRange r) (sym first.4) (kinds, All-cons IsValueInRange first.0 first.1 one.1 rest.1)

-- so are those of all rows
pub rows-fit : (number : ℕ) (schema : List (List ℕ × Kind)) (given : List (List (List ℕ))) (rows : List (List Value)) → rows_from number schema given ≡ AreRows rows
    → All (λ row. IsRowOf schema row × IsRowInRange row) rows
rows-fit number schema [] rows e =
    let none : [] ≡ rows = cc in
    subst (All (λ row. IsRowOf schema row × IsRowInRange row)) none (All-nil (λ row. IsRowOf schema row × IsRowInRange row))
rows-fit number schema (fields ∷ given) rows e = go (record_row 1 schema fields) refl e (rows-fit (suc number) schema given) where
  go : (r : Result (List Value) ℕ) → record_row 1 schema fields ≡ r → put_row number r (rows_from (suc number) schema given) ≡ AreRows rows
      → ((rs : List (List Value)) → rows_from (suc number) schema given ≡ AreRows rs → All (λ row. IsRowOf schema row × IsRowInRange row) rs) → All (λ row. IsRowOf schema row × IsRowInRange row) rows
  go (Ok first) is e more =
      let parts = row-parts number first (rows_from (suc number) schema given) rows e in
      subst (All (λ row. IsRowOf schema row × IsRowInRange row)) (sym parts.2)
      (All-cons (λ row. IsRowOf schema row × IsRowInRange row) first parts.0 (record-fits 1 schema fields first is) (more parts.0 parts.1))
  go (Err column) is e more = absurd cc

pub file-rows-fit : (bytes : List ℕ) (schema : List (List ℕ × Kind)) (header : Bool) (rows : List (List Value)) → rows_of_file bytes schema header ≡ AreRows rows
    → All (λ row. IsRowOf schema row × IsRowInRange row) rows
unfolding rows_of_file
file-rows-fit bytes schema header rows e = rows-fit (first_row header) schema _ rows e

-- behind a header or not, one record more: it is left out, it is a row, or it is the first bad one
pub skipped : (schema : List (List ℕ × Kind)) (first : ℕ) (given : List (List (List ℕ))) (rows : List (List Value)) (fields : List (List ℕ)) → length given + 1 < first
    → rows_from first schema (drop (first - 1) given) ≡ AreRows rows → rows_from first schema (drop (first - 1) (given ++ fields ∷ [])) ≡ AreRows rows
skipped schema first given rows fields h e =
    let size = length-push given fields in
    ap (rows_from first schema) (drop_all (first - 1) (given ++ fields ∷ []) (omega (arith, size)) ∙ sym (drop_all (first - 1) given (omega arith))) ∙ e

pub entered : (schema : List (List ℕ × Kind)) (first : ℕ) (given : List (List (List ℕ))) (rows : List (List Value)) (fields : List (List ℕ)) (row : List Value) → first ≤ length given + 1
    → rows_from first schema (drop (first - 1) given) ≡ AreRows rows → record_row 1 schema fields ≡ Ok row
    → rows_from first schema (drop (first - 1) (given ++ fields ∷ [])) ≡ AreRows (rows ++ row ∷ [])
entered schema first given rows fields row h e is =
    ap (rows_from first schema) (drop-append-le (first - 1) given (fields ∷ []) (omega arith)) ∙ more-rows schema first (drop (first - 1) given) rows fields row e is

pub refused : (schema : List (List ℕ × Kind)) (first : ℕ) (given : List (List (List ℕ))) (rows : List (List Value)) (fields : List (List ℕ)) (column : ℕ) (left : List (List (List ℕ)))
    → 1 ≤ first → first ≤ length given + 1
    → rows_from first schema (drop (first - 1) given) ≡ AreRows rows → record_row 1 schema fields ≡ Err column
    → rows_from first schema (drop (first - 1) (given ++ fields ∷ left)) ≡ HasBad (length given + 1) column
refused schema first given rows fields column left one h e is =
    let size = length-drop (first - 1) given in
    let same : first + length (drop (first - 1) given) ≡ length given + 1 = omega (arith, size) in
    ap (rows_from first schema) (drop-append-le (first - 1) given (fields ∷ left) (omega arith)) ∙ bad-row schema first (drop (first - 1) given) rows fields column left e is
    ∙ ap (λ n. HasBad n column) same
