-- Rows taken from the front of bytes, one by one.
use Rattle.std.proofs.Common.{◌≡◌, ◌≢◌, ◌⊎◌, inl, inr, ℕ, ◌+◌, ◌^◌, ◌<◌, List, [], ◌∷◌, ◌++◌, length, get_or, drop, Bool, true, false, ◌==◌, Option, Some, None, Result}
use Rattle.std.proofs.Common.{Ok, Err, Vec, refl, sym, ap, ◌∙◌, arith, length-append}
use Rattle.std.specs.Prelude.{IfOk}
use Rattle.std.proofs.lemmas.Bool.{false≢true}
use Rattle.std.proofs.lemmas.Bool.Decides.{nat_tests}
use Rattle.std.proofs.lemmas.List.{length-map, append-nil}
use Rattle.std.specs.declared.alloc.Global.{Global}
use Rattle.std.specs.Int.{w16, w32, to_be_bytes}
use Rattle.std.specs.List.{AllByRecursion, flat_map}
use Rattle.script_text.specs.Name.{IsName}
use Rattle.sand_base.specs.declared.memory.NoMemory.{NoMemory}
use Rattle.sand_journal.specs.declared.TheConstants.{LONGEST_ENCODING}
use Rattle.sand_journal.specs.ChangeBody.{IsEncodingShort, framed_row, counted_rows}
use Rattle.sand_journal.specs.RowsBody.{bytes_of_each, row_bytes, AreFramedRows, AreCountedRows, IsRowsBody}
use Rattle.sand_journal.proofs.Bodies.{rows_fit, counted_is}
use Rattle.sand_journal.proofs.RowFrames.{rows_first}
use Rattle.sand_journal.proofs.RowBodies.{rows_made, rows_parts, rows_behind, count_behind, row_size}

-- bytes with no size at the front have no frame there
pub no_frame : (bytes : List ℕ) → ((size : ℕ) (rest : List ℕ) → bytes ≡ to_be_bytes w16 size ++ rest → ⊥) → (row rest : List ℕ) → IsEncodingShort row → bytes ≡ framed_row row ++ rest → ⊥
unfolding framed_row
no_frame bytes none row rest short framed = none (length row) (row ++ rest) framed

-- nor have those whose size is too great, or greater than what follows
pub far_frame : (bytes after : List ℕ) (size : ℕ) → size < 2 ^ 16 → bytes ≡ to_be_bytes w16 size ++ after → LONGEST_ENCODING < size ⊎ length after < size
    → (row rest : List ℕ) → IsEncodingShort row → bytes ≡ framed_row row ++ rest → ⊥
far_frame bytes after size fits is (inl far) row rest short framed =
    let one = row_size bytes after row rest size fits is short framed in omega (arith, one.0, short, far)
far_frame bytes after size fits is (inr far) row rest short framed =
    let one = row_size bytes after row rest size fits is short framed in omega (arith, one.0, ap length one.1, length-append row rest, far)

-- The bytes are these rows in their frames, and a rest.
pub record IsSplit (bytes : List ℕ) (rows : List (List ℕ)) (rest : List ℕ) : Type 0 where
  pub short : AllByRecursion IsEncodingShort rows
  pub is : bytes ≡ flat_map framed_row rows ++ rest

-- other rows of the same bytes go on where these end
others_more : (bytes : List ℕ) (rows : List (List ℕ)) (rest : List ℕ) (others : List (List ℕ)) → IsSplit bytes rows rest → AllByRecursion IsEncodingShort others → bytes ≡ flat_map framed_row others
    → (more : List (List ℕ)) × (others ≡ rows ++ more) × (rest ≡ flat_map framed_row more) × AllByRecursion IsEncodingShort more
others_more bytes rows rest others split short same = rows_first rows others rest split.short short (sym split.is ∙ same)

-- fewer rows with no frame behind them are not so many
stuck_at : (rest : List ℕ) (more : List (List ℕ)) → ((row after : List ℕ) → IsEncodingShort row → rest ≡ framed_row row ++ after → ⊥)
    → AllByRecursion IsEncodingShort more → rest ≡ flat_map framed_row more → more ≡ []
stuck_at rest [] none short same = refl
stuck_at rest (row ∷ more) none short same = absurd (none row (flat_map framed_row more) short.0 same)

pub split_stuck : (bytes : List ℕ) (rows : List (List ℕ)) (rest : List ℕ) (count : ℕ) → IsSplit bytes rows rest → length rows < count
    → ((row after : List ℕ) → IsEncodingShort row → rest ≡ framed_row row ++ after → ⊥) → AreFramedRows bytes count None
unfolding AreFramedRows
split_stuck bytes rows rest count split fewer none = λ others short many same.
    let m = others_more bytes rows rest others split short same in
    let over = stuck_at rest m.0 none m.3 m.2 in
    omega (arith, fewer, many, ap length m.1, length-append rows m.0, ap length over)

-- so many rows with bytes behind them are not all
none_behind : (rest : List ℕ) (more : List (List ℕ)) → length more ≡ 0 → rest ≡ flat_map framed_row more → rest ≡ []
none_behind rest [] none same = same
none_behind rest (row ∷ more) none same = absurd (omega (arith, none))

pub split_over : (bytes : List ℕ) (rows : List (List ℕ)) (rest : List ℕ) (count : ℕ) → IsSplit bytes rows rest → length rows ≡ count → rest ≢ [] → AreFramedRows bytes count None
unfolding AreFramedRows
split_over bytes rows rest count split all some = λ others short many same.
    let m = others_more bytes rows rest others split short same in
    some (none_behind rest m.0 (omega (arith, all, many, ap length m.1, length-append rows m.0)) m.2)

-- so many rows with nothing behind them are all
pub split_done : (bytes rest : List ℕ) (count : ℕ) (rows : Vec (Vec ℕ Global) Global) → IsSplit bytes (row_bytes rows) rest → length (row_bytes rows) ≡ count → rest ≡ []
    → AreFramedRows bytes count (Some rows)
unfolding AreFramedRows
split_done bytes rest count rows split all none =
    (split.short, all, split.is ∙ ap (λ (l : List ℕ). flat_map framed_row (row_bytes rows) ++ l) none ∙ append-nil (flat_map framed_row (row_bytes rows)))

-- rows behind the count that was read
pub counted_as : (bytes rest : List ℕ) (count : ℕ) (found : Option (Vec (Vec ℕ Global) Global)) → count < 2 ^ 32 → bytes ≡ to_be_bytes w32 count ++ rest
    → AreFramedRows rest count found → AreCountedRows bytes found
unfolding AreFramedRows AreCountedRows
counted_as bytes rest count None fits is none = λ rows short fits_rows counted.
    let behind = count_behind bytes rest count rows fits is fits_rows counted in none rows short (sym behind.0) behind.1
counted_as bytes rest count (Some rows) fits is found = (
  found.0,
  is ∙ ap (λ (l : List ℕ). to_be_bytes w32 count ++ l) found.2 ∙ ap (λ (n : ℕ). to_be_bytes w32 n ++ flat_map framed_row (row_bytes rows)) (sym found.1)
      ∙ sym (counted_is (row_bytes rows)),
)

-- bytes with no count have no counted rows
pub no_count : (bytes : List ℕ) → ((count : ℕ) (rest : List ℕ) → bytes ≡ to_be_bytes w32 count ++ rest → ⊥) → AreCountedRows bytes None
unfolding AreCountedRows
no_count bytes none = λ rows short fits counted. none (length rows) (flat_map framed_row rows) (counted ∙ counted_is rows)

-- a name and counted rows behind it are a body
pub body_found : (bytes name rest relation : List ℕ) (rows : Vec (Vec ℕ Global) Global) (others : List (List ℕ)) → IsName name → bytes ≡ length name ∷ (name ++ rest) → AreCountedRows rest (Some rows)
    → length bytes + 1 < 2 ^ 32 → relation ≡ name → others ≡ row_bytes rows → IsRowsBody bytes (Some (relation, others))
unfolding AreCountedRows IsRowsBody
body_found bytes name rest relation rows others named is counted fits same_name same_rows =
    rows_made bytes name rest relation (row_bytes rows) others named is counted.0 counted.1 fits same_name same_rows

-- with no counted rows behind it they are none
pub no_rows : (bytes name rest : List ℕ) → bytes ≡ length name ∷ (name ++ rest) → AreCountedRows rest None → IsRowsBody bytes None
unfolding AreCountedRows IsRowsBody
no_rows bytes name rest is none = λ relation rows change same.
    none rows change.1 (rows_fit relation rows change) (rows_behind bytes name rest relation rows is same)

-- nor are they with no name
pub no_name : (bytes : List ℕ) → ((name rest : List ℕ) → IsName name → bytes ≡ length name ∷ (name ++ rest) → ⊥) → IsRowsBody bytes None
unfolding IsRowsBody
no_name bytes none = λ relation rows change same. none relation (counted_rows rows) change.0 (rows_parts bytes relation rows same)

-- the bytes of a vector's row
abbrev items_of : Vec ℕ Global → List ℕ
items_of row = row.items

-- the same where the rows are kept in a vector: no more of them, too many, and all
pub kept_stuck : (bytes : List ℕ) (rows : List (Vec ℕ Global)) (rest : List ℕ) (count : ℕ) → IsSplit bytes (bytes_of_each rows) rest → length rows < count
    → ((row after : List ℕ) → IsEncodingShort row → rest ≡ framed_row row ++ after → ⊥) → AreFramedRows bytes count None
kept_stuck bytes rows rest count split fewer none = split_stuck bytes (bytes_of_each rows) rest count split (omega (arith, fewer, length-map rows items_of)) none

pub kept_over : (bytes : List ℕ) (rows : List (Vec ℕ Global)) (rest : List ℕ) (count : ℕ) → IsSplit bytes (bytes_of_each rows) rest → length rows ≡ count → rest ≢ [] → AreFramedRows bytes count None
kept_over bytes rows rest count split all some = split_over bytes (bytes_of_each rows) rest count split (omega (arith, all, length-map rows items_of)) some

pub kept_done : (bytes rest : List ℕ) (count : ℕ) (rows : Vec (Vec ℕ Global) Global) → IsSplit bytes (row_bytes rows) rest → length rows.items ≡ count → rest ≡ []
    → AreFramedRows bytes count (Some rows)
kept_done bytes rest count rows split all none = split_done bytes rest count rows split (omega (arith, all, length-map rows.items items_of)) none

-- what the test for no bytes tells
pub some_by : (rest : List ℕ) (e : Bool) → e ≡ (length rest == 0) → e ≡ false → rest ≢ []
some_by rest e is fails = λ none. false≢true (sym fails ∙ is ∙ ap (λ (l : List ℕ). length l == 0) none)

pub none_by : (rest : List ℕ) (e : Bool) → e ≡ (length rest == 0) → e ≡ true → rest ≡ []
none_by [] e is holds = refl
none_by (b ∷ rest) e is holds = absurd (let same : (length (b ∷ rest) == 0) ≡ true = sym is ∙ holds in grind (arith, nat_tests))

-- rows behind the count that was read, where memory was there
pub counted_answer : (bytes rest : List ℕ) (count : ℕ) (result : Result (Option (Vec (Vec ℕ Global) Global)) NoMemory) → count < 2 ^ 32 → bytes ≡ to_be_bytes w32 count ++ rest
    → IfOk result (AreFramedRows rest count) → IfOk result (AreCountedRows bytes)
counted_answer bytes rest count (Ok found) fits is rows = counted_as bytes rest count found fits is rows
counted_answer bytes rest count (Err why) fits is rows = tt

-- a name that is longer than what follows its length isn't there
pub long_name : (bytes after name rest : List ℕ) (size : ℕ) → bytes ≡ size ∷ after → bytes ≡ length name ∷ (name ++ rest) → length after < size → ⊥
long_name bytes after name rest size is other far =
    let same = sym is ∙ other in
    omega (arith, far, ap (λ (l : List ℕ). get_or l 0 0) same, ap length (ap (λ (l : List ℕ). drop 1 l) same), length-append name rest)
