-- The body of rows, put together and taken apart.
use Rattle.std.proofs.Common.{◌≡◌, ℕ, zero, suc, ◌+◌, ◌^◌, ◌<◌, List, [], ◌∷◌, ◌++◌, length, get_or, take, drop, sym, ap, subst, ◌∙◌, arith, take-append-drop}
use Rattle.std.proofs.lemmas.Nat.{from_be_bytes-to_be_bytes_2}
use Rattle.std.specs.Int.{w16, w32, to_be_bytes, from_be_bytes}
use Rattle.std.specs.List.{AllByRecursion, flat_map}
use Rattle.script_text.specs.Name.{IsName}
use Rattle.sand_journal.specs.ChangeBody.{Rows, IsChange, IsEncodingShort, framed_row, counted_rows, body_of}
use Rattle.sand_journal.proofs.Bodies.{rows_body_is, counted_is, one_name, same_tail}
use Rattle.sand_journal.proofs.RowFrames.{one_count}

-- each of rows that are short is
pub row_short : (rows : List (List ℕ)) (i : ℕ) (d : List ℕ) → AllByRecursion IsEncodingShort rows → i < length rows → IsEncodingShort (get_or rows i d)
row_short [] i d all within = absurd (omega arith)
row_short (row ∷ rows) zero d all within = all.0
row_short (row ∷ rows) (suc i) d all within = row_short rows i d all.1 (omega arith)

-- what a name, a count and rows that were read are the body of
pub rows_made : (bytes name rest relation : List ℕ) (rows others : List (List ℕ)) → IsName name → bytes ≡ length name ∷ (name ++ rest) → AllByRecursion IsEncodingShort rows → rest ≡ counted_rows rows
    → length bytes + 1 < 2 ^ 32 → relation ≡ name → others ≡ rows → IsChange (Rows relation others) × (2 ∷ bytes ≡ body_of (Rows relation others))
rows_made bytes name rest relation rows others named is short counted fits same_name same_rows =
    let whole : 2 ∷ bytes ≡ body_of (Rows name rows) =
    ap (λ (l : List ℕ). 2 ∷ l) (is ∙ ap (λ (l : List ℕ). length name ∷ (name ++ l)) counted) ∙ sym (rows_body_is name rows) in
    let change : IsChange (Rows name rows) = (named, short, omega (arith, fits, ap length whole)) in
    let made : IsChange (Rows name rows) × (2 ∷ bytes ≡ body_of (Rows name rows)) = (change, whole) in
    subst (λ (r : List ℕ). IsChange (Rows r others) × (2 ∷ bytes ≡ body_of (Rows r others))) (sym same_name)
    (subst (λ (l : List (List ℕ)). IsChange (Rows name l) × (2 ∷ bytes ≡ body_of (Rows name l))) (sym same_rows) made)

-- a body of rows begins with their relation's name
pub rows_parts : (bytes relation : List ℕ) (rows : List (List ℕ)) → 2 ∷ bytes ≡ body_of (Rows relation rows) → bytes ≡ length relation ∷ (relation ++ counted_rows rows)
rows_parts bytes relation rows same = same_tail 2 2 bytes (length relation ∷ (relation ++ counted_rows rows)) (same ∙ rows_body_is relation rows)

-- and behind the name that was read stand its rows
pub rows_behind : (bytes name rest relation : List ℕ) (rows : List (List ℕ)) → bytes ≡ length name ∷ (name ++ rest) → 2 ∷ bytes ≡ body_of (Rows relation rows) → rest ≡ counted_rows rows
rows_behind bytes name rest relation rows is same = (one_name name relation rest (counted_rows rows) (sym is ∙ rows_parts bytes relation rows same)).1

-- behind the count that was read stand the rows
pub count_behind : (bytes rest : List ℕ) (count : ℕ) (rows : List (List ℕ)) → count < 2 ^ 32 → bytes ≡ to_be_bytes w32 count ++ rest → length rows < 2 ^ 32 → bytes ≡ counted_rows rows
    → (count ≡ length rows) × (rest ≡ flat_map framed_row rows)
count_behind bytes rest count rows fits is fits_rows counted = one_count count (length rows) rest (flat_map framed_row rows) fits fits_rows (sym is ∙ counted ∙ counted_is rows)

-- a row behind the size that was read is in its frame
pub row_framed : (bytes after row rest : List ℕ) (size : ℕ) → bytes ≡ to_be_bytes w16 size ++ after → row ≡ take size after → rest ≡ drop size after → length row ≡ size
    → bytes ≡ framed_row row ++ rest
unfolding framed_row
row_framed bytes after row rest size is front back long =
    is ∙ ap (λ (l : List ℕ). to_be_bytes w16 size ++ l) (sym (take-append-drop size after))
    ∙ ap (λ (l : List ℕ). to_be_bytes w16 size ++ (l ++ drop size after)) (sym front)
    ∙ ap (λ (l : List ℕ). to_be_bytes w16 size ++ (row ++ l)) (sym back)
    ∙ ap (λ (n : ℕ). to_be_bytes w16 n ++ (row ++ rest)) (sym long)

-- a frame shows its size, and its row stands behind
framed_heads : (bytes after row rest : List ℕ) (size : ℕ) → bytes ≡ to_be_bytes w16 size ++ after → bytes ≡ framed_row row ++ rest
    → to_be_bytes w16 size ++ after ≡ to_be_bytes w16 (length row) ++ (row ++ rest)
unfolding framed_row
framed_heads bytes after row rest size is framed = sym is ∙ framed

pub row_size : (bytes after row rest : List ℕ) (size : ℕ) → size < 2 ^ 16 → bytes ≡ to_be_bytes w16 size ++ after → IsEncodingShort row → bytes ≡ framed_row row ++ rest
    → (size ≡ length row) × (after ≡ row ++ rest)
row_size bytes after row rest size fits is short framed =
    let same = framed_heads bytes after row rest size is framed in
    let heads : to_be_bytes w16 size ≡ to_be_bytes w16 (length row) = ap (λ (l : List ℕ). take 2 l) same in
    (sym (from_be_bytes-to_be_bytes_2 size fits) ∙ ap (λ (l : List ℕ). from_be_bytes w16 l) heads ∙ from_be_bytes-to_be_bytes_2 (length row) (omega (arith, short)), ap (λ (l : List ℕ). drop 2 l) same)
