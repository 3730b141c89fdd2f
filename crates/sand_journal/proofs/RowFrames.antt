-- Rows in their frames: where each ends, and that a list of bytes has one list of rows.
use Rattle.std.proofs.Common.{◌≡◌, ℕ, ◌+◌, ◌*◌, ◌^◌, ◌<◌, ◌≤◌, List, [], ◌∷◌, ◌++◌, length, take, drop, refl, sym, ap, ◌∙◌, arith, append_assoc, length-append}
use Rattle.std.proofs.lemmas.List.{take_at, drop_at}
use Rattle.std.proofs.lemmas.Nat.{from_be_bytes-to_be_bytes_2, from_be_bytes-to_be_bytes_4}
use Rattle.std.specs.Int.{w16, w32, to_be_bytes, from_be_bytes}
use Rattle.std.specs.List.{AllByRecursion, flat_map}
use Rattle.sand_journal.specs.ChangeBody.{IsEncodingShort, framed_row}

-- a frame has two bytes more than its row
pub length-framed_row : (row : List ℕ) → length (framed_row row) ≡ length row + 2
unfolding framed_row
length-framed_row row = omega arith

-- two frames at the front of one list are one
frame_sizes : (row other rest more : List ℕ) → IsEncodingShort row → IsEncodingShort other → framed_row row ++ rest ≡ framed_row other ++ more → length row ≡ length other
unfolding framed_row
frame_sizes row other rest more short short_other same =
    let heads : to_be_bytes w16 (length row) ≡ to_be_bytes w16 (length other) = ap (λ (l : List ℕ). take 2 l) same in
    sym (from_be_bytes-to_be_bytes_2 (length row) (omega (arith, short))) ∙ ap (λ (l : List ℕ). from_be_bytes w16 l) heads ∙ from_be_bytes-to_be_bytes_2 (length other) (omega (arith, short_other))

frame_rests : (row other rest more : List ℕ) → framed_row row ++ rest ≡ framed_row other ++ more → row ++ rest ≡ other ++ more
unfolding framed_row
frame_rests row other rest more same = ap (λ (l : List ℕ). drop 2 l) same

pub one_frame : (row other rest more : List ℕ) → IsEncodingShort row → IsEncodingShort other → framed_row row ++ rest ≡ framed_row other ++ more → (row ≡ other) × (rest ≡ more)
one_frame row other rest more short short_other same =
    let sizes = frame_sizes row other rest more short short_other same in
    let parts = frame_rests row other rest more same in
    let rows : row ≡ other = sym (take_at row rest (length row) refl) ∙ ap (λ (l : List ℕ). take (length row) l) parts ∙ take_at other more (length row) (sym sizes) in
    let rests : rest ≡ more = sym (drop_at row rest (length row) refl) ∙ ap (λ (l : List ℕ). drop (length row) l) parts ∙ drop_at other more (length row) (sym sizes) in
    (rows, rests)

-- a frame isn't nothing
frame_some : (row rest : List ℕ) → [] ≡ framed_row row ++ rest → ⊥
frame_some row rest same = omega (arith, ap length same, length-append (framed_row row) rest, length-framed_row row)

-- rows that stand at the front of others' bytes are the first of them
pub rows_first : (rows others : List (List ℕ)) (rest : List ℕ) → AllByRecursion IsEncodingShort rows → AllByRecursion IsEncodingShort others
    → flat_map framed_row rows ++ rest ≡ flat_map framed_row others
    → (more : List (List ℕ)) × (others ≡ rows ++ more) × (rest ≡ flat_map framed_row more) × AllByRecursion IsEncodingShort more
rows_first [] others rest short short_others same = (others, refl, same, short_others)
rows_first (row ∷ rows) [] rest short short_others same =
    absurd (frame_some row (flat_map framed_row rows ++ rest) (sym same ∙ append_assoc (framed_row row) (flat_map framed_row rows) rest))
rows_first (row ∷ rows) (other ∷ others) rest short short_others same =
    let one = one_frame row other (flat_map framed_row rows ++ rest) (flat_map framed_row others) short.0 short_others.0 (sym (append_assoc (framed_row row) (flat_map framed_row rows) rest) ∙ same) in
    let next = rows_first rows others rest short.1 short_others.1 one.1 in
    (next.0, ap (λ (l : List (List ℕ)). other ∷ l) next.1 ∙ ap (λ (x : List ℕ). x ∷ (rows ++ next.0)) (sym one.0), next.2, next.3)

-- a list of bytes has one list of rows
pub one_rows : (rows others : List (List ℕ)) → AllByRecursion IsEncodingShort rows → AllByRecursion IsEncodingShort others → flat_map framed_row rows ≡ flat_map framed_row others → rows ≡ others
one_rows [] [] short short_others same = refl
one_rows [] (other ∷ others) short short_others same = absurd (frame_some other (flat_map framed_row others) same)
one_rows (row ∷ rows) [] short short_others same = absurd (frame_some row (flat_map framed_row rows) (sym same))
one_rows (row ∷ rows) (other ∷ others) short short_others same =
    let one = one_frame row other (flat_map framed_row rows) (flat_map framed_row others) short.0 short_others.0 same in
    ap (λ (x : List ℕ). x ∷ rows) one.0 ∙ ap (λ (l : List (List ℕ)). other ∷ l) (one_rows rows others short.1 short_others.1 one.1)

-- each row takes two bytes and more
pub rows_length : (rows : List (List ℕ)) → 2 * length rows ≤ length (flat_map framed_row rows)
rows_length [] = omega arith
rows_length (row ∷ rows) = omega (arith, length-append (framed_row row) (flat_map framed_row rows), length-framed_row row, rows_length rows)

-- two counts at the front of one list are one
count_sizes : (n m : ℕ) (rest more : List ℕ) → n < 2 ^ 32 → m < 2 ^ 32 → to_be_bytes w32 n ++ rest ≡ to_be_bytes w32 m ++ more → n ≡ m
count_sizes n m rest more fits fits_other same =
    let heads : to_be_bytes w32 n ≡ to_be_bytes w32 m = ap (λ (l : List ℕ). take 4 l) same in
    sym (from_be_bytes-to_be_bytes_4 n fits) ∙ ap (λ (l : List ℕ). from_be_bytes w32 l) heads ∙ from_be_bytes-to_be_bytes_4 m fits_other

pub one_count : (n m : ℕ) (rest more : List ℕ) → n < 2 ^ 32 → m < 2 ^ 32 → to_be_bytes w32 n ++ rest ≡ to_be_bytes w32 m ++ more → (n ≡ m) × (rest ≡ more)
one_count n m rest more fits fits_other same = (count_sizes n m rest more fits fits_other same, ap (λ (l : List ℕ). drop 4 l) same)
