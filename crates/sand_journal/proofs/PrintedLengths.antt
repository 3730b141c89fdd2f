-- The printed form of a statement that a journal keeps is no longer than a line.
use Rattle.std.proofs.Common.{ℕ, ◌*◌, ◌≤◌, ◌||◌, Bool, true, false, List, [], ◌∷◌, ◌++◌, length, cond, Some, None, arith, length-append}
use Rattle.std.specs.Prelude.{All, codes}
use Rattle.std.specs.Fmt.{decimal}
use Rattle.std.specs.List.{AllByRecursion}
use Rattle.std.proofs.lemmas.Fmt.{length-decimal-le}
use Rattle.std.proofs.lemmas.List.Elements.{All-head, All-tail}
use Rattle.sand_base.specs.declared.kind.Kind.{Kind}
use Rattle.sand_base.specs.declared.kind.Kind.TheVariants as kind
use Rattle.script_text.specs.declared.token.Symbol.TheVariants as symbol
use Rattle.script_text.specs.InRange.{IsInRange, IsFieldInRange}
use Rattle.script_text.specs.Printing.{gap, hugs_after, hugs_before, kind_word, field_words, more_words, list_words, comma, printed_after, printed_words, words, printed}
use Rattle.statements.specs.Statement.{Statement, Create, Insert, Delete, Load, Index, Rtree, OpenCursor, Next, CloseCursor, Show, Stats, Far, Blocks}
use Rattle.script_text.specs.Token.{Piece, mark, spelling}
use Rattle.sand_journal.specs.ChangeBody.{IsKept}

-- the word has at most 32 bytes
abbrev IsShortWord : Piece → Type 0
IsShortWord word = length (spelling word) ≤ 32

-- what stands between two words is one space or nothing
cond_short : (b : Bool) → length (cond b [] (codes " ")) ≤ 1
cond_short true = omega arith
cond_short false = omega arith

-- so a word takes at most 33 bytes
after_short : (before : Piece) (ws : List Piece) → AllByRecursion IsShortWord ws → length (printed_after before ws) ≤ 33 * length ws
after_short before [] all = omega arith
after_short before (w ∷ ws) all =
    omega (
      arith,
      length-append (gap before w) (spelling w ++ printed_after w ws),
      length-append (spelling w) (printed_after w ws),
      cond_short (hugs_after before || hugs_before w),
      all.0,
      after_short w ws all.1,
    )

words_short : (ws : List Piece) → AllByRecursion IsShortWord ws → length (printed_words ws) ≤ 33 * length ws
words_short [] all = omega arith
words_short (w ∷ ws) all = omega (arith, length-append (spelling w) (printed_after w ws), all.0, after_short w ws all.1)

-- lists of short words, side by side
all_words : (xs ys : List Piece) → AllByRecursion IsShortWord xs → AllByRecursion IsShortWord ys → AllByRecursion IsShortWord (xs ++ ys)
all_words [] ys first second = second
all_words (x ∷ xs) ys first second = (first.0, all_words xs ys first.1 second)

kind_short : (k : Kind) → length (kind_word k) ≤ 32
kind_short kind.Int = omega arith
kind_short kind.Text = omega arith
kind_short kind.Point = omega arith
kind_short kind.Segment = omega arith
kind_short kind.Polygon = omega arith

-- the columns after a first one take three words each
more_columns : (columns : List (List ℕ × Kind)) → All IsFieldInRange columns
    → AllByRecursion IsShortWord (more_words comma field_words columns) × (length (more_words comma field_words columns) ≤ 3 * length columns)
more_columns [] all = (tt, omega arith)
more_columns (column ∷ columns) all =
    let rest = more_columns columns (All-tail IsFieldInRange column columns all) in
    let named = All-head IsFieldInRange column columns all in
    ((omega arith, (named.short, (kind_short column.1, rest.0))), omega (arith, rest.1))

-- and the first one two
columns_words : (columns : List (List ℕ × Kind)) → All IsFieldInRange columns
    → AllByRecursion IsShortWord (list_words comma field_words columns) × (length (list_words comma field_words columns) ≤ 3 * length columns)
columns_words [] all = (tt, omega arith)
columns_words (column ∷ columns) all =
    let rest = more_columns columns (All-tail IsFieldInRange column columns all) in
    let named = All-head IsFieldInRange column columns all in
    ((named.short, (kind_short column.1, rest.0)), omega (arith, rest.1))

-- the printed form of a statement that is kept has fewer than 2,000 bytes
kept_short : (statement : Statement) → IsKept statement → IsInRange statement → length (printed_words (words statement)) ≤ 2000
kept_short (Create relation columns) kept range =
    let columns_are = columns_words columns range.2 in
    let close : List Piece = mark symbol.Close ∷ [] in
    let all : AllByRecursion IsShortWord (words (Create relation columns)) =
    (omega arith, (range.0.short, (omega arith, all_words (list_words comma field_words columns) close columns_are.0 (omega arith, tt)))) in
    omega (arith, words_short (words (Create relation columns)) all, length-append (list_words comma field_words columns) close, columns_are.1, range.1.most)
kept_short (Delete relation id) kept range =
    let digits : length (decimal id) ≤ 10 = length-decimal-le 10 id (omega arith) (omega (arith, range.1)) (omega (arith, range.1)) in
    let all : AllByRecursion IsShortWord (words (Delete relation id)) = (omega arith, (range.0.short, (omega (arith, digits), tt))) in
    omega (arith, words_short (words (Delete relation id)) all)
kept_short (Index column None) kept range =
    let all : AllByRecursion IsShortWord (words (Index column None)) = (omega arith, (range.0.relation.short, (omega arith, (range.0.column.short, tt)))) in
    omega (arith, words_short (words (Index column None)) all)
kept_short (Index column (Some n)) kept range =
    let digits : length (decimal n) ≤ 10 = length-decimal-le 10 n (omega arith) (omega (arith, range.1.1)) (omega (arith, range.1.1)) in
    let all : AllByRecursion IsShortWord (words (Index column (Some n))) = (omega arith, (range.0.relation.short, (omega arith, (range.0.column.short, (omega (arith, digits), tt))))) in
    omega (arith, words_short (words (Index column (Some n))) all)
kept_short (Rtree column) kept range =
    let all : AllByRecursion IsShortWord (words (Rtree column)) = (omega arith, (range.relation.short, (omega arith, (range.column.short, tt)))) in
    omega (arith, words_short (words (Rtree column)) all)
kept_short (Insert relation values) kept range = absurd kept
kept_short (Load relation file header) kept range = absurd kept
kept_short (OpenCursor cursor plan) kept range = absurd kept
kept_short (Next cursor count) kept range = absurd kept
kept_short (CloseCursor cursor) kept range = absurd kept
kept_short (Show count plan) kept range = absurd kept
kept_short (Stats cursor) kept range = absurd kept
kept_short (Far count column goal) kept range = absurd kept
kept_short (Blocks column) kept range = absurd kept

pub printed_short : (statement : Statement) → IsKept statement → IsInRange statement → length (printed statement) ≤ 2000
unfolding printed
printed_short statement kept range = kept_short statement kept range
