-- The printed form of a statement: its tokens, and the one rule for the spaces between them.
use Rattle.std.specs.Prelude.{ℕ, ℤ, Bool, true, false, ◌||◌, cond, List, [], ◌∷◌, ◌++◌, codes, Option, Some, None}
use Rattle.std.specs.Fmt.{decimal, signed_decimal}
use Rattle.sand_base.specs.declared.kind.Kind.{Kind}
use Rattle.sand_base.specs.declared.kind.Kind.TheVariants as kind
use Rattle.sand_base.specs.declared.point.Point.{Point}
use Rattle.sand_base.specs.declared.shape.Shape.{Shape}
use Rattle.sand_base.specs.declared.shape.Shape.TheVariants as shape
use Rattle.sand_base.specs.declared.value.Value.{Value}
use Rattle.sand_base.specs.declared.value.Value.TheVariants as value
use Rattle.statements.specs.declared.column.Column.{Column}
use Rattle.statements.specs.declared.column.Place.{Place}
use Rattle.statements.specs.declared.test.Op.{Op}
use Rattle.statements.specs.declared.test.Op.TheVariants as op
use Rattle.statements.specs.declared.test.Test.{Test}
use Rattle.script_text.specs.declared.token.Symbol.{Symbol}
use Rattle.script_text.specs.declared.token.Symbol.TheVariants as symbol
use Rattle.statements.specs.Plan.{Plan, Scan, Rank, Window, PickEqual, PickBetween, Join, Semi, Knn, Near, Filter, Match, Fetch, First, SortBy, SortNear}
use Rattle.statements.specs.Statement.{Statement, Create, Insert, Delete, Load, Index, Rtree, OpenCursor, Next, CloseCursor, Show, Stats, Far, Blocks}
use Rattle.script_text.specs.Text.{doubled}
use Rattle.script_text.specs.Token.{Piece, name, number, text, mark, spelling}

-- a fixed word, a number from 0 on, any number
abbrev pub fixed : List ℕ → List Piece
fixed w = name w ∷ []

-- a natural number
abbrev pub natural_words : ℕ → List Piece
natural_words n = number (decimal n) ∷ []

-- an int, with its sign where it is negative
abbrev pub int_words : ℤ → List Piece
int_words n = number (signed_decimal n) ∷ []

-- the words of the items of a list: one after another; each after those between; and those between from the second on
abbrev pub each : {A : Type 0} → (A → List Piece) → List A → List Piece
each words [] = []
each words (x ∷ xs) = words x ++ each words xs

-- the words of each element behind a separator
abbrev pub more_words : {A : Type 0} → List Piece → (A → List Piece) → List A → List Piece
more_words between words [] = []
more_words between words (x ∷ xs) = between ++ (words x ++ more_words between words xs)

-- the words of the elements with a separator between them
abbrev pub list_words : {A : Type 0} → List Piece → (A → List Piece) → List A → List Piece
list_words between words [] = []
list_words between words (x ∷ xs) = words x ++ more_words between words xs

-- `relation.column`, `k.column`
abbrev pub column_words : Column → List Piece
column_words c = name c.relation ∷ mark symbol.Dot ∷ name c.column ∷ []

-- a place, as `k.c`
abbrev pub place_words : Place → List Piece
place_words p = number (decimal p.k) ∷ mark symbol.Dot ∷ name p.column ∷ []

-- `(x y)`
abbrev pub spot_words : Point → List Piece
spot_words p = mark symbol.Open ∷ number (decimal p.x) ∷ number (decimal p.y) ∷ mark symbol.Close ∷ []

-- a shape
abbrev pub shape_words : Shape → List Piece
shape_words (shape.Point p) = spot_words p
shape_words (shape.Segment s) = spot_words s.a ++ (mark symbol.Minus ∷ spot_words s.b)
shape_words (shape.Polygon corners) = mark symbol.Open ∷ each spot_words corners ++ (mark symbol.Close ∷ [])

-- a value
abbrev pub value_words : Value → List Piece
value_words (value.Int n) = int_words n
value_words (value.Text t) = text (doubled t) ∷ []
value_words (value.Shape s) = shape_words s

-- a kind
abbrev pub kind_word : Kind → List ℕ
kind_word kind.Int = codes "int"
kind_word kind.Text = codes "text"
kind_word kind.Point = codes "point"
kind_word kind.Segment = codes "segment"
kind_word kind.Polygon = codes "polygon"

-- a column's name and kind
abbrev pub field_words : List ℕ × Kind → List Piece
field_words (n, k) = name n ∷ name (kind_word k) ∷ []

-- how a test compares
abbrev pub op_symbol : Op → Symbol
op_symbol op.Equal = symbol.Equal
op_symbol op.NotEqual = symbol.NotEqual
op_symbol op.Less = symbol.Less
op_symbol op.AtMost = symbol.AtMost
op_symbol op.Greater = symbol.Greater
op_symbol op.AtLeast = symbol.AtLeast

-- a test
abbrev pub test_words : Test → List Piece
test_words t = place_words t.place ++ (mark (op_symbol t.op) ∷ value_words t.value)

-- `within NUM`, where it is there
abbrev pub within_words : Option ℕ → List Piece
within_words None = []
within_words (Some n) = name (codes "within") ∷ number (decimal n) ∷ []

-- a comma, and `and`
abbrev pub comma : List Piece
comma = mark symbol.Comma ∷ []

-- a plan between brackets
abbrev pub inner_words : List Piece → List Piece
inner_words ws = mark symbol.Open ∷ ws ++ (mark symbol.Close ∷ [])

-- a plan
abbrev pub plan_words : Plan → List Piece
plan_words (Scan relation) = name (codes "scan") ∷ name relation ∷ []
plan_words (Rank column goal within) = name (codes "rank") ∷ column_words column ++ (name (codes "from") ∷ shape_words goal ++ within_words within)
plan_words (Window column window) = name (codes "window") ∷ column_words column
    ++ (number (decimal window.low.x) ∷ number (decimal window.low.y) ∷ number (decimal window.high.x) ∷ number (decimal window.high.y) ∷ [])
plan_words (PickEqual column value) = name (codes "pick") ∷ column_words column ++ (mark symbol.Equal ∷ value_words value)
plan_words (PickBetween column low high) = name (codes "pick") ∷ column_words column ++ (name (codes "from") ∷ int_words low ++ (name (codes "to") ∷ int_words high))
plan_words (Join left right within) = name (codes "join") ∷ column_words left ++ (column_words right ++ within_words within)
plan_words (Semi left right within) = name (codes "semi") ∷ column_words left ++ (column_words right ++ within_words within)
plan_words (Knn k left right within) = name (codes "knn") ∷ number (decimal k) ∷ column_words left ++ (column_words right ++ within_words within)
plan_words (Near column goal within) = name (codes "near") ∷ column_words column ++ (name (codes "from") ∷ shape_words goal ++ within_words within)
plan_words (Filter plan tests) = name (codes "filter") ∷ inner_words (plan_words plan) ++ (name (codes "where") ∷ list_words (fixed (codes "and")) test_words tests)
plan_words (Match plan place column) = name (codes "match") ∷ inner_words (plan_words plan) ++ (place_words place ++ (mark symbol.Equal ∷ column_words column))
plan_words (Fetch plan places) = name (codes "fetch") ∷ inner_words (plan_words plan) ++ list_words comma place_words places
plan_words (First count plan) = name (codes "first") ∷ number (decimal count) ∷ inner_words (plan_words plan)
plan_words (SortBy plan place) = name (codes "sort") ∷ inner_words (plan_words plan) ++ (name (codes "by") ∷ place_words place)
plan_words (SortNear plan place goal) = name (codes "sort") ∷ inner_words (plan_words plan) ++ (name (codes "near") ∷ place_words place ++ (name (codes "from") ∷ shape_words goal))

-- `header`, where it is there; a threshold, where it is there
abbrev pub header_words : Bool → List Piece
header_words true = fixed (codes "header")
header_words false = []

-- a threshold, if one is given
abbrev pub threshold_words : Option ℕ → List Piece
threshold_words None = []
threshold_words (Some n) = natural_words n

-- a statement
abbrev pub words : Statement → List Piece
words (Create relation columns) = name (codes "create") ∷ name relation ∷ mark symbol.Open ∷ list_words comma field_words columns ++ (mark symbol.Close ∷ [])
words (Insert relation values) = name (codes "insert") ∷ name relation ∷ list_words comma value_words values
words (Delete relation id) = name (codes "delete") ∷ name relation ∷ natural_words id
words (Load relation file header) = name (codes "load") ∷ name relation ∷ text (doubled file) ∷ header_words header
words (Index column threshold) = name (codes "index") ∷ column_words column ++ threshold_words threshold
words (Rtree column) = name (codes "rtree") ∷ column_words column
words (OpenCursor cursor plan) = name (codes "open") ∷ name cursor ∷ mark symbol.Equal ∷ plan_words plan
words (Next cursor count) = name (codes "next") ∷ name cursor ∷ natural_words count
words (CloseCursor cursor) = name (codes "close") ∷ name cursor ∷ []
words (Show count plan) = name (codes "show") ∷ number (decimal count) ∷ plan_words plan
words (Stats cursor) = name (codes "stats") ∷ name cursor ∷ []
words (Far count column goal) = name (codes "far") ∷ number (decimal count) ∷ column_words column ++ (name (codes "from") ∷ spot_words goal)
words (Blocks column) = name (codes "blocks") ∷ column_words column

-- no space stands after `(`, and on either side of `.` and of the `-` of a segment,
abbrev pub hugs_after : Piece → Bool
hugs_after (mark symbol.Open) = true
hugs_after (mark symbol.Dot) = true
hugs_after (mark symbol.Minus) = true
hugs_after _ = false

-- nor before `)` and `,`
abbrev pub hugs_before : Piece → Bool
hugs_before (mark symbol.Close) = true
hugs_before (mark symbol.Comma) = true
hugs_before (mark symbol.Dot) = true
hugs_before (mark symbol.Minus) = true
hugs_before _ = false

-- what stands between two tokens side by side: nothing, or one space
abbrev pub gap : Piece → Piece → List ℕ
gap left right = cond (hugs_after left || hugs_before right) [] (codes " ")

-- the tokens after this one, as they are printed
abbrev pub printed_after : Piece → List Piece → List ℕ
printed_after before [] = []
printed_after before (w ∷ ws) = gap before w ++ (spelling w ++ printed_after w ws)

-- tokens as they are printed
abbrev pub printed_words : List Piece → List ℕ
printed_words [] = []
printed_words (w ∷ ws) = spelling w ++ printed_after w ws

-- the printed form of a statement
unfoldable pub printed : Statement → List ℕ
printed statement = printed_words (words statement)
