-- The grammar of the script language: one form a rule, in the order in which a line is written.
use Rattle.std.specs.Prelude.{ℕ, ℤ, ◌^◌, ◌-◌, Bool, true, false, ◌&&◌, nat_le, nat_lt, cond, List, [], ◌∷◌, codes, length, Option, Some, None}
use Rattle.std.specs.List.{list_all}
use Rattle.sand_base.specs.declared.TheConstants.{COORDINATE_BITS}
use Rattle.sand_base.specs.declared.kind.Kind.{Kind}
use Rattle.sand_base.specs.declared.kind.Kind.TheVariants as kind
use Rattle.sand_base.specs.declared.point.Point.{Point}
use Rattle.sand_base.specs.declared.rect.Rect.{Rect}
use Rattle.sand_base.specs.declared.shape.Shape.{Shape}
use Rattle.sand_base.specs.declared.shape.Shape.TheVariants as shape
use Rattle.sand_base.specs.declared.value.Value.{Value}
use Rattle.sand_base.specs.declared.value.Value.TheVariants as value
use Rattle.script_text.specs.declared.TheConstants.{MOST_ROWS, MOST_WITHIN}
use Rattle.statements.specs.declared.column.Column.{Column}
use Rattle.statements.specs.declared.column.Place.{Place}
use Rattle.statements.specs.declared.test.Op.{Op}
use Rattle.statements.specs.declared.test.Op.TheVariants as op
use Rattle.statements.specs.declared.test.Test.{Test}
use Rattle.script_text.specs.declared.token.Symbol.{Symbol}
use Rattle.script_text.specs.declared.token.Symbol.TheVariants as symbol
use Rattle.script_text.specs.Form.{Form, a_word, a_name, a_natural, an_int, a_text, a_mark, Rule, a_plan, more_columns, more_values, more_spots, more_tests, more_places}
use Rattle.script_text.specs.Form.{RuleValue, nothing, take, alt, seq, checked, rule}
use Rattle.statements.specs.Plan.{Plan}
use Rattle.statements.specs.Plan as plan
use Rattle.statements.specs.Statement.{Statement}
use Rattle.statements.specs.Statement as statement

-- a fixed word, and a symbol
abbrev pub word : List ℕ → Form (Unit {0})
word w = take (a_word w) (λ u. u)

-- a symbol alone
abbrev pub sign : Symbol → Form (Unit {0})
sign s = take (a_mark s) (λ u. u)

-- a form after a word, and after a symbol
abbrev pub after_word : {A : Type 0} → List ℕ → Form A → Form A
after_word w f = seq (λ (u : Unit {0}) x. x) (word w) f

-- a form behind a symbol
abbrev pub after_sign : {A : Type 0} → Symbol → Form A → Form A
after_sign s f = seq (λ (u : Unit {0}) x. x) (sign s) f

-- a form before a symbol
abbrev pub before_sign : {A : Type 0} → Form A → Symbol → Form A
before_sign f s = seq (λ x (u : Unit {0}). x) f (sign s)

-- where this word comes next it and the first form, else the second; and so for a symbol
abbrev pub case_word : {A : Type 0} → List ℕ → Form A → Form A → Form A
case_word w f g = alt (a_word w) (λ (u : Unit {0}) x. x) f g

-- one form behind a symbol where it stands, else another form
abbrev pub case_sign : {A : Type 0} → Symbol → Form A → Form A → Form A
case_sign s f g = alt (a_mark s) (λ (u : Unit {0}) x. x) f g

-- a form with another value
abbrev pub told_form : {A B : Type 0} → (A → B) → Form A → Form B
told_form value f = seq (λ (u : Unit {0}) x. value x) (nothing tt) f

-- `NAME`
abbrev pub name_form : Form (List ℕ)
name_form = take a_name (λ n. n)

-- `NUM`, from the least to the most
abbrev pub natural_form : ℕ → ℕ → Form ℕ
natural_form least most = take (a_natural least most) (λ n. n)

-- `NUM`, in 64 bits
abbrev pub int_form : Form ℤ
int_form = take an_int (λ n. n)

-- `NUM`, a coordinate
abbrev pub coordinate_form : Form ℕ
coordinate_form = natural_form 0 (2 ^ COORDINATE_BITS - 1)

-- `NAME "." NAME`
abbrev pub column_form : Form Column
column_form = seq (λ r c. record { relation = r; column = c }) name_form (after_sign symbol.Dot name_form)

-- `NUM "." NAME`
abbrev pub place_form : Form Place
place_form = seq (λ k c. record { k = k; column = c }) (natural_form 1 255) (after_sign symbol.Dot name_form)

-- `NUM | TEXT`
abbrev pub plain_form : Form Value
plain_form = alt an_int (λ n (u : Unit {0}). value.Int n) (nothing tt) (take a_text (λ t. value.Text t))

-- `"(" NUM NUM ")"`, after its bracket, and whole
abbrev pub spot_rest : Form Point
spot_rest = seq (λ x y. record { x = x; y = y }) coordinate_form (before_sign coordinate_form symbol.Close)

-- a spot: a point in brackets
abbrev pub spot_form : Form Point
spot_form = after_sign symbol.Open spot_rest

-- `spot { spot }`
abbrev pub spots_form : Form (List Point)
spots_form = seq (λ p ps. p ∷ ps) spot_form (rule more_spots)

-- the points can be the border of a polygon: 3 to 64 of them, in the plane
abbrev pub is_ring : List Point → Bool
is_ring corners = (nat_le 3 (length corners) && nat_le (length corners) 64)
    && list_all (λ p. nat_lt p.x (2 ^ COORDINATE_BITS) && nat_lt p.y (2 ^ COORDINATE_BITS)) corners

-- the polygon with this border, where it can be one
abbrev pub polygon : List Point → Shape
polygon corners = cond (is_ring corners) (shape.Polygon corners) (shape.Point (record { x = 0; y = 0 }))

-- a point, or the segment to another one
abbrev pub spot_or_way : ℕ → ℕ × Option Point → Shape
spot_or_way x (y, None) = shape.Point (record { x = x; y = y })
spot_or_way x (y, Some b) = shape.Segment (record { a = record { x = x; y = y }; b = b })

-- what may follow a spot: `"-" spot`
abbrev pub way_form : Form (Option Point)
way_form = case_sign symbol.Minus (told_form (λ b. Some b) spot_form) (nothing None)

-- `NUM ")"`, after the bracket and the first number of a spot, and what may follow a spot
abbrev pub spot_end : Form (ℕ × Option Point)
spot_end = seq (λ y b. (y, b)) coordinate_form (after_sign symbol.Close way_form)

-- `spot | spot "-" spot`, after its bracket
abbrev pub point_or_segment_form : Form Shape
point_or_segment_form = seq spot_or_way coordinate_form spot_end

-- `"(" spot { spot } ")"`, after its bracket
abbrev pub polygon_form : Form Shape
polygon_form = seq (λ corners (u : Unit {0}). polygon corners) (checked is_ring spots_form) (sign symbol.Close)

-- `spot | spot "-" spot | "(" spot { spot } ")"`, after its bracket
abbrev pub shape_rest : Form Shape
shape_rest = alt (a_natural 0 (2 ^ COORDINATE_BITS - 1)) spot_or_way spot_end polygon_form

-- a shape
abbrev pub shape_form : Form Shape
shape_form = after_sign symbol.Open shape_rest

-- `plain | shape`
abbrev pub value_form : Form Value
value_form = alt an_int (λ n (u : Unit {0}). value.Int n) (nothing tt)
    (alt a_text (λ t (u : Unit {0}). value.Text t) (nothing tt) (told_form (λ s. value.Shape s) shape_form))

-- `value { "," value }`
abbrev pub values_form : Form (List Value)
values_form = seq (λ v vs. v ∷ vs) value_form (rule more_values)

-- `point | segment | polygon`
abbrev pub spatial_form : Form Kind
spatial_form = case_word (codes "point") (nothing kind.Point) (case_word (codes "segment") (nothing kind.Segment) (after_word (codes "polygon") (nothing kind.Polygon)))

-- `int | text | point | segment | polygon`
abbrev pub kind_form : Form Kind
kind_form = case_word (codes "int") (nothing kind.Int) (case_word (codes "text") (nothing kind.Text) spatial_form)

-- `NAME kind`
abbrev pub field_form : Form (List ℕ × Kind)
field_form = seq (λ n k. (n, k)) name_form kind_form

-- `NAME kind { "," NAME kind }`
abbrev pub columns_form : Form (List (List ℕ × Kind))
columns_form = seq (λ c cs. c ∷ cs) field_form (rule more_columns)

-- `"=" | "!=" | "<" | "<=" | ">" | ">="`
abbrev pub op_form : Form Op
op_form = case_sign symbol.Equal (nothing op.Equal) (case_sign symbol.NotEqual (nothing op.NotEqual) (case_sign symbol.Less (nothing op.Less)
    (case_sign symbol.AtMost (nothing op.AtMost) (case_sign symbol.Greater (nothing op.Greater)
    (take (a_mark symbol.AtLeast) (λ (u : Unit {0}). op.AtLeast))))))

-- `place op plain`
abbrev pub test_form : Form Test
test_form = seq (λ p (ov : Op × Value). record { place = p; op = ov.0; value = ov.1 }) place_form (seq (λ o v. (o, v)) op_form plain_form)

-- `test { and test }`
abbrev pub tests_form : Form (List Test)
tests_form = seq (λ t ts. t ∷ ts) test_form (rule more_tests)

-- `place { "," place }`
abbrev pub places_form : Form (List Place)
places_form = seq (λ p ps. p ∷ ps) place_form (rule more_places)

-- `[ within NUM ]`
abbrev pub within_form : Form (Option ℕ)
within_form = case_word (codes "within") (take (a_natural 0 MOST_WITHIN) (λ n. Some n)) (nothing None)

-- `"(" plan ")"`
abbrev pub inner_form : Form Plan
inner_form = after_sign symbol.Open (before_sign (rule a_plan) symbol.Close)

-- the plans, each after its word: `NAME`
abbrev pub scan_rest : Form Plan
scan_rest = take a_name (λ r. plan.Scan r)

-- `column from shape [ within NUM ]`
abbrev pub rank_rest : Form Plan
rank_rest = seq (λ c (g : Shape × Option ℕ). plan.Rank c g.0 g.1) column_form (after_word (codes "from") (seq (λ g w. (g, w)) shape_form within_form))

-- `NUM NUM`
abbrev pub corner_form : Form Point
corner_form = seq (λ x y. record { x = x; y = y }) coordinate_form coordinate_form

-- the low corner is at most the high one
abbrev pub is_ordered : Rect → Bool
is_ordered r = nat_le r.low.x r.high.x && nat_le r.low.y r.high.y

-- `NUM NUM NUM NUM`
abbrev pub rect_form : Form Rect
rect_form = checked is_ordered (seq (λ a b. record { low = a; high = b }) corner_form corner_form)

-- `column NUM NUM NUM NUM`
abbrev pub window_rest : Form Plan
window_rest = seq (λ c w. plan.Window c w) column_form rect_form

-- `column "=" plain | column from NUM to NUM`
abbrev pub pick_rest : Form Plan
pick_rest = seq (λ c (p : Column → Plan). p c) column_form
    (case_sign symbol.Equal (told_form (λ v c. plan.PickEqual c v) plain_form)
    (after_word (codes "from") (seq (λ a b c. plan.PickBetween c a b) int_form (after_word (codes "to") int_form))))

-- `column column [ within NUM ]`
abbrev pub join_rest : Form Plan
join_rest = seq (λ l (r : Column × Option ℕ). plan.Join l r.0 r.1) column_form (seq (λ r w. (r, w)) column_form within_form)

-- what follows the word of a semi-join
abbrev pub semi_rest : Form Plan
semi_rest = seq (λ l (r : Column × Option ℕ). plan.Semi l r.0 r.1) column_form (seq (λ r w. (r, w)) column_form within_form)

-- `NUM column column [ within NUM ]`
abbrev pub knn_rest : Form Plan
knn_rest = seq (λ k (lr : Column × (Column × Option ℕ)). plan.Knn k lr.0 lr.1.0 lr.1.1) (natural_form 1 255)
    (seq (λ l (r : Column × Option ℕ). (l, r)) column_form (seq (λ r w. (r, w)) column_form within_form))

-- what follows the word of a ranking by an R-tree
abbrev pub near_rest : Form Plan
near_rest = seq (λ c (g : Shape × Option ℕ). plan.Near c g.0 g.1) column_form (after_word (codes "from") (seq (λ g w. (g, w)) shape_form within_form))

-- `"(" plan ")" where test { and test }`
abbrev pub filter_rest : Form Plan
filter_rest = seq (λ p ts. plan.Filter p ts) inner_form (after_word (codes "where") tests_form)

-- `"(" plan ")" place "=" column`
abbrev pub match_rest : Form Plan
match_rest = seq (λ p (l : Place × Column). plan.Match p l.0 l.1) inner_form (seq (λ l c. (l, c)) place_form (after_sign symbol.Equal column_form))

-- `"(" plan ")" place { "," place }`
abbrev pub fetch_rest : Form Plan
fetch_rest = seq (λ p ls. plan.Fetch p ls) inner_form places_form

-- `NUM "(" plan ")"`
abbrev pub first_rest : Form Plan
first_rest = seq (λ n p. plan.First n p) (natural_form 1 MOST_ROWS) inner_form

-- `"(" plan ")" by place | "(" plan ")" near place from shape`
abbrev pub sort_rest : Form Plan
sort_rest = seq (λ p (s : Plan → Plan). s p) inner_form
    (case_word (codes "by") (told_form (λ l p. plan.SortBy p l) place_form)
    (after_word (codes "near") (seq (λ l g p. plan.SortNear p l g) place_form (after_word (codes "from") shape_form))))

-- a plan
abbrev pub plan_form : Form Plan
plan_form =
    case_word (codes "scan") scan_rest (case_word (codes "rank") rank_rest (case_word (codes "window") window_rest (case_word (codes "pick") pick_rest
    (case_word (codes "join") join_rest (case_word (codes "semi") semi_rest (case_word (codes "knn") knn_rest (case_word (codes "near") near_rest (case_word (codes "filter") filter_rest
    (case_word (codes "match") match_rest (case_word (codes "fetch") fetch_rest (case_word (codes "first") first_rest (after_word (codes "sort") sort_rest))))))))))))

-- the rules: a plan, and the rest of each list
abbrev pub body : (r : Rule) → Form (RuleValue r)
body a_plan = plan_form
body more_columns = case_sign symbol.Comma columns_form (nothing [])
body more_values = case_sign symbol.Comma values_form (nothing [])
body more_spots = case_sign symbol.Open (seq (λ p ps. p ∷ ps) spot_rest (rule more_spots)) (nothing [])
body more_tests = case_word (codes "and") tests_form (nothing [])
body more_places = case_sign symbol.Comma places_form (nothing [])

-- the statements, each after its word: `NAME "(" NAME kind { "," NAME kind } ")"`, of at most 12 columns
abbrev pub create_rest : Form Statement
create_rest = seq (λ r cs. statement.Create r cs) name_form
    (after_sign symbol.Open (before_sign (checked (λ cs. nat_le (length cs) 12) columns_form) symbol.Close))

-- `NAME value { "," value }`
abbrev pub insert_rest : Form Statement
insert_rest = seq (λ r vs. statement.Insert r vs) name_form values_form

-- `NAME NUM`
abbrev pub delete_rest : Form Statement
delete_rest = seq (λ r n. statement.Delete r n) name_form (natural_form 0 4294967295)

-- `NAME TEXT [ header ]`
abbrev pub load_rest : Form Statement
load_rest = seq (λ r (f : List ℕ × Bool). statement.Load r f.0 f.1) name_form
    (seq (λ f h. (f, h)) (take a_text (λ t. t)) (case_word (codes "header") (nothing true) (nothing false)))

-- `column [ NUM ]`
abbrev pub index_rest : Form Statement
index_rest = seq (λ c t. statement.Index c t) column_form (alt (a_natural 1 64) (λ n (u : Unit {0}). Some n) (nothing tt) (nothing None))

-- what follows the word of an R-tree
abbrev pub rtree_rest : Form Statement
rtree_rest = told_form (λ c. statement.Rtree c) column_form

-- `NAME "=" plan`
abbrev pub open_rest : Form Statement
open_rest = seq (λ c p. statement.OpenCursor c p) name_form (after_sign symbol.Equal (rule a_plan))

-- `NAME NUM`
abbrev pub next_rest : Form Statement
next_rest = seq (λ c n. statement.Next c n) name_form (natural_form 1 MOST_ROWS)

-- `NUM plan`
abbrev pub show_rest : Form Statement
show_rest = seq (λ n p. statement.Show n p) (natural_form 1 MOST_ROWS) (rule a_plan)

-- `NAME`
abbrev pub close_rest : Form Statement
close_rest = take a_name (λ c. statement.CloseCursor c)

-- what follows the word of the counts
abbrev pub stats_rest : Form Statement
stats_rest = take a_name (λ c. statement.Stats c)

-- `NUM column from spot`
abbrev pub far_rest : Form Statement
far_rest = seq (λ n (cg : Column × Point). statement.Far n cg.0 cg.1) (natural_form 1 MOST_ROWS)
    (seq (λ c g. (c, g)) column_form (after_word (codes "from") spot_form))

-- `column`
abbrev pub blocks_rest : Form Statement
blocks_rest = told_form (λ c. statement.Blocks c) column_form

-- a statement on cursors, plans or leaves, which changes no relation
abbrev pub query_form : Form Statement
query_form =
    case_word (codes "open") open_rest (case_word (codes "next") next_rest (case_word (codes "close") close_rest (case_word (codes "show") show_rest
    (case_word (codes "stats") stats_rest (case_word (codes "far") far_rest (after_word (codes "blocks") blocks_rest))))))

-- a statement
abbrev pub statement_form : Form Statement
statement_form =
    case_word (codes "create") create_rest (case_word (codes "insert") insert_rest (case_word (codes "delete") delete_rest (case_word (codes "load") load_rest
    (case_word (codes "index") index_rest (case_word (codes "rtree") rtree_rest query_form)))))
