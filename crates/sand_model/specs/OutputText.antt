-- The lines that statements print, as bytes. Each ends with a line feed.
use Rattle.std.specs.Prelude.{◌≡◌, ℕ, Bool, true, false, List, [], ◌∷◌, ◌++◌, map, codes, Option, Some, None}
use Rattle.std.specs.Fmt.{decimal, signed_decimal}
use Rattle.exact_frac.specs.Printed.{IsPrinted}
use Rattle.exact_frac.specs.declared.frac.Frac.{Frac}
use Rattle.sand_base.specs.Refusal.{refusal_number, refusal_word}
use Rattle.sand_base.specs.declared.point.Point.{Point}
use Rattle.sand_base.specs.declared.refusal.Refusal.{Refusal}
use Rattle.sand_base.specs.declared.refusal.Refusal.TheVariants as why
use Rattle.sand_base.specs.declared.shape.Shape.{Shape}
use Rattle.sand_base.specs.declared.shape.Shape.TheVariants as shape
use Rattle.sand_base.specs.declared.value.Value.{Value}
use Rattle.sand_base.specs.declared.value.Value.TheVariants as value
use Rattle.z_code.specs.Block.{square_of}
use Rattle.z_code.specs.declared.block.Block.{Block}
use Rattle.sand_model.specs.Cursor.{OutputLine, Accepted, Id, Loaded, Row, End, Stats, LeafOf, Refused}
use Rattle.sand_model.specs.Operators.{PlanRow}
use Rattle.sand_model.specs.Reach.{Counts}

-- texts with one between each two
abbrev pub joined : List ℕ → List (List ℕ) → List ℕ
joined between [] = []
joined between (first ∷ []) = first
joined between (first ∷ second ∷ texts) = first ++ between ++ joined between (second ∷ texts)

-- texts joined by single spaces
abbrev pub spaced : List (List ℕ) → List ℕ
spaced = joined (codes " ")

-- texts joined by tabs
abbrev pub tabbed : List (List ℕ) → List ℕ
tabbed = joined (9 ∷ [])

-- `(x y)`
abbrev pub point_text : Point → List ℕ
point_text p = codes "(" ++ spaced (decimal p.x ∷ decimal p.y ∷ []) ++ codes ")"

-- a shape as it stands in a script: `(x y)`, `(x y)-(x y)`, `((x y) (x y) (x y))`
abbrev pub shape_text : Shape → List ℕ
shape_text (shape.Point p) = point_text p
shape_text (shape.Segment s) = point_text s.a ++ codes "-" ++ point_text s.b
shape_text (shape.Polygon corners) = codes "(" ++ spaced (map point_text corners) ++ codes ")"

-- a whole number in decimal, a text as it is, a shape as in a script
abbrev pub value_text : Value → List ℕ
value_text (value.Int n) = signed_decimal n
value_text (value.Text text) = text
value_text (value.Shape s) = shape_text s

-- the text of a gap, where there is one, as a fraction in lowest terms
abbrev pub PrintsGap : Option Frac → List (List ℕ) → Type 0
PrintsGap None parts = parts ≡ []
PrintsGap (Some gap) parts = (text : List ℕ) × IsPrinted gap.num gap.den text × (parts ≡ text ∷ [])

-- a row: its gap where it has one, its ids and its values, joined by tabs
abbrev pub PrintsRow : PlanRow → List ℕ → Type 0
PrintsRow row text =
    (gap : List (List ℕ)) × PrintsGap row.gap gap × (text ≡ tabbed (gap ++ map decimal row.ids ++ map value_text row.values))

-- the ids of a leaf, or `-` for none
abbrev pub ids_text : List ℕ → List ℕ
ids_text [] = codes "-"
ids_text (id ∷ ids) = spaced (map decimal (id ∷ ids))

-- a leaf: its level, the low corner of its square, and its ids
abbrev pub leaf_text : Block → List ℕ → List ℕ
leaf_text b ids =
    tabbed (decimal b.level ∷ decimal (square_of b).low.x ∷ decimal (square_of b).low.y ∷ ids_text ids ∷ [])

-- the counts and the number of rows of a cursor
abbrev pub stats_text : Counts → ℕ → List ℕ
stats_text seen rows =
    spaced (codes "blocks" ∷ decimal seen.blocks ∷ codes "pairs" ∷ decimal seen.pairs
    ∷ codes "geometries" ∷ decimal seen.geometries ∷ codes "rows" ∷ decimal rows ∷ [])

-- what a refusal adds to its word: a column, a page, or a record and its column
abbrev pub detail : Refusal → List (List ℕ)
detail (why.Syntax column) = decimal column ∷ []
detail (why.Damaged page kept read) = decimal page ∷ []
detail (why.BadRecord row column) = decimal row ∷ decimal column ∷ []
detail _ = []

-- `refused N WORD`
abbrev pub refused_text : Refusal → List ℕ
refused_text refusal =
    spaced (codes "refused" ∷ decimal (refusal_number refusal) ∷ refusal_word refusal ∷ detail refusal)

-- the line without its line feed
abbrev pub PrintsLine : OutputLine → List ℕ → Type 0
PrintsLine Accepted text = text ≡ codes "ok"
PrintsLine (Id id) text = text ≡ spaced (codes "id" ∷ decimal id ∷ [])
PrintsLine (Loaded rows) text = text ≡ spaced (codes "loaded" ∷ decimal rows ∷ [])
PrintsLine (Row row) text = PrintsRow row text
PrintsLine End text = text ≡ codes "end"
PrintsLine (Stats seen rows) text = text ≡ stats_text seen rows
PrintsLine (LeafOf b ids) text = text ≡ leaf_text b ids
PrintsLine (Refused refusal) text = text ≡ refused_text refusal

-- the text of lines, one after the other
abbrev pub IsText : List OutputLine → List ℕ → Type 0
IsText [] text = text ≡ []
IsText (line ∷ lines) text =
    (own : List ℕ) × (more : List ℕ) × PrintsLine line own × IsText lines more × (text ≡ own ++ 10 ∷ more)

-- the line says that something was refused
abbrev pub is_refused : OutputLine → Bool
is_refused (Refused refusal) = true
is_refused _ = false
