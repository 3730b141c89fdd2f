-- `match`: for each row the rows of a column with an equal value, one after another.
use Rattle.std.specs.Prelude.{◌≡◌, ℕ, ◌+◌, ◌-◌, ◌*◌, ◌^◌, Bool, true, false, List, [], ◌∷◌, ◌++◌, map, Option, Some, None, Result, Ok, Err, ⊤}
use Rattle.sand_base.specs.declared.value.Value.{Value}
use Rattle.page_pool.specs.Disk.{PageMap}
use Rattle.page_pool.specs.declared.fault.PageFault.{PageFault}
use Rattle.sand_model.specs.Database.{Database}
use Rattle.sand_model.specs.Operators.{PlanRow, relations_of, value_at}
use Rattle.statements.specs.Plan as plan
use Rattle.statements.specs.Plan.{Plan}
use Rattle.statements.specs.declared.column.Place.{Place}
use Rattle.statements.specs.declared.column.Column.{Column}
use Rattle.plan_names.specs.Equals.{equals, above}
use Rattle.plan_names.specs.Indexed.{IsLookUp}
use Rattle.plan_names.specs.Spots.{IsSpot}
use Rattle.plan_iterator.specs.Rows.{row_of}
use Rattle.plan_iterator.specs.declared.answer.Answer.{Answer}
use Rattle.plan_stages.specs.Splits.{Splits}
use Rattle.plan_stages.specs.declared.matching.Held.{Held}
use Rattle.plan_stages.specs.declared.matching.Held.TheVariants.{Fresh, Probing}
use Rattle.plan_stages.specs.declared.matching.Match.{Match}
use Rattle.plan_stages.specs.declared.probe.Probe.{Probe}

-- the row with one id more
abbrev pub row_with_id : PlanRow → ℕ × Value → PlanRow
row_with_id row pair = record row { ids = row.ids ++ pair.0 ∷ [] }

-- the matches of a row with this value at the place, if any: the rows of the column whose values equal it, by id
abbrev pub matches_with : Database → Column → PlanRow → Option Value → List PlanRow
matches_with d column row (Some v) = map (row_with_id row) (equals d column v)
matches_with d column row None = []

-- the matches of a row with a value that was read: those of ids above the last one given are still to come
abbrev pub matches_left_of : Database → Column → Probe → List PlanRow
matches_left_of d column h = map (row_with_id (row_of h.row)) (above h.last (equals d column h.value))

-- the next match was given, or none was left
abbrev pub GivesNextMatch : Database → Column → Probe → Result (Option Answer) PageFault → Probe → Type 0
GivesNextMatch d column old (Ok (Some a)) new = matches_left_of d column old ≡ row_of a ∷ matches_left_of d column new
GivesNextMatch d column old (Ok None) new = matches_left_of d column old ≡ []
GivesNextMatch d column old (Err fault) new = ⊤

-- the matches of a held row that are still to come: all of one whose value is still to be read
abbrev pub matches_to_come : Database → List (List ℕ) → Place → Column → Option Held → List PlanRow
matches_to_come d names place column (Some (Fresh row)) = matches_with d column (row_of row) (value_at d names (row_of row) place)
matches_to_come d names place column (Some (Probing h)) = matches_left_of d column h
matches_to_come d names place column None = []

-- a row's matches are looked for
abbrev pub match_waits : Match → Bool
match_waits m = is_held m.held where
  is_held : Option Held → Bool
  is_held (Some h) = true
  is_held None = false

-- a step for each id that a row may still match, one for that none is left, and one to read its value
abbrev pub match_steps : Match → ℕ → ℕ
match_steps m n = (2 ^ 32 + 3) * n + left m.held where
  left : Option Held → ℕ
  left (Some (Fresh row)) = 2 ^ 32 + 2
  left (Some (Probing h)) = 2 ^ 32 + 1 - h.last
  left None = 0

-- It took these rows of the plan beneath and gave those. Ids begin above 0.
pub record MatchStands (m : Match) (pages : PageMap) (d : Database) (p : Plan) (taken given : List PlanRow) : Type 0 where
  pub below : Plan
  pub place : Place
  pub column : Column
  pub is : p ≡ plan.Match below place column
  pub spot : IsSpot d (relations_of below) place m.spot pages
  pub look_up : IsLookUp d column m.look_up pages
  pub all : (v : Value) → above 0 (equals d column v) ≡ equals d column v
  pub splits : Splits d p taken given (matches_to_come d (relations_of below) place column m.held)
