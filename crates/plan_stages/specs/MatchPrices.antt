-- What a match costs in page gets: of a row the tuple with its value, read once, and one look-up of the value. An int's entries tell it; of a text each entry's tuple is read too.
use Rattle.std.specs.Prelude.{ℕ, ◌+◌, ◌≤◌, cond, Option, None, Some, Result, Ok, Err}
use Rattle.page_pool.specs.Disk.{PageMap}
use Rattle.page_pool.specs.Pool.{PoolState}
use Rattle.page_pool.specs.declared.fault.PageFault.{PageFault}
use Rattle.sand_base.specs.declared.value.Value.{Value}
use Rattle.sand_model.specs.Database.{Database}
use Rattle.sand_model.specs.Operators.{PlanRow, relations_of, value_at}
use Rattle.statements.specs.Plan as plan
use Rattle.statements.specs.Plan.{Plan}
use Rattle.sand_model.specs.Price.{lookup_price, text_lookup_price, match_price, text_match_price, tuple_price}
use Rattle.plan_iterator.specs.Rows.{row_of}
use Rattle.plan_iterator.specs.declared.answer.Answer.{Answer}
use Rattle.plan_names.specs.LookUpCosts.{entries_above, tells}
use Rattle.plan_names.specs.declared.look_up.LookUp.{LookUp}
use Rattle.plan_names.specs.declared.spot.Spot.{Spot}
use Rattle.plan_stages.specs.declared.matching.Held.{Held}
use Rattle.plan_stages.specs.declared.matching.Held.TheVariants.{Fresh, Probing}
use Rattle.plan_stages.specs.declared.matching.Match.{Match}
use Rattle.plan_stages.specs.declared.probe.Probe.{Probe}

-- the heights of the B-trees that a match reads: of the file with the row's value, of the index, and of the file of the column's rows
abbrev pub value_height : Spot → ℕ
value_height spot = spot.relation.value.file.tree.height

-- the height of the index in which a match looks up
abbrev pub index_height : LookUp → ℕ
index_height l = l.index.tree.height

-- the height of the file of the rows that a match finds
abbrev pub others_height : LookUp → ℕ
others_height l = l.spot.relation.value.file.tree.height

-- To handle a row with this value, if any: the model's price of a match, with the entries of the value's key. Without a value its tuple alone is read.
abbrev pub matches_price : Spot → LookUp → PageMap → Option Value → ℕ
matches_price spot l pages (Some v) =
    cond (tells l v) (match_price (value_height spot) (index_height l) (entries_above pages l v 0))
    (text_match_price (value_height spot) (index_height l) (entries_above pages l v 0) (others_height l))
matches_price spot l pages None = tuple_price (value_height spot)

-- after the value was read: the model's price of a look-up, with the entries of ids above the last one given
abbrev pub left_price : LookUp → PageMap → Probe → ℕ
left_price l pages h =
    cond (tells l h.value) (lookup_price (index_height l) (entries_above pages l h.value h.last))
    (text_lookup_price (index_height l) (entries_above pages l h.value h.last) (others_height l))

-- to handle a row at a match
abbrev pub match_row_price : Match → PageMap → Database → Plan → PlanRow → ℕ
match_row_price m pages d (plan.Match below place column) row = matches_price m.spot m.look_up pages (value_at d (relations_of below) row place)
match_row_price m pages d p row = 0

-- what it owes for the row that it holds
abbrev pub match_owed : Match → PageMap → Database → Plan → ℕ
match_owed m pages d p = of_held m.held where
  of_held : Option Held → ℕ
  of_held (Some (Fresh row)) = match_row_price m pages d p (row_of row)
  of_held (Some (Probing h)) = left_price m.look_up pages h
  of_held None = 0

-- The gets of one look for a match: what is left to find costs so much less.
abbrev pub ProbeCosts : LookUp → PageMap → Probe → Result (Option Answer) PageFault → Probe → PoolState → PoolState → Type 0
ProbeCosts l pages old (Ok (Some a)) new before after = after.gets + left_price l pages new ≤ before.gets + left_price l pages old
ProbeCosts l pages old (Ok None) new before after = after.gets ≤ before.gets + left_price l pages old
ProbeCosts l pages old (Err fault) new before after = after.gets ≤ before.gets + left_price l pages old
