-- A sort by numbers when it takes the end, and when it reads a key.
use Rattle.std.proofs.Common.{◌≡◌, ℕ, ℤ, false, true, List, [], ◌∷◌, ◌++◌, map, All, Option, Some, None, sym, ap, subst, IfSome, ◌∙◌}
use Rattle.std.specs.Prelude.{Ok}
use Rattle.std.specs.Ordering.{int_cmp}
use Rattle.page_pool.specs.Desk.{DeskState}
use Rattle.page_pool.specs.Disk.{PageMap}
use Rattle.page_pool.specs.Pool.{PoolState, IsTold}
use Rattle.sand_model.specs.Database.{Database}
use Rattle.sand_model.specs.Operators.{PlanRow, relations_of, number_at}
use Rattle.statements.specs.Plan as plan
use Rattle.statements.specs.Plan.{Plan}
use Rattle.statements.specs.declared.column.Place.{Place}
use Rattle.sand_model.specs.Sources.{sorted}
use Rattle.best_first.specs.Visits.{told_pages}
use Rattle.plan_names.specs.Spots.{IsSpot}
use Rattle.plan_iterator.specs.Rows.{row_of}
use Rattle.plan_iterator.specs.declared.answer.Answer.{Answer}
use Rattle.plan_stages.specs.Keyed.{by_key, keyed_row}
use Rattle.plan_stages.specs.declared.keyed.Keyed.{Keyed}
use Rattle.plan_stages.proofs.SortedRows.{rows_by_key}
use Rattle.plan_iterator.specs.Outermost.{made, beneath}
use Rattle.plan_iterator.specs.Stages.{Works, Finishes}
use Rattle.plan_iterator.specs.declared.step.Step.TheVariants.{Pass}
use Rattle.plan_stages.specs.Sorting.{sort_waits}
use Rattle.plan_stages.specs.Numbers.{HasNumber, SortByStands}
use Rattle.plan_stages.specs.declared.sort_by.SortBy.{SortBy}
use Rattle.plan_stages.proofs.Sorting.{if_told, keeps_of, sorted_of}

-- what is made of rows with numbers as keys
by_number : (d : Database) (p below : Plan) (place : Place) → p ≡ plan.SortBy below place → (kept after : List (Keyed ℤ)) → after ≡ sorted (by_key int_cmp) kept
    → (rows : List PlanRow) → map keyed_row kept ≡ rows → All (HasNumber d (relations_of below) place) kept → made d p rows ≡ map keyed_row after
by_number d p below place is kept after e rows same keys =
    let key : PlanRow → ℤ = number_at d (relations_of below) place in
    ap (λ q. made d q rows) is
    ∙ (ap (λ rs. sorted (λ a b. int_cmp (key a) (key b)) rs) (sym same)
    ∙ (sym (rows_by_key int_cmp key kept keys) ∙ ap (λ ks. map keyed_row ks) (sym e)))

-- at the end it sorts what it kept
pub sorted_numbers : (s : SortBy) (after : List (Keyed ℤ)) → sort_waits s.held s.closed ≡ false → after ≡ sorted (by_key int_cmp) s.rows
    → (pages : PageMap) (d : Database) (p : Plan) (given : List PlanRow) → SortByStands s pages d p (beneath d p) given
    → Finishes d p given (Ok Pass) (SortByStands (record { spot = s.spot; held = s.held; rows = after; closed = true }) pages d p (beneath d p))
sorted_numbers s after free is pages d p given f = record {
  stands = record {
    below = f.below;
    place = f.place;
    is = f.is;
    at = f.at;
    sorts = sorted_of (HasNumber d (relations_of f.below) f.place) keyed_row d p s.held s.closed s.rows after given free
        (by_number d p f.below f.place f.is s.rows after is) f.sorts;
  };
  whole = tt;
}

-- the key that is read for a row with these ids
abbrev Reads : SortBy → List ℕ → ℤ → PoolState → Type 0
Reads s ids key pool =
    IsTold pool → (d : Database) (names : List (List ℕ)) (place : Place) (row : PlanRow) → IsSpot d names place s.spot pool.pages → row.ids ≡ ids
    → key ≡ number_at d names place row

-- a row is kept with the key that was read
pub kept_number : (s : SortBy) (left : Option Answer) (after : List (Keyed ℤ)) (a : Answer) (key : ℤ) (ids : List ℕ) (desk : DeskState) (pool : PoolState)
    → s.held ≡ Some a → left ≡ None → after ≡ s.rows ++ record { key = key; row = a } ∷ [] → pool ≡ desk.pool → a.ids ≡ ids → Reads s ids key pool
    → IfSome (told_pages desk) (λ pages. (d : Database) (p : Plan) (taken given : List PlanRow) → SortByStands s pages d p taken given
    → Works d p taken given s.closed (Ok Pass) (SortByStands (record { spot = s.spot; held = left; rows = after; closed = s.closed }) pages d p taken))
kept_number s left after a key ids desk pool was none more is same read =
    if_told desk
    (λ pages. (d : Database) (p : Plan) (taken given : List PlanRow) → SortByStands s pages d p taken given
    → Works d p taken given s.closed (Ok Pass) (SortByStands (record { spot = s.spot; held = left; rows = after; closed = s.closed }) pages d p taken))
    (λ told d p taken given f. record {
      stands = record {
        below = f.below;
        place = f.place;
        is = f.is;
        at = f.at;
        sorts = keeps_of (HasNumber d (relations_of f.below) f.place) keyed_row d p s.closed s.held left s.rows after a key taken given was none more
            (subst (λ q. Reads s ids key q) is read told d (relations_of f.below) f.place (row_of a) f.at same) f.sorts;
      };
      whole = tt;
      full = tt;
    })
