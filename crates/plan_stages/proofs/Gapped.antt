-- A sort by gaps when it takes the end, and when it reads a key.
use Rattle.std.proofs.Common.{◌≡◌, ℕ, false, true, List, [], ◌∷◌, ◌++◌, map, All, Option, option_map, Some, None, refl, sym, ap, subst, IfSome, ap₂, ◌∙◌}
use Rattle.std.proofs.lemmas.List.Elements.{All-head, All-tail}
use Rattle.std.specs.Prelude.{Ok}
use Rattle.std.specs.Option.{option_cmp}
use Rattle.exact_frac.specs.Frac.{value_cmp}
use Rattle.exact_frac.specs.declared.frac.Frac.{Frac}
use Rattle.sand_base.specs.Plane.{IsShapeInPlane}
use Rattle.sand_base.specs.declared.shape.Shape.{Shape}
use Rattle.page_pool.specs.Desk.{DeskState}
use Rattle.page_pool.specs.Disk.{PageMap}
use Rattle.page_pool.specs.Pool.{PoolState, IsTold}
use Rattle.sand_model.specs.Database.{Database}
use Rattle.sand_model.specs.Operators.{PlanRow, relations_of, with_gap, gap_cmp}
use Rattle.statements.specs.Plan as plan
use Rattle.statements.specs.Plan.{Plan}
use Rattle.statements.specs.declared.column.Place.{Place}
use Rattle.sand_model.specs.Sources.{sorted}
use Rattle.best_first.specs.Visits.{told_pages}
use Rattle.plan_names.specs.Spots.{IsSpot}
use Rattle.plan_iterator.specs.Lowest.{lowest_of}
use Rattle.plan_iterator.specs.Rows.{plan_measure, row_of}
use Rattle.plan_iterator.specs.declared.answer.Answer.{Answer}
use Rattle.plan_stages.specs.Keyed.{by_key, keyed_row, gapped_row, gap_order}
use Rattle.plan_stages.specs.declared.keyed.Keyed.{Keyed}
use Rattle.plan_stages.proofs.SortedRows.{gapped_rows}
use Rattle.plan_iterator.specs.Outermost.{made, beneath}
use Rattle.plan_iterator.specs.Stages.{Works, Finishes}
use Rattle.plan_iterator.specs.declared.step.Step.TheVariants.{Pass}
use Rattle.plan_stages.specs.Sorting.{sort_waits}
use Rattle.plan_stages.specs.Gaps.{HasGapKey, SortNearStands}
use Rattle.plan_stages.specs.declared.sort_near.SortNear.{SortNear}
use Rattle.plan_stages.proofs.Sorting.{if_told, keeps_of, sorted_of}

-- the order of gaps is that of the type
same_order : (f g : Option Frac) → option_cmp value_cmp f g ≡ gap_order f g
same_order (Some f) (Some g) = refl
same_order (Some f) None = refl
same_order None (Some g) = refl
same_order None None = refl

one_order : option_cmp value_cmp ≡ gap_order
one_order = λ i f g. same_order f g i

-- rows with their keys as their gaps
all_gapped : (d : Database) (names : List (List ℕ)) (place : Place) (goal : Shape) (kept : List (Keyed (Option Frac))) → All (HasGapKey d names place goal) kept
    → map (with_gap plan_measure d names place goal) (map keyed_row kept) ≡ map gapped_row kept
all_gapped d names place goal [] h = refl
all_gapped d names place goal (k ∷ ks) h =
    ap₂ (λ (r : PlanRow) (rs : List PlanRow). r ∷ rs) (sym (All-head (HasGapKey d names place goal) k ks h))
    (all_gapped d names place goal ks (All-tail (HasGapKey d names place goal) k ks h))

-- what is made of rows with gaps as keys
by_gap : (d : Database) (p below : Plan) (place : Place) (goal : Shape) → p ≡ plan.SortNear below place goal → (kept after : List (Keyed (Option Frac)))
    → after ≡ sorted (by_key (option_cmp value_cmp)) kept
    → (rows : List PlanRow) → map keyed_row kept ≡ rows → All (HasGapKey d (relations_of below) place goal) kept → made d p rows ≡ map gapped_row after
by_gap d p below place goal is kept after e rows same keys =
    ap (λ q. made d q rows) is
    ∙ (ap (λ rs. sorted gap_cmp (map (with_gap plan_measure d (relations_of below) place goal) rs)) (sym same)
    ∙ (ap (λ rs. sorted gap_cmp rs) (all_gapped d (relations_of below) place goal kept keys)
    ∙ (sym (gapped_rows kept) ∙ ap (λ ks. map gapped_row ks) (sym (e ∙ ap (λ cmp. sorted (by_key cmp) kept) one_order)))))

-- at the end it sorts what it kept
pub sorted_gaps : (s : SortNear) (after : List (Keyed (Option Frac))) → sort_waits s.held s.closed ≡ false → after ≡ sorted (by_key (option_cmp value_cmp)) s.rows
    → (pages : PageMap) (d : Database) (p : Plan) (given : List PlanRow) → SortNearStands s pages d p (beneath d p) given
    → Finishes d p given (Ok Pass) (SortNearStands (record { spot = s.spot; goal = s.goal; held = s.held; rows = after; closed = true }) pages d p (beneath d p))
sorted_gaps s after free is pages d p given f = record {
  stands = record {
    below = f.below;
    place = f.place;
    is = f.is;
    at = f.at;
    inside = f.inside;
    sorts = sorted_of (HasGapKey d (relations_of f.below) f.place s.goal) gapped_row d p s.held s.closed s.rows after given free
        (by_gap d p f.below f.place s.goal f.is s.rows after is) f.sorts;
  };
  whole = tt;
}

-- the key that is read for a row with these ids
abbrev Reads : SortNear → List ℕ → Option Frac → PoolState → Type 0
Reads s ids key pool =
    IsTold pool → IsShapeInPlane s.goal → (d : Database) (names : List (List ℕ)) (place : Place) (row : PlanRow) → IsSpot d names place s.spot pool.pages → row.ids ≡ ids
    → record row { gap = option_map lowest_of key } ≡ with_gap plan_measure d names place s.goal row

-- a row is kept with the key that was read
pub kept_gap : (s : SortNear) (left : Option Answer) (after : List (Keyed (Option Frac))) (a : Answer) (key : Option Frac) (ids : List ℕ) (desk : DeskState) (pool : PoolState)
    → s.held ≡ Some a → left ≡ None → after ≡ s.rows ++ record { key = key; row = a } ∷ [] → pool ≡ desk.pool → a.ids ≡ ids → Reads s ids key pool
    → IfSome (told_pages desk) (λ pages. (d : Database) (p : Plan) (taken given : List PlanRow) → SortNearStands s pages d p taken given
    → Works d p taken given s.closed (Ok Pass) (SortNearStands (record { spot = s.spot; goal = s.goal; held = left; rows = after; closed = s.closed }) pages d p taken))
kept_gap s left after a key ids desk pool was none more is same read =
    if_told desk
    (λ pages. (d : Database) (p : Plan) (taken given : List PlanRow) → SortNearStands s pages d p taken given
    → Works d p taken given s.closed (Ok Pass) (SortNearStands (record { spot = s.spot; goal = s.goal; held = left; rows = after; closed = s.closed }) pages d p taken))
    (λ told d p taken given f. record {
      stands = record {
        below = f.below;
        place = f.place;
        is = f.is;
        at = f.at;
        inside = f.inside;
        sorts = keeps_of (HasGapKey d (relations_of f.below) f.place s.goal) gapped_row d p s.closed s.held left s.rows after a key taken given was none more
            (subst (λ q. Reads s ids key q) is read told f.inside d (relations_of f.below) f.place (row_of a) f.at same) f.sorts;
      };
      whole = tt;
      full = tt;
    })
