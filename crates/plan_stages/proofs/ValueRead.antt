-- A match reads the value of the row that it holds: which matches are to come then, and what is left to pay.
use Rattle.std.proofs.Common.{◌≡◌, ℕ, ◌+◌, ◌≤◌, Bool, true, false, cond, List, [], ◌++◌, map, Option, Some, None, Ok, IfSome, if◌then◌else◌, refl, sym, ap, ◌∙◌, subst, arith}
use Rattle.sand_base.specs.declared.value.Value.{Value}
use Rattle.page_pool.specs.Desk.{DeskState}
use Rattle.page_pool.specs.Disk.{PageMap}
use Rattle.page_pool.specs.Pool.{PoolState, IsTold}
use Rattle.sand_model.specs.Database.{Database}
use Rattle.sand_model.specs.Operators.{PlanRow, relations_of, value_at}
use Rattle.statements.specs.Plan.{Plan}
use Rattle.statements.specs.declared.column.Place.{Place}
use Rattle.statements.specs.declared.column.Column.{Column}
use Rattle.sand_model.specs.Price.{lookup_price, text_lookup_price, tuple_price}
use Rattle.best_first.specs.Visits.{told_pages}
use Rattle.plan_names.specs.Equals.{equals, above}
use Rattle.plan_names.specs.LookUpCosts.{entries_above, tells}
use Rattle.plan_names.specs.Spots.{IsSpot}
use Rattle.plan_names.specs.declared.look_up.LookUp.{LookUp}
use Rattle.plan_names.specs.declared.spot.Spot.{Spot}
use Rattle.plan_iterator.specs.Rows.{row_of}
use Rattle.plan_iterator.specs.declared.answer.Answer.{Answer}
use Rattle.plan_iterator.specs.Stages.{Works}
use Rattle.plan_iterator.specs.declared.step.Step.TheVariants.{Pass}
use Rattle.plan_stages.specs.Matches.{MatchStands, row_with_id, matches_with, matches_left_of, matches_to_come}
use Rattle.plan_stages.specs.MatchPrices.{value_height, index_height, others_height, matches_price, left_price, match_owed}
use Rattle.plan_stages.specs.declared.matching.Held.{Held}
use Rattle.plan_stages.specs.declared.matching.Held.TheVariants.{Fresh, Probing}
use Rattle.plan_stages.specs.declared.matching.Match.{Match}
use Rattle.plan_stages.specs.declared.probe.Probe.{Probe}

-- over the pages that are told
by_told : (desk : DeskState) (X : PageMap → Type 0) → (IsTold desk.pool → X desk.pool.pages) → IfSome (told_pages desk) X
by_told desk X h = go desk.pool.disk.told refl
  where
    go : (k : Bool) → desk.pool.disk.told ≡ k → IfSome (if k then Some desk.pool.pages else None) X
    go true e = h e
    go false e = tt

-- the row with its value, no match looked up yet
abbrev pub first_probe : Answer → Value → Probe
first_probe row v = record { row = row; value = v; last = 0 }

-- the match with another row that is held, or with none
abbrev pub with_held : Match → Option Held → Match
with_held m o = record { spot = m.spot; look_up = m.look_up; held = o }

-- a step that gives no row leaves as much to come
abbrev pub Passes : Match → Option Held → PageMap → Type 0
Passes m after pages =
    (d : Database) (p : Plan) (taken given : List PlanRow) → MatchStands m pages d p taken given → Works d p taken given false (Ok Pass) (MatchStands (with_held m after) pages d p taken)

passes : (m : Match) (after : Option Held) (pages : PageMap)
    → ((d : Database) (p : Plan) (taken given : List PlanRow) (s : MatchStands m pages d p taken given)
    → matches_to_come d (relations_of s.below) s.place s.column m.held ≡ matches_to_come d (relations_of s.below) s.place s.column after)
    → Passes m after pages
passes m after pages same d p taken given s = record {
  stands = record {
    below = s.below;
    place = s.place;
    column = s.column;
    is = s.is;
    spot = s.spot;
    look_up = s.look_up;
    all = s.all;
    splits = record { operator = s.splits.operator; plain = s.splits.plain; split = s.splits.split ∙ ap (λ rows. given ++ rows) (same d p taken given s) };
  };
  whole = tt;
  full = tt;
}

-- the matches of a row with a value are those of ids above 0
begins : (d : Database) (column : Column) (row : Answer) (v : Value) (o : Option Value) → Some v ≡ o → above 0 (equals d column v) ≡ equals d column v
    → matches_with d column (row_of row) o ≡ matches_left_of d column (first_probe row v)
begins d column row v o is all =
    subst (λ (o : Option Value). matches_with d column (row_of row) o ≡ matches_left_of d column (first_probe row v)) is (ap (λ pairs. map (row_with_id (row_of row)) pairs) (sym all))

-- the price of a row with a value: its tuple, and a look-up
row_is : (spot : Spot) (l : LookUp) (pages : PageMap) (row : Answer) (v : Value) → matches_price spot l pages (Some v) ≡ tuple_price (value_height spot) + left_price l pages (first_probe row v)
row_is spot l pages row v = go (tells l v)
  where
    go : (b : Bool)
        → cond b (tuple_price (value_height spot) + lookup_price (index_height l) (entries_above pages l v 0))
        (tuple_price (value_height spot) + text_lookup_price (index_height l) (entries_above pages l v 0) (others_height l))
        ≡ tuple_price (value_height spot) + cond b (lookup_price (index_height l) (entries_above pages l v 0)) (text_lookup_price (index_height l) (entries_above pages l v 0) (others_height l))
    go true = refl
    go false = refl

-- what the value at the place of a row says
abbrev pub Says : Spot → List ℕ → Option Value → PoolState → Type 0
Says spot ids value s =
    IsTold s → (d : Database) (names : List (List ℕ)) (place : Place) (row : PlanRow) → IsSpot d names place spot s.pages → row.ids ≡ ids → value ≡ value_at d names row place

module _ (desk : DeskState) (pool : PoolState) (m : Match) (row : Answer) (same : pool ≡ desk.pool) (is : m.held ≡ Some (Fresh row)) where
  -- the value at the place of the row is the one that was read
  value_is : (o : Option Value) → Says m.spot row.ids o pool → IsTold desk.pool → (d : Database) (p : Plan) (taken given : List PlanRow) (s : MatchStands m desk.pool.pages d p taken given)
      → o ≡ value_at d (relations_of s.below) (row_of row) s.place
  value_is o says told d p taken given s = subst (λ (q : PoolState). Says m.spot row.ids o q) same says told d (relations_of s.below) s.place (row_of row) s.spot refl

  -- the row has a value, and its matches are to come
  pub value_passes : (v : Value) → Says m.spot row.ids (Some v) pool → IfSome (told_pages desk) (Passes m (Some (Probing (first_probe row v))))
  value_passes v says =
      by_told desk (Passes m (Some (Probing (first_probe row v))))
      (λ told. passes m (Some (Probing (first_probe row v))) desk.pool.pages
      (λ d p taken given s. ap (λ o. matches_to_come d (relations_of s.below) s.place s.column o) is
      ∙ begins d s.column row v (value_at d (relations_of s.below) (row_of row) s.place) (value_is (Some v) says told d p taken given s) (s.all v)))

  -- the row has none
  pub none_passes : (after : Option Held) → after ≡ None → Says m.spot row.ids None pool → IfSome (told_pages desk) (Passes m after)
  none_passes after gone says =
      by_told desk (Passes m after)
      (λ told. passes m after desk.pool.pages
      (λ d p taken given s. ap (λ o. matches_to_come d (relations_of s.below) s.place s.column o) is
      ∙ subst (λ (o : Option Value). matches_with d s.column (row_of row) o ≡ []) (value_is None says told d p taken given s) refl
      ∙ ap (λ o. matches_to_come d (relations_of s.below) s.place s.column o) (sym gone)))

  -- the tuple was paid, and the look-up is left
  pub value_costs : (new : PoolState) (v : Value) → Says m.spot row.ids (Some v) pool → new.gets ≤ pool.gets + tuple_price (value_height m.spot)
      → IfSome (told_pages desk) (λ pages. (d : Database) (p : Plan) (taken given : List PlanRow) → MatchStands m pages d p taken given
      → new.gets + match_owed (with_held m (Some (Probing (first_probe row v)))) pages d p ≤ desk.pool.gets + match_owed m pages d p)
  value_costs new v says within =
      by_told desk (λ pages. (d : Database) (p : Plan) (taken given : List PlanRow) → MatchStands m pages d p taken given
      → new.gets + match_owed (with_held m (Some (Probing (first_probe row v)))) pages d p ≤ desk.pool.gets + match_owed m pages d p)
      (λ told d p taken given s.
      let owed : match_owed m desk.pool.pages d p ≡ tuple_price (value_height m.spot) + left_price m.look_up desk.pool.pages (first_probe row v) =
      ap (λ o. match_owed (with_held m o) desk.pool.pages d p) is
      ∙ ap (λ q. match_owed (with_held m (Some (Fresh row))) desk.pool.pages d q) s.is
      ∙ ap (λ o. matches_price m.spot m.look_up desk.pool.pages o) (sym (value_is (Some v) says told d p taken given s))
      ∙ row_is m.spot m.look_up desk.pool.pages row v in
      let most : new.gets ≤ desk.pool.gets + tuple_price (value_height m.spot) = subst (λ (q : PoolState). new.gets ≤ q.gets + tuple_price (value_height m.spot)) same within in
      omega (arith, owed, most))
