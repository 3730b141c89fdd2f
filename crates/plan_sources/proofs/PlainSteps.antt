-- A call of a source without distances: it gives the first row that is left, and visits nothing.
use Rattle.std.proofs.Common.{◌≡◌, ℕ, zero, suc, ◌+◌, ◌<◌, ◌≤◌, true, false, Bool, cond, List, [], ◌∷◌, length, drop, refl, sym, ◌∙◌, ap, subst, arith, append-nil}
use Rattle.std.specs.Prelude.{Option, Some, None, Ok, Err, Result, min, IfSome, ⊤, OnOk}
use Rattle.std.proofs.lemmas.List.Elements.{All-nil}
use Rattle.code_btree.proofs.Orders.{lt_is, lt_not}
use Rattle.page_pool.specs.Desk.{DeskState}
use Rattle.page_pool.specs.Disk.{PageMap}
use Rattle.page_pool.specs.Pool.{PoolState, IsTold}
use Rattle.page_pool.specs.declared.fault.PageFault.{PageFault}
use Rattle.sand_base.specs.Faults.{last_count}
use Rattle.sand_base.specs.declared.visit.Visit.{Visit}
use Rattle.sand_model.specs.Answer.{source}
use Rattle.sand_model.specs.Database.{Database, element}
use Rattle.sand_model.specs.Operators.{PlanRow}
use Rattle.statements.specs.Plan as plan
use Rattle.statements.specs.Plan.{Plan}
use Rattle.sand_model.specs.Reach.{reach, no_counts}
use Rattle.sand_model.specs.Taken.{Taken}
use Rattle.best_first.specs.Visits.{told_pages}
use Rattle.plan_iterator.specs.Rows.{plan_measure, row_of}
use Rattle.plan_iterator.specs.SourceSteps.{next_taken, counts_taken, MakesVisits, SourceStep}
use Rattle.plan_iterator.specs.Prices.{Heights, unless_refused, Costs}
use Rattle.plan_iterator.specs.Visited.{LiesWithin}
use Rattle.plan_iterator.specs.declared.answer.Answer.{Answer}
use Rattle.plan_iterator.proofs.VisitCounts.{plus_none}
use Rattle.plan_sources.specs.Plain.{rows_left_of}

-- the plan is a scan or a pick
abbrev pub IsPlain : Plan → Type 0
IsPlain (plan.Scan name) = ⊤
IsPlain (plan.PickEqual column v) = ⊤
IsPlain (plan.PickBetween column low high) = ⊤
IsPlain _ = ⊥

-- nothing was noted, and the gets don't fall
pub record Reads (old new : DeskState) : Type 0 where
  pub log : new.visits ≡ old.visits
  pub up : min old.pool.gets last_count ≤ new.pool.gets

no_nodes : (d : Database) (p : Plan) (t : Taken) → IsPlain p → counts_taken d p t ≡ no_counts
no_nodes d (plan.Scan name) t h = refl
no_nodes d (plan.PickEqual column v) t h = refl
no_nodes d (plan.PickBetween column low high) t h = refl
no_nodes d (plan.Rank _ _ _) t h = absurd h
no_nodes d (plan.Near _ _ _) t h = absurd h
no_nodes d (plan.Window _ _) t h = absurd h
no_nodes d (plan.Join _ _ _) t h = absurd h
no_nodes d (plan.Semi _ _ _) t h = absurd h
no_nodes d (plan.Knn _ _ _ _) t h = absurd h
no_nodes d (plan.Filter _ _) t h = absurd h
no_nodes d (plan.Match _ _ _) t h = absurd h
no_nodes d (plan.Fetch _ _) t h = absurd h
no_nodes d (plan.First _ _) t h = absurd h
no_nodes d (plan.SortBy _ _) t h = absurd h
no_nodes d (plan.SortNear _ _ _) t h = absurd h

visits_none : (pages : PageMap) (d : Database) (p : Plan) (t : Taken) (old new : DeskState) (result : Result (Option Answer) PageFault) → IsPlain p → Reads old new
    → MakesVisits pages d p t no_counts no_counts old new result
visits_none pages d p t old new result h r =
    let none = no_nodes d p (next_taken d p t) h in record {
      completed = [];
      attempted = [];
      log = r.log ∙ sym (append-nil old.visits);
      few = omega arith;
      settled = nothing_tried result;
      counted = sym (plus_none no_counts);
      near = All-nil (LiesWithin plan_measure pages d p (reach plan_measure d p (next_taken d p t)));
      between = rw none (record { blocks = (omega arith, omega arith); pairs = (omega arith, omega arith); geometries = (omega arith, omega arith) });
      exact = exact result none;
      rose = (let u = r.up in omega (arith, u));
    }
  where
    nothing_tried : (result : Result (Option Answer) PageFault) → OnOk result (◌≡◌ {A = List Visit} [] [])
    nothing_tried (Ok x) = refl
    nothing_tried (Err x) = tt

    exact : (result : Result (Option Answer) PageFault) → counts_taken d p (next_taken d p t) ≡ no_counts → OnOk result (no_counts ≡ counts_taken d p (next_taken d p t))
    exact (Ok x) e = sym e
    exact (Err x) e = tt

-- what is left begins with the row at the place that was reached
pub record FirstLeft (rows : List PlanRow) (n : ℕ) (row : PlanRow) (rest : List PlanRow) : Type 0 where
  pub here : element rows n ≡ Some row
  pub rest_is : drop (n + 1) rows ≡ rest
  pub below : n < length rows

first_left : (rows : List PlanRow) (n : ℕ) (row : PlanRow) (rest : List PlanRow) → drop n rows ≡ row ∷ rest → FirstLeft rows n row rest
first_left [] zero row rest h = absurd (no_cons row rest h)
  where
    no_cons : (x : PlanRow) (xs : List PlanRow) → [] ≡ x ∷ xs → ⊥
    no_cons x xs e = (let n : 0 ≡ length (x ∷ xs) = ap (λ (ys : List PlanRow). length ys) e in absurd (omega (arith, n)))
first_left [] (suc n) row rest h = (let k : 0 ≡ length (row ∷ rest) = ap (λ (ys : List PlanRow). length ys) h in absurd (omega (arith, k)))
first_left (x ∷ rows) zero row rest h = record {
  here = ap (λ (ys : List PlanRow). element ys 0) h;
  rest_is = ap (λ (ys : List PlanRow). drop 1 ys) h;
  below = omega arith;
}
first_left (x ∷ rows) (suc n) row rest h =
    let f = first_left rows n row rest h in record {
      here = f.here;
      rest_is = (let one : suc n + 1 ≡ suc (n + 1) = omega arith in rw one f.rest_is);
      below = (let b = f.below in omega (arith, b));
    }

pub record NoneLeft (rows : List PlanRow) (n : ℕ) : Type 0 where
  pub none : element rows n ≡ None
  pub past : length rows ≤ n

none_left : (rows : List PlanRow) (n : ℕ) → drop n rows ≡ [] → NoneLeft rows n
none_left [] n h = record { none = refl; past = omega arith }
none_left (x ∷ rows) zero h = (let k : length (x ∷ rows) ≡ 0 = ap (λ (ys : List PlanRow). length ys) h in absurd (omega (arith, k)))
none_left (x ∷ rows) (suc n) h = (let f = none_left rows n h in record { none = f.none; past = (let b = f.past in omega (arith, b)) })

-- the row that is given is the first that is left
pub row_step : (pages : PageMap) (d : Database) (p : Plan) (t : Taken) (a : Answer) (row : PlanRow) (rest : List PlanRow) (old new : DeskState) (At : Taken → Type 0)
    → IsPlain p → rows_left_of d p t ≡ row ∷ rest → row_of a ≡ row
    → Reads old new → ((u : Taken) → rows_left_of d p u ≡ rest → At u) → SourceStep pages d p t no_counts no_counts old new (Ok (Some a)) At
row_step pages d p t a row rest old new At h left is r at =
    let f = first_left (source plan_measure d p) t.rows row rest left in
    let more : next_taken d p t ≡ record { rows = t.rows + 1; is_ended = false } = rw (lt_is t.rows (length (source plan_measure d p)) f.below) refl in record {
      row = f.here ∙ ap (λ (x : PlanRow). Some x) (sym is);
      at = subst At (sym more) (at (record { rows = t.rows + 1; is_ended = false }) f.rest_is);
      visits = visits_none pages d p t old new (Ok (Some a)) h r;
    }

-- at the end none is left
pub end_step : (pages : PageMap) (d : Database) (p : Plan) (t : Taken) (old new : DeskState) (At : Taken → Type 0) → IsPlain p → rows_left_of d p t ≡ [] → Reads old new
    → ((u : Taken) → rows_left_of d p u ≡ [] → At u)
    → SourceStep pages d p t no_counts no_counts old new (Ok None) At
end_step pages d p t old new At h left r at =
    let f = none_left (source plan_measure d p) t.rows left in
    let more : next_taken d p t ≡ record { rows = t.rows; is_ended = true } = rw (lt_not t.rows (length (source plan_measure d p)) f.past) refl in record {
      row = f.none;
      at = subst At (sym more) (at (record { rows = t.rows; is_ended = true }) left);
      visits = visits_none pages d p t old new (Ok None) h r;
    }

-- a refusal takes nothing
pub fault_step : (pages : PageMap) (d : Database) (p : Plan) (t : Taken) (fault : PageFault) (old new : DeskState) (At : Taken → Type 0) → IsPlain p → Reads old new
    → At t → SourceStep pages d p t no_counts no_counts old new (Err fault) At
fault_step pages d p t fault old new At h r at = record { row = tt; at = at; visits = visits_none pages d p t old new (Err fault) h r }

-- where the desk tells its pages
pub where_told : (desk : DeskState) (F : PageMap → Type 0) → (IsTold desk.pool → F desk.pool.pages) → IfSome (told_pages desk) F
where_told desk F f =
    let go : (b : Bool) → desk.pool.disk.told ≡ b → IfSome (cond b (Some desk.pool.pages) None) F = elim [ true ↦ λ e. f e | false ↦ λ e. tt ] in
    go desk.pool.disk.told refl

-- reading a desk's pages notes nothing
pub reads_of : (old : DeskState) (pool new : PoolState) → pool ≡ old.pool → min pool.gets last_count ≤ new.gets → Reads old (record { pool = new; visits = old.visits })
reads_of old pool new e u =
    let P : PoolState → Type 0 = λ s. min s.gets last_count ≤ new.gets in record { log = refl; up = subst P e u }

-- ---- what a call costs

-- a call that reads a desk's pages, and notes nothing
pub costs_read : (h : Heights) (step : ℕ) (owed left : PageMap → ℕ) (At : PageMap → Database → Plan → Taken → Type 0) (old : DeskState) (pool new : PoolState)
    (result : Result (Option Answer) PageFault)
    → pool ≡ old.pool → (IsTold pool → new.gets + unless_refused result (left pool.pages) ≤ pool.gets + owed pool.pages + step)
    → IfSome (told_pages old) (λ pages. (d : Database) (p : Plan) (t : Taken) → At pages d p t → Costs h step (owed pages) (left pages) d p old (record { pool = new; visits = old.visits }) result)
costs_read h step owed left At old pool new result same bound =
    let F : PageMap → Type 0 = λ pages. (d : Database) (p : Plan) (t : Taken) → At pages d p t → Costs h step (owed pages) (left pages) d p old (record { pool = new; visits = old.visits }) result in
    let B : PoolState → Type 0 = λ s. IsTold s → new.gets + unless_refused result (left s.pages) ≤ s.gets + owed s.pages + step in
    let there : B old.pool = subst B same bound in
    where_told old F (λ told d p t at.
    let most = there told in
    record {
      noted = [];
      log = sym (append-nil old.visits);
      most = omega (arith, most);
    })
