-- What an operator gave begins the answer of its plan, and over a sort nothing is given before the source is spent.
use Rattle.std.proofs.Common.{◌≡◌, ◌⊎◌, inl, inr, Bool, true, false, true≢false, List, [], take, refl, sym, ◌∙◌, subst}
use Rattle.page_pool.specs.Disk.{PageMap}
use Rattle.sand_model.specs.Database.{Database}
use Rattle.sand_model.specs.Operators.{PlanRow}
use Rattle.statements.specs.Plan.{Plan}
use Rattle.sand_model.specs.Taken.{Taken, is_lazy, beneath_sort}
use Rattle.plan_iterator.specs.Following.{Taking, Follows}
use Rattle.plan_iterator.specs.Outermost.{inner, is_sort, source_rows, over_rows, whole_answer, beneath, BeginsRows}
use Rattle.plan_iterator.specs.Stages.{Standing, GivesFront, OpensLate}
use Rattle.plan_iterator.specs.Steps.{IsSpent}
use Rattle.plan_iterator.specs.declared.operator.Operator.{Operator, Source, Over'}
use Rattle.plan_iterator.proofs.PlansBeneath.{over_made, source_inner, whole_made, over_source, lazy_source, lazy_inner, sort_inner}
use Rattle.plan_iterator.proofs.Levels.{begins_itself, begins_same, begins_nil}
use Rattle.plan_iterator.proofs.Levels.{take_begins, made_nil, over_front, spent_inner}

-- what was given begins the whole answer
pub begins_whole : {S T : Type 0} (At : S → Taking) (Stands : T → Standing) (closed : T → Bool) → GivesFront Stands
    → (o : Operator S T) (pages : PageMap) (d : Database) (p : Plan) (t : Taken) (given : List PlanRow)
    → Follows At Stands closed o pages d p t given → BeginsRows given (whole_answer d p)
begins_whole At Stands closed front (Source s) pages d p t given f =
    subst (λ rows. BeginsRows rows (whole_answer d p)) (sym f.rows)
    (subst (λ all. BeginsRows (take t.rows (source_rows d p)) all) (sym (over_source d p (source_rows d p) f.plain)) (take_begins t.rows (source_rows d p)))
begins_whole At Stands closed front (Over' stage pointer below) pages d p t given f =
    subst (λ all. BeginsRows given all) (sym (whole_made d p))
    (front stage pages d p f.taken given (beneath d p) f.stands (begins_whole At Stands closed front below pages d (inner p) t f.taken f.beneath)
    (begins_itself (beneath d p)))

-- without a sort it begins what comes of the source rows that were taken
pub begins_taken : {S T : Type 0} (At : S → Taking) (Stands : T → Standing) (closed : T → Bool) → GivesFront Stands
    → (o : Operator S T) (pages : PageMap) (d : Database) (p : Plan) (t : Taken) (given : List PlanRow)
    → Follows At Stands closed o pages d p t given → is_lazy p ≡ true → BeginsRows given (over_rows d p (take t.rows (source_rows d p)))
begins_taken At Stands closed front (Source s) pages d p t given f e =
    begins_same given (over_rows d p (take t.rows (source_rows d p))) (f.rows ∙ sym (over_source d p (take t.rows (source_rows d p)) f.plain))
begins_taken At Stands closed front (Over' stage pointer below) pages d p t given f e =
    let rows : List PlanRow = take t.rows (source_rows d p) in
    let lazy : is_lazy (inner p) ≡ true = lazy_inner p e in
    let beneath_it : BeginsRows f.taken (over_rows d (inner p) rows) =
    subst (λ all. BeginsRows f.taken (over_rows d (inner p) (take t.rows all))) (source_inner d p) (begins_taken At Stands closed front below pages d (inner p) t f.taken f.beneath lazy) in
    let some : BeginsRows (over_rows d (inner p) rows) (beneath d p) =
    over_front d (inner p) rows (source_rows d (inner p)) lazy (subst (λ all. BeginsRows rows all) (sym (source_inner d p)) (take_begins t.rows (source_rows d p))) in
    subst (λ all. BeginsRows given all) (sym (over_made d p rows)) (front stage pages d p f.taken given (over_rows d (inner p) rows) f.stands beneath_it some)

-- over a sort, nothing was given or the source is spent
pub settled : {S T : Type 0} (At : S → Taking) (Stands : T → Standing) (closed : T → Bool) → GivesFront Stands → OpensLate Stands closed
    → (o : Operator S T) (pages : PageMap) (d : Database) (p : Plan) (t : Taken) (given : List PlanRow)
    → Follows At Stands closed o pages d p t given → is_lazy p ≡ false → (given ≡ []) ⊎ IsSpent d (beneath_sort p) t
settled At Stands closed front late (Source s) pages d p t given f e = absurd (true≢false (sym (lazy_source p f.plain) ∙ e))
settled {S} {T} At Stands closed front late (Over' stage pointer below) pages d p t given f e =
    go (λ k. settled At Stands closed front late below pages d (inner p) t f.taken f.beneath (sort_inner p e k)) (is_sort p) refl
  where
    by_sort : (given ≡ []) ⊎ (closed stage ≡ true) → (given ≡ []) ⊎ IsSpent d (beneath_sort p) t
    by_sort (inl none) = inl none
    by_sort (inr shut) = inr (spent_inner d p t (f.spent shut))

    by_below : is_sort p ≡ false → (f.taken ≡ []) ⊎ IsSpent d (beneath_sort (inner p)) t → (given ≡ []) ⊎ IsSpent d (beneath_sort p) t
    by_below k (inl none) =
        inl (begins_nil given (subst (λ all. BeginsRows given all) (made_nil d p k)
        (front stage pages d p f.taken given [] f.stands (begins_same f.taken [] none) (record { rest = beneath d p; split = refl }))))
    by_below k (inr spent) = inr (spent_inner d p t spent)

    go : (is_sort p ≡ false → (f.taken ≡ []) ⊎ IsSpent d (beneath_sort (inner p)) t) → (b : Bool) → is_sort p ≡ b → (given ≡ []) ⊎ IsSpent d (beneath_sort p) t
    go below true k = by_sort (late stage pages d p f.taken given f.stands k)
    go below false k = by_below k (below k)
