-- Steps of an operator over another: it works, waits or finishes.
use Rattle.std.proofs.Common.{◌≡◌, ◌≢◌, ◌⊎◌, inl, inr, ℕ, ◌+◌, ◌≤◌, min, Bool, true, false, true≢false, List, [], take}
use Rattle.std.proofs.Common.{sum_by, Result, Ok, Err, refl, sym, ap, ap₂, ◌∙◌, subst, le_of_eq, arith}
use Rattle.std.specs.Prelude.{⊤}
use Rattle.std.specs.Global.{Box}
use Rattle.sand_base.specs.Faults.{last_count}
use Rattle.sand_base.specs.declared.visit.Visit.{Visit}
use Rattle.page_pool.specs.Desk.{DeskState}
use Rattle.page_pool.specs.Disk.{PageMap}
use Rattle.page_pool.specs.declared.fault.PageFault.{PageFault}
use Rattle.sand_model.specs.Database.{Database}
use Rattle.sand_model.specs.Operators.{PlanRow}
use Rattle.statements.specs.Plan.{Plan}
use Rattle.sand_model.specs.Reach.{Counts}
use Rattle.sand_model.specs.Taken.{Taken, is_lazy, beneath_sort}
use Rattle.plan_iterator.specs.Prices.{unless_refused}
use Rattle.plan_iterator.specs.Following.{Taking, Follows}
use Rattle.plan_iterator.specs.Outermost.{inner, made, source_rows, over_rows, beneath, BeginsRows}
use Rattle.plan_iterator.specs.Paying.{Prices, owed_by, left_of, left_after, paid, HasSamePrices, IsPaid}
use Rattle.plan_iterator.specs.Stages.{Standing, GivesFront, OpensLate, IsFilled, Works, Finishes, IsDry}
use Rattle.plan_iterator.specs.Steps.{given_after, AtEnd, IsSpent, IsDone, GoesOn, GoesStep}
use Rattle.plan_iterator.specs.declared.operator.Operator.{Operator, Over'}
use Rattle.plan_iterator.specs.declared.step.Step.{Step}
use Rattle.plan_iterator.specs.declared.step.Step.TheVariants.{Row, Pass, End}
use Rattle.plan_iterator.proofs.Fronts.{begins_whole, begins_taken, settled}
use Rattle.plan_iterator.proofs.PlansBeneath.{source_inner, whole_made, lazy_inner, sort_inner, filled_plain}
use Rattle.plan_iterator.proofs.Levels.{filled_front, spent_inner, spent_filled}
use Rattle.plan_iterator.proofs.Payments.{paid_over, left_open, same_over, left_worked, left_finished, pays_work, pays_none}
use Rattle.plan_iterator.proofs.LevelsUp.{asks_up}

-- ---- steps of an operator over another

-- nothing is given, and the end isn't there
abbrev pub IsQuiet : Result Step PageFault → Type 0
IsQuiet (Ok (Row a)) = ⊥
IsQuiet (Ok Pass) = ⊤
IsQuiet (Ok End) = ⊥
IsQuiet (Err fault) = ⊤

-- where a stage that worked is at its end, all rows were given, and nothing more will be taken
pub worked_ends : {S T : Type 0} (At : S → Taking) (Stands : T → Standing) (closed : T → Bool) → GivesFront Stands → OpensLate Stands closed
    → (pages : PageMap) (d : Database) (p : Plan) (t : Taken) (below : Operator S T) (taken given : List PlanRow) (shut : Bool) → Follows At Stands closed below pages d (inner p) t taken
    → (shut ≡ true → IsSpent d (beneath_sort (inner p)) t) → (r : Result Step PageFault) → AtEnd r (BeginsRows taken (beneath d p) → given ≡ made d p (beneath d p))
    → AtEnd r (IsFilled p taken ⊎ (shut ≡ true)) → AtEnd r (IsDone d p t given)
worked_ends At Stands closed front late pages d p t below taken given shut f spent = ended
  where
    of_first : IsFilled p taken → IsSpent d (beneath_sort p) t
    of_first h = go (is_lazy p) refl
      where
        by_below : (taken ≡ []) ⊎ IsSpent d (beneath_sort (inner p)) t → taken ≢ [] → IsSpent d (beneath_sort p) t
        by_below (inl none) some = absurd (some none)
        by_below (inr spent) some = spent_inner d p t spent

        go : (b : Bool) → is_lazy p ≡ b → IsSpent d (beneath_sort p) t
        go true e =
            spent_filled d p t e
            (filled_front p taken (over_rows d (inner p) (take t.rows (source_rows d p)))
            (subst (λ all. BeginsRows taken (over_rows d (inner p) (take t.rows all))) (source_inner d p) (begins_taken At Stands closed front below pages d (inner p) t taken f (lazy_inner p e)))
            h.full)
        go false e =
            by_below (settled At Stands closed front late below pages d (inner p) t taken f (sort_inner p e (filled_plain p taken h.full)))
            (h.begun e)

    is_spent : IsFilled p taken ⊎ (shut ≡ true) → IsSpent d (beneath_sort p) t
    is_spent (inl h) = of_first h
    is_spent (inr e) = spent_inner d p t (spent e)

    ended : (r : Result Step PageFault) → AtEnd r (BeginsRows taken (beneath d p) → given ≡ made d p (beneath d p))
        → AtEnd r (IsFilled p taken ⊎ (shut ≡ true)) → AtEnd r (IsDone d p t given)
    ended (Ok (Row a)) all full = tt
    ended (Ok Pass) all full = tt
    ended (Ok End) all full = record {
      all = all (begins_whole At Stands closed front below pages d (inner p) t taken f) ∙ sym (whole_made d p);
      spent = is_spent full;
    }
    ended (Err fault) all full = tt

-- the stage worked
pub works_over : {S T : Type 0} (At : S → Taking) (Stands : T → Standing) (closed : T → Bool) (q : Prices S T) → GivesFront Stands → OpensLate Stands closed
    → (pages : PageMap) (d : Database) (p : Plan) (t : Taken) (given : List PlanRow) (count : Counts) (old new : DeskState) (result : Result Step PageFault)
    → (stage stage' : T) (pointer pointer' : Box Unit) (below : Operator S T) → closed stage' ≡ closed stage → q.row stage' ≡ q.row stage
    → new.visits ≡ old.visits → min old.pool.gets last_count ≤ new.pool.gets
    → ((taken given : List PlanRow) → Stands stage pages d p taken given → Works d p taken given (closed stage') result (Stands stage' pages d p taken))
    → ((taken given : List PlanRow) → Stands stage pages d p taken given → new.pool.gets + unless_refused result (q.held stage' pages d p) ≤ old.pool.gets + q.held stage pages d p)
    → (f : Follows At Stands closed (Over' stage pointer below) pages d p t given)
    → GoesStep pages d p t given count count old new result (IsPaid At Stands closed q (Over' stage pointer below) (Over' stage' pointer' below) pages d p t given f old new result)
works_over {S} {T} At Stands closed q front late pages d p t given count old new result stage stage' pointer pointer' below same price log up work costs f = record {
  taken = t;
  follows = record {
    follows = now;
    same = same_over At Stands closed q stage stage' pointer pointer' below below price (record { heights = refl; step = refl; rows = refl });
    most =
        pays_work old.pool.gets new.pool.gets (left_of closed q (Over' stage pointer below) pages d p) (left_after closed q (Over' stage' pointer' below) pages d p result)
        (q.held stage pages d p) (unless_refused result (q.held stage' pages d p)) (paid At Stands closed q (Over' stage pointer below) pages d p t given f old.visits)
        (paid At Stands closed q (Over' stage' pointer' below) pages d p t (given_after given result) now new.visits)
        (left_worked At Stands closed q stage stage' pointer pointer' below pages d p result same) (costs f.taken given f.stands) (paid_same new.visits log);
  };
  asks = inr record { taken = refl; counts = refl; log = log; up = up };
  ends = worked_ends At Stands closed front late pages d p t below f.taken given (closed stage') f.beneath spent result w.whole w.full;
}
  where
    w : Works d p f.taken given (closed stage') result (Stands stage' pages d p f.taken)
    w = work f.taken given f.stands

    spent : closed stage' ≡ true → IsSpent d (beneath_sort (inner p)) t
    spent e = f.spent (sym same ∙ e)

    now : Follows At Stands closed (Over' stage' pointer' below) pages d p t (given_after given result)
    now = record { taken = f.taken; beneath = f.beneath; stands = w.stands; spent = spent }

    paid_same : (visits : List Visit) → visits ≡ old.visits
        → paid At Stands closed q (Over' stage' pointer' below) pages d p t (given_after given result) now visits ≡ paid At Stands closed q (Over' stage pointer below) pages d p t given f old.visits
    paid_same visits log =
        paid_over At Stands closed q stage' pointer' below pages d p t (given_after given result) now visits
        ∙ ap₂ (λ (l : List Visit) (row : PageMap → Database → Plan → PlanRow → ℕ). paid At Stands closed q below pages d (inner p) t f.taken f.beneath l + sum_by (row pages d p) f.taken) log price
        ∙ sym (paid_over At Stands closed q stage pointer below pages d p t given f old.visits)

-- nothing came from beneath yet, or a refusal
pub waits_over : {S T : Type 0} (At : S → Taking) (Stands : T → Standing) (closed : T → Bool) (q : Prices S T)
    → (pages : PageMap) (d : Database) (p : Plan) (t : Taken) (given : List PlanRow) (before now : Counts) (old new : DeskState) (result : Result Step PageFault)
    → (stage : T) (pointer pointer' : Box Unit) (below below' : Operator S T) → closed stage ≡ false
    → ((taken given : List PlanRow) → Stands stage pages d p taken given → is_lazy p ≡ true → IsDry d p taken given)
    → IsQuiet result
    → ((taken : List PlanRow) (f : Follows At Stands closed below pages d (inner p) t taken)
    → GoesStep pages d (inner p) t taken before now old new result (IsPaid At Stands closed q below below' pages d (inner p) t taken f old new result))
    → (f : Follows At Stands closed (Over' stage pointer below) pages d p t given)
    → GoesStep pages d p t given before now old new result (IsPaid At Stands closed q (Over' stage pointer below) (Over' stage pointer' below') pages d p t given f old new result)
waits_over {S} {T} At Stands closed q pages d p t given before now old new result stage pointer pointer' below below' open_ dry quiet step f = go result quiet (step f.taken f.beneath)
  where
    most : (t' : Taken) (b : Follows At Stands closed below' pages d (inner p) t' f.taken) (left left' : ℕ) → left ≤ q.held stage pages d p + left'
        → new.pool.gets + left' + paid At Stands closed q below pages d (inner p) t f.taken f.beneath old.visits
        ≤ old.pool.gets + left_of closed q below pages d (inner p) + paid At Stands closed q below' pages d (inner p) t' f.taken b new.visits
        → new.pool.gets + left + paid At Stands closed q (Over' stage pointer below) pages d p t given f old.visits
        ≤ old.pool.gets + left_of closed q (Over' stage pointer below) pages d p
        + paid At Stands closed q (Over' stage pointer' below') pages d p t' given
        (record { taken = f.taken; beneath = b; stands = f.stands; spent = λ e. absurd (true≢false (sym e ∙ open_)) }) new.visits
    most t' b left left' less pays =
        pays_none old.pool.gets new.pool.gets (left_of closed q (Over' stage pointer below) pages d p) left (q.held stage pages d p)
        (left_of closed q below pages d (inner p)) left' (paid At Stands closed q (Over' stage pointer below) pages d p t given f old.visits)
        (paid At Stands closed q (Over' stage pointer' below') pages d p t' given
        (record { taken = f.taken; beneath = b; stands = f.stands; spent = λ e. absurd (true≢false (sym e ∙ open_)) }) new.visits)
        (paid At Stands closed q below pages d (inner p) t f.taken f.beneath old.visits) (paid At Stands closed q below' pages d (inner p) t' f.taken b new.visits)
        (sum_by (q.row stage pages d p) f.taken) (left_open At Stands closed q stage pointer below pages d p open_) less
        (paid_over At Stands closed q stage pointer below pages d p t given f old.visits)
        (paid_over At Stands closed q stage pointer' below' pages d p t' given
        (record { taken = f.taken; beneath = b; stands = f.stands; spent = λ e. absurd (true≢false (sym e ∙ open_)) }) new.visits) pays

    same : HasSamePrices q below below' → HasSamePrices q (Over' stage pointer below) (Over' stage pointer' below')
    same = same_over At Stands closed q stage stage pointer pointer' below below' refl

    go : (r : Result Step PageFault) → IsQuiet r
        → GoesStep pages d (inner p) t f.taken before now old new r (IsPaid At Stands closed q below below' pages d (inner p) t f.taken f.beneath old new r)
        → GoesStep pages d p t given before now old new r (IsPaid At Stands closed q (Over' stage pointer below) (Over' stage pointer' below') pages d p t given f old new r)
    go (Ok (Row a)) still g = absurd still
    go (Ok End) still g = absurd still
    go (Ok Pass) still g = record {
      taken = g.taken;
      follows = record {
        follows = record { taken = f.taken; beneath = g.follows.follows; stands = f.stands; spent = λ e. absurd (true≢false (sym e ∙ open_)) };
        same = same g.follows.same;
        most =
            most g.taken g.follows.follows (left_of closed q (Over' stage pointer' below') pages d p) (left_of closed q below' pages d (inner p))
            (le_of_eq (left_open At Stands closed q stage pointer' below' pages d p open_)) g.follows.most;
      };
      asks = asks_up pages d p t g.taken f.taken given before now old new (Ok Pass) (Ok Pass) (dry f.taken given f.stands) (λ fault e. e) g.asks;
      ends = tt;
    }
    go (Err fault) still g = record {
      taken = g.taken;
      follows = record {
        follows = record { taken = f.taken; beneath = g.follows.follows; stands = f.stands; spent = λ e. absurd (true≢false (sym e ∙ open_)) };
        same = same g.follows.same;
        most = most g.taken g.follows.follows 0 0 (omega arith) g.follows.most;
      };
      asks = asks_up pages d p t g.taken f.taken given before now old new (Err fault) (Err fault) (dry f.taken given f.stands) (λ fault e. e) g.asks;
      ends = tt;
    }

-- the end came from beneath, and the stage finished
pub finishes_over : {S T : Type 0} (At : S → Taking) (Stands : T → Standing) (closed : T → Bool) (q : Prices S T)
    → (pages : PageMap) (d : Database) (p : Plan) (t : Taken) (given : List PlanRow) (before now : Counts) (old new : DeskState) (result : Result Step PageFault)
    → (stage stage' : T) (pointer pointer' : Box Unit) (below below' : Operator S T) → closed stage ≡ false → q.row stage' ≡ q.row stage
    → q.held stage' pages d p ≤ q.held stage pages d p → GoesOn result (closed stage' ≡ true)
    → ((taken given : List PlanRow) → Stands stage pages d p taken given → is_lazy p ≡ true → IsDry d p taken given)
    → ((given : List PlanRow) → Stands stage pages d p (beneath d p) given → Finishes d p given result (Stands stage' pages d p (beneath d p)))
    → ((taken : List PlanRow) (f : Follows At Stands closed below pages d (inner p) t taken)
    → GoesStep pages d (inner p) t taken before now old new (Ok End) (IsPaid At Stands closed q below below' pages d (inner p) t taken f old new (Ok End)))
    → (f : Follows At Stands closed (Over' stage pointer below) pages d p t given)
    → GoesStep pages d p t given before now old new result (IsPaid At Stands closed q (Over' stage pointer below) (Over' stage' pointer' below') pages d p t given f old new result)
finishes_over {S} {T} At Stands closed q pages d p t given before now old new result stage stage' pointer pointer' below below' open_ price owes shuts dry finish step f = record {
  taken = g.taken;
  follows = record {
    follows = finished;
    same = same_over At Stands closed q stage stage' pointer pointer' below below' price g.follows.same;
    most =
        pays_none old.pool.gets new.pool.gets (left_of closed q (Over' stage pointer below) pages d p) (left_after closed q (Over' stage' pointer' below') pages d p result)
        (q.held stage pages d p) (left_of closed q below pages d (inner p)) (owed_by q below' pages d (inner p))
        (paid At Stands closed q (Over' stage pointer below) pages d p t given f old.visits)
        (paid At Stands closed q (Over' stage' pointer' below') pages d p g.taken (given_after given result) finished new.visits)
        (paid At Stands closed q below pages d (inner p) t f.taken f.beneath old.visits) (paid At Stands closed q below' pages d (inner p) g.taken f.taken g.follows.follows new.visits)
        (sum_by (q.row stage pages d p) f.taken) (left_open At Stands closed q stage pointer below pages d p open_)
        (left_finished At Stands closed q stage stage' pointer' below' pages d p result owes shuts)
        (paid_over At Stands closed q stage pointer below pages d p t given f old.visits)
        (paid_over At Stands closed q stage' pointer' below' pages d p g.taken (given_after given result) finished new.visits
        ∙ ap (λ (row : PageMap → Database → Plan → PlanRow → ℕ). paid At Stands closed q below' pages d (inner p) g.taken f.taken g.follows.follows new.visits + sum_by (row pages d p) f.taken) price)
        g.follows.most;
  };
  asks = asks_up pages d p t g.taken f.taken given before now old new (Ok End) result (dry f.taken given f.stands) (λ fault e. absurd (ok-err e)) g.asks;
  ends = ended result w.whole;
}
  where
    g : GoesStep pages d (inner p) t f.taken before now old new (Ok End) (IsPaid At Stands closed q below below' pages d (inner p) t f.taken f.beneath old new (Ok End))
    g = step f.taken f.beneath

    w : Finishes d p given result (Stands stage' pages d p (beneath d p))
    w = finish given (subst (λ rows. Stands stage pages d p rows given) g.ends.all f.stands)

    finished : Follows At Stands closed (Over' stage' pointer' below') pages d p g.taken (given_after given result)
    finished = record {
      taken = f.taken;
      beneath = g.follows.follows;
      stands = subst (λ rows. Stands stage' pages d p rows (given_after given result)) (sym g.ends.all) w.stands;
      spent = λ e. g.ends.spent;
    }

    ok-err : {fault : PageFault} → Ok End ≡ Err fault → ⊥
    ok-err e = true≢false (ap is_ok e)
      where
        is_ok : Result Step PageFault → Bool
        is_ok (Ok x) = true
        is_ok (Err x) = false

    ended : (r : Result Step PageFault) → AtEnd r (given ≡ made d p (beneath d p)) → AtEnd r (IsDone d p g.taken given)
    ended (Ok (Row a)) h = tt
    ended (Ok Pass) h = tt
    ended (Ok End) h = record { all = h ∙ sym (whole_made d p); spent = spent_inner d p g.taken g.ends.spent }
    ended (Err fault) h = tt
