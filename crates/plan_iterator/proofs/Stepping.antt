-- A step of an operator, from the step of the stage or of the operator beneath.
use Rattle.std.proofs.Common.{◌≡◌, ◌≢◌, inl, inr, ℕ, ◌<◌, ◌+◌, ◌≤◌, min, Bool, true, false, true≢false, List, [], ◌∷◌, ◌++◌}
use Rattle.std.proofs.Common.{sum_by, Option, Result, Ok, Err, sym, ap, ◌∙◌, arith}
use Rattle.std.specs.Global.{Box}
use Rattle.std.proofs.lemmas.List.Sums.{sum_by_push}
use Rattle.sand_base.specs.Faults.{last_count}
use Rattle.sand_base.specs.declared.visit.Visit.{Visit}
use Rattle.page_pool.specs.Desk.{DeskState}
use Rattle.page_pool.specs.Disk.{PageMap}
use Rattle.page_pool.specs.declared.fault.PageFault.{PageFault}
use Rattle.sand_model.specs.Database.{Database}
use Rattle.sand_model.specs.Operators.{PlanRow}
use Rattle.statements.specs.Plan.{Plan}
use Rattle.sand_model.specs.Reach.{Counts}
use Rattle.sand_model.specs.Taken.{Taken, is_lazy}
use Rattle.plan_iterator.specs.Prices.{unless_refused}
use Rattle.plan_iterator.specs.Rows.{row_of}
use Rattle.plan_iterator.specs.SourceSteps.{MakesVisits}
use Rattle.plan_iterator.specs.declared.answer.Answer.{Answer}
use Rattle.plan_iterator.specs.Following.{Taking, Follows}
use Rattle.plan_iterator.specs.Outermost.{inner, beneath}
use Rattle.plan_iterator.specs.Paying.{Prices, left_of, left_after, paid, IsPaid}
use Rattle.plan_iterator.specs.Stages.{Standing, GivesFront, OpensLate, Works, IsDry}
use Rattle.plan_iterator.specs.Steps.{given_after, AsksOnce, GoesStep, Lowers}
use Rattle.plan_iterator.specs.declared.operator.Operator.{Operator, Over'}
use Rattle.plan_iterator.specs.declared.step.Step.{Step}
use Rattle.plan_iterator.specs.declared.step.Step.TheVariants.{Row, Pass, End}
use Rattle.plan_iterator.proofs.Fronts.{settled}
use Rattle.plan_iterator.proofs.Payments.{paid_over, left_open, same_over, left_taken, pays_take, up_both}
use Rattle.plan_iterator.proofs.LevelsUp.{asks_up}
use Rattle.plan_iterator.proofs.StepsOver.{worked_ends}

-- ---- a row from beneath, and the work on it

-- a number that a pass lowered
pub lowers_both : (a b c : ℕ) (result : Result Step PageFault) → b < a → Lowers b c result → Lowers a c result
lowers_both a b c (Ok (Row x)) first second = omega (arith, first, second)
lowers_both a b c (Ok Pass) first second = omega (arith, first, second)
lowers_both a b c (Ok End) first second = omega (arith, first, second)
lowers_both a b c (Err fault) first second = omega (arith, first, second)

-- the visits of a call of the source, where no more were noted after it
visits_later : (pages : PageMap) (d : Database) (p : Plan) (t : Taken) (before now : Counts) (old mid new : DeskState) (answer : Result (Option Answer) PageFault)
    → new.visits ≡ mid.visits → min mid.pool.gets last_count ≤ new.pool.gets → MakesVisits pages d p t before now old mid answer → MakesVisits pages d p t before now old new answer
visits_later pages d p t before now old mid new answer log up m = record {
  completed = m.completed;
  attempted = m.attempted;
  log = log ∙ m.log;
  few = m.few;
  settled = m.settled;
  counted = m.counted;
  near = m.near;
  between = m.between;
  exact = m.exact;
  rose = up_both _ mid.pool.gets new.pool.gets last_count m.rose up;
}

-- the source was asked by the pass, or is as it was
asks_later : (pages : PageMap) (d : Database) (p : Plan) (t after : Taken) (given : List PlanRow) (before now : Counts) (old mid new : DeskState) (result : Result Step PageFault)
    → new.visits ≡ mid.visits → min mid.pool.gets last_count ≤ new.pool.gets
    → AsksOnce pages d p t after given before now old mid (Ok Pass) → AsksOnce pages d p t after given before now old new result
asks_later pages d p t after given before now old mid new result log up (inl a) = inl record {
  answer = a.answer;
  asked = a.asked;
  taken = a.taken;
  visits = visits_later pages d p t before now old mid new a.answer log up a.visits;
  refused = λ fault e. absurd (pass-err (a.refused fault e));
}
  where
    pass-err : {fault : PageFault} → Ok Pass ≡ Err fault → ⊥
    pass-err e = true≢false (ap is_ok e)
      where
        is_ok : Result Step PageFault → Bool
        is_ok (Ok x) = true
        is_ok (Err x) = false
asks_later pages d p t after given before now old mid new result log up (inr r) =
    inr record { taken = r.taken; counts = r.counts; log = log ∙ r.log; up = up_both old.pool.gets mid.pool.gets new.pool.gets last_count r.up up }

-- a row came from beneath, and the stage took it and worked on it
pub takes_over : {S T : Type 0} (At : S → Taking) (Stands : T → Standing) (closed : T → Bool) (q : Prices S T) → GivesFront Stands → OpensLate Stands closed
    → (pages : PageMap) (d : Database) (p : Plan) (t : Taken) (given : List PlanRow) (before now : Counts) (old mid new : DeskState) (result : Result Step PageFault) (a : Answer)
    → (stage stage' : T) (pointer pointer' : Box Unit) (below below' : Operator S T) → closed stage ≡ false → closed stage' ≡ closed stage → q.row stage' ≡ q.row stage
    → new.visits ≡ mid.visits → min mid.pool.gets last_count ≤ new.pool.gets
    → ((taken given : List PlanRow) → Stands stage pages d p taken given → is_lazy p ≡ true → IsDry d p taken given)
    → ((taken given : List PlanRow) → Stands stage pages d p taken given
    → Works d p (taken ++ row_of a ∷ []) given (closed stage') result (Stands stage' pages d p (taken ++ row_of a ∷ [])))
    → ((taken given : List PlanRow) → Stands stage pages d p taken given → new.pool.gets + unless_refused result (q.held stage' pages d p) ≤ mid.pool.gets + q.row stage pages d p (row_of a))
    → ((taken : List PlanRow) (f : Follows At Stands closed below pages d (inner p) t taken)
    → GoesStep pages d (inner p) t taken before now old mid (Ok (Row a)) (IsPaid At Stands closed q below below' pages d (inner p) t taken f old mid (Ok (Row a))))
    → (f : Follows At Stands closed (Over' stage pointer below) pages d p t given)
    → GoesStep pages d p t given before now old new result (IsPaid At Stands closed q (Over' stage pointer below) (Over' stage' pointer' below') pages d p t given f old new result)
takes_over {S} {T} At Stands closed q front late pages d p t given before now old mid new result a stage stage' pointer pointer' below below' was_open same price log up dry work costs step f =
    record {
      taken = g.taken;
      follows = record {
        follows = now_taken;
        same = same_over At Stands closed q stage stage' pointer pointer' below below' price g.follows.same;
        most =
            pays_take old.pool.gets mid.pool.gets new.pool.gets (left_of closed q (Over' stage pointer below) pages d p) (left_after closed q (Over' stage' pointer' below') pages d p result)
            (q.held stage pages d p) (unless_refused result (q.held stage' pages d p)) (left_of closed q below pages d (inner p)) (left_of closed q below' pages d (inner p))
            (paid At Stands closed q (Over' stage pointer below) pages d p t given f old.visits)
            (paid At Stands closed q (Over' stage' pointer' below') pages d p g.taken (given_after given result) now_taken new.visits)
            (paid At Stands closed q below pages d (inner p) t f.taken f.beneath old.visits)
            (paid At Stands closed q below' pages d (inner p) g.taken (f.taken ++ row_of a ∷ []) g.follows.follows mid.visits)
            (sum_by (q.row stage pages d p) f.taken) (sum_by (q.row stage' pages d p) (f.taken ++ row_of a ∷ [])) (q.row stage pages d p (row_of a))
            (left_open At Stands closed q stage pointer below pages d p was_open) (left_taken At Stands closed q stage' pointer' below' pages d p result open_)
            (paid_over At Stands closed q stage pointer below pages d p t given f old.visits) (paid_later new.visits log)
            (ap (λ (row : PageMap → Database → Plan → PlanRow → ℕ). sum_by (row pages d p) (f.taken ++ row_of a ∷ [])) price ∙ sum_by_push (q.row stage pages d p) f.taken (row_of a))
            (costs f.taken given f.stands) g.follows.most;
      };
      asks =
          asks_later pages d p t g.taken given before now old mid new result log up
          (asks_up pages d p t g.taken f.taken given before now old mid (Ok (Row a)) (Ok Pass) (dry f.taken given f.stands) (λ fault e. absurd (ok-err e)) g.asks);
      ends =
          worked_ends At Stands closed front late pages d p g.taken below' (f.taken ++ row_of a ∷ []) given (closed stage') g.follows.follows (λ e. absurd (true≢false (sym e ∙ open_)))
          result w.whole w.full;
    }
  where
    open_ : closed stage' ≡ false
    open_ = same ∙ was_open

    g : GoesStep pages d (inner p) t f.taken before now old mid (Ok (Row a)) (IsPaid At Stands closed q below below' pages d (inner p) t f.taken f.beneath old mid (Ok (Row a)))
    g = step f.taken f.beneath

    w : Works d p (f.taken ++ row_of a ∷ []) given (closed stage') result (Stands stage' pages d p (f.taken ++ row_of a ∷ []))
    w = work f.taken given f.stands

    now_taken : Follows At Stands closed (Over' stage' pointer' below') pages d p g.taken (given_after given result)
    now_taken = record {
      taken = f.taken ++ row_of a ∷ [];
      beneath = g.follows.follows;
      stands = w.stands;
      spent = λ e. absurd (true≢false (sym e ∙ open_));
    }

    paid_later : (visits : List Visit) → visits ≡ mid.visits
        → paid At Stands closed q (Over' stage' pointer' below') pages d p g.taken (given_after given result) now_taken visits
        ≡ paid At Stands closed q below' pages d (inner p) g.taken (f.taken ++ row_of a ∷ []) g.follows.follows mid.visits + sum_by (q.row stage' pages d p) (f.taken ++ row_of a ∷ [])
    paid_later visits log =
        paid_over At Stands closed q stage' pointer' below' pages d p g.taken (given_after given result) now_taken visits
        ∙ ap (λ (l : List Visit). paid At Stands closed q below' pages d (inner p) g.taken (f.taken ++ row_of a ∷ []) g.follows.follows l + sum_by
        (q.row stage' pages d p) (f.taken ++ row_of a ∷ [])) log

    ok-err : {fault : PageFault} → Ok (Row a) ≡ Err fault → ⊥
    ok-err e = true≢false (ap is_ok e)
      where
        is_ok : Result Step PageFault → Bool
        is_ok (Ok x) = true
        is_ok (Err x) = false
