-- What a step of an operator pays, from what the step beneath and the stage pay.
use Rattle.std.proofs.Common.{◌≡◌, ℕ, ◌+◌, ◌*◌, ◌≤◌, min, Bool, true, false, cond, ◌||◌, List, ◌∷◌, sum_by, Result, Ok, Err, refl, sym, ap, ap₂, ◌∙◌, le_of_eq, arith}
use Rattle.std.specs.Global.{Box}
use Rattle.sand_base.specs.declared.visit.Visit.{Visit}
use Rattle.page_pool.specs.Disk.{PageMap}
use Rattle.page_pool.specs.declared.fault.PageFault.{PageFault}
use Rattle.sand_model.specs.Database.{Database}
use Rattle.sand_model.specs.Operators.{PlanRow}
use Rattle.statements.specs.Plan as plan
use Rattle.statements.specs.Plan.{Plan}
use Rattle.sand_model.specs.Reach.{innermost}
use Rattle.sand_model.specs.Taken.{Taken}
use Rattle.plan_iterator.specs.Prices.{Heights, source_visit_price, visit_price, unless_refused}
use Rattle.plan_iterator.specs.Following.{Taking, Follows, source_of}
use Rattle.plan_iterator.specs.Outermost.{inner}
use Rattle.plan_iterator.specs.Paying.{Prices, is_shut, owed_by, left_of, left_after, paid, HasSamePrices}
use Rattle.plan_iterator.specs.Stages.{Standing}
use Rattle.plan_iterator.specs.Steps.{GoesOn}
use Rattle.plan_iterator.specs.declared.operator.Operator.{Operator, Over'}
use Rattle.plan_iterator.specs.declared.step.Step.{Step}
use Rattle.plan_iterator.specs.declared.step.Step.TheVariants.{Row, Pass, End}

-- the pointer alone of a box
abbrev pub pointer_of : {X : Type 0} → Box X → Box Unit
pointer_of b = record { value = tt; ptr = b.ptr; alloc = b.alloc }

-- ---- one level up

-- the source at the innermost place is that of the plan beneath
innermost_inner : (p : Plan) → innermost (inner p) ≡ innermost p
innermost_inner (plan.Scan relation) = refl
innermost_inner (plan.Rank column goal within) = refl
innermost_inner (plan.Near column goal within) = refl
innermost_inner (plan.Window column window) = refl
innermost_inner (plan.PickEqual column v) = refl
innermost_inner (plan.PickBetween column low high) = refl
innermost_inner (plan.Join left right within) = refl
innermost_inner (plan.Semi left right within) = refl
innermost_inner (plan.Knn k left right within) = refl
innermost_inner (plan.Filter p tests) = refl
innermost_inner (plan.Match p place column) = refl
innermost_inner (plan.Fetch p places) = refl
innermost_inner (plan.First count p) = refl
innermost_inner (plan.SortBy p place) = refl
innermost_inner (plan.SortNear p place goal) = refl

-- visits cost the same above and beneath
visits_inner : (h : Heights) (d : Database) (p : Plan) (visits : List Visit) → sum_by (visit_price h d p) visits ≡ sum_by (visit_price h d (inner p)) visits
visits_inner h d p visits = ap (λ (source : Plan). sum_by (source_visit_price h d source) visits) (sym (innermost_inner p))

regroup : (v w s r h : ℕ) → v ≡ w → v + s + (r + h) ≡ w + s + h + r
regroup v w s r h e = omega (arith, e)

apart : (h o c : ℕ) → h + o + c ≡ h + (o + c)
apart h o c = omega arith

module _ {S T : Type 0} (At : S → Taking) (Stands : T → Standing) (closed : T → Bool) (q : Prices S T) where
  -- what was paid for is what was beneath, and the rows that the stage handled
  pub paid_over : (stage : T) (pointer : Box Unit) (below : Operator S T) (pages : PageMap) (d : Database) (p : Plan) (t : Taken) (given : List PlanRow)
      → (f : Follows At Stands closed (Over' stage pointer below) pages d p t given) (visits : List Visit)
      → paid At Stands closed q (Over' stage pointer below) pages d p t given f visits
      ≡ paid At Stands closed q below pages d (inner p) t f.taken f.beneath visits + sum_by (q.row stage pages d p) f.taken
  paid_over stage pointer below pages d p t given f visits = regroup _ _ _ _ _ (visits_inner (q.heights (source_of below)) d p visits)

  -- an open stage leaves the source to be asked as it is beneath
  pub left_open : (stage : T) (pointer : Box Unit) (below : Operator S T) (pages : PageMap) (d : Database) (p : Plan) → closed stage ≡ false
      → left_of closed q (Over' stage pointer below) pages d p ≡ q.held stage pages d p + left_of closed q below pages d (inner p)
  left_open stage pointer below pages d p e =
      ap (λ b. q.held stage pages d p + owed_by q below pages d (inner p) + cond (b || is_shut closed below) 0 (q.step (source_of below))) e ∙ apart _ _ _

  -- over a closed one the source is asked no more
  pub left_shut : (stage : T) (pointer : Box Unit) (below : Operator S T) (pages : PageMap) (d : Database) (p : Plan) → closed stage ≡ true
      → left_of closed q (Over' stage pointer below) pages d p ≡ q.held stage pages d p + owed_by q below pages d (inner p)
  left_shut stage pointer below pages d p e =
      ap (λ b. q.held stage pages d p + owed_by q below pages d (inner p) + cond (b || is_shut closed below) 0 (q.step (source_of below))) e
      ∙ no_more (q.held stage pages d p + owed_by q below pages d (inner p))
    where
      no_more : (n : ℕ) → n + 0 ≡ n
      no_more n = omega arith

  -- the prices stay
  pub same_over : (stage stage' : T) (pointer pointer' : Box Unit) (below below' : Operator S T) → q.row stage' ≡ q.row stage → HasSamePrices q below below'
      → HasSamePrices q (Over' stage pointer below) (Over' stage' pointer' below')
  same_over stage stage' pointer pointer' below below' price same = record {
    heights = same.heights;
    step = same.step;
    rows = ap₂ (λ a b. a ∷ b) price same.rows;
  }

  -- ---- what is left after a step

  -- after the stage worked
  pub left_worked : (stage stage' : T) (pointer pointer' : Box Unit) (below : Operator S T) (pages : PageMap) (d : Database) (p : Plan) (result : Result Step PageFault)
      → closed stage' ≡ closed stage
      → left_after closed q (Over' stage' pointer' below) pages d p result + q.held stage pages d p
      ≤ unless_refused result (q.held stage' pages d p) + left_of closed q (Over' stage pointer below) pages d p
  left_worked stage stage' pointer pointer' below pages d p result same = go result
    where
      asked : T → ℕ
      asked s = cond (closed s || is_shut closed below) 0 (q.step (source_of below))

      alike : asked stage' ≡ asked stage
      alike = ap (λ b. cond (b || is_shut closed below) 0 (q.step (source_of below))) same

      goes_on : (new old owed after before : ℕ) → after ≡ before → new + owed + after + old ≤ new + (old + owed + before)
      goes_on new old owed after before e = omega (arith, e)

      ends : (new old owed before : ℕ) → new + owed + old ≤ new + (old + owed + before)
      ends new old owed before = omega arith

      fails : (old owed before : ℕ) → 0 + old ≤ 0 + (old + owed + before)
      fails old owed before = omega arith

      go : (result : Result Step PageFault) → left_after closed q (Over' stage' pointer' below) pages d p result + q.held stage pages d p
          ≤ unless_refused result (q.held stage' pages d p) + left_of closed q (Over' stage pointer below) pages d p
      go (Ok (Row a)) = goes_on (q.held stage' pages d p) (q.held stage pages d p) (owed_by q below pages d (inner p)) (asked stage') (asked stage) alike
      go (Ok Pass) = goes_on (q.held stage' pages d p) (q.held stage pages d p) (owed_by q below pages d (inner p)) (asked stage') (asked stage) alike
      go (Ok End) = ends (q.held stage' pages d p) (q.held stage pages d p) (owed_by q below pages d (inner p)) (asked stage)
      go (Err fault) = fails (q.held stage pages d p) (owed_by q below pages d (inner p)) (asked stage)

  -- after an open stage worked on a row from beneath
  pub left_taken : (stage' : T) (pointer' : Box Unit) (below' : Operator S T) (pages : PageMap) (d : Database) (p : Plan) (result : Result Step PageFault) → closed stage' ≡ false
      → left_after closed q (Over' stage' pointer' below') pages d p result ≤ unless_refused result (q.held stage' pages d p) + left_of closed q below' pages d (inner p)
  left_taken stage' pointer' below' pages d p (Ok (Row a)) open_ = le_of_eq (left_open stage' pointer' below' pages d p open_)
  left_taken stage' pointer' below' pages d p (Ok Pass) open_ = le_of_eq (left_open stage' pointer' below' pages d p open_)
  left_taken stage' pointer' below' pages d p (Ok End) open_ =
      ends (q.held stage' pages d p) (owed_by q below' pages d (inner p)) (cond (is_shut closed below') 0 (q.step (source_of below')))
    where
      ends : (held owed step : ℕ) → held + owed ≤ held + (owed + step)
      ends held owed step = omega arith
  left_taken stage' pointer' below' pages d p (Err fault) open_ = omega arith

  -- after the end beneath, which the stage took
  pub left_finished : (stage stage' : T) (pointer' : Box Unit) (below' : Operator S T) (pages : PageMap) (d : Database) (p : Plan) (result : Result Step PageFault)
      → q.held stage' pages d p ≤ q.held stage pages d p → GoesOn result (closed stage' ≡ true)
      → left_after closed q (Over' stage' pointer' below') pages d p result ≤ q.held stage pages d p + owed_by q below' pages d (inner p)
  left_finished stage stage' pointer' below' pages d p (Ok (Row a)) owes shuts = no_more _ _ _ _ (left_shut stage' pointer' below' pages d p shuts) owes
    where
      no_more : (left new old owed : ℕ) → left ≡ new + owed → new ≤ old → left ≤ old + owed
      no_more left new old owed e owes = omega (arith, e, owes)
  left_finished stage stage' pointer' below' pages d p (Ok Pass) owes shuts = no_more _ _ _ _ (left_shut stage' pointer' below' pages d p shuts) owes
    where
      no_more : (left new old owed : ℕ) → left ≡ new + owed → new ≤ old → left ≤ old + owed
      no_more left new old owed e owes = omega (arith, e, owes)
  left_finished stage stage' pointer' below' pages d p (Ok End) owes shuts = ends (q.held stage' pages d p) (q.held stage pages d p) (owed_by q below' pages d (inner p)) owes
    where
      ends : (new old owed : ℕ) → new ≤ old → new + owed ≤ old + owed
      ends new old owed owes = omega (arith, owes)
  left_finished stage stage' pointer' below' pages d p (Err fault) owes shuts = omega arith

-- ---- payments, as numbers

-- the stage worked: what was paid for is as before
pub pays_work : (gets gets' left left' held unless paid paid' : ℕ) → left' + held ≤ unless + left → gets' + unless ≤ gets + held → paid' ≡ paid
    → gets' + left' + paid ≤ gets + left + paid'
pays_work gets gets' left left' held unless paid paid' rest costs same = omega (arith, rest, costs, same)

-- the stage took a row from beneath and worked on it, whose price is paid for
pub pays_take : (gets mid gets' left left' held unless beneath beneath' paid paid' below below' rows rows' price : ℕ) → left ≡ held + beneath → left' ≤ unless + beneath'
    → paid ≡ below + rows → paid' ≡ below' + rows' → rows' ≡ rows + price → gets' + unless ≤ mid + price → mid + beneath' + below ≤ gets + beneath + below' → gets' + left' + paid ≤ gets + left + paid'
pays_take gets mid gets' left left' held unless beneath beneath' paid paid' below below' rows rows' price l l' p p' r costs most = omega (arith, l, l', p, p', r, costs, most)

-- the stage took no row
pub pays_none : (gets gets' left left' held beneath beneath' paid paid' below below' rows : ℕ) → left ≡ held + beneath → left' ≤ held + beneath'
    → paid ≡ below + rows → paid' ≡ below' + rows → gets' + beneath' + below ≤ gets + beneath + below' → gets' + left' + paid ≤ gets + left + paid'
pays_none gets gets' left left' held beneath beneath' paid paid' below below' rows l l' p p' most = omega (arith, l, l', p, p', most)

-- a source gave a row, whose step is paid for
pub pays_row : (gets gets' owed owed' step step' old noted all all' n n' : ℕ) → step' ≡ step → all' ≡ all → all ≡ old + noted → n' ≡ n + 1 → gets' + owed' ≤ gets + owed + step + noted
    → gets' + (owed' + step') + (old + step * n + 0) ≤ gets + (owed + step) + (all' + step' * n' + 0)
pays_row gets gets' owed owed' step step' old noted all all' n n' s a e m most =
    let steps : step' * n' ≡ step * (n + 1) = ap₂ (λ x y. x * y) s m in omega (arith, s, a, e, steps, most)

-- a source is at its end, or refused
pub pays_stop : (gets gets' owed left step step' old noted all all' n n' : ℕ) → step' ≡ step → all' ≡ all → all ≡ old + noted → n' ≡ n → gets' + left ≤ gets + owed + step + noted
    → gets' + left + (old + step * n + 0) ≤ gets + (owed + step) + (all' + step' * n' + 0)
pays_stop gets gets' owed left step step' old noted all all' n n' s a e m most =
    let steps : step' * n' ≡ step * n = ap₂ (λ x y. x * y) s m in omega (arith, s, a, e, steps, most)

-- a number that doesn't fall, and doesn't fall again, below a bound
pub up_both : (a b c most : ℕ) → min a most ≤ b → min b most ≤ c → min a most ≤ c
up_both a b c most first second = omega (arith, first, second)
