-- A step of a source.
use Rattle.std.proofs.Common.{◌≡◌, inl, inr, ℕ, zero, suc, ◌+◌, ◌≤◌, Bool, true, false, cond, nat_lt, true≢false, List, [], ◌∷◌, ◌++◌, length, take, sum_by, Option, Some}
use Rattle.std.proofs.Common.{None, Result, Ok, Err, refl, sym, ap, ◌∙◌, subst, le_antisymm, arith}
use Rattle.std.proofs.lemmas.Bool.{lt-ltb, le-ltb}
use Rattle.std.proofs.lemmas.List.{take_all}
use Rattle.std.proofs.lemmas.List.Sums.{sum_by-append}
use Rattle.sand_base.specs.declared.visit.Visit.{Visit}
use Rattle.page_pool.specs.Desk.{DeskState}
use Rattle.page_pool.specs.Disk.{PageMap}
use Rattle.page_pool.specs.declared.fault.PageFault.{PageFault}
use Rattle.sand_model.specs.Database.{Database, element}
use Rattle.sand_model.specs.Operators.{PlanRow}
use Rattle.statements.specs.Plan as plan
use Rattle.statements.specs.Plan.{Plan}
use Rattle.sand_model.specs.Reach.{Counts}
use Rattle.sand_model.specs.Taken.{Taken, is_full, beneath_sort}
use Rattle.plan_iterator.specs.Prices.{Heights, visit_price, Costs}
use Rattle.plan_iterator.specs.Rows.{plan_measure, row_of}
use Rattle.plan_iterator.specs.SourceSteps.{SourceStep, GivesSourceRow, taken_after, next_taken}
use Rattle.plan_iterator.specs.declared.answer.Answer.{Answer}
use Rattle.plan_iterator.specs.Following.{Taking, Follows}
use Rattle.plan_iterator.specs.Outermost.{is_source, source_rows}
use Rattle.plan_iterator.specs.Paying.{Prices, HasSamePrices, IsPaid}
use Rattle.plan_iterator.specs.Stages.{Standing}
use Rattle.plan_iterator.specs.Steps.{given_after, AtEnd, is_full_at, IsSpent, IsAsked, IsDone, GoesStep}
use Rattle.plan_iterator.specs.declared.operator.Operator.{Source}
use Rattle.plan_iterator.specs.declared.step.Step.{Step}
use Rattle.plan_iterator.specs.declared.step.Step.TheVariants.{Row, End}
use Rattle.plan_iterator.proofs.PlansBeneath.{over_source, lazy_source, beneath_lazy}
use Rattle.plan_iterator.proofs.Payments.{pays_row, pays_stop}

-- the step that a call of a source makes
abbrev pub as_step : Result (Option Answer) PageFault → Result Step PageFault
as_step (Ok (Some a)) = Ok (Row a)
as_step (Ok None) = Ok End
as_step (Err fault) = Err fault

-- no source is full
full_source : (d : Database) (p : Plan) (rows : List PlanRow) → is_source p ≡ true → is_full plan_measure d p rows ≡ false
full_source d (plan.Scan relation) rows e = refl
full_source d (plan.Rank column goal within) rows e = refl
full_source d (plan.Near column goal within) rows e = refl
full_source d (plan.Window column window) rows e = refl
full_source d (plan.PickEqual column v) rows e = refl
full_source d (plan.PickBetween column low high) rows e = refl
full_source d (plan.Join left right within) rows e = refl
full_source d (plan.Semi left right within) rows e = refl
full_source d (plan.Knn k left right within) rows e = refl
full_source d (plan.Filter p tests) rows e = absurd (true≢false (sym e))
full_source d (plan.Match p place column) rows e = absurd (true≢false (sym e))
full_source d (plan.Fetch p places) rows e = absurd (true≢false (sym e))
full_source d (plan.First count p) rows e = absurd (true≢false (sym e))
full_source d (plan.SortBy p place) rows e = absurd (true≢false (sym e))
full_source d (plan.SortNear p place goal) rows e = absurd (true≢false (sym e))

-- ---- elements

none-some : {A : Type 0} (x : A) → None ≡ Some x → ⊥
none-some {A} x e = true≢false (sym (ap is_there e))
  where
    is_there : Option A → Bool
    is_there (Some x) = true
    is_there None = false

some-same : {A : Type 0} (x y : A) → Some x ≡ Some y → x ≡ y
some-same {A} x y e = ap the_one e
  where
    the_one : Option A → A
    the_one (Some z) = z
    the_one None = x

-- a place with an element is in the list
pub element_there : {A : Type 0} (xs : List A) (n : ℕ) (x : A) → element xs n ≡ Some x → n + 1 ≤ length xs
element_there [] n x e = absurd (none-some x e)
element_there (y ∷ ys) zero x e = omega arith
element_there (y ∷ ys) (suc n) x e = let more : n + 1 ≤ length ys = element_there ys n x e in omega arith

-- the front with the element at its end is the front that is one longer
pub take_element : {A : Type 0} (xs : List A) (n : ℕ) (x : A) → element xs n ≡ Some x → take (n + 1) xs ≡ take n xs ++ x ∷ []
take_element {A} xs n x e = ap (λ k. take k xs) add-one ∙ go xs n e
  where
    add-one : n + 1 ≡ suc n
    add-one = omega arith

    go : (xs : List A) (n : ℕ) → element xs n ≡ Some x → take (suc n) xs ≡ take n xs ++ x ∷ []
    go [] n e = absurd (none-some x e)
    go (y ∷ ys) zero e = ap (λ z. z ∷ []) (some-same y x e)
    go (y ∷ ys) (suc n) e = ap (λ l. y ∷ l) (go ys n e)

-- a place without one is at the end or behind it
pub element_behind : {A : Type 0} (xs : List A) (n : ℕ) → element xs n ≡ None → length xs ≤ n
element_behind [] n e = omega arith
element_behind (y ∷ ys) zero e = absurd (none-some y (sym e))
element_behind (y ∷ ys) (suc n) e = let more : length ys ≤ n = element_behind ys n e in omega arith

-- ---- what is taken next

pub next_row : (d : Database) (p : Plan) (t : Taken) → t.rows + 1 ≤ length (source_rows d p) → next_taken d p t ≡ record { rows = t.rows + 1; is_ended = false }
next_row d p t h = ap (λ b. cond b (record { rows = t.rows + 1; is_ended = false }) (record { rows = t.rows; is_ended = true })) (lt-ltb t.rows (length (source_rows d p)) (omega arith))

pub next_end : (d : Database) (p : Plan) (t : Taken) → length (source_rows d p) ≤ t.rows → next_taken d p t ≡ record { rows = t.rows; is_ended = true }
next_end d p t h = ap (λ b. cond b (record { rows = t.rows + 1; is_ended = false }) (record { rows = t.rows; is_ended = true })) (is_not t.rows (length (source_rows d p)) h)
  where
    is_not : (m n : ℕ) → n ≤ m → nat_lt m n ≡ false
    is_not m n h = le-ltb m n h

-- ---- the step

pub source_goes : {S T : Type 0} (At : S → Taking) (Stands : T → Standing) (closed : T → Bool) (q : Prices S T) (s s' : S) (pages : PageMap) (d : Database) (p : Plan)
    (t : Taken) (given : List PlanRow)
    → (before now : Counts) (old new : DeskState) (answer : Result (Option Answer) PageFault) → q.heights s' ≡ q.heights s → q.step s' ≡ q.step s
    → SourceStep pages d p t before now old new answer (At s' pages d p) → Costs (q.heights s) (q.step s) (q.entries s pages) (q.entries s' pages) d p old new answer
    → (f : Follows At Stands closed (Source s) pages d p t given)
    → GoesStep pages d p t given before now old new (as_step answer) (IsPaid At Stands closed q (Source s) (Source s') pages d p t given f old new (as_step answer))
source_goes {S} {T} At Stands closed q s s' pages d p t given before now old new answer heights step st costs f = record {
  taken = taken_after d p t answer;
  follows = followed answer st.row st.at costs;
  asks = inl record { answer = answer; asked = asked; taken = refl; visits = st.visits; refused = λ fault e. ap as_step e };
  ends = ended answer st.row;
}
  where
    all : List PlanRow
    all = source_rows d p

    asked : IsAsked d p t given
    asked = record {
      open_ = subst (λ q. is_full_at d q t.rows ≡ false) (sym (beneath_lazy p (lazy_source p f.plain))) (full_source d p (take t.rows all) f.plain);
      dry = λ e. over_source d p (take t.rows all) f.plain ∙ sym f.rows;
    }

    -- the price of visits, as the source has it before the call
    worth : List Visit → ℕ
    worth = sum_by (visit_price (q.heights s) d p)

    alike : sum_by (visit_price (q.heights s') d p) new.visits ≡ worth new.visits
    alike = ap (λ (h : Heights). sum_by (visit_price h d p) new.visits) heights

    same : HasSamePrices q (Source s) (Source s')
    same = record { heights = heights; step = step; rows = refl }

    logged : (noted : List Visit) → new.visits ≡ old.visits ++ noted → worth new.visits ≡ worth old.visits + worth noted
    logged noted log = ap worth log ∙ sum_by-append (visit_price (q.heights s) d p) old.visits noted

    followed : (answer : Result (Option Answer) PageFault) → GivesSourceRow d p t answer → At s' pages d p (taken_after d p t answer)
        → Costs (q.heights s) (q.step s) (q.entries s pages) (q.entries s' pages) d p old new answer
        → IsPaid At Stands closed q (Source s) (Source s') pages d p t given f old new (as_step answer) (taken_after d p t answer) (given_after given (as_step answer))
    followed (Ok (Some a)) row at costs =
        let there : t.rows + 1 ≤ length all = element_there all t.rows (row_of a) row in record {
          follows = record {
            plain = f.plain;
            stands = at;
            few = subst (λ u. u.rows ≤ length all) (sym (next_row d p t there)) there;
            rows = subst (λ u. given ++ row_of a ∷ [] ≡ take u.rows all) (sym (next_row d p t there)) (ap (λ l. l ++ row_of a ∷ []) f.rows ∙ sym (take_element all t.rows (row_of a) row));
          };
          same = same;
          most =
              pays_row old.pool.gets new.pool.gets (q.entries s pages) (q.entries s' pages) (q.step s) (q.step s') (worth old.visits) (worth costs.noted) (worth new.visits)
              (sum_by (visit_price (q.heights s') d p) new.visits) t.rows (next_taken d p t).rows step alike (logged costs.noted costs.log)
              (ap (λ (u : Taken). u.rows) (next_row d p t there)) costs.most;
        }
    followed (Ok None) row at costs =
        let behind : length all ≤ t.rows = element_behind all t.rows row in record {
          follows = record {
            plain = f.plain;
            stands = at;
            few = subst (λ u. u.rows ≤ length all) (sym (next_end d p t behind)) f.few;
            rows = subst (λ u. given ≡ take u.rows all) (sym (next_end d p t behind)) f.rows;
          };
          same = same;
          most =
              pays_stop old.pool.gets new.pool.gets (q.entries s pages) (q.entries s' pages) (q.step s) (q.step s') (worth old.visits) (worth costs.noted) (worth new.visits)
              (sum_by (visit_price (q.heights s') d p) new.visits) t.rows (next_taken d p t).rows step alike (logged costs.noted costs.log)
              (ap (λ (u : Taken). u.rows) (next_end d p t behind)) costs.most;
        }
    followed (Err fault) row at costs = record {
      follows = record { plain = f.plain; stands = at; few = f.few; rows = f.rows };
      same = same;
      most =
          pays_stop old.pool.gets new.pool.gets (q.entries s pages) 0 (q.step s) (q.step s') (worth old.visits) (worth costs.noted) (worth new.visits)
          (sum_by (visit_price (q.heights s') d p) new.visits) t.rows t.rows step alike (logged costs.noted costs.log) refl costs.most;
    }

    ended : (answer : Result (Option Answer) PageFault) → GivesSourceRow d p t answer → AtEnd (as_step answer) (IsDone d p (taken_after d p t answer) given)
    ended (Ok (Some a)) row = tt
    ended (Ok None) row =
        let behind : length all ≤ t.rows = element_behind all t.rows row in record {
          all = f.rows ∙ take_all t.rows all behind ∙ sym (over_source d p all f.plain);
          spent = subst (λ u. IsSpent d (beneath_sort p) u) (sym (next_end d p t behind))
              (subst (λ q. IsSpent d q (record { rows = t.rows; is_ended = true })) (sym (beneath_lazy p (lazy_source p f.plain))) (inr (refl, le_antisymm f.few behind)));
        }
    ended (Err fault) row = tt
