-- Steps of an operator, one after another, make one step of the cursor of the model.
use Rattle.std.proofs.Common.{◌≡◌, inl, inr, ◌+◌, ◌≤◌, Bool, true, false, List, [], ◌∷◌, ◌++◌, length, take, Some, None, Result, Ok, Err, refl, sym, ap}
use Rattle.std.proofs.Common.{◌∙◌, subst, le_of_eq, arith, length-append, append_assoc}
use Rattle.std.specs.Prelude.{All}
use Rattle.page_pool.specs.Desk.{DeskState}
use Rattle.page_pool.specs.Disk.{PageMap}
use Rattle.page_pool.specs.declared.fault.PageFault.{PageFault}
use Rattle.sand_base.specs.declared.refusal.Refusal.TheVariants as why
use Rattle.sand_model.specs.Answer.{source, answer}
use Rattle.sand_model.specs.Cursor.{Cursor, AreBetween, OutputLine, step_of, IsRefusedStep}
use Rattle.sand_model.specs.Database.{element}
use Rattle.sand_model.specs.Operators.{PlanRow, over}
use Rattle.sand_model.specs.Reach.{Counts, reach}
use Rattle.sand_model.specs.Taken.{Taken, is_lazy}
use Rattle.plan_iterator.specs.Rows.{plan_measure, row_of}
use Rattle.plan_iterator.specs.Visited.{LiesWithin}
use Rattle.plan_iterator.specs.declared.answer.Answer.{Answer}
use Rattle.plan_iterator.proofs.CursorSteps.{HasRow, gives_row, gives_end, gives_none}
use Rattle.plan_iterator.proofs.ModelSteps as model
use Rattle.plan_iterator.proofs.ModelSteps.{element_past, element_next}
use Rattle.plan_iterator.proofs.SortedPlans.{lazy_given}
use Rattle.plan_iterator.proofs.StepCalls.{VisitsWithin, within_ok, within_chain, counted_given}
use Rattle.plan_iterator.proofs.NextNeeds.{needed_given, row_taken}
use Rattle.plan_iterator.specs.Following.{Taking, Follows, source_of}
use Rattle.plan_iterator.specs.Paying.{Prices, left_after, paid, HasSamePrices, IsPaid}
use Rattle.plan_iterator.specs.Stages.{Standing, GivesFront, OpensLate}
use Rattle.plan_iterator.specs.Steps.{given_after, GoesStep}
use Rattle.plan_iterator.specs.declared.operator.Operator.{Operator}
use Rattle.plan_iterator.specs.declared.step.Step.{Step}
use Rattle.plan_iterator.specs.declared.step.Step.TheVariants.{Row, Pass, End}
use Rattle.plan_iterator.proofs.Fronts.{begins_whole, begins_taken, settled}
use Rattle.plan_iterator.proofs.Levels.{begins_length}
use Rattle.plan_iterator.specs.CursorStep.{step_reach, row_reach, CursorStep}
use Rattle.plan_iterator.specs.PaidCalls.{left_at, left_behind, paid_so_far, Pays, KeepsPaid}
use Rattle.plan_iterator.specs.Standing.{KeepsRows}
use Rattle.plan_iterator.proofs.AskedOnce.{IsKept, kept}
use Rattle.plan_iterator.proofs.Chained.{same_both, most_both}
use Rattle.plan_iterator.proofs.RowGaps.{row_reached}
use Rattle.plan_iterator.proofs.StepsTaken.{taken_same, up_to_itself, spent_same}

module _ {S T : Type 0} (At : S → Taking) (Stands : T → Standing) (closed : T → Bool) (q : Prices S T) (seen : S → Counts) (pages : PageMap) where
  -- an operator that keeps to the cursor of the model, but for the counts
  abbrev pub KeepsCounts : Operator S T → Cursor → Type 0
  KeepsCounts o c = KeepsRows At Stands closed seen o pages (record c { counts = seen (source_of o) })

  -- Some steps of a call were made, and are paid, and the cursor hasn't got its row yet.
  pub record Passed (c : Cursor) (first : Operator S T) (k : KeepsRows At Stands closed seen first pages c) (o : Operator S T) (old new : DeskState) : Type 0 where
    pub keeps : KeepsCounts o c
    pub pays : Pays At Stands closed q seen first o pages c (record c { counts = seen (source_of o) }) k keeps old new (left_at closed q o pages c)
    pub visits : VisitsWithin {T = Unit} pages c.database c.plan (model.step_taken plan_measure c.database c.plan c.given) c.counts (seen (source_of o)) old new (Ok tt)

  module _ (c : Cursor) (first : Operator S T) (k : KeepsRows At Stands closed seen first pages c) (o o' : Operator S T) (old mid new : DeskState)
      (result : Result Step PageFault) (passed : Passed c first k o old mid)
      (goes : GoesStep pages c.database c.plan passed.keeps.taken passed.keeps.rows (seen (source_of o)) (seen (source_of o')) mid new result
      (IsPaid At Stands closed q o o' pages c.database c.plan passed.keeps.taken passed.keeps.rows passed.keeps.follows mid new result)) where
    -- what the step did to the source
    after : IsKept pages c.database c.plan c.given goes.taken (seen (source_of o)) (seen (source_of o')) mid new result
    after =
        kept pages c.database c.plan passed.keeps.rows c.given passed.keeps.given passed.keeps.taken (seen (source_of o)) (seen (source_of o')) mid new passed.keeps.needed passed.keeps.counted
        goes.taken result goes.asks

    -- and all steps so far
    abbrev so_far : VisitsWithin pages c.database c.plan (model.step_taken plan_measure c.database c.plan c.given) c.counts (seen (source_of o')) old new result
    so_far =
        within_chain pages c.database c.plan (model.step_taken plan_measure c.database c.plan c.given) c.counts (seen (source_of o)) (seen (source_of o')) old mid new result passed.visits after.visits

    -- the operator keeps to the cursor where it gave no row
    abbrev stays : Follows At Stands closed o' pages c.database c.plan goes.taken passed.keeps.rows → KeepsCounts o' c
    stays follows = record {
      taken = goes.taken;
      rows = passed.keeps.rows;
      follows = follows;
      given = passed.keeps.given;
      needed = after.needed;
      counted = after.counted;
      counts = refl;
    }

    -- the prices stay, and all steps so far are paid
    same_now : HasSamePrices q first o'
    same_now = same_both q first o o' passed.pays.same goes.follows.same

    most_now : new.pool.gets + left_after closed q o' pages c.database c.plan result + paid_so_far At Stands closed q seen first pages c k old.visits
        ≤ old.pool.gets + left_at closed q first pages c
        + paid At Stands closed q o' pages c.database c.plan goes.taken (given_after passed.keeps.rows result) goes.follows.follows new.visits
    most_now =
        most_both old.pool.gets mid.pool.gets new.pool.gets (left_at closed q first pages c) (left_at closed q o pages c) (left_after closed q o' pages c.database c.plan result)
        (paid_so_far At Stands closed q seen first pages c k old.visits)
        (paid At Stands closed q o pages c.database c.plan passed.keeps.taken passed.keeps.rows passed.keeps.follows mid.visits)
        (paid At Stands closed q o' pages c.database c.plan goes.taken (given_after passed.keeps.rows result) goes.follows.follows new.visits)
        passed.pays.most goes.follows.most

    -- the visits lie within the reach of the whole step
    near : All (LiesWithin plan_measure pages c.database c.plan (step_reach c)) (so_far.completed ++ so_far.attempted)
    near = subst (λ t. All (LiesWithin plan_measure pages c.database c.plan (reach plan_measure c.database c.plan t)) (so_far.completed ++ so_far.attempted)) (taken_same c) so_far.near

  -- one step more
  pub passed_more : (c : Cursor) (first : Operator S T) (k : KeepsRows At Stands closed seen first pages c) (o o' : Operator S T) (old mid new : DeskState) (passed : Passed c first k o old mid)
      → GoesStep pages c.database c.plan passed.keeps.taken passed.keeps.rows (seen (source_of o)) (seen (source_of o')) mid new (Ok Pass)
      (IsPaid At Stands closed q o o' pages c.database c.plan passed.keeps.taken passed.keeps.rows passed.keeps.follows mid new (Ok Pass))
      → Passed c first k o' old new
  passed_more c first k o o' old mid new passed goes = record {
    keeps = stays c first k o o' old mid new (Ok Pass) passed goes goes.follows.follows;
    pays = record {
      same = same_now c first k o o' old mid new (Ok Pass) passed goes;
      most = most_now c first k o o' old mid new (Ok Pass) passed goes;
    };
    visits =
        within_ok pages c.database c.plan (model.step_taken plan_measure c.database c.plan c.given) c.counts (seen (source_of o')) old new (Ok Pass) Pass refl
        (so_far c first k o o' old mid new (Ok Pass) passed goes);
  }

  module _ (front : GivesFront Stands) (late : OpensLate Stands closed) (c : Cursor) (first : Operator S T) (k : KeepsRows At Stands closed seen first pages c)
      (o o' : Operator S T) (old mid new : DeskState) (passed : Passed c first k o old mid) where
    module _ (a : Answer)
        (goes : GoesStep pages c.database c.plan passed.keeps.taken passed.keeps.rows (seen (source_of o)) (seen (source_of o')) mid new (Ok (Row a))
        (IsPaid At Stands closed q o o' pages c.database c.plan passed.keeps.taken passed.keeps.rows passed.keeps.follows mid new (Ok (Row a)))) where
      -- the rows, with the one that was given
      abbrev rows_now : List PlanRow
      rows_now = passed.keeps.rows ++ row_of a ∷ []

      long : length rows_now ≡ c.given + 1
      long = length-append passed.keeps.rows (row_of a ∷ []) ∙ ap (λ n. n + 1) passed.keeps.given

      kept_now : IsKept pages c.database c.plan c.given goes.taken (seen (source_of o)) (seen (source_of o')) mid new (Ok (Row a))
      kept_now = after c first k o o' old mid new (Ok (Row a)) passed goes

      abbrev visits_now : VisitsWithin pages c.database c.plan (model.step_taken plan_measure c.database c.plan c.given) c.counts (seen (source_of o')) old new (Ok (Row a))
      visits_now = so_far c first k o o' old mid new (Ok (Row a)) passed goes

      -- it is the next row of the answer
      next_row : element (answer plan_measure c.database c.plan) c.given ≡ Some (row_of a)
      next_row =
          let rows = passed.keeps.rows in
          let whole_it = begins_whole At Stands closed front o' pages c.database c.plan goes.taken rows_now goes.follows.follows in
          ap (element (answer plan_measure c.database c.plan)) (sym passed.keeps.given)
          ∙ ap (λ all. element all (length rows)) (whole_it.split ∙ append_assoc rows (row_of a ∷ []) whole_it.rest)
          ∙ element_next rows (row_of a) whole_it.rest

      enough : is_lazy c.plan ≡ true → c.given + 1 ≤ length (over plan_measure c.database c.plan (take goes.taken.rows (source plan_measure c.database c.plan)))
      enough lazy =
          let taken_it = begins_taken At Stands closed front o' pages c.database c.plan goes.taken rows_now goes.follows.follows lazy in
          subst (λ n. n ≤ length (over plan_measure c.database c.plan (take goes.taken.rows (source plan_measure c.database c.plan)))) long
          (begins_length rows_now (over plan_measure c.database c.plan (take goes.taken.rows (source plan_measure c.database c.plan))) taken_it)

      has_row : HasRow c.database c.plan c.given goes.taken
      has_row = record {
        more = enough;
        spent = λ sorts.
            elim (settled At Stands closed front late o' pages c.database c.plan goes.taken rows_now goes.follows.follows sorts) [
              | inl none ↦ let no : 0 ≡ c.given + 1 = ap length (sym none) ∙ long in absurd (omega (arith, no))
              | inr spent_it ↦ spent_same c.database c.plan goes.taken spent_it
            ];
      }

      -- without a sort, what was taken reaches up to its gap
      reach_row : is_lazy c.plan ≡ true → reach plan_measure c.database c.plan (model.step_taken plan_measure c.database c.plan c.given) ≡ row_reach a
      reach_row lazy =
          let t = goes.taken in
          let all = source plan_measure c.database c.plan in
          let is_t = row_taken plan_measure c.database c.plan c.given t kept_now.needed lazy (enough lazy) in
          let open_end : t.is_ended ≡ false =
          ap (λ (u : Taken). u.is_ended) (sym is_t ∙ lazy_given plan_measure c.database c.plan lazy (c.given + 1)) in
          ap (reach plan_measure c.database c.plan) (model.step_taken_row plan_measure c.database c.plan c.given (row_of a) next_row ∙ is_t)
          ∙ ap (λ b. reach plan_measure c.database c.plan (record { rows = t.rows; is_ended = b })) open_end
          ∙ row_reached c.database c.plan c.given t kept_now.needed lazy (enough lazy) (row_of a) next_row

      pub gives_next : CursorStep pages c old new (Ok (Some a)) (KeepsPaid At Stands closed q seen first o' pages c k old new (λ after. left_behind closed q o' pages after (Ok (Some a))))
      gives_next = record {
        after = record c { given = c.given + 1; counts = seen (source_of o') };
        gives = gives_row c goes.taken (seen (source_of o')) kept_now.needed kept_now.counted (row_of a) next_row has_row;
        at = record {
          keeps = record {
            taken = goes.taken;
            rows = rows_now;
            follows = goes.follows.follows;
            given = long;
            needed = needed_given plan_measure c.database c.plan c.given (c.given + 1) goes.taken (omega arith) kept_now.needed;
            counted = counted_given c.database c.plan c.given (c.given + 1) goes.taken (seen (source_of o')) (omega arith) kept_now.counted;
            counts = refl;
          };
          pays = record {
            same = same_now c first k o o' old mid new (Ok (Row a)) passed goes;
            most = most_now c first k o o' old mid new (Ok (Row a)) passed goes;
          };
        };
        visits = record {
          completed = visits_now.completed;
          attempted = visits_now.attempted;
          log = visits_now.log;
          few = visits_now.few;
          settled = visits_now.settled;
          counted = visits_now.counted;
          near = near c first k o o' old mid new (Ok (Row a)) passed goes;
          row = λ lazy. subst (λ to. All (LiesWithin plan_measure pages c.database c.plan to) (visits_now.completed ++ visits_now.attempted)) (reach_row lazy) visits_now.near;
          between =
              up_to_itself c.counts (seen (source_of o')) (step_of plan_measure c).1.counts visits_now.up
              (ap (λ (q : OutputLine × Cursor). q.1.counts) (gives_row c goes.taken (seen (source_of o')) kept_now.needed kept_now.counted (row_of a) next_row has_row));
          rose = visits_now.rose;
        };
      }

    module _ (goes : GoesStep pages c.database c.plan passed.keeps.taken passed.keeps.rows (seen (source_of o)) (seen (source_of o')) mid new (Ok End)
        (IsPaid At Stands closed q o o' pages c.database c.plan passed.keeps.taken passed.keeps.rows passed.keeps.follows mid new (Ok End))) where
      kept_end : IsKept pages c.database c.plan c.given goes.taken (seen (source_of o)) (seen (source_of o')) mid new (Ok End)
      kept_end = after c first k o o' old mid new (Ok End) passed goes

      abbrev visits_end : VisitsWithin pages c.database c.plan (model.step_taken plan_measure c.database c.plan c.given) c.counts (seen (source_of o')) old new (Ok End)
      visits_end = so_far c first k o o' old mid new (Ok End) passed goes

      no_row : element (answer plan_measure c.database c.plan) c.given ≡ None
      no_row =
          element_past (answer plan_measure c.database c.plan) c.given
          (le_of_eq (sym (ap length goes.ends.all) ∙ passed.keeps.given))

      pub gives_last : CursorStep pages c old new (Ok None) (KeepsPaid At Stands closed q seen first o' pages c k old new (λ after. left_behind closed q o' pages after (Ok None)))
      gives_last = record {
        after = record c { is_ended = true; counts = seen (source_of o') };
        gives = gives_end c goes.taken (seen (source_of o')) kept_end.needed kept_end.counted no_row (spent_same c.database c.plan goes.taken goes.ends.spent);
        at = record {
          keeps = record {
            taken = goes.taken;
            rows = passed.keeps.rows;
            follows = goes.follows.follows;
            given = passed.keeps.given;
            needed = kept_end.needed;
            counted = kept_end.counted;
            counts = refl;
          };
          pays = record {
            same = same_now c first k o o' old mid new (Ok End) passed goes;
            most = most_now c first k o o' old mid new (Ok End) passed goes;
          };
        };
        visits = record {
          completed = visits_end.completed;
          attempted = visits_end.attempted;
          log = visits_end.log;
          few = visits_end.few;
          settled = visits_end.settled;
          counted = visits_end.counted;
          near = near c first k o o' old mid new (Ok End) passed goes;
          row = tt;
          between =
              up_to_itself c.counts (seen (source_of o')) (step_of plan_measure c).1.counts visits_end.up
              (ap (λ (q : OutputLine × Cursor). q.1.counts)
              (gives_end c goes.taken (seen (source_of o')) kept_end.needed kept_end.counted no_row (spent_same c.database c.plan goes.taken goes.ends.spent)));
          rose = visits_end.rose;
        };
      }

    module _ (fault : PageFault)
        (goes : GoesStep pages c.database c.plan passed.keeps.taken passed.keeps.rows (seen (source_of o)) (seen (source_of o')) mid new (Err fault)
        (IsPaid At Stands closed q o o' pages c.database c.plan passed.keeps.taken passed.keeps.rows passed.keeps.follows mid new (Err fault))) where
      kept_refused : IsKept pages c.database c.plan c.given goes.taken (seen (source_of o)) (seen (source_of o')) mid new (Err fault)
      kept_refused = after c first k o o' old mid new (Err fault) passed goes

      abbrev visits_refused : VisitsWithin {T = Step} pages c.database c.plan (model.step_taken plan_measure c.database c.plan c.given) c.counts (seen (source_of o')) old new (Err fault)
      visits_refused = so_far c first k o o' old mid new (Err fault) passed goes

      refused : IsRefusedStep plan_measure c why.Memory (record c { counts = seen (source_of o') })
      refused = gives_none c goes.taken (seen (source_of o')) kept_refused.needed kept_refused.counted visits_refused.up why.Memory

      pub gives_refusal : CursorStep pages c old new (Err fault) (KeepsPaid At Stands closed q seen first o' pages c k old new (λ after. left_behind closed q o' pages after (Err fault)))
      gives_refusal = record {
        after = record c { counts = seen (source_of o') };
        gives = gives_none c goes.taken (seen (source_of o')) kept_refused.needed kept_refused.counted visits_refused.up;
        at = record {
          keeps = stays c first k o o' old mid new (Err fault) passed goes goes.follows.follows;
          pays = record {
            same = same_now c first k o o' old mid new (Err fault) passed goes;
            most = most_now c first k o o' old mid new (Err fault) passed goes;
          };
        };
        visits = record {
          completed = visits_refused.completed;
          attempted = visits_refused.attempted;
          log = visits_refused.log;
          few = visits_refused.few;
          settled = tt;
          counted = visits_refused.counted;
          near = near c first k o o' old mid new (Err fault) passed goes;
          row = tt;
          between = subst (AreBetween c.counts (step_of plan_measure c).1.counts) (sym (ap (λ (d : Cursor). d.counts) refused.2)) refused.1;
          rose = visits_refused.rose;
        };
      }
