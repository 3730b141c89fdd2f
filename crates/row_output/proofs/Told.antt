-- What was printed so far, and what is printed next, where the disk tells its pages.
use Rattle.std.proofs.Common.{◌≡◌, ℕ, ◌+◌, ◌<◌, Bool, true, false, List, Option, None, Some, Result, Ok, Err, IfSome, sym, subst}
use Rattle.sand_base.specs.declared.source.Failed.{Failed}
use Rattle.page_pool.specs.Desk.{DeskState}
use Rattle.page_pool.specs.Disk.{PageMap}
use Rattle.page_pool.specs.declared.fault.PageFault.{PageFault}
use Rattle.sand_model.specs.Cursor.{Cursor}
use Rattle.sand_model.specs.Reach.{Counts}
use Rattle.plan_iterator.specs.Following.{Taking}
use Rattle.plan_iterator.specs.Paying.{Prices}
use Rattle.plan_iterator.specs.Stages.{Standing}
use Rattle.plan_iterator.specs.PaidCalls.{left_at, IsAtPaid}
use Rattle.plan_iterator.specs.Standing.{IsAt}
use Rattle.plan_iterator.specs.declared.cursor.RowCursor.{RowCursor}
use Rattle.plan_iterator.proofs.Chained.{at_none, at_both, step_then}
use Rattle.plan_iterator.proofs.ToldCalls.{both_told}
use Rattle.row_output.specs.Printing.{PrintsRowsPaid}
use Rattle.row_output.specs.Stepping.{PrintsNext, left_by_line, PrintsNextPaid}
use Rattle.row_output.specs.declared.next.Next.{Next}
use Rattle.row_output.specs.declared.next.Next.TheVariants as next
use Rattle.row_output.specs.declared.rows.Printed.TheVariants.{Rows, Refused}
use Rattle.row_output.proofs.SoFar.{SoFar, so_far_none, prints_more, prints_end, prints_refused, prints_failed, prints_all}

module _ {S T : Type 0} (At : S → Taking) (Stands : T → Standing) (closed : T → Bool) (q : Prices S T) (seen : S → Counts) where
  -- so many rows were printed since the call began, and what they cost is paid
  abbrev pub SoFarPaid : RowCursor S T → RowCursor S T → ℕ → DeskState → DeskState → (List ℕ → Type 0) → (List ℕ → Type 0) → PageMap → Type 0
  SoFarPaid first cursor rows old mid before at pages =
      (c : Cursor) (k : IsAt At Stands closed seen first pages c)
      → SoFar pages c rows old mid before at (IsAtPaid At Stands closed q seen first cursor pages c k old mid (left_at closed q cursor.operator pages))

  -- at first
  pub told_none : (told : Option PageMap) (first : RowCursor S T) (desk : DeskState) (before : List ℕ → Type 0) → IfSome told (SoFarPaid first first 0 desk desk before before)
  told_none None first desk before = tt
  told_none (Some pages) first desk before =
      λ c k. so_far_none pages c desk before (IsAtPaid At Stands closed q seen first first pages c k desk desk (left_at closed q first.operator pages))
      (at_none At Stands closed q seen pages first c k desk)

  -- the cursor stands for the next step
  pub told_stands : (told now : Option PageMap) (first cursor : RowCursor S T) (rows : ℕ) (old mid : DeskState) (before at : List ℕ → Type 0) → now ≡ told
      → IfSome told (λ pages. (c : Cursor) × IsAt At Stands closed seen first pages c) → IfSome told (SoFarPaid first cursor rows old mid before at)
      → IfSome now (λ pages. (c : Cursor) × IsAt At Stands closed seen cursor pages c)
  told_stands told now first cursor rows old mid before at same stands so_far =
      subst (λ m. IfSome m (λ pages. (c : Cursor) × IsAt At Stands closed seen cursor pages c)) (sym same)
      (both_told told (λ pages. (c : Cursor) × IsAt At Stands closed seen first pages c) (SoFarPaid first cursor rows old mid before at)
      (λ pages. (c : Cursor) × IsAt At Stands closed seen cursor pages c)
      (λ pages k h. ((h k.0 k.1).after, (h k.0 k.1).stands.stands)) stands so_far)

  -- all that were asked
  pub told_all : (told : Option PageMap) (first cursor : RowCursor S T) (rows count : ℕ) (old now : DeskState) (before at : List ℕ → Type 0) → rows ≡ count
      → IfSome told (SoFarPaid first cursor rows old now before at) → IfSome told (PrintsRowsPaid At Stands closed q seen first cursor count old now before at (Ok (Rows rows false)))
  told_all None first cursor rows count old now before at same h = tt
  told_all (Some pages) first cursor rows count old now before at same h =
      λ c k. prints_all pages c rows count old now before at (IsAtPaid At Stands closed q seen first cursor pages c k old now (left_at closed q cursor.operator pages)) same (h c k)

  module _ (told now : Option PageMap) (first cursor cursor' : RowCursor S T) (rows : ℕ) (old mid new : DeskState) (before at then : List ℕ → Type 0) (result : Result Next Failed) (same : now ≡ told)
      (so_far : IfSome told (SoFarPaid first cursor rows old mid before at)) (step : IfSome now (PrintsNextPaid At Stands closed q seen cursor cursor' mid new at then result)) where
    -- where the cursor stands after a step with this answer, and that all is paid since the call began
    abbrev After : Result Next Failed → (pages : PageMap) (c : Cursor) → IsAt At Stands closed seen first pages c → Cursor → Type 0
    After r pages c k = IsAtPaid At Stands closed q seen first cursor' pages c k old new (λ after. left_by_line closed q cursor'.operator pages after r)

    -- the step of what is told
    step_told : (r : Result Next Failed) → result ≡ r → IfSome told (PrintsNextPaid At Stands closed q seen cursor cursor' mid new at then r)
    step_told r is =
        subst (λ m. IfSome m (PrintsNextPaid At Stands closed q seen cursor cursor' mid new at then r)) same
        (subst (λ r. IfSome now (PrintsNextPaid At Stands closed q seen cursor cursor' mid new at then r)) is step)

    after_told : (r : Result Next Failed) (R : PageMap → Type 0) → result ≡ r
        → ((pages : PageMap) → ((c : Cursor) (k : IsAt At Stands closed seen first pages c)
        → (s : SoFar pages c rows old mid before at (IsAtPaid At Stands closed q seen first cursor pages c k old mid (left_at closed q cursor.operator pages)))
        × PrintsNext pages s.after mid new at then r (After r pages c k)) → R pages)
        → IfSome told R
    after_told r R is use_it =
        both_told told (SoFarPaid first cursor rows old mid before at) (PrintsNextPaid At Stands closed q seen cursor cursor' mid new at then r) R
        (λ pages h g. use_it pages (λ c k.
        let s = h c k in
        let n = g s.after s.stands.stands in (
          s,
          record {
            answer = n.answer;
            step = step_then pages s.after mid new n.answer
                (IsAtPaid At Stands closed q seen cursor cursor' pages s.after s.stands.stands mid new (λ after. left_by_line closed q cursor'.operator pages after r)) (After r pages c k)
                (λ after more. at_both At Stands closed q seen pages first cursor cursor' c s.after after k old mid new (λ after. left_by_line closed q cursor'.operator pages after r) s.stands more)
                n.step;
            prints = n.prints;
          },
        ))) so_far (step_told r is)

    pub told_more : result ≡ Ok next.Row → IfSome told (SoFarPaid first cursor' (rows + 1) old new before then)
    told_more is =
        after_told (Ok next.Row) (SoFarPaid first cursor' (rows + 1) old new before then) is
        (λ pages both c k. let b = both c k in
        prints_more pages c rows old mid new before at then (IsAtPaid At Stands closed q seen first cursor pages c k old mid (left_at closed q cursor.operator pages))
        (After (Ok next.Row) pages c k) b.0 b.1)

    pub told_end : (count : ℕ) → rows < count → result ≡ Ok next.End → IfSome told (PrintsRowsPaid At Stands closed q seen first cursor' count old new before then (Ok (Rows rows true)))
    told_end count few is =
        after_told (Ok next.End) (PrintsRowsPaid At Stands closed q seen first cursor' count old new before then (Ok (Rows rows true))) is
        (λ pages both c k. let b = both c k in
        prints_end pages c rows old mid new before at then (IsAtPaid At Stands closed q seen first cursor pages c k old mid (left_at closed q cursor.operator pages))
        (After (Ok next.End) pages c k) b.0 count few b.1)

    pub told_refused : (count : ℕ) (fault : PageFault) → rows < count → result ≡ Ok (next.Refused fault)
        → IfSome told (PrintsRowsPaid At Stands closed q seen first cursor' count old new before then (Ok (Refused rows fault)))
    told_refused count fault few is =
        after_told (Ok (next.Refused fault)) (PrintsRowsPaid At Stands closed q seen first cursor' count old new before then (Ok (Refused rows fault))) is
        (λ pages both c k. let b = both c k in
        prints_refused pages c rows old mid new before at then (IsAtPaid At Stands closed q seen first cursor pages c k old mid (left_at closed q cursor.operator pages))
        (After (Ok (next.Refused fault)) pages c k)
        b.0 count fault few b.1)

    pub told_failed : (count : ℕ) (failed : Failed) → rows < count → result ≡ Err failed
        → IfSome told (PrintsRowsPaid At Stands closed q seen first cursor' count old new before then (Err failed))
    told_failed count failed few is =
        after_told (Err failed) (PrintsRowsPaid At Stands closed q seen first cursor' count old new before then (Err failed)) is
        (λ pages both c k. let b = both c k in
        prints_failed pages c rows old mid new before at then (IsAtPaid At Stands closed q seen first cursor pages c k old mid (left_at closed q cursor.operator pages)) (After (Err failed) pages c k)
        b.0 count failed few b.1)
