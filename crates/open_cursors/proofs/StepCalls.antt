-- What printing the rows of a cursor is of its steps.
use Rattle.std.proofs.Common.{◌≡◌, ℕ, zero, suc, Bool, false, List, [], ◌∷◌, ◌++◌, length, Option, Some, None, refl, sym, ◌∙◌, ap, subst, inl, inr, arith}
use Rattle.std.specs.Prelude.{All, Result, Ok, Err, IfSome}
use Rattle.std.specs.List.{list_any}
use Rattle.std.proofs.lemmas.List.{append-nil}
use Rattle.std.proofs.lemmas.List.Elements.{All-nil, All-cons, All-append}
use Rattle.page_pool.specs.Desk.{DeskState}
use Rattle.page_pool.specs.declared.fault.PageFault.{PageFault}
use Rattle.page_pool.specs.declared.fault.PageFault.TheVariants as page
use Rattle.plan_iterator.specs.Rows.{plan_measure}
use Rattle.plan_iterator.specs.Following.{Taking}
use Rattle.plan_iterator.specs.Paying.{Prices}
use Rattle.plan_iterator.specs.Stages.{Standing}
use Rattle.plan_iterator.specs.Standing.{IsAt}
use Rattle.plan_iterator.specs.declared.cursor.RowCursor.{RowCursor}
use Rattle.sand_base.specs.declared.refusal.Refusal.{Refusal}
use Rattle.sand_base.specs.declared.source.Failed.{Failed}
use Rattle.sand_model.specs.Cursor.{Cursor, OutputLine, Row, Refused, Steps}
use Rattle.sand_model.specs.OutputText.{is_refused}
use Rattle.sand_model.specs.PlainLines.{IsPlainLine}
use Rattle.sand_model.specs.Reach.{Counts}
use Rattle.sand_store.specs.Calls.{refusal_of}
use Rattle.row_output.proofs.StepsAllowed.{steps_allowed}
use Rattle.row_output.specs.Printing.{PrintsRows, PrintsRowsPaid}
use Rattle.page_pool.specs.Disk.{PageMap}
use Rattle.row_output.specs.declared.rows.Printed.{Printed}
use Rattle.row_output.specs.declared.rows.Printed.TheVariants as printed
use Rattle.open_cursors.specs.Steps.{StepsOn, GivesSteps, IsOfPages}

abbrev first_of : OutputLine → List OutputLine → OutputLine
first_of d [] = d
first_of d (x ∷ xs) = x

abbrev rest_of : List OutputLine → List OutputLine
rest_of [] = []
rest_of (x ∷ xs) = xs

-- steps of which none may be refused print no refusal
none_refused : (n : ℕ) (c : Cursor) (lines : List OutputLine) (after : Cursor) → Steps plan_measure (λ r. ⊥) n c lines after → list_any is_refused lines ≡ false
none_refused zero c lines after h = ap (λ (xs : List OutputLine). list_any is_refused xs) h.0
none_refused (suc n) c lines after (inl row) =
    ap (λ (xs : List OutputLine). list_any is_refused xs) row.4 ∙ none_refused n row.1 row.2 after row.5
none_refused (suc n) c lines after (inr (inl end)) = ap (λ (xs : List OutputLine). list_any is_refused xs) end.1
none_refused (suc n) c lines after (inr (inr refused)) = absurd refused.1

not_none : (xs : List OutputLine) (w : Refusal) → xs ++ Refused w ∷ [] ≡ [] → ⊥
not_none [] w e = let n : 1 ≡ 0 = ap (λ (ys : List OutputLine). length ys) e in omega (arith, n)
not_none (x ∷ xs) w e = let n : length ((x ∷ xs) ++ Refused w ∷ []) ≡ 0 = ap (λ (ys : List OutputLine). length ys) e in omega (arith, n)

-- a refusal behind plain lines
pub plain_refused : (lines : List OutputLine) (w : Refusal) → All IsPlainLine lines → All IsPlainLine (lines ++ Refused w ∷ [])
plain_refused lines w h = All-append IsPlainLine lines (Refused w ∷ []) h (All-cons IsPlainLine (Refused w) [] tt (All-nil IsPlainLine))

-- a fault of a page is of memory or of a page
pub of_pages : (fault : PageFault) → IsOfPages (Some (refusal_of fault))
of_pages page.Memory = tt
of_pages page.Device = tt
of_pages (page.Damaged n kept read) = tt

-- lines before the line of a refusal are none themselves
before_refused : (may : Refusal → Type 0) (w : Refusal) (n : ℕ) (c : Cursor) (lines : List OutputLine) (after : Cursor) → Steps plan_measure may n c (lines ++ Refused w ∷ []) after
    → list_any is_refused lines ≡ false
before_refused may w n c [] after h = refl
before_refused may w zero c (x ∷ xs) after h = absurd (not_none (x ∷ xs) w h.0)
before_refused may w (suc n) c (x ∷ xs) after (inl row) =
    let head : x ≡ Row row.0 = ap (λ (ys : List OutputLine). first_of x ys) row.4 in
    let tail : xs ++ Refused w ∷ [] ≡ row.2 = ap rest_of row.4 in
    let rest : list_any is_refused xs ≡ false = before_refused may w n row.1 xs after (subst (λ (ys : List OutputLine). Steps plan_measure may n row.1 ys after) (sym tail) row.5) in
    ap (λ (y : OutputLine). list_any is_refused (y ∷ xs)) head ∙ rest
before_refused may w (suc n) c (x ∷ xs) after (inr (inl end)) = absurd (not_none xs w (ap rest_of end.1))
before_refused may w (suc n) c (x ∷ xs) after (inr (inr refused)) = absurd (not_none xs w (ap rest_of refused.3))

module _ (pages : PageMap) (c : Cursor) (count rows : ℕ) (old new : DeskState) (a b : List ℕ → Type 0) (At : Cursor → Type 0) where
  pub steps_to_end : (end : Bool) → PrintsRows pages c count old new a b (Ok (printed.Rows rows end)) At → StepsOn c count a b (Ok None) At
  steps_to_end end p = record {
    after = p.after;
    at = p.at;
    steps = record {
      lines = p.lines;
      written = p.writes;
      accepted = none_refused count c p.lines p.after p.gives.2.steps;
      holds = subst (λ (xs : List OutputLine). GivesSteps c count p.after None xs) (sym (append-nil p.lines))
          (steps_allowed plan_measure (λ r. ⊥) (λ r. None ≡ Some r) (λ r e. absurd e) count c p.lines p.after p.gives.2.steps, p.plain);
    };
    pages = tt;
  }

  pub steps_to_fault : (fault : PageFault) → PrintsRows pages c count old new a b (Ok (printed.Refused rows fault)) At → StepsOn c count a b (Ok (Some (refusal_of fault))) At
  steps_to_fault fault p =
      let w : Refusal = refusal_of fault in
      let all : Steps plan_measure (λ why. why ≡ w) count c (p.lines ++ Refused w ∷ []) p.after = p.gives.steps w in
      record {
        after = p.after;
        at = p.at;
        steps = record {
          lines = p.lines;
          written = p.writes;
          accepted = before_refused (λ why. why ≡ w) w count c p.lines p.after all;
          holds = (
            steps_allowed plan_measure (λ why. why ≡ w) (λ r. Some w ≡ Some r) (λ r e. ap (λ (x : Refusal). Some x) (sym e)) count c (p.lines ++ Refused w ∷ []) p.after all,
            plain_refused p.lines w p.plain,
          );
        };
        pages = of_pages fault;
      }

pub steps_broken : (pages : PageMap) (c : Cursor) (count : ℕ) (old new : DeskState) (a b : List ℕ → Type 0) (failed : Failed) (At : Cursor → Type 0)
    → PrintsRows pages c count old new a b (Err failed) At
    → StepsOn c count a b (Err failed) At
steps_broken pages c count old new a b failed At p = record {
  after = p.after;
  at = p.at;
  steps = (p.lines, (p.gives.0, p.gives.3, p.gives.4.steps, p.plain), p.writes);
  pages = tt;
}

-- what follows from a fact of something that may be there
pub some_so : {A : Type 0} (o : Option A) (P Q : A → Type 0) → ((x : A) → P x → Q x) → IfSome o P → IfSome o Q
some_so None P Q f h = tt
some_so (Some x) P Q f h = f x h

-- where a cursor may stand over pages
abbrev Place : Type 1
Place = PageMap → Cursor → Type 0

module _ (told : Option PageMap) (Before After : Place) (count : ℕ) (old new : DeskState) (a b : List ℕ → Type 0) where
  pub told_end : (r : Printed) (rows : ℕ) (end : Bool) → r ≡ printed.Rows rows end
      → IfSome told (λ pages. (c : Cursor) → Before pages c → PrintsRows pages c count old new a b (Ok r) (After pages))
      → IfSome told (λ pages. (c : Cursor) → Before pages c → StepsOn c count a b (Ok None) (After pages))
  told_end r rows end is h =
      some_so told (λ pages. (c : Cursor) → Before pages c → PrintsRows pages c count old new a b (Ok r) (After pages))
      (λ pages. (c : Cursor) → Before pages c → StepsOn c count a b (Ok None) (After pages))
      (λ pages k c at. steps_to_end pages c count rows old new a b (After pages) end (subst (λ (x : Printed). PrintsRows pages c count old new a b (Ok x) (After pages)) is (k c at))) h

  pub told_fault : (r : Printed) (rows : ℕ) (fault : PageFault) → r ≡ printed.Refused rows fault
      → IfSome told (λ pages. (c : Cursor) → Before pages c → PrintsRows pages c count old new a b (Ok r) (After pages))
      → IfSome told (λ pages. (c : Cursor) → Before pages c → StepsOn c count a b (Ok (Some (refusal_of fault))) (After pages))
  told_fault r rows fault is h =
      some_so told (λ pages. (c : Cursor) → Before pages c → PrintsRows pages c count old new a b (Ok r) (After pages))
      (λ pages. (c : Cursor) → Before pages c → StepsOn c count a b (Ok (Some (refusal_of fault))) (After pages))
      (λ pages k c at. steps_to_fault pages c count rows old new a b (After pages) fault (subst (λ (x : Printed). PrintsRows pages c count old new a b (Ok x) (After pages)) is (k c at))) h

  pub told_broken : (failed : Failed)
      → IfSome told (λ pages. (c : Cursor) → Before pages c → PrintsRows pages c count old new a b (Err failed) (After pages))
      → IfSome told (λ pages. (c : Cursor) → Before pages c → StepsOn c count a b (Err failed) (After pages))
  told_broken failed h =
      some_so told (λ pages. (c : Cursor) → Before pages c → PrintsRows pages c count old new a b (Err failed) (After pages))
      (λ pages. (c : Cursor) → Before pages c → StepsOn c count a b (Err failed) (After pages))
      (λ pages k c at. steps_broken pages c count old new a b failed (After pages) (k c at)) h

-- where the cursor stands after what was printed, without what was paid for it
pub told_stands : {S T : Type 0} (At : S → Taking) (Stands : T → Standing) (closed : T → Bool) (q : Prices S T) (seen : S → Counts) (told : Option PageMap) (cursor cursor' : RowCursor S T)
    → (count : ℕ) (old new : DeskState) (a b : List ℕ → Type 0) (r : Result Printed Failed) → IfSome told (PrintsRowsPaid At Stands closed q seen cursor cursor' count old new a b r)
    → IfSome told (λ pages. (c : Cursor) → IsAt At Stands closed seen cursor pages c → PrintsRows pages c count old new a b r (IsAt At Stands closed seen cursor' pages))
told_stands At Stands closed q seen told cursor cursor' count old new a b r h =
    some_so told (PrintsRowsPaid At Stands closed q seen cursor cursor' count old new a b r)
    (λ pages. (c : Cursor) → IsAt At Stands closed seen cursor pages c → PrintsRows pages c count old new a b r (IsAt At Stands closed seen cursor' pages))
    (λ pages k c at. let p = k c at in record {
      lines = p.lines;
      after = p.after;
      last = p.last;
      at = p.at.stands;
      gives = p.gives;
      plain = p.plain;
      writes = p.writes;
      cuts = p.cuts;
      completed = p.completed;
      attempted = p.attempted;
      log = p.log;
      few = p.few;
      settled = p.settled;
      counted = p.counted;
      near = p.near;
      row = p.row;
      rose = p.rose;
    }) h
