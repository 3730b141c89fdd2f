-- Lines of rows up to so many: what may stand behind them, and what they are caused by.
use Rattle.std.proofs.Common.{◌≡◌, ℕ, zero, suc, ◌<◌, false, List, [], ◌∷◌, ◌++◌, refl, sym, ap, subst, inl, inr, arith}
use Rattle.std.specs.Prelude.{All}
use Rattle.std.specs.List.{list_any}
use Rattle.std.proofs.lemmas.List.Elements.{All-nil, All-cons, All-head, All-tail}
use Rattle.sand_base.specs.declared.refusal.Refusal.{Refusal}
use Rattle.sand_model.specs.Cursor.{Cursor, OutputLine, Row, End, Refused, Steps}
use Rattle.sand_model.specs.Measure.{Measure}
use Rattle.sand_model.specs.Operators.{PlanRow}
use Rattle.sand_model.specs.OutputText.{is_refused}
use Rattle.sand_model.specs.PlainLines.{AreLinesOfRows, IsPlainRow, IsPlainLine, IsRowLine}
use Rattle.statement_exec.proofs.CausedLines.{HasItsCause, caused_plain, caused_refusal, caused_behind}
use Rattle.statement_exec.specs.Causes.{AreCaused}
use Rattle.statement_exec.specs.Deciding.{EndsRows, PrintsRowsUpTo}
use Rattle.statement_exec.specs.Moment.{Moment}

-- lines of rows are no refusals
rows_accept : (lines : List OutputLine) → All IsRowLine lines → list_any is_refused lines ≡ false
rows_accept [] h = refl
rows_accept (Row row ∷ lines) h = rows_accept lines (All-tail IsRowLine (Row row) lines h)
rows_accept (x ∷ lines) h = absurd (All-head IsRowLine x lines h)

pub rows_accepted : (n : ℕ) (lines : List OutputLine) → AreLinesOfRows n lines → list_any is_refused lines ≡ false
rows_accepted n lines h = rows_accept lines h.0

-- one more that is none stands behind them
accept_behind : (lines : List OutputLine) (x : OutputLine) → All IsRowLine lines → is_refused x ≡ false → list_any is_refused (lines ++ x ∷ []) ≡ false
accept_behind [] x h e = rw e refl
accept_behind (Row row ∷ lines) x h e = accept_behind lines x (All-tail IsRowLine (Row row) lines h) e
accept_behind (y ∷ lines) x h e = absurd (All-head IsRowLine y lines h)

pub accepted_behind : (n : ℕ) (lines : List OutputLine) (x : OutputLine) → AreLinesOfRows n lines → is_refused x ≡ false → list_any is_refused (lines ++ x ∷ []) ≡ false
accepted_behind n lines x h e = accept_behind lines x h.0 e

-- refusals that may come are others that may
ends_so : (may comes : Refusal → Type 0) → ((w : Refusal) → may w → comes w) → (last : OutputLine) → EndsRows may last → EndsRows comes last
ends_so may comes so End h = tt
ends_so may comes so (Refused w) h = so w h
ends_so may comes so _ h = absurd h

pub rows_so : (may comes : Refusal → Type 0) → ((w : Refusal) → may w → comes w) → (count : ℕ) (lines : List OutputLine) → PrintsRowsUpTo may count lines → PrintsRowsUpTo comes count lines
rows_so may comes so count lines (inl all) = inl all
rows_so may comes so count lines (inr f) =
    inr (record { rows = f.rows; front = f.front; last = f.last; of_rows = f.of_rows; fewer = f.fewer; ends = ends_so may comes so f.last f.ends; split = f.split })

-- one row more in front of the others
row_before : (may : Refusal → Type 0) (row : PlanRow) (count : ℕ) (lines : List OutputLine) → IsPlainRow row → PrintsRowsUpTo may count lines → PrintsRowsUpTo may (suc count) (Row row ∷ lines)
row_before may row count lines k (inl all) = inl (All-cons IsRowLine (Row row) lines k all.0, ap suc all.1)
row_before may row count lines k (inr f) =
    let few : f.rows < count = f.fewer in
    inr (record {
      rows = suc f.rows;
      front = Row row ∷ f.front;
      last = f.last;
      of_rows = (All-cons IsRowLine (Row row) f.front k f.of_rows.0, ap suc f.of_rows.1);
      fewer = omega (arith, few);
      ends = f.ends;
      split = ap (λ (rest : List OutputLine). Row row ∷ rest) f.split;
    })

-- the last line behind fewer rows
pub behind_rows : (may : Refusal → Type 0) (count rows : ℕ) (front : List OutputLine) (last : OutputLine) → AreLinesOfRows rows front → rows < count → EndsRows may last
    → PrintsRowsUpTo may count (front ++ last ∷ [])
behind_rows may count rows front last h few e = inr (record { rows = rows; front = front; last = last; of_rows = h; fewer = few; ends = e; split = refl })

only_last : (may : Refusal → Type 0) (count : ℕ) (last : OutputLine) → EndsRows may last → PrintsRowsUpTo may (suc count) (last ∷ [])
only_last may count last e = behind_rows may (suc count) 0 [] last (All-nil IsRowLine, refl) (omega arith) e

-- the lines of steps are those of rows, up to the end or to a refusal
pub steps_up_to : (gap : Measure) (may comes : Refusal → Type 0) → ((w : Refusal) → may w → comes w) → (count : ℕ) (c : Cursor) (lines : List OutputLine) (after : Cursor)
    → Steps gap may count c lines after → All IsPlainLine lines → PrintsRowsUpTo comes count lines
steps_up_to gap may comes so zero c lines after h k = subst (PrintsRowsUpTo comes zero) (sym h.0) (inl (All-nil IsRowLine, refl))
steps_up_to gap may comes so (suc count) c lines after (inl (row, mid, more, stepped, is, rest)) k =
    let plain : All IsPlainLine (Row row ∷ more) = subst (All IsPlainLine) is k in
    subst (PrintsRowsUpTo comes (suc count)) (sym is)
    (row_before comes row count more (All-head IsPlainLine (Row row) more plain)
    (steps_up_to gap may comes so count mid more after rest (All-tail IsPlainLine (Row row) more plain)))
steps_up_to gap may comes so (suc count) c lines after (inr (inl (stepped, is))) k = subst (PrintsRowsUpTo comes (suc count)) (sym is) (only_last comes count End tt)
steps_up_to gap may comes so (suc count) c lines after (inr (inr (w, allowed, stepped, is))) k =
    subst (PrintsRowsUpTo comes (suc count)) (sym is) (only_last comes count (Refused w) (so w allowed))

-- they have their cause where the refusals that may come have theirs
pub rows_caused : (old new : Moment) (may : Refusal → Type 0) → ((w : Refusal) → may w → HasItsCause old new w) → (count : ℕ) (lines : List OutputLine)
    → PrintsRowsUpTo may count lines → AreCaused old new lines
rows_caused old new may cause count lines (inl all) = caused_plain old new lines (rows_accepted count lines all)
rows_caused old new may cause count lines (inr f) =
    subst (AreCaused old new) (sym f.split) (caused_behind old new f.front (f.last ∷ []) (rows_accepted f.rows f.front f.of_rows) (go f.last f.ends)) where
      go : (last : OutputLine) → EndsRows may last → AreCaused old new (last ∷ [])
      go End h = caused_plain old new (End ∷ []) refl
      go (Refused w) h = caused_refusal old new w (cause w h)
      go _ h = absurd h
