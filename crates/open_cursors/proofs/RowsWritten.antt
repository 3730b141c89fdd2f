-- What was printed of a cursor over any disk, as lines of rows up to so many.
use Rattle.std.proofs.Common.{◌≡◌, ◌⊎◌, ℕ, ◌+◌, ◌<◌, ◌≤◌, Bool, true, false, cond, List, [], ◌∷◌, ◌++◌, Option, Some, None, refl, sym, ◌∙◌, ap, subst, inl, inr, arith}
use Rattle.std.specs.Prelude.{Result, Ok, Err}
use Rattle.std.specs.List.{list_any}
use Rattle.std.proofs.lemmas.Bool.{cases_lt, lt-ltb, le-ltb}
use Rattle.std.proofs.lemmas.List.{append-nil}
use Rattle.output_text.specs.Writing.{Writes, WritesPrefix}
use Rattle.page_pool.specs.declared.fault.PageFault.{PageFault}
use Rattle.row_output.specs.Printing.{AreRowsThen, WritesCounted}
use Rattle.row_output.specs.declared.rows.Printed.{Printed}
use Rattle.row_output.specs.declared.rows.Printed.TheVariants as printed
use Rattle.sand_base.specs.declared.refusal.Refusal.{Refusal}
use Rattle.sand_base.specs.declared.refusal.Refusal.TheVariants as why
use Rattle.sand_base.specs.declared.source.Failed.{Failed}
use Rattle.sand_model.specs.Cursor.{OutputLine, End, Refused}
use Rattle.sand_model.specs.OutputText.{IsText, is_refused}
use Rattle.sand_model.specs.PlainLines.{AreLinesOfRows}
use Rattle.sand_store.specs.Calls.{refusal_of}
use Rattle.statement_exec.proofs.CountedRows.{accepted_behind, behind_rows, rows_accepted}
use Rattle.statement_exec.proofs.Texts.{breaks_with}
use Rattle.statement_exec.proofs.Written.{some_written}
use Rattle.statement_exec.specs.Deciding.{PrintsRowsUpTo}
use Rattle.statement_exec.specs.Printing.{PrintsSome}
use Rattle.open_cursors.specs.Steps.{WritesRows}

module _ (count rows : ℕ) (a b : List ℕ → Type 0) where
  -- all lines were written, without a refusal
  whole : (lines : List OutputLine) → list_any is_refused lines ≡ false → PrintsRowsUpTo (λ refusal. None ≡ Some refusal) count lines → Writes (IsText lines) a b → WritesRows count a b (Ok None)
  whole lines plain h w = record {
    lines = lines;
    written = w;
    accepted = plain;
    holds = subst (PrintsRowsUpTo (λ refusal. None ≡ Some refusal) count) (sym (append-nil lines)) h;
  }

  -- as many rows as were asked
  all_rows : (lines : List OutputLine) → rows ≡ count → AreLinesOfRows rows lines → Writes (IsText lines) a b → WritesRows count a b (Ok None)
  all_rows lines same h w = whole lines (rows_accepted rows lines h) (inl (subst (λ (n : ℕ). AreLinesOfRows n lines) same h)) w

  -- fewer, and the end
  fewer_rows : (lines : List OutputLine) → rows < count → AreRowsThen rows true lines → Writes (IsText lines) a b → WritesRows count a b (Ok None)
  fewer_rows lines less (front, of_rows, is) w =
      whole lines (ap (λ (xs : List OutputLine). list_any is_refused xs) is ∙ accepted_behind rows front End of_rows refl)
      (subst (PrintsRowsUpTo (λ refusal. None ≡ Some refusal) count) (sym is) (behind_rows (λ refusal. None ≡ Some refusal) count rows front End of_rows less tt)) w

  pub rows_ended : (end : Bool) (r : Printed) → r ≡ printed.Rows rows end → WritesCounted count (Ok r) a b → WritesRows count a b (Ok None)
  rows_ended end r same h = go (subst (λ (x : Printed). WritesCounted count (Ok x) a b) same h) where
    go : WritesCounted count (Ok (printed.Rows rows end)) a b → WritesRows count a b (Ok None)
    go (lines, (few, is, of_rows), w) = by_count (cases_lt rows count) where
      by_count : (rows < count) ⊎ (count ≤ rows) → WritesRows count a b (Ok None)
      by_count (inl less) = fewer_rows lines less (subst (λ (e : Bool). AreRowsThen rows e lines) (is ∙ lt-ltb rows count less) of_rows) w
      by_count (inr past) = all_rows lines (omega (arith, few, past)) (subst (λ (e : Bool). AreRowsThen rows e lines) (is ∙ le-ltb rows count past) of_rows) w

  -- a refusal behind fewer
  pub rows_refused : (fault : PageFault) (r : Printed) → r ≡ printed.Refused rows fault → WritesCounted count (Ok r) a b → WritesRows count a b (Ok (Some (refusal_of fault)))
  rows_refused fault r same h = go (subst (λ (x : Printed). WritesCounted count (Ok x) a b) same h) where
    go : WritesCounted count (Ok (printed.Refused rows fault)) a b → WritesRows count a b (Ok (Some (refusal_of fault)))
    go (lines, (few, of_rows), w) = record {
      lines = lines;
      written = w;
      accepted = rows_accepted rows lines of_rows;
      holds = behind_rows (λ refusal. Some (refusal_of fault) ≡ Some refusal) count rows lines (Refused (refusal_of fault)) of_rows few refl;
    }

module _ (count : ℕ) (a b : List ℕ → Type 0) where
  abbrev IsMemory : Refusal → Type 0
  IsMemory refusal = refusal ≡ why.Memory

  -- a prefix of rows, which are all, or behind which memory may be refused
  broken_rows : (rows : ℕ) (lines : List OutputLine) → rows ≤ count → AreLinesOfRows rows lines → WritesPrefix (IsText lines) a b → WritesPrefix (PrintsSome (PrintsRowsUpTo IsMemory count)) a b
  broken_rows rows lines most of_rows w = by_count (cases_lt rows count) where
    by_count : (rows < count) ⊎ (count ≤ rows) → WritesPrefix (PrintsSome (PrintsRowsUpTo IsMemory count)) a b
    by_count (inl less) =
        breaks_with (PrintsRowsUpTo IsMemory count) a b lines why.Memory (behind_rows IsMemory count rows lines (Refused why.Memory) of_rows less refl) w
    by_count (inr past) =
        some_written (PrintsRowsUpTo IsMemory count) a b lines (inl (subst (λ (n : ℕ). AreLinesOfRows n lines) (omega (arith, most, past)) of_rows)) w

  -- the sink failed
  pub rows_failed : (failed : Failed) → WritesCounted count (Err failed) a b → WritesRows count a b (Err failed)
  rows_failed failed (lines, (rows, end, most, of_rows), w) = go end most of_rows where
    go : (e : Bool) → rows + cond e 1 0 ≤ count → AreRowsThen rows e lines → WritesPrefix (PrintsSome (PrintsRowsUpTo IsMemory count)) a b
    go true m (front, of_front, is) =
        some_written (PrintsRowsUpTo IsMemory count) a b lines
        (subst (PrintsRowsUpTo IsMemory count) (sym is) (behind_rows IsMemory count rows front End of_front (omega (arith, m)) tt)) w
    go false m h = broken_rows rows lines (omega (arith, m)) h w
