-- The lines of a statement with the line of its refusal behind them.
use Rattle.std.proofs.Common.{◌≡◌, ℕ, Bool, true, false, List, [], ◌∷◌, ◌++◌, Option, Some, None, refl, sym, ◌∙◌, true≢false}
use Rattle.std.specs.Prelude.{Result, Ok, Err, IfOk}
use Rattle.std.specs.List.{list_any}
use Rattle.page_pool.specs.Causes.{failures_of}
use Rattle.page_pool.specs.Pool.{PoolState}
use Rattle.page_pool.specs.declared.fault.PageFault.TheVariants as page
use Rattle.sand_base.specs.declared.refusal.Refusal.{Refusal}
use Rattle.sand_base.specs.declared.refusal.Refusal.TheVariants as why
use Rattle.sand_base.specs.declared.source.Failed.{Failed}
use Rattle.sand_model.specs.Cursor.{OutputLine}
use Rattle.sand_model.specs.OutputText.{IsText, is_refused}
use Rattle.output_text.specs.Writing.{Writes, WritesPrefix}
use Rattle.statement_exec.specs.Ending.{IsCausedByPages, WritesUpTo, FailsOnceAtMost, PagesHaveCause, PagesHaveLineCause, refused_line, is_refusal}
use Rattle.statement_exec.specs.Printing.{Prints, PrintsSome}
use Rattle.statement_exec.proofs.Texts.{writes_more, breaks_more}

accepted_then : (xs ys : List OutputLine) → list_any is_refused xs ≡ false → list_any is_refused (xs ++ ys) ≡ list_any is_refused ys
accepted_then [] ys h = refl
accepted_then (x ∷ xs) ys h =
    let go : (b : Bool) → is_refused x ≡ b → list_any is_refused ((x ∷ xs) ++ ys) ≡ list_any is_refused ys = elim [
      | true ↦ λ e. absurd (true≢false (rw e at h))
      | false ↦ λ e. rw e (accepted_then xs ys (rw e at h))
    ] in
    go (is_refused x) refl

ending : (end : Option Refusal) → is_refusal end ≡ list_any is_refused (refused_line end)
ending None = refl
ending (Some w) = refl

module _ (P : List OutputLine → Type 0) (end : Option Refusal) (a b c : List ℕ → Type 0) where
  -- all lines were written
  pub printed : WritesUpTo P end a b → Writes (IsText (refused_line end)) b c → Writes (Prints P (is_refusal end)) a c
  printed h k =
      let all : Writes (IsText (h.lines ++ refused_line end)) a c = writes_more a b c h.lines (refused_line end) h.written k in
      record {
        text = all.text;
        holds = record {
          lines = h.lines ++ refused_line end;
          holds = h.holds;
          told = all.holds;
          refused = ending end ∙ sym (accepted_then h.lines (refused_line end) h.accepted);
        };
        written = all.written;
      }

  -- a prefix of the last line was written
  pub broken : WritesUpTo P end a b → WritesPrefix (IsText (refused_line end)) b c → WritesPrefix (PrintsSome P) a c
  broken h k =
      let all : WritesPrefix (IsText (h.lines ++ refused_line end)) a c = breaks_more a b c h.lines (refused_line end) h.written k in
      record {
        text = all.text;
        holds = (list_any is_refused (h.lines ++ refused_line end), record { lines = h.lines ++ refused_line end; holds = h.holds; told = all.holds; refused = refl });
        prefix = all.prefix;
      }

-- one failure at most was counted before the sink failed
pub at_most_one : (E : Type 0) (old new : PoolState) (end : Option Refusal) → PagesHaveCause {E = E} old new (Ok end) → FailsOnceAtMost old new
at_most_one E old new None h = (page.Memory, h)
at_most_one E old new (Some w) h = by_refusal w h where
  by_refusal : (w : Refusal) → IsCausedByPages old new w → FailsOnceAtMost old new
  by_refusal why.Device h = (page.Device, h.counted)
  by_refusal (why.Damaged n kept read) h = (page.Damaged n kept read, h.counted)
  by_refusal _ h = (page.Memory, h.counted)

-- the line of the refusal was written, where there is one, or not whole
pub line_cause : (E P : Type 0) (old new : PoolState) (end : Option Refusal) (r : Result Bool Failed) → PagesHaveCause {E = E} old new (Ok end) → IfOk r (λ refused. (refused ≡ is_refusal end) × P)
    → PagesHaveLineCause old new r
line_cause E P old new None (Ok false) h k = h
line_cause E P old new None (Ok true) h k = absurd (true≢false k.0)
line_cause E P old new (Some w) (Ok false) h k = absurd (true≢false (sym k.0))
line_cause E P old new (Some w) (Ok true) h k = at_most_one E old new (Some w) h
line_cause E P old new end (Err e) h k = at_most_one E old new end h

-- a line that reads no page
pub pages_unread : {E : Type 0} (old new : PoolState) (r : Result Bool E) → failures_of new ≡ failures_of old → PagesHaveLineCause old new r
pages_unread old new (Ok false) same = same
pages_unread old new (Ok true) same = (page.Memory, same)
pages_unread old new (Err e) same = (page.Memory, same)

-- a line counts one failure at most
pub once_at_most : {E : Type 0} (old new : PoolState) (r : Result Bool E) → PagesHaveLineCause old new r → FailsOnceAtMost old new
once_at_most old new (Ok false) h = (page.Memory, h)
once_at_most old new (Ok true) h = h
once_at_most old new (Err e) h = h
