-- A line that prints a refusal leaves every relation as it was, and all cursors but that of a `next`: what changes them prints one line, which is none.
use Rattle.std.proofs.Common.{◌≡◌, ◌⊎◌, ℕ, Bool, true, false, List, [], ◌∷◌, refl, sym, ap, ◌∙◌, inl, inr, true≢false}
use Rattle.std.specs.List.{list_any}
use Rattle.sand_base.specs.declared.refusal.Refusal.TheVariants as why
use Rattle.sand_model.specs.Cursor.{State, OutputLine, Accepted, Id, Loaded, Stats as StatsOf}
use Rattle.sand_model.specs.Outcome.{Rises, IsRefusedBy, IsCarriedOut}
use Rattle.sand_model.specs.OutputText.{is_refused}
use Rattle.sand_model.specs.Run.{LineOutcome}
use Rattle.statements.specs.Statement.{Statement, Create, Insert, Delete, Load, Index as IndexOn, Rtree, OpenCursor, Next, CloseCursor, Show, Stats, Far, Blocks}
use Rattle.sand_model.specs.ScriptLine.{ScriptLine, Blank, TooLong, BadToken, OutOfRange, Says}
use Rattle.sand_model.specs.StatementChecks.{Setting}
use Rattle.run_laws.specs.Refused.{is_next}
use Rattle.run_laws.proofs.CursorsInRuns.{RefusedWith, refused_or_done}

module _ (setting : Setting) (rises : Rises) (old new : State) (lines : List OutputLine) (some : list_any is_refused lines ≡ true) where
  -- what is printed isn't one line that is none of a refusal
  not_alone : {A : Type 0} (line : OutputLine) → is_refused line ≡ false → lines ≡ line ∷ [] → A
  not_alone line quiet is =
      let all : list_any is_refused (line ∷ []) ≡ true = rw is at some in
      let none : list_any is_refused (line ∷ []) ≡ false = rw quiet refl in
      absurd (true≢false (sym all ∙ none))

  -- what isn't a `next` changes nothing
  done : (statement : Statement) → is_next (Says statement) ≡ false → IsCarriedOut setting rises old statement lines new → new ≡ old
  done (Create name columns) n h = not_alone Accepted refl h.0
  done (Insert name row) n (relation, found, h) = not_alone (Id relation.next) refl h.0
  done (Delete name id) n h = not_alone Accepted refl h.0
  done (Load name file header) n (relation, found, h) = not_alone (Loaded _) refl h.0
  done (IndexOn column threshold) n h = not_alone Accepted refl h.0
  done (Rtree column) n h = not_alone Accepted refl h.0
  done (OpenCursor name p) n h = not_alone Accepted refl h.0
  done (Next name count) n h = absurd (true≢false n)
  done (CloseCursor name) n h = not_alone Accepted refl h.0
  done (Show count p) n (after, steps, h) = h
  done (Stats name) n (cursor, found, h) = not_alone (StatsOf _ _) refl h.0
  done (Far count column goal) n h = h.1
  done (Blocks column) n (relation, found, h) = h.1

  stays : (statement : Statement) → is_next (Says statement) ≡ false → RefusedWith old lines new ⊎ IsCarriedOut setting rises old statement lines new → new ≡ old
  stays statement n (inl r) = r.by.1
  stays statement n (inr h) = done statement n h

  pub line_refused : (line : ScriptLine) → is_next line ≡ false → LineOutcome setting rises old line lines new → new ≡ old
  line_refused Blank n h = h.1
  line_refused TooLong n h = h.1
  line_refused (BadToken column) n h = h.1
  line_refused OutOfRange n h = h.1
  line_refused (Says statement) n h = stays statement n (refused_or_done setting rises old new lines statement h)

  -- and a `next` changes no relation
  next_leaves : (name : List ℕ) (count : ℕ) → RefusedWith old lines new ⊎ IsCarriedOut setting rises old (Next name count) lines new → new.database ≡ old.database
  next_leaves name count (inl r) = ap (λ state. state.database) r.by.1
  next_leaves name count (inr (cursor, found, rest)) = ap (λ state. state.database) rest.2

  by_line : (line : ScriptLine) → (b : Bool) → is_next line ≡ b → LineOutcome setting rises old line lines new → new.database ≡ old.database
  by_line line false n h = ap (λ state. state.database) (line_refused line n h)
  by_line (Says (Next name count)) true n h = next_leaves name count (refused_or_done setting rises old new lines (Next name count) h)
  by_line _ true n h = absurd (true≢false (sym n))

pub refused_leaves : (setting : Setting) (rises : Rises) (old new : State) (line : ScriptLine) (lines : List OutputLine)
    → LineOutcome setting rises old line lines new ⊎ IsRefusedBy why.Memory old lines new → list_any is_refused lines ≡ true → new.database ≡ old.database
refused_leaves setting rises old new line lines (inl h) some = by_line setting rises old new lines some line (is_next line) refl h
refused_leaves setting rises old new line lines (inr h) some = ap (λ state. state.database) h.1

pub refused_stays : (setting : Setting) (rises : Rises) (old new : State) (line : ScriptLine) (lines : List OutputLine)
    → LineOutcome setting rises old line lines new ⊎ IsRefusedBy why.Memory old lines new → list_any is_refused lines ≡ true → is_next line ≡ false → new ≡ old
refused_stays setting rises old new line lines (inl h) some n = line_refused setting rises old new lines some line n h
refused_stays setting rises old new line lines (inr h) some n = h.1
