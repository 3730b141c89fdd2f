-- Two runs without a refusal from outside and with memory go the same way, line by line.
use Rattle.std.proofs.Common.{◌≡◌, ◌≢◌, ◌⊎◌, ℕ, zero, suc, Bool, true, false, ◌||◌, List, [], ◌∷◌, ◌++◌, length, Option, Some, None, refl, sym, ap, ap₂, subst, ◌∙◌, inl, inr, true≢false}
use Rattle.std.specs.List.{list_any}
use Rattle.std.proofs.lemmas.List.Folds.{list_any-append}
use Rattle.sand_base.specs.declared.refusal.Refusal.{Refusal}
use Rattle.sand_base.specs.declared.refusal.Refusal.TheVariants as why
use Rattle.sand_model.specs.Checks.{first_refusal}
use Rattle.sand_model.specs.Cursor.{State, Cursor, OutputLine, Id, Loaded, Row, End, Stats as StatsOf, Refused, Steps, new_cursor}
use Rattle.sand_model.specs.Database.{Relation, relation_named, changed_at}
use Rattle.sand_model.specs.Measure.{Measure}
use Rattle.sand_model.specs.Outcome.{Rises, IsRefusedBy, Changes, PrintsFirst, leaf_lines, replaced}
use Rattle.sand_model.specs.Run.{Run}
use Rattle.statements.specs.Statement.{Statement, Create, Insert, Delete, Load, Index as IndexOn, Rtree, OpenCursor, Next, CloseCursor, Show, Stats, Far, Blocks}
use Rattle.sand_model.specs.ScriptLine.{ScriptLine, Blank, TooLong, BadToken, OutOfRange, Says}
use Rattle.sand_model.specs.StatementChecks.{Setting, early, late, cursor_named, entered, file_rows}
use Rattle.run_laws.specs.Determined.{is_of_memory, IsCalm}
use Rattle.run_laws.specs.Undisturbed.{IsOfMemory, HasEffect, HasDefinedOutcome, LineIsDefined, RunsUndisturbed}
use Rattle.run_laws.proofs.CursorsInRuns.{neither}
use Rattle.run_laws.proofs.DefinedOutcomes.{run_complete}

-- no line says that memory was refused
abbrev pub HasMemory : List OutputLine → Type 0
HasMemory lines = list_any is_of_memory lines ≡ false

-- lines that end with a refusal of memory
memory_last : {A : Type 0} (printed : List OutputLine) (refusal : Refusal) (lines : List OutputLine) → IsOfMemory refusal → lines ≡ printed ++ Refused refusal ∷ [] → HasMemory lines → A
memory_last printed refusal lines m is h =
    let last : list_any is_of_memory (Refused refusal ∷ []) ≡ true = rw m refl in
    let all : list_any is_of_memory (printed ++ Refused refusal ∷ []) ≡ (list_any is_of_memory printed || list_any is_of_memory (Refused refusal ∷ [])) =
    list_any-append is_of_memory printed (Refused refusal ∷ []) in
    absurd (true≢false (sym (ap (λ xs. list_any is_of_memory xs) is ∙ all ∙ either (list_any is_of_memory printed) _ last) ∙ h)) where
      either : (a b : Bool) → b ≡ true → a || b ≡ true
      either true b e = refl
      either false b e = e

-- a line that is refused as out of memory
memory_line : {A : Type 0} (old new : State) (lines : List OutputLine) → IsRefusedBy why.Memory old lines new → HasMemory lines → A
memory_line old new lines h m = memory_last [] why.Memory lines refl h.0 m

-- what is there is one
one_there : {A : Type 0} (o : Option A) (a b : A) → o ≡ Some a → o ≡ Some b → a ≡ b
one_there o a b e f = let k : Some a ≡ Some b = sym e ∙ f in cc

-- the steps of a cursor
one_steps : (gap : Measure) (count : ℕ) (c one other : Cursor) (lines again : List OutputLine) → Steps gap IsOfMemory count c lines one → Steps gap IsOfMemory count c again other
    → HasMemory lines → HasMemory again → (lines ≡ again) × (one ≡ other)
one_steps gap zero c one other lines again h k m n = (h.0 ∙ sym k.0, h.1 ∙ sym k.1)
one_steps gap (suc count) c one other lines again (inr (inr (refusal, by, stepped, is))) k m n = memory_last [] refusal lines by is m
one_steps gap (suc count) c one other lines again h (inr (inr (refusal, by, stepped, is))) m n = memory_last [] refusal again by is n
one_steps gap (suc count) c one other lines again (inr (inl (stepped, is))) (inr (inl (step', is'))) m n =
    (is ∙ sym is', ap (λ q. q.1) (sym stepped ∙ step'))
one_steps gap (suc count) c one other lines again (inr (inl (stepped, is))) (inl (row, mid, more, step', is', rest)) m n =
    let k : End ≡ Row row = ap (λ q. q.0) (sym stepped ∙ step') in absurd cc
one_steps gap (suc count) c one other lines again (inl (row, mid, more, stepped, is, rest)) (inr (inl (step', is'))) m n =
    let k : Row row ≡ End = ap (λ q. q.0) (sym stepped ∙ step') in absurd cc
one_steps gap (suc count) c one other lines again (inl (row, mid, more, stepped, is, rest)) (inl (row', mid', more', step', is', rest')) m n =
    let first : Row row ≡ Row row' = ap (λ q. q.0) (sym stepped ∙ step') in
    let same : mid ≡ mid' = ap (λ q. q.1) (sym stepped ∙ step') in
    let behind : HasMemory more = ap (λ xs. list_any is_of_memory xs) (sym is) ∙ m in
    let behind' : HasMemory more' = ap (λ xs. list_any is_of_memory xs) (sym is') ∙ n in
    let go = one_steps gap count mid one other more more' rest (subst (λ x. Steps gap IsOfMemory count x more' other) (sym same) rest') behind behind' in
    (is ∙ ap₂ (λ x xs. x ∷ xs) first go.0 ∙ sym is', go.1)

-- all leaves are printed
all_leaves : (all lines : List OutputLine) → PrintsFirst IsOfMemory all lines → HasMemory lines → lines ≡ all
all_leaves all lines (inl is) m = is
all_leaves all lines (inr (printed, rest, refusal, by, split, is)) m = memory_last printed refusal lines by is m

module _ (setting : Setting) (old one other : State) (lines again : List OutputLine) (m : HasMemory lines) (n : HasMemory again) where
  -- the same was printed, and the same is left
  abbrev AreOne : Type 0
  AreOne = (lines ≡ again) × (one ≡ other)

  -- one line is printed, and one state is left
  same_line : (line line' : OutputLine) (state state' : State) → line ≡ line' → state ≡ state' → (lines ≡ line ∷ []) × (one ≡ state) → (again ≡ line' ∷ []) × (other ≡ state') → AreOne
  same_line line line' state state' e f h k = (h.0 ∙ ap (λ x. x ∷ []) e ∙ sym k.0, h.1 ∙ f ∙ sym k.1)

  -- the rows of a file were loaded
  abbrev IsLoaded : List ℕ → List ℕ → Bool → Relation → Type 0
  IsLoaded name file header relation =
      let rows = file_rows setting file header relation in
      Changes (Loaded (length rows)) (changed_at name (λ r. (entered setting rows r).1) old.database) old again other

  one_effect : (statement : Statement) → HasEffect setting old statement lines one → HasEffect setting old statement again other → AreOne
  one_effect (Create name columns) h k = same_line _ _ _ _ refl refl h k
  one_effect (Insert name row) (relation, found, h) (relation', found', k) =
      let same : relation ≡ relation' = one_there (relation_named old.database name) relation relation' found found' in
      same_line _ _ _ _ (ap (λ r. Id r.next) same) refl h k
  one_effect (Delete name id) h k = same_line _ _ _ _ refl refl h k
  one_effect (Load name file header) (relation, found, h) (relation', found', k) =
      let same : relation' ≡ relation = one_there (relation_named old.database name) relation' relation found' found in
      let k' : IsLoaded name file header relation = subst (IsLoaded name file header) same k in
      same_line _ _ _ _ refl refl h k'
  one_effect (IndexOn column threshold) h k = same_line _ _ _ _ refl refl h k
  one_effect (Rtree column) h k = same_line _ _ _ _ refl refl h k
  one_effect (OpenCursor name p) h k = same_line _ _ _ _ refl refl h k
  one_effect (Next name count) (c, found, h) (c', found', k) =
      let same : c' ≡ c = one_there (cursor_named old name) c' c found' found in
      let steps = one_steps setting.gap count c h.0 k.0 lines again h.1 (subst (λ x. Steps setting.gap IsOfMemory count x again k.0) same k.1) m n in
      (steps.0, h.2 ∙ ap (λ after. record old { cursors = replaced name after old.cursors }) steps.1 ∙ sym k.2)
  one_effect (CloseCursor name) h k = same_line _ _ _ _ refl refl h k
  one_effect (Show count p) (after, h, is) (after', k, is') =
      let steps = one_steps setting.gap count (new_cursor [] p old.database) after after' lines again h k m n in
      (steps.0, is ∙ sym is')
  one_effect (Stats name) (c, found, h) (c', found', k) =
      let same : c ≡ c' = one_there (cursor_named old name) c c' found found' in
      same_line _ _ _ _ (ap (λ cursor. StatsOf cursor.counts cursor.given) same) refl h k
  one_effect (Far count column goal) h k =
      (all_leaves _ lines h.0 m ∙ sym (all_leaves _ again k.0 n), h.1 ∙ sym k.1)
  one_effect (Blocks column) (relation, found, h) (relation', found', k) =
      let same : relation ≡ relation' = one_there (relation_named old.database column.relation) relation relation' found found' in
      (all_leaves _ lines h.0 m ∙ ap (λ r. leaf_lines r column.column) same ∙ sym (all_leaves _ again k.0 n), h.1 ∙ sym k.1)

  one_defined : (statement : Statement) → HasDefinedOutcome setting old statement lines one → HasDefinedOutcome setting old statement again other → AreOne
  one_defined statement h k = go (first_refusal (early setting old statement ∷ late setting old statement ∷ [])) refl where
    go : (o : Option Refusal) → first_refusal (early setting old statement ∷ late setting old statement ∷ []) ≡ o → AreOne
    go None e =
        let done : HasEffect setting old statement lines one = rw e at h in
        let done' : HasEffect setting old statement again other = rw e at k in
        one_effect statement done done'
    go (Some refusal) e =
        let by : (refusal ≢ why.File) × IsRefusedBy refusal old lines one = rw e at h in
        let by' : (refusal ≢ why.File) × IsRefusedBy refusal old again other = rw e at k in
        same_line (Refused refusal) (Refused refusal) old old refl refl by.1 by'.1

  one_line : (line : ScriptLine) → LineIsDefined setting old line lines one ⊎ IsRefusedBy why.Memory old lines one
      → LineIsDefined setting old line again other ⊎ IsRefusedBy why.Memory old again other → AreOne
  one_line line (inr h) k = memory_line old one lines h m
  one_line line h (inr k) = memory_line old other again k n
  one_line Blank (inl h) (inl k) = (h.0 ∙ sym k.0, h.1 ∙ sym k.1)
  one_line TooLong (inl h) (inl k) = same_line _ _ _ _ refl refl h k
  one_line (BadToken column) (inl h) (inl k) = same_line _ _ _ _ refl refl h k
  one_line OutOfRange (inl h) (inl k) = same_line _ _ _ _ refl refl h k
  one_line (Says statement) (inl h) (inl k) = one_defined statement h k

-- lines and those behind them have memory
both_parts : (first more all : List OutputLine) → all ≡ first ++ more → HasMemory all → HasMemory first × HasMemory more
both_parts first more all e m = neither (list_any is_of_memory first) (list_any is_of_memory more) (sym (list_any-append is_of_memory first more) ∙ ap (λ xs. list_any is_of_memory xs) (sym e) ∙ m)

one_run : (setting : Setting) (old one other : State) (script : List ScriptLine) (printed again : List OutputLine) → RunsUndisturbed setting old script printed one
    → RunsUndisturbed setting old script again other
    → HasMemory printed → HasMemory again → (printed ≡ again) × (one ≡ other)
one_run setting old one other [] printed again h k m n = (h.0 ∙ sym k.0, h.1 ∙ sym k.1)
one_run setting old one other (line ∷ script) printed again (first, more, mid, goes, rest, is) (first', more', mid', goes', rest', is') m n =
    let parts = both_parts first more printed is m in
    let parts' = both_parts first' more' again is' n in
    let here = one_line setting old mid mid' first first' parts.0 parts'.0 line goes goes' in
    let behind = one_run setting mid one other script more more' rest (subst (λ state. RunsUndisturbed setting state script more' other) (sym here.1) rest') parts.1 parts'.1 in
    (is ∙ ap₂ (λ xs ys. xs ++ ys) here.0 behind.0 ∙ sym is', behind.1)

pub calm_runs_are_one : (setting : Setting) (old one other : State) (script : List ScriptLine) (rises others : Rises) (printed again : List OutputLine)
    → setting.tells ≡ true → Run setting old script rises printed one → Run setting old script others again other
    → IsCalm rises printed → IsCalm others again → (printed ≡ again) × (one ≡ other)
calm_runs_are_one setting old one other script rises others printed again tells run run' calm calm' =
    one_run setting old one other script printed again
    (run_complete setting old one script rises printed tells calm.disk calm.shelf run)
    (run_complete setting old other script others again tells calm'.disk calm'.shelf run') calm.memory calm'.memory
