-- What is printed of a statement.
use Rattle.std.specs.Prelude.{◌≡◌, ℕ, Bool, List, Result, Ok, Err}
use Rattle.std.specs.List.{list_any}
use Rattle.output_text.specs.Writing.{Writes, WritesPrefix}
use Rattle.sand_base.specs.declared.source.Failed.{Failed}
use Rattle.sand_model.specs.Cursor.{OutputLine}
use Rattle.sand_model.specs.OutputText.{IsText, is_refused}

-- the text is that of lines of which P holds, and the mark says whether one of them is a refusal
pub record Prints (P : List OutputLine → Type 0) (some_refused : Bool) (text : List ℕ) : Type 0 where
  pub lines : List OutputLine
  pub holds : P lines
  pub told : IsText lines text
  pub refused : some_refused ≡ list_any is_refused lines

-- the text is that of lines of which P holds
abbrev pub PrintsSome : (List OutputLine → Type 0) → List ℕ → Type 0
PrintsSome P text = (some_refused : Bool) × Prints P some_refused text

-- lines of which P holds were written, and the mark says whether one is a refusal; where the sink failed, a prefix of them
abbrev pub WritesOf : (List OutputLine → Type 0) → (List ℕ → Type 0) → (List ℕ → Type 0) → Result Bool Failed → Type 0
WritesOf P before now (Ok refused) = Writes (Prints P refused) before now
WritesOf P before now (Err failed) = WritesPrefix (PrintsSome P) before now
