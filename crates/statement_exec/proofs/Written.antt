-- Lines that were written: one, or those up to a refusal.
use Rattle.std.proofs.Common.{◌≡◌, ℕ, Bool, List, [], ◌∷◌, Option, refl, sym, ◌∙◌, subst}
use Rattle.std.specs.Prelude.{Result, Ok, Err, IfOk, OnErr, is_err}
use Rattle.std.specs.List.{list_any}
use Rattle.output_text.specs.Writing.{Writes, WritesPrefix}
use Rattle.sand_base.specs.declared.refusal.Refusal.{Refusal}
use Rattle.sand_base.specs.declared.source.Failed.{Failed}
use Rattle.sand_model.specs.Cursor.{OutputLine}
use Rattle.sand_model.specs.OutputText.{IsText, is_refused}
use Rattle.statement_exec.specs.Ending.{WritesUpTo, is_refusal, refused_line}
use Rattle.statement_exec.specs.Performing.{line_of_answer}
use Rattle.statement_exec.specs.Printing.{Prints, PrintsSome, WritesOf}
use Rattle.statement_exec.specs.declared.reply.Reply.{Reply}
use Rattle.statement_exec.specs.declared.reply.Reply.TheVariants as reply
use Rattle.statement_exec.proofs.Endings.{printed, broken}

-- the mark of an answer is that of its line
pub refusal_mark : (answer : Result Reply Refusal) → is_err answer ≡ list_any is_refused (line_of_answer answer ∷ [])
refusal_mark (Ok reply.Accepted) = refl
refusal_mark (Ok (reply.Id id)) = refl
refusal_mark (Ok (reply.Loaded rows)) = refl
refusal_mark (Err w) = refl

-- lines of which P holds are lines of which Q does
pub writes_so : (P Q : List OutputLine → Type 0) (a b : List ℕ → Type 0) → ((lines : List OutputLine) → P lines → Q lines) → (r : Result Bool Failed) → WritesOf P a b r → WritesOf Q a b r
writes_so P Q a b f (Ok refused) h = record {
  text = h.text;
  holds = record { lines = h.holds.lines; holds = f h.holds.lines h.holds.holds; told = h.holds.told; refused = h.holds.refused };
  written = h.written;
}
writes_so P Q a b f (Err failed) h = record {
  text = h.text;
  holds = (h.holds.0, record { lines = h.holds.1.lines; holds = f h.holds.1.lines h.holds.1.holds; told = h.holds.1.told; refused = h.holds.1.refused });
  prefix = h.prefix;
}

-- a prefix of lines of which P holds was written
pub some_written : (P : List OutputLine → Type 0) (a b : List ℕ → Type 0) (lines : List OutputLine) → P lines → WritesPrefix (IsText lines) a b → WritesPrefix (PrintsSome P) a b
some_written P a b lines p k = record {
  text = k.text;
  holds = (list_any is_refused lines, record { lines = lines; holds = p; told = k.holds; refused = refl });
  prefix = k.prefix;
}

module _ (P : List OutputLine → Type 0) (a b : List ℕ → Type 0) where
  -- one line, of which it is known whether it is a refusal
  pub one_written : (line : OutputLine) (mark : Bool) → mark ≡ list_any is_refused (line ∷ []) → P (line ∷ []) → (r : Result Bool Failed)
      → IfOk r (λ refused. (refused ≡ mark) × Writes (IsText (line ∷ [])) a b) → OnErr r (WritesPrefix (IsText (line ∷ [])) a b) → WritesOf P a b r
  one_written line mark marked p (Ok refused) h k =
      let w : Writes (IsText (line ∷ [])) a b = h.1 in
      record { text = w.text; holds = record { lines = line ∷ []; holds = p; told = w.holds; refused = h.0 ∙ marked }; written = w.written }
  one_written line mark marked p (Err failed) h k = some_written P a b (line ∷ []) p k

  -- the line of an answer
  pub answer_written : (answer : Result Reply Refusal) → P (line_of_answer answer ∷ []) → (r : Result Bool Failed)
      → IfOk r (λ refused. (refused ≡ is_err answer) × Writes (IsText (line_of_answer answer ∷ [])) a b) → OnErr r (WritesPrefix (IsText (line_of_answer answer ∷ [])) a b) → WritesOf P a b r
  answer_written answer = one_written (line_of_answer answer) (is_err answer) (refusal_mark answer)

-- lines up to a refusal, and its line
pub ending_written : (P : List OutputLine → Type 0) (a b c : List ℕ → Type 0) (end : Option Refusal) → WritesUpTo P end a b → (r : Result Bool Failed)
    → IfOk r (λ refused. (refused ≡ is_refusal end) × Writes (IsText (refused_line end)) b c) → OnErr r (WritesPrefix (IsText (refused_line end)) b c) → WritesOf P a c r
ending_written P a b c end up (Ok refused) h k = subst (λ (m : Bool). Writes (Prints P m) a c) (sym h.0) (printed P end a b c up h.1)
ending_written P a b c end up (Err failed) h k = broken P end a b c up k
