-- The lines of a text, seen in it.
use Rattle.std.proofs.Common.{◌≡◌, ℕ, ◌+◌, Bool, cond, List, [], ◌∷◌, refl, sym, ap, ◌∙◌}
use Rattle.std.specs.Prelude.{⊤}
use Rattle.std.specs.List.{count_by}
use Rattle.std.proofs.lemmas.List.Sums.{sum_by-cons}
use Rattle.sand_model.specs.Cursor.{OutputLine}
use Rattle.sand_model.specs.OutputText.{IsText, is_refused}
use Rattle.sand_model.specs.PlainLines.{IsPlainLine}
use Rattle.script_lines.proofs.Cutting.{cut-line}
use Rattle.script_lines.specs.Lines.{ended_lines}
use Rattle.run_laws.specs.SeenRefusals.{says_refused}
use Rattle.run_laws.proofs.LineTexts.{line_seen}

-- each line is plain
abbrev pub ArePlain : List OutputLine → Type 0
ArePlain [] = ⊤
ArePlain (line ∷ lines) = IsPlainLine line × ArePlain lines

-- one more that passes a test or not
counted : {A : Type 0} (p : A → Bool) (x : A) (xs : List A) → count_by p (x ∷ xs) ≡ cond (p x) 1 0 + count_by p xs
counted p x xs = sum_by-cons (λ a. cond (p a) 1 0) x xs

pub lines_seen : (printed : List OutputLine) → ArePlain printed → (text : List ℕ) → IsText printed text → count_by says_refused (ended_lines text) ≡ count_by is_refused printed
lines_seen [] h text e = rw e refl
lines_seen (line ∷ printed) h text (own, more, is, rest, e) =
    let seen = line_seen line h.0 own is in
    let cut : ended_lines text ≡ own ∷ ended_lines more = ap ended_lines e ∙ ap (λ q. q.0) (cut-line own more seen.free) in
    let behind = lines_seen printed h.1 more rest in
    ap (count_by says_refused) cut ∙ counted says_refused own (ended_lines more)
    ∙ ap (λ b. cond b 1 0 + count_by says_refused (ended_lines more)) seen.begins
    ∙ ap (λ n. cond (is_refused line) 1 0 + n) behind ∙ sym (counted is_refused line printed)
