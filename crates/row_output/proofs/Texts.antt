-- The text of lines behind that of others.
use Rattle.std.proofs.Common.{ℕ, List, [], ◌∷◌, ◌++◌, refl, sym, ap, ◌∙◌, subst, append_assoc, append-nil}
use Rattle.sand_model.specs.Cursor.{OutputLine}
use Rattle.sand_model.specs.OutputText.{IsText}
use Rattle.output_text.specs.Writing.{Writes, WritesPrefix}
use Rattle.row_output.specs.Printing.{IsCutInLast}
use Rattle.output_text.proofs.WrittenPrefix.{Adds-trans}

pub text_both : (xs ys : List OutputLine) (s t : List ℕ) → IsText xs s → IsText ys t → IsText (xs ++ ys) (s ++ t)
text_both [] ys s t h k = subst (λ u. IsText ys (u ++ t)) (sym h) k
text_both (x ∷ xs) ys s t h k =
    (h.0, h.1 ++ t, h.2, text_both xs ys h.1 t h.3 k, ap (λ u. u ++ t) h.4 ∙ append_assoc h.0 (10 ∷ h.1) t)

-- no lines
pub writes_none : (before : List ℕ → Type 0) → Writes (IsText []) before before
writes_none before = record { text = []; holds = refl; written = λ bytes taken. subst before (sym (append-nil bytes)) taken }

-- lines and then others
pub writes_both : (xs ys : List OutputLine) (before mid now : List ℕ → Type 0) → Writes (IsText xs) before mid → Writes (IsText ys) mid now → Writes (IsText (xs ++ ys)) before now
writes_both xs ys before mid now a b = record {
  text = a.text ++ b.text;
  holds = text_both xs ys a.text b.text a.holds b.holds;
  written = Adds-trans before mid now a.text b.text a.written b.written;
}

-- lines and then a prefix of others
pub writes_prefix : (xs ys : List OutputLine) (before mid now : List ℕ → Type 0) → Writes (IsText xs) before mid → WritesPrefix (IsText ys) mid now → WritesPrefix (IsText (xs ++ ys)) before now
writes_prefix xs ys before mid now a b = record {
  text = a.text ++ b.text;
  holds = text_both xs ys a.text b.text a.holds b.holds;
  prefix = record {
    prefix = a.text ++ b.prefix.prefix;
    rest = b.prefix.rest;
    same = ap (λ u. a.text ++ u) b.prefix.same ∙ sym (append_assoc a.text b.prefix.prefix b.prefix.rest);
    written = Adds-trans before mid now a.text b.prefix.prefix a.written b.prefix.written;
  };
}

-- lines and then nothing
pub writes_stay : (xs : List OutputLine) (before mid now : List ℕ → Type 0) → Writes (IsText xs) before mid → ((bytes : List ℕ) → mid bytes → now bytes) → Writes (IsText xs) before now
writes_stay xs before mid now a stays = record { text = a.text; holds = a.holds; written = λ bytes taken. stays (bytes ++ a.text) (a.written bytes taken) }

-- lines and then a prefix of one more
pub cut_in_last : (xs : List OutputLine) (last : OutputLine) (before mid now : List ℕ → Type 0) → Writes (IsText xs) before mid
    → WritesPrefix (IsText (last ∷ [])) mid now → IsCutInLast (xs ++ last ∷ []) before now
cut_in_last xs last before mid now a b = record {
  front = xs;
  last = last;
  split = refl;
  text = a.text;
  whole = a.holds;
  line = b.text;
  of_last = b.holds;
  prefix = b.prefix.prefix;
  rest = b.prefix.rest;
  cut = b.prefix.same;
  written = Adds-trans before mid now a.text b.prefix.prefix a.written b.prefix.written;
}
