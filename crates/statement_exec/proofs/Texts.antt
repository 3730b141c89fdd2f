-- Texts of lines one after the other, and what was written of them.
use Rattle.std.proofs.Common.{ℕ, List, [], ◌∷◌, ◌++◌, refl, sym, ◌∙◌, ap, subst}
use Rattle.std.proofs.lemmas.List.{append_assoc, append-nil}
use Rattle.sand_base.specs.Streams.{Adds, Stays}
use Rattle.sand_base.specs.declared.refusal.Refusal.{Refusal}
use Rattle.sand_model.specs.Cursor.{OutputLine, Refused}
use Rattle.sand_model.specs.OutputText.{IsText, is_refused, refused_text}
use Rattle.std.specs.List.{list_any}
use Rattle.statement_exec.specs.Printing.{PrintsSome}
use Rattle.output_text.specs.Writing.{Writes, WritesPrefix}

pub text_append : (xs ys : List OutputLine) (s t : List ℕ) → IsText xs s → IsText ys t → IsText (xs ++ ys) (s ++ t)
text_append [] ys s t h k = subst (λ (u : List ℕ). IsText ys (u ++ t)) (sym h) k
text_append (x ∷ xs) ys s t h k = (h.0, h.1 ++ t, h.2, text_append xs ys h.1 t h.3 k, ap (λ (u : List ℕ). u ++ t) h.4 ∙ append_assoc h.0 (10 ∷ h.1) t)

-- nothing was written
pub adds_none : (a : List ℕ → Type 0) → Adds a a []
adds_none a bytes h = subst a (sym (append-nil bytes)) h

pub adds_more : (a b c : List ℕ → Type 0) (s t : List ℕ) → Adds a b s → Adds b c t → Adds a c (s ++ t)
adds_more a b c s t h k bytes x = subst c (append_assoc bytes s t) (k (bytes ++ s) (h bytes x))

pub adds_then_stays : (a b c : List ℕ → Type 0) (s : List ℕ) → Adds a b s → Stays b c → Adds a c s
adds_then_stays a b c s h k bytes x = k (bytes ++ s) (h bytes x)

-- lines were written, and more lines behind them
pub writes_more : (a b c : List ℕ → Type 0) (xs ys : List OutputLine) → Writes (IsText xs) a b → Writes (IsText ys) b c → Writes (IsText (xs ++ ys)) a c
writes_more a b c xs ys h k = record {
  text = h.text ++ k.text;
  holds = text_append xs ys h.text k.text h.holds k.holds;
  written = adds_more a b c h.text k.text h.written k.written;
}

-- lines were written, and a prefix of the lines behind them
pub breaks_more : (a b c : List ℕ → Type 0) (xs ys : List OutputLine) → Writes (IsText xs) a b → WritesPrefix (IsText ys) b c → WritesPrefix (IsText (xs ++ ys)) a c
breaks_more a b c xs ys h k = record {
  text = h.text ++ k.text;
  holds = text_append xs ys h.text k.text h.holds k.holds;
  prefix = record {
    prefix = h.text ++ k.prefix.prefix;
    rest = k.prefix.rest;
    same = ap (λ (u : List ℕ). h.text ++ u) k.prefix.same ∙ sym (append_assoc h.text k.prefix.prefix k.prefix.rest);
    written = adds_more a b c h.text k.prefix.prefix h.written k.prefix.written;
  };
}

pub writes_none : (a : List ℕ → Type 0) → Writes (IsText []) a a
writes_none a = record { text = []; holds = refl; written = adds_none a }

pub writes_then_stays : (a b c : List ℕ → Type 0) (P : List ℕ → Type 0) → Writes P a b → Stays b c → Writes P a c
writes_then_stays a b c P h k = record { text = h.text; holds = h.holds; written = adds_then_stays a b c h.text h.written k }

-- the text of a refusal's line
pub refusal_text : (w : Refusal) → IsText (Refused w ∷ []) (refused_text w ++ 10 ∷ [])
refusal_text w = (refused_text w, [], refl, refl, refl)

-- a prefix of lines is one of these lines with a refusal behind them
pub breaks_with : (P : List OutputLine → Type 0) (a b : List ℕ → Type 0) (xs : List OutputLine) (w : Refusal) → P (xs ++ Refused w ∷ []) → WritesPrefix (IsText xs) a b
    → WritesPrefix (PrintsSome P) a b
breaks_with P a b xs w h k =
    let more : List ℕ = refused_text w ++ 10 ∷ [] in
    let lines : List OutputLine = xs ++ Refused w ∷ [] in
    record {
      text = k.text ++ more;
      holds = (list_any is_refused lines, record { lines = lines; holds = h; told = text_append xs (Refused w ∷ []) k.text more k.holds (refusal_text w); refused = refl });
      prefix = record {
        prefix = k.prefix.prefix;
        rest = k.prefix.rest ++ more;
        same = ap (λ (u : List ℕ). u ++ more) k.prefix.same ∙ append_assoc k.prefix.prefix k.prefix.rest more;
        written = k.prefix.written;
      };
    }
