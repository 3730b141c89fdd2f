-- Rows and lines whose texts are formed or broke off.
use Rattle.std.proofs.Common.{◌≡◌, ℕ, List, [], ◌∷◌, ◌++◌, map, refl, sym, ap, ◌∙◌, subst, append_assoc, append-nil}
use Rattle.std.specs.Prelude.{Some}
use Rattle.std.specs.Fmt.{decimal}
use Rattle.exact_frac.specs.Printed.{IsPrinted}
use Rattle.exact_frac.specs.declared.frac.Frac.{Frac}
use Rattle.sand_base.specs.Streams.{Adds}
use Rattle.sand_base.specs.declared.value.Value.{Value}
use Rattle.sand_model.specs.Cursor.{OutputLine, Row}
use Rattle.sand_model.specs.Operators.{PlanRow}
use Rattle.sand_model.specs.OutputText.{IsText, PrintsLine, PrintsRow, value_text}
use Rattle.output_text.specs.Forming.{BreaksSome, Forms, FormsSome}
use Rattle.output_text.specs.Joined.{led}
use Rattle.output_text.specs.Writing.{AddsPrefix, Writes, WritesPrefix}
use Rattle.output_text.proofs.Gaps.{whole-printed}
use Rattle.output_text.proofs.Forming.{Forms-both, AddsPrefix-second, AddsPrefix-more}
use Rattle.output_text.proofs.Listed.{joined-led}
use Rattle.output_text.proofs.WrittenPrefix.{Adds-trans}

-- the row with a gap
abbrev measured : Frac → List ℕ → List Value → PlanRow
measured gap ids values = record { gap = Some gap; ids = ids; values = values }

-- its text: that of the gap, and the others behind tabs
abbrev rest_text : List ℕ → List Value → List ℕ
rest_text ids values = led (9 ∷ []) (map decimal ids ++ map value_text values)

row-printed : (gap : Frac) (ids : List ℕ) (values : List Value) (text : List ℕ) → IsPrinted gap.num gap.den text
    → PrintsRow (measured gap ids values) (text ++ rest_text ids values)
row-printed gap ids values text printed = (
  text ∷ [],
  (text, printed, refl),
  sym (joined-led (9 ∷ []) text (map decimal ids ++ map value_text values)),
)

-- a row is formed
pub row-formed : (gap : Frac) (ids : List ℕ) (values : List Value) (old held new : List ℕ) (before mid now : List ℕ → Type 0)
    → FormsSome (IsPrinted gap.num gap.den) before mid old held → Forms mid now held new (rest_text ids values)
    → FormsSome (PrintsRow (measured gap ids values)) before now old new
row-formed gap ids values old held new before mid now first second = record {
  text = first.text ++ rest_text ids values;
  holds = row-printed gap ids values first.text first.holds;
  formed = Forms-both before mid now old held new first.text (rest_text ids values) _ first.formed second refl;
}

-- the gap of a row broke off
pub row-first : (gap : Frac) (ids : List ℕ) (values : List Value) (old : List ℕ) (before now : List ℕ → Type 0)
    → BreaksSome (IsPrinted gap.num gap.den) before now old → BreaksSome (PrintsRow (measured gap ids values)) before now old
row-first gap ids values old before now broken = record {
  text = broken.text ++ rest_text ids values;
  holds = row-printed gap ids values broken.text broken.holds;
  prefix = AddsPrefix-more before now old broken.text (rest_text ids values) broken.prefix;
}

-- a row broke off behind its gap
pub row-second : (gap : Frac) (ids : List ℕ) (values : List Value) (old held : List ℕ) (before mid now : List ℕ → Type 0)
    → FormsSome (IsPrinted gap.num gap.den) before mid old held → AddsPrefix mid now (held ++ rest_text ids values)
    → BreaksSome (PrintsRow (measured gap ids values)) before now old
row-second gap ids values old held before mid now first broken = record {
  text = first.text ++ rest_text ids values;
  holds = row-printed gap ids values first.text first.holds;
  prefix = AddsPrefix-second before mid now old held first.text (rest_text ids values) _ first.formed broken refl;
}

-- the text of a line with its line feed
line-text : (o : OutputLine) (text : List ℕ) → PrintsLine o text → IsText (o ∷ []) (text ++ 10 ∷ [])
line-text o text prints = (text, [], prints, refl, refl)

-- a line is formed, and its line feed behind it is written
pub line-written : (o : OutputLine) (start held : List ℕ) (before mid now : List ℕ → Type 0) → start ≡ []
    → FormsSome (PrintsLine o) before mid start held → Adds mid now (held ++ 10 ∷ []) → Writes (IsText (o ∷ [])) before now
line-written o start held before mid now empty line added =
    let same : line.text ≡ line.formed.out ++ held = ap (λ s. s ++ line.text) (sym empty) ∙ line.formed.same in record {
      text = line.text ++ 10 ∷ [];
      holds = line-text o line.text line.holds;
      written = subst (Adds before now) (sym (append_assoc line.formed.out held (10 ∷ [])) ∙ ap (λ t. t ++ 10 ∷ []) (sym same))
          (Adds-trans before mid now line.formed.out (held ++ 10 ∷ []) line.formed.written added);
    }

-- a prefix behind nothing
behind-nothing : (start text : List ℕ) (before now : List ℕ → Type 0) → start ≡ [] → AddsPrefix before now (start ++ text) → AddsPrefix before now text
behind-nothing start text before now empty broken = subst (λ s. AddsPrefix before now (s ++ text)) empty broken

-- a line broke off
pub line-prefix : (o : OutputLine) (start : List ℕ) (before now : List ℕ → Type 0) → start ≡ [] → BreaksSome (PrintsLine o) before now start
    → WritesPrefix (IsText (o ∷ [])) before now
line-prefix o start before now empty line = record {
  text = line.text ++ 10 ∷ [];
  holds = line-text o line.text line.holds;
  prefix = behind-nothing start (line.text ++ 10 ∷ []) before now empty (AddsPrefix-more before now start line.text (10 ∷ []) line.prefix);
}

-- a line is formed, and broke off as it was written
pub line-cut : (o : OutputLine) (start held : List ℕ) (before mid now : List ℕ → Type 0) → start ≡ []
    → FormsSome (PrintsLine o) before mid start held → AddsPrefix mid now (held ++ 10 ∷ []) → WritesPrefix (IsText (o ∷ [])) before now
line-cut o start held before mid now empty line broken = record {
  text = line.text ++ 10 ∷ [];
  holds = line-text o line.text line.holds;
  prefix = behind-nothing start (line.text ++ 10 ∷ []) before now empty
      (AddsPrefix-second before mid now start held line.text (10 ∷ []) (line.text ++ 10 ∷ []) line.formed broken refl);
}

-- the text of a short row: a whole number, and the ids behind tabs
abbrev short_text : ℕ → List ℕ → List ℕ
short_text shown ids = decimal shown ++ led (9 ∷ []) (map decimal ids)

short-printed : (gap : Frac) (ids : List ℕ) (shown : ℕ) → gap.den ≡ 1 → shown ≡ gap.num
    → IsText (Row (measured gap ids []) ∷ []) (short_text shown ids ++ 10 ∷ [])
short-printed gap ids shown one is =
    line-text (Row (measured gap ids [])) (short_text shown ids)
    (subst (λ texts. PrintsRow (measured gap ids []) (decimal shown ++ led (9 ∷ []) texts)) (append-nil (map decimal ids))
    (row-printed gap ids [] (decimal shown) (whole-printed gap.num gap.den shown one is)))

-- its parts, appended to nothing
short-held : (ids start mid held : List ℕ) (shown : ℕ) → start ≡ [] → mid ≡ start ++ decimal shown → held ≡ mid ++ led (9 ∷ []) (map decimal ids)
    → held ≡ short_text shown ids
short-held ids start mid held shown empty first second =
    second ∙ ap (λ t. t ++ led (9 ∷ []) (map decimal ids)) (first ∙ ap (λ s. s ++ decimal shown) empty)

-- a short row is written
pub short-written : (gap : Frac) (ids start mid held : List ℕ) (shown : ℕ) (before now : List ℕ → Type 0) → gap.den ≡ 1 → shown ≡ gap.num
    → start ≡ [] → mid ≡ start ++ decimal shown → held ≡ mid ++ led (9 ∷ []) (map decimal ids) → Adds before now (held ++ 10 ∷ [])
    → Writes (IsText (Row (measured gap ids []) ∷ [])) before now
short-written gap ids start mid held shown before now one is empty first second added = record {
  text = short_text shown ids ++ 10 ∷ [];
  holds = short-printed gap ids shown one is;
  written = subst (λ t. Adds before now (t ++ 10 ∷ [])) (short-held ids start mid held shown empty first second) added;
}

-- a short row broke off
pub short-broken : (gap : Frac) (ids start mid held : List ℕ) (shown : ℕ) (before now : List ℕ → Type 0) → gap.den ≡ 1 → shown ≡ gap.num
    → start ≡ [] → mid ≡ start ++ decimal shown → held ≡ mid ++ led (9 ∷ []) (map decimal ids) → AddsPrefix before now (held ++ 10 ∷ [])
    → WritesPrefix (IsText (Row (measured gap ids []) ∷ [])) before now
short-broken gap ids start mid held shown before now one is empty first second broken = record {
  text = short_text shown ids ++ 10 ∷ [];
  holds = short-printed gap ids shown one is;
  prefix = subst (λ t. AddsPrefix before now (t ++ 10 ∷ [])) (short-held ids start mid held shown empty first second) broken;
}
