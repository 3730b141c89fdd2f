-- A row and the row in lowest terms have one line.
use Rattle.std.proofs.Common.{◌≡◌, ℕ, List, [], ◌∷◌, Option, None, Some, sym}
use Rattle.std.specs.Prelude.{option_map}
use Rattle.exact_frac.specs.Printed.{IsPrinted}
use Rattle.exact_frac.specs.declared.frac.Frac.{Frac}
use Rattle.exact_frac.proofs.LowestTerms.{SameValue-trans}
use Rattle.sand_base.specs.declared.value.Value.{Value}
use Rattle.sand_model.specs.Cursor.{Row}
use Rattle.sand_model.specs.Operators.{PlanRow}
use Rattle.sand_model.specs.OutputText.{IsText, PrintsGap}
use Rattle.output_text.specs.Writing.{Writes, WritesPrefix}
use Rattle.plan_iterator.specs.Lowest.{lowest_of}
use Rattle.plan_iterator.specs.Rows.{row_of}
use Rattle.plan_iterator.specs.declared.answer.Answer.{Answer}
use Rattle.plan_iterator.proofs.LowestFractions.{lowest_value}

-- the row as it is
abbrev pub plain_row : Answer → PlanRow
plain_row a = record { gap = a.gap; ids = a.ids; values = a.values }

-- the text of a fraction is that of the fraction in lowest terms
printed_lowest : (f : Frac) (text : List ℕ) → IsPrinted f.num f.den text → IsPrinted (lowest_of f).num (lowest_of f).den text
printed_lowest f text p = record {
  n = p.n;
  d = p.d;
  same = SameValue-trans p.n p.d f.num f.den (lowest_of f).num (lowest_of f).den f.positive p.same (sym (lowest_value f));
  positive = p.positive;
  lowest = p.lowest;
  written = p.written;
}

printed_gap : (gap : Option Frac) (parts : List (List ℕ)) → PrintsGap gap parts → PrintsGap (option_map lowest_of gap) parts
printed_gap None parts h = h
printed_gap (Some f) parts h = (h.0, printed_lowest f h.0 h.1, h.2)

-- a text of the row's line is one of the line of the row in lowest terms
printed_row : (a : Answer) (text : List ℕ) → IsText (Row (plain_row a) ∷ []) text → IsText (Row (row_of a) ∷ []) text
printed_row a text h = (h.0, h.1, (h.2.0, printed_gap a.gap h.2.0 h.2.1, h.2.2), h.3, h.4)

pub writes_row : (a : Answer) (before now : List ℕ → Type 0) → Writes (IsText (Row (plain_row a) ∷ [])) before now → Writes (IsText (Row (row_of a) ∷ [])) before now
writes_row a before now w = record { text = w.text; holds = printed_row a w.text w.holds; written = w.written }

pub breaks_row : (a : Answer) (before now : List ℕ → Type 0) → WritesPrefix (IsText (Row (plain_row a) ∷ [])) before now → WritesPrefix (IsText (Row (row_of a) ∷ [])) before now
breaks_row a before now w = record { text = w.text; holds = printed_row a w.text w.holds; prefix = w.prefix }

-- the same where the parts of the row were lent
pub lent_row : (a : Answer) (ids : List ℕ) (values : List Value) → ids ≡ a.ids → values ≡ a.values
    → ◌≡◌ {A = PlanRow} (record { gap = a.gap; ids = ids; values = values }) (plain_row a)
lent_row a ids values e h = λ i. record { gap = a.gap; ids = e i; values = h i }
