-- Lines that have their causes, one after the other.
use Rattle.std.proofs.Common.{◌≡◌, ◌+◌, ◌<◌, Bool, false, List, [], ◌∷◌, ◌++◌, refl, sym, subst, ◌∙◌, arith}
use Rattle.std.specs.Prelude.{⊤}
use Rattle.std.specs.List.{count_by}
use Rattle.std.proofs.lemmas.List.Sums.{sum_by-append}
use Rattle.std.proofs.lemmas.List.Folds.{list_any-append}
use Rattle.sand_base.specs.declared.refusal.Refusal.{Refusal}
use Rattle.sand_base.specs.declared.refusal.Refusal.TheVariants as why
use Rattle.sand_model.specs.Cursor.{OutputLine, Refused}
use Rattle.sand_model.specs.Outcome.{Rises}
use Rattle.sand_model.specs.Run.{FitIn}
use Rattle.statement_exec.specs.Causes.{is_of_device, is_of_file}
use Rattle.run_laws.specs.Causes.{is_of_damage, HaveCauses}

-- the line is none of a refusal
abbrev pub IsNoRefusal : OutputLine → Type 0
IsNoRefusal (Refused refusal) = ⊥
IsNoRefusal _ = ⊤

-- none of the lines is one of a refusal
abbrev pub AreNoRefusals : List OutputLine → Type 0
AreNoRefusals [] = ⊤
AreNoRefusals (line ∷ lines) = IsNoRefusal line × AreNoRefusals lines

-- the refusal comes from outside by its cause, or from a check, or of memory
abbrev pub HasItsCause : Bool → Rises → Refusal → Type 0
HasItsCause tells rises why.Device = 0 < rises.disk
HasItsCause tells rises (why.Damaged page kept read) = tells ≡ false
HasItsCause tells rises why.File = 0 < rises.shelf
HasItsCause tells rises _ = ⊤

module _ (tells : Bool) where
  pub causes_none : (rises : Rises) → HaveCauses tells rises []
  causes_none rises = record { device = omega arith; file = omega arith; damage = λ told. refl }

  pub causes_refusal : (rises : Rises) (refusal : Refusal) → HasItsCause tells rises refusal → HaveCauses tells rises (Refused refusal ∷ [])
  causes_refusal rises why.Device h = record { device = omega (arith, h); file = omega arith; damage = λ told. refl }
  causes_refusal rises (why.Damaged page kept read) h = record { device = omega arith; file = omega arith; damage = λ told. absurd cc }
  causes_refusal rises why.File h = record { device = omega arith; file = omega (arith, h); damage = λ told. refl }
  causes_refusal rises _ h = record { device = omega arith; file = omega arith; damage = λ told. refl }

  -- a line that is no refusal needs no cause
  pub causes_more : (rises : Rises) (line : OutputLine) (lines : List OutputLine) → IsNoRefusal line → HaveCauses tells rises lines → HaveCauses tells rises (line ∷ lines)
  causes_more rises (Refused refusal) lines h k = absurd h
  causes_more rises _ lines h k = record { device = omega (arith, k.device); file = omega (arith, k.file); damage = k.damage }

  pub causes_line : (rises : Rises) (line : OutputLine) → IsNoRefusal line → HaveCauses tells rises (line ∷ [])
  causes_line rises line h = causes_more rises line [] h (causes_none rises)

  -- lines that are no refusals need no causes, before others
  pub causes_behind : (rises : Rises) (first more : List OutputLine) → AreNoRefusals first → HaveCauses tells rises more → HaveCauses tells rises (first ++ more)
  causes_behind rises [] more h k = k
  causes_behind rises (line ∷ first) more h k = causes_more rises line (first ++ more) h.0 (causes_behind rises first more h.1 k)

  -- lines and lines behind them
  pub causes_append : (own others all : Rises) (first more : List OutputLine) → FitIn own others all
      → HaveCauses tells own first → HaveCauses tells others more → HaveCauses tells all (first ++ more)
  causes_append own others all first more fit h k = record {
    device = omega (arith, count_append is_of_device first more, h.device, k.device, fit.disk);
    file = omega (arith, count_append is_of_file first more, h.file, k.file, fit.shelf);
    damage = λ told. list_any-append is_of_damage first more ∙ (rw (h.damage told, k.damage told) refl);
  } where
    count_append : (p : OutputLine → Bool) (xs ys : List OutputLine) → count_by p (xs ++ ys) ≡ count_by p xs + count_by p ys
    count_append p xs ys = sum_by-append _ xs ys

  -- lines that are these
  pub causes_of : (rises : Rises) (lines these : List OutputLine) → lines ≡ these → HaveCauses tells rises these → HaveCauses tells rises lines
  causes_of rises lines these e h = subst (HaveCauses tells rises) (sym e) h
