-- A run over a shelf whose lines are all carried out in the setting of the run is a run of the model; and a run over a shelf in two parts.
use Rattle.std.proofs.Common.{◌≡◌, ◌⊎◌, ◌+◌, Bool, true, false, ◌||◌, List, [], ◌∷◌, ◌++◌, Option, Some, refl, sym, ap, ◌∙◌, subst, true≢false, arith, append_assoc}
use Rattle.std.specs.List.{list_any}
use Rattle.sand_base.specs.Shelf.{Files}
use Rattle.sand_base.specs.declared.refusal.Refusal.TheVariants as why
use Rattle.sand_model.specs.Cursor.{State, OutputLine}
use Rattle.sand_model.specs.Outcome.{Rises, IsRefusedBy}
use Rattle.sand_model.specs.Run.{Run, LineOutcome}
use Rattle.sand_model.specs.ScriptLine.{ScriptLine, Says}
use Rattle.statements.specs.Statement.{Load}
use Rattle.sand_model.specs.StatementChecks.{Setting}
use Rattle.line_meaning.specs.ShelfRun.{FindsFiles, ShelfRun, is_load}
use Rattle.run_laws.specs.ShelfRuns.{RunsInTwo}

-- what a line does in a setting, or that it is refused as out of memory
abbrev Goes : Rises → State → ScriptLine → List OutputLine → State → Setting → Type 0
Goes rises old line first mid own = LineOutcome own rises old line first mid ⊎ IsRefusedBy why.Memory old first mid

module _ (files : Option Files) (setting : Setting) where
  -- a load finds the files that are told
  found_told : (told : Files) (line : ScriptLine) (own : Setting) → files ≡ Some told → setting.files ≡ told → FindsFiles files setting line own → own ≡ setting
  found_told told (Says (Load relation file header)) own is has (found, same, at) = at ∙ ap (λ (f : Files). record setting { files = f }) (same told is ∙ sym has)
  found_told told _ own is has at = at

  pub run_told : (told : Files) (old new : State) (script : List ScriptLine) (rises : Rises) (printed : List OutputLine) → files ≡ Some told → setting.files ≡ told
      → ShelfRun files setting old script rises printed new → Run setting old script rises printed new
  run_told told old new [] rises printed is has h = h
  run_told told old new (line ∷ script) rises printed is has (own, finds, h) = record {
    own = h.own;
    others = h.others;
    fit = h.fit;
    first = h.first;
    more = h.more;
    mid = h.mid;
    outcome = subst (Goes h.own old line h.first h.mid) (found_told told line own is has finds) h.outcome;
    goes = run_told told h.mid new script h.others h.more is has h.goes;
    printed_is = h.printed_is;
  }

  -- a line that is no load finds the setting of the run
  found_unloaded : (line : ScriptLine) (own : Setting) → is_load line ≡ false → FindsFiles files setting line own → own ≡ setting
  found_unloaded (Says (Load relation file header)) own none h = absurd (true≢false none)
  found_unloaded _ own none at = at

  pub run_unloaded : (old new : State) (script : List ScriptLine) (rises : Rises) (printed : List OutputLine) → list_any is_load script ≡ false
      → ShelfRun files setting old script rises printed new → Run setting old script rises printed new
  run_unloaded old new [] rises printed none h = h
  run_unloaded old new (line ∷ script) rises printed none (own, finds, h) =
      let no = neither (is_load line) (list_any is_load script) none in
      record {
        own = h.own;
        others = h.others;
        fit = h.fit;
        first = h.first;
        more = h.more;
        mid = h.mid;
        outcome = subst (Goes h.own old line h.first h.mid) (found_unloaded line own no.0 finds) h.outcome;
        goes = run_unloaded h.mid new script h.others h.more no.1 h.goes;
        printed_is = h.printed_is;
      } where
        neither : (a b : Bool) → (a || b) ≡ false → (a ≡ false) × (b ≡ false)
        neither true b e = absurd (true≢false e)
        neither false b e = (refl, e)

  -- the lines up to some place, and those behind it
  pub run_split : (old new : State) (before behind : List ScriptLine) (rises : Rises) (printed : List OutputLine) → ShelfRun files setting old (before ++ behind) rises printed new
      → RunsInTwo files setting old before behind rises printed new
  run_split old new [] behind rises printed h = record {
    own = record { disk = 0; shelf = 0 };
    others = rises;
    fit = record { disk = omega arith; shelf = omega arith };
    first = [];
    more = printed;
    printed_is = refl;
    mid = old;
    runs = (refl, refl);
    goes = h;
  }
  run_split old new (line ∷ before) behind rises printed (own, finds, h) =
      let s = run_split h.mid new before behind h.others h.more h.goes in
      record {
        own = record { disk = h.own.disk + s.own.disk; shelf = h.own.shelf + s.own.shelf };
        others = s.others;
        fit = record { disk = omega (arith, h.fit.disk, s.fit.disk); shelf = omega (arith, h.fit.shelf, s.fit.shelf) };
        first = h.first ++ s.first;
        more = s.more;
        printed_is = h.printed_is ∙ (ap (λ (lines : List OutputLine). h.first ++ lines) s.printed_is ∙ sym (append_assoc h.first s.first s.more));
        mid = s.mid;
        runs = (
          own,
          finds,
          record {
            own = h.own;
            others = s.own;
            fit = record { disk = omega arith; shelf = omega arith };
            first = h.first;
            more = s.first;
            mid = h.mid;
            outcome = h.outcome;
            goes = s.runs;
            printed_is = refl;
          },
        );
        goes = s.goes;
      }
