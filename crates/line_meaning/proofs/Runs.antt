-- One more line at the end of a run over a shelf.
use Rattle.std.proofs.Common.{◌≡◌, ◌⊎◌, ℕ, ◌+◌, ◌<◌, ◌≤◌, Option, List, [], ◌∷◌, ◌++◌, refl, sym, ◌∙◌, ap, subst, arith}
use Rattle.std.specs.Prelude.{IsTrue, All, Bool}
use Rattle.std.specs.List.{count_by}
use Rattle.std.proofs.lemmas.List.Elements.{All-append}
use Rattle.std.proofs.lemmas.List.Sums.{sum_by-append}
use Rattle.std.proofs.lemmas.List.{append_assoc, append-nil}
use Rattle.sand_base.specs.Faults.{last_count}
use Rattle.sand_base.specs.Shelf.{Files}
use Rattle.sand_base.specs.declared.refusal.Refusal.TheVariants as why
use Rattle.sand_model.specs.Cursor.{State, OutputLine}
use Rattle.sand_model.specs.Outcome.{Rises, IsRefusedBy}
use Rattle.sand_model.specs.Run.{FitIn, LineOutcome}
use Rattle.sand_model.specs.ScriptLine.{ScriptLine}
use Rattle.sand_model.specs.StatementChecks.{Setting}
use Rattle.script_lines.specs.Lines.{clipped}
use Rattle.statement_exec.specs.Causes.{AreCaused, IsCausedDamage, is_of_device, is_of_file}
use Rattle.statement_exec.specs.Moment.{Moment, rises_between, IsSettingOf}
use Rattle.statement_exec.specs.Outline.{Outline, outline_of}
use Rattle.line_meaning.specs.Said.{AnswersSaid, AnswerInOrder}
use Rattle.line_meaning.specs.Carrying.{CarriesLine, CarriesLines, FollowsMoment}
use Rattle.line_meaning.specs.ShelfRun.{FindsFiles, ShelfRun}
use Rattle.line_meaning.specs.Spoken.{IsLine, AreLines}

-- a line of a run, or its want of memory
abbrev Goes : Setting → Rises → State → ScriptLine → List OutputLine → State → Type 0
Goes setting own old line first mid = LineOutcome setting own old line first mid ⊎ IsRefusedBy why.Memory old first mid

-- the rises of both
abbrev both : Rises → Rises → Rises
both a b = record { disk = a.disk + b.disk; shelf = a.shelf + b.shelf }

no_rises : Rises
no_rises = record { disk = 0; shelf = 0 }

pub run_append : (files : Option Files) (setting : Setting) (old mid new : State) (script : List ScriptLine) (line : ScriptLine) (before own all : Rises)
    (printed more : List OutputLine) (found : Setting)
    → ShelfRun files setting old script before printed mid → FindsFiles files setting line found → Goes found own mid line more new → FitIn before own all
    → ShelfRun files setting old (script ++ line ∷ []) all (printed ++ more) new
unfolding no_rises
run_append files setting old mid new [] line before own all printed more found ran finds goes fit = (
  found,
  finds,
  record {
    own = own;
    others = no_rises;
    fit = record { disk = omega (arith, fit.disk); shelf = omega (arith, fit.shelf) };
    first = more;
    more = [];
    mid = new;
    outcome = subst (λ (s : State). Goes found own s line more new) ran.1 goes;
    goes = (refl, refl);
    printed_is = ap (λ (p : List OutputLine). p ++ more) ran.0 ∙ sym (append-nil more);
  },
)
run_append files setting old mid new (x ∷ script) line before own all printed more found (at, at_finds, ran) finds goes fit = (
  at,
  at_finds,
  record {
    own = ran.own;
    others = both ran.others own;
    fit = record { disk = omega (arith, fit.disk, ran.fit.disk); shelf = omega (arith, fit.shelf, ran.fit.shelf) };
    first = ran.first;
    more = ran.more ++ more;
    mid = ran.mid;
    outcome = ran.outcome;
    goes = run_append files setting ran.mid mid new script line ran.others own (both ran.others own) ran.more more found ran.goes finds goes (record { disk = omega arith; shelf = omega arith });
    printed_is = ap (λ (p : List OutputLine). p ++ more) ran.printed_is ∙ append_assoc ran.first ran.more more;
  },
)

-- one more line printed by what it says, behind the others
answer_append : (files : Option Files) (setting : Setting) (old mid new : Outline) (script : List ScriptLine) (line : ScriptLine) (printed more : List OutputLine)
    → AnswerInOrder files setting old script printed mid → AnswersSaid files setting mid line more new → AnswerInOrder files setting old (script ++ line ∷ []) (printed ++ more) new
answer_append files setting old mid new [] line printed more none last = (
  more,
  [],
  new,
  subst (λ (o : Outline). AnswersSaid files setting o line more new) none.1 last,
  (refl, refl),
  ap (λ (p : List OutputLine). p ++ more) none.0 ∙ sym (append-nil more),
)
answer_append files setting old mid new (x ∷ script) line printed more (own, others, next, one, rest, is) last = (
  own,
  others ++ more,
  next,
  one,
  answer_append files setting next mid new script line others more rest last,
  ap (λ (p : List OutputLine). p ++ more) is ∙ append_assoc own others more,
)

-- what lines and one more line say is what these say and what that one says
split_lines : (lines : List (List ℕ)) (line : List ℕ) (script : List ScriptLine) → AreLines (lines ++ line ∷ []) script
    → (before : List ScriptLine) × ((told : ScriptLine) × ((script ≡ before ++ told ∷ []) × (AreLines lines before × IsLine (clipped line) told)))
split_lines [] line [] h = absurd h
split_lines [] line (told ∷ []) h = ([], (told, (refl, (tt, h.0))))
split_lines [] line (told ∷ (other ∷ script)) h = absurd h.1
split_lines (x ∷ lines) line [] h = absurd h
split_lines (x ∷ lines) line (told ∷ script) h =
    let s = split_lines lines line script h.1 in
    (told ∷ s.0, (s.1.0, (ap (λ (xs : List ScriptLine). told ∷ xs) s.1.1.0, ((h.0, s.1.1.1.0), s.1.1.1.1))))

-- a setting of a moment is one of each that follows
pub setting_later : (old new : Moment) (setting : Setting) → FollowsMoment old new → IsSettingOf old setting → IsSettingOf new setting
setting_later old new setting f s = record { is = s.is; limits = s.limits ∙ sym f.limits; files = λ told e. s.files told (sym f.files ∙ e); rows_of = s.rows_of; tells = s.tells ∙ sym f.told }

count_append : (p : OutputLine → Bool) (xs ys : List OutputLine) → count_by p (xs ++ ys) ≡ count_by p xs + count_by p ys
count_append p xs ys = sum_by-append _ xs ys

-- lines and lines behind them have their causes, where no count falls
caused_append : (old mid new : Moment) (first more : List OutputLine) → FollowsMoment old mid → FollowsMoment mid new → AreCaused old mid first → AreCaused mid new more
    → AreCaused old new (first ++ more)
caused_append old mid new first more f g h k = record {
  device = λ few.
      let up : mid.disk ≤ new.disk = g.disk few in
      let few' : mid.disk < last_count = omega (arith, few, up) in
      omega (arith, count_append is_of_device first more, h.device few', k.device few, f.disk few', up);
  file = λ few.
      let up : mid.shelf ≤ new.shelf = g.shelf few in
      let few' : mid.shelf < last_count = omega (arith, few, up) in
      omega (arith, count_append is_of_file first more, h.file few', k.file few, f.shelf few', up);
  damage = All-append (IsCausedDamage old.told) first more h.damage (subst (λ (t : Bool). All (IsCausedDamage t) more) f.told k.damage);
}

-- one more line was carried out
pub lines_append : (old mid new : Moment) (lines : List (List ℕ)) (line : List ℕ) (printed more : List OutputLine) → FollowsMoment old mid → FollowsMoment mid new
    → CarriesLines lines old mid printed → CarriesLine (clipped line) mid new more → CarriesLines (lines ++ line ∷ []) old new (printed ++ more)
lines_append old mid new lines line printed more f g ran own = (
  caused_append old mid new printed more f g ran.0 own.0,
  λ script are.
      let parts = split_lines lines line script are in
      let before : List ScriptLine = parts.0 in
      let last : ScriptLine = parts.1.0 in
      let one = own.1 last parts.1.1.1.1 in
      let others = ran.1 before parts.1.1.1.0 in (
        λ setting s.
            let said : AnswersSaid old.files setting (outline_of mid.state) last more (outline_of new.state) =
            subst (λ (x : Option Files). AnswersSaid x setting (outline_of mid.state) last more (outline_of new.state)) f.files (one.0 setting (setting_later old mid setting f s)) in
            subst (λ (xs : List ScriptLine). AnswerInOrder old.files setting (outline_of old.state) xs (printed ++ more) (outline_of new.state)) (sym parts.1.1.0)
            (answer_append old.files setting (outline_of old.state) (outline_of mid.state) (outline_of new.state) before last printed more (others.0 setting s) said),
        λ told disk shelf setting gap s.
            let disk_up : mid.disk ≤ new.disk = g.disk disk in
            let shelf_up : mid.shelf ≤ new.shelf = g.shelf shelf in
            let disk' : mid.disk < last_count = omega (arith, disk, disk_up) in
            let shelf' : mid.shelf < last_count = omega (arith, shelf, shelf_up) in
            let told' : IsTrue mid.told = f.told ∙ told in
            let goes = one.1 told' disk shelf setting gap (setting_later old mid setting f s) in
            let finds : FindsFiles old.files setting last goes.0 = subst (λ (x : Option Files). FindsFiles x setting last goes.0) f.files goes.1 in
            let all : ShelfRun old.files setting old.state before (rises_between old mid) printed mid.state = others.1 told disk' shelf' setting gap s in
            let fit : FitIn (rises_between old mid) (rises_between mid new) (rises_between old new) =
            record { disk = omega (arith, f.disk disk', disk_up); shelf = omega (arith, f.shelf shelf', shelf_up) } in
            subst (λ (xs : List ScriptLine). ShelfRun old.files setting old.state xs (rises_between old new) (printed ++ more) new.state) (sym parts.1.1.0)
            (run_append old.files setting old.state mid.state new.state before last (rises_between old mid) (rises_between mid new) (rises_between old new) printed more goes.0 all finds goes.2 fit),
      ),
)

-- what follows a moment that follows another follows that one
pub follows_on : (old mid new : Moment) → FollowsMoment old mid → FollowsMoment mid new → FollowsMoment old new
follows_on old mid new f g = record {
  limits = g.limits ∙ f.limits;
  told = g.told ∙ f.told;
  files = g.files ∙ f.files;
  disk = λ few. let up : mid.disk ≤ new.disk = g.disk few in let before : old.disk ≤ mid.disk = f.disk (omega (arith, up, few)) in omega (arith, up, before);
  shelf = λ few. let up : mid.shelf ≤ new.shelf = g.shelf few in let before : old.shelf ≤ mid.shelf = f.shelf (omega (arith, up, few)) in omega (arith, up, before);
}

pub follows_itself : (m : Moment) → FollowsMoment m m
follows_itself m = record { limits = refl; told = refl; files = refl; disk = λ few. omega arith; shelf = λ few. omega arith }
