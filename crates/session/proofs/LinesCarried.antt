-- How the lines of a script lead a run on.
use Rattle.std.proofs.Common.{◌≡◌, ℕ, Bool, true, false, ◌||◌, List, [], ◌∷◌, ◌++◌, Option, None, Some, Ok, Err, refl, sym, ap, ◌∙◌, subst, append_assoc, append-nil}
use Rattle.std.specs.List.{list_any}
use Rattle.std.specs.Prelude.{IfSome}
use Rattle.line_exec.specs.KeptChanges.{no_changes}
use Rattle.line_exec.specs.LineCarried.{CarriesKept, MakesChanges}
use Rattle.sand_journal.specs.declared.journal.Journal.{Journal}
use Rattle.sand_journal.specs.ChangeBody.{ChangeValue}
use Rattle.sand_model.specs.Cursor.{OutputLine}
use Rattle.session.specs.KeptLines.{MakeInOrder}
use Rattle.std.proofs.KnownBytes.{Consumes-trans, Consumes-nil}
use Rattle.sand_model.specs.OutputText.{is_refused}
use Rattle.output_text.specs.Writing.{Writes}
use Rattle.output_text.proofs.WrittenPrefix.{Adds-trans}
use Rattle.script_lines.specs.Lines.{clipped}
use Rattle.script_lines.specs.Reading.{ReadsLines, Pulls}
use Rattle.script_lines.specs.declared.script_lines.Found.{Found}
use Rattle.script_lines.specs.declared.script_lines.Found.TheVariants as found
use Rattle.script_lines.specs.declared.script_lines.ScriptLines.{ScriptLines}
use Rattle.sand_model.specs.ScriptLine.{ScriptLine}
use Rattle.line_meaning.specs.Carrying.{CarriesLine, CarriesLines, FollowsMoment, InEach}
use Rattle.line_meaning.specs.ShelfRun.{ShelfRun}
use Rattle.line_meaning.specs.Spoken.{AreLines}
use Rattle.line_meaning.specs.Said.{AreAnswered}
use Rattle.line_meaning.proofs.Runs.{lines_append, follows_on, follows_itself}
use Rattle.statement_exec.specs.Moment.{Moment, rises_between}
use Rattle.statement_exec.proofs.CausedLines.{caused_none}
use Rattle.statement_exec.specs.Printing.{Prints}
use Rattle.statement_exec.proofs.Texts.{text_append, adds_none}
use Rattle.session.specs.RunStates.{RunState, run_state, IsBetweenLines, HasLineInHand, Draws, GrowsText, Leads, kept_both}
use Rattle.session.specs.declared.status.Status.TheVariants as status

-- no line leads nowhere
no_lines : (first : Moment) → CarriesLines [] first first []
no_lines first = (caused_none first first, none) where
  none : (script : List ScriptLine) → AreLines [] script
      → AreAnswered script first first [] × InEach first first (λ setting. ShelfRun first.files setting first.state script (rises_between first first) [] first.state)
  none [] are = (λ setting s. (refl, refl), λ told disk shelf setting lowest is. (refl, refl))
  none (line ∷ script) are = absurd are

-- a test of more at the end
pub list_any-append : {X : Type 0} (p : X → Bool) (xs ys : List X) → list_any p (xs ++ ys) ≡ (list_any p xs || list_any p ys)
list_any-append p [] ys = refl
list_any-append p (x ∷ xs) ys =
    let go : (a b c : Bool) → (a || (b || c)) ≡ ((a || b) || c) = elim [ true ↦ λ b c. refl | false ↦ λ b c. refl ] in
    ap (λ t. p x || t) (list_any-append p xs ys) ∙ go (p x) (list_any p xs) (list_any p ys)

-- before the first line no change was made
abbrev pub NoneYet : Option (List ChangeValue) → Type 0
NoneYet kept = IfSome kept (λ changes. changes ≡ [])

pub none_yet : {T : Type 0} → (journal : Option (Journal T)) → NoneYet (no_changes journal)
none_yet {T} None = tt
none_yet {T} (Some journal) = refl

none_in_order : (first : Moment) (kept : Option (List ChangeValue)) → NoneYet kept → IfSome kept (λ changes. MakeInOrder [] first first [] changes)
none_in_order first None none = tt
none_in_order first (Some changes) none = (refl, refl, none)

-- before the first line
pub begun_between : (reader : ScriptLines) (first : Moment) (script : Option (List ℕ)) (kept : Option (List ChangeValue)) → NoneYet kept → ((left : Option (List ℕ)) → ReadsLines reader left [] [])
    → IsBetweenLines first script [] (run_state reader script first false kept)
begun_between reader first script kept none begun = record {
  bytes = [];
  given = [];
  consumed = Consumes-nil script;
  reads = begun script;
  follows = follows_itself first;
  printed = record { lines = []; holds = (no_lines first, none_in_order first kept none); told = refl; refused = refl };
}

-- one more line made its changes behind those of the lines before it
made_on : (given : List (List ℕ)) (line : List ℕ) (first now new : Moment) (printed own : List OutputLine) (changes more : List ChangeValue) → MakeInOrder given first now printed changes
    → MakesChanges (clipped line) now new own more → FollowsMoment now new → MakeInOrder (given ++ line ∷ []) first new (printed ++ own) (changes ++ more)
made_on [] line first now new printed own changes more (same, none, no_change) makes follows = (
  new,
  own,
  [],
  more,
  [],
  subst (λ (m : Moment). MakesChanges (clipped line) m new own more) same makes,
  subst (λ (m : Moment). FollowsMoment m new) same follows,
  (refl, refl, refl),
  ap (λ (ls : List OutputLine). ls ++ own) none ∙ sym (append-nil own),
  ap (λ (cs : List ChangeValue). cs ++ more) no_change ∙ sym (append-nil more),
)
made_on (l ∷ given) line first now new printed own changes more (mid, mine, others, ys, zs, made, goes, rest, split, joined) makes follows = (
  mid,
  mine,
  others ++ own,
  ys,
  zs ++ more,
  made,
  goes,
  made_on given line mid now new others own zs more rest makes follows,
  ap (λ (ls : List OutputLine). ls ++ own) split ∙ append_assoc mine others own,
  ap (λ (cs : List ChangeValue). cs ++ more) joined ∙ append_assoc ys zs more,
)

-- the same, where changes are kept
pub kept_on : (kept own : Option (List ChangeValue)) (given : List (List ℕ)) (line : List ℕ) (first now new : Moment) (printed more : List OutputLine)
    → IfSome kept (λ changes. MakeInOrder given first now printed changes) → CarriesKept (clipped line) own now new more → FollowsMoment now new
    → IfSome (kept_both kept own) (λ changes. MakeInOrder (given ++ line ∷ []) first new (printed ++ more) changes)
kept_on None own given line first now new printed more so_far makes follows = tt
kept_on (Some changes) None given line first now new printed more so_far makes follows = tt
kept_on (Some changes) (Some ys) given line first now new printed more so_far makes follows = made_on given line first now new printed more changes ys so_far makes follows

-- what was carried out with its changes was carried out
pub carried_line : (line : Option (List ℕ)) (own : Option (List ChangeValue)) (old new : Moment) (printed : List OutputLine) → CarriesKept line own old new printed → CarriesLine line old new printed
carried_line line None old new printed carries = carries
carried_line line (Some changes) old new printed makes = makes.carries

-- nothing was carried out
pub leads_nowhere : (at : RunState) (took : List ℕ → Type 0) → Leads IsBetweenLines IsBetweenLines at at took took
leads_nowhere at took first script text so_far = ([], adds_none took, subst (λ t. IsBetweenLines first script t at) (sym (append-nil text)) so_far)

-- a text grew, and then grew on
pub grows_more : (a b c : List ℕ → Type 0) (text : List ℕ) (P Q : List ℕ → Type 0) → GrowsText a b text P → ((all : List ℕ) → P all → GrowsText b c all Q) → GrowsText a c text Q
grows_more a b c text P Q grown next =
    let more = next (text ++ grown.0) grown.2 in
    (grown.0 ++ more.0, Adds-trans a b c grown.0 more.0 grown.1 more.1, subst Q (append_assoc text grown.0 more.0) more.2)

-- the next line is in hand
pub drawn : (first : Moment) (script between left : Option (List ℕ)) (text : List ℕ) (reader reader' : ScriptLines) (now : Moment) (b : Bool) (kept : Option (List ChangeValue)) (is_long : Bool)
    → Draws (Ok is_long) reader reader' between left → IsBetweenLines first script text (run_state reader between now b kept)
    → HasLineInHand first script text (run_state reader' left now b kept)
drawn first script between left text reader reader' now b kept is_long draws so_far =
    let one = draws.2 so_far.bytes so_far.given so_far.reads in
    record {
      bytes = so_far.bytes ++ one.0;
      given = so_far.given;
      consumed = Consumes-trans script between left so_far.bytes one.0 so_far.consumed one.1;
      gives = one.2;
      follows = so_far.follows;
      printed = so_far.printed;
    }

-- the line in hand was carried out
unfoldable pub carried : (first : Moment) (script : Option (List ℕ)) (text own : List ℕ) (at : RunState) (new : Moment) (r : Bool) (changes : Option (List ChangeValue))
    → HasLineInHand first script text at → Prints (CarriesKept at.reader.line changes at.now new) r own → FollowsMoment at.now new
    → IsBetweenLines first script (text ++ own) (run_state at.reader at.left new (at.refused || r) (kept_both at.kept changes))
carried first script text own at new r changes hand prints follows =
    let gives = hand.gives in
    let ran = hand.printed in
    let own_ran : CarriesKept (clipped gives.line) changes at.now new prints.lines =
    subst (λ line. CarriesKept line changes at.now new prints.lines) gives.hand prints.holds in
    record {
      bytes = hand.bytes;
      given = hand.given ++ gives.line ∷ [];
      consumed = hand.consumed;
      reads = gives.reads;
      follows = follows_on first at.now new hand.follows follows;
      printed = record {
        lines = ran.lines ++ prints.lines;
        holds = (
          lines_append first at.now new hand.given gives.line ran.lines prints.lines hand.follows follows ran.holds.0 (carried_line (clipped gives.line) changes at.now new prints.lines own_ran),
          kept_on at.kept changes hand.given gives.line first at.now new ran.lines prints.lines ran.holds.1 own_ran follows,
        );
        told = text_append ran.lines prints.lines text own ran.told prints.told;
        refused = ap (λ t. t || r) ran.refused ∙ ap (λ t. list_any is_refused ran.lines || t) prints.refused
            ∙ sym (list_any-append is_refused ran.lines prints.lines);
      };
    }

-- the line in hand was carried out, and its lines of output were written
pub hand_carried : (old : RunState) (new : Moment) (before now : List ℕ → Type 0) (r t : Bool) (changes : Option (List ChangeValue))
    → Writes (Prints (CarriesKept old.reader.line changes old.now new) r) before now
    → FollowsMoment old.now new → t ≡ (old.refused || r) → Leads HasLineInHand IsBetweenLines old (run_state old.reader old.left new t (kept_both old.kept changes)) before now
hand_carried old new before now r t changes own follows joined first script text hand = (
  own.text,
  own.written,
  subst (λ b. IsBetweenLines first script (text ++ own.text) (run_state old.reader old.left new b (kept_both old.kept changes))) (sym joined)
      (carried first script text own.text old new r changes hand own.holds follows),
)

-- one more line was drawn
pub then_drawn : (old : RunState) (before took : List ℕ → Type 0) (reader reader' : ScriptLines) (between left : Option (List ℕ)) (now : Moment) (b : Bool) (kept : Option (List ChangeValue)) (is_long : Bool)
    → Leads IsBetweenLines IsBetweenLines old (run_state reader between now b kept) before took → Draws (Ok is_long) reader reader' between left
    → Leads IsBetweenLines HasLineInHand old (run_state reader' left now b kept) before took
then_drawn old before took reader reader' between left now b kept is_long goes draws first script text so_far =
    let grown = goes first script text so_far in
    (grown.0, grown.1, drawn first script between left (text ++ grown.0) reader reader' now b kept is_long draws grown.2)

-- the run paused, and then resumed
pub then_carried : (old mid new : RunState) (a b c : List ℕ → Type 0) → Leads IsBetweenLines HasLineInHand old mid a b → Leads HasLineInHand IsBetweenLines mid new b c
    → Leads IsBetweenLines IsBetweenLines old new a c
then_carried old mid new a b c pauses resumes first script text so_far =
    grows_more a b c text (λ all. HasLineInHand first script all mid) (λ all. IsBetweenLines first script all new) (pauses first script text so_far) (λ all hand. resumes first script all hand)

-- the byte too many
pub Draws-over : (old new : ScriptLines) (before left : Option (List ℕ)) (f : Found) → f ≡ found.ScriptTooLong → Pulls (Ok f) old new before left
    → Draws (Err status.ScriptTooLong) old new before left
Draws-over old new before left f is pulls bytes given reads =
    let one = subst (λ v. Pulls (Ok v) old new before left) is pulls bytes given reads in
    (one.0, one.1, (one.2.0, one.2.1))
