-- What a run behind the changes of its journal leaves on its tape.
use Rattle.std.proofs.Common.{◌≡◌, inl, ℕ, Bool, List, [], ◌++◌, length, map, Option, None, Some, refl, sym, ap, subst, ◌∙◌, append_assoc, arith, length-append}
use Rattle.std.proofs.lemmas.List.{take_at}
use Rattle.std.specs.List.{AllByRecursion}
use Rattle.std.specs.Prelude.{IsTrue}
use Rattle.journal_replay.specs.ChangedDatabase.{world_after}
use Rattle.journal_replay.specs.LedBy.{sketches_after}
use Rattle.journal_replay.specs.Replayed.{IsReplayed}
use Rattle.line_exec.specs.KeptChanges.{LeadTo}
use Rattle.sand_base.specs.declared.limits.Limits.{Limits}
use Rattle.sand_journal.proofs.Moments.{joined, weaker}
use Rattle.sand_journal.proofs.OneList.{at_least}
use Rattle.sand_journal.specs.ChangeBody.{ChangeValue, IsChange, body_of}
use Rattle.sand_journal.specs.Changes.{HasAtLeast}
use Rattle.sand_journal.specs.Images.{HasBodies, LeavesOnly, LiesBetween}
use Rattle.sand_journal.specs.Journal.{HasPassed, IsAtEnd, IsOnlyRead}
use Rattle.sand_journal.specs.Tape.{TapeView}
use Rattle.sand_journal.specs.declared.journal.Journal.{Journal}
use Rattle.sand_model.specs.Cursor.{State}
use Rattle.sand_model.specs.Database.{Database}
use Rattle.sand_store.specs.Catalog.{StoreState}
use Rattle.sand_store.specs.Sketches.{Sketch}
use Rattle.statement_exec.specs.Moment.{Moment}
use Rattle.session.specs.KeptTape.{HasWorldOf, KeepsBehind, KeepsShown, ShowsIfAny}
use Rattle.session.specs.declared.status.Status.{Status}
use Rattle.session.proofs.KeptChanges.{all_both, bodies_both, lies_just, lies_more, sketches_both, world_both}

-- The journal of a run that had one is there at its end, and its changes are named.
pub record ShowsThere {T : Type 0} (seen : T → TapeView) (old journal : Journal T) (why : Status) (first : Moment) (last : State) (kept untold : Option (List ChangeValue)) : Type 0 where
  pub shown : List ChangeValue
  pub few : List ChangeValue
  pub kept_is : kept ≡ Some shown
  pub untold_is : untold ≡ Some few
  pub shows : KeepsShown seen old journal.tape why first last shown few

pub Shows-there : {T : Type 0} (seen : T → TapeView) (old : Journal T) (new : Option (Journal T)) (journal : Journal T) (why : Status) (first : Moment) (last : State)
    (kept untold : Option (List ChangeValue)) → new ≡ Some journal → ShowsIfAny seen (Some old) new why first last kept untold → ShowsThere seen old journal why first last kept untold
Shows-there {T} seen old new journal why first last kept untold is shows = go kept untold (subst (λ (o : Option (Journal T)). ShowsIfAny seen (Some old) o why first last kept untold) is shows) where
  go : (k u : Option (List ChangeValue)) → ShowsIfAny seen (Some old) (Some journal) why first last k u → ShowsThere seen old journal why first last k u
  go None u h = absurd h
  go (Some xs) None h = absurd h
  go (Some xs) (Some ys) h = record { shown = xs; few = ys; kept_is = refl; untold_is = refl; shows = h }

-- an image between the first changes and all has the first ones, and maybe more
least_first : (first more : List ChangeValue) (image : List ℕ) → AllByRecursion IsChange (first ++ more) → LiesBetween (map body_of first) (map body_of (first ++ more)) image
    → HasAtLeast (length first) (first ++ more) image
least_first first more image all lies =
    at_least (first ++ more) (length first) image all (omega (arith, length-append first more))
    (subst (λ (cs : List ChangeValue). LiesBetween (map body_of cs) (map body_of (first ++ more)) image) (sym (take_at first more (length first) refl)) lies)

-- the world of changes, led on by others
pub World-on : (limits : Limits) (told : Bool) (xs ys : List ChangeValue) (first : Moment) (last : State) → told ≡ first.told → first.limits ≡ limits → HasWorldOf limits told xs first.state
    → LeadTo ys first last → HasWorldOf limits told (xs ++ ys) last
World-on limits told xs ys first last same own world lead = record {
  world = λ is setting s of.
      lead.becomes (sym same ∙ is) setting s (of ∙ sym own)
      ∙ ap (λ (d : Database). world_after setting ys d) (world.world is setting s of) ∙ sym (world_both setting xs ys []);
  outlined = lead.sketched ∙ ap (λ (ss : List Sketch). sketches_after ys ss) world.outlined ∙ sym (sketches_both xs ys []);
}

-- A journal whose records were replayed, and then a run that kept its changes there.
module _ {T : Type 0} (seen : T → TapeView) (opened journal : Journal T) (after : T) (store world : StoreState) (replayed : IsReplayed seen opened journal store world)
    (passed : HasPassed seen opened []) (read : IsOnlyRead (seen opened.tape) (seen journal.tape))
    (now_is_all : (image : List ℕ) → IsTrue (seen opened.tape).told → (seen opened.tape).since (seen opened.tape).clock image → (seen opened.tape).leaves image) where
  abbrev bodies : List (List ℕ)
  bodies = map body_of replayed.changes

  at : IsAtEnd seen journal bodies
  at = replayed.ended [] passed

  -- what crashes leave while the records are read
  while_read : IsTrue (seen opened.tape).told → LeavesOnly (seen opened.tape) (seen journal.tape) (HasBodies bodies)
  while_read told = record {
    later = read.later;
    each = λ image since. here image (now_is_all image told (read.earlier told (seen opened.tape).clock image (omega arith) since));
    now = λ image left. here image (read.fewer image left);
    before = λ t image le since. inl (read.earlier told t image le since);
  } where
    here : (image : List ℕ) → (seen opened.tape).leaves image → HasBodies bodies image
    here image left =
        subst (HasBodies bodies) (sym (passed.stands.durable told image left)) (subst (λ (bytes : List ℕ). HasBodies bodies bytes) read.bytes (at.rest.ended (read.told ∙ told)))

  -- all that was kept, as changes and as bodies
  abbrev all_kept : List ChangeValue → List ChangeValue → List ChangeValue
  all_kept shown untold = replayed.changes ++ (shown ++ untold)

  whole : (shown untold : List ChangeValue) → AllByRecursion IsChange (shown ++ untold) → AllByRecursion IsChange (all_kept shown untold)
  whole shown untold all = all_both IsChange replayed.changes (shown ++ untold) replayed.all all

  mapped : (shown untold : List ChangeValue) → map body_of (all_kept shown untold) ≡ bodies ++ map body_of (shown ++ untold)
  mapped shown untold = bodies_both replayed.changes (shown ++ untold)

  pub Keeps-behind : (why : Status) (first : Moment) (last : State) (shown untold : List ChangeValue) → KeepsShown seen journal after why first last shown untold → KeepsBehind seen why opened.tape after replayed.changes shown untold
  Keeps-behind why first last shown untold shows = record {
    few = shows.few;
    any_moment = λ told.
        weaker (seen opened.tape) (seen after) (LiesBetween bodies (map body_of (all_kept shown untold))) (HasAtLeast (length replayed.changes) (all_kept shown untold))
        (λ image. least_first replayed.changes (shown ++ untold) image (whole shown untold shows.all))
        (joined (seen opened.tape) (seen journal.tape) (seen after) (LiesBetween bodies (map body_of (all_kept shown untold)))
        (weaker (seen opened.tape) (seen journal.tape) (HasBodies bodies) (LiesBetween bodies (map body_of (all_kept shown untold)))
        (λ image own. subst (λ (bs : List (List ℕ)). LiesBetween bodies bs image) (sym (mapped shown untold))
        (lies_more bodies bodies (map body_of (shown ++ untold)) image (lies_just bodies image own)))
        (while_read told))
        (subst (λ (bs : List (List ℕ)). LeavesOnly (seen journal.tape) (seen after) (LiesBetween bodies bs)) (sym (mapped shown untold)) (shows.any_moment bodies at (read.told ∙ told))));
    at_return = λ told image left.
        let lies : LiesBetween (bodies ++ map body_of shown) (bodies ++ map body_of (shown ++ untold)) image = shows.at_return bodies at (read.told ∙ told) image left in
        let parts : (replayed.changes ++ shown) ++ untold ≡ all_kept shown untold = append_assoc replayed.changes shown untold in
        subst (λ (cs : List ChangeValue). HasAtLeast (length (replayed.changes ++ shown)) cs image) parts
        (least_first (replayed.changes ++ shown) untold image (subst (λ (cs : List ChangeValue). AllByRecursion IsChange cs) (sym parts) (whole shown untold shows.all))
        (subst (λ (cs : List ChangeValue). LiesBetween (map body_of (replayed.changes ++ shown)) (map body_of cs) image) (sym parts)
        (subst (λ (bs : List (List ℕ)). LiesBetween (map body_of (replayed.changes ++ shown)) bs image) (sym (mapped shown untold))
        (subst (λ (bs : List (List ℕ)). LiesBetween bs (bodies ++ map body_of (shown ++ untold)) image) (sym (bodies_both replayed.changes shown)) lies))));
  }
