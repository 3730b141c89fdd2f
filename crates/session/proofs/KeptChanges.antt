-- The changes of a run, line by line: where they lead, and what their records leave on the tape.
use Rattle.std.proofs.Common.{◌≡◌, ℕ, Bool, List, [], ◌∷◌, ◌++◌, map, Option, Some, None, refl, sym, ap, subst, ◌∙◌, append_assoc, append-nil, arith}
use Rattle.std.proofs.lemmas.List.{map-append}
use Rattle.std.specs.List.{AllByRecursion}
use Rattle.std.specs.Prelude.{IsTrue, Result, Ok, Err}
use Rattle.journal_replay.specs.ChangedDatabase.{TakesAll, changed_by, world_after}
use Rattle.journal_replay.specs.LedBy.{sketched_by, sketches_after}
use Rattle.line_exec.specs.KeptChanges.{Appends, KeepsAll, KeepsChange, KeepsIfAny, LeadTo, UnlessJournal, no_changes}
use Rattle.line_exec.specs.declared.fault.LineFault.{LineFault}
use Rattle.line_exec.specs.declared.fault.LineFault.TheVariants as fault
use Rattle.line_meaning.specs.Carrying.{FollowsMoment}
use Rattle.sand_journal.proofs.Moments.{joined, weaker}
use Rattle.sand_journal.specs.ChangeBody.{ChangeValue, IsChange, body_of}
use Rattle.sand_journal.specs.Images.{HasBodies, LeavesOnly, LiesBetween}
use Rattle.sand_journal.specs.Journal.{IsAtEnd}
use Rattle.sand_journal.specs.Tape.{TapeView}
use Rattle.sand_journal.specs.declared.journal.Journal.{Journal}
use Rattle.sand_model.specs.Cursor.{State}
use Rattle.sand_model.specs.Database.{Database}
use Rattle.sand_model.specs.StatementChecks.{Setting}
use Rattle.sand_store.specs.Sketches.{Sketch}
use Rattle.statement_exec.specs.Moment.{Moment}
use Rattle.statement_exec.specs.Outline.{outline_of, sketch_in}
use Rattle.session.specs.KeptTape.{AreUntold, KeepsShown, ShowsIfAny}
use Rattle.session.specs.OpenRun.{HasKeptIfAny}
use Rattle.session.specs.RunStates.{kept_both, kept_by, status_of_line, untold_by}
use Rattle.session.specs.declared.status.Status.{Status}
use Rattle.session.specs.declared.status.Status.TheVariants as status

-- ---- where changes lead, and then others

pub all_both : {A : Type 0} (P : A → Type 0) (xs ys : List A) → AllByRecursion P xs → AllByRecursion P ys → AllByRecursion P (xs ++ ys)
all_both P [] ys a b = b
all_both P (x ∷ xs) ys a b = (a.0, all_both P xs ys a.1 b)

pub world_both : (setting : Setting) (xs ys : List ChangeValue) (d : Database) → world_after setting (xs ++ ys) d ≡ world_after setting ys (world_after setting xs d)
world_both setting [] ys d = refl
world_both setting (x ∷ xs) ys d = world_both setting xs ys (changed_by setting x d)

pub sketches_both : (xs ys : List ChangeValue) (ss : List Sketch) → sketches_after (xs ++ ys) ss ≡ sketches_after ys (sketches_after xs ss)
sketches_both [] ys ss = refl
sketches_both (x ∷ xs) ys ss = sketches_both xs ys (sketched_by x ss)

takes_both : (setting : Setting) (xs ys : List ChangeValue) (d : Database) → TakesAll setting xs d → TakesAll setting ys (world_after setting xs d) → TakesAll setting (xs ++ ys) d
takes_both setting [] ys d a b = b
takes_both setting (x ∷ xs) ys d a b = (a.0, takes_both setting xs ys (changed_by setting x d) a.1 b)

-- a state of the same database is led to by the same changes
pub lead_same : (changes : List ChangeValue) (first : Moment) (state last : State) → last.database ≡ state.database → LeadTo changes first state → LeadTo changes first last
lead_same changes first state last same lead = record {
  sketched = ap (λ (d : Database). map sketch_in d) same ∙ lead.sketched;
  takes = lead.takes;
  becomes = λ told setting is limits. same ∙ lead.becomes told setting is limits;
}

-- changes lead on from where others led
pub lead_on : (xs ys : List ChangeValue) (first mid : Moment) (last : State) → FollowsMoment first mid → LeadTo xs first mid.state → LeadTo ys mid last → LeadTo (xs ++ ys) first last
lead_on xs ys first mid last follows h k = record {
  sketched = k.sketched ∙ ap (λ (ss : List Sketch). sketches_after ys ss) h.sketched ∙ sym (sketches_both xs ys (outline_of first.state).relations);
  takes = λ told setting is limits. takes_both setting xs ys first.state.database (h.takes told setting is limits)
      (subst (λ (d : Database). TakesAll setting ys d) (h.becomes told setting is limits) (k.takes (follows.told ∙ told) setting is (limits ∙ sym follows.limits)));
  becomes = λ told setting is limits. k.becomes (follows.told ∙ told) setting is (limits ∙ sym follows.limits)
      ∙ ap (λ (d : Database). world_after setting ys d) (h.becomes told setting is limits) ∙ sym (world_both setting xs ys first.state.database);
}

-- ---- what lies between bodies

-- more may have been appended
pub lies_more : (first last more : List (List ℕ)) (image : List ℕ) → LiesBetween first last image → LiesBetween first (last ++ more) image
lies_more first last more image lies = record {
  bodies = lies.bodies;
  has = lies.has;
  more = lies.more;
  all_first = lies.all_first;
  rest = lies.rest ++ more;
  in_last = ap (λ (bs : List (List ℕ)). bs ++ more) lies.in_last ∙ append_assoc lies.bodies lies.rest more;
}

-- fewer were there at first
pub lies_later : (first more last : List (List ℕ)) (image : List ℕ) → LiesBetween (first ++ more) last image → LiesBetween first last image
lies_later first more last image lies = record {
  bodies = lies.bodies;
  has = lies.has;
  more = more ++ lies.more;
  all_first = lies.all_first ∙ append_assoc first more lies.more;
  rest = lies.rest;
  in_last = lies.in_last;
}

-- an image of just these bodies
pub lies_just : (bodies : List (List ℕ)) (image : List ℕ) → HasBodies bodies image → LiesBetween bodies bodies image
lies_just bodies image has = record { bodies = bodies; has = has; more = []; all_first = sym (append-nil bodies); rest = []; in_last = sym (append-nil bodies) }

pub bodies_both : (xs ys : List ChangeValue) → map body_of (xs ++ ys) ≡ map body_of xs ++ map body_of ys
bodies_both xs ys = map-append body_of xs ys

-- the database of the last state: behind the line where the sink failed, and before it where the journal did
abbrev pub IsLastOf : LineFault → Database → Database → State → Type 0
IsLastOf fault.Sink before behind last = last.database ≡ behind
IsLastOf fault.Journal before behind last = last.database ≡ before

module _ {T : Type 0} (seen : T → TapeView) where
  -- ---- records appended to records

  module _ (old mid : Journal T) (a : List (List ℕ)) (h : Appends seen old mid a (λ P. P)) where
    -- from the first moment on
    moments_on : (new : Journal T) (b : List (List ℕ)) (bodies : List (List ℕ)) → IsAtEnd seen old bodies → IsTrue (seen old.tape).told
        → LeavesOnly (seen mid.tape) (seen new.tape) (LiesBetween (bodies ++ a) ((bodies ++ a) ++ b)) → LeavesOnly (seen old.tape) (seen new.tape) (LiesBetween bodies (bodies ++ (a ++ b)))
    moments_on new b bodies at told later =
        let all : List (List ℕ) = bodies ++ (a ++ b) in
        let same : (bodies ++ a) ++ b ≡ all = append_assoc bodies a b in
        joined (seen old.tape) (seen mid.tape) (seen new.tape) (LiesBetween bodies all)
        (weaker (seen old.tape) (seen mid.tape) (LiesBetween bodies (bodies ++ a)) (LiesBetween bodies all)
        (λ image lies. subst (λ (bs : List (List ℕ)). LiesBetween bodies bs image) same (lies_more bodies (bodies ++ a) b image lies)) (h.any_moment bodies at told))
        (weaker (seen mid.tape) (seen new.tape) (LiesBetween (bodies ++ a) ((bodies ++ a) ++ b)) (LiesBetween bodies all)
        (λ image lies. subst (λ (bs : List (List ℕ)). LiesBetween bodies bs image) same (lies_later bodies a ((bodies ++ a) ++ b) image lies)) later)

    -- where the last call tells that it appended its own
    pub appends_both : (new : Journal T) (b : List (List ℕ)) (Done : Type 0 → Type 0) → ((P Q : Type 0) → (P → Q) → Done P → Done Q) → Appends seen mid new b Done → Appends seen old new (a ++ b) Done
    appends_both new b Done on k = record {
      told = k.told ∙ h.told;
      at_end = on ((bodies : List (List ℕ)) → IsAtEnd seen mid bodies → IsAtEnd seen new (bodies ++ b)) ((bodies : List (List ℕ)) → IsAtEnd seen old bodies → IsAtEnd seen new (bodies ++ (a ++ b)))
          (λ next bodies at. subst (λ (bs : List (List ℕ)). IsAtEnd seen new bs) (append_assoc bodies a b) (next (bodies ++ a) (h.at_end bodies at))) k.at_end;
      any_moment = λ bodies at told. moments_on new b bodies at told (k.any_moment (bodies ++ a) (h.at_end bodies at) (subst IsTrue (sym h.told) told));
    }

  -- ---- changes kept, and then those of a line

  module _ (old mid new : Journal T) (first now : Moment) (last : State) (xs : List ChangeValue) (so_far : KeepsAll seen old mid xs first now.state (λ P. P)) (follows : FollowsMoment first now)
      (ys : List ChangeValue) (Done : Type 0 → Type 0) (on : (P Q : Type 0) → (P → Q) → Done P → Done Q) (line : KeepsAll seen mid new ys now last Done) where
    pub keeps_both : KeepsAll seen old new (xs ++ ys) first last Done
    keeps_both = record {
      all = all_both IsChange xs ys so_far.all line.all;
      lead = lead_on xs ys first now last follows so_far.lead line.lead;
      appends = subst (λ (bs : List (List ℕ)). Appends seen old new bs Done) (sym (bodies_both xs ys))
          (appends_both old mid (map body_of xs) so_far.appends new (map body_of ys) Done on line.appends);
    }

  -- what is said of the journal is said where it didn't fail
  pub unless_on : (r : Result Bool LineFault) (P Q : Type 0) → (P → Q) → UnlessJournal r P → UnlessJournal r Q
  unless_on (Ok refused) P Q on h = on h
  unless_on (Err fault.Sink) P Q on h = on h
  unless_on (Err fault.Journal) P Q on h = tt

  -- before the first line
  pub kept_none : (appends : (journal : Journal T) → Appends seen journal journal [] (λ P. P)) (journal : Option (Journal T)) (first : Moment)
      → HasKeptIfAny seen journal journal (no_changes journal) first first.state
  kept_none appends None first = tt
  kept_none appends (Some journal) first = record {
    all = tt;
    lead = record { sketched = refl; takes = λ told setting is limits. tt; becomes = λ told setting is limits. refl };
    appends = appends journal;
  }

  -- one more line
  pub kept_line : (old mid new : Option (Journal T)) (kept own : Option (List ChangeValue)) (first now : Moment) (last : State) (r : Result Bool LineFault) (refused : Bool) → r ≡ Ok refused
      → HasKeptIfAny seen old mid kept first now.state → FollowsMoment first now → KeepsIfAny seen mid new own now last r → HasKeptIfAny seen old new (kept_both kept own) first last
  kept_line None mid new kept own first now last r refused is so_far follows line = tt
  kept_line (Some old) None new kept own first now last r refused is so_far follows line = absurd so_far
  kept_line (Some old) (Some mid) new None own first now last r refused is so_far follows line = absurd so_far
  kept_line (Some old) (Some mid) None (Some xs) own first now last r refused is so_far follows line = absurd line
  kept_line (Some old) (Some mid) (Some new) (Some xs) None first now last r refused is so_far follows line = absurd line
  kept_line (Some old) (Some mid) (Some new) (Some xs) (Some ys) first now last r refused is so_far follows line =
      let done : KeepsChange seen mid new ys now last (Ok refused) = subst (λ (q : Result Bool LineFault). KeepsChange seen mid new ys now last q) is line in
      keeps_both old mid new first now last xs so_far follows ys (λ P. P) (λ P Q on h. on h) done.keeps

  -- ---- how the run ends

  -- none is untold
  untold_none : (s : Status) → AreUntold s []
  untold_none status.Done = refl
  untold_none status.SomeRefused = refl
  untold_none status.Usage = refl
  untold_none status.ReadFault = refl
  untold_none status.WriteFault = refl
  untold_none status.ScriptTooLong = refl
  untold_none status.NoMemory = refl
  untold_none status.DiskNotStarted = refl
  untold_none status.JournalFault = omega arith
  untold_none status.JournalBad = refl
  untold_none status.ReplayFault = refl
  untold_none status.ReplayDamaged = refl

  -- all that was kept was told
  shown_all : (old new : Journal T) (why : Status) (first : Moment) (state last : State) (xs : List ChangeValue) → last.database ≡ state.database → KeepsAll seen old new xs first state (λ P. P)
      → KeepsShown seen old new.tape why first last xs []
  shown_all old new why first state last xs same keeps = record {
    few = untold_none why;
    all = all_both IsChange xs [] keeps.all tt;
    lead = lead_same xs first state last same keeps.lead;
    any_moment = λ bodies at told.
        subst (λ (cs : List ChangeValue). LeavesOnly (seen old.tape) (seen new.tape) (LiesBetween bodies (bodies ++ map body_of cs))) (sym (append-nil xs)) (keeps.appends.any_moment bodies at told);
    at_return = λ bodies at told image left.
        let end = keeps.appends.at_end bodies at in
        let told' = subst IsTrue (sym keeps.appends.told) told in
        subst (λ (cs : List ChangeValue). LiesBetween (bodies ++ map body_of xs) (bodies ++ map body_of cs) image) (sym (append-nil xs))
        (lies_just (bodies ++ map body_of xs) image (subst (HasBodies (bodies ++ map body_of xs)) (sym (end.rest.stands.durable told' image left)) (end.rest.ended told')));
  }

  -- no more lines
  pub shown_over : (old new : Option (Journal T)) (kept : Option (List ChangeValue)) (why : Status) (first : Moment) (state last : State) → last.database ≡ state.database
      → HasKeptIfAny seen old new kept first state → ShowsIfAny seen old new why first last kept (no_changes old)
  shown_over None new kept why first state last same h = tt
  shown_over (Some old) None kept why first state last same h = h
  shown_over (Some old) (Some new) None why first state last same h = h
  shown_over (Some old) (Some new) (Some xs) why first state last same h = shown_all old new why first state last xs same h

  -- the journal failed: one more may have been kept than was told
  shown_but : (old mid new : Journal T) (first now : Moment) (state last : State) (xs : List ChangeValue) → last.database ≡ now.state.database → KeepsAll seen old mid xs first now.state (λ P. P)
      → (ys : List ChangeValue) → KeepsChange seen mid new ys now state (Err fault.Journal) → KeepsShown seen old new.tape status.JournalFault first last xs ys
  shown_but old mid new first now state last xs same keeps ys line = record {
    few = line.one;
    all = all_both IsChange xs ys keeps.all line.keeps.all;
    lead = lead_same xs first now.state last same keeps.lead;
    any_moment = λ bodies at told.
        subst (λ (bs : List (List ℕ)). LeavesOnly (seen old.tape) (seen new.tape) (LiesBetween bodies (bodies ++ bs))) (sym (bodies_both xs ys))
        (moments_on old mid (map body_of xs) keeps.appends new (map body_of ys) bodies at told (later bodies at told));
    at_return = λ bodies at told image left.
        subst (λ (bs : List (List ℕ)). LiesBetween (bodies ++ map body_of xs) (bodies ++ bs) image) (sym (bodies_both xs ys))
        (subst (λ (bs : List (List ℕ)). LiesBetween (bodies ++ map body_of xs) bs image) (append_assoc bodies (map body_of xs) (map body_of ys)) ((later bodies at told).now image left));
  } where
    later : (bodies : List (List ℕ)) → IsAtEnd seen old bodies → IsTrue (seen old.tape).told
        → LeavesOnly (seen mid.tape) (seen new.tape) (LiesBetween (bodies ++ map body_of xs) ((bodies ++ map body_of xs) ++ map body_of ys))
    later bodies at told = line.keeps.appends.any_moment (bodies ++ map body_of xs) (keeps.appends.at_end bodies at) (subst IsTrue (sym keeps.appends.told) told)

  -- a line ended the run
  pub shown_hand : (old mid new : Option (Journal T)) (kept own : Option (List ChangeValue)) (first now : Moment) (state last : State) (r : Result Bool LineFault) (why : LineFault) (result : Status)
      → r ≡ Err why → result ≡ status_of_line why
      → HasKeptIfAny seen old mid kept first now.state → FollowsMoment first now → KeepsIfAny seen mid new own now state r → IsLastOf why now.state.database state.database last
      → ShowsIfAny seen old new result first last (kept_by why kept own) (untold_by why own)
  shown_hand None mid new kept own first now state last r why result is named so_far follows line ends = tt
  shown_hand (Some old) None new kept own first now state last r why result is named so_far follows line ends = absurd so_far
  shown_hand (Some old) (Some mid) new None own first now state last r why result is named so_far follows line ends = absurd so_far
  shown_hand (Some old) (Some mid) None (Some xs) own first now state last r why result is named so_far follows line ends = absurd line
  shown_hand (Some old) (Some mid) (Some new) (Some xs) None first now state last r why result is named so_far follows line ends = absurd line
  shown_hand (Some old) (Some mid) (Some new) (Some xs) (Some ys) first now state last r why result is named so_far follows line ends =
      subst (λ (s : Status). ShowsIfAny seen (Some old) (Some new) s first last (kept_by why (Some xs) (Some ys)) (untold_by why (Some ys))) (sym named)
      (by why (subst (λ (q : Result Bool LineFault). KeepsChange seen mid new ys now state q) is line) ends) where
        by : (w : LineFault) → KeepsChange seen mid new ys now state (Err w) → IsLastOf w now.state.database state.database last
            → ShowsIfAny seen (Some old) (Some new) (status_of_line w) first last (kept_by w (Some xs) (Some ys)) (untold_by w (Some ys))
        by fault.Sink k same =
            shown_all old new status.WriteFault first state last (xs ++ ys) same
            (keeps_both old mid new first now state xs so_far follows ys (λ P. P) (λ P Q on h. on h)
            (record { all = k.keeps.all; lead = k.keeps.lead; appends = record { told = k.keeps.appends.told; at_end = k.keeps.appends.at_end; any_moment = k.keeps.appends.any_moment } }))
        by fault.Journal k same = shown_but old mid new first now state last xs same so_far ys k
