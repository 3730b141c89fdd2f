-- What the two phases of an append leave, call by call.
use Rattle.std.proofs.Common.{◌≡◌, ◌≢◌, ℕ, ◌+◌, ◌<◌, List, [], ◌∷◌, ◌++◌, length, drop, IsTrue, Result, Ok, sym, subst, ◌∙◌, arith}
use Rattle.sand_journal.specs.Tape.{TapeView, Only, IsWrittenAt, Torn, WritesTape, SyncsTape}
use Rattle.sand_journal.specs.Images.{IsShort, framed, records, HasBodies, LiesBetween, LeavesOnly}
use Rattle.sand_journal.specs.Journal.{IsAtRest, IsStaged}
use Rattle.sand_journal.proofs.Frames.{length-records-push, short_push}
use Rattle.sand_journal.proofs.Crash.{torn_behind, written_behind, lies_first, torn_gate, written_gate, within}
use Rattle.sand_journal.proofs.Moments.{started, goes_on}

-- the gate of a tape at rest is in the file
pub rest_within : (tape : TapeView) (end : ℕ) (bodies : List (List ℕ)) → IsAtRest tape end bodies → IsTrue tape.told → end < length tape.bytes
rest_within tape end bodies rest told = within bodies end rest.stands.place tape.bytes (rest.ended told).behind (rest.ended told).gate (rest.ended told).is

-- before an append a crash leaves the bodies
pub rest_started : (tape : TapeView) (end : ℕ) (bodies : List (List ℕ)) → ((image : List ℕ) → tape.since tape.clock image → tape.leaves image) → IsAtRest tape end bodies → IsTrue tape.told
    → LeavesOnly tape tape (HasBodies bodies)
rest_started tape end bodies now_is_all rest told =
    started tape (HasBodies bodies) now_is_all (λ image left. subst (HasBodies bodies) (sym (rest.stands.durable told image left)) (rest.ended told))

-- the write behind the gate leaves the same bodies, whatever its answer
pub stage_torn : {T E : Type 0} (old new : TapeView) (end : ℕ) (bodies : List (List ℕ)) (bytes : List ℕ) (result : Result T E) → ((image : List ℕ) → old.since old.clock image → old.leaves image)
    → IsAtRest old end bodies → IsTrue old.told → WritesTape old new (end + 1) bytes result → LeavesOnly old new (HasBodies bodies)
stage_torn old new end bodies bytes result now_is_all rest told w =
    goes_on old old new (HasBodies bodies) (rest_started old end bodies now_is_all rest told) w.passes told
    (λ image left. let from = w.torn told image left in
    torn_behind bodies end rest.stands.place (length bytes) old.bytes image (rest.ended told)
    (subst (λ (file : List ℕ). Torn (end + 1) (length bytes) file image) (rest.stands.durable told from.0 from.1) from.2))

-- once it is accepted and synced, the body is staged
pub stage_done : {T E U F : Type 0} (v : T) (u : U) (old mid new : TapeView) (end : ℕ) (bodies : List (List ℕ)) (body bytes : List ℕ) → bytes ≡ framed body ++ 0 ∷ []
    → IsAtRest old end bodies → IsShort body
    → WritesTape {T = T} {E = E} old mid (end + 1) bytes (Ok v) → SyncsTape {T = U} {E = F} mid new (Ok u) → IsStaged new end bodies body
stage_done v u old mid new end bodies body bytes is rest short w s =
    let told_mid : IsTrue new.told → IsTrue mid.told = λ told. subst IsTrue s.passes.told told in
    let told_old : IsTrue new.told → IsTrue old.told = λ told. subst IsTrue w.passes.told (told_mid told) in
    let behind : IsTrue new.told → (gate : ℕ) × (junk : List ℕ) × (gate ≢ 1) × (new.bytes ≡ records bodies ++ gate ∷ (framed body ++ 0 ∷ junk)) =
    λ told. let has = rest.ended (told_old told) in (
      has.gate,
      drop (end + 1 + length (framed body ++ 0 ∷ [])) old.bytes,
      has.shut,
      s.kept.bytes
          ∙ written_behind bodies end rest.stands.place body old.bytes mid.bytes has.behind has.gate has.is
          (subst (λ (l : List ℕ). IsWrittenAt old.bytes (end + 1) l mid.bytes) is (w.written (told_old told))),
    ) in
    record {
      rest = record {
        stands = record {
          started = subst IsTrue (sym (s.started ∙ w.started)) rest.stands.started;
          short = rest.stands.short;
          place = rest.stands.place;
          gate = λ told. let b = behind told in (b.0 ∷ (framed body ++ 0 ∷ b.1), λ none. cc none, b.3);
          durable = λ told. subst (λ (bytes : List ℕ). Only bytes new.leaves) (sym s.kept.bytes) (s.durable (told_mid told));
        };
        ended = λ told. let b = behind told in record { short = rest.stands.short; gate = b.0; shut = b.2; behind = framed body ++ 0 ∷ b.1; is = b.3 };
      };
      short = short;
      behind = behind;
    }

-- the write of the gate leaves the bodies with this one or without
pub gate_torn : {T E : Type 0} (old new : TapeView) (end : ℕ) (bodies : List (List ℕ)) (body : List ℕ) (result : Result T E) → ((image : List ℕ) → old.since old.clock image → old.leaves image)
    → IsStaged old end bodies body → IsTrue old.told → WritesTape old new end (1 ∷ []) result → LeavesOnly old new (LiesBetween bodies (bodies ++ body ∷ []))
gate_torn old new end bodies body result now_is_all staged told w =
    let b = staged.behind told in
    let durable = staged.rest.stands.durable told in
    let any_gate : (image : List ℕ) → Torn end 1 old.bytes image → LiesBetween bodies (bodies ++ body ∷ []) image =
    λ image torn. torn_gate bodies end staged.rest.stands.place body old.bytes image b.1 b.0 staged.rest.stands.short staged.short b.3 torn in
    let at_first = lies_first bodies end staged.rest.stands.place body old.bytes (staged.rest.ended told) in
    goes_on old old new (LiesBetween bodies (bodies ++ body ∷ []))
    (started old (LiesBetween bodies (bodies ++ body ∷ [])) now_is_all (λ image left. subst (LiesBetween bodies (bodies ++ body ∷ [])) (sym (durable image left)) at_first)) w.passes told
    (λ image left. let from = w.torn told image left in
    any_gate image (subst (λ (file : List ℕ). Torn end 1 file image) (durable from.0 from.1) from.2))

-- once it is accepted and synced, the tape is at rest behind one record more
pub gate_done : {T E U F : Type 0} (v : T) (u : U) (old mid new : TapeView) (end : ℕ) (bodies : List (List ℕ)) (body : List ℕ) → IsStaged old end bodies body
    → WritesTape {T = T} {E = E} old mid end (1 ∷ []) (Ok v) → SyncsTape {T = U} {E = F} mid new (Ok u) → IsAtRest new (end + length body + 5) (bodies ++ body ∷ [])
gate_done v u old mid new end bodies body staged w s =
    let told_mid : IsTrue new.told → IsTrue mid.told = λ told. subst IsTrue s.passes.told told in
    let told_old : IsTrue new.told → IsTrue old.told = λ told. subst IsTrue w.passes.told (told_mid told) in
    let has : IsTrue new.told → HasBodies (bodies ++ body ∷ []) new.bytes =
    λ told. let b = staged.behind (told_old told) in
    subst (HasBodies (bodies ++ body ∷ [])) (sym s.kept.bytes)
    (written_gate bodies end staged.rest.stands.place body old.bytes mid.bytes b.1 b.0 staged.rest.stands.short staged.short b.3 (w.written (told_old told))) in
    record {
      stands = record {
        started = subst IsTrue (sym (s.started ∙ w.started)) staged.rest.stands.started;
        short = short_push bodies body staged.rest.stands.short staged.short;
        place = omega (arith, staged.rest.stands.place, length-records-push bodies body);
        gate = λ told. ((has told).gate ∷ (has told).behind, λ none. cc none, (has told).is);
        durable = λ told. subst (λ (bytes : List ℕ). Only bytes new.leaves) (sym s.kept.bytes) (s.durable (told_mid told));
      };
      ended = has;
    }
