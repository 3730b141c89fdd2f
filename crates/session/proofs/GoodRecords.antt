-- A run that began to read behind a journal met no bad record.
use Rattle.std.proofs.Common.{◌≡◌, ◌≢◌, ◌⊎◌, ℕ, ◌+◌, ◌^◌, ◌≤◌, Bool, List, [], ◌∷◌, ◌++◌, length, get_or, drop, map, refl, sym, ap, subst, ◌∙◌, inl, inr, append_assoc, arith, length-append}
use Rattle.std.proofs.lemmas.List.{map-append}
use Rattle.std.specs.List.{AllByRecursion}
use Rattle.std.specs.Prelude.{IsTrue}
use Rattle.journal_replay.specs.ChangedDatabase.{TakesChange, TakesAll, changed_by, world_after}
use Rattle.sand_base.specs.declared.limits.Limits.{Limits}
use Rattle.sand_journal.proofs.Bodies.{body_short}
use Rattle.sand_journal.proofs.Frames.{length-framed, records-push}
use Rattle.sand_journal.proofs.OneList.{one_framed}
use Rattle.sand_journal.specs.ChangeBody.{ChangeValue, IsChange, body_of}
use Rattle.sand_journal.specs.Changes.{HasChanges}
use Rattle.sand_journal.specs.Images.{framed, records}
use Rattle.sand_journal.specs.Journal.{IsBadBehind}
use Rattle.sand_model.specs.Cursor.{State}
use Rattle.sand_model.specs.Database.{Database}
use Rattle.sand_model.specs.StatementChecks.{Setting}
use Rattle.sand_store.specs.Catalog.{StoreState}
use Rattle.sand_store.specs.Contents.{database}
use Rattle.statement_exec.proofs.SomeSetting.{some_setting, is_some_setting}
use Rattle.session.specs.KeptRun.{HasAll, HasBadRecord, IsDeclinedNext, IsWorldOf}

same_first : (x y : ℕ) (xs ys : List ℕ) → x ∷ xs ≡ y ∷ ys → x ≡ y
same_first x y xs ys same = ap (λ (l : List ℕ). get_or l 0 0) same

some_behind : (bodies : List (List ℕ)) (gate : ℕ) (junk : List ℕ) → records bodies ++ gate ∷ junk ≢ []
some_behind [] gate junk none = let clash : ⊥ = cc in clash
some_behind (b ∷ bodies) gate junk none = let clash : ⊥ = cc in clash

-- where one record stands behind others, and others behind it
length-records : (front : List (List ℕ)) (body : List ℕ) (rest : List (List ℕ)) → length (records (front ++ body ∷ rest)) ≡ length (records front) + length body + 5 + length (records rest)
length-records [] body rest = omega (arith, length-append (framed body) (records rest), length-framed body)
length-records (b ∷ front) body rest =
    omega (arith, length-records front body rest, length-append (framed b) (records (front ++ body ∷ rest)), length-append (framed b) (records front))

-- A change that stands in an image behind others, and those behind it.
record NextOf (cs xs : List ChangeValue) (gate : ℕ) (junk behind : List ℕ) : Type 0 where
  change : ChangeValue
  rest : List ChangeValue
  is : IsChange change
  others : AllByRecursion IsChange rest
  bodies : map body_of cs ≡ map body_of xs ++ body_of change ∷ map body_of rest
  there : behind ≡ framed (body_of change) ++ (records (map body_of rest) ++ gate ∷ junk)

-- behind an open gate of a whole image stands a change
next_of : (cs xs : List ChangeValue) (gate : ℕ) (junk behind : List ℕ) → gate ≢ 1 → AllByRecursion IsChange cs → AllByRecursion IsChange xs
    → records (map body_of xs) ++ 1 ∷ behind ≡ records (map body_of cs) ++ gate ∷ junk → NextOf cs xs gate junk behind
next_of [] [] gate junk behind shut all_cs all_xs same = absurd (shut (sym (same_first 1 gate behind junk same)))
next_of [] (x ∷ xs) gate junk behind shut all_cs all_xs same = absurd (shut (sym (same_first 1 gate ((framed (body_of x) ++ records (map body_of xs)) ++ 1 ∷ behind) junk same)))
next_of (c ∷ cs) [] gate junk behind shut all_cs all_xs same = record {
  change = c;
  rest = cs;
  is = all_cs.0;
  others = all_cs.1;
  bodies = refl;
  there = ap (λ (l : List ℕ). drop 1 l) same ∙ append_assoc (framed (body_of c)) (records (map body_of cs)) (gate ∷ junk);
}
next_of (c ∷ cs) (x ∷ xs) gate junk behind shut all_cs all_xs same =
    let rests : framed (body_of x) ++ (records (map body_of xs) ++ 1 ∷ behind) ≡ framed (body_of c) ++ (records (map body_of cs) ++ gate ∷ junk) =
    sym (append_assoc (framed (body_of x)) (records (map body_of xs)) (1 ∷ behind)) ∙ ap (λ (l : List ℕ). drop 1 l) same ∙ append_assoc (framed (body_of c)) (records (map body_of cs)) (gate ∷ junk) in
    let one = one_framed (body_of x) (body_of c) (records (map body_of xs) ++ 1 ∷ behind) (records (map body_of cs) ++ gate ∷ junk) (body_short x all_xs.0) (body_short c all_cs.0) rests in
    let next = next_of cs xs gate junk behind shut all_cs.1 all_xs.1 one.1 in
    record {
      change = next.change;
      rest = next.rest;
      is = next.is;
      others = next.others;
      bodies = ap (λ (l : List (List ℕ)). body_of c ∷ l) next.bodies ∙ ap (λ (b : List ℕ). b ∷ (map body_of xs ++ body_of next.change ∷ map body_of next.rest)) (sym one.0);
      there = next.there;
    }

-- no record of a whole image is bad
none_bad : (changes xs : List ChangeValue) (image : List ℕ) → HasChanges changes image → length (records (map body_of changes)) ≤ 2 ^ 62 → AllByRecursion IsChange xs
    → IsBadBehind image (map body_of xs) → ⊥
none_bad changes xs image has near all bad =
    let next = next_of changes xs has.bodies.gate has.bodies.behind bad.is_open.0 has.bodies.shut has.all all (sym bad.is_open.1 ∙ has.bodies.is) in
    bad.none next.change next.is (record {
      short = body_short next.change next.is;
      tail = records (map body_of next.rest) ++ has.bodies.gate ∷ has.bodies.behind;
      some = some_behind (map body_of next.rest) has.bodies.gate has.bodies.behind;
      is = bad.is_open.1 ∙ ap (λ (l : List ℕ). records (map body_of xs) ++ 1 ∷ l) next.there;
      near = omega (
        arith,
        near,
        ap (λ (bs : List (List ℕ)). length (records bs)) next.bodies,
        length-records (map body_of xs) (body_of next.change) (map body_of next.rest),
      );
    })

-- the changes of bodies are one list
one_changes : ((a b : ChangeValue) → IsChange a → IsChange b → body_of a ≡ body_of b → a ≡ b) → (xs ys : List ChangeValue) → AllByRecursion IsChange xs → AllByRecursion IsChange ys
    → map body_of xs ≡ map body_of ys → xs ≡ ys
one_changes one [] [] all_xs all_ys same = refl
one_changes one [] (y ∷ ys) all_xs all_ys same = let clash : ⊥ = cc in absurd clash
one_changes one (x ∷ xs) [] all_xs all_ys same = let clash : ⊥ = cc in absurd clash
one_changes one (x ∷ xs) (y ∷ ys) all_xs all_ys same =
    ap (λ (c : ChangeValue). c ∷ xs) (one x y all_xs.0 all_ys.0 (ap (λ (l : List (List ℕ)). get_or l 0 []) same))
    ∙ ap (λ (l : List ChangeValue). y ∷ l) (one_changes one xs ys all_xs.1 all_ys.1 (ap (λ (l : List (List ℕ)). drop 1 l) same))

-- one of the changes that a database took was taken behind those before it
takes_next : (setting : Setting) (xs : List ChangeValue) (change : ChangeValue) (rest : List ChangeValue) (d : Database) → TakesAll setting (xs ++ change ∷ rest) d
    → TakesChange setting change (world_after setting xs d)
takes_next setting [] change rest d all = all.0
takes_next setting (x ∷ xs) change rest d all = takes_next setting xs change rest (changed_by setting x d) all.1

all_front : (xs : List ChangeValue) (change : ChangeValue) (rest : List ChangeValue) → AllByRecursion IsChange xs → IsChange change → AllByRecursion IsChange rest
    → AllByRecursion IsChange (xs ++ change ∷ rest)
all_front [] change rest all is others = (is, others)
all_front (x ∷ xs) change rest all is others = (all.0, all_front xs change rest all.1 is others)

-- and where the disk tells too, none is of a change that isn't taken
pub good_records : ((a b : ChangeValue) → IsChange a → IsChange b → body_of a ≡ body_of b → a ≡ b) → (limits : Limits) (disk told : Bool) (image : List ℕ) (changes : List ChangeValue) (state : State)
    → HasAll told image changes → IsWorldOf limits disk changes state → IsTrue told → IsTrue disk → HasBadRecord limits disk told image → ⊥
good_records one limits disk told image changes state has world tells known bad = go bad.next where
  go : (IsTrue told → IsBadBehind image (map body_of bad.changes)) ⊎ IsDeclinedNext told image bad.changes bad.reached → ⊥
  go (inl behind) = none_bad changes bad.changes image (has.read tells) (has.near tells) bad.all (behind tells)
  go (inr next) =
      let front = next.read tells in
      let whole = (has.read tells).bodies in
      let more : List ℕ = framed (body_of next.change) ++ front.0 in
      let stands : image ≡ records (map body_of bad.changes) ++ 1 ∷ more =
      front.1 ∙ ap (λ (bs : List (List ℕ)). records bs ++ front.0) (map-append body_of bad.changes (next.change ∷ [])) ∙ records-push (map body_of bad.changes) (body_of next.change) front.0 in
      let found = next_of changes bad.changes whole.gate whole.behind more whole.shut has.all bad.all (sym stands ∙ whole.is) in
      let parts = one_framed (body_of next.change) (body_of found.change) front.0 (records (map body_of found.rest) ++ whole.gate ∷ whole.behind) (body_short next.change next.is)
      (body_short found.change found.is) found.there in
      let split : changes ≡ bad.changes ++ next.change ∷ found.rest =
      one_changes one changes (bad.changes ++ next.change ∷ found.rest) has.all (all_front bad.changes next.change found.rest bad.all next.is found.others)
      (found.bodies ∙ ap (λ (b : List ℕ). map body_of bad.changes ++ b ∷ map body_of found.rest) (sym parts.0) ∙ sym (map-append body_of bad.changes (next.change ∷ found.rest))) in
      let setting : Setting = some_setting bad.reached in
      let begun_told : IsTrue bad.begun.pool.disk.told = bad.known ∙ known in
      let own : bad.begun.catalog.limits ≡ limits = ap (λ (s : StoreState). s.catalog.limits) bad.empty in
      let here : setting.limits ≡ bad.begun.catalog.limits = bad.led.carries.limits in
      let taken : TakesChange setting next.change (world_after setting bad.changes []) =
      takes_next setting bad.changes next.change found.rest []
      (subst (λ (cs : List ChangeValue). TakesAll setting cs []) split (world.takes known setting (is_some_setting bad.reached) (here ∙ own))) in
      let reached : database bad.reached ≡ world_after setting bad.changes [] =
      bad.led.becomes begun_told setting (is_some_setting bad.reached) here ∙ ap (λ (d : Database). world_after setting bad.changes d) (ap (λ (s : StoreState). database s) bad.empty) in
      next.declines.not_taken (bad.led.carries.told ∙ begun_told) setting (is_some_setting bad.reached) refl
      (subst (λ (d : Database). TakesChange setting next.change d) (sym reached) taken)
