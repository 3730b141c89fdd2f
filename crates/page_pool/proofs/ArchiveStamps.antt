-- Stamps of an archive that are taken, kept while one more command begins, and given back.
use Rattle.std.proofs.Common.{◌≡◌, ◌≤◌, ◌<◌, ℕ, ◌+◌, List, Bool, true, false, cond, refl, sym, ap, subst, ◌∙◌, Option, Some, None, is_some, IsTrue, option_map}
use Rattle.std.proofs.Common.{option_and_then, Result, Ok, Err, OnOk, OnErr, IfOk, ◌⊎◌, inl, inr, arith}
use Rattle.std.specs.Ordering.{nat_cmp, eq_by_cmp}
use Rattle.std.specs.FinMap as map
use Rattle.std.specs.FinSet as set
use Rattle.std.proofs.lemmas.Bool.{false≢true, cases_eq}
use Rattle.std.proofs.lemmas.Option.{none-some}
use Rattle.page_pool.specs.declared.home.Home.{Home}
use Rattle.page_pool.specs.declared.past.Past.{Past}
use Rattle.page_pool.specs.Disk.{DigestMap, DiskView}
use Rattle.page_pool.specs.Images.{HeldMap, ImagesState, images_of, IsImages, was_newest, is_seen, is_past_seen, is_home_seen, newest_place, seen_place, past_seen, seen_homes}
use Rattle.page_pool.specs.Archive.{newest_images, StandsWritten, Advances, Releases}
use Rattle.page_pool.specs.InsideArchive.{newest_of, seen_of, stored_at, images_at, stamps_of, archive_of, ImageStandsAt, IsArchived}
use Rattle.page_pool.proofs.Maps.{same, get-insert, get-remove, get-insert_other, found-insert, found-remove}
use Rattle.page_pool.proofs.Choices.{same_numbers}
use Rattle.page_pool.proofs.Sights.{within_life, seer, seen_by}
use Rattle.page_pool.proofs.TurnCounts.{contains-past_seen, contains-seen_homes}
use Rattle.page_pool.proofs.Archives.{get-newest_of, get-stamps_of, stored_told, now_newest, unchanged_images}
use Rattle.page_pool.proofs.Tallies.{fewer_where}

-- two tests that follow from one another
same_test : (a b : Bool) → (a ≡ true → b ≡ true) → (b ≡ true → a ≡ true) → a ≡ b
same_test true b to from = sym (to refl)
same_test false true to from = absurd (false≢true (from refl))
same_test false false to from = refl

module _ (s : ImagesState) (whole : IsImages s) (slot : ℕ) (free : map.get s.held slot ≡ None) where
  -- the held stamps with one of the last command
  abbrev with_stamp : HeldMap
  with_stamp = map.insert s.held slot s.begun

  abbrev pub kept_state : ImagesState
  kept_state = images_of s.homes s.past with_stamp s.begun s.changed s.top

  -- a new stamp sees no image that was replaced before
  seen_still : (made until : ℕ) → until ≤ s.begun → is_seen with_stamp made until ≡ is_seen s.held made until
  seen_still made until last = same_test (is_seen with_stamp made until) (is_seen s.held made until)
      (λ sees. let by = seer with_stamp made until sees in old by.0 by.1.0 by.1.1.1 (found-insert s.held slot s.begun by.0 by.1.0 by.1.1.0))
      (λ sees. let by = seer s.held made until sees in seen_by with_stamp made until by.0 by.1.0
      (get-insert_other s.held slot s.begun by.0 (λ is. none-some by.1.0 (sym free ∙ ap (map.get s.held) (sym is) ∙ by.1.1.0)) ∙ by.1.1.0) by.1.1.1)
    where
      old : (id at : ℕ) → was_newest made until at ≡ true → ((id ≡ slot) × (at ≡ s.begun)) ⊎ (map.get s.held id ≡ Some at) → is_seen s.held made until ≡ true
      old id at life (inl (here, is)) = let inside = within_life made until at life in absurd (omega arith)
      old id at life (inr before) = seen_by s.held made until id at before life

  past_still : past_seen with_stamp s.past ≡ past_seen s.held s.past
  past_still = same_numbers (past_seen with_stamp s.past) (past_seen s.held s.past)
      (λ p. contains-past_seen with_stamp s.past p ∙ by_item p (map.get s.past p) refl ∙ sym (contains-past_seen s.held s.past p))
    where
      by_item : (p : ℕ) (o : Option Past) → map.get s.past p ≡ o → is_past_seen with_stamp (map.get s.past p) ≡ is_past_seen s.held (map.get s.past p)
      by_item p None is = ap (is_past_seen with_stamp) is ∙ sym (ap (is_past_seen s.held) is)
      by_item p (Some e) is = let old = whole.left p e is in let last = whole.changed in
          ap (is_past_seen with_stamp) is ∙ seen_still e.made e.until (omega arith) ∙ sym (ap (is_past_seen s.held) is)

  homes_still : seen_homes kept_state ≡ seen_homes s
  homes_still = same_numbers (seen_homes kept_state) (seen_homes s) (λ n. contains-seen_homes kept_state n ∙ by_item (map.get s.homes n) ∙ sym (contains-seen_homes s n))
    where
      by_item : (o : Option Home) → is_home_seen with_stamp s.begun o ≡ is_home_seen s.held s.begun o
      by_item None = refl
      by_item (Some h) = seen_still h.made s.begun (omega arith)

  module _ (disk : DiskView) (kept : DigestMap) where
    newest_still : {X : Type 0} (f : ℕ → Option X) → newest_of f kept_state ≡ newest_of f s
    unfolding newest_of
    newest_still f = refl

    images_still : (at : ℕ) → images_at disk kept kept_state at ≡ images_at disk kept s at
    unfolding seen_of
    images_still at = refl

    stamps_more : stamps_of disk kept kept_state ≡ map.insert (stamps_of disk kept s) slot (newest_images (archive_of disk kept s))
    stamps_more = same (stamps_of disk kept kept_state) (map.insert (stamps_of disk kept s) slot (newest_images (archive_of disk kept s))) (λ q.
        get-stamps_of disk kept kept_state q ∙ ap (option_map (images_at disk kept kept_state)) (get-insert s.held slot s.begun q) ∙ by_tie q (eq_by_cmp nat_cmp q slot)
        ∙ sym (get-insert (stamps_of disk kept s) slot (newest_images (archive_of disk kept s)) q))
      where
        each_still : (o : Option ℕ) → option_map (images_at disk kept kept_state) o ≡ option_map (images_at disk kept s) o
        each_still None = refl
        each_still (Some at) = ap (λ f. Some f) (images_still at)

        by_tie : (q : ℕ) (b : Bool) → option_map (images_at disk kept kept_state) (cond b (Some s.begun) (map.get s.held q))
            ≡ cond b (Some (newest_images (archive_of disk kept s))) (map.get (stamps_of disk kept s) q)
        by_tie q true = ap (λ f. Some f) (images_still s.begun ∙ unchanged_images disk kept s whole s.begun whole.changed)
        by_tie q false = each_still (map.get s.held q) ∙ sym (get-stamps_of disk kept s q)

    -- a stamp is held: it sees the newest images
    pub keeps_stamp : archive_of disk kept kept_state ≡ record (archive_of disk kept s) { stamps = map.insert (stamps_of disk kept s) slot (newest_images (archive_of disk kept s)) }
    keeps_stamp = λ i. record {
      disk = disk;
      pages = newest_still (stored_at disk kept) i;
      kept = newest_still (map.get kept) i;
      places = newest_still Some i;
      stamps = stamps_more i;
      begun = s.begun;
      changed = s.changed;
      seen = set.len (past_still i);
      shared = homes_still i;
    }

    pub archived_kept : IsArchived disk kept s → IsArchived disk kept kept_state
    archived_kept good = record {
      digested = good.digested;
      stands = λ id at n p held early is. old id at n p early is (found-insert s.held slot s.begun id at held);
    }
      where
        old : (id at n p : ℕ) → at < s.begun → seen_place at s n ≡ Some p → ((id ≡ slot) × (at ≡ s.begun)) ⊎ (map.get s.held id ≡ Some at) → ImageStandsAt disk kept p
        old id at n p early is (inl (_, now)) = absurd (omega arith)
        old id at n p early is (inr before) = good.stands id at n p before early is

    pub slot_free : map.get (stamps_of disk kept s) slot ≡ None
    slot_free = get-stamps_of disk kept s slot ∙ ap (option_map (images_at disk kept s)) free

module _ (s : ImagesState) (slot : ℕ) where
  -- the held stamps without this one
  abbrev without_stamp : HeldMap
  without_stamp = map.remove s.held slot

  abbrev pub released_state : ImagesState
  released_state = images_of s.homes s.past without_stamp s.begun s.changed s.top

  -- what another stamp sees was seen
  seen_before : (made until : ℕ) → is_seen without_stamp made until ≡ true → is_seen s.held made until ≡ true
  seen_before made until sees = let by = seer without_stamp made until sees in seen_by s.held made until by.0 by.1.0 (found-remove s.held slot by.0 by.1.0 by.1.1.0) by.1.1.1

  past_fewer : set.len (past_seen without_stamp s.past) ≤ set.len (past_seen s.held s.past)
  unfolding past_seen
  past_fewer = fewer_where (λ p. is_past_seen without_stamp (map.get s.past p)) (λ p. is_past_seen s.held (map.get s.past p)) (map.keys s.past) (λ p. by_item (map.get s.past p))
    where
      by_item : (o : Option Past) → is_past_seen without_stamp o ≡ true → is_past_seen s.held o ≡ true
      by_item None h = h
      by_item (Some e) h = seen_before e.made e.until h

  homes_before : (n : ℕ) → IsTrue (set.contains (seen_homes released_state) n) → IsTrue (set.contains (seen_homes s) n)
  homes_before n shared = contains-seen_homes s n ∙ by_item (map.get s.homes n) (sym (contains-seen_homes released_state n) ∙ shared)
    where
      by_item : (o : Option Home) → is_home_seen without_stamp s.begun o ≡ true → is_home_seen s.held s.begun o ≡ true
      by_item None h = h
      by_item (Some k) h = seen_before k.made s.begun h

  module _ (disk : DiskView) (kept : DigestMap) where
    newest_left : {X : Type 0} (f : ℕ → Option X) → newest_of f released_state ≡ newest_of f s
    unfolding newest_of
    newest_left f = refl

    images_left : (at : ℕ) → images_at disk kept released_state at ≡ images_at disk kept s at
    unfolding seen_of
    images_left at = refl

    stamps_fewer : stamps_of disk kept released_state ≡ map.remove (stamps_of disk kept s) slot
    stamps_fewer = same (stamps_of disk kept released_state) (map.remove (stamps_of disk kept s) slot) (λ q.
        get-stamps_of disk kept released_state q ∙ ap (option_map (images_at disk kept released_state)) (get-remove s.held slot q) ∙ by_tie q (eq_by_cmp nat_cmp q slot)
        ∙ sym (get-remove (stamps_of disk kept s) slot q))
      where
        each_left : (o : Option ℕ) → option_map (images_at disk kept released_state) o ≡ option_map (images_at disk kept s) o
        each_left None = refl
        each_left (Some at) = ap (λ f. Some f) (images_left at)

        by_tie : (q : ℕ) (b : Bool) → option_map (images_at disk kept released_state) (cond b None (map.get s.held q)) ≡ cond b None (map.get (stamps_of disk kept s) q)
        by_tie q true = refl
        by_tie q false = each_left (map.get s.held q) ∙ sym (get-stamps_of disk kept s q)

    -- a stamp is given back
    pub releases : Releases (archive_of disk kept s) (archive_of disk kept released_state) slot
    releases = record {
      disk = refl;
      pages = newest_left (stored_at disk kept);
      kept = newest_left (map.get kept);
      places = newest_left Some;
      stamps = stamps_fewer;
      begun = refl;
      changed = refl;
      seen = past_fewer;
      shared = homes_before;
    }

    pub archived_released : IsArchived disk kept s → IsArchived disk kept released_state
    archived_released good = record {
      digested = good.digested;
      stands = λ id at n p held early is. good.stands id at n p (found-remove s.held slot id at held) early is;
    }

module _ (s : ImagesState) where
  abbrev pub advanced_state : ImagesState
  advanced_state = images_of s.homes s.past s.held (s.begun + 1) s.changed s.top

  newest_later : {X : Type 0} (f : ℕ → Option X) → newest_of f advanced_state ≡ newest_of f s
  unfolding newest_of
  newest_later f = refl

  stamps_later : (disk : DiskView) (kept : DigestMap) → stamps_of disk kept advanced_state ≡ stamps_of disk kept s
  unfolding stamps_of seen_of
  stamps_later disk kept = refl

  -- one more command begins
  pub advances : (disk : DiskView) (kept : DigestMap) → Advances (archive_of disk kept s) (archive_of disk kept advanced_state)
  advances disk kept = record {
    disk = refl;
    pages = newest_later (stored_at disk kept);
    kept = newest_later (map.get kept);
    places = newest_later Some;
    stamps = stamps_later disk kept;
    begun = refl;
    changed = refl;
    seen = refl;
  }

  -- what a stamp of the command before sees is what stands now
  pub archived_advanced : (disk : DiskView) (kept : DigestMap) → IsImages s → ((n : ℕ) → StandsWritten disk.told (newest_of (stored_at disk kept) s) (newest_of (map.get kept) s) n)
      → IsArchived disk kept s → IsArchived disk kept advanced_state
  archived_advanced disk kept whole stands good = record {
    digested = good.digested;
    stands = λ slot at n p held early is. by_time slot at n p held is (cases_eq at s.begun) early;
  }
    where
      at_now : (n p : ℕ) → newest_place s n ≡ Some p → IsTrue (map.contains_key kept p) → ImageStandsAt disk kept p
      at_now n p here has = by_digest (map.get kept p) refl has
        where
          by_digest : (o : Option (List ℕ)) → map.get kept p ≡ o → is_some o ≡ true → ImageStandsAt disk kept p
          by_digest None is h = absurd (false≢true h)
          by_digest (Some digest) is h = (
            digest,
            (
              is,
              λ told.
                  let page = stands n digest (get-newest_of (map.get kept) s n ∙ ap (option_and_then (map.get kept)) here ∙ is) told in (
                    page.0,
                    (
                      sym (stored_told disk kept p told (ap is_some is)) ∙ sym (ap (option_and_then (stored_at disk kept)) here)
                          ∙ sym (get-newest_of (stored_at disk kept) s n) ∙ page.1.0,
                      page.1.1,
                    ),
                  ),
            ),
          )

      by_time : (slot at n p : ℕ) → map.get s.held slot ≡ Some at → seen_place at s n ≡ Some p → (at ≡ s.begun) ⊎ (at ≡ s.begun → ⊥) → at < s.begun + 1 → ImageStandsAt disk kept p
      by_time slot at n p held is (inl now) early = let last = whole.changed in
          let here : newest_place s n ≡ Some p = sym (now_newest s whole at n (omega arith)) ∙ is in at_now n p here (good.digested n p here)
      by_time slot at n p held is (inr before) early = good.stands slot at n p held (omega arith) is

-- a stamp was taken, or memory refused
pub kept_answer : {E : Type 0} (disk : DiskView) (kept : DigestMap) (s t : ImagesState) (r : Result ℕ E) → IsImages s → IfOk r (λ slot. map.get s.held slot ≡ None)
    → IfOk r (λ slot. t ≡ record s { held = map.insert s.held slot s.begun }) → OnErr r (t ≡ s) → IsArchived disk kept s
    → IsArchived disk kept t × (IfOk r (λ slot. map.get (stamps_of disk kept s) slot ≡ None)
    × IfOk r (λ slot. archive_of disk kept t ≡ record (archive_of disk kept s) { stamps = map.insert (stamps_of disk kept s) slot (newest_images (archive_of disk kept s)) }))
kept_answer disk kept s t (Err e) whole free more same good = (subst (IsArchived disk kept) (sym same) good, (tt, tt))
kept_answer disk kept s t (Ok slot) whole free more same good = (
  subst (IsArchived disk kept) (sym more) (archived_kept s whole slot free disk kept good),
  (slot_free s whole slot free disk kept, ap (archive_of disk kept) more ∙ keeps_stamp s whole slot free disk kept),
)

-- a stamp was given back
pub released_answer : (disk : DiskView) (kept : DigestMap) (s t : ImagesState) (slot : ℕ) → t ≡ record s { held = map.remove s.held slot } → IsArchived disk kept s
    → IsArchived disk kept t × Releases (archive_of disk kept s) (archive_of disk kept t) slot
released_answer disk kept s t slot is good = subst (λ x. IsArchived disk kept x × Releases (archive_of disk kept s) (archive_of disk kept x) slot) (sym is)
    (archived_released s slot disk kept good, releases s slot disk kept)

-- one more command began, or memory was refused
pub advanced_answer : {T E : Type 0} (disk : DiskView) (kept : DigestMap) (s t : ImagesState) (r : Result T E) → IsImages s
    → ((n : ℕ) → StandsWritten disk.told (newest_of (stored_at disk kept) s) (newest_of (map.get kept) s) n)
    → OnOk r (t ≡ record s { begun = s.begun + 1 }) → OnErr r (t ≡ s) → IsArchived disk kept s → IsArchived disk kept t × OnOk r (Advances (archive_of disk kept s) (archive_of disk kept t))
advanced_answer disk kept s t (Err e) whole stands more same good = (subst (IsArchived disk kept) (sym same) good, tt)
advanced_answer disk kept s t (Ok x) whole stands more same good =
    subst (λ y. IsArchived disk kept y × Advances (archive_of disk kept s) (archive_of disk kept y)) (sym more) (archived_advanced s disk kept whole stands good, advances s disk kept)
