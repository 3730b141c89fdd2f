-- The parts of a pool after one waiting page was written, or could not be, and after a freed number was let go.
use Rattle.std.proofs.Common.{◌≡◌, ◌≢◌, ◌≤◌, ◌<◌, ◌+◌, ◌-◌, ℕ, List, Bool, true, false, cond, not, ◌&&◌, ◌||◌, refl, sym, ap, subst, ◌∙◌, Option, Some, None, is_some}
use Rattle.std.proofs.Common.{IsTrue, IsNone, ◌⊎◌, inl, inr, arith}
use mathlib.Core.Bool.{true≢false}
use Rattle.std.specs.Ordering.{nat_cmp, eq_by_cmp}
use Rattle.std.specs.Cmp.{nat_cmp_total}
use Rattle.std.specs.Option.{unwrap_or}
use Rattle.std.specs.FinMap as map
use Rattle.std.specs.FinSet as set
use Rattle.sha2.specs.Sha256.{sha256}
use Rattle.page_pool.specs.Disk.{PageMap, NumberSet}
use Rattle.page_pool.specs.Archive.{ArchiveState, IsArchive, ChangesPage, ReplacesImage, HasImage, newest_images}
use Rattle.page_pool.specs.Inside.{ChangeMap, StagedState, CacheState, NumbersState, IsAccount, IsImageOf, IsWhole, is_used, state_of, overlaid, dirty_of, freed_of, staged_shared}
use Rattle.page_pool.specs.Commands.{Settles, SettlesStamps, WritesPages}
use Rattle.page_pool.specs.Pool.{PoolState, shown_of}
use Rattle.page_pool.proofs.Maps.{same, get-remove_same, get-remove_other, tie_itself, tie_apart}
use Rattle.page_pool.proofs.Overlay.{same_set, is_page, is_gone, get-overlaid, contains-dirty, contains-freed}
use Rattle.page_pool.proofs.Accounts.{account-same, both_of}
use Rattle.page_pool.proofs.Sizes.{len_falls, no_more}
use Rattle.page_pool.proofs.Stamped.{shown_live}
use Rattle.page_pool.proofs.Seen.{some_one}
use Rattle.page_pool.proofs.Frozen.{decide, held_still, frozen_back, stamp_settled, settles_same, shared_falls}

-- no command is open where there is no beginning
pub closed_is : {X : Type 0} (b : Bool) (x : X) → IsNone (cond b (Some x) None) → b ≡ false
closed_is true x h = h
closed_is false x h = refl

-- what is nothing is not something
pub no_one : {X : Type 0} (x : X) (o : Option X) → o ≡ None → o ≡ Some x → (P : Type 0) → P
no_one x o none some P = absurd (true≢false (ap is_some (sym some ∙ none)))

-- a number whose change was taken out is neither dirty nor freed
pub dirty-removed : (changes : ChangeMap) (n : ℕ) → dirty_of (map.remove changes n) ≡ set.remove (dirty_of changes) n
dirty-removed changes n = same_set _ _ (λ q. contains-dirty (map.remove changes n) q ∙ ap is_page (map.get-remove nat_cmp_total changes n q) ∙ by_tie (eq_by_cmp nat_cmp q n) (map.get changes q)
    ∙ sym (set.contains-remove nat_cmp_total (dirty_of changes) n q ∙ ap (λ b. not (eq_by_cmp nat_cmp q n) && b) (contains-dirty changes q)))
  where
    by_tie : (b : Bool) (c : Option (Option (List ℕ))) → is_page (cond b None c) ≡ (not b && is_page c)
    by_tie true c = refl
    by_tie false c = refl

pub freed-removed : (changes : ChangeMap) (n : ℕ) → freed_of (map.remove changes n) ≡ set.remove (freed_of changes) n
freed-removed changes n = same_set _ _ (λ q. contains-freed (map.remove changes n) q ∙ ap is_gone (map.get-remove nat_cmp_total changes n q) ∙ by_tie (eq_by_cmp nat_cmp q n) (map.get changes q)
    ∙ sym (set.contains-remove nat_cmp_total (freed_of changes) n q ∙ ap (λ b. not (eq_by_cmp nat_cmp q n) && b) (contains-freed changes q)))
  where
    by_tie : (b : Bool) (c : Option (Option (List ℕ))) → is_gone (cond b None c) ≡ (not b && is_gone c)
    by_tie true c = refl
    by_tie false c = refl

pub len_stays : (s : NumberSet) (n : ℕ) → set.contains s n ≡ false → set.len (set.remove s n) ≡ set.len s
len_stays s n out = set.len-remove nat_cmp_total s n ∙ ap (λ b. cond b (set.len s - 1) (set.len s)) out

-- whether a set without n has another number
pub removed-other : (s : NumberSet) (n q : ℕ) → q ≢ n → set.contains (set.remove s n) q ≡ set.contains s q
removed-other s n q apart = set.contains-remove nat_cmp_total s n q ∙ ap (λ b. not b && set.contains s q) (tie_apart q n apart)

pub removed-same : (s : NumberSet) (n : ℕ) → set.contains (set.remove s n) n ≡ false
removed-same s n = set.contains-remove nat_cmp_total s n n ∙ ap (λ b. not b && set.contains s n) (tie_itself n)

-- a change that freed the number is what makes it freed
pub freed_is : (changes : ChangeMap) (n : ℕ) → set.contains (freed_of changes) n ≡ true → map.get changes n ≡ Some None
freed_is changes n freed = by_change (map.get changes n) refl (sym (contains-freed changes n) ∙ freed)
  where
    by_change : (c : Option (Option (List ℕ))) → map.get changes n ≡ c → is_gone (map.get changes n) ≡ true → map.get changes n ≡ Some None
    by_change None is h = absurd (true≢false (sym h ∙ ap is_gone is))
    by_change (Some (Some page)) is h = absurd (true≢false (sym h ∙ ap is_gone is))
    by_change (Some None) is h = is

-- a writing, by what it does to the live map and to those of the stamps
pub writes_from : (old new : PoolState) → Settles old.disk.told (shown_of old) (shown_of new) → new.disk.told ≡ old.disk.told → new.disk.given ≡ old.disk.given
    → new.top ≡ old.top → new.frames ≡ old.frames → new.gets ≡ old.gets → new.damages ≡ old.damages
    → SettlesStamps old new → IsNone new.live → new.places ≤ old.places → WritesPages old new
writes_from old new live told given top frames gets damages stamps shown places = record {
  lives = live.lives;
  pages = live.pages;
  dirty = live.dirty;
  written = live.written;
  waiting = live.waiting;
  clean = λ q is clean. (live.clean q is clean).1;
  told = told;
  given = given;
  top = top;
  frames = frames;
  gets = gets;
  damages = damages;
  stamps = stamps;
  shown = shown;
  places = places;
}

-- a page that is left after one was taken out is another, and was there
pub forgot_one : (pages pages' : PageMap) (n : ℕ) → pages' ≡ map.remove pages n → (q : ℕ) (bytes : List ℕ) → map.get pages' q ≡ Some bytes → (q ≢ n) × (map.get pages q ≡ Some bytes)
forgot_one pages pages' n forgot q bytes is = elim (decide q n) [
  | inl one ↦ no_one bytes (map.get pages' q) (ap (λ m. map.get m q) forgot ∙ ap (λ k. map.get (map.remove pages n) k) one ∙ get-remove_same pages n) is _
  | inr apart ↦ (apart, sym (ap (λ m. map.get m q) forgot ∙ get-remove_other pages n q apart) ∙ is)
]

-- the frames lost that of the newest image of page n
pub forgot_newest : (frames frames' : CacheState) (n : ℕ) → frames'.newest ≡ map.remove frames.newest n → (q : ℕ) (bytes : List ℕ)
    → map.get frames'.newest q ≡ Some bytes → (q ≢ n) × (map.get frames.newest q ≡ Some bytes)
forgot_newest frames frames' n forgot = forgot_one frames.newest frames'.newest n forgot

-- a freed number's image is no more, or page n may be spoiled, and waits: the maps stay
module _ (a b : ArchiveState) (changes : ChangeMap) (frames frames' : CacheState) (numbers numbers' : NumbersState) (is_open : Bool) (n : ℕ)
    (waits : map.contains_key changes n ≡ true) (closed : is_open ≡ false) (change : ChangesPage a b n) (archive : IsArchive b) (forgot : frames'.newest ≡ map.remove frames.newest n)
    (same_past : frames'.past ≡ frames.past) (still : (p : ℕ) → map.get b.places n ≡ Some p → map.get a.places n ≡ Some p) where
  other_page : (q : ℕ) → (is_open ≡ false → map.get changes q ≡ None) → q ≢ n
  other_page q none one = true≢false (sym waits ∙ ap (map.contains_key changes) (sym one) ∙ ap is_some (none closed))

  pages_spoiled : overlaid changes b.pages ≡ overlaid changes a.pages
  pages_spoiled = same _ _ (λ q. elim (decide q n) [
    | inl one ↦ get-overlaid changes b.pages q ∙ staged_or (map.get changes q) (map.get b.pages q) (map.get a.pages q) (ap (map.contains_key changes) one ∙ waits)
        ∙ sym (get-overlaid changes a.pages q)
    | inr apart ↦ get-overlaid changes b.pages q ∙ ap (unwrap_or (map.get changes q)) (change.pages q apart) ∙ sym (get-overlaid changes a.pages q)
  ])
    where
      staged_or : (c : Option (Option (List ℕ))) (x y : Option (List ℕ)) → is_some c ≡ true → unwrap_or c x ≡ unwrap_or c y
      staged_or (Some c) x y h = refl
      staged_or None x y h = absurd (true≢false (sym h))

  -- the page isn't live and clean
  not_clean : (q : ℕ) → IsTrue (map.contains_key (overlaid changes a.pages) q) → set.contains (dirty_of changes) q ≡ false → q ≢ n
  not_clean q live clean one = waiting_not (map.get changes n) refl
    where
      waiting_not : (c : Option (Option (List ℕ))) → map.get changes n ≡ c → ⊥
      waiting_not None is = true≢false (sym waits ∙ ap is_some is)
      waiting_not (Some None) is = true≢false (sym live ∙ ap (map.contains_key (overlaid changes a.pages)) one
          ∙ ap is_some (get-overlaid changes a.pages n ∙ ap (λ c. unwrap_or c (map.get a.pages n)) is))
      waiting_not (Some (Some page)) is = true≢false (sym (contains-dirty changes n ∙ ap is_page is) ∙ ap (set.contains (dirty_of changes)) (sym one) ∙ clean)

  settles_spoiled : Settles a.disk.told (shown_live changes (newest_images a)) (shown_live changes (newest_images b))
  settles_spoiled = settles_same a.disk.told _ _ pages_spoiled refl (λ q live clean. change.kept q (not_clean q live clean))

  pub whole-spoiled : numbers'.top ≡ numbers.top → numbers'.spare ≡ numbers.spare → IsWhole a changes frames numbers is_open → IsWhole b changes frames' numbers' is_open
  whole-spoiled top spare w = record {
    archived = archive;
    stands = λ q none digest has tells. let apart = other_page q none in
        let there = w.stands q none digest (sym (change.kept q apart) ∙ has) (sym change.told ∙ tells) in (there.0, (change.pages q apart ∙ there.1.0, there.1.1));
    newest = λ q bytes is. let f = forgot_newest frames frames' n forgot q bytes is in let was = w.newest q bytes f.1 in
        (change.kept q f.0 ∙ was.0, λ tells. change.pages q f.0 ∙ was.1 (sym change.told ∙ tells));
    past = λ id f frozen q p bytes is there. let was = w.past id f (frozen_back a b n change id f frozen) q p bytes is (ap (λ m. map.get m p) (sym same_past) ∙ there) in
        (was.0, λ tells. was.1 (sym change.told ∙ tells));
    replaced = λ q p bytes is there. elim (decide q n) [
      | inl one ↦ w.replaced q p bytes (ap (map.get a.places) one ∙ still p (ap (map.get b.places) (sym one) ∙ is)) (ap (λ m. map.get m p) (sym same_past) ∙ there)
      | inr apart ↦ w.replaced q p bytes (sym (change.places q apart) ∙ is) (ap (λ m. map.get m p) (sym same_past) ∙ there)
    ];
    numbers_now = subst (λ t. IsAccount (is_used changes b.kept) t numbers'.spare) (sym top) (subst (IsAccount (is_used changes b.kept) numbers.top) (sym spare)
        (account-same (is_used changes a.kept) (is_used changes b.kept) numbers.top numbers.spare used_still w.numbers_now));
    numbers_before = λ opened. absurd (true≢false (sym opened ∙ closed));
    early = λ opened. absurd (true≢false (sym opened ∙ closed));
  }
    where
      used_still : (q : ℕ) → is_used changes b.kept q ≡ is_used changes a.kept q
      used_still q = elim (decide q n) [
        | inl one ↦ ap (λ x. x || map.contains_key b.kept q) (ap (map.contains_key changes) one ∙ waits) ∙ sym (ap (λ x. x || map.contains_key a.kept q) (ap (map.contains_key changes) one ∙ waits))
        | inr apart ↦ ap (λ d. map.contains_key changes q || is_some d) (change.kept q apart)
      ]

  -- all pages are as they were
  pub writes_spoiled : (staged : StagedState) (gets damages : ℕ) → staged.changes ≡ changes → IsArchive a → frames'.most ≡ frames.most → numbers'.top ≡ numbers.top
      → b.seen + set.len (staged_shared b.shared changes) ≤ a.seen + set.len (staged_shared a.shared changes)
      → WritesPages (state_of a staged frames numbers is_open gets damages) (state_of b staged frames' numbers' is_open gets damages)
  writes_spoiled staged gets damages is old most top fewer =
      subst (λ c. WritesPages (state_of a (record staged { changes = c }) frames numbers is_open gets damages) (state_of b (record staged { changes = c }) frames' numbers' is_open gets damages))
      (sym is)
      (writes_from (state_of a (record staged { changes = changes }) frames numbers is_open gets damages) (state_of b (record staged { changes = changes }) frames' numbers' is_open gets damages)
      settles_spoiled change.told change.given top most refl refl
      record { held = held_still a b n change changes changes; settles = stamp_settled a b n change a.disk.told changes changes old archive settles_spoiled }
      refl (let pages : map.len (overlaid changes b.pages) ≡ map.len (overlaid changes a.pages) = ap map.len pages_spoiled in omega arith))

-- page n was written, and waits no more
module _ (a b : ArchiveState) (changes changes' : ChangeMap) (frames forgotten frames' : CacheState) (numbers : NumbersState) (is_open : Bool) (n place : ℕ) (page : List ℕ)
    (waits : map.get changes n ≡ Some (Some page)) (closed : is_open ≡ false) (change : ChangesPage a b n) (archive : IsArchive b) (image : HasImage b n page place)
    (forgot : forgotten.newest ≡ map.remove frames.newest n) (rest : changes' ≡ map.remove changes n)
    (framed : (q : ℕ) (bytes : List ℕ) → map.get frames'.newest q ≡ Some bytes → ((q ≡ n) × (bytes ≡ page)) ⊎ (map.get forgotten.newest q ≡ Some bytes))
    (framed_past : (q : ℕ) (bytes : List ℕ) → map.get frames'.past q ≡ Some bytes → (q ≢ place) × (map.get frames.past q ≡ Some bytes)) where
  change_here : map.get changes' n ≡ None
  change_here = ap (λ m. map.get m n) rest ∙ get-remove_same changes n

  change_other : (q : ℕ) → q ≢ n → map.get changes' q ≡ map.get changes q
  change_other q apart = ap (λ m. map.get m q) rest ∙ get-remove_other changes n q apart

  -- the image of page n in a frame
  image_of : (q : ℕ) (bytes : List ℕ) → q ≡ n → bytes ≡ page → IsImageOf b.disk.told b.pages b.kept q bytes
  image_of q bytes one is = (ap (map.get b.kept) one ∙ image.kept ∙ ap (λ x. Some (sha256 x)) (sym is), λ tells. ap (map.get b.pages) one ∙ image.page tells ∙ ap (λ x. Some x) (sym is))

  used_settled : (q : ℕ) → is_used changes' b.kept q ≡ is_used changes a.kept q
  used_settled q = elim (decide q n) [
    | inl one ↦ ap (is_used changes' b.kept) one ∙ (λ i. is_some (change_here i) || is_some (image.kept i))
        ∙ sym (ap (is_used changes a.kept) one ∙ ap (λ c. is_some c || map.contains_key a.kept n) waits)
    | inr apart ↦ (λ i. is_some (change_other q apart i) || is_some (change.kept q apart i))
  ]

  pub whole-settled : IsWhole a changes frames numbers is_open → IsWhole b changes' frames' numbers is_open
  whole-settled w = record {
    archived = archive;
    stands = λ q none digest has tells. elim (decide q n) [
      | inl one ↦ (page, (ap (map.get b.pages) one ∙ image.page tells, some_one digest (sha256 page) (sym has ∙ ap (map.get b.kept) one ∙ image.kept)))
      | inr apart ↦ let there = w.stands q (λ c. sym (change_other q apart) ∙ none c) digest (sym (change.kept q apart) ∙ has) (sym change.told ∙ tells) in
          (there.0, (change.pages q apart ∙ there.1.0, there.1.1))
    ];
    newest = λ q bytes is. elim (framed q bytes is) [
      | inl this ↦ image_of q bytes this.0 this.1
      | inr before ↦ let f = forgot_newest frames forgotten n forgot q bytes before in let was = w.newest q bytes f.1 in
          (change.kept q f.0 ∙ was.0, λ tells. change.pages q f.0 ∙ was.1 (sym change.told ∙ tells))
    ];
    past = λ id f frozen q p bytes is there. let was = w.past id f (frozen_back a b n change id f frozen) q p bytes is (framed_past p bytes there).1 in
        (was.0, λ tells. was.1 (sym change.told ∙ tells));
    replaced = λ q p bytes is there. elim (decide q n) [
      | inl one ↦ (framed_past p bytes there).0 (some_one p place (sym is ∙ ap (map.get b.places) one ∙ image.place))
      | inr apart ↦ w.replaced q p bytes (sym (change.places q apart) ∙ is) (framed_past p bytes there).1
    ];
    numbers_now = account-same (is_used changes a.kept) (is_used changes' b.kept) numbers.top numbers.spare used_settled w.numbers_now;
    numbers_before = λ opened. absurd (true≢false (sym opened ∙ closed));
    early = λ opened. absurd (true≢false (sym opened ∙ closed));
  }

  old_here : map.get (overlaid changes a.pages) n ≡ Some page
  old_here = get-overlaid changes a.pages n ∙ ap (λ c. unwrap_or c (map.get a.pages n)) waits

  new_here : map.get (overlaid changes' b.pages) n ≡ map.get b.pages n
  new_here = get-overlaid changes' b.pages n ∙ ap (λ c. unwrap_or c (map.get b.pages n)) change_here

  pages_other : (q : ℕ) → q ≢ n → map.get (overlaid changes' b.pages) q ≡ map.get (overlaid changes a.pages) q
  pages_other q apart = get-overlaid changes' b.pages q ∙ (λ i. unwrap_or (change_other q apart i) (change.pages q apart i)) ∙ sym (get-overlaid changes a.pages q)

  here_live : (t : Bool) → b.disk.told ≡ t → map.contains_key (overlaid changes' b.pages) n ≡ true
  here_live true tells = ap is_some (new_here ∙ image.page tells)
  here_live false untold = ap is_some new_here ∙ ap (λ m. map.contains_key m n) (archive.live.untold untold) ∙ ap is_some image.kept

  lives_settled : (q : ℕ) → map.contains_key (overlaid changes' b.pages) q ≡ map.contains_key (overlaid changes a.pages) q
  lives_settled q = elim (decide q n) [
    | inl one ↦ ap (map.contains_key (overlaid changes' b.pages)) one ∙ here_live b.disk.told refl ∙ sym (ap (map.contains_key (overlaid changes a.pages)) one ∙ ap is_some old_here)
    | inr apart ↦ ap is_some (pages_other q apart)
  ]

  dirty_less : dirty_of changes' ≡ set.remove (dirty_of changes) n
  dirty_less = ap dirty_of rest ∙ dirty-removed changes n

  was_dirty : set.contains (dirty_of changes) n ≡ true
  was_dirty = contains-dirty changes n ∙ ap is_page waits

  settles_written : Settles a.disk.told (shown_live changes (newest_images a)) (shown_live changes' (newest_images b))
  settles_written = record {
    pages = λ tells. same _ _ (λ q. elim (decide q n) [
      | inl one ↦ ap (map.get (overlaid changes' b.pages)) one ∙ new_here ∙ image.page (change.told ∙ tells) ∙ sym (ap (map.get (overlaid changes a.pages)) one ∙ old_here)
      | inr apart ↦ pages_other q apart
    ]);
    lives = lives_settled;
    dirty = λ q d. both_of _ _ (sym (set.contains-remove nat_cmp_total (dirty_of changes) n q) ∙ sym (ap (λ s. set.contains s q) dirty_less) ∙ d);
    written = λ q bytes there d clean. elim (decide q n) [
      | inl one ↦ ap (map.get b.kept) one ∙ image.kept ∙ ap (λ x. Some (sha256 x)) (some_one page bytes (sym old_here ∙ sym (ap (map.get (overlaid changes a.pages)) one) ∙ there))
      | inr apart ↦ absurd (true≢false (sym d ∙ sym (ap (λ s. set.contains s q) dirty_less ∙ removed-other (dirty_of changes) n q apart) ∙ clean))
    ];
    waiting = λ q d. elim (decide q n) [
      | inl one ↦ absurd (true≢false (sym d ∙ ap (λ s. set.contains s q) dirty_less ∙ ap (set.contains (set.remove (dirty_of changes) n)) one ∙ removed-same (dirty_of changes) n))
      | inr apart ↦ pages_other q apart
    ];
    clean = λ q live clean. elim (decide q n) [
      | inl one ↦ absurd (true≢false (sym was_dirty ∙ ap (set.contains (dirty_of changes)) (sym one) ∙ clean))
      | inr apart ↦ (pages_other q apart, change.kept q apart)
    ];
  }

  pub writes_settled : (count count' gets damages : ℕ) → IsArchive a → frames'.most ≡ frames.most → ReplacesImage a b n
      → WritesPages (state_of a record { changes = changes; count = count } frames numbers is_open gets damages)
      (state_of b record { changes = changes'; count = count' } frames' numbers is_open gets damages)
  writes_settled count count' gets damages old most replaces =
      let fewer : b.seen + set.len (staged_shared b.shared changes') ≤ a.seen + set.len (staged_shared a.shared changes) =
      shared_falls a.shared b.shared changes changes' n a.seen b.seen (ap is_some waits) (λ q apart. ap is_some (change_other q apart)) replaces.shared replaces.seen in
      let pages : map.len (overlaid changes' b.pages) ≤ map.len (overlaid changes a.pages) = no_more _ _ lives_settled in
      writes_from (state_of a record { changes = changes; count = count } frames numbers is_open gets damages)
      (state_of b record { changes = changes'; count = count' } frames' numbers is_open gets damages)
      settles_written change.told change.given refl most refl refl
      record { held = held_still a b n change changes changes'; settles = stamp_settled a b n change a.disk.told changes changes' old archive settles_written }
      refl (omega arith)

  -- each other page that was dirty still is
  pub others_settled : (q : ℕ) → q ≢ n → IsTrue (set.contains (dirty_of changes) q) → IsTrue (set.contains (dirty_of changes') q)
  others_settled q apart d = ap (λ s. set.contains s q) dirty_less ∙ removed-other (dirty_of changes) n q apart ∙ d

  pub fewer_settled : set.len (dirty_of changes') + set.len (freed_of changes') < set.len (dirty_of changes) + set.len (freed_of changes)
  fewer_settled =
      let dirty : set.len (dirty_of changes) ≡ set.len (dirty_of changes') + 1 = len_falls (dirty_of changes) n was_dirty ∙ ap (λ s. set.len s + 1) (sym dirty_less) in
      let freed : set.len (freed_of changes') ≡ set.len (freed_of changes) = ap set.len (ap freed_of rest ∙ freed-removed changes n)
      ∙ len_stays (freed_of changes) n (contains-freed changes n ∙ ap is_gone waits) in
      omega arith
