-- Writings add up.
use Rattle.std.proofs.Common.{◌≡◌, ◌≢◌, ◌≤◌, ◌<◌, ◌+◌, ℕ, List, Bool, true, false, ◌&&◌, ◌||◌, refl, sym, ap, subst, ◌∙◌, Option, Some, None, is_some, IsTrue, IsNone}
use Rattle.std.proofs.Common.{Result, Ok, Err, ◌⊎◌, inl, inr, nat_lt, arith}
use mathlib.Core.Bool.{true≢false}
use Rattle.std.specs.Prelude.{⊤}
use Rattle.std.specs.Ordering.{nat_cmp}
use Rattle.std.specs.Option.{unwrap_or, option_map}
use Rattle.std.specs.FinMap as map
use Rattle.std.specs.FinSet as set
use Rattle.sha2.specs.Sha256.{sha256}
use Rattle.page_pool.specs.Disk.{PageMap, NumberSet}
use Rattle.page_pool.specs.Archive.{ImageMap, ArchiveState, IsArchive, Advances, newest_images}
use Rattle.page_pool.specs.Pool.{PoolState}
use Rattle.page_pool.specs.declared.fault.PageFault.{PageFault}
use Rattle.page_pool.specs.declared.fault.PageFault.TheVariants.{Memory}
use Rattle.page_pool.specs.Causes.{HasPageCause, failures_after, failures_of}
use Rattle.page_pool.specs.Commands.{WritesPages, WritesOne, WritesAll, WritesInOrder}
use Rattle.page_pool.specs.Inside.{ChangeMap, StagedState, CacheState, NumbersState, IsAccount, IsImageOf, IsWhole, is_used, state_of, overlaid, dirty_of, freed_of, staged_shared, shown_images}
use Rattle.page_pool.proofs.Maps.{same}
use Rattle.page_pool.proofs.Overlay.{same_set, is_page, is_gone, get-overlaid, contains-dirty, contains-freed}
use Rattle.page_pool.proofs.Settled.{by_test, stamps_same, stamps_both}
use Rattle.page_pool.proofs.Accounts.{account-same}
use Rattle.page_pool.proofs.Bounds.{contains-shared, and_none}
use Rattle.page_pool.proofs.Frozen.{decide, settles_same}
use Rattle.page_pool.proofs.Stamped.{stamps-alike, shown-early, shown-late, shown_live, shown_frozen, lt_is, at_end}
use Rattle.page_pool.proofs.Written.{writes_from}

-- no more than a number that is no more than another
fewer_both : (a b c : ℕ) → b ≤ a → c ≤ b → c ≤ a
fewer_both a b c h k = omega arith

-- no writing at all
pub Writes-refl : (s : PoolState) → IsNone s.live → WritesPages s s
Writes-refl s shown = record {
  lives = λ q. refl;
  pages = λ _. refl;
  dirty = λ q d. d;
  written = λ q bytes there d clean. absurd (true≢false (sym d ∙ clean));
  waiting = λ q d. refl;
  clean = λ q live clean. refl;
  told = refl;
  given = refl;
  top = refl;
  frames = refl;
  gets = refl;
  damages = refl;
  stamps = stamps_same s s refl;
  shown = shown;
  places = omega arith;
}

-- two writings are one
pub Writes-trans : (a b c : PoolState) → WritesPages a b → WritesPages b c → WritesPages a c
Writes-trans a b c h k = record {
  lives = λ q. k.lives q ∙ h.lives q;
  pages = λ told. k.pages (h.told ∙ told) ∙ h.pages told;
  dirty = λ q d. h.dirty q (k.dirty q d);
  written = λ q bytes there d clean. by_test (set.contains b.dirty q) (map.get c.kept q ≡ Some (sha256 bytes))
      (λ still. k.written q bytes (h.waiting q still ∙ there) still clean)
      (λ done. k.clean q (h.lives q ∙ ap is_some there) done ∙ h.written q bytes there d done);
  waiting = λ q d. k.waiting q d ∙ h.waiting q (k.dirty q d);
  clean = λ q live clean. by_test (set.contains b.dirty q) (map.get c.kept q ≡ map.get a.kept q)
      (λ still. absurd (true≢false (sym (h.dirty q still) ∙ clean)))
      (λ done. k.clean q (h.lives q ∙ live) done ∙ h.clean q live clean);
  told = k.told ∙ h.told;
  given = k.given ∙ h.given;
  top = k.top ∙ h.top;
  frames = k.frames ∙ h.frames;
  gets = k.gets ∙ h.gets;
  damages = k.damages ∙ h.damages;
  stamps = stamps_both a b c h.told h.stamps k.stamps;
  shown = k.shown;
  places = fewer_both a.places b.places c.places h.places k.places;
}

-- where nothing waits, no change is staged
pub nothing_staged : (changes : ChangeMap) → dirty_of changes ≡ set.empty → freed_of changes ≡ set.empty → (q : ℕ) → map.get changes q ≡ None
nothing_staged changes dirty freed q = by_change (map.get changes q) refl
  where
    by_change : (c : Option (Option (List ℕ))) → map.get changes q ≡ c → map.get changes q ≡ None
    by_change None is = is
    by_change (Some (Some page)) is = absurd (true≢false (sym (contains-dirty changes q ∙ ap is_page is) ∙ ap (λ s. set.contains s q) dirty ∙ set.contains-empty nat_cmp q))
    by_change (Some None) is = absurd (true≢false (sym (contains-freed changes q ∙ ap is_gone is) ∙ ap (λ s. set.contains s q) freed ∙ set.contains-empty nat_cmp q))

-- a command opens where nothing waits
pub whole-opened : (a b : ArchiveState) (changes : ChangeMap) (frames : CacheState) (numbers numbers' : NumbersState) (is_open : Bool)
    → ((q : ℕ) → map.get changes q ≡ None) → Advances a b → IsArchive b
    → numbers'.top ≡ numbers.top → numbers'.spare ≡ numbers.spare → numbers'.past_top ≡ numbers.top → numbers'.past_spare ≡ numbers.spare
    → IsWhole a changes frames numbers is_open → IsWhole b changes frames numbers' true
whole-opened a b changes frames numbers numbers' is_open none advances archive top spare past_top past_spare w = record {
  archived = archive;
  stands = λ q _ digest has tells.
      let there = w.stands q (λ _. none q) digest (ap (λ m. map.get m q) (sym advances.kept) ∙ has) (ap (λ d. d.told) (sym advances.disk) ∙ tells) in
      (there.0, (ap (λ m. map.get m q) advances.pages ∙ there.1.0, there.1.1));
  newest = λ q bytes is. moved q bytes (w.newest q bytes is);
  past = λ id f frozen q place bytes is there. stamped id f (ap (λ m. map.get m id) (sym advances.stamps) ∙ frozen.0) q place bytes is there;
  replaced = λ q place bytes is there. w.replaced q place bytes (ap (λ m. map.get m q) (sym advances.places) ∙ is) there;
  numbers_now = subst (λ kept. IsAccount (is_used changes kept) numbers'.top numbers'.spare) (sym advances.kept)
      (subst (λ t. IsAccount (is_used changes a.kept) t numbers'.spare) (sym top) (subst (IsAccount (is_used changes a.kept) numbers.top) (sym spare) w.numbers_now));
  numbers_before = λ _. subst (λ kept. IsAccount (λ q. map.contains_key kept q) numbers'.past_top numbers'.past_spare) (sym advances.kept)
      (subst (λ t. IsAccount (λ q. map.contains_key a.kept q) t numbers'.past_spare) (sym past_top) (subst (IsAccount (λ q. map.contains_key a.kept q) numbers.top) (sym past_spare)
      (account-same (is_used changes a.kept) (λ q. map.contains_key a.kept q) numbers.top numbers.spare (λ q. sym (ap (λ c. is_some c || map.contains_key a.kept q) (none q))) w.numbers_now)));
  early = λ _ id f is. below_next f.at a.begun b.begun advances.begun (w.archived.early id f (ap (λ m. map.get m id) (sym advances.stamps) ∙ is)).1;
}
  where
    below_next : (at begun begun' : ℕ) → begun' ≡ begun + 1 → at ≤ begun → at < begun'
    below_next at begun begun' next most = omega arith

    told_as : b.disk.told ≡ a.disk.told
    told_as = ap (λ d. d.told) advances.disk

    -- a stamp of the last command saw the newest images, and no replaced one lies at their places
    stamped : (id : ℕ) (f : ImageMap) → map.get a.stamps id ≡ Some f → (q place : ℕ) (bytes : List ℕ) → map.get f.places q ≡ Some place
        → map.get frames.past place ≡ Some bytes → IsImageOf b.disk.told f.pages f.kept q bytes
    stamped id f held q place bytes is there = (elim (nat_lt f.at a.begun) as (λ t. nat_lt f.at a.begun ≡ t → IsImageOf b.disk.told f.pages f.kept q bytes) [
      | true ↦ λ early. let was = w.past id f (held, lt_is f.at a.begun early) q place bytes is there in (was.0, λ tells. was.1 (sym told_as ∙ tells))
      | false ↦ λ late. let now : f ≡ newest_images a = w.archived.latest id f held (at_end f.at a.begun late (w.archived.early id f held).1) in
          absurd (w.replaced q place bytes (ap (λ g. map.get g.places q) (sym now) ∙ is) there)
    ]) refl

    moved : (q : ℕ) (bytes : List ℕ) → IsImageOf a.disk.told a.pages a.kept q bytes → IsImageOf b.disk.told b.pages b.kept q bytes
    moved q bytes h = (ap (λ m. map.get m q) advances.kept ∙ h.0, λ tells. ap (λ m. map.get m q) advances.pages ∙ h.1 (sym told_as ∙ tells))

-- and then the pages are those that are stored
pub all_stored : (pages : PageMap) (changes : ChangeMap) → ((q : ℕ) → map.get changes q ≡ None) → overlaid changes pages ≡ pages
all_stored pages changes none = same _ _ (λ q. get-overlaid changes pages q ∙ ap (λ c. unwrap_or c (map.get pages q)) (none q))

-- where nothing is staged, a stamp shows its images whether or not a command began since
shown_alike : (begun begun' : ℕ) (changes : ChangeMap) (f : ImageMap) → ((q : ℕ) → map.get changes q ≡ None) → shown_images begun changes f ≡ shown_images begun' changes f
shown_alike begun begun' changes f none = as_images begun ∙ sym (as_images begun')
  where
    live_is : shown_live changes f ≡ shown_frozen f
    live_is = λ i. record {
      pages = all_stored f.pages changes none i;
      dirty = same_set (dirty_of changes) set.empty (λ q. contains-dirty changes q ∙ ap is_page (none q) ∙ sym (set.contains-empty nat_cmp q)) i;
      kept = f.kept;
    }

    as_images : (k : ℕ) → shown_images k changes f ≡ shown_frozen f
    as_images k = (elim (nat_lt f.at k) as (λ t. nat_lt f.at k ≡ t → shown_images k changes f ≡ shown_frozen f) [
      | true ↦ λ early. shown-early k changes f early
      | false ↦ λ late. shown-late k changes f late ∙ live_is
    ]) refl

-- none of no pages is shared
none_shared : (shared : NumberSet) (changes : ChangeMap) → ((q : ℕ) → map.get changes q ≡ None) → set.len (staged_shared shared changes) ≡ 0
none_shared shared changes none = ap set.len
    (same_set (staged_shared shared changes) set.empty (λ q. contains-shared shared changes q ∙ ap (λ c. set.contains shared q && is_some c) (none q)
    ∙ and_none (set.contains shared q) ∙ sym (set.contains-empty nat_cmp q)))
    ∙ set.len-empty nat_cmp

-- a pool that opened after an accepted writing
pub writes_opened : (old : PoolState) (a b : ArchiveState) (staged : StagedState) (frames : CacheState) (numbers numbers' : NumbersState) (is_open : Bool) (gets damages : ℕ)
    → ((q : ℕ) → map.get staged.changes q ≡ None) → Advances a b → numbers'.top ≡ numbers.top
    → WritesPages old (state_of a staged frames numbers is_open gets damages) → WritesPages old (state_of b staged frames numbers' true gets damages)
writes_opened old a b staged frames numbers numbers' is_open gets damages none advances top w =
    Writes-trans old (state_of a staged frames numbers is_open gets damages) (state_of b staged frames numbers' true gets damages) w
    (writes_from (state_of a staged frames numbers is_open gets damages) (state_of b staged frames numbers' true gets damages)
    (settles_same a.disk.told _ _ (ap (overlaid staged.changes) advances.pages) refl (λ q live clean. ap (λ m. map.get m q) advances.kept))
    (ap (λ d. d.told) advances.disk) (ap (λ d. d.given) advances.disk) top refl refl refl
    (stamps_same _ _ (stamps-alike a b staged.changes staged.changes (λ id.
    ap (λ m. option_map (shown_images b.begun staged.changes) (map.get m id)) advances.stamps ∙ by_slot (map.get a.stamps id))))
    refl
    (let pages : map.len (overlaid staged.changes b.pages) ≡ map.len (overlaid staged.changes a.pages) = ap (λ m. map.len (overlaid staged.changes m)) advances.pages in
    let unshared : set.len (staged_shared b.shared staged.changes) ≡ 0 = none_shared b.shared staged.changes none in
    let seen : b.seen ≡ a.seen = advances.seen in omega arith))
  where
    by_slot : (o : Option ImageMap) → option_map (shown_images b.begun staged.changes) o ≡ option_map (shown_images a.begun staged.changes) o
    by_slot None = refl
    by_slot (Some f) = ap (λ m. Some m) (shown_alike b.begun a.begun staged.changes f none)

-- a staged change is of a dirty page or of a freed number
pub waits_for : (changes : ChangeMap) (n : ℕ) → map.contains_key changes n ≡ true → IsTrue (set.contains (dirty_of changes) n) ⊎ IsTrue (set.contains (freed_of changes) n)
waits_for changes n there = by_change (map.get changes n) refl there
  where
    by_change : (c : Option (Option (List ℕ))) → map.get changes n ≡ c → is_some (map.get changes n) ≡ true → IsTrue (set.contains (dirty_of changes) n) ⊎ IsTrue (set.contains (freed_of changes) n)
    by_change None is h = absurd (true≢false (sym h ∙ ap is_some is))
    by_change (Some (Some page)) is h = inl (contains-dirty changes n ∙ ap is_page is)
    by_change (Some None) is h = inr (contains-freed changes n ∙ ap is_gone is)

-- a dirty page has a staged change
pub dirty_waits : (changes : ChangeMap) (n : ℕ) → set.contains (dirty_of changes) n ≡ true → map.contains_key changes n ≡ true
dirty_waits changes n dirty = by_change (map.get changes n) refl
  where
    by_change : (c : Option (Option (List ℕ))) → map.get changes n ≡ c → map.contains_key changes n ≡ true
    by_change None is = absurd (true≢false (sym dirty ∙ contains-dirty changes n ∙ ap is_page is))
    by_change (Some c) is = ap is_some is

-- without a staged change neither
pub waits_not : (changes : ChangeMap) (n : ℕ) → map.get changes n ≡ None → IsTrue (set.contains (dirty_of changes) n) ⊎ IsTrue (set.contains (freed_of changes) n) → (P : Type 0) → P
waits_not changes n none (inl dirty) P = absurd (true≢false (sym dirty ∙ contains-dirty changes n ∙ ap is_page none))
waits_not changes n none (inr freed) P = absurd (true≢false (sym freed ∙ contains-freed changes n ∙ ap is_gone none))

-- no beginning is there
pub none_there : {X : Type 0} (o : Option X) → is_some o ≡ false → o ≡ None
none_there None h = refl
none_there (Some x) h = absurd (true≢false h)

-- the writings so far, and one more
pub writes_more : {T : Type 0} (a b c : PoolState) (n : ℕ) (result : Result T PageFault) → WritesPages a b → failures_of b ≡ failures_of a → WritesOne b c n result
    → WritesPages a c × HasPageCause a c result
writes_more a b c n result before same one = (Writes-trans a b c before one.writes, record { counted = one.cause.counted ∙ ap (λ n. failures_after n result) same; damaged = one.cause.damaged })

-- no writing is in order
pub in_order_none : (s : PoolState) → WritesInOrder s s
in_order_none s n later d clean still = absurd (true≢false (sym d ∙ clean))

-- the least page that waits is written next, so the order stays
pub in_order_more : (a b c : PoolState) (n : ℕ) → ((q : ℕ) → IsTrue (set.contains b.dirty q) → n ≤ q) → ((q : ℕ) → q ≢ n → IsTrue (set.contains b.dirty q) → IsTrue (set.contains c.dirty q))
    → ((q : ℕ) → IsTrue (set.contains c.dirty q) → IsTrue (set.contains b.dirty q)) → WritesInOrder a b → WritesInOrder a c
in_order_more a b c n least others fewer order q later d clean still = by_test (set.contains b.dirty q) (q < later)
    (λ waits. elim (decide q n) [
      | inl one ↦ let low : n ≤ later = least later (fewer later still) in
          let apart : later ≢ n = λ same. true≢false (sym still ∙ ap (set.contains c.dirty) (same ∙ sym one) ∙ clean) in
          omega arith
      | inr apart ↦ absurd (true≢false (sym (others q apart waits) ∙ clean))
    ])
    (λ done. order q later d done (fewer later still))

-- a command that could not open after an accepted writing, for memory
pub advance_refused : {T : Type 0} (old mid new : PoolState) (x : T) → mid ≡ new → WritesAll old mid (Ok x) → mid.beginning ≡ None
    → (writes : WritesAll {T = T} old new (Err Memory)) × ((opened : ⊤) × (new.beginning ≡ None))
advance_refused {T = T} old mid new x is h closed = subst (λ s. (writes : WritesAll {T = T} old s (Err Memory)) × ((opened : ⊤) × (s.beginning ≡ None))) is
    (record { writes = h.writes; ascending = h.ascending; accepted = tt; cause = record { counted = h.cause.counted; damaged = tt }; undamaged = tt }, (tt, closed))
