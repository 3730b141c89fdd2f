-- The parts of a pool after a freed number was let go.
use Rattle.std.proofs.Common.{◌≡◌, ◌≢◌, ◌≤◌, ◌<◌, ◌+◌, ℕ, Bool, false, ◌||◌, refl, sym, ap, subst, ◌∙◌, Some, None, is_some, IsTrue, inl, inr, arith}
use mathlib.Core.Bool.{true≢false}
use Rattle.std.specs.Ordering.{nat_cmp, eq_by_cmp}
use Rattle.std.specs.Option.{unwrap_or}
use Rattle.std.specs.FinMap as map
use Rattle.std.specs.FinSet as set
use Rattle.page_pool.specs.Archive.{ArchiveState, IsArchive, ChangesPage, ReplacesImage, newest_images}
use Rattle.page_pool.specs.Inside.{ChangeMap, StagedState, CacheState, NumbersState, IsAccount, IsWhole, is_used, state_of, overlaid, dirty_of, freed_of, staged_shared}
use Rattle.page_pool.specs.Commands.{Settles, WritesPages}
use Rattle.page_pool.proofs.Maps.{same, get-remove_same, get-remove_other, tie_itself, tie_apart}
use Rattle.page_pool.proofs.Overlay.{same_set, is_page, is_gone, get-overlaid, contains-dirty, contains-freed}
use Rattle.page_pool.proofs.Accounts.{account-freed}
use Rattle.page_pool.proofs.Sizes.{len_falls}
use Rattle.page_pool.proofs.Settled.{Settles-refl, stamps_same}
use Rattle.page_pool.proofs.Stamped.{shown_live}
use Rattle.page_pool.proofs.States.{unimaged}
use Rattle.page_pool.proofs.Frozen.{decide, held_still, frozen_back, stamp_settled, settles_same, shared_falls}
use Rattle.page_pool.proofs.Whole.{none_is}
use Rattle.page_pool.proofs.Written.{no_one, forgot_newest, freed-removed, writes_from}

-- the number has neither image nor change from now on
module _ (a b : ArchiveState) (changes changes' : ChangeMap) (frames frames' : CacheState) (numbers numbers' : NumbersState) (is_open : Bool) (n : ℕ)
    (gone : map.get changes n ≡ Some None) (closed : is_open ≡ false) (change : ChangesPage a b n) (archive : IsArchive b) (left : map.get b.places n ≡ None)
    (forgot : frames'.newest ≡ map.remove frames.newest n) (same_past : frames'.past ≡ frames.past) (rest : changes' ≡ map.remove changes n)
    (top : numbers'.top ≡ numbers.top) (spare : numbers'.spare ≡ set.insert numbers.spare n) where
  change_gone : map.get changes' n ≡ None
  change_gone = ap (λ m. map.get m n) rest ∙ get-remove_same changes n

  change_apart : (q : ℕ) → q ≢ n → map.get changes' q ≡ map.get changes q
  change_apart q apart = ap (λ m. map.get m q) rest ∙ get-remove_other changes n q apart

  kept_gone : map.get b.kept n ≡ None
  kept_gone = none_is (map.get b.kept n) (archive.live.keys n ∙ ap is_some left)

  used_now : (q : ℕ) → is_used changes a.kept q ≡ (eq_by_cmp nat_cmp q n || is_used changes' b.kept q)
  used_now q = elim (decide q n) [
    | inl one ↦ ap (is_used changes a.kept) one ∙ ap (λ c. is_some c || map.contains_key a.kept n) gone
        ∙ sym (ap (λ x. x || is_used changes' b.kept q) (ap (λ k. eq_by_cmp nat_cmp k n) one ∙ tie_itself n))
    | inr apart ↦ sym (ap (λ x. x || is_used changes' b.kept q) (tie_apart q n apart) ∙ (λ i. is_some (change_apart q apart i) || is_some (change.kept q apart i)))
  ]

  pub whole-released : IsWhole a changes frames numbers is_open → IsWhole b changes' frames' numbers' is_open
  whole-released w = record {
    archived = archive;
    stands = λ q none digest has tells. elim (decide q n) [
      | inl one ↦ no_one digest (map.get b.kept q) (ap (map.get b.kept) one ∙ kept_gone) has _
      | inr apart ↦ let there = w.stands q (λ c. sym (change_apart q apart) ∙ none c) digest (sym (change.kept q apart) ∙ has) (sym change.told ∙ tells) in
          (there.0, (change.pages q apart ∙ there.1.0, there.1.1))
    ];
    newest = λ q bytes is. let f = forgot_newest frames frames' n forgot q bytes is in let was = w.newest q bytes f.1 in
        (change.kept q f.0 ∙ was.0, λ tells. change.pages q f.0 ∙ was.1 (sym change.told ∙ tells));
    past = λ id f frozen q p bytes is there. let was = w.past id f (frozen_back a b n change id f frozen) q p bytes is (ap (λ m. map.get m p) (sym same_past) ∙ there) in
        (was.0, λ tells. was.1 (sym change.told ∙ tells));
    replaced = λ q p bytes is there. elim (decide q n) [
      | inl one ↦ no_one p (map.get b.places q) (ap (map.get b.places) one ∙ left) is ⊥
      | inr apart ↦ w.replaced q p bytes (sym (change.places q apart) ∙ is) (ap (λ m. map.get m p) (sym same_past) ∙ there)
    ];
    numbers_now = subst (λ t. IsAccount (is_used changes' b.kept) t numbers'.spare) (sym top) (subst (IsAccount (is_used changes' b.kept) numbers.top) (sym spare)
        (account-freed (is_used changes a.kept) (is_used changes' b.kept) numbers.top numbers.spare n used_now (λ i. is_some (change_gone i) || is_some (kept_gone i)) w.numbers_now));
    numbers_before = λ opened. absurd (true≢false (sym opened ∙ closed));
    early = λ opened. absurd (true≢false (sym opened ∙ closed));
  }

  not_live : map.get (overlaid changes a.pages) n ≡ None
  not_live = get-overlaid changes a.pages n ∙ ap (λ c. unwrap_or c (map.get a.pages n)) gone

  pages_released : overlaid changes' b.pages ≡ overlaid changes a.pages
  pages_released = same _ _ (λ q. elim (decide q n) [
    | inl one ↦ ap (map.get (overlaid changes' b.pages)) one ∙ get-overlaid changes' b.pages n ∙ ap (λ c. unwrap_or c (map.get b.pages n)) change_gone ∙ (unimaged b n archive kept_gone).0
        ∙ sym (ap (map.get (overlaid changes a.pages)) one ∙ not_live)
    | inr apart ↦ get-overlaid changes' b.pages q ∙ (λ i. unwrap_or (change_apart q apart i) (change.pages q apart i)) ∙ sym (get-overlaid changes a.pages q)
  ])

  not_dirty : set.contains (dirty_of changes) n ≡ false
  not_dirty = contains-dirty changes n ∙ ap is_page gone

  dirty_stays : dirty_of changes' ≡ dirty_of changes
  dirty_stays = same_set _ _ (λ q. contains-dirty changes' q ∙ by_number q ∙ sym (contains-dirty changes q))
    where
      by_number : (q : ℕ) → is_page (map.get changes' q) ≡ is_page (map.get changes q)
      by_number q = elim (decide q n) [
        | inl one ↦ ap (λ k. is_page (map.get changes' k)) one ∙ ap is_page change_gone ∙ sym (ap (λ k. is_page (map.get changes k)) one ∙ ap is_page gone)
        | inr apart ↦ ap is_page (change_apart q apart)
      ]

  settles_released : Settles a.disk.told (shown_live changes (newest_images a)) (shown_live changes' (newest_images b))
  settles_released = settles_same a.disk.told _ _ pages_released dirty_stays
      (λ q live clean. change.kept q (λ one. true≢false (sym live ∙ ap (map.contains_key (overlaid changes a.pages)) one ∙ ap is_some not_live)))

  pub writes_released : (count count' gets damages : ℕ) → IsArchive a → frames'.most ≡ frames.most → ReplacesImage a b n
      → WritesPages (state_of a record { changes = changes; count = count } frames numbers is_open gets damages)
      (state_of b record { changes = changes'; count = count' } frames' numbers' is_open gets damages)
  writes_released count count' gets damages old most replaces =
      let fewer : b.seen + set.len (staged_shared b.shared changes') ≤ a.seen + set.len (staged_shared a.shared changes) =
      shared_falls a.shared b.shared changes changes' n a.seen b.seen (ap is_some gone) (λ q apart. ap is_some (change_apart q apart)) replaces.shared replaces.seen in
      let pages : map.len (overlaid changes' b.pages) ≡ map.len (overlaid changes a.pages) = ap map.len pages_released in
      writes_from (state_of a record { changes = changes; count = count } frames numbers is_open gets damages)
      (state_of b record { changes = changes'; count = count' } frames' numbers' is_open gets damages)
      settles_released change.told change.given top most refl refl
      record { held = held_still a b n change changes changes'; settles = stamp_settled a b n change a.disk.told changes changes' old archive settles_released }
      refl (omega arith)

  -- each other page that was dirty still is
  pub others_released : (q : ℕ) → q ≢ n → IsTrue (set.contains (dirty_of changes) q) → IsTrue (set.contains (dirty_of changes') q)
  others_released q apart d = ap (λ s. set.contains s q) dirty_stays ∙ d

  pub fewer_released : set.len (dirty_of changes') + set.len (freed_of changes') < set.len (dirty_of changes) + set.len (freed_of changes)
  fewer_released =
      let freed : set.len (freed_of changes) ≡ set.len (freed_of changes') + 1 = len_falls (freed_of changes) n (contains-freed changes n ∙ ap is_gone gone)
      ∙ ap (λ s. set.len s + 1) (sym (ap freed_of rest ∙ freed-removed changes n)) in
      let dirty : set.len (dirty_of changes') ≡ set.len (dirty_of changes) = ap set.len dirty_stays in
      omega arith

-- only the frames lost a page, and nothing is seen to change
pub whole-forgot : (a : ArchiveState) (changes : ChangeMap) (frames frames' : CacheState) (numbers : NumbersState) (is_open : Bool) (n : ℕ) → is_open ≡ false
    → frames'.newest ≡ map.remove frames.newest n → frames'.past ≡ frames.past
    → IsWhole a changes frames numbers is_open → IsWhole a changes frames' numbers is_open
whole-forgot a changes frames frames' numbers is_open n closed forgot same_past w = record {
  archived = w.archived;
  stands = w.stands;
  newest = λ q bytes is. w.newest q bytes (forgot_newest frames frames' n forgot q bytes is).1;
  past = λ id f frozen q p bytes is there. w.past id f frozen q p bytes is (ap (λ m. map.get m p) (sym same_past) ∙ there);
  replaced = λ q p bytes is there. w.replaced q p bytes is (ap (λ m. map.get m p) (sym same_past) ∙ there);
  numbers_now = w.numbers_now;
  numbers_before = λ opened. absurd (true≢false (sym opened ∙ closed));
  early = λ opened. absurd (true≢false (sym opened ∙ closed));
}

pub writes_nothing : (a : ArchiveState) (staged : StagedState) (frames frames' : CacheState) (numbers : NumbersState) (is_open : Bool) (gets damages : ℕ) → frames'.most ≡ frames.most
    → WritesPages (state_of a staged frames numbers is_open gets damages) (state_of a staged frames' numbers is_open gets damages)
writes_nothing a staged frames frames' numbers is_open gets damages most = writes_from (state_of a staged frames numbers is_open gets damages) (state_of a staged frames' numbers is_open gets damages)
    (Settles-refl a.disk.told _) refl refl refl most refl refl (stamps_same _ _ refl) refl (omega arith)
