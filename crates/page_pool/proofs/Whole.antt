-- What the parts of a pool say of its pages.
use Rattle.std.proofs.Common.{◌≡◌, ℕ, List, Bool, true, false, cond, ◌||◌, refl, sym, ap, subst, ◌∙◌, Option, Some, None, is_some, IsSome}
use mathlib.Core.Bool.{true≢false}
use Rattle.std.specs.Ordering.{nat_cmp}
use Rattle.std.specs.Option.{unwrap_or}
use Rattle.std.specs.FinMap as map
use Rattle.std.specs.FinSet as set
use Rattle.page_pool.specs.Archive.{ImageMap, ArchiveState, IsImageMap, IsArchive, StandsWritten, new_archive, newest_images}
use Rattle.page_pool.specs.Inside.{ChangeMap, CacheState, NumbersState, TakesNumber, IsAccount, IsWhole, is_used, overlaid}
use Rattle.page_pool.proofs.Overlay.{is_gone, get-overlaid}
use Rattle.page_pool.proofs.Accounts.{account-same, account-taken, account-none, used-again, used-insert}

-- a command is open where there is a beginning
pub open_is : {X : Type 0} (b : Bool) (x : X) → IsSome (cond b (Some x) None) → b ≡ true
open_is true x h = refl
open_is false x h = absurd (true≢false (sym h))

-- the value that is there
pub some_is : {X : Type 0} (o : Option X) → is_some o ≡ true → (x : X) × (o ≡ Some x)
some_is (Some x) h = (x, refl)
some_is None h = absurd (true≢false (sym h))

pub none_is : {X : Type 0} (o : Option X) → is_some o ≡ false → o ≡ None
none_is (Some x) h = absurd (true≢false h)
none_is None h = refl

-- nothing is at a key that a map lacks
pub no_entry : {X : Type 0} (m : map.FinMap nat_cmp X) → m ≡ map.empty → (q : ℕ) (x : X) → map.get m q ≡ Some x → (P : Type 0) → P
no_entry m none q x is P = absurd (true≢false (ap is_some (sym is ∙ ap (λ n. map.get n q) none ∙ map.get-empty nat_cmp q)))

module _ (a : ArchiveState) (archive : IsArchive a) (changes : ChangeMap) where
  -- a live page has a staged change or a kept digest
  pub live_used : (n : ℕ) → map.contains_key (overlaid changes a.pages) n ≡ true → is_used changes a.kept n ≡ true
  live_used n live = by_change (map.get changes n) refl
    where
      by_change : (c : Option (Option (List ℕ))) → map.get changes n ≡ c → is_used changes a.kept n ≡ true
      by_change (Some c) is = ap (λ x. is_some x || map.contains_key a.kept n) is
      by_change None is = ap (λ x. is_some x || map.contains_key a.kept n) is
          ∙ archive.live.paged n (ap (λ x. is_some (unwrap_or x (map.get a.pages n))) (sym is) ∙ ap is_some (sym (get-overlaid changes a.pages n)) ∙ live)

  -- a live page wasn't freed
  pub live_there : (n : ℕ) → map.contains_key (overlaid changes a.pages) n ≡ true → is_gone (map.get changes n) ≡ false
  live_there n live = by_change (map.get changes n) refl
    where
      by_change : (c : Option (Option (List ℕ))) → map.get changes n ≡ c → is_gone (map.get changes n) ≡ false
      by_change None is = ap is_gone is
      by_change (Some (Some page)) is = ap is_gone is
      by_change (Some None) is = absurd (true≢false (sym live ∙ ap is_some (get-overlaid changes a.pages n) ∙ ap (λ x. is_some (unwrap_or x (map.get a.pages n))) is))

-- images that stand with their digests are seen where they have one
pub imaged_kept : (a : ArchiveState) (f : ImageMap) → IsImageMap a f → (n : ℕ) → StandsWritten a.disk.told f.pages f.kept n → map.contains_key f.pages n ≡ map.contains_key f.kept n
imaged_kept a f images n stands = by_digest (map.get f.kept n) refl
  where
    by_told : (b : Bool) → a.disk.told ≡ b → (digest : List ℕ) → map.get f.kept n ≡ Some digest → map.contains_key f.pages n ≡ true
    by_told true told digest is = ap is_some (stands digest is told).1.0
    by_told false told digest is = ap (λ m. map.contains_key m n) (images.untold told) ∙ ap is_some is

    by_page : (b : Bool) → map.contains_key f.pages n ≡ b → map.get f.kept n ≡ None → map.contains_key f.pages n ≡ false
    by_page true has is = absurd (true≢false (sym (images.paged n has) ∙ ap is_some is))
    by_page false has is = has

    by_digest : (d : Option (List ℕ)) → map.get f.kept n ≡ d → map.contains_key f.pages n ≡ map.contains_key f.kept n
    by_digest None is = by_page (map.contains_key f.pages n) refl is ∙ ap is_some (sym is)
    by_digest (Some digest) is = by_told a.disk.told refl digest is ∙ ap is_some (sym is)

module _ (a : ArchiveState) (changes : ChangeMap) (frames : CacheState) (numbers : NumbersState) (is_open : Bool) (whole : IsWhole a changes frames numbers is_open) where
  -- a page without a staged change is what is stored
  pub get-unstaged : (n : ℕ) → map.get changes n ≡ None → map.get (overlaid changes a.pages) n ≡ map.get a.pages n
  get-unstaged n none = get-overlaid changes a.pages n ∙ ap (λ c. unwrap_or c (map.get a.pages n)) none

  -- a page with a kept digest is stored
  pub kept_stored : (n : ℕ) → (is_open ≡ false → map.get changes n ≡ None) → map.contains_key a.pages n ≡ map.contains_key a.kept n
  kept_stored n none = imaged_kept a (newest_images a) whole.archived.live n (whole.stands n none)

  -- a page without a staged change is live where a digest is kept
  pub live_unstaged : (n : ℕ) → map.get changes n ≡ None → map.contains_key (overlaid changes a.pages) n ≡ map.contains_key a.kept n
  live_unstaged n none = ap is_some (get-unstaged n none) ∙ kept_stored n (λ _. none)

  -- one with a staged change is live where that is a page
  pub live_staged : (n : ℕ) (c : Option (List ℕ)) → map.get changes n ≡ Some c → map.contains_key (overlaid changes a.pages) n ≡ is_some c
  live_staged n c is = ap is_some (get-overlaid changes a.pages n ∙ ap (λ x. unwrap_or x (map.get a.pages n)) is)

-- one more change of a page that is live, while a command is open
pub whole-changed : (a : ArchiveState) (changes : ChangeMap) (frames : CacheState) (numbers : NumbersState) (is_open : Bool) (n : ℕ) (change : Option (List ℕ))
    → is_open ≡ true → is_used changes a.kept n ≡ true
    → IsWhole a changes frames numbers is_open → IsWhole a (map.insert changes n change) frames numbers is_open
whole-changed a changes frames numbers is_open n change opened used w = record {
  archived = w.archived;
  stands = λ q none. w.stands q (λ closed. absurd (true≢false (sym opened ∙ closed)));
  newest = w.newest;
  past = w.past;
  replaced = w.replaced;
  numbers_now = account-same (is_used changes a.kept) (is_used (map.insert changes n change) a.kept) numbers.top numbers.spare (used-again changes a.kept n change used) w.numbers_now;
  numbers_before = w.numbers_before;
  early = w.early;
}

-- one more page under a number that is taken
pub whole-taken : (a : ArchiveState) (changes : ChangeMap) (frames : CacheState) (numbers taken : NumbersState) (is_open : Bool) (n : ℕ) (change : Option (List ℕ))
    → is_open ≡ true → TakesNumber numbers taken n
    → IsWhole a changes frames numbers is_open → IsWhole a (map.insert changes n change) frames taken is_open
whole-taken a changes frames numbers taken is_open n change opened takes w = record {
  archived = w.archived;
  stands = λ q none. w.stands q (λ closed. absurd (true≢false (sym opened ∙ closed)));
  newest = w.newest;
  past = w.past;
  replaced = w.replaced;
  numbers_now = account-taken (is_used changes a.kept) (is_used (map.insert changes n change) a.kept) numbers taken n (used-insert changes a.kept n change) w.numbers_now takes;
  numbers_before = λ is. subst (λ top. IsAccount (λ q. map.contains_key a.kept q) top taken.past_spare) (sym takes.past_top)
      (subst (IsAccount (λ q. map.contains_key a.kept q) numbers.past_top) (sym takes.past_spare) (w.numbers_before is));
  early = w.early;
}

-- all changes are dropped, and the numbers are those of the beginning
pub whole-aborted : (a : ArchiveState) (changes changes' : ChangeMap) (frames : CacheState) (numbers numbers' : NumbersState) (is_open : Bool) → is_open ≡ true → changes' ≡ map.empty
    → numbers'.top ≡ numbers.past_top → numbers'.spare ≡ numbers.past_spare
    → IsWhole a changes frames numbers is_open → IsWhole a changes' frames numbers' false
whole-aborted a changes changes' frames numbers numbers' is_open opened dropped top spare w = record {
  archived = w.archived;
  stands = λ q none. w.stands q (λ closed. absurd (true≢false (sym opened ∙ closed)));
  newest = w.newest;
  past = w.past;
  replaced = w.replaced;
  numbers_now = subst (λ n. IsAccount (is_used changes' a.kept) n numbers'.spare) (sym top) (subst (IsAccount (is_used changes' a.kept) numbers.past_top) (sym spare)
      (account-same (λ q. map.contains_key a.kept q) (is_used changes' a.kept) numbers.past_top numbers.past_spare
      (λ q. ap (λ c. map.contains_key c q || map.contains_key a.kept q) dropped ∙ ap (λ o. is_some o || map.contains_key a.kept q) (map.get-empty nat_cmp q)) (w.numbers_before opened)));
  numbers_before = λ is. absurd (true≢false (sym is));
  early = λ is. absurd (true≢false (sym is));
}

-- the changes of an open command are settled
pub whole-committed : (a : ArchiveState) (changes : ChangeMap) (frames : CacheState) (numbers numbers' : NumbersState) (is_open : Bool) → is_open ≡ true
    → numbers'.top ≡ numbers.top → numbers'.spare ≡ numbers.spare
    → IsWhole a changes frames numbers is_open → IsWhole a changes frames numbers' false
whole-committed a changes frames numbers numbers' is_open opened top spare w = record {
  archived = w.archived;
  stands = λ q none. w.stands q (λ closed. absurd (true≢false (sym opened ∙ closed)));
  newest = w.newest;
  past = w.past;
  replaced = w.replaced;
  numbers_now = subst (λ t. IsAccount (is_used changes a.kept) t numbers'.spare) (sym top) (subst (IsAccount (is_used changes a.kept) numbers.top) (sym spare) w.numbers_now);
  numbers_before = λ is. absurd (true≢false (sym is));
  early = λ is. absurd (true≢false (sym is));
}

-- nothing is there yet
pub whole-new : (a : ArchiveState) (changes : ChangeMap) (frames : CacheState) (numbers : NumbersState) → IsArchive a → a ≡ new_archive a.disk → changes ≡ map.empty
    → frames.newest ≡ map.empty → frames.past ≡ map.empty
    → numbers.top ≡ 0 → numbers.spare ≡ set.empty → IsWhole a changes frames numbers false
whole-new a changes frames numbers archive new unchanged free free_past top spare = record {
  archived = archive;
  stands = λ q none digest has told. no_entry a.kept (ap (λ s. s.kept) new) q digest has _;
  newest = λ q page is. no_entry frames.newest free q page is _;
  past = λ id f frozen q place page is there. no_entry frames.past free_past place page there _;
  replaced = λ q place page is there. no_entry frames.past free_past place page there ⊥;
  numbers_now = subst (λ n. IsAccount (is_used changes a.kept) n numbers.spare) (sym top) (subst (IsAccount (is_used changes a.kept) 0) (sym spare)
      (account-none (is_used changes a.kept) (λ q. (λ i. map.contains_key (unchanged i) q || map.contains_key (new i).kept q)
      ∙ (λ i. is_some {T = Option (List ℕ)} (map.get-empty nat_cmp q i) || is_some {T = List ℕ} (map.get-empty nat_cmp q i)))));
  numbers_before = λ is. absurd (true≢false (sym is));
  early = λ is. absurd (true≢false (sym is));
}
