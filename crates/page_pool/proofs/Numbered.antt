-- The items of a map and of a set, counted by going over the numbers.
use Rattle.std.proofs.Common.{◌≡◌, ◌≢◌, ◌≤◌, ◌+◌, ℕ, zero, suc, Bool, true, false, cond, ◌&&◌, ◌||◌, refl, sym, ap, ◌∙◌, is_some, min, arith}
use mathlib.Core.Bool.{true≢false}
use Rattle.std.specs.Ordering.{nat_cmp}
use Rattle.std.specs.FinMap as map
use Rattle.std.specs.FinSet as set
use Rattle.page_pool.specs.Disk.{NumberSet}
use Rattle.page_pool.specs.Archive.{ArchiveState}
use Rattle.page_pool.specs.Inside.{ChangeMap, CacheState, NumbersState, IsWhole, is_used, count_upto, overlaid, staged_shared}
use Rattle.page_pool.proofs.Maps.{same, get-remove_same, get-remove_other, found-remove, len_without, nothing}
use Rattle.page_pool.proofs.Overlay.{same_set}
use Rattle.page_pool.proofs.Sizes.{len_falls}
use Rattle.page_pool.proofs.Bounds.{contains-shared}
use Rattle.page_pool.proofs.Written.{removed-other, removed-same}
use Rattle.page_pool.proofs.Whole.{live_used, some_is}

-- two tests that agree up to a number count the same
count_agree : (f g : ℕ → Bool) (n : ℕ) → ((q : ℕ) → q ≤ n → f q ≡ g q) → count_upto f n ≡ count_upto g n
count_agree f g zero agree = refl
count_agree f g (suc n) agree = λ i. count_agree f g n (λ q low. agree q (omega arith)) i + cond (agree (suc n) (omega arith) i) 1 0

-- no more than the numbers
pub count_low : (f : ℕ → Bool) (n : ℕ) → count_upto f n ≤ n
count_low f zero = omega arith
count_low f (suc n) = by_test (f (suc n)) (count_low f n)
  where
    by_test : (b : Bool) → count_upto f n ≤ n → count_upto f n + cond b 1 0 ≤ suc n
    by_test true low = omega arith
    by_test false low = omega arith

-- the next number counts where it passes
pub count_next : (f : ℕ → Bool) (n : ℕ) → count_upto f (n + 1) ≡ count_upto f n + cond (f (n + 1)) 1 0
count_next f n = let next : n + 1 ≡ suc n = omega arith in ap (count_upto f) next ∙ ap (λ k. count_upto f n + cond (f k) 1 0) (sym next)

-- the keys of a map, where each is one of the numbers
pub counted_map : {X : Type 0} (m : map.FinMap nat_cmp X) (n : ℕ) → ((q : ℕ) → map.contains_key m q ≡ true → (1 ≤ q) × (q ≤ n)) → map.len m ≡ count_upto (map.contains_key m) n
counted_map {X = X} m zero within = ap map.len none ∙ map.len-empty nat_cmp X
  where
    no_key : (q : ℕ) (b : Bool) → map.contains_key m q ≡ b → map.contains_key m q ≡ false
    no_key q true is = let low = within q is in absurd (omega arith)
    no_key q false is = is

    none : m ≡ map.empty
    none = same m map.empty (λ q. nothing (map.get m q) (no_key q (map.contains_key m q) refl) ∙ sym (map.get-empty nat_cmp q))
counted_map {X = X} m (suc n) within = by_last (map.contains_key m (suc n)) (λ rest low. counted_map rest n low) refl
  where
    other : (q : ℕ) → q ≤ n → q ≢ suc n
    other q low is = omega (arith, is)

    rest_within : (q : ℕ) → map.contains_key (map.remove m (suc n)) q ≡ true → (1 ≤ q) × (q ≤ n)
    rest_within q has =
        let item = some_is (map.get (map.remove m (suc n)) q) has in
        let low = within q (ap is_some (found-remove m (suc n) q item.0 item.1)) in
        let apart : q ≢ suc n = λ is. true≢false (sym has ∙ ap (map.contains_key (map.remove m (suc n))) is ∙ ap is_some (get-remove_same m (suc n))) in
        (low.0, below q low.1 apart)
      where
        below : (q : ℕ) → q ≤ suc n → q ≢ suc n → q ≤ n
        below q low apart = omega arith

    by_last : (b : Bool) → ((rest : map.FinMap nat_cmp X) → ((q : ℕ) → map.contains_key rest q ≡ true → (1 ≤ q) × (q ≤ n)) → map.len rest ≡ count_upto (map.contains_key rest) n)
        → map.contains_key m (suc n) ≡ b → map.len m ≡ count_upto (map.contains_key m) (suc n)
    by_last true counted is =
        let size = len_without m (suc n) is in
        let rest : map.len (map.remove m (suc n)) ≡ count_upto (map.contains_key (map.remove m (suc n))) n = counted (map.remove m (suc n)) rest_within in
        let alike : count_upto (map.contains_key (map.remove m (suc n))) n ≡ count_upto (map.contains_key m) n =
        count_agree (map.contains_key (map.remove m (suc n))) (map.contains_key m) n (λ q low. ap is_some (get-remove_other m (suc n) q (other q low))) in
        let last : cond {A = ℕ} (map.contains_key m (suc n)) 1 0 ≡ 1 = ap (λ b. cond {A = ℕ} b 1 0) is in
        let all : count_upto (map.contains_key m) (suc n) ≡ count_upto (map.contains_key m) n + cond {A = ℕ} (map.contains_key m (suc n)) 1 0 = refl in omega arith
    by_last false counted is =
        let rest : map.len m ≡ count_upto (map.contains_key m) n = counted m (λ q has. let low = within q has in (low.0, below q low.1 (λ e. true≢false (sym has ∙ ap (map.contains_key m) e ∙ is)))) in
        let last : cond {A = ℕ} (map.contains_key m (suc n)) 1 0 ≡ 0 = ap (λ b. cond {A = ℕ} b 1 0) is in
        let all : count_upto (map.contains_key m) (suc n) ≡ count_upto (map.contains_key m) n + cond {A = ℕ} (map.contains_key m (suc n)) 1 0 = refl in omega arith
      where
        below : (q : ℕ) → q ≤ suc n → q ≢ suc n → q ≤ n
        below q low apart = omega arith

-- the numbers of a set, where each is one of those
pub counted_set : (s : NumberSet) (n : ℕ) → ((q : ℕ) → set.contains s q ≡ true → (1 ≤ q) × (q ≤ n)) → set.len s ≡ count_upto (set.contains s) n
counted_set s zero within = ap set.len none ∙ set.len-empty nat_cmp
  where
    no_key : (q : ℕ) (b : Bool) → set.contains s q ≡ b → set.contains s q ≡ false
    no_key q true is = let low = within q is in absurd (omega arith)
    no_key q false is = is

    none : s ≡ set.empty
    none = same_set s set.empty (λ q. no_key q (set.contains s q) refl ∙ sym (set.contains-empty nat_cmp q))
counted_set s (suc n) within = by_last (set.contains s (suc n)) (λ rest low. counted_set rest n low) refl
  where
    other : (q : ℕ) → q ≤ n → q ≢ suc n
    other q low is = omega (arith, is)

    below : (q : ℕ) → q ≤ suc n → q ≢ suc n → q ≤ n
    below q low apart = omega arith

    rest_within : (q : ℕ) → set.contains (set.remove s (suc n)) q ≡ true → (1 ≤ q) × (q ≤ n)
    rest_within q has =
        let apart : q ≢ suc n = λ is. true≢false (sym has ∙ ap (set.contains (set.remove s (suc n))) is ∙ removed-same s (suc n)) in
        let low = within q (sym (removed-other s (suc n) q apart) ∙ has) in (low.0, below q low.1 apart)

    by_last : (b : Bool) → ((rest : NumberSet) → ((q : ℕ) → set.contains rest q ≡ true → (1 ≤ q) × (q ≤ n)) → set.len rest ≡ count_upto (set.contains rest) n)
        → set.contains s (suc n) ≡ b → set.len s ≡ count_upto (set.contains s) (suc n)
    by_last true counted is =
        let size = len_falls s (suc n) is in
        let rest : set.len (set.remove s (suc n)) ≡ count_upto (set.contains (set.remove s (suc n))) n = counted (set.remove s (suc n)) rest_within in
        let alike : count_upto (set.contains (set.remove s (suc n))) n ≡ count_upto (set.contains s) n =
        count_agree (set.contains (set.remove s (suc n))) (set.contains s) n (λ q low. removed-other s (suc n) q (other q low)) in
        let last : cond {A = ℕ} (set.contains s (suc n)) 1 0 ≡ 1 = ap (λ b. cond {A = ℕ} b 1 0) is in
        let all : count_upto (set.contains s) (suc n) ≡ count_upto (set.contains s) n + cond {A = ℕ} (set.contains s (suc n)) 1 0 = refl in omega arith
    by_last false counted is =
        let rest : set.len s ≡ count_upto (set.contains s) n = counted s (λ q has. let low = within q has in (low.0, below q low.1 (λ e. true≢false (sym has ∙ ap (set.contains s) e ∙ is)))) in
        let last : cond {A = ℕ} (set.contains s (suc n)) 1 0 ≡ 0 = ap (λ b. cond {A = ℕ} b 1 0) is in
        let all : count_upto (set.contains s) (suc n) ≡ count_upto (set.contains s) n + cond {A = ℕ} (set.contains s (suc n)) 1 0 = refl in omega arith

module _ (a : ArchiveState) (changes : ChangeMap) (frames : CacheState) (numbers : NumbersState) (is_open : Bool) (whole : IsWhole a changes frames numbers is_open) where
  -- each live page has one of the numbers that were given
  pub live_counted : map.len (overlaid changes a.pages) ≡ count_upto (map.contains_key (overlaid changes a.pages)) numbers.top
  live_counted = counted_map (overlaid changes a.pages) numbers.top (λ q live. let used = live_used a whole.archived changes q live in
      (whole.numbers_now.positive q used, whole.numbers_now.given q used))

  -- and each that waits
  pub shared_counted : set.len (staged_shared a.shared changes) ≡ count_upto (λ n. set.contains a.shared n && map.contains_key changes n) numbers.top
  shared_counted = counted_set (staged_shared a.shared changes) numbers.top (λ q has. let used =
      waits q (set.contains a.shared q) (map.contains_key changes q) refl (sym (contains-shared a.shared changes q) ∙ has) in (whole.numbers_now.positive q used, whole.numbers_now.given q used))
      ∙ count_agree (set.contains (staged_shared a.shared changes)) (λ n. set.contains a.shared n && map.contains_key changes n) numbers.top (λ q low. contains-shared a.shared changes q)
    where
      waits : (q : ℕ) (x y : Bool) → map.contains_key changes q ≡ y → (x && y) ≡ true → is_used changes a.kept q ≡ true
      waits q true true is h = ap (λ b. b || map.contains_key a.kept q) is
      waits q true false is h = absurd (true≢false (sym h))
      waits q false y is h = absurd (true≢false (sym h))

-- three counts added up, which stay at the last one
pub saturated : (x y z all one both last : ℕ) → one ≡ min (x + y) last → both ≡ min (one + z) last → all ≡ x + (y + z) → both ≡ min all last
saturated x y z all one both last first second sum = omega arith

pub saturated_least : (x y z one both last : ℕ) → one ≡ min (x + y) last → both ≡ min (one + z) last → x ≤ last → x ≤ both
saturated_least x y z one both last first second low = omega arith

pub saturated_most : (x y z one both last : ℕ) → one ≡ min (x + y) last → both ≡ min (one + z) last → both ≤ x + (y + z)
saturated_most x y z one both last first second = omega arith

-- what is kept for stamps is within the sizes of their maps
pub within_sizes : (both live replaced waiting pages seen shared sizes : ℕ) → both ≤ live + (replaced + waiting) → live ≡ pages → replaced ≡ seen → waiting ≡ shared
    → seen + shared ≤ sizes → both ≤ pages + sizes
within_sizes both live replaced waiting pages seen shared sizes most one two three few = omega arith
