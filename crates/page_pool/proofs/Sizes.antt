-- How many entries a map has: as many as another with the same keys, and one more or fewer after a change.
use Rattle.std.proofs.Common.{◌≡◌, ◌≤◌, ◌+◌, ℕ, suc, List, [], ◌∷◌, true, false, cond, not, ◌&&◌, ◌||◌, refl, sym, ap, subst, ◌∙◌, Option, Some, None, is_some, length, T, arith}
use mathlib.Core.Bool.{true≢false}
use Rattle.std.specs.Ordering.{nat_cmp, is_lt, eq_by_cmp}
use Rattle.std.specs.Cmp.{nat_cmp_total}
use Rattle.std.specs.FinMap as map
use Rattle.std.specs.FinMap.{find, is_sorted}
use Rattle.std.specs.FinMap.Entries.{below_all}
use Rattle.std.specs.FinSet as set
use Rattle.page_pool.specs.Disk.{NumberSet}
use Rattle.page_pool.proofs.Maps.{same, get-insert, get-remove, tie_itself, tied}
use Rattle.page_pool.proofs.Overlay.{same_set}
use Rattle.page_pool.proofs.Whole.{some_is}

-- the keys of these entries, with nothing at each
abbrev bare : {X : Type 0} → List (ℕ × X) → List (ℕ × Unit {0})
bare [] = []
bare (e ∷ es) = (e.0, tt) ∷ bare es

below-bare : {X : Type 0} (k : ℕ) (es : List (ℕ × X)) → below_all nat_cmp k (bare es) ≡ below_all nat_cmp k es
below-bare k [] = refl
below-bare k (e ∷ es) = ap (λ b. is_lt (nat_cmp k e.0) && b) (below-bare k es)

sorted-bare : {X : Type 0} (es : List (ℕ × X)) → is_sorted nat_cmp (bare es) ≡ is_sorted nat_cmp es
sorted-bare [] = refl
sorted-bare (e ∷ es) = λ i. below-bare e.0 es i && sorted-bare es i

found-bare : {X : Type 0} (q : ℕ) (es : List (ℕ × X)) → is_some (find nat_cmp q (bare es)) ≡ is_some (find nat_cmp q es)
found-bare q [] = refl
found-bare q (e ∷ es) = elim (eq_by_cmp nat_cmp q e.0) as (λ b. is_some (cond b (Some tt) (find nat_cmp q (bare es))) ≡ is_some (cond b (Some e.1) (find nat_cmp q es))) [
  | true ↦ refl
  | false ↦ found-bare q es
]

length-bare : {X : Type 0} (es : List (ℕ × X)) → length (bare es) ≡ length es
length-bare [] = refl
length-bare (e ∷ es) = ap suc (length-bare es)

-- the keys of a map
keys_alone : {X : Type 0} → map.FinMap nat_cmp X → map.FinMap nat_cmp (Unit {0})
keys_alone m = map.from_sorted (bare (map.entries m))

bare_in_order : {X : Type 0} (m : map.FinMap nat_cmp X) → T (is_sorted nat_cmp (bare (map.entries m)))
bare_in_order m = subst T (sym (sorted-bare (map.entries m))) (map.entries_sorted m)

has-alone : {X : Type 0} (m : map.FinMap nat_cmp X) (q : ℕ) → map.contains_key (keys_alone m) q ≡ map.contains_key m q
unfolding keys_alone
has-alone m q = ap is_some (map.get-from_sorted nat_cmp (bare (map.entries m)) q (bare_in_order m)) ∙ found-bare q (map.entries m) ∙ ap is_some (sym (map.get-entries m q))

len-alone : {X : Type 0} (m : map.FinMap nat_cmp X) → map.len (keys_alone m) ≡ map.len m
unfolding keys_alone
len-alone m = map.len-entries (keys_alone m) ∙ ap length (map.entries-from_sorted nat_cmp (bare (map.entries m)) (bare_in_order m)) ∙ length-bare (map.entries m) ∙ sym (map.len-entries m)

-- nothing is at a key, or nothing is not
same_mark : (x y : Option (Unit {0})) → is_some x ≡ is_some y → x ≡ y
same_mark None None h = refl
same_mark (Some u) (Some v) h = refl
same_mark None (Some v) h = absurd (true≢false (sym h))
same_mark (Some u) None h = absurd (true≢false h)

-- two maps with the same keys have as many entries
pub len_alike : {X Y : Type 0} (m : map.FinMap nat_cmp X) (n : map.FinMap nat_cmp Y) → ((q : ℕ) → map.contains_key m q ≡ map.contains_key n q) → map.len m ≡ map.len n
len_alike m n alike =
    let one : keys_alone m ≡ keys_alone n = same _ _ (λ q. same_mark _ _ (has-alone m q ∙ alike q ∙ sym (has-alone n q))) in
    sym (len-alone m) ∙ ap map.len one ∙ len-alone n

-- and so no more
pub no_more : {X Y : Type 0} (m : map.FinMap nat_cmp X) (n : map.FinMap nat_cmp Y) → ((q : ℕ) → map.contains_key m q ≡ map.contains_key n q) → map.len m ≤ map.len n
no_more m n alike = let even : map.len m ≡ map.len n = len_alike m n alike in omega arith

-- a map with a key has one entry more than without
pub map_falls : {X : Type 0} (m : map.FinMap nat_cmp X) (n : ℕ) → map.contains_key m n ≡ true → map.len m ≡ map.len (map.remove m n) + 1
map_falls {X = X} m n has =
    let there = some_is (map.get m n) has in
    let whole : m ≡ map.insert (map.remove m n) n there.0 =
    same _ _ (λ q. sym (get-insert (map.remove m n) n there.0 q ∙ ap (cond (eq_by_cmp nat_cmp q n) (Some there.0)) (get-remove m n q) ∙ by_tie q there.0 there.1)) in
    let out : map.contains_key (map.remove m n) n ≡ false = ap is_some (get-remove m n n ∙ ap (λ b. cond b None (map.get m n)) (tie_itself n)) in
    ap map.len whole ∙ map.len-insert nat_cmp_total (map.remove m n) n there.0 ∙ ap (λ b. cond b (map.len (map.remove m n)) (map.len (map.remove m n) + 1)) out
  where
    by_tie : (q : ℕ) (v : X) → map.get m n ≡ Some v → cond (eq_by_cmp nat_cmp q n) (Some v) (cond (eq_by_cmp nat_cmp q n) None (map.get m q)) ≡ map.get m q
    by_tie q v is = (elim (eq_by_cmp nat_cmp q n) as (λ b. eq_by_cmp nat_cmp q n ≡ b → cond b (Some v) (cond b None (map.get m q)) ≡ map.get m q) [
      | true ↦ λ tie. sym is ∙ ap (map.get m) (sym (tied q n tie))
      | false ↦ λ _. refl
    ]) refl

-- a set with n has one number more than without
pub len_falls : (s : NumberSet) (n : ℕ) → set.contains s n ≡ true → set.len s ≡ set.len (set.remove s n) + 1
len_falls s n has =
    let whole : s ≡ set.insert (set.remove s n) n =
    same_set _ _ (λ q. sym (set.contains-insert nat_cmp_total (set.remove s n) n q ∙ ap (λ b. eq_by_cmp nat_cmp q n || b) (set.contains-remove nat_cmp_total s n q) ∙ by_tie q)) in
    let out : set.contains (set.remove s n) n ≡ false = set.contains-remove nat_cmp_total s n n ∙ ap (λ b. not b && set.contains s n) (tie_itself n) in
    ap set.len whole ∙ set.len-insert nat_cmp_total (set.remove s n) n ∙ ap (λ b. cond b (set.len (set.remove s n)) (set.len (set.remove s n) + 1)) out
  where
    by_tie : (q : ℕ) → (eq_by_cmp nat_cmp q n || (not (eq_by_cmp nat_cmp q n) && set.contains s q)) ≡ set.contains s q
    by_tie q = (elim (eq_by_cmp nat_cmp q n) as (λ b. eq_by_cmp nat_cmp q n ≡ b → (b || (not b && set.contains s q)) ≡ set.contains s q) [
      | true ↦ λ tie. sym (ap (set.contains s) (tied q n tie) ∙ has)
      | false ↦ λ _. refl
    ]) refl
