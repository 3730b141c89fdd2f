-- The first number that passes a test, the numbers that pass it, and the finite map of a function at some numbers.
use Rattle.std.proofs.Common.{◌≡◌, ℕ, zero, suc, ◌-◌, List, [], ◌∷◌, ◌++◌, map as each, Bool, true, false, cond, ◌&&◌, ◌||◌, refl, sym, ap, ◌∙◌, Option, Some, None, is_some, inl, inr, length, arith}
use Rattle.std.specs.Ordering.{nat_cmp, eq_by_cmp}
use Rattle.std.specs.Cmp.{nat_cmp_total}
use Rattle.std.specs.List.{list_any}
use Rattle.std.specs.FinMap as map
use Rattle.std.specs.FinMap.{find, nat_cmp-IsAntisymmetric}
use Rattle.std.specs.FinSet as set
use Rattle.std.proofs.lemmas.Bool.{true≢false, false≢true, or_cases, or_left, or_right}
use Rattle.std.proofs.lemmas.Option.{same_Some}
use Rattle.page_pool.specs.Disk.{NumberSet}
use Rattle.page_pool.specs.Images.{first_where, numbers_where}
use Rattle.page_pool.specs.InsideArchive.{set_at, collected}
use Rattle.page_pool.proofs.Maps.{same, nothing, fewer_left, keys-remove, get-insert, get-remove, tie_itself, tied}

-- the number is in the list
abbrev pub is_in : ℕ → List ℕ → Bool
is_in n ns = list_any (eq_by_cmp nat_cmp n) ns

-- a number with an item is among the keys
pub key_in : {X : Type 0} (m : map.FinMap nat_cmp X) (n : ℕ) (x : X) → map.get m n ≡ Some x → is_in n (map.keys m) ≡ true
key_in m n x is = sym (map.contains_key-keys m n) ∙ ap is_some is

-- a number that was found passes
pub first_found : (test : ℕ → Bool) (ns : List ℕ) (n : ℕ) → first_where test ns ≡ Some n → test n ≡ true
first_found test [] n found = absurd (true≢false (sym (ap is_some found)))
first_found test (m ∷ ns) n found = (elim (test m) as (λ b. test m ≡ b → cond b (Some m) (first_where test ns) ≡ Some n → test n ≡ true) [
  | true ↦ λ is h. ap test (sym (same_Some m n h)) ∙ is
  | false ↦ λ is h. first_found test ns n h
]) refl found

-- where none was found none passes
pub first_none : (test : ℕ → Bool) (ns : List ℕ) → first_where test ns ≡ None → (n : ℕ) → is_in n ns ≡ true → test n ≡ false
first_none test [] none n there = absurd (false≢true there)
first_none test (m ∷ ns) none n there = (elim (test m) as (λ b. test m ≡ b → cond b (Some m) (first_where test ns) ≡ None → test n ≡ false) [
  | true ↦ λ is h. absurd (true≢false (ap is_some h))
  | false ↦ λ is h. elim (or_cases (eq_by_cmp nat_cmp n m) (is_in n ns) there) [
    | inl here ↦ ap test (tied n m here) ∙ is
    | inr later ↦ first_none test ns h n later
  ]
]) refl none

-- two sets that answer alike are one
pub same_numbers : (s t : NumberSet) → ((q : ℕ) → set.contains s q ≡ set.contains t q) → s ≡ t
same_numbers s t is = set.same_set nat_cmp_total nat_cmp-IsAntisymmetric s t is

-- the numbers of the list that pass
pub contains-numbers_where : (test : ℕ → Bool) (ns : List ℕ) (q : ℕ) → set.contains (numbers_where test ns) q ≡ (is_in q ns && test q)
contains-numbers_where test [] q = set.contains-empty nat_cmp q
contains-numbers_where test (n ∷ ns) q =
    (elim (test n) as (λ b. test n ≡ b → set.contains (cond b (set.insert (numbers_where test ns) n) (numbers_where test ns)) q ≡ ((eq_by_cmp nat_cmp q n || is_in q ns) && test q)) [
      | true ↦ λ is. set.contains-insert nat_cmp_total (numbers_where test ns) n q ∙ ap (λ b. eq_by_cmp nat_cmp q n || b) (contains-numbers_where test ns q) ∙ passes is
      | false ↦ λ is. contains-numbers_where test ns q ∙ fails is
    ]) refl
  where
    passes : test n ≡ true → (eq_by_cmp nat_cmp q n || (is_in q ns && test q)) ≡ ((eq_by_cmp nat_cmp q n || is_in q ns) && test q)
    passes is = (elim (eq_by_cmp nat_cmp q n) as (λ b. eq_by_cmp nat_cmp q n ≡ b → (b || (is_in q ns && test q)) ≡ ((b || is_in q ns) && test q)) [
      | true ↦ λ tie. sym (ap test (tied q n tie) ∙ is)
      | false ↦ λ _. refl
    ]) refl

    fails : test n ≡ false → (is_in q ns && test q) ≡ ((eq_by_cmp nat_cmp q n || is_in q ns) && test q)
    fails is = (elim (eq_by_cmp nat_cmp q n) as (λ b. eq_by_cmp nat_cmp q n ≡ b → (is_in q ns && test q) ≡ ((b || is_in q ns) && test q)) [
      | true ↦ λ tie. let none : test q ≡ false = ap test (tied q n tie) ∙ is in ap (λ t. is_in q ns && t) none ∙ nothing (is_in q ns) ∙ sym none
      | false ↦ λ _. refl
    ]) refl
      where
        nothing : (b : Bool) → (b && false) ≡ false
        nothing true = refl
        nothing false = refl

-- an item is put at a number, or none
pub get-set_at : {X : Type 0} (m : map.FinMap nat_cmp X) (n : ℕ) (o : Option X) (q : ℕ) → map.get (set_at m n o) q ≡ cond (eq_by_cmp nat_cmp q n) o (map.get m q)
get-set_at m n None q = get-remove m n q
get-set_at m n (Some x) q = get-insert m n x q

-- at a number of the list the map is the function
pub get-collected_in : {X : Type 0} (f : ℕ → Option X) (ns : List ℕ) (q : ℕ) → is_in q ns ≡ true → map.get (collected f ns) q ≡ f q
get-collected_in f [] q there = absurd (false≢true there)
get-collected_in f (n ∷ ns) q there = get-set_at (collected f ns) n (f n) q
    ∙ (elim (eq_by_cmp nat_cmp q n) as (λ b. eq_by_cmp nat_cmp q n ≡ b → (b || is_in q ns) ≡ true → cond b (f n) (map.get (collected f ns) q) ≡ f q) [
      | true ↦ λ tie _. ap f (sym (tied q n tie))
      | false ↦ λ _ later. get-collected_in f ns q later
    ]) refl there

pub get-collected_out : {X : Type 0} (f : ℕ → Option X) (ns : List ℕ) (q : ℕ) → is_in q ns ≡ false → map.get (collected f ns) q ≡ None
get-collected_out f [] q out = map.get-empty nat_cmp q
get-collected_out f (n ∷ ns) q out = get-set_at (collected f ns) n (f n) q ∙ (elim (eq_by_cmp nat_cmp q n) as (λ b. (b || is_in q ns) ≡ false → cond b (f n) (map.get (collected f ns) q) ≡ None) [
  | true ↦ λ h. absurd (true≢false h)
  | false ↦ λ h. get-collected_out f ns q h
]) out

-- where the function has an item at numbers of the list alone, the map is the function
pub get-collected : {X : Type 0} (f : ℕ → Option X) (ns : List ℕ) (q : ℕ) → (is_in q ns ≡ false → f q ≡ None) → map.get (collected f ns) q ≡ f q
get-collected f ns q outside = (elim (is_in q ns) as (λ b. is_in q ns ≡ b → map.get (collected f ns) q ≡ f q) [
  | true ↦ λ there. get-collected_in f ns q there
  | false ↦ λ out. get-collected_out f ns q out ∙ sym (outside out)
]) refl

-- a number of either list
pub in_first : (n : ℕ) (ns ms : List ℕ) → is_in n ns ≡ true → is_in n (ns ++ ms) ≡ true
in_first n [] ms there = absurd (false≢true there)
in_first n (m ∷ ns) ms there = elim (or_cases (eq_by_cmp nat_cmp n m) (is_in n ns) there) [
  | inl here ↦ or_left (eq_by_cmp nat_cmp n m) (is_in n (ns ++ ms)) here
  | inr later ↦ or_right (eq_by_cmp nat_cmp n m) (is_in n (ns ++ ms)) (in_first n ns ms later)
]

pub in_second : (n : ℕ) (ns ms : List ℕ) → is_in n ms ≡ true → is_in n (ns ++ ms) ≡ true
in_second n [] ms there = there
in_second n (m ∷ ns) ms there = or_right (eq_by_cmp nat_cmp n m) (is_in n (ns ++ ms)) (in_second n ns ms there)

-- what an item gives is among what all items give
pub value_in : {X : Type 0} (f : X → ℕ) (es : List (ℕ × X)) (p : ℕ) (x : X) → find nat_cmp p es ≡ Some x → is_in (f x) (each f (each (λ e. e.1) es)) ≡ true
value_in f [] p x is = absurd (true≢false (sym (ap is_some is)))
value_in f (e ∷ es) p x is = (elim (eq_by_cmp nat_cmp p e.0) as (λ b. cond b (Some e.1) (find nat_cmp p es) ≡ Some x
    → (eq_by_cmp nat_cmp (f x) (f e.1) || is_in (f x) (each f (each (λ e. e.1) es))) ≡ true) [
      | true ↦ λ h. or_left _ _ (ap (λ y. eq_by_cmp nat_cmp (f x) (f y)) (same_Some e.1 x h) ∙ tie_itself (f x))
      | false ↦ λ h. or_right _ _ (value_in f es p x h)
    ]) is

pub item_in : {X : Type 0} (f : X → ℕ) (m : map.FinMap nat_cmp X) (p : ℕ) (x : X) → map.get m p ≡ Some x → is_in (f x) (each f (map.values m)) ≡ true
item_in f m p x is = value_in f (map.entries m) p x (sym (map.get-entries m p) ∙ is)

-- a map that isn't empty has a key
a_key : {X : Type 0} (m : map.FinMap nat_cmp X) (k : ℕ) → map.len m ≡ suc k → (q : ℕ) × (map.contains_key m q ≡ true)
a_key {X = X} m k is = by_entries (map.entries m) refl
  where
    by_entries : (es : List (ℕ × X)) → map.entries m ≡ es → (q : ℕ) × (map.contains_key m q ≡ true)
    by_entries [] none = let size : map.len m ≡ 0 = map.len-entries m ∙ ap length none in absurd (omega arith)
    by_entries (e ∷ es) there = (e.0, ap is_some (map.get-entries m e.0 ∙ ap (find nat_cmp e.0) there) ∙ ap (λ b. is_some (cond b (Some e.1) (find nat_cmp e.0 es))) (tie_itself e.0))

-- two maps with the same keys are of one size
sized : {X Y : Type 0} (k : ℕ) (m : map.FinMap nat_cmp X) (n : map.FinMap nat_cmp Y) → ((q : ℕ) → map.contains_key m q ≡ map.contains_key n q) → map.len m ≡ k → map.len n ≡ k
sized {Y = Y} zero m n keys none = ap map.len empty ∙ map.len-empty nat_cmp Y
  where
    missing : (q : ℕ) → map.contains_key n q ≡ false
    missing q = sym (keys q) ∙ ap (λ x. map.contains_key x q) (map.empty_of_len m none) ∙ ap is_some (map.get-empty nat_cmp q)

    empty : n ≡ map.empty
    empty = same n map.empty (λ q. nothing (map.get n q) (missing q) ∙ sym (map.get-empty nat_cmp q))
sized (suc k) m n keys is =
    let key = a_key m k is in
    let left : map.len (map.remove m key.0) ≡ k = (map.len-remove nat_cmp_total m key.0 ∙ ap (λ b. cond b (map.len m - 1) (map.len m)) key.1) ∙ less (map.len m) is in
    let rest = sized k (map.remove m key.0) (map.remove n key.0) (keys-remove m n key.0 keys) left in
    let there : map.contains_key n key.0 ≡ true = sym (keys key.0) ∙ key.1 in
    let size : map.len (map.remove n key.0) ≡ map.len n - 1 = map.len-remove nat_cmp_total n key.0 ∙ ap (λ b. cond b (map.len n - 1) (map.len n)) there in
    let some = fewer_left n (map.remove n key.0) key.0 there refl in
    omega arith
  where
    less : (a : ℕ) → a ≡ suc k → a - 1 ≡ k
    less a e = omega arith

pub same_size : {X Y : Type 0} (m : map.FinMap nat_cmp X) (n : map.FinMap nat_cmp Y) → ((q : ℕ) → map.contains_key m q ≡ map.contains_key n q) → map.len m ≡ map.len n
same_size m n keys = sym (sized (map.len m) m n keys refl)
