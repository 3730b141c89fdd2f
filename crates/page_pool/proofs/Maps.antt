-- An ordered map of std, seen as a finite map.
use Rattle.std.proofs.Common.{◌≡◌, ◌-◌, ◌≤◌, ◌≢◌, ℕ, List, [], ◌∷◌, Bool, true, false, cond, refl, sym, ap, ◌∙◌, Option, Some, None, is_some, eqb-true, ◌<◌, ◌+◌, ◌⊎◌, inl, inr, arith}
use mathlib.Core.Bool.{true≢false}
use Rattle.std.specs.Ordering.{nat_cmp, is_eq, eq_by_cmp}
use Rattle.std.specs.Cmp.{nat_cmp_total, eq_by_cmp_equiv, tied_itself, unsigned_tied}
use Rattle.std.specs.Map.{lookup}
use Rattle.std.specs.BTreeMap as tree
use Rattle.std.specs.BTreeMap.{BTreeMap}
use Rattle.std.specs.FinMap as map
use Rattle.std.specs.FinMap.{find, nat_cmp-IsAntisymmetric}

-- the finite map of these entries
abbrev pub of_entries : {X : Type 0} → List (ℕ × X) → map.FinMap nat_cmp X
of_entries es = map.from_entries es

-- two finite maps that answer alike are one
pub same : {X : Type 0} (m n : map.FinMap nat_cmp X) → ((q : ℕ) → map.get m q ≡ map.get n q) → m ≡ n
same m n is = map.same_map nat_cmp_total nat_cmp-IsAntisymmetric m n is

-- what an insertion answers
pub get-insert : {X : Type 0} (m : map.FinMap nat_cmp X) (k : ℕ) (v : X) (q : ℕ) → map.get (map.insert m k v) q ≡ cond (eq_by_cmp nat_cmp q k) (Some v) (map.get m q)
get-insert m k v q = map.get-insert nat_cmp_total m k v q

pub get-remove : {X : Type 0} (m : map.FinMap nat_cmp X) (k q : ℕ) → map.get (map.remove m k) q ≡ cond (eq_by_cmp nat_cmp q k) None (map.get m q)
get-remove m k q = map.get-remove nat_cmp_total m k q

-- the order of two keys doesn't matter for a tie
pub tie_flips : (k q : ℕ) → eq_by_cmp nat_cmp k q ≡ eq_by_cmp nat_cmp q k
tie_flips k q = (eq_by_cmp_equiv nat_cmp_total).symm k q

-- a look-up in the list is one in the map
pub lookup-find : {X : Type 0} (q : ℕ) (es : List (ℕ × X)) → lookup (λ k. is_eq (nat_cmp q k)) es ≡ find nat_cmp q es
lookup-find q [] = refl
lookup-find q (e ∷ es) = ap (cond (is_eq (nat_cmp q e.0)) (Some e.1)) (lookup-find q es)

pub get-from_entries : {X : Type 0} (q : ℕ) (es : List (ℕ × X)) → map.get (of_entries es) q ≡ lookup (λ k. is_eq (nat_cmp q k)) es
get-from_entries q es = map.get-from_entries nat_cmp_total es q ∙ sym (lookup-find q es)

-- an insertion into the ordered map
pub inserted : {X : Type 0} (m n : BTreeMap ℕ X) (k : ℕ) (v : X) → tree.Updates nat_cmp m n k (Some v) → of_entries n.entries ≡ map.insert (of_entries m.entries) k v
inserted m n k v h = same _ _ (λ q.
    get-from_entries q n.entries ∙ h.0 q
    ∙ (λ i. cond (tie_flips k q i) (Some v) (sym (get-from_entries q m.entries) i))
    ∙ sym (get-insert _ k v q))

-- a removal from it
pub removed : {X : Type 0} (m n : BTreeMap ℕ X) (k : ℕ) → tree.Updates nat_cmp m n k None → of_entries n.entries ≡ map.remove (of_entries m.entries) k
removed m n k h = same _ _ (λ q.
    get-from_entries q n.entries ∙ h.0 q
    ∙ (λ i. cond (tie_flips k q i) None (sym (get-from_entries q m.entries) i))
    ∙ sym (get-remove _ k q))

-- a key ties with itself alone
pub tie_itself : (k : ℕ) → eq_by_cmp nat_cmp k k ≡ true
tie_itself k = ap is_eq (tied_itself nat_cmp_total k)

pub tied : (q k : ℕ) → eq_by_cmp nat_cmp q k ≡ true → q ≡ k
tied q k tie = eqb-true q k (sym (unsigned_tied q k) ∙ tie)

pub tie_apart : (q k : ℕ) → q ≢ k → eq_by_cmp nat_cmp q k ≡ false
tie_apart q k apart = (elim (eq_by_cmp nat_cmp q k) as (λ b. eq_by_cmp nat_cmp q k ≡ b → b ≡ false) [
  | true ↦ λ tie. absurd (apart (eqb-true q k (sym (unsigned_tied q k) ∙ tie)))
  | false ↦ λ tie. refl
]) refl

pub get-insert_same : {X : Type 0} (m : map.FinMap nat_cmp X) (k : ℕ) (v : X) → map.get (map.insert m k v) k ≡ Some v
get-insert_same m k v = get-insert m k v k ∙ ap (λ b. cond b (Some v) (map.get m k)) (tie_itself k)

pub get-insert_other : {X : Type 0} (m : map.FinMap nat_cmp X) (k : ℕ) (v : X) (q : ℕ) → q ≢ k → map.get (map.insert m k v) q ≡ map.get m q
get-insert_other m k v q apart = get-insert m k v q ∙ ap (λ b. cond b (Some v) (map.get m q)) (tie_apart q k apart)

pub get-remove_same : {X : Type 0} (m : map.FinMap nat_cmp X) (k : ℕ) → map.get (map.remove m k) k ≡ None
get-remove_same m k = get-remove m k k ∙ ap (λ b. cond b None (map.get m k)) (tie_itself k)

pub get-remove_other : {X : Type 0} (m : map.FinMap nat_cmp X) (k q : ℕ) → q ≢ k → map.get (map.remove m k) q ≡ map.get m q
get-remove_other m k q apart = get-remove m k q ∙ ap (λ b. cond b None (map.get m q)) (tie_apart q k apart)

-- whether something is there after a choice
pub some_or : {X : Type 0} (b : Bool) (v : X) (o : Option X) → is_some (cond b (Some v) o) ≡ cond b true (is_some o)
some_or true v o = refl
some_or false v o = refl

pub none_or : {X : Type 0} (b : Bool) (o : Option X) → is_some (cond b None o) ≡ cond b false (is_some o)
none_or true o = refl
none_or false o = refl

-- nothing is there where nothing is found
pub nothing : {X : Type 0} (o : Option X) → is_some o ≡ false → o ≡ None
nothing None h = refl
nothing (Some x) h = absurd (true≢false h)

-- an item that is put and taken out again, where none was
pub undone : {X : Type 0} (m n o : map.FinMap nat_cmp X) (k : ℕ) (item : X) → map.contains_key m k ≡ false → n ≡ map.insert m k item → o ≡ map.remove n k → o ≡ m
undone m n o k item none put taken = same o m (λ q.
    ap (λ x. map.get x q) taken ∙ get-remove n k q ∙ ap (cond (eq_by_cmp nat_cmp q k) None) (ap (λ x. map.get x q) put ∙ get-insert m k item q) ∙ by_tie q)
  where
    by_tie : (q : ℕ) → cond (eq_by_cmp nat_cmp q k) None (cond (eq_by_cmp nat_cmp q k) (Some item) (map.get m q)) ≡ map.get m q
    by_tie q = (elim (eq_by_cmp nat_cmp q k) as (λ b. eq_by_cmp nat_cmp q k ≡ b → cond b None (cond b (Some item) (map.get m q)) ≡ map.get m q) [
      | true ↦ λ tie. sym (nothing (map.get m q) (ap (map.contains_key m) (tied q k tie) ∙ none))
      | false ↦ λ _. refl
    ]) refl

-- an item that is taken out was one
pub len_without : {X : Type 0} (m : map.FinMap nat_cmp X) (k : ℕ) → map.contains_key m k ≡ true → map.len m ≡ map.len (map.remove m k) + 1
len_without {X = X} m k there = by_item (map.get m k) refl there
  where
    by_item : (o : Option X) → map.get m k ≡ o → map.contains_key m k ≡ true → map.len m ≡ map.len (map.remove m k) + 1
    by_item None is h = absurd (true≢false (sym h ∙ ap is_some is))
    by_item (Some item) is h =
        let whole : m ≡ map.insert (map.remove m k) k item =
        same _ _ (λ q. sym (get-insert (map.remove m k) k item q ∙ ap (cond (eq_by_cmp nat_cmp q k) (Some item)) (get-remove m k q) ∙ by_tie item is q)) in
        let gone : map.contains_key (map.remove m k) k ≡ false = ap is_some (get-remove m k k) ∙ ap (λ b. is_some (cond b None (map.get m k))) (tie_itself k) in
        ap map.len whole ∙ map.len-insert nat_cmp_total (map.remove m k) k item ∙ ap (λ b. cond b (map.len (map.remove m k)) (map.len (map.remove m k) + 1)) gone
      where
        by_tie : (item : X) → map.get m k ≡ Some item → (q : ℕ) → cond (eq_by_cmp nat_cmp q k) (Some item) (cond (eq_by_cmp nat_cmp q k) None (map.get m q)) ≡ map.get m q
        by_tie item is q = (elim (eq_by_cmp nat_cmp q k) as (λ b. eq_by_cmp nat_cmp q k ≡ b → cond b (Some item) (cond b None (map.get m q)) ≡ map.get m q) [
          | true ↦ λ tie. sym (ap (map.get m) (tied q k tie) ∙ is)
          | false ↦ λ _. refl
        ]) refl

-- so fewer are left
pub fewer_left : {X : Type 0} (m n : map.FinMap nat_cmp X) (k : ℕ) → map.contains_key m k ≡ true → n ≡ map.remove m k → map.len n < map.len m
fewer_left m n k there left =
    let size = len_without m k there in
    let less : map.len n ≡ map.len (map.remove m k) = ap map.len left in omega arith

-- two maps with the same keys have the same after an insertion
pub keys-insert : {X Y : Type 0} (m : map.FinMap nat_cmp X) (n : map.FinMap nat_cmp Y) (k : ℕ) (v : X) (w : Y) → ((q : ℕ) → map.contains_key m q ≡ map.contains_key n q)
    → (q : ℕ) → map.contains_key (map.insert m k v) q ≡ map.contains_key (map.insert n k w) q
keys-insert m n k v w is q =
    ap is_some (get-insert m k v q) ∙ some_or (eq_by_cmp nat_cmp q k) v (map.get m q) ∙ ap (cond (eq_by_cmp nat_cmp q k) true) (is q)
    ∙ sym (ap is_some (get-insert n k w q) ∙ some_or (eq_by_cmp nat_cmp q k) w (map.get n q))

-- and after a removal
pub keys-remove : {X Y : Type 0} (m : map.FinMap nat_cmp X) (n : map.FinMap nat_cmp Y) (k : ℕ) → ((q : ℕ) → map.contains_key m q ≡ map.contains_key n q)
    → (q : ℕ) → map.contains_key (map.remove m k) q ≡ map.contains_key (map.remove n k) q
keys-remove m n k is q =
    ap is_some (get-remove m k q) ∙ none_or (eq_by_cmp nat_cmp q k) (map.get m q) ∙ ap (cond (eq_by_cmp nat_cmp q k) false) (is q)
    ∙ sym (ap is_some (get-remove n k q) ∙ none_or (eq_by_cmp nat_cmp q k) (map.get n q))

-- what is found after a removal was found before
-- an insertion adds at most one
pub one_more : {X : Type 0} (m n : map.FinMap nat_cmp X) (k : ℕ) (item : X) → n ≡ map.insert m k item → map.len n ≤ map.len m + 1
one_more m n k item put = by_key (map.contains_key m k) (ap map.len put ∙ map.len-insert nat_cmp_total m k item)
  where
    by_key : (b : Bool) → map.len n ≡ cond b (map.len m) (map.len m + 1) → map.len n ≤ map.len m + 1
    by_key true is = omega arith
    by_key false is = omega arith

-- a removal leaves no more
pub no_more_left : {X : Type 0} (m n : map.FinMap nat_cmp X) (k : ℕ) → n ≡ map.remove m k → map.len n ≤ map.len m
no_more_left m n k left = by_key (map.contains_key m k) (ap map.len left ∙ map.len-remove nat_cmp_total m k)
  where
    by_key : (b : Bool) → map.len n ≡ cond b (map.len m - 1) (map.len m) → map.len n ≤ map.len m
    by_key true is = omega arith
    by_key false is = omega arith

pub found-remove : {X : Type 0} (m : map.FinMap nat_cmp X) (k q : ℕ) (v : X) → map.get (map.remove m k) q ≡ Some v → map.get m q ≡ Some v
found-remove m k q v found = by_tie (eq_by_cmp nat_cmp q k) (sym (get-remove m k q) ∙ found)
  where
    by_tie : (b : Bool) → cond b None (map.get m q) ≡ Some v → map.get m q ≡ Some v
    by_tie true is = absurd (true≢false (sym (ap is_some is)))
    by_tie false is = is

-- what is found after an insertion is the item or was found before
pub found-insert : {X : Type 0} (m : map.FinMap nat_cmp X) (k : ℕ) (item : X) (q : ℕ) (v : X) → map.get (map.insert m k item) q ≡ Some v → ((q ≡ k) × (v ≡ item)) ⊎ (map.get m q ≡ Some v)
found-insert m k item q v found = by_tie (eq_by_cmp nat_cmp q k) refl (sym (get-insert m k item q) ∙ found)
  where
    by_tie : (b : Bool) → eq_by_cmp nat_cmp q k ≡ b → cond b (Some item) (map.get m q) ≡ Some v → ((q ≡ k) × (v ≡ item)) ⊎ (map.get m q ≡ Some v)
    by_tie true tie is = let one : v ≡ item = cc in inl (tied q k tie, one)
    by_tie false tie is = inr is
