-- A cache's pairs, seen as a finite map.
use Rattle.std.proofs.Common.{◌≡◌, ℕ, List, [], ◌∷◌, true, false, cond, refl, sym, ap, subst, ◌∙◌, Option, Some, None, nat_eq, Contains, Bool, take, length, ◌-◌, ◌<◌, arith, eqb-true}
use Rattle.std.specs.Ordering.{nat_cmp, is_eq, eq_by_cmp}
use Rattle.std.specs.Cmp.{nat_eq_equiv, unsigned_tied}
use Rattle.std.specs.List.{IsDistinct}
use Rattle.std.specs.Option.{option_map_or}
use Rattle.std.specs.Map.{lookup, lookup_entry, remove_entry, keys_of}
use Rattle.std.specs.FinMap as map
use Rattle.std.proofs.lemmas.Map.{lookup-remove_entry}
use Rattle.std.proofs.lemmas.List.{take_all}
use Rattle.std.proofs.lemmas.Map.Views.{lookup-from_Contains}
use Rattle.lru.specs.LruCache.{LruCache, promoted, put_entries}
use Rattle.lru.proofs.CallerLemmas.{Contains-lookup_entry}
use Rattle.page_pool.proofs.Maps.{of_entries, same, get-insert, get-remove, get-from_entries}

-- a look-up in the cache is one in the map
lookup-tied : {X : Type 0} (q : ℕ) (es : List (ℕ × X)) → lookup (nat_eq q) es ≡ lookup (λ k. is_eq (nat_cmp q k)) es
lookup-tied q [] = refl
lookup-tied q (e ∷ es) = λ i. cond (sym (unsigned_tied q e.0) i) (Some e.1) (lookup-tied q es i)

pub get-cached : {X : Type 0} (q : ℕ) (es : List (ℕ × X)) → lookup (nat_eq q) es ≡ map.get (of_entries es) q
get-cached q es = lookup-tied q es ∙ sym (get-from_entries q es)

one_key : (k x y : ℕ) → nat_eq k x ≡ true → nat_eq k y ≡ nat_eq x y
one_key k x y h = ap (λ n. nat_eq n y) (eqb-true k x h)

-- a removal from the cache
pub uncached : {X : Type 0} (k : ℕ) (es : List (ℕ × X)) → IsDistinct nat_eq (keys_of es) → of_entries (remove_entry (nat_eq k) es) ≡ map.remove (of_entries es) k
uncached k es distinct = same _ _ (λ q.
    sym (get-cached q (remove_entry (nat_eq k) es))
    ∙ lookup-remove_entry nat_eq_equiv (nat_eq k) (one_key k) q es distinct
    ∙ (λ i. cond ((nat_eq_equiv.symm k q ∙ sym (unsigned_tied q k)) i) None (get-cached q es i))
    ∙ sym (get-remove _ k q))

-- another key than the one that goes to the front keeps its value
other_key : {X : Type 0} (k q n : ℕ) (o : Option X) → nat_eq k n ≡ true → nat_eq q n ≡ false → cond (nat_eq k q) None o ≡ o
other_key k q n o at apart = (elim (nat_eq k q) as (λ b. nat_eq k q ≡ b → cond b None o ≡ o) [
  | true ↦ λ t. let k_is : k ≡ n = eqb-true k n at in let k_is_q : k ≡ q = eqb-true k q t in
      let same_key : nat_eq q n ≡ true = ap (λ x. nat_eq x n) (sym k_is_q) ∙ at in cc
  | false ↦ λ t. refl
]) refl

moved : {X : Type 0} (k q : ℕ) (es : List (ℕ × X)) (o : Option (ℕ × X)) → IsDistinct nat_eq (keys_of es) → lookup_entry (nat_eq k) es ≡ o
    → lookup (nat_eq q) (option_map_or (λ e. e ∷ remove_entry (nat_eq k) es) o es) ≡ lookup (nat_eq q) es
moved k q es None distinct found = refl
moved k q es (Some e) distinct found =
    let was = Contains-lookup_entry (nat_eq k) es e found in
    (elim (nat_eq q e.0) as (λ b. nat_eq q e.0 ≡ b → cond b (Some e.1) (lookup (nat_eq q) (remove_entry (nat_eq k) es)) ≡ lookup (nat_eq q) es) [
      | true ↦ λ t. sym (lookup-from_Contains nat_eq_equiv q e.1 es distinct (subst (λ n. Contains es (n, e.1)) (sym (eqb-true q e.0 t)) was.0))
      | false ↦ λ t. lookup-remove_entry nat_eq_equiv (nat_eq k) (one_key k) q es distinct ∙ other_key k q e.0 _ was.1 t
    ]) refl

-- the order of use doesn't change what the cache answers
pub promoted_same : {X : Type 0} (k : ℕ) (es : List (ℕ × X)) → IsDistinct nat_eq (keys_of es) → of_entries (promoted (nat_eq k) es) ≡ of_entries es
promoted_same k es distinct = same _ _ (λ q.
    sym (get-cached q (promoted (nat_eq k) es)) ∙ moved k q es (lookup_entry (nat_eq k) es) distinct refl ∙ get-cached q es)

-- after a pair was put in where room was left
pub put_kept : {X : Type 0} (c : LruCache ℕ X) (k : ℕ) (v : X) → IsDistinct nat_eq (keys_of c.entries) → length c.entries < c.cap
    → of_entries (put_entries nat_eq c k v) ≡ map.insert (of_entries c.entries) k v
put_kept {X = X} c k v distinct room = same _ _ (λ q. sym (get-cached q (put_entries nat_eq c k v)) ∙ by_entry q (lookup_entry (nat_eq k) c.entries) refl
    ∙ sym (get-insert (of_entries c.entries) k v q))
  where
    by_entry : (q : ℕ) (o : Option (ℕ × X)) → lookup_entry (nat_eq k) c.entries ≡ o
        → lookup (nat_eq q) (option_map_or (λ e. (e.0, v) ∷ remove_entry (nat_eq k) c.entries) o ((k, v) ∷ take (c.cap - 1) c.entries))
        ≡ cond (eq_by_cmp nat_cmp q k) (Some v) (map.get (of_entries c.entries) q)
    by_entry q None found =
        ap (λ es. cond (nat_eq q k) (Some v) (lookup (nat_eq q) es)) (take_all (c.cap - 1) c.entries (omega arith))
        ∙ (λ i. cond (sym (unsigned_tied q k) i) (Some v) (get-cached q c.entries i))
    by_entry q (Some e) found =
        let key : e.0 ≡ k = sym (eqb-true k e.0 (Contains-lookup_entry (nat_eq k) c.entries e found).1) in
        ap (λ n. cond (nat_eq q n) (Some v) (lookup (nat_eq q) (remove_entry (nat_eq k) c.entries))) key
        ∙ ap (cond (nat_eq q k) (Some v)) (lookup-remove_entry nat_eq_equiv (nat_eq k) (one_key k) q c.entries distinct ∙ ap (λ b. cond b None (lookup (nat_eq q) c.entries)) (nat_eq_equiv.symm k q))
        ∙ by_tie (nat_eq q k) (lookup (nat_eq q) c.entries)
        ∙ (λ i. cond (sym (unsigned_tied q k) i) (Some v) (get-cached q c.entries i))
      where
        by_tie : (b : Bool) (o : Option X) → cond b (Some v) (cond b None o) ≡ cond b (Some v) o
        by_tie true o = refl
        by_tie false o = refl
