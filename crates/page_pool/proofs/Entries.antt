-- The entries of an ordered map of replaced images, gone through one by one.
use Rattle.std.proofs.Common.{◌≡◌, ◌≤◌, ℕ, ◌+◌, List, [], ◌∷◌, map as each, Bool, true, false, cond, ◌||◌, refl, sym, ap, ◌∙◌, Some, None, length, arith}
use Rattle.std.specs.Ordering.{nat_cmp, eq_by_cmp, is_eq}
use Rattle.std.specs.declared.cmp.Ordering.TheVariants.{Less}
use Rattle.std.specs.List.{list_any, AllByRecursion}
use Rattle.std.specs.List.Sorted.{IsStrictlySortedBy}
use Rattle.std.specs.BTreeMap as tree
use Rattle.std.specs.BTreeMap.{BTreeMap}
use Rattle.std.specs.FinMap as map
use Rattle.std.specs.FinMap.{find}
use Rattle.std.specs.FinSet as set
use Rattle.std.specs.Cmp.{nat_cmp_total}
use Rattle.std.proofs.lemmas.Bool.{or_parts}
use Rattle.std.proofs.lemmas.Map.Keys.{sorted_head, sorted_tail}
use Rattle.page_pool.specs.declared.past.Past.{Past}
use Rattle.page_pool.specs.Images.{HeldMap, PastMap, is_shown, is_seen, is_past_seen, past_map, past_seen}
use Rattle.page_pool.proofs.Maps.{get-from_entries, get-insert, tied}
use Rattle.page_pool.proofs.Choices.{same_numbers}
use Rattle.page_pool.proofs.TurnCounts.{contains-past_seen}

-- one of these images is shown
abbrev pub any_shown : ℕ → ℕ → List (ℕ × Past) → Bool
any_shown n at es = list_any (λ e. is_shown n at (Some e.1)) es

-- where none is, none is found that is
none_found : (n at : ℕ) (es : List (ℕ × Past)) → any_shown n at es ≡ false → (p : ℕ) → is_shown n at (find nat_cmp p es) ≡ false
none_found n at [] none p = refl
none_found n at (e ∷ es) none p = let parts = or_parts _ _ none in (elim (eq_by_cmp nat_cmp p e.0) as (λ b. is_shown n at (cond b (Some e.1) (find nat_cmp p es)) ≡ false) [
  | true ↦ parts.0
  | false ↦ none_found n at es parts.1 p
])

pub none_shown : (n at : ℕ) (images : BTreeMap ℕ Past) → any_shown n at images.entries ≡ false → (p : ℕ) → is_shown n at (map.get (past_map images) p) ≡ false
none_shown n at images none p = ap (is_shown n at) (map.get-from_entries nat_cmp_total images.entries p) ∙ none_found n at images.entries none p

-- an entry that the ordered map finds
pub found_in : (images : BTreeMap ℕ Past) (p : ℕ) (e : Past) → tree.get nat_cmp images p ≡ Some e → map.get (past_map images) p ≡ Some e
found_in images p e found = get-from_entries p images.entries ∙ found

-- how many of these images some held stamp sees
abbrev pub seen_among : HeldMap → List (ℕ × Past) → ℕ
seen_among held [] = 0
seen_among held (e ∷ es) = cond (is_seen held e.1.made e.1.until) 1 0 + seen_among held es

at_most_one : (b : Bool) (n m : ℕ) → n ≤ m → cond b 1 0 + n ≤ m + 1
at_most_one true n m h = omega arith
at_most_one false n m h = omega arith

pub few_among : (held : HeldMap) (es : List (ℕ × Past)) → seen_among held es ≤ length es
few_among held [] = omega arith
few_among held (e ∷ es) = let h : cond (is_seen held e.1.made e.1.until) 1 0 + seen_among held es ≤ length es + 1 =
    at_most_one (is_seen held e.1.made e.1.until) (seen_among held es) (length es) (few_among held es) in omega arith

-- a key that lies below all others is none of them
not_among : (p : ℕ) (es : List (ℕ × Past)) → AllByRecursion (λ y. nat_cmp p y ≡ Less) (each (λ e. e.0) es) → find nat_cmp p es ≡ None
not_among p [] low = refl
not_among p (e ∷ es) low = ap (λ r. cond (is_eq r) (Some e.1) (find nat_cmp p es)) low.0 ∙ not_among p es low.1

-- one more entry, whose key is new, counts where it is seen
one_more : (held : HeldMap) (past : PastMap) (p : ℕ) (e : Past) → map.get past p ≡ None
    → set.len (past_seen held (map.insert past p e)) ≡ cond (is_seen held e.made e.until) 1 0 + set.len (past_seen held past)
one_more held past p e new = (elim (is_seen held e.made e.until) as (λ b. is_seen held e.made e.until ≡ b
    → set.len (past_seen held (map.insert past p e)) ≡ cond b 1 0 + set.len (past_seen held past)) [
      | true ↦ λ sees. let grown : past_seen held (map.insert past p e) ≡ set.insert (past_seen held past) p =
          same_numbers _ _ (λ q. at q ∙ seen_at sees q ∙ sym (set.contains-insert nat_cmp_total (past_seen held past) p q)) in
          let size : set.len (past_seen held (map.insert past p e)) ≡ set.len (past_seen held past) + 1 = ap set.len grown
          ∙ set.len-insert nat_cmp_total (past_seen held past) p ∙ ap (λ b. cond b (set.len (past_seen held past)) (set.len (past_seen held past) + 1)) fresh in
          omega arith
      | false ↦ λ unseen. let same : past_seen held (map.insert past p e) ≡ past_seen held past = same_numbers _ _ (λ q. at q ∙ unseen_at unseen q) in
          let size : set.len (past_seen held (map.insert past p e)) ≡ set.len (past_seen held past) = ap set.len same in
          omega arith
    ]) refl
  where
    at : (q : ℕ) → set.contains (past_seen held (map.insert past p e)) q ≡ is_past_seen held (cond (eq_by_cmp nat_cmp q p) (Some e) (map.get past q))
    at q = contains-past_seen held (map.insert past p e) q ∙ ap (is_past_seen held) (get-insert past p e q)

    fresh : set.contains (past_seen held past) p ≡ false
    fresh = contains-past_seen held past p ∙ ap (is_past_seen held) new

    seen_at : is_seen held e.made e.until ≡ true → (q : ℕ) → is_past_seen held (cond (eq_by_cmp nat_cmp q p) (Some e) (map.get past q))
        ≡ (eq_by_cmp nat_cmp q p || set.contains (past_seen held past) q)
    seen_at sees q = (elim (eq_by_cmp nat_cmp q p) as (λ b. is_past_seen held (cond b (Some e) (map.get past q)) ≡ (b || set.contains (past_seen held past) q)) [
      | true ↦ sees
      | false ↦ sym (contains-past_seen held past q)
    ])

    unseen_at : is_seen held e.made e.until ≡ false → (q : ℕ) → is_past_seen held (cond (eq_by_cmp nat_cmp q p) (Some e) (map.get past q)) ≡ set.contains (past_seen held past) q
    unseen_at unseen q = (elim (eq_by_cmp nat_cmp q p) as (λ b. eq_by_cmp nat_cmp q p ≡ b → is_past_seen held (cond b (Some e) (map.get past q)) ≡ set.contains (past_seen held past) q) [
      | true ↦ λ tie. unseen ∙ sym (ap (set.contains (past_seen held past)) (tied q p tie) ∙ fresh)
      | false ↦ λ _. sym (contains-past_seen held past q)
    ]) refl

-- the images that are seen among the entries are those that are seen
as_many : (held : HeldMap) (es : List (ℕ × Past)) → IsStrictlySortedBy nat_cmp (each (λ e. e.0) es) → seen_among held es ≡ set.len (past_seen held (map.from_entries es))
as_many held [] sorted = sym (ap set.len none ∙ set.len-empty nat_cmp)
  where
    none : past_seen held map.empty ≡ set.empty
    none = same_numbers (past_seen held map.empty) set.empty (λ q. contains-past_seen held map.empty q ∙ ap (is_past_seen held) (map.get-empty nat_cmp q) ∙ sym (set.contains-empty nat_cmp q))
as_many held (e ∷ es) sorted =
    let rest = as_many held es (sorted_tail nat_cmp e.0 (each (λ e. e.0) es) sorted) in
    let new : map.get (map.from_entries es) e.0 ≡ None = map.get-from_entries nat_cmp_total es e.0 ∙ not_among e.0 es (sorted_head nat_cmp e.0 (each (λ e. e.0) es) sorted) in
    ap (λ k. cond (is_seen held e.1.made e.1.until) 1 0 + k) rest ∙ sym (one_more held (map.from_entries es) e.0 e.1 new)

pub counted_seen : (held : HeldMap) (images : BTreeMap ℕ Past) → tree.IsOrdered nat_cmp images → seen_among held images.entries ≡ set.len (past_seen held (past_map images))
counted_seen held images ordered = as_many held images.entries ordered
