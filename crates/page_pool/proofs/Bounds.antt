-- How many images are kept after a change in a command: no more than before by the pages that became dirty.
use Rattle.std.proofs.Common.{◌≡◌, ◌≤◌, ◌+◌, ◌-◌, ℕ, List, Bool, true, false, cond, ◌&&◌, ◌||◌, refl, sym, ap, ◌∙◌, Option, Some, None, is_some, arith}
use mathlib.Core.Bool.{true≢false}
use Rattle.std.specs.Ordering.{nat_cmp, eq_by_cmp}
use Rattle.std.specs.Cmp.{nat_cmp_total}
use Rattle.std.specs.FinMap as map
use Rattle.std.specs.FinSet as set
use Rattle.page_pool.specs.Disk.{NumberSet}
use Rattle.page_pool.specs.Archive.{ArchiveState}
use Rattle.page_pool.specs.Inside.{ChangeMap, overlaid, dirty_of, staged_shared, place_count}
use Rattle.page_pool.proofs.Maps.{get-insert, tied}
use Rattle.page_pool.proofs.Overlay.{same_set, is_page, contains-dirty}
use Rattle.page_pool.proofs.Changes.{overlaid-page, overlaid-none}
use Rattle.page_pool.proofs.Seen.{dirty_live}
use Rattle.page_pool.proofs.Sizes.{len_falls, map_falls}

-- whether a page is among those that are about to be replaced
pub contains-shared : (shared : NumberSet) (changes : ChangeMap) (q : ℕ) → set.contains (staged_shared shared changes) q ≡ (set.contains shared q && map.contains_key changes q)
contains-shared shared changes q = set.contains-retain shared (λ n. map.contains_key changes n) q (λ x tie. ap is_some (map.get_tied nat_cmp_total changes q x tie))

-- whether a number has a change after one more
has-insert : (changes : ChangeMap) (n : ℕ) (c : Option (List ℕ)) (q : ℕ) → map.contains_key (map.insert changes n c) q ≡ (eq_by_cmp nat_cmp q n || map.contains_key changes q)
has-insert changes n c q = ap is_some (get-insert changes n c q)
    ∙ elim (eq_by_cmp nat_cmp q n) as (λ b. is_some (cond b (Some c) (map.get changes q)) ≡ (b || is_some (map.get changes q))) [ true ↦ refl | false ↦ refl ]

pub and_none : (b : Bool) → (b && false) ≡ false
and_none true = refl
and_none false = refl

or_true : (b : Bool) → (b || true) ≡ true
or_true true = refl
or_true false = refl

-- another change of a page that has one, or the change of a page whose image no stamp sees, adds none
shared_same : (shared : NumberSet) (changes : ChangeMap) (n : ℕ) (c : Option (List ℕ)) → (set.contains shared n ≡ true → map.contains_key changes n ≡ true)
    → staged_shared shared (map.insert changes n c) ≡ staged_shared shared changes
shared_same shared changes n c has = same_set _ _ (λ q.
    contains-shared shared (map.insert changes n c) q ∙ ap (λ b. set.contains shared q && b) (has-insert changes n c q) ∙ by_tie q ∙ sym (contains-shared shared changes q))
  where
    by_seen : (b : Bool) → (b ≡ true → map.contains_key changes n ≡ true) → (b && true) ≡ (b && map.contains_key changes n)
    by_seen true h = sym (h refl)
    by_seen false h = refl

    by_tie : (q : ℕ) → (set.contains shared q && (eq_by_cmp nat_cmp q n || map.contains_key changes q)) ≡ (set.contains shared q && map.contains_key changes q)
    by_tie q = (elim (eq_by_cmp nat_cmp q n) as (λ b. eq_by_cmp nat_cmp q n ≡ b
        → (set.contains shared q && (b || map.contains_key changes q)) ≡ (set.contains shared q && map.contains_key changes q)) [
          | true ↦ λ tie. ap (λ k. set.contains shared k && true) (tied q n tie) ∙ by_seen (set.contains shared n) has
              ∙ sym (ap (λ k. set.contains shared k && map.contains_key changes k) (tied q n tie))
          | false ↦ λ _. refl
        ]) refl

-- a change adds one at most
shared_one : (shared : NumberSet) (changes : ChangeMap) (n : ℕ) (c : Option (List ℕ)) → set.len (staged_shared shared (map.insert changes n c)) ≤ set.len (staged_shared shared changes) + 1
shared_one shared changes n c = (elim (set.contains shared n) as (λ b. set.contains shared n ≡ b
    → set.len (staged_shared shared (map.insert changes n c)) ≤ set.len (staged_shared shared changes) + 1) [
      | true ↦ λ seen.
          let more : staged_shared shared (map.insert changes n c) ≡ set.insert (staged_shared shared changes) n = same_set _ _ (λ q.
          contains-shared shared (map.insert changes n c) q ∙ ap (λ b. set.contains shared q && b) (has-insert changes n c q) ∙ by_tie q seen
          ∙ sym (set.contains-insert nat_cmp_total (staged_shared shared changes) n q ∙ ap (λ b. eq_by_cmp nat_cmp q n || b) (contains-shared shared changes q))) in
          let size : set.len (staged_shared shared (map.insert changes n c)) ≡ cond (set.contains (staged_shared shared changes) n) (set.len (staged_shared shared changes))
          (set.len (staged_shared shared changes) + 1) =
          ap set.len more ∙ set.len-insert nat_cmp_total (staged_shared shared changes) n in
          let most : cond (set.contains (staged_shared shared changes) n) (set.len (staged_shared shared changes)) (set.len (staged_shared shared changes) + 1)
          ≤ set.len (staged_shared shared changes) + 1 =
          at_most (set.contains (staged_shared shared changes) n) (set.len (staged_shared shared changes)) in
          omega arith
      | false ↦ λ unseen.
          let size : set.len (staged_shared shared (map.insert changes n c)) ≡ set.len (staged_shared shared changes) =
          ap set.len (shared_same shared changes n c (λ seen. absurd (true≢false (sym seen ∙ unseen)))) in
          omega arith
    ]) refl
  where
    at_most : (b : Bool) (k : ℕ) → cond b k (k + 1) ≤ k + 1
    at_most true k = omega arith
    at_most false k = omega arith

    by_tie : (q : ℕ) → set.contains shared n ≡ true → (set.contains shared q && (eq_by_cmp nat_cmp q n || map.contains_key changes q))
        ≡ (eq_by_cmp nat_cmp q n || (set.contains shared q && map.contains_key changes q))
    by_tie q seen = (elim (eq_by_cmp nat_cmp q n) as (λ b. eq_by_cmp nat_cmp q n ≡ b
        → (set.contains shared q && (b || map.contains_key changes q)) ≡ (b || (set.contains shared q && map.contains_key changes q))) [
          | true ↦ λ tie. ap (λ k. set.contains shared k && true) (tied q n tie) ∙ ap (λ b. b && true) seen
          | false ↦ λ _. refl
        ]) refl

-- a dirty page has a staged change
pub dirty_staged : (changes : ChangeMap) (n : ℕ) → set.contains (dirty_of changes) n ≡ true → map.contains_key changes n ≡ true
dirty_staged changes n dirty = by_change (map.get changes n) refl
  where
    by_change : (c : Option (Option (List ℕ))) → map.get changes n ≡ c → map.contains_key changes n ≡ true
    by_change None is = absurd (true≢false (sym dirty ∙ contains-dirty changes n ∙ ap is_page is))
    by_change (Some c) is = ap is_some is

module _ (a : ArchiveState) (changes : ChangeMap) (n : ℕ) where
  -- a page is put, or a new one added whose number has no image
  pub put_places : (page : List ℕ) → (map.contains_key (overlaid changes a.pages) n ≡ false → set.contains a.shared n ≡ false)
      → place_count a (map.insert changes n (Some page)) + set.len (dirty_of changes) ≤ place_count a changes + set.len (set.insert (dirty_of changes) n)
  put_places page unshared =
      let pages : ℕ = map.len (overlaid changes a.pages) in
      let pages' : ℕ = map.len (overlaid (map.insert changes n (Some page)) a.pages) in
      let shared : ℕ = set.len (staged_shared a.shared changes) in
      let shared' : ℕ = set.len (staged_shared a.shared (map.insert changes n (Some page))) in
      let pages_are : pages' ≡ cond (map.contains_key (overlaid changes a.pages) n) pages (pages + 1) =
      ap map.len (overlaid-page changes a.pages n page) ∙ map.len-insert nat_cmp_total (overlaid changes a.pages) n page in
      let dirty_are : set.len (set.insert (dirty_of changes) n) ≡ cond (set.contains (dirty_of changes) n) (set.len (dirty_of changes)) (set.len (dirty_of changes) + 1) =
      set.len-insert nat_cmp_total (dirty_of changes) n in
      (elim (set.contains (dirty_of changes) n) as (λ b. set.contains (dirty_of changes) n ≡ b
      → place_count a (map.insert changes n (Some page)) + set.len (dirty_of changes) ≤ place_count a changes + set.len (set.insert (dirty_of changes) n)) [
        | true ↦ λ dirty.
            let same_pages : pages' ≡ pages = pages_are ∙ ap (λ b. cond b pages (pages + 1)) (dirty_live changes a.pages n dirty) in
            let same_dirty : set.len (set.insert (dirty_of changes) n) ≡ set.len (dirty_of changes) =
            dirty_are ∙ ap (λ b. cond b (set.len (dirty_of changes)) (set.len (dirty_of changes) + 1)) dirty in
            let same_shared : shared' ≡ shared = ap set.len (shared_same a.shared changes n (Some page) (λ _. dirty_staged changes n dirty)) in
            omega arith
        | false ↦ λ clean.
            let more_dirty : set.len (set.insert (dirty_of changes) n) ≡ set.len (dirty_of changes) + 1 =
            dirty_are ∙ ap (λ b. cond b (set.len (dirty_of changes)) (set.len (dirty_of changes) + 1)) clean in
            (elim (map.contains_key (overlaid changes a.pages) n) as (λ b. map.contains_key (overlaid changes a.pages) n ≡ b
            → place_count a (map.insert changes n (Some page)) + set.len (dirty_of changes) ≤ place_count a changes + set.len (set.insert (dirty_of changes) n)) [
              | true ↦ λ live.
                  let same_pages : pages' ≡ pages = pages_are ∙ ap (λ b. cond b pages (pages + 1)) live in
                  let one_shared : shared' ≤ shared + 1 = shared_one a.shared changes n (Some page) in
                  omega arith
              | false ↦ λ new.
                  let more_pages : pages' ≡ pages + 1 = pages_are ∙ ap (λ b. cond b pages (pages + 1)) new in
                  let same_shared : shared' ≡ shared = ap set.len (shared_same a.shared changes n (Some page) (λ seen. absurd (true≢false (sym seen ∙ unshared new)))) in
                  omega arith
            ]) refl
      ]) refl

  -- a live page is freed
  pub freed_places : map.contains_key (overlaid changes a.pages) n ≡ true
      → place_count a (map.insert changes n None) + set.len (dirty_of changes) ≤ place_count a changes + set.len (set.remove (dirty_of changes) n)
  freed_places live =
      let pages : ℕ = map.len (overlaid changes a.pages) in
      let pages' : ℕ = map.len (overlaid (map.insert changes n None) a.pages) in
      let shared : ℕ = set.len (staged_shared a.shared changes) in
      let shared' : ℕ = set.len (staged_shared a.shared (map.insert changes n None)) in
      let fewer_pages : pages ≡ pages' + 1 = map_falls (overlaid changes a.pages) n live ∙ ap (λ m. map.len m + 1) (sym (overlaid-none changes a.pages n)) in
      (elim (set.contains (dirty_of changes) n) as (λ b. set.contains (dirty_of changes) n ≡ b
      → place_count a (map.insert changes n None) + set.len (dirty_of changes) ≤ place_count a changes + set.len (set.remove (dirty_of changes) n)) [
        | true ↦ λ dirty.
            let fewer_dirty : set.len (dirty_of changes) ≡ set.len (set.remove (dirty_of changes) n) + 1 = len_falls (dirty_of changes) n dirty in
            let same_shared : shared' ≡ shared = ap set.len (shared_same a.shared changes n None (λ _. dirty_staged changes n dirty)) in
            omega arith
        | false ↦ λ clean.
            let same_dirty : set.len (set.remove (dirty_of changes) n) ≡ set.len (dirty_of changes) = set.len-remove nat_cmp_total (dirty_of changes) n
            ∙ ap (λ b. cond b (set.len (dirty_of changes) - 1) (set.len (dirty_of changes))) clean in
            let one_shared : shared' ≤ shared + 1 = shared_one a.shared changes n None in
            omega arith
      ]) refl
