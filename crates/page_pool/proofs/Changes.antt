-- One more staged change, as the maps and sets of a pool see it.
use Rattle.std.proofs.Common.{◌≡◌, ℕ, List, Bool, true, false, cond, not, ◌&&◌, ◌||◌, refl, sym, ap, ◌∙◌, Option, Some, None, eqb-true}
use Rattle.std.specs.Ordering.{nat_cmp, eq_by_cmp}
use Rattle.std.specs.Cmp.{nat_cmp_total, unsigned_tied}
use Rattle.std.specs.Option.{unwrap_or}
use Rattle.std.specs.FinMap as map
use Rattle.std.specs.FinSet as set
use Rattle.page_pool.specs.Disk.{PageMap}
use Rattle.page_pool.specs.Inside.{ChangeMap, overlaid, dirty_of, freed_of}
use Rattle.page_pool.proofs.Maps.{same, get-insert, get-remove}
use Rattle.page_pool.proofs.Overlay.{same_set, is_page, is_gone, get-overlaid, contains-dirty, contains-freed}

page_or : (b : Bool) (page : List ℕ) (c : Option (Option (List ℕ))) (x : Option (List ℕ)) → unwrap_or (cond b (Some (Some page)) c) x ≡ cond b (Some page) (unwrap_or c x)
page_or true page c x = refl
page_or false page c x = refl

none_or : (b : Bool) (c : Option (Option (List ℕ))) (x : Option (List ℕ)) → unwrap_or (cond b (Some None) c) x ≡ cond b None (unwrap_or c x)
none_or true c x = refl
none_or false c x = refl

page_is : (b : Bool) (page : List ℕ) (c : Option (Option (List ℕ))) → is_page (cond b (Some (Some page)) c) ≡ (b || is_page c)
page_is true page c = refl
page_is false page c = refl

none_is : (b : Bool) (c : Option (Option (List ℕ))) → is_page (cond b (Some None) c) ≡ (not b && is_page c)
none_is true c = refl
none_is false c = refl

gone_is : (b : Bool) (c : Option (Option (List ℕ))) → is_gone (cond b (Some None) c) ≡ (b || is_gone c)
gone_is true c = refl
gone_is false c = refl

pub overlaid-page : (changes : ChangeMap) (base : PageMap) (n : ℕ) (page : List ℕ) → overlaid (map.insert changes n (Some page)) base ≡ map.insert (overlaid changes base) n page
overlaid-page changes base n page = same _ _ (λ q.
    get-overlaid (map.insert changes n (Some page)) base q
    ∙ ap (λ c. unwrap_or c (map.get base q)) (get-insert changes n (Some page) q)
    ∙ page_or (eq_by_cmp nat_cmp q n) page (map.get changes q) (map.get base q)
    ∙ sym (get-insert (overlaid changes base) n page q ∙ ap (cond (eq_by_cmp nat_cmp q n) (Some page)) (get-overlaid changes base q)))

pub overlaid-none : (changes : ChangeMap) (base : PageMap) (n : ℕ) → overlaid (map.insert changes n None) base ≡ map.remove (overlaid changes base) n
overlaid-none changes base n = same _ _ (λ q.
    get-overlaid (map.insert changes n None) base q
    ∙ ap (λ c. unwrap_or c (map.get base q)) (get-insert changes n None q)
    ∙ none_or (eq_by_cmp nat_cmp q n) (map.get changes q) (map.get base q)
    ∙ sym (get-remove (overlaid changes base) n q ∙ ap (cond (eq_by_cmp nat_cmp q n) None) (get-overlaid changes base q)))

pub dirty-page : (changes : ChangeMap) (n : ℕ) (page : List ℕ) → dirty_of (map.insert changes n (Some page)) ≡ set.insert (dirty_of changes) n
dirty-page changes n page = same_set _ _ (λ q.
    contains-dirty (map.insert changes n (Some page)) q
    ∙ ap is_page (get-insert changes n (Some page) q)
    ∙ page_is (eq_by_cmp nat_cmp q n) page (map.get changes q)
    ∙ sym (set.contains-insert nat_cmp_total (dirty_of changes) n q ∙ ap (λ b. eq_by_cmp nat_cmp q n || b) (contains-dirty changes q)))

pub dirty-none : (changes : ChangeMap) (n : ℕ) → dirty_of (map.insert changes n None) ≡ set.remove (dirty_of changes) n
dirty-none changes n = same_set _ _ (λ q.
    contains-dirty (map.insert changes n None) q
    ∙ ap is_page (get-insert changes n None q)
    ∙ none_is (eq_by_cmp nat_cmp q n) (map.get changes q)
    ∙ sym (set.contains-remove nat_cmp_total (dirty_of changes) n q ∙ ap (λ b. not (eq_by_cmp nat_cmp q n) && b) (contains-dirty changes q)))

pub freed-none : (changes : ChangeMap) (n : ℕ) → freed_of (map.insert changes n None) ≡ set.insert (freed_of changes) n
freed-none changes n = same_set _ _ (λ q.
    contains-freed (map.insert changes n None) q
    ∙ ap is_gone (get-insert changes n None q)
    ∙ gone_is (eq_by_cmp nat_cmp q n) (map.get changes q)
    ∙ sym (set.contains-insert nat_cmp_total (freed_of changes) n q ∙ ap (λ b. eq_by_cmp nat_cmp q n || b) (contains-freed changes q)))

-- a page that wasn't freed is put
pub freed-page : (changes : ChangeMap) (n : ℕ) (page : List ℕ) → is_gone (map.get changes n) ≡ false → freed_of (map.insert changes n (Some page)) ≡ freed_of changes
freed-page changes n page there = same_set _ _ (λ q.
    contains-freed (map.insert changes n (Some page)) q
    ∙ ap is_gone (get-insert changes n (Some page) q)
    ∙ (elim (eq_by_cmp nat_cmp q n) as (λ b. eq_by_cmp nat_cmp q n ≡ b → is_gone (cond b (Some (Some page)) (map.get changes q)) ≡ is_gone (map.get changes q)) [
      | true ↦ λ tie. sym (ap (λ k. is_gone (map.get changes k)) (eqb-true q n (sym (unsigned_tied q n) ∙ tie)) ∙ there)
      | false ↦ λ _. refl
    ]) refl
    ∙ sym (contains-freed changes q))

-- no change at all
pub overlaid-empty : (base : PageMap) → overlaid map.empty base ≡ base
overlaid-empty base = same _ _ (λ q. get-overlaid map.empty base q ∙ ap (λ c. unwrap_or c (map.get base q)) (map.get-empty nat_cmp q))

pub dirty-empty : dirty_of map.empty ≡ set.empty
dirty-empty = same_set _ _ (λ q. contains-dirty map.empty q ∙ ap is_page (map.get-empty nat_cmp q) ∙ sym (set.contains-empty nat_cmp q))

pub freed-empty : freed_of map.empty ≡ set.empty
freed-empty = same_set _ _ (λ q. contains-freed map.empty q ∙ ap is_gone (map.get-empty nat_cmp q) ∙ sym (set.contains-empty nat_cmp q))
