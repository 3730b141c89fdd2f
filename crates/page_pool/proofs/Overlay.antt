-- What the maps and sets of a pool answer, by its staged changes and what is stored.
use Rattle.std.proofs.Common.{◌≡◌, ℕ, List, [], ◌∷◌, Bool, true, false, cond, not, ◌&&◌, ◌||◌, refl, sym, ap, ◌∙◌, Option, Some, None}
use Rattle.std.specs.Ordering.{nat_cmp, eq_by_cmp}
use Rattle.std.specs.Cmp.{nat_cmp_total}
use Rattle.std.specs.Option.{unwrap_or}
use Rattle.std.specs.FinMap as map
use Rattle.std.specs.FinMap.{find, nat_cmp-IsAntisymmetric}
use Rattle.std.specs.FinSet as set
use Rattle.page_pool.specs.Disk.{PageMap, NumberSet}
use Rattle.page_pool.specs.Inside.{ChangeMap, overlay, written, dropped, overlaid, dirty_of, freed_of}
pub use Rattle.page_pool.specs.Inside.{is_page}
use Rattle.page_pool.proofs.Maps.{get-insert, get-remove}

-- the change freed the page
abbrev pub is_gone : Option (Option (List ℕ)) → Bool
is_gone None = false
is_gone (Some None) = true
is_gone (Some (Some page)) = false

pub same_set : (s t : NumberSet) → ((q : ℕ) → set.contains s q ≡ set.contains t q) → s ≡ t
same_set s t is = set.same_set nat_cmp_total nat_cmp-IsAntisymmetric s t is

get-overlay : (es : List (ℕ × Option (List ℕ))) (base : PageMap) (q : ℕ) → map.get (overlay es base) q ≡ unwrap_or (find nat_cmp q es) (map.get base q)
get-overlay [] base q = refl
get-overlay ((n, None) ∷ es) base q = get-remove _ n q
    ∙ elim (eq_by_cmp nat_cmp q n) as (λ b. cond b None (map.get (overlay es base) q) ≡ unwrap_or (cond b (Some None) (find nat_cmp q es)) (map.get base q)) [
      | true ↦ refl
      | false ↦ get-overlay es base q
    ]
get-overlay ((n, Some page) ∷ es) base q = get-insert _ n page q
    ∙ elim (eq_by_cmp nat_cmp q n) as (λ b. cond b (Some page) (map.get (overlay es base) q) ≡ unwrap_or (cond b (Some (Some page)) (find nat_cmp q es)) (map.get base q)) [
      | true ↦ refl
      | false ↦ get-overlay es base q
    ]

pub contains-written : (es : List (ℕ × Option (List ℕ))) (q : ℕ) → set.contains (written es) q ≡ is_page (find nat_cmp q es)
contains-written [] q = set.contains-empty nat_cmp q
contains-written ((n, None) ∷ es) q = set.contains-remove nat_cmp_total _ n q
    ∙ elim (eq_by_cmp nat_cmp q n) as (λ b. (not b && set.contains (written es) q) ≡ is_page (cond b (Some None) (find nat_cmp q es))) [
      | true ↦ refl
      | false ↦ contains-written es q
    ]
contains-written ((n, Some page) ∷ es) q = set.contains-insert nat_cmp_total _ n q
    ∙ elim (eq_by_cmp nat_cmp q n) as (λ b. (b || set.contains (written es) q) ≡ is_page (cond b (Some (Some page)) (find nat_cmp q es))) [
      | true ↦ refl
      | false ↦ contains-written es q
    ]

contains-dropped : (es : List (ℕ × Option (List ℕ))) (q : ℕ) → set.contains (dropped es) q ≡ is_gone (find nat_cmp q es)
contains-dropped [] q = set.contains-empty nat_cmp q
contains-dropped ((n, None) ∷ es) q = set.contains-insert nat_cmp_total _ n q
    ∙ elim (eq_by_cmp nat_cmp q n) as (λ b. (b || set.contains (dropped es) q) ≡ is_gone (cond b (Some None) (find nat_cmp q es))) [
      | true ↦ refl
      | false ↦ contains-dropped es q
    ]
contains-dropped ((n, Some page) ∷ es) q = set.contains-remove nat_cmp_total _ n q
    ∙ elim (eq_by_cmp nat_cmp q n) as (λ b. (not b && set.contains (dropped es) q) ≡ is_gone (cond b (Some (Some page)) (find nat_cmp q es))) [
      | true ↦ refl
      | false ↦ contains-dropped es q
    ]

-- a live page is what was staged for it, or else what is stored
pub get-overlaid : (changes : ChangeMap) (base : PageMap) (q : ℕ) → map.get (overlaid changes base) q ≡ unwrap_or (map.get changes q) (map.get base q)
unfolding overlaid
get-overlaid changes base q = get-overlay (map.entries changes) base q ∙ ap (λ c. unwrap_or c (map.get base q)) (sym (map.get-entries changes q))

pub contains-dirty : (changes : ChangeMap) (q : ℕ) → set.contains (dirty_of changes) q ≡ is_page (map.get changes q)
unfolding dirty_of
contains-dirty changes q = contains-written (map.entries changes) q ∙ ap is_page (sym (map.get-entries changes q))

pub contains-freed : (changes : ChangeMap) (q : ℕ) → set.contains (freed_of changes) q ≡ is_gone (map.get changes q)
unfolding freed_of
contains-freed changes q = contains-dropped (map.entries changes) q ∙ ap is_gone (sym (map.get-entries changes q))
