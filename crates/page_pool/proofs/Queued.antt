-- The queue of the places of clean pages.
use Rattle.std.proofs.Common.{◌≡◌, ◌<◌, ℕ, suc, zero, ◌-◌, List, [], ◌∷◌, true, false, cond, refl, sym, ap, ◌∙◌, Option, Some, None, is_some, nat_eq, length, slice_get, IsSome, arith}
use mathlib.Core.Bool.{true≢false}
use Rattle.std.specs.Prelude.{⊤}
use Rattle.std.specs.Ordering.{nat_cmp}
use Rattle.std.specs.Cmp.{nat_eq_equiv, nat_cmp_total}
use Rattle.std.specs.List.{IsDistinct}
use Rattle.std.specs.Map.{keys_of, lookup, remove_entry}
use Rattle.std.specs.FinMap as map
use Rattle.std.proofs.lemmas.Map.Entries.{lookup_from_place}
use Rattle.std.proofs.lemmas.Map.Keys.{IsDistinct-tail}
use Rattle.lru.specs.LruCache.{LruCache, last_entry, put_entries, promoted}
use Rattle.page_pool.specs.Disk.{PageMap}
use Rattle.page_pool.specs.Inside.{FramesState, queued, IsQueueOf}
use Rattle.page_pool.proofs.Maps.{of_entries, same, keys-insert, keys-remove, fewer_left, nothing}
use Rattle.page_pool.proofs.Cached.{get-cached, uncached, promoted_same, put_kept}

-- no page, and no place in the queue
pub queue-none : (pages : PageMap) (queue : LruCache ℕ ⊤) → pages ≡ map.empty → queue.entries ≡ [] → IsQueueOf pages queue
queue-none pages queue empty none = λ q.
    ap (λ es. map.contains_key (of_entries es) q) none ∙ ap is_some (map.get-empty nat_cmp q) ∙ sym (ap (λ m. map.contains_key m q) empty ∙ ap is_some (map.get-empty nat_cmp q))

-- the frames of these pages
abbrev pub frames_of : PageMap → ℕ → FramesState
frames_of pages most = record { pages = pages; count = map.len pages; most = most }

pub frames_none : (pages : PageMap) (most most' : ℕ) → pages ≡ map.empty → most ≡ most' → frames_of pages most ≡ record { pages = map.empty; count = 0; most = most' }
frames_none pages most most' empty is = λ i. record { pages = empty i; count = (ap map.len empty ∙ map.len-empty nat_cmp (List ℕ)) i; most = is i }

-- the same pages and places, in another order
pub queue-same : (pages : PageMap) (queue queue' : LruCache ℕ ⊤) → queued queue' ≡ queued queue → IsQueueOf pages queue → IsQueueOf pages queue'
queue-same pages queue queue' order is = λ q. ap (λ m. map.contains_key m q) order ∙ is q

-- a place goes to the front
pub queue-promoted : (k : ℕ) (queue queue' : LruCache ℕ ⊤) → IsDistinct nat_eq (keys_of queue.entries) → queue'.entries ≡ promoted (nat_eq k) queue.entries → queued queue' ≡ queued queue
queue-promoted k queue queue' distinct moved = ap of_entries moved ∙ promoted_same k queue.entries distinct

-- a page leaves with its place
pub queue-removed : (pages pages' : PageMap) (k : ℕ) (queue queue' : LruCache ℕ ⊤) → IsDistinct nat_eq (keys_of queue.entries)
    → queue'.entries ≡ remove_entry (nat_eq k) queue.entries → pages' ≡ map.remove pages k
    → IsQueueOf pages queue → IsQueueOf pages' queue'
queue-removed pages pages' k queue queue' distinct left gone is = λ q.
    ap (λ es. map.contains_key (of_entries es) q) left ∙ ap (λ m. map.contains_key m q) (uncached k queue.entries distinct)
    ∙ keys-remove (queued queue) pages k is q ∙ ap (λ m. map.contains_key m q) (sym gone)

-- neither changed
pub queue-kept : (pages pages' : PageMap) (queue queue' : LruCache ℕ ⊤) → queue' ≡ queue → pages' ≡ pages → IsQueueOf pages queue → IsQueueOf pages' queue'
queue-kept pages pages' queue queue' places kept is = λ q. ap (λ x. map.contains_key (queued x) q) places ∙ is q ∙ sym (ap (λ m. map.contains_key m q) kept)

none_found : {X : Type 0} (o : Option X) → (IsSome o → false ≡ true) → is_some o ≡ false
none_found None none = refl
none_found (Some x) none = sym (none refl)

-- a place that isn't queued has no page
pub no_page : (pages : PageMap) (k : ℕ) (queue : LruCache ℕ ⊤) → (IsSome (lookup (nat_eq k) queue.entries) → false ≡ true) → IsQueueOf pages queue → map.contains_key pages k ≡ false
no_page pages k queue none is = sym (is k) ∙ ap is_some (sym (get-cached k queue.entries)) ∙ none_found (lookup (nat_eq k) queue.entries) none

-- a page comes in with its place
pub queue-put : (pages pages' : PageMap) (k : ℕ) (page : List ℕ) (queue queue' : LruCache ℕ ⊤) → IsDistinct nat_eq (keys_of queue.entries) → length queue.entries < queue.cap
    → queue'.entries ≡ put_entries nat_eq queue k tt → pages' ≡ map.insert pages k page → IsQueueOf pages queue → IsQueueOf pages' queue'
queue-put pages pages' k page queue queue' distinct room came put is = λ q.
    ap (λ es. map.contains_key (of_entries es) q) came ∙ ap (λ m. map.contains_key m q) (put_kept queue k tt distinct room)
    ∙ keys-insert (queued queue) pages k tt page is q ∙ ap (λ m. map.contains_key m q) (sym put)

-- pages are as many as their places
as_many : {X : Type 0} (es : List (ℕ × ⊤)) (m : map.FinMap nat_cmp X) → IsDistinct nat_eq (keys_of es) → ((q : ℕ) → map.contains_key (of_entries es) q ≡ map.contains_key m q) → map.len m ≡ length es
as_many {X = X} [] m distinct is = ap map.len (same m map.empty (λ q. nothing (map.get m q) (sym (is q) ∙ ap is_some (map.get-empty nat_cmp q)) ∙ sym (map.get-empty nat_cmp q)))
    ∙ map.len-empty nat_cmp X
as_many (e ∷ es) m distinct is =
    let rest : of_entries es ≡ map.remove (of_entries (e ∷ es)) e.0 = ap (λ b. of_entries (cond b es (e ∷ remove_entry (nat_eq e.0) es))) (sym (nat_eq_equiv.refl e.0))
    ∙ uncached e.0 (e ∷ es) distinct in
    let others : map.len (map.remove m e.0) ≡ length es = as_many es (map.remove m e.0) (IsDistinct-tail nat_eq e.0 (keys_of es) distinct)
    (λ q. ap (λ n. map.contains_key n q) rest ∙ keys-remove (of_entries (e ∷ es)) m e.0 is q) in
    let there : map.contains_key m e.0 ≡ true = sym (is e.0) ∙ ap is_some (sym (get-cached e.0 (e ∷ es))) ∙ ap (λ b. is_some (cond b (Some e.1) (lookup (nat_eq e.0) es))) (nat_eq_equiv.refl e.0) in
    let size : map.len (map.remove m e.0) ≡ map.len m - 1 = map.len-remove nat_cmp_total m e.0 ∙ ap (λ b. cond b (map.len m - 1) (map.len m)) there in
    let fewer : map.len (map.remove m e.0) < map.len m = fewer_left m (map.remove m e.0) e.0 there refl in
    omega arith

pub page_count : (pages : PageMap) (queue : LruCache ℕ ⊤) → IsDistinct nat_eq (keys_of queue.entries) → IsQueueOf pages queue → map.len pages ≡ length queue.entries
page_count pages queue distinct is = as_many queue.entries pages distinct is

-- the place that leaves next has a page
pub last_there : (pages : PageMap) (queue : LruCache ℕ ⊤) (e : ℕ × ⊤) → IsDistinct nat_eq (keys_of queue.entries) → Some e ≡ last_entry queue.entries
    → IsQueueOf pages queue → map.contains_key pages e.0 ≡ true
last_there pages queue e distinct last is =
    sym (is e.0) ∙ ap is_some (sym (get-cached e.0 queue.entries) ∙ lookup_from_place nat_eq_equiv queue.entries (length queue.entries - 1) e.0 e.1 distinct (sym last))

within : {X : Type 0} (xs : List X) (i : ℕ) → i < length xs → slice_get xs i ≡ None → ⊥
within [] i low none = absurd (omega arith)
within (x ∷ xs) zero low none = true≢false (ap is_some none)
within (x ∷ xs) (suc i) low none = within xs i (omega arith) none

-- where no place leaves next, none is queued
pub none_last : {X : Type 0} (es : List X) → slice_get es (length es - 1) ≡ None → length es ≡ 0
none_last [] none = refl
none_last (e ∷ es) none = absurd (within (e ∷ es) (length (e ∷ es) - 1) (omega arith) none)
