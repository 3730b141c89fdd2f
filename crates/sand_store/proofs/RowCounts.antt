-- How many rows a relation has.
use Rattle.std.proofs.Common.{◌≡◌, ℕ, ◌+◌, ◌<◌, ◌≤◌, List, [], ◌∷◌, length, map, arith, All}
use Rattle.std.proofs.lemmas.List.{length-map}
use Rattle.std.proofs.lemmas.List.Elements.{All-head, All-tail}
use Rattle.page_pool.specs.Disk.{PageMap}
use Rattle.pmr_tree.specs.Lists.{Each, RiseStrictly}
use Rattle.pmr_tree.specs.Quadtree.{store_of}
use Rattle.pmr_tree.proofs.AscendingLists.{each_map}
use Rattle.sand_base.specs.declared.limits.Limits.{Limits}
use Rattle.sand_base.specs.declared.value.Value.{Value}
use Rattle.code_btree.specs.Tree.{tree_items}
use Rattle.tuple_file.specs.File.{tuples_of, tuple_of}
use Rattle.sand_store.specs.Catalog.{RelationView}
use Rattle.sand_store.specs.Contents.{rows_in}
use Rattle.sand_store.specs.Standing.{RelationStands}
use Rattle.sand_store.specs.Tuples.{row_in}
use Rattle.sand_store.proofs.Databases.{rises_at}

-- numbers that ascend from one on and are below another are no more than lie between
fewer : (low high : ℕ) (ns : List ℕ) → low ≤ high → RiseStrictly ns → Each (λ n. (low ≤ n) × (n < high)) ns → low + length ns ≤ high
fewer low high [] l r h = omega (arith, l)
fewer low high (n ∷ ns) l r h =
    let above : Each (λ k. (n + 1 ≤ k) × (k < high)) ns = both ns r.0 h.1 in
    omega (arith, h.0.0, h.0.1, fewer (n + 1) high ns (omega (arith, h.0.1)) r.1 above)
  where
    both : (ks : List ℕ) → Each (λ k. n < k) ks → Each (λ k. (low ≤ k) × (k < high)) ks → Each (λ k. (n + 1 ≤ k) × (k < high)) ks
    both [] a b = tt
    both (k ∷ ks) a b = ((omega (arith, a.0), b.0.1), both ks a.1 b.1)

each_of : (P : ℕ → Type 0) (rows : List (ℕ × List Value)) → All (λ r. P r.0) rows → Each P (map (λ (r : ℕ × List Value). r.0) rows)
each_of P [] h = tt
each_of P (r ∷ rows) h = (All-head (λ (x : ℕ × List Value). P x.0) r rows h, each_of P rows (All-tail (λ (x : ℕ × List Value). P x.0) r rows h))

-- the rows are those that the file's tree counts
pub rows_counted : (m : PageMap) (limits : Limits) (r : RelationView) → RelationStands m limits r → r.file.tree.entries ≡ length (rows_in m r)
rows_counted m limits r h =
    let of_tuple : ℕ × List ℕ → ℕ × List Value = λ t. (t.0, row_in r.schema t.1) in
    let a : length (rows_in m r) ≡ length (tuples_of (store_of m) r.file) = length-map (tuples_of (store_of m) r.file) of_tuple in
    let b : length (tuples_of (store_of m) r.file) ≡ length (tree_items (store_of m) r.file.tree) =
    length-map (tree_items (store_of m) r.file.tree) (λ (e : ℕ × ℕ). (e.0, tuple_of (store_of m) e.1)) in
    omega (arith, a, b, h.table.file.tree.at.counted)

-- and they are fewer than the ids from 1 to the next one
pub rows_fewer : (m : PageMap) (limits : Limits) (r : RelationView) → RelationStands m limits r → length (rows_in m r) ≤ r.next
rows_fewer m limits r h =
    let ids : List ℕ = map (λ (x : ℕ × List Value). x.0) (rows_in m r) in
    let given : Each (λ n. (1 ≤ n) × (n < r.next)) ids = each_of (λ n. (1 ≤ n) × (n < r.next)) (rows_in m r) h.given_out in
    let all : Each (λ n. (0 ≤ n) × (n < r.next)) ids = each_map (λ n. (1 ≤ n) × (n < r.next)) (λ n. (0 ≤ n) × (n < r.next)) (λ n k. (omega arith, k.1)) ids given in
    omega (arith, length-map (rows_in m r) (λ (x : ℕ × List Value). x.0), fewer 0 r.next ids (omega arith) (rises_at m r.schema r.file h.table.file) all)
