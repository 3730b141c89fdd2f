-- The entries of one leaf page, one after the other.
use Rattle.std.proofs.Common.{◌≡◌, ℕ, ◌+◌, ◌-◌, ◌*◌, ◌<◌, ◌≤◌, List, [], ◌∷◌, ◌++◌, get_or, take, drop, sym, ◌∙◌, ap, ap₂, arith, take-append-drop}
use Rattle.std.proofs.lemmas.List.{drop_more, get_or-map}
use Rattle.code_btree.specs.Bytes.{piece, cells}
use Rattle.code_btree.specs.Node.{Pair, node_of, entry_of, entries_of, entries_on, IsLeafOf, entry_key}
use Rattle.code_btree.specs.Items.{Below, Ascending, items_from}
use Rattle.code_btree.proofs.Orders.{items_from-append, from-Below, from-AtLeast, AtLeast, Below-rank, AtLeast-rank}
use Rattle.code_btree.proofs.Cells.{length-cells, get-cells}
use Rattle.code_btree.proofs.Nodes.{leaf_bytes}
use Rattle.code_btree.proofs.Looks.{entry_is}
use Rattle.code_btree.proofs.Leaves.{ranked}

-- the first entry from a place on, as it stands in the page
pub page_gives : (p : List ℕ) (n i : ℕ) → IsLeafOf p n → i < n → entries_on p i ≡ entry_of (piece (((32 + 32 * i) + 32) - (32 + 32 * i)) (32 + 32 * i) p) ∷ entries_on p (i + 1)
page_gives p n i h l =
    let es : List Pair = entries_of (node_of p) in
    let width : ((32 + 32 * i) + 32) - (32 + 32 * i) ≡ 32 = omega arith in
    let entry : get_or es i (0, 0) ≡ entry_of (piece 32 (32 + 32 * i) p) =
    ap (λ (r : List Pair). get_or r i (0, 0)) (leaf_bytes p n h).entries
    ∙ (get_or-map entry_of (cells 32 32 n p) i [] (0, 0) (omega (arith, length-cells 32 32 n p)) ∙ ap (λ (b : List ℕ). entry_of b) (get-cells 32 32 n p i [] l)) in
    drop_more es i (0, 0) (omega (arith, h.counted)) ∙ ap (λ (x : Pair). x ∷ drop (i + 1) es) (entry ∙ ap (λ (w : ℕ). entry_of (piece w (32 + 32 * i) p)) (sym width))

-- the pairs of a leaf from a key on begin at the key's rank
pub rank_from : (p : List ℕ) (count at k : ℕ) → IsLeafOf p count → at ≤ count → (1 ≤ at → entry_key p (at - 1) < k) → (at < count → k ≤ entry_key p at)
    → Ascending (entries_of (node_of p)) → entries_on p at ≡ items_from k (entries_of (node_of p))
rank_from p count at k is l f g asc =
    let es : List Pair = entries_of (node_of p) in
    let below : Below k (take at es) = Below-rank k es at (0, 0) asc (omega (arith, is.counted)) (λ o. ranked p count at k is l f o) in
    let above : AtLeast k (drop at es) = AtLeast-rank k es at (0, 0) asc (λ i.
    let j : at < count = omega (arith, is.counted) in
    omega (arith, g j, ap (λ (x : Pair). x.0) (entry_is p count at (0, 0) is j))) in
    sym (ap (λ (x : List Pair). items_from k x) (sym (take-append-drop at es))
    ∙ (items_from-append k (take at es) (drop at es) ∙ ap₂ (λ (x y : List Pair). x ++ y) (from-Below k (take at es) below) (from-AtLeast k (drop at es) above)))
