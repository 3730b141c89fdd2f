-- What the code reads of a page, by its node.
use Rattle.std.proofs.Common.{◌≡◌, ℕ, suc, ◌+◌, ◌*◌, ◌<◌, List, [], get_or, take, drop, ◌∙◌, ap, ap₂, arith, take-take, drop-drop}
use Rattle.std.proofs.lemmas.List.{get_or-map, drop-take}
use Rattle.code_btree.specs.Bytes.{piece, cells, number_of, word_of}
use Rattle.code_btree.specs.Node.{Pair, node_of, entry_of, entries_of, keys_of, child_pages, IsLeafOf, IsInnerOf, entry_key, entry_value, key_in, child_in}
use Rattle.code_btree.proofs.Cells.{length-cells, get-cells}
use Rattle.code_btree.proofs.Nodes.{leaf_bytes, inner_bytes}

pub key_is : (p : List ℕ) (n i : ℕ) → IsInnerOf p n → i < n → get_or (keys_of (node_of p)) i 0 ≡ key_in p i
key_is p n i h l =
    ap (λ (r : List ℕ). get_or r i 0) (inner_bytes p n h).keys
    ∙ (get_or-map number_of (cells 16 32 n p) i [] 0 (omega (arith, length-cells 16 32 n p)) ∙ ap (λ (b : List ℕ). number_of b) (get-cells 16 32 n p i [] l))

pub child_is : (p : List ℕ) (n i : ℕ) → IsInnerOf p n → i < n + 1 → get_or (child_pages (node_of p)) i 0 ≡ child_in p i
child_is p n i h l =
    ap (λ (r : List ℕ). get_or r i 0) (inner_bytes p n h).children
    ∙ (get_or-map word_of (cells 8 2736 (suc n) p) i [] 0 (omega (arith, length-cells 8 2736 (suc n) p)) ∙ ap (λ (b : List ℕ). word_of b) (get-cells 8 2736 (suc n) p i [] (omega arith)))

entry_parts : (p : List ℕ) (a : ℕ) → entry_of (piece 32 a p) ≡ (number_of (piece 16 a p), number_of (piece 16 (a + 16) p))
unfolding entry_of
entry_parts p a =
    let x : take 16 (piece 32 a p) ≡ piece 16 a p = take-take 16 32 (drop a p) (omega arith) in
    let y : take 16 (drop 16 (piece 32 a p)) ≡ piece 16 (a + 16) p =
    ap (λ (q : List ℕ). take 16 q) (drop-take 16 16 (drop a p)) ∙ (take-take 16 16 (drop 16 (drop a p)) (omega arith) ∙ ap (λ (q : List ℕ). take 16 q) (drop-drop 16 a p)) in
    ap₂ (λ (i j : List ℕ). (number_of i, number_of j)) x y

pub entry_is : (p : List ℕ) (n i : ℕ) (d : Pair) → IsLeafOf p n → i < n → get_or (entries_of (node_of p)) i d ≡ (entry_key p i, entry_value p i)
entry_is p n i d h l =
    let e : (32 + 32 * i) + 16 ≡ 48 + 32 * i = omega arith in
    ap (λ (r : List Pair). get_or r i d) (leaf_bytes p n h).entries
    ∙ (get_or-map entry_of (cells 32 32 n p) i [] d (omega (arith, length-cells 32 32 n p))
    ∙ (ap (λ (b : List ℕ). entry_of b) (get-cells 32 32 n p i [] l)
    ∙ (entry_parts p (32 + 32 * i) ∙ ap (λ (j : ℕ). (entry_key p i, number_of (piece 16 j p))) e)))
