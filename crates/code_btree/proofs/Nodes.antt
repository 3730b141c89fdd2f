-- Pages read as nodes, and what is read of them after a splice.
use Rattle.std.proofs.Common.{◌≡◌, ℕ, suc, ◌+◌, ◌-◌, ◌*◌, ◌≤◌, false, eqb, List, ◌++◌, length, get_or, take, drop, map, refl, sym, ◌∙◌, ap, ap₂, inl, inr, arith, take_all}
use Rattle.std.proofs.lemmas.Bool.Decides.{leb_tells, eqb_tells}
use Rattle.std.proofs.lemmas.List.{length-map, map-append, take-map, drop-map}
use Rattle.code_btree.specs.Bytes.{piece, cells, pasted, spliced, half_of, half_bytes, word_of, number_of}
use Rattle.code_btree.specs.Node.{Pair, Node, leaf, inner, blank, entry_of, count_in_page, leaf_of, inner_of, node_of, entries_of, next_of, keys_of, child_pages, IsLeafOf, IsInnerOf}
use Rattle.code_btree.proofs.Pieces.{length-piece, length-pasted, piece_apart, piece_within, pasted-before}
use Rattle.code_btree.proofs.Numbers.{half_back, length-half_bytes}
use Rattle.code_btree.proofs.Cells.{length-cells, cells_apart, cells-take, cells-drop, cells_spliced, length-spliced, piece_unspliced}

-- what the bytes of a leaf of n entries are
pub record LeafBytes (p : List ℕ) (n : ℕ) : Type 0 where
  pub kind : get_or p 0 0 ≡ 1
  pub count : count_in_page p ≡ n
  pub fits : n ≤ 127
  pub entries : entries_of (node_of p) ≡ map entry_of (cells 32 32 n p)
  pub next : next_of (node_of p) ≡ word_of (piece 8 8 p)

pub record InnerBytes (p : List ℕ) (n : ℕ) : Type 0 where
  pub kind : get_or p 0 0 ≡ 2
  pub count : count_in_page p ≡ n
  pub fits : n ≤ 169
  pub keys : keys_of (node_of p) ≡ map number_of (cells 16 32 n p)
  pub children : child_pages (node_of p) ≡ map word_of (cells 8 2736 (suc n) p)

-- the three ways in which bytes are read
whole : (b : List ℕ) → length b ≡ 2 → piece 2 0 b ≡ b
whole b h = take_all 2 b (omega arith)

data Reading (p : List ℕ) : Type 0 where
  as_leaf : get_or p 0 0 ≡ 1 → count_in_page p ≤ 127 → node_of p ≡ leaf_of p → Reading p
  as_inner : get_or p 0 0 ≡ 2 → count_in_page p ≤ 169 → node_of p ≡ inner_of p → Reading p
  as_blank : node_of p ≡ blank → Reading p

reading : (p : List ℕ) → Reading p
unfolding node_of
reading p =
    elim (eqb_tells (get_or p 0 0) 1) [
      | inl one ↦ elim (leb_tells (count_in_page p) 127) [
        | inl few ↦ as_leaf one.1 few.1 (rw (one.0, few.0))
        | inr many ↦ as_blank (rw (one.0, many.0) (let two : eqb (get_or p 0 0) 2 ≡ false = elim (eqb_tells (get_or p 0 0) 2) [ inl t ↦ absurd (omega arith) | inr t ↦ t.0 ] in rw two))
      ]
      | inr other ↦ elim (eqb_tells (get_or p 0 0) 2) [
        | inl two ↦ elim (leb_tells (count_in_page p) 169) [
          | inl few ↦ as_inner two.1 few.1 (rw (other.0, two.0, few.0))
          | inr many ↦ as_blank (rw (other.0, two.0, many.0))
        ]
        | inr none ↦ as_blank (rw (other.0, none.0))
      ]
    ]

as_leaf_node : (p : List ℕ) → get_or p 0 0 ≡ 1 → count_in_page p ≤ 127 → node_of p ≡ leaf_of p
unfolding node_of
as_leaf_node p k c = elim (eqb_tells (get_or p 0 0) 1) [
  | inl one ↦ elim
      (leb_tells (count_in_page p) 127) [ inl few ↦ rw (one.0, few.0) | inr many ↦ absurd (omega arith) ]
  | inr other ↦ absurd (other.1 k)
]

as_inner_node : (p : List ℕ) → get_or p 0 0 ≡ 2 → count_in_page p ≤ 169 → node_of p ≡ inner_of p
unfolding node_of
as_inner_node p k c = elim (eqb_tells (get_or p 0 0) 1) [
  | inl one ↦ absurd (omega arith)
  | inr other ↦ elim (eqb_tells (get_or p 0 0) 2) [
    | inl two ↦ elim
        (leb_tells (count_in_page p) 169) [ inl few ↦ rw (other.0, two.0, few.0) | inr many ↦ absurd (omega arith) ]
    | inr none ↦ absurd (none.1 k)
  ]
]

pub leaf_made : (p : List ℕ) (n : ℕ) → get_or p 0 0 ≡ 1 → count_in_page p ≡ n → n ≤ 127 → node_of p ≡ leaf (map entry_of (cells 32 32 n p)) (word_of (piece 8 8 p))
unfolding leaf_of
leaf_made p n k c f = as_leaf_node p k (omega arith) ∙ ap (λ (i : ℕ). leaf (map entry_of (cells 32 32 i p)) (word_of (piece 8 8 p))) c

pub inner_made : (p : List ℕ) (n : ℕ) → get_or p 0 0 ≡ 2 → count_in_page p ≡ n → n ≤ 169 → node_of p ≡ inner (map number_of (cells 16 32 n p)) (map word_of (cells 8 2736 (suc n) p))
unfolding inner_of
inner_made p n k c f = as_inner_node p k (omega arith) ∙ ap (λ (i : ℕ). inner (map number_of (cells 16 32 i p)) (map word_of (cells 8 2736 (suc i) p))) c

leaf_counted : (p : List ℕ) → node_of p ≡ leaf_of p → length (entries_of (node_of p)) ≡ count_in_page p
unfolding leaf_of
leaf_counted p z = ap (λ (o : Node). length (entries_of o)) z ∙ (length-map (cells 32 32 (count_in_page p) p) entry_of ∙ length-cells 32 32 (count_in_page p) p)

inner_counted : (p : List ℕ) → node_of p ≡ inner_of p → length (keys_of (node_of p)) ≡ count_in_page p
unfolding inner_of
inner_counted p z = ap (λ (o : Node). length (keys_of o)) z ∙ (length-map (cells 16 32 (count_in_page p) p) number_of ∙ length-cells 16 32 (count_in_page p) p)

leaf_next : (p : List ℕ) → node_of p ≡ leaf_of p → next_of (node_of p) ≡ word_of (piece 8 8 p)
unfolding leaf_of
leaf_next p z = ap (λ (o : Node). next_of o) z

leaf_entries : (p : List ℕ) → node_of p ≡ leaf_of p → entries_of (node_of p) ≡ map entry_of (cells 32 32 (count_in_page p) p)
unfolding leaf_of
leaf_entries p z = ap (λ (o : Node). entries_of o) z

inner_keys : (p : List ℕ) → node_of p ≡ inner_of p → keys_of (node_of p) ≡ map number_of (cells 16 32 (count_in_page p) p)
unfolding inner_of
inner_keys p z = ap (λ (o : Node). keys_of o) z

inner_children : (p : List ℕ) → node_of p ≡ inner_of p → child_pages (node_of p) ≡ map word_of (cells 8 2736 (suc (count_in_page p)) p)
unfolding inner_of
inner_children p z = ap (λ (o : Node). child_pages o) z

inner_not_leaf : (p : List ℕ) (es : List Pair) (x : ℕ) → node_of p ≡ inner_of p → node_of p ≡ leaf es x → ⊥
unfolding inner_of
inner_not_leaf p es x z h = cc

leaf_not_inner : (p : List ℕ) (ks cs : List ℕ) → node_of p ≡ leaf_of p → node_of p ≡ inner ks cs → ⊥
unfolding leaf_of
leaf_not_inner p ks cs z h = cc

pub leaf_bytes : (p : List ℕ) (n : ℕ) → IsLeafOf p n → LeafBytes p n
leaf_bytes p n h = elim (reading p) [
  | as_leaf x y z ↦
      let c : count_in_page p ≡ n = sym (leaf_counted p z) ∙ h.counted in
      record { kind = x; count = c; fits = h.fits; entries = leaf_entries p z ∙ ap (λ (i : ℕ). map entry_of (cells 32 32 i p)) c; next = leaf_next p z }
  | as_inner x y z ↦ absurd (inner_not_leaf p _ _ z h.is_leaf)
  | as_blank z ↦ absurd (let i = h.is_leaf in cc)
]

pub inner_bytes : (p : List ℕ) (n : ℕ) → IsInnerOf p n → InnerBytes p n
inner_bytes p n h = elim (reading p) [
  | as_leaf x y z ↦ absurd (leaf_not_inner p _ _ z h.is_inner)
  | as_inner x y z ↦
      let c : count_in_page p ≡ n = sym (inner_counted p z) ∙ h.counted in
      record {
        kind = x;
        count = c;
        fits = h.fits;
        keys = inner_keys p z ∙ ap (λ (i : ℕ). map number_of (cells 16 32 i p)) c;
        children = inner_children p z ∙ ap (λ (i : ℕ). map word_of (cells 8 2736 (suc i) p)) c;
      }
  | as_blank z ↦ absurd (let i = h.is_inner in cc)
]

-- what the code's tests of the kind and the count tell
pub leaf_told : (p : List ℕ) (n : ℕ) → get_or p 0 0 ≡ 1 → n ≡ count_in_page p → n ≤ 127 → IsLeafOf p n
leaf_told p n k c f =
    let m = leaf_made p n k (sym c) f in
    record {
      is_leaf = m ∙ sym (ap (λ (o : Node). leaf (entries_of o) (next_of o)) m);
      counted = ap (λ (o : Node). length (entries_of o)) m ∙ (length-map (cells 32 32 n p) entry_of ∙ length-cells 32 32 n p);
      fits = f;
    }

pub inner_told : (p : List ℕ) (n : ℕ) → get_or p 0 0 ≡ 2 → n ≡ count_in_page p → n ≤ 169 → IsInnerOf p n
inner_told p n k c f =
    let m = inner_made p n k (sym c) f in
    let l : length (child_pages (node_of p)) ≡ suc n = ap (λ (o : Node). length (child_pages o)) m ∙ (length-map (cells 8 2736 (suc n) p) word_of ∙ length-cells 8 2736 (suc n) p) in
    record {
      is_inner = m ∙ sym (ap (λ (o : Node). inner (keys_of o) (child_pages o)) m);
      counted = ap (λ (o : Node). length (keys_of o)) m ∙ (length-map (cells 16 32 n p) number_of ∙ length-cells 16 32 n p);
      children = omega arith;
      fits = f;
    }

-- no other bytes are a leaf, or an inner page
pub leaf_is_told : (p : List ℕ) → node_of p ≡ leaf (entries_of (node_of p)) (next_of (node_of p)) → (get_or p 0 0 ≡ 1) × (count_in_page p ≤ 127)
leaf_is_told p h = elim (reading p) [ as_leaf x y z ↦ (x, y) | as_inner x y z ↦ absurd (inner_not_leaf p _ _ z h) | as_blank z ↦ absurd (cc) ]

pub inner_is_told : (p : List ℕ) → node_of p ≡ inner (keys_of (node_of p)) (child_pages (node_of p)) → (get_or p 0 0 ≡ 2) × (count_in_page p ≤ 169)
inner_is_told p h = elim (reading p) [ as_leaf x y z ↦ absurd (leaf_not_inner p _ _ z h) | as_inner x y z ↦ (x, y) | as_blank z ↦ absurd (cc) ]

-- a leaf whose entries from i to j gave way to m others, by a splice and a count
pub leaf_spliced : (p b : List ℕ) (n i j k m : ℕ) → length p ≡ 4096 → IsLeafOf p n → j + k ≡ n → i ≤ j → length b ≡ 32 * m → i + (m + k) ≤ 127
    → node_of (pasted (spliced p (32 + 32 * i) (32 + 32 * j) (32 + 32 * n) b) 2 (half_bytes (i + (m + k))))
    ≡ leaf (take i (entries_of (node_of p)) ++ (map entry_of (cells 32 0 m b) ++ drop j (entries_of (node_of p)))) (next_of (node_of p))
leaf_spliced p b n i j k m size is jk ij long fits =
    let h = leaf_bytes p n is in
    let q : List ℕ = spliced p (32 + 32 * i) (32 + 32 * j) (32 + 32 * n) b in
    let r : List ℕ = pasted q 2 (half_bytes (i + (m + k))) in
    let end : 32 + 32 * n ≡ (32 + 32 * j) + 32 * k = omega arith in
    let f : n ≤ 127 = h.fits in
    let lq : length q ≡ length p = length-spliced p (32 + 32 * i) (32 + 32 * j) (32 + 32 * n) b (omega arith) (omega arith) (omega arith) (omega arith) in
    let lh : length (half_bytes (i + (m + k))) ≡ 2 = length-half_bytes (i + (m + k)) in
    let fit : 2 + length (half_bytes (i + (m + k))) ≤ length q = omega arith in
    let kind : get_or r 0 0 ≡ 1 = pasted-before q 2 (half_bytes (i + (m + k))) 0 0 (omega arith) (omega arith)
    ∙ ((pasted-before _ (32 + 32 * i) b 0 0
    (omega (
      arith,
      length-pasted p ((32 + 32 * i) + length b) (piece ((32 + 32 * n) - (32 + 32 * j)) (32 + 32 * j) p)
          (omega (arith, length-piece ((32 + 32 * n) - (32 + 32 * j)) (32 + 32 * j) p (omega arith))),
    )) (omega arith)
    ∙ pasted-before p ((32 + 32 * i) + length b) (piece ((32 + 32 * n) - (32 + 32 * j)) (32 + 32 * j) p) 0 0 (omega arith) (omega arith)) ∙ h.kind) in
    let two : 2 + 0 ≡ 2 = omega arith in
    let count : count_in_page r ≡ i + (m + k) =
    ap (λ (c : List ℕ). half_of c) (piece_within 2 0 q 2 (half_bytes (i + (m + k))) fit (omega arith) ∙ whole (half_bytes (i + (m + k))) lh)
    ∙ half_back (i + (m + k)) (omega arith) in
    let next : piece 8 8 r ≡ piece 8 8 p = piece_apart 8 8 q 2 (half_bytes (i + (m + k))) fit (inr (omega arith))
    ∙ piece_unspliced 8 8 p (32 + 32 * i) (32 + 32 * j) (32 + 32 * n) b (omega arith) (omega arith) (omega arith) (omega arith) (inl (omega arith)) in
    let row : cells 32 32 (i + (m + k)) r ≡ cells 32 32 i p ++ (cells 32 0 m b ++ cells 32 (32 + 32 * j) k p) =
    cells_apart 32 32 (i + (m + k)) q 2 (half_bytes (i + (m + k))) fit (inr (omega arith))
    ∙ (ap (λ (e : ℕ). cells 32 32 (i + (m + k)) (spliced p (32 + 32 * i) (32 + 32 * j) e b)) end
    ∙ cells_spliced 32 32 i j k m p b ij long (omega arith) (omega arith)) in
    let ik : i + (n - i) ≡ n = omega arith in
    let head : map entry_of (cells 32 32 i p) ≡ take i (entries_of (node_of p)) =
    sym (ap (λ (x : List Pair). take i x) (h.entries ∙ ap (λ (x : ℕ). map entry_of (cells 32 32 x p)) (sym ik))
    ∙ (take-map entry_of i (cells 32 32 (i + (n - i)) p) ∙ ap (λ (x : List (List ℕ)). map entry_of x) (cells-take 32 32 i (n - i) p))) in
    let tail : map entry_of (cells 32 (32 + 32 * j) k p) ≡ drop j (entries_of (node_of p)) =
    sym (ap (λ (x : List Pair). drop j x) (h.entries ∙ ap (λ (x : ℕ). map entry_of (cells 32 32 x p)) (sym jk))
    ∙ (drop-map entry_of j (cells 32 32 (j + k) p) ∙ ap (λ (x : List (List ℕ)). map entry_of x) (cells-drop 32 32 j k p))) in
    leaf_made r (i + (m + k)) kind count fits
    ∙ ap₂ (λ (es : List Pair) (x : ℕ). leaf es x)
    (ap (λ (x : List (List ℕ)). map entry_of x) row
    ∙ (map-append entry_of (cells 32 32 i p) (cells 32 0 m b ++ cells 32 (32 + 32 * j) k p)
    ∙ ap₂ (λ (x y : List Pair). x ++ y) head (map-append entry_of (cells 32 0 m b) (cells 32 (32 + 32 * j) k p) ∙ ap (λ (y : List Pair). map entry_of (cells 32 0 m b) ++ y) tail)))
    (ap (λ (c : List ℕ). word_of c) next ∙ sym h.next)

-- the link of a leaf, as it is read
pub next_read : (p : List ℕ) → node_of p ≡ leaf (entries_of (node_of p)) (next_of (node_of p)) → next_of (node_of p) ≡ word_of (piece 8 8 p)
next_read p h = elim (reading p) [ as_leaf x y z ↦ leaf_next p z | as_inner x y z ↦ absurd (inner_not_leaf p _ _ z h) | as_blank z ↦ absurd (cc) ]

-- a leaf has as many entries as its head says
pub leaf_head : (p : List ℕ) → node_of p ≡ leaf (entries_of (node_of p)) (next_of (node_of p)) → IsLeafOf p (count_in_page p)
leaf_head p h = let t = leaf_is_told p h in leaf_told p (count_in_page p) t.0 refl t.1
