-- Rows of cells: joined, pasted over, and spliced.
use Rattle.std.proofs.Common.{◌≡◌, ℕ, zero, suc, ◌+◌, ◌-◌, ◌*◌, ◌<◌, ◌≤◌, ◌⊎◌, List, ◌∷◌, ◌++◌, length, get_or, take, drop, refl, sym, ◌∙◌, ap, ap₂, inl, inr, arith, take_at, drop_at, mul-le-mul_left}
use Rattle.code_btree.specs.Bytes.{piece, cells, pasted, spliced}
use Rattle.code_btree.proofs.Pieces.{length-piece, length-pasted, piece_apart, piece_within, piece_piece}

pub length-cells : (w at n : ℕ) (p : List ℕ) → length (cells w at n p) ≡ n
length-cells w at zero p = refl
length-cells w at (suc n) p = ap suc (length-cells w (at + w) n p)

pub cells-add : (w at i j : ℕ) (p : List ℕ) → cells w at (i + j) p ≡ cells w at i p ++ cells w (at + w * i) j p
cells-add w at zero j p =
    let e : zero + j ≡ j = omega arith in
    let f : at ≡ at + w * zero = omega arith in
    ap (λ (n : ℕ). cells w at n p) e ∙ ap (λ (a : ℕ). cells w a j p) f
cells-add w at (suc i) j p =
    let e : suc i + j ≡ suc (i + j) = omega arith in
    let f : (at + w) + w * i ≡ at + w * suc i = omega arith in
    ap (λ (n : ℕ). cells w at n p) e ∙ ap (λ (r : List (List ℕ)). piece w at p ∷ r) (cells-add w (at + w) i j p ∙ ap (λ (a : ℕ). cells w (at + w) i p ++ cells w a j p) f)

pub cells_apart : (w a n : ℕ) (p : List ℕ) (at : ℕ) (b : List ℕ) → at + length b ≤ length p → (a + w * n ≤ at) ⊎ (at + length b ≤ a)
    → cells w a n (pasted p at b) ≡ cells w a n p
cells_apart w a zero p at b h s = refl
cells_apart w a (suc n) p at b h s =
    ap₂ (λ (c : List ℕ) (r : List (List ℕ)). c ∷ r)
    (piece_apart w a p at b h (elim s [ inl before ↦ inl (omega arith) | inr behind ↦ inr behind ]))
    (cells_apart w (a + w) n p at b h (elim s [ inl before ↦ inl (omega arith) | inr behind ↦ inr (omega arith) ]))

pub cells_within : (w i n : ℕ) (p : List ℕ) (at : ℕ) (b : List ℕ) → at + length b ≤ length p → i + w * n ≤ length b
    → cells w (at + i) n (pasted p at b) ≡ cells w i n b
cells_within w i zero p at b h s = refl
cells_within w i (suc n) p at b h s =
    let e : (at + i) + w ≡ at + (i + w) = omega arith in
    ap₂ (λ (c : List ℕ) (r : List (List ℕ)). c ∷ r)
    (piece_within w i p at b h (omega arith))
    (ap (λ (a : ℕ). cells w a n (pasted p at b)) e ∙ cells_within w (i + w) n p at b h (omega arith))

pub cells_piece : (w i n len at : ℕ) (p : List ℕ) → at + len ≤ length p → i + w * n ≤ len → cells w i n (piece len at p) ≡ cells w (at + i) n p
cells_piece w i zero len at p h s = refl
cells_piece w i (suc n) len at p h s =
    let e : at + (i + w) ≡ (at + i) + w = omega arith in
    ap₂ (λ (c : List ℕ) (r : List (List ℕ)). c ∷ r)
    (piece_piece w i len at p h (omega arith))
    (cells_piece w (i + w) n len at p h (omega arith) ∙ ap (λ (a : ℕ). cells w a n p) e)

pub get-cells : (w a n : ℕ) (p : List ℕ) (i : ℕ) (d : List ℕ) → i < n → get_or (cells w a n p) i d ≡ piece w (a + w * i) p
get-cells w a zero p i d h = absurd (omega arith)
get-cells w a (suc n) p zero d h = let e : a ≡ a + w * zero = omega arith in ap (λ (j : ℕ). piece w j p) e
get-cells w a (suc n) p (suc i) d h = let e : (a + w) + w * i ≡ a + w * suc i = omega arith in get-cells w (a + w) n p i d (omega arith) ∙ ap (λ (j : ℕ). piece w j p) e

pub cells-take : (w a i k : ℕ) (p : List ℕ) → take i (cells w a (i + k) p) ≡ cells w a i p
cells-take w a i k p = ap (λ (r : List (List ℕ)). take i r) (cells-add w a i k p) ∙ take_at (cells w a i p) (cells w (a + w * i) k p) i (length-cells w a i p)

pub cells-drop : (w a i k : ℕ) (p : List ℕ) → drop i (cells w a (i + k) p) ≡ cells w (a + w * i) k p
cells-drop w a i k p = ap (λ (r : List (List ℕ)). drop i r) (cells-add w a i k p) ∙ drop_at (cells w a i p) (cells w (a + w * i) k p) i (length-cells w a i p)

-- m cells in the place of those from i to j, where k stand behind these
pub cells_spliced : (w a i j k m : ℕ) (p b : List ℕ) → i ≤ j → length b ≡ w * m → (a + w * j) + w * k ≤ length p → (a + w * i) + (w * m + w * k) ≤ length p
    → cells w a (i + (m + k)) (spliced p (a + w * i) (a + w * j) ((a + w * j) + w * k) b)
    ≡ cells w a i p ++ (cells w zero m b ++ cells w (a + w * j) k p)
cells_spliced w a i j k m p b ij long within room =
    let wij : w * i ≤ w * j = mul-le-mul_left w ij in
    let tail : List ℕ = piece (((a + w * j) + w * k) - (a + w * j)) (a + w * j) p in
    let e : ((a + w * j) + w * k) - (a + w * j) ≡ w * k = omega arith in
    let len : length tail ≡ w * k = length-piece (((a + w * j) + w * k) - (a + w * j)) (a + w * j) p (omega arith) ∙ e in
    let inner : List ℕ = pasted p ((a + w * i) + length b) tail in
    let inner_fits : ((a + w * i) + length b) + length tail ≤ length p = omega arith in
    let long_inner : length inner ≡ length p = length-pasted p ((a + w * i) + length b) tail inner_fits in
    let outer_fits : (a + w * i) + length b ≤ length inner = omega arith in
    let q : List ℕ = pasted inner (a + w * i) b in
    let first : cells w a i q ≡ cells w a i p = cells_apart w a i inner (a + w * i) b outer_fits (inl (omega arith))
    ∙ cells_apart w a i p ((a + w * i) + length b) tail inner_fits (inl (omega arith)) in
    let zeroth : (a + w * i) + zero ≡ a + w * i = omega arith in
    let second : cells w (a + w * i) m q ≡ cells w zero m b = ap (λ (x : ℕ). cells w x m q) (sym zeroth) ∙ cells_within w zero m inner (a + w * i) b outer_fits (omega arith) in
    let place : (a + w * i) + w * m ≡ ((a + w * i) + length b) + zero = omega arith in
    let place_0 : (a + w * j) + zero ≡ a + w * j = omega arith in
    let third : cells w ((a + w * i) + w * m) k q ≡ cells w (a + w * j) k p =
    cells_apart w ((a + w * i) + w * m) k inner (a + w * i) b outer_fits (inr (omega arith))
    ∙ (ap (λ (x : ℕ). cells w x k inner) place
    ∙ (cells_within w zero k p ((a + w * i) + length b) tail inner_fits (omega arith)
    ∙ (cells_piece w zero k (((a + w * j) + w * k) - (a + w * j)) (a + w * j) p (omega arith) (omega arith)
    ∙ ap (λ (x : ℕ). cells w x k p) place_0))) in
    cells-add w a i (m + k) q
    ∙ ap₂ (λ (x y : List (List ℕ)). x ++ y) first (cells-add w (a + w * i) m k q ∙ ap₂ (λ (x y : List (List ℕ)). x ++ y) second third)

-- what a splice doesn't meet
pub length-spliced : (p : List ℕ) (from to end : ℕ) (b : List ℕ) → from ≤ to → to ≤ end → end ≤ length p → from + (length b + (end - to)) ≤ length p → length (spliced p from to end b) ≡ length p
length-spliced p from to end b h k l m =
    let len : length (piece (end - to) to p) ≡ end - to = length-piece (end - to) to p (omega arith) in
    let inner : length (pasted p (from + length b) (piece (end - to) to p)) ≡ length p = length-pasted p (from + length b) (piece (end - to) to p) (omega arith) in
    length-pasted (pasted p (from + length b) (piece (end - to) to p)) from b (omega arith) ∙ inner

pub piece_unspliced : (w a : ℕ) (p : List ℕ) (from to end : ℕ) (b : List ℕ) → from ≤ to → to ≤ end → end ≤ length p → from + (length b + (end - to)) ≤ length p
    → (a + w ≤ from) ⊎ (from + (length b + (end - to)) ≤ a) → piece w a (spliced p from to end b) ≡ piece w a p
piece_unspliced w a p from to end b h k l m s =
    let len : length (piece (end - to) to p) ≡ end - to = length-piece (end - to) to p (omega arith) in
    let inner : length (pasted p (from + length b) (piece (end - to) to p)) ≡ length p = length-pasted p (from + length b) (piece (end - to) to p) (omega arith) in
    piece_apart w a (pasted p (from + length b) (piece (end - to) to p)) from b (omega arith) (elim s [ inl x ↦ inl x | inr x ↦ inr (omega arith) ])
    ∙ piece_apart w a p (from + length b) (piece (end - to) to p) (omega arith) (elim s [ inl x ↦ inl (omega arith) | inr x ↦ inr (omega arith) ])

pub cells_unspliced : (w a n : ℕ) (p : List ℕ) (from to end : ℕ) (b : List ℕ) → from ≤ to → to ≤ end → end ≤ length p → from + (length b + (end - to)) ≤ length p
    → (a + w * n ≤ from) ⊎ (from + (length b + (end - to)) ≤ a) → cells w a n (spliced p from to end b) ≡ cells w a n p
cells_unspliced w a n p from to end b h k l m s =
    let len : length (piece (end - to) to p) ≡ end - to = length-piece (end - to) to p (omega arith) in
    let inner : length (pasted p (from + length b) (piece (end - to) to p)) ≡ length p = length-pasted p (from + length b) (piece (end - to) to p) (omega arith) in
    cells_apart w a n (pasted p (from + length b) (piece (end - to) to p)) from b (omega arith) (elim s [ inl x ↦ inl x | inr x ↦ inr (omega arith) ])
    ∙ cells_apart w a n p (from + length b) (piece (end - to) to p) (omega arith) (elim s [ inl x ↦ inl (omega arith) | inr x ↦ inr (omega arith) ])
