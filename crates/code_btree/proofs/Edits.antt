-- What the edits of a page make of its node.
use Rattle.std.proofs.Common.{◌≡◌, ℕ, suc, ◌+◌, ◌-◌, ◌*◌, ◌/◌, ◌%◌, ◌^◌, ◌<◌, ◌≤◌, List, [], ◌∷◌, ◌++◌, length, get_or, take, drop, map, replicate, refl, sym, ◌∙◌, ap}
use Rattle.std.proofs.Common.{ap₂, inl, inr, arith, length-append, length-take, length-drop, take_all}
use Rattle.std.proofs.lemmas.List.{length-map, map-append, take-map, drop-map, length-replicate}
use Rattle.code_btree.specs.Bytes.{piece, cells, pasted, spliced, half_of, half_bytes, word_of, word_bytes, number_of, number_bytes}
use Rattle.code_btree.specs.Node.{Pair, Node, leaf, inner, entry_of, count_in_page, node_of, entries_of, next_of, keys_of, child_pages, IsLeafOf, IsInnerOf, entries_in, keys_in, children_in}
use Rattle.code_btree.proofs.Pieces.{length-piece, length-pasted, piece_apart, piece_within, pasted-before, pasted-within}
use Rattle.code_btree.proofs.Numbers.{half_back, word_back, number_back, length-half_bytes, length-word_bytes, length-number_bytes}
use Rattle.code_btree.proofs.Cells.{length-cells, cells_apart, cells-take, cells-drop, cells_piece, cells_spliced, length-spliced, piece_unspliced, cells_unspliced}
use Rattle.code_btree.proofs.Nodes.{leaf_bytes, inner_bytes, leaf_made, inner_made, leaf_spliced}

pub leaf_is : (r : List ℕ) (es : List Pair) (x n : ℕ) → node_of r ≡ leaf es x → length es ≡ n → n ≤ 127 → IsLeafOf r n
leaf_is r es x n m l f = record {
  is_leaf = m ∙ sym (ap (λ (o : Node). leaf (entries_of o) (next_of o)) m);
  counted = ap (λ (o : Node). length (entries_of o)) m ∙ l;
  fits = f;
}

pub inner_is : (r : List ℕ) (ks cs : List ℕ) (n : ℕ) → node_of r ≡ inner ks cs → length ks ≡ n → length cs ≡ n + 1 → n ≤ 169 → IsInnerOf r n
inner_is r ks cs n m l k f = record {
  is_inner = m ∙ sym (ap (λ (o : Node). inner (keys_of o) (child_pages o)) m);
  counted = ap (λ (o : Node). length (keys_of o)) m ∙ l;
  children = ap (λ (o : Node). length (child_pages o)) m ∙ k;
  fits = f;
}

-- a part of a row, as bytes of its own
row_part : {A : Type 0} (f : List ℕ → A) (w base n a b L : ℕ) (p : List ℕ) → a ≤ b → b ≤ n → L ≡ w * (b - a) → (base + w * a) + L ≤ length p
    → map f (cells w 0 (b - a) (piece L (base + w * a) p)) ≡ take (b - a) (drop a (map f (cells w base n p)))
row_part {A = A} f w base n a b L p ab bn long fits =
    let e : a + ((b - a) + (n - b)) ≡ n = omega arith in
    let z : (base + w * a) + 0 ≡ base + w * a = omega arith in
    let row : cells w 0 (b - a) (piece L (base + w * a) p) ≡ cells w (base + w * a) (b - a) p = cells_piece w 0 (b - a) L (base + w * a) p fits (omega arith) ∙ ap (λ (x : ℕ). cells w x (b - a) p) z in
    let dropped : drop a (map f (cells w base n p)) ≡ map f (cells w (base + w * a) ((b - a) + (n - b)) p) =
    ap (λ (x : ℕ). drop a (map f (cells w base x p))) (sym e)
    ∙ (drop-map f a (cells w base (a + ((b - a) + (n - b))) p) ∙ ap (λ (x : List (List ℕ)). map f x) (cells-drop w base a ((b - a) + (n - b)) p)) in
    let taken : take (b - a) (map f (cells w (base + w * a) ((b - a) + (n - b)) p)) ≡ map f (cells w (base + w * a) (b - a) p) =
    take-map f (b - a) (cells w (base + w * a) ((b - a) + (n - b)) p) ∙ ap (λ (x : List (List ℕ)). map f x) (cells-take w (base + w * a) (b - a) (n - b) p) in
    ap (λ (x : List (List ℕ)). map f x) row ∙ sym (ap (λ (x : List A). take (b - a) x) dropped ∙ taken)

pub entries_part : (p : List ℕ) (n a b : ℕ) → a ≤ b → b ≤ n → length p ≡ 4096 → IsLeafOf p n
    → entries_in (piece ((32 + 32 * b) - (32 + 32 * a)) (32 + 32 * a) p) ≡ take (b - a) (drop a (entries_of (node_of p)))
entries_part p n a b ab bn size h =
    let f : n ≤ 127 = h.fits in
    let l : length (piece ((32 + 32 * b) - (32 + 32 * a)) (32 + 32 * a) p) / 32 ≡ b - a = omega (arith, length-piece ((32 + 32 * b) - (32 + 32 * a)) (32 + 32 * a) p (omega arith)) in
    ap (λ (x : ℕ). map entry_of (cells 32 0 x (piece ((32 + 32 * b) - (32 + 32 * a)) (32 + 32 * a) p))) l
    ∙ (row_part entry_of 32 32 n a b ((32 + 32 * b) - (32 + 32 * a)) p ab bn (omega arith) (omega arith)
    ∙ ap (λ (x : List Pair). take (b - a) (drop a x)) (sym (leaf_bytes p n h).entries))

pub keys_part : (p : List ℕ) (n a b : ℕ) → a ≤ b → b ≤ n → length p ≡ 4096 → IsInnerOf p n
    → keys_in (piece ((32 + 16 * b) - (32 + 16 * a)) (32 + 16 * a) p) ≡ take (b - a) (drop a (keys_of (node_of p)))
keys_part p n a b ab bn size h =
    let f : n ≤ 169 = h.fits in
    let l : length (piece ((32 + 16 * b) - (32 + 16 * a)) (32 + 16 * a) p) / 16 ≡ b - a = omega (arith, length-piece ((32 + 16 * b) - (32 + 16 * a)) (32 + 16 * a) p (omega arith)) in
    ap (λ (x : ℕ). map number_of (cells 16 0 x (piece ((32 + 16 * b) - (32 + 16 * a)) (32 + 16 * a) p))) l
    ∙ (row_part number_of 16 32 n a b ((32 + 16 * b) - (32 + 16 * a)) p ab bn (omega arith) (omega arith)
    ∙ ap (λ (x : List ℕ). take (b - a) (drop a x)) (sym (inner_bytes p n h).keys))

pub children_part : (p : List ℕ) (n a b : ℕ) → a ≤ b → b ≤ n + 1 → length p ≡ 4096 → IsInnerOf p n
    → children_in (piece ((2736 + 8 * b) - (2736 + 8 * a)) (2736 + 8 * a) p) ≡ take (b - a) (drop a (child_pages (node_of p)))
children_part p n a b ab bn size h =
    let f : n ≤ 169 = h.fits in
    let l : length (piece ((2736 + 8 * b) - (2736 + 8 * a)) (2736 + 8 * a) p) / 8 ≡ b - a = omega (arith, length-piece ((2736 + 8 * b) - (2736 + 8 * a)) (2736 + 8 * a) p (omega arith)) in
    ap (λ (x : ℕ). map word_of (cells 8 0 x (piece ((2736 + 8 * b) - (2736 + 8 * a)) (2736 + 8 * a) p))) l
    ∙ (row_part word_of 8 2736 (suc n) a b ((2736 + 8 * b) - (2736 + 8 * a)) p ab (omega arith) (omega arith) (omega arith)
    ∙ ap (λ (x : List ℕ). take (b - a) (drop a x)) (sym (inner_bytes p n h).children))

-- one cell, written
whole_piece : (w : ℕ) (z b : List ℕ) → length z ≡ w → length b ≡ w → piece w 0 (pasted z 0 b) ≡ b
whole_piece w z b lz lb = piece_within w 0 z 0 b (omega arith) (omega arith) ∙ take_all w b (omega arith)

pub child_cell : (z : List ℕ) (x : ℕ) → length z ≡ 8 → x < 2 ^ 64 → children_in (pasted z 0 (word_bytes x)) ≡ x ∷ []
child_cell z x lz fits =
    let lb = length-word_bytes x in
    let l : length (pasted z 0 (word_bytes x)) / 8 ≡ 1 = omega (arith, length-pasted z 0 (word_bytes x) (omega arith)) in
    ap (λ (n : ℕ). map word_of (cells 8 0 n (pasted z 0 (word_bytes x)))) l ∙ ap (λ (y : ℕ). y ∷ []) (ap (λ (y : List ℕ). word_of y) (whole_piece 8 z (word_bytes x) lz lb) ∙ word_back x fits)

pub key_cell : (z : List ℕ) (x : ℕ) → length z ≡ 16 → x < 2 ^ 128 → keys_in (pasted z 0 (number_bytes x)) ≡ x ∷ []
key_cell z x lz fits =
    let lb = length-number_bytes x in
    let l : length (pasted z 0 (number_bytes x)) / 16 ≡ 1 = omega (arith, length-pasted z 0 (number_bytes x) (omega arith)) in
    ap (λ (n : ℕ). map number_of (cells 16 0 n (pasted z 0 (number_bytes x)))) l
    ∙ ap (λ (y : ℕ). y ∷ []) (ap (λ (y : List ℕ). number_of y) (whole_piece 16 z (number_bytes x) lz lb) ∙ number_back x fits)

pub entry_cell : (z : List ℕ) (k v : ℕ) → length z ≡ 32 → k < 2 ^ 128 → v < 2 ^ 128 → entries_in (pasted (pasted z 0 (number_bytes k)) 16 (number_bytes v)) ≡ (k, v) ∷ []
unfolding entry_of
entry_cell z k v lz fk fv =
    let a = number_bytes k in
    let b = number_bytes v in
    let la : length a ≡ 16 = length-number_bytes k in
    let lb : length b ≡ 16 = length-number_bytes v in
    let l1 : length (pasted z 0 a) ≡ length z = length-pasted z 0 a (omega arith) in
    let q = pasted (pasted z 0 a) 16 b in
    let l2 : length q ≡ length (pasted z 0 a) = length-pasted (pasted z 0 a) 16 b (omega arith) in
    let l : length q / 32 ≡ 1 = omega arith in
    let w : piece 32 0 q ≡ q = take_all 32 q (omega arith) in
    let x : take 16 q ≡ a = piece_apart 16 0 (pasted z 0 a) 16 b (omega arith) (inl (omega arith)) ∙ (piece_within 16 0 z 0 a (omega arith) (omega arith) ∙ take_all 16 a (omega arith)) in
    let y : take 16 (drop 16 q) ≡ b = piece_within 16 0 (pasted z 0 a) 16 b (omega arith) (omega arith) ∙ take_all 16 b (omega arith) in
    ap (λ (n : ℕ). map entry_of (cells 32 0 n q)) l
    ∙ (ap (λ (c : List ℕ). entry_of c ∷ []) w
    ∙ ap₂ (λ (i j : List ℕ). (number_of i, number_of j) ∷ []) x y
    ∙ ap₂ (λ (i j : ℕ). (i, j) ∷ []) (number_back k fk) (number_back v fv))

-- entries spliced, in the code's words
pub leaf_edit : (p b q r : List ℕ) (n i j : ℕ) → q ≡ spliced p (32 + 32 * i) (32 + 32 * j) (32 + 32 * n) b → r ≡ pasted q 2 (half_bytes (i + (length b / 32 + (n - j)))) → length p ≡ 4096
    → IsLeafOf p n → i ≤ j → j ≤ n → length b % 32 ≡ 0 → i + (length b / 32 + (n - j)) ≤ 127
    → node_of r ≡ leaf (take i (entries_of (node_of p)) ++ (entries_in b ++ drop j (entries_of (node_of p)))) (next_of (node_of p))
leaf_edit p b q r n i j eq er size h ij jn long fits =
    ap (λ (x : List ℕ). node_of x) (er ∙ ap (λ (x : List ℕ). pasted x 2 (half_bytes (i + (length b / 32 + (n - j))))) eq)
    ∙ leaf_spliced p b n i j (n - j) (length b / 32) size h (omega arith) ij (omega arith) fits

pub leaf_edit_is : (p b r : List ℕ) (n i j : ℕ) → IsLeafOf p n → i ≤ j → j ≤ n → i + (length b / 32 + (n - j)) ≤ 127
    → node_of r ≡ leaf (take i (entries_of (node_of p)) ++ (entries_in b ++ drop j (entries_of (node_of p)))) (next_of (node_of p)) → IsLeafOf r (i + (length b / 32 + (n - j)))
leaf_edit_is p b r n i j h ij jn fits m =
    let es : List Pair = entries_of (node_of p) in
    let c : length es ≡ n = h.counted in
    let l1 : length (take i es) ≡ i = omega (arith, length-take i es) in
    let l2 : length (entries_in b) ≡ length b / 32 = length-map (cells 32 0 (length b / 32) b) entry_of ∙ length-cells 32 0 (length b / 32) b in
    let l3 : length (drop j es) ≡ n - j = omega (arith, length-drop j es) in
    leaf_is r _ _ _ m (omega (arith, length-append (take i es) (entries_in b ++ drop j es), length-append (entries_in b) (drop j es))) fits

-- a leaf whose link was written
pub leaf_linked : (p r : List ℕ) (n x : ℕ) → r ≡ pasted p 8 (word_bytes x) → length p ≡ 4096 → x < 2 ^ 64 → IsLeafOf p n → node_of r ≡ leaf (entries_of (node_of p)) x
leaf_linked p r n x er size fits h =
    let d = leaf_bytes p n h in
    let f : n ≤ 127 = d.fits in
    let q = pasted p 8 (word_bytes x) in
    let lb : length (word_bytes x) ≡ 8 = length-word_bytes x in
    let kind : get_or q 0 0 ≡ 1 = pasted-before p 8 (word_bytes x) 0 0 (omega arith) (omega arith) ∙ d.kind in
    let count : count_in_page q ≡ n = ap (λ (c : List ℕ). half_of c) (piece_apart 2 2 p 8 (word_bytes x) (omega arith) (inl (omega arith))) ∙ d.count in
    let row : cells 32 32 n q ≡ cells 32 32 n p = cells_apart 32 32 n p 8 (word_bytes x) (omega arith) (inr (omega arith)) in
    let next : word_of (piece 8 8 q) ≡ x = ap (λ (c : List ℕ). word_of c) (piece_within 8 0 p 8 (word_bytes x) (omega arith) (omega arith) ∙ take_all 8 (word_bytes x) (omega arith))
    ∙ word_back x fits in
    ap (λ (y : List ℕ). node_of y) er
    ∙ (leaf_made q n kind count f ∙ ap₂ (λ (es : List Pair) (y : ℕ). leaf es y) (ap (λ (y : List (List ℕ)). map entry_of y) row ∙ sym d.entries) next)

-- an inner page whose keys and children were spliced
pub inner_edit : (p kb cb q s r : List ℕ) (n i j a b : ℕ) → q ≡ spliced p (32 + 16 * i) (32 + 16 * j) (32 + 16 * n) kb → s ≡ spliced q (2736 + 8 * a) (2736 + 8 * b) (2744 + 8 * n) cb
    → r ≡ pasted s 2 (half_bytes (i + (length kb / 16 + (n - j)))) → length p ≡ 4096
    → IsInnerOf p n → i ≤ j → j ≤ n → a ≤ b → b ≤ n + 1 → length kb % 16 ≡ 0 → length cb % 8 ≡ 0 → i + (length kb / 16 + (n - j)) ≤ 169
    → a + (length cb / 8 + ((n + 1) - b)) ≡ i + (length kb / 16 + (n - j)) + 1
    → node_of r ≡ inner (take i (keys_of (node_of p)) ++ (keys_in kb ++ drop j (keys_of (node_of p)))) (take a (child_pages (node_of p)) ++ (children_in cb ++ drop b (child_pages (node_of p))))
inner_edit p kb cb q s r n i j a b eq es er size is ij jn ab bn kl cl fits one =
    let h = inner_bytes p n is in
    let f : n ≤ 169 = h.fits in
    let k : ℕ = n - j in
    let m : ℕ = length kb / 16 in
    let u : ℕ = length cb / 8 in
    let v : ℕ = suc n - b in
    let t : ℕ = i + (m + k) in
    let q' : List ℕ = spliced p (32 + 16 * i) (32 + 16 * j) (32 + 16 * n) kb in
    let s' : List ℕ = spliced q' (2736 + 8 * a) (2736 + 8 * b) (2744 + 8 * n) cb in
    let r' : List ℕ = pasted s' 2 (half_bytes t) in
    let lq : length q' ≡ length p = length-spliced p (32 + 16 * i) (32 + 16 * j) (32 + 16 * n) kb (omega arith) (omega arith) (omega arith) (omega arith) in
    let ls : length s' ≡ length q' = length-spliced q' (2736 + 8 * a) (2736 + 8 * b) (2744 + 8 * n) cb (omega arith) (omega arith) (omega arith) (omega arith) in
    let lh : length (half_bytes t) ≡ 2 = length-half_bytes t in
    let kind_q : piece 1 0 q' ≡ piece 1 0 p = piece_unspliced 1 0 p (32 + 16 * i) (32 + 16 * j) (32 + 16 * n) kb (omega arith) (omega arith) (omega arith) (omega arith) (inl (omega arith)) in
    let kind_s : piece 1 0 s' ≡ piece 1 0 q' = piece_unspliced 1 0 q' (2736 + 8 * a) (2736 + 8 * b) (2744 + 8 * n) cb (omega arith) (omega arith) (omega arith) (omega arith) (inl (omega arith)) in
    let kind_r : piece 1 0 r' ≡ piece 1 0 s' = piece_apart 1 0 s' 2 (half_bytes t) (omega arith) (inl (omega arith)) in
    let kind : get_or r' 0 0 ≡ 2 = first_byte r' p (kind_r ∙ (kind_s ∙ kind_q)) ∙ h.kind in
    let count : count_in_page r' ≡ t = ap (λ (c : List ℕ). half_of c) (piece_within 2 0 s' 2 (half_bytes t) (omega arith) (omega arith) ∙ take_all 2 (half_bytes t) (omega arith))
    ∙ half_back t (omega arith) in
    let kend : 32 + 16 * n ≡ (32 + 16 * j) + 16 * k = omega arith in
    let keys_row : cells 16 32 t r' ≡ cells 16 32 i p ++ (cells 16 0 m kb ++ cells 16 (32 + 16 * j) k p) =
    cells_apart 16 32 t s' 2 (half_bytes t) (omega arith) (inr (omega arith))
    ∙ (cells_unspliced 16 32 t q' (2736 + 8 * a) (2736 + 8 * b) (2744 + 8 * n) cb (omega arith) (omega arith) (omega arith) (omega arith) (inl (omega arith))
    ∙ (ap (λ (e : ℕ). cells 16 32 t (spliced p (32 + 16 * i) (32 + 16 * j) e kb)) kend
    ∙ cells_spliced 16 32 i j k m p kb ij (omega arith) (omega arith) (omega arith))) in
    let cend : 2744 + 8 * n ≡ (2736 + 8 * b) + 8 * v = omega arith in
    let cnum : suc t ≡ a + (u + v) = omega arith in
    let old_row : (x y : ℕ) → 2736 ≤ x → cells 8 x y q' ≡ cells 8 x y p =
    λ x y hx. cells_unspliced 8 x y p (32 + 16 * i) (32 + 16 * j) (32 + 16 * n) kb (omega arith) (omega arith) (omega arith) (omega arith) (inr (omega arith)) in
    let children_row : cells 8 2736 (suc t) r' ≡ cells 8 2736 a p ++ (cells 8 0 u cb ++ cells 8 (2736 + 8 * b) v p) =
    cells_apart 8 2736 (suc t) s' 2 (half_bytes t) (omega arith) (inr (omega arith))
    ∙ (ap₂ (λ (e x : ℕ). cells 8 2736 x (spliced q' (2736 + 8 * a) (2736 + 8 * b) e cb)) cend cnum
    ∙ (cells_spliced 8 2736 a b v u q' cb ab (omega arith) (omega arith) (omega arith)
    ∙ ap₂ (λ (x y : List (List ℕ)). x ++ (cells 8 0 u cb ++ y)) (old_row 2736 a (omega arith)) (old_row (2736 + 8 * b) v (omega arith)))) in
    let ii : i + (n - i) ≡ n = omega arith in
    let jj : j + (n - j) ≡ n = omega arith in
    let aa : a + (suc n - a) ≡ suc n = omega arith in
    let bb : b + (suc n - b) ≡ suc n = omega arith in
    let kh : map number_of (cells 16 32 i p) ≡ take i (keys_of (node_of p)) =
    sym (ap (λ (x : List ℕ). take i x) (h.keys ∙ ap (λ (x : ℕ). map number_of (cells 16 32 x p)) (sym ii))
    ∙ (take-map number_of i (cells 16 32 (i + (n - i)) p) ∙ ap (λ (x : List (List ℕ)). map number_of x) (cells-take 16 32 i (n - i) p))) in
    let kt : map number_of (cells 16 (32 + 16 * j) k p) ≡ drop j (keys_of (node_of p)) =
    sym (ap (λ (x : List ℕ). drop j x) (h.keys ∙ ap (λ (x : ℕ). map number_of (cells 16 32 x p)) (sym jj))
    ∙ (drop-map number_of j (cells 16 32 (j + (n - j)) p) ∙ ap (λ (x : List (List ℕ)). map number_of x) (cells-drop 16 32 j (n - j) p))) in
    let ch : map word_of (cells 8 2736 a p) ≡ take a (child_pages (node_of p)) =
    sym (ap (λ (x : List ℕ). take a x) (h.children ∙ ap (λ (x : ℕ). map word_of (cells 8 2736 x p)) (sym aa))
    ∙ (take-map word_of a (cells 8 2736 (a + (suc n - a)) p) ∙ ap (λ (x : List (List ℕ)). map word_of x) (cells-take 8 2736 a (suc n - a) p))) in
    let ct : map word_of (cells 8 (2736 + 8 * b) v p) ≡ drop b (child_pages (node_of p)) =
    sym (ap (λ (x : List ℕ). drop b x) (h.children ∙ ap (λ (x : ℕ). map word_of (cells 8 2736 x p)) (sym bb))
    ∙ (drop-map word_of b (cells 8 2736 (b + (suc n - b)) p) ∙ ap (λ (x : List (List ℕ)). map word_of x) (cells-drop 8 2736 b (suc n - b) p))) in
    let rr : r ≡ r' = er ∙ ap (λ (x : List ℕ). pasted x 2 (half_bytes t)) (es ∙ ap (λ (x : List ℕ). spliced x (2736 + 8 * a) (2736 + 8 * b) (2744 + 8 * n) cb) eq) in
    ap (λ (x : List ℕ). node_of x) rr
    ∙ (inner_made r' t kind count fits
    ∙ ap₂ (λ (x y : List ℕ). inner x y)
    (ap (λ (x : List (List ℕ)). map number_of x) keys_row ∙ (map-append number_of (cells 16 32 i p) (cells 16 0 m kb ++ cells 16 (32 + 16 * j) k p)
    ∙ ap₂ (λ (x y : List ℕ). x ++ y) kh (map-append number_of (cells 16 0 m kb) (cells 16 (32 + 16 * j) k p) ∙ ap (λ (y : List ℕ). map number_of (cells 16 0 m kb) ++ y) kt)))
    (ap (λ (x : List (List ℕ)). map word_of x) children_row ∙ (map-append word_of (cells 8 2736 a p) (cells 8 0 u cb ++ cells 8 (2736 + 8 * b) v p)
    ∙ ap₂ (λ (x y : List ℕ). x ++ y) ch (map-append word_of (cells 8 0 u cb) (cells 8 (2736 + 8 * b) v p) ∙ ap (λ (y : List ℕ). map word_of (cells 8 0 u cb) ++ y) ct))))
  where
    first_byte : (x y : List ℕ) → piece 1 0 x ≡ piece 1 0 y → get_or x 0 0 ≡ get_or y 0 0
    first_byte [] [] e = refl
    first_byte [] (y ∷ ys) e = absurd (cc)
    first_byte (x ∷ xs) [] e = absurd (cc)
    first_byte (x ∷ xs) (y ∷ ys) e = cc

pub inner_edit_is : (p kb cb r : List ℕ) (n i j a b : ℕ) → IsInnerOf p n → i ≤ j → j ≤ n → a ≤ b → b ≤ n + 1 → i + (length kb / 16 + (n - j)) ≤ 169
    → a + (length cb / 8 + ((n + 1) - b)) ≡ i + (length kb / 16 + (n - j)) + 1
    → node_of r ≡ inner (take i (keys_of (node_of p)) ++ (keys_in kb ++ drop j (keys_of (node_of p)))) (take a (child_pages (node_of p)) ++ (children_in cb ++ drop b (child_pages (node_of p))))
    → IsInnerOf r (i + (length kb / 16 + (n - j)))
inner_edit_is p kb cb r n i j a b h ij jn ab bn fits one m =
    let ks : List ℕ = keys_of (node_of p) in
    let cs : List ℕ = child_pages (node_of p) in
    let kc : length ks ≡ n = h.counted in
    let cc' : length cs ≡ n + 1 = h.children in
    let l1 : length (take i ks) ≡ i = omega (arith, length-take i ks) in
    let l2 : length (keys_in kb) ≡ length kb / 16 = length-map (cells 16 0 (length kb / 16) kb) number_of ∙ length-cells 16 0 (length kb / 16) kb in
    let l3 : length (drop j ks) ≡ n - j = omega (arith, length-drop j ks) in
    let l4 : length (take a cs) ≡ a = omega (arith, length-take a cs) in
    let l5 : length (children_in cb) ≡ length cb / 8 = length-map (cells 8 0 (length cb / 8) cb) word_of ∙ length-cells 8 0 (length cb / 8) cb in
    let l6 : length (drop b cs) ≡ (n + 1) - b = omega (arith, length-drop b cs) in
    inner_is r _ _ _ m (omega (arith, length-append (take i ks) (keys_in kb ++ drop j ks), length-append (keys_in kb) (drop j ks)))
    (omega (arith, length-append (take a cs) (children_in cb ++ drop b cs), length-append (children_in cb) (drop b cs))) fits

-- a page of zeros, made a leaf or an inner page
pub leaf_new : (r : List ℕ) → r ≡ pasted (replicate 4096 0) 0 (1 ∷ []) → node_of r ≡ leaf [] 0
unfolding word_of half_of
leaf_new r e = ap (λ (x : List ℕ). node_of x) e ∙ leaf_made (pasted (replicate 4096 0) 0 (1 ∷ [])) 0 refl refl (omega arith)

zero_count : half_of (piece 2 2 (pasted (replicate 4096 0) 0 (2 ∷ []))) ≡ 0
unfolding half_of
zero_count = refl

pub inner_new : (r : List ℕ) (x : ℕ) → r ≡ pasted (pasted (replicate 4096 0) 0 (2 ∷ [])) 2736 (word_bytes x) → x < 2 ^ 64 → node_of r ≡ inner [] (x ∷ [])
inner_new r x e fits =
    let z : List ℕ = pasted (replicate 4096 0) 0 (2 ∷ []) in
    let lz : length z ≡ 4096 = length-pasted (replicate 4096 0) 0 (2 ∷ []) (omega (arith, length-replicate {A = ℕ} 4096 0)) ∙ length-replicate {A = ℕ} 4096 0 in
    let lb : length (word_bytes x) ≡ 8 = length-word_bytes x in
    let q : List ℕ = pasted z 2736 (word_bytes x) in
    let kind : get_or q 0 0 ≡ 2 = pasted-before z 2736 (word_bytes x) 0 0 (omega arith) (omega arith) ∙ pasted-within (replicate 4096 0) 0 (2 ∷ []) 0 0 (omega arith) (omega arith) in
    let count : count_in_page q ≡ 0 = ap (λ (c : List ℕ). half_of c) (piece_apart 2 2 z 2736 (word_bytes x) (omega arith) (inl (omega arith))) ∙ zero_count in
    let child : word_of (piece 8 2736 q) ≡ x = ap (λ (c : List ℕ). word_of c) (piece_within 8 0 z 2736 (word_bytes x) (omega arith) (omega arith) ∙ take_all 8 (word_bytes x) (omega arith))
    ∙ word_back x fits in
    ap (λ (y : List ℕ). node_of y) e ∙ (inner_made q 0 kind count (omega arith) ∙ ap (λ (y : ℕ). inner [] (y ∷ [])) child)
