-- Entries written into bytes, and read back.
use Rattle.std.proofs.Common.{◌≡◌, ℕ, ◌+◌, ◌*◌, ◌/◌, ◌%◌, ◌^◌, ◌<◌, ◌≤◌, Bool, true, false, cond, eqb, leb, List, [], ◌∷◌, ◌++◌, length, get_or, take, map, refl, sym}
use Rattle.std.proofs.Common.{◌∙◌, ap, ap₂, subst, inl, inr, arith, take_all}
use Rattle.std.proofs.lemmas.Bool.Decides.{eqb_tells, leb_tells}
use Rattle.std.proofs.lemmas.List.{map-append, length-map, take_more, get_or-take}
use Rattle.sand_base.specs.declared.point.Point.{Point}
use Rattle.sand_base.specs.declared.rough.Rough.{Rough}
use Rattle.code_btree.specs.Bytes.{piece, cells, half_of, half_bytes, word_of, word_bytes, pasted}
use Rattle.code_btree.proofs.Pieces.{length-pasted, piece_apart, piece_within, piece_piece, pasted-before, pasted-within}
use Rattle.code_btree.proofs.Numbers.{half_back, length-half_bytes, word_back, length-word_bytes}
use Rattle.code_btree.proofs.Cells.{length-cells, cells-add, cells_apart}
use Rattle.r_tree.specs.declared.entry.NodeEntry.{NodeEntry}
use Rattle.r_tree.specs.Entry.{box_of, member_of, members_of}
use Rattle.r_tree.specs.Nodes.{branches_of}
use Rattle.r_tree.specs.Page.{node, rough_of_tag, point_of_halves, entry_from, node_entry, entry_count, page_entries, rtree_node}

abbrev point : ℕ → ℕ → Point
point x y = record { x = x; y = y }

point_is : (w : ℕ) (p : Point) → w ≡ p.x * 2 ^ 32 + p.y → p.y < 2 ^ 32 → point_of_halves w ≡ p
point_is w p e l =
    let a : w / 2 ^ 32 ≡ p.x = omega arith in
    let b : w % 2 ^ 32 ≡ p.y = omega arith in
    ap₂ point a b

-- the numbers of an entry, and the entry of them
pub entry_back : (tag : ℕ) (p q : Point) (id child w v k : ℕ) → w ≡ p.x * 2 ^ 32 + p.y → p.y < 2 ^ 32 → v ≡ q.x * 2 ^ 32 + q.y → q.y < 2 ^ 32 → k ≡ tag * 2 ^ 32 + id
    → id < 2 ^ 32 → entry_from w v k child ≡ record { rough = rough_of_tag tag p q; id = id; child = child }
unfolding entry_from
entry_back tag p q id child w v k e l f m g n =
    let a : k / 2 ^ 32 ≡ tag = omega arith in
    let b : k % 2 ^ 32 ≡ id = omega arith in
    let c : point_of_halves w ≡ p = point_is w p e l in
    let d : point_of_halves v ≡ q = point_is v q f m in
    rw (a, b, c, d)

-- eight bytes that were pasted, and those before them
word_put : (p : List ℕ) (at v : ℕ) → v < 2 ^ 64 → at + 8 ≤ length p → word_of (piece 8 at (pasted p at (word_bytes v))) ≡ v
word_put p at v l h =
    let len : length (word_bytes v) ≡ 8 = length-word_bytes v in
    let e : at + 0 ≡ at = omega arith in
    let whole : piece 8 0 (word_bytes v) ≡ word_bytes v = take_all 8 (word_bytes v) (omega arith) in
    ap (λ (i : ℕ). word_of (piece 8 i (pasted p at (word_bytes v)))) (sym e)
    ∙ (ap (λ (b : List ℕ). word_of b) (piece_within 8 0 p at (word_bytes v) (omega arith) (omega arith) ∙ whole) ∙ word_back v l)

word_past : (p : List ℕ) (a at v : ℕ) → a + 8 ≤ at → at + 8 ≤ length p → word_of (piece 8 a (pasted p at (word_bytes v))) ≡ word_of (piece 8 a p)
word_past p a at v l h = let len : length (word_bytes v) ≡ 8 = length-word_bytes v in ap (λ (b : List ℕ). word_of b) (piece_apart 8 a p at (word_bytes v) (omega arith) (inl l))

long : (p : List ℕ) (at v n : ℕ) → length p ≡ n → at + 8 ≤ n → length (pasted p at (word_bytes v)) ≡ n
long p at v n e h = let len : length (word_bytes v) ≡ 8 = length-word_bytes v in length-pasted p at (word_bytes v) (omega arith) ∙ e

pub cell_back : (z f1 f2 f3 f4 : List ℕ) (p q k c : ℕ) → length z ≡ 32 → p < 2 ^ 64 → q < 2 ^ 64 → k < 2 ^ 64 → c < 2 ^ 64 → f1 ≡ pasted z 0 (word_bytes p)
    → f2 ≡ pasted f1 8 (word_bytes q) → f3 ≡ pasted f2 16 (word_bytes k) → f4 ≡ pasted f3 24 (word_bytes c) → node_entry f4 ≡ entry_from p q k c
unfolding node_entry
cell_back z f1 f2 f3 f4 p q k c lz lp lq lk lc e1 e2 e3 e4 =
    let l1 : length f1 ≡ 32 = ap (λ (x : List ℕ). length x) e1 ∙ long z 0 p 32 lz (omega arith) in
    let l2 : length f2 ≡ 32 = ap (λ (x : List ℕ). length x) e2 ∙ long f1 8 q 32 l1 (omega arith) in
    let l3 : length f3 ≡ 32 = ap (λ (x : List ℕ). length x) e3 ∙ long f2 16 k 32 l2 (omega arith) in
    let at : (a : ℕ) (x y : List ℕ) → x ≡ y → word_of (piece 8 a x) ≡ word_of (piece 8 a y) = λ a x y e. ap (λ (b : List ℕ). word_of (piece 8 a b)) e in
    let w4 : (a : ℕ) → a + 8 ≤ 24 → word_of (piece 8 a f4) ≡ word_of (piece 8 a f3) = λ a h. at a f4 (pasted f3 24 (word_bytes c)) e4 ∙ word_past f3 a 24 c h (omega arith) in
    let w3 : (a : ℕ) → a + 8 ≤ 16 → word_of (piece 8 a f3) ≡ word_of (piece 8 a f2) = λ a h. at a f3 (pasted f2 16 (word_bytes k)) e3 ∙ word_past f2 a 16 k h (omega arith) in
    let w2 : (a : ℕ) → a + 8 ≤ 8 → word_of (piece 8 a f2) ≡ word_of (piece 8 a f1) = λ a h. at a f2 (pasted f1 8 (word_bytes q)) e2 ∙ word_past f1 a 8 q h (omega arith) in
    let a0 : word_of (piece 8 0 f4) ≡ p = w4 0 (omega arith) ∙ (w3 0 (omega arith) ∙ (w2 0 (omega arith) ∙ (at 0 f1 (pasted z 0 (word_bytes p)) e1 ∙ word_put z 0 p lp (omega arith)))) in
    let a1 : word_of (piece 8 8 f4) ≡ q = w4 8 (omega arith) ∙ (w3 8 (omega arith) ∙ (at 8 f2 (pasted f1 8 (word_bytes q)) e2 ∙ word_put f1 8 q lq (omega arith))) in
    let a2 : word_of (piece 8 16 f4) ≡ k = w4 16 (omega arith) ∙ (at 16 f3 (pasted f2 16 (word_bytes k)) e3 ∙ word_put f2 16 k lk (omega arith)) in
    let a3 : word_of (piece 8 24 f4) ≡ c = at 24 f4 (pasted f3 24 (word_bytes c)) e4 ∙ word_put f3 24 c lc (omega arith) in
    ap (λ (x : ℕ). entry_from x (word_of (piece 8 8 f4)) (word_of (piece 8 16 f4)) (word_of (piece 8 24 f4))) a0
    ∙ (ap (λ (x : ℕ). entry_from p x (word_of (piece 8 16 f4)) (word_of (piece 8 24 f4))) a1
    ∙ (ap (λ (x : ℕ). entry_from p q x (word_of (piece 8 24 f4))) a2 ∙ ap (λ (x : ℕ). entry_from p q k x) a3))

pub cell_long : (z f1 f2 f3 f4 : List ℕ) (p q k c : ℕ) → length z ≡ 32 → f1 ≡ pasted z 0 (word_bytes p) → f2 ≡ pasted f1 8 (word_bytes q)
    → f3 ≡ pasted f2 16 (word_bytes k) → f4 ≡ pasted f3 24 (word_bytes c) → length f4 ≡ 32
cell_long z f1 f2 f3 f4 p q k c lz e1 e2 e3 e4 =
    let l1 : length f1 ≡ 32 = ap (λ (x : List ℕ). length x) e1 ∙ long z 0 p 32 lz (omega arith) in
    let l2 : length f2 ≡ 32 = ap (λ (x : List ℕ). length x) e2 ∙ long f1 8 q 32 l1 (omega arith) in
    let l3 : length f3 ≡ 32 = ap (λ (x : List ℕ). length x) e3 ∙ long f2 16 k 32 l2 (omega arith) in
    ap (λ (x : List ℕ). length x) e4 ∙ long f3 24 c 32 l3 (omega arith)

-- the entry in 32 bytes of a page, by its words
pub entry_read : (p : List ℕ) (at a b c d : ℕ) → at + 32 ≤ length p → a ≡ word_of (piece 8 at p) → b ≡ word_of (piece 8 (at + 8) p) → c ≡ word_of (piece 8 (at + 16) p)
    → d ≡ word_of (piece 8 (at + 24) p) → entry_from a b c d ≡ node_entry (piece 32 at p)
unfolding node_entry
entry_read p at a b c d h ea eb ec ed =
    let e : at + 0 ≡ at = omega arith in
    let wa : a ≡ word_of (piece 8 0 (piece 32 at p)) = ea ∙ sym (ap (λ (x : List ℕ). word_of x) (piece_piece 8 0 32 at p h (omega arith) ∙ ap (λ (i : ℕ). piece 8 i p) e)) in
    let wb : b ≡ word_of (piece 8 8 (piece 32 at p)) = eb ∙ sym (ap (λ (x : List ℕ). word_of x) (piece_piece 8 8 32 at p h (omega arith))) in
    let wc : c ≡ word_of (piece 8 16 (piece 32 at p)) = ec ∙ sym (ap (λ (x : List ℕ). word_of x) (piece_piece 8 16 32 at p h (omega arith))) in
    let wd : d ≡ word_of (piece 8 24 (piece 32 at p)) = ed ∙ sym (ap (λ (x : List ℕ). word_of x) (piece_piece 8 24 32 at p h (omega arith))) in
    ap (λ (x : ℕ). entry_from x b c d) wa
    ∙ (ap (λ (x : ℕ). entry_from (word_of (piece 8 0 (piece 32 at p))) x c d) wb
    ∙ (ap (λ (x : ℕ). entry_from (word_of (piece 8 0 (piece 32 at p))) (word_of (piece 8 8 (piece 32 at p))) x d) wc
    ∙ ap (λ (x : ℕ). entry_from (word_of (piece 8 0 (piece 32 at p))) (word_of (piece 8 8 (piece 32 at p))) (word_of (piece 8 16 (piece 32 at p))) x) wd))

-- one entry more, read
pub entries_read_more : (p : List ℕ) (i : ℕ) → page_entries (i + 1) p ≡ page_entries i p ++ node_entry (piece 32 (32 + 32 * i) p) ∷ []
entries_read_more p i = ap (λ (cs : List (List ℕ)). map node_entry cs) (cells-add 32 32 i 1 p) ∙ map-append node_entry (cells 32 32 i p) (cells 32 (32 + 32 * i) 1 p)

-- one member more, read
pub members_read_more : (p : List ℕ) (i : ℕ) → members_of (page_entries (i + 1) p) ≡ members_of (page_entries i p) ++ member_of (node_entry (piece 32 (32 + 32 * i) p)) ∷ []
members_read_more p i = ap (λ (es : List NodeEntry). members_of es) (entries_read_more p i) ∙ map-append member_of (page_entries i p) (node_entry (piece 32 (32 + 32 * i) p) ∷ [])

-- one branch more, read
pub branches_read_more : (p : List ℕ) (i : ℕ) → branches_of (page_entries (i + 1) p)
    ≡ branches_of (page_entries i p) ++ (box_of (node_entry (piece 32 (32 + 32 * i) p)).rough, (node_entry (piece 32 (32 + 32 * i) p)).child) ∷ []
branches_read_more p i = ap (λ (es : List NodeEntry). branches_of es) (entries_read_more p i)
    ∙ map-append (λ (e : NodeEntry). (box_of e.rough, e.child)) (page_entries i p) (node_entry (piece 32 (32 + 32 * i) p) ∷ [])

-- one entry more, written
pub record Written (p z : List ℕ) (es : List NodeEntry) (i : ℕ) : Type 0 where
  pub entries : page_entries i p ≡ take i es
  pub head : piece 32 0 p ≡ piece 32 0 z
  pub size : length p ≡ 4096

pub written_more : (p q z cell : List ℕ) (es : List NodeEntry) (i : ℕ) (d : NodeEntry) → i < length es → length es ≤ 126 → length cell ≡ 32
    → node_entry cell ≡ get_or es i d → q ≡ pasted p (32 + 32 * i) cell → Written p z es i → Written q z es (i + 1)
written_more p q z cell es i d lt few lc ec eq w =
    let fits : (32 + 32 * i) + length cell ≤ length p = omega (arith, w.size) in
    let f : pasted p (32 + 32 * i) cell ≡ q = sym eq in
    let zero_off : (32 + 32 * i) + 0 ≡ 32 + 32 * i = omega arith in
    let whole : piece 32 0 cell ≡ cell = take_all 32 cell (omega arith) in
    let own : piece 32 (32 + 32 * i) (pasted p (32 + 32 * i) cell) ≡ cell = ap (λ (j : ℕ). piece 32 j (pasted p (32 + 32 * i) cell)) (sym zero_off)
    ∙ (piece_within 32 0 p (32 + 32 * i) cell fits (omega arith) ∙ whole) in
    let before : page_entries i (pasted p (32 + 32 * i) cell) ≡ page_entries i p = ap (λ (cs : List (List ℕ)). map node_entry cs) (cells_apart 32 32 i p (32 + 32 * i) cell fits (inl (omega arith))) in
    let all : page_entries (i + 1) (pasted p (32 + 32 * i) cell) ≡ take (i + 1) es = entries_read_more (pasted p (32 + 32 * i) cell) i
    ∙ (ap₂ (λ (x : List NodeEntry) (y : NodeEntry). x ++ y ∷ []) (before ∙ w.entries) (ap (λ (x : List ℕ). node_entry x) own ∙ ec) ∙ sym (take_more es i d lt)) in
    let P : List ℕ → Type 0 = λ x. Written x z es (i + 1) in
    subst P f (record { entries = all; head = piece_apart 32 0 p (32 + 32 * i) cell fits (inl (omega arith)) ∙ w.head; size = length-pasted p (32 + 32 * i) cell fits ∙ w.size })

-- byte 0 and the count tell which node the bytes are
pub node_made : (p : List ℕ) (n k : ℕ) (inner : Bool) → k ≡ cond inner 5 4 → get_or p 0 0 ≡ k → entry_count p ≡ n → n ≤ 126 → rtree_node p ≡ node inner (page_entries n p)
unfolding rtree_node
node_made p n k true ek e c l =
    let not_leaf : eqb (get_or p 0 0) 4 ≡ false = elim (eqb_tells (get_or p 0 0) 4) [ inl t ↦ absurd (omega (arith, t.1)) | inr t ↦ t.0 ] in
    let is_five : eqb (get_or p 0 0) 5 ≡ true = elim (eqb_tells (get_or p 0 0) 5) [ inl t ↦ t.0 | inr t ↦ absurd (t.1 (e ∙ ek)) ] in
    let few : leb (entry_count p) 126 ≡ true = elim (leb_tells (entry_count p) 126) [ inl t ↦ t.0 | inr t ↦ absurd (omega (arith, t.1)) ] in
    rw (not_leaf, is_five, few) (ap (λ (i : ℕ). node true (page_entries i p)) c)
node_made p n k false ek e c l =
    let is_four : eqb (get_or p 0 0) 4 ≡ true = elim (eqb_tells (get_or p 0 0) 4) [ inl t ↦ t.0 | inr t ↦ absurd (t.1 (e ∙ ek)) ] in
    let few : leb (entry_count p) 126 ≡ true = elim (leb_tells (entry_count p) 126) [ inl t ↦ t.0 | inr t ↦ absurd (omega (arith, t.1)) ] in
    rw (is_four, few) (ap (λ (i : ℕ). node false (page_entries i p)) c)

-- the head of a page is in its first 32 bytes
head_byte : (p q : List ℕ) → piece 32 0 p ≡ piece 32 0 q → get_or p 0 0 ≡ get_or q 0 0
head_byte p q h = sym (get_or-take 32 p 0 0 (omega arith)) ∙ (ap (λ (x : List ℕ). get_or x 0 0) h ∙ get_or-take 32 q 0 0 (omega arith))

head_count : (p q : List ℕ) → length p ≡ 4096 → length q ≡ 4096 → piece 32 0 p ≡ piece 32 0 q → entry_count p ≡ entry_count q
head_count p q lp lq h = ap (λ (x : List ℕ). half_of x) (sym (piece_piece 2 2 32 0 p (omega arith) (omega arith))
    ∙ (ap (λ (x : List ℕ). piece 2 2 x) h ∙ piece_piece 2 2 32 0 q (omega arith) (omega arith)))

-- a page whose head was written before its entries
pub node_written : (z h f : List ℕ) (es : List NodeEntry) (n k : ℕ) (inner : Bool) → length z ≡ 4096 → length f ≡ 4096 → n < 2 ^ 16 → n ≡ length es → length es ≤ 126
    → k ≡ cond inner 5 4 → get_or z 0 0 ≡ k → h ≡ pasted z 2 (half_bytes n) → piece 32 0 f ≡ piece 32 0 h
    → page_entries (length es) f ≡ es → rtree_node f ≡ node inner es
node_written z h f es n k inner lz lf small en few ek e eh head all =
    let len : length (half_bytes n) ≡ 2 = length-half_bytes n in
    let lh : length h ≡ 4096 = ap (λ (x : List ℕ). length x) eh ∙ (length-pasted z 2 (half_bytes n) (omega arith) ∙ lz) in
    let byte : get_or f 0 0 ≡ k = head_byte f h head ∙ (ap (λ (x : List ℕ). get_or x 0 0) eh ∙ (pasted-before z 2 (half_bytes n) 0 0 (omega arith) (omega arith) ∙ e)) in
    let whole : piece 2 0 (half_bytes n) ≡ half_bytes n = take_all 2 (half_bytes n) (omega arith) in
    let two : 2 + 0 ≡ 2 = omega arith in
    let count : entry_count f ≡ length es = head_count f h lf lh head
    ∙ (ap (λ (x : List ℕ). half_of (piece 2 2 x)) eh ∙ (ap (λ (x : List ℕ). half_of x) (piece_within 2 0 z 2 (half_bytes n) (omega arith) (omega arith) ∙ whole) ∙ (half_back n small ∙ en))) in
    node_made f (length es) k inner ek byte count few ∙ ap (λ (x : List NodeEntry). node inner x) all

-- the byte that was pasted in front
pub head_put : (p f : List ℕ) (k : ℕ) → 1 ≤ length p → f ≡ pasted p 0 (k ∷ []) → get_or f 0 0 ≡ k
head_put p f k h e = ap (λ (x : List ℕ). get_or x 0 0) e ∙ pasted-within p 0 (k ∷ []) 0 0 (omega arith) (omega arith)

pub head_long : (p f : List ℕ) (k : ℕ) → length p ≡ 4096 → f ≡ pasted p 0 (k ∷ []) → length f ≡ 4096
head_long p f k h e = ap (λ (x : List ℕ). length x) e ∙ (length-pasted p 0 (k ∷ []) (omega arith) ∙ h)

pub written_none : (p : List ℕ) (es : List NodeEntry) → length p ≡ 4096 → Written p p es 0
written_none p es h = record { entries = refl; head = refl; size = h }

pub written_all : (p z : List ℕ) (es : List NodeEntry) (i : ℕ) → length es ≤ i → i ≤ length es → Written p z es i → page_entries (length es) p ≡ es
written_all p z es i l k w =
    let e : i ≡ length es = omega arith in
    let P : ℕ → Type 0 = λ x. page_entries x p ≡ take x es in
    subst P e w.entries ∙ take_all (length es) es (omega arith)

-- an entry of these parts
abbrev pub entry_with : Rough → ℕ → ℕ → NodeEntry
entry_with r id child = record { rough = r; id = id; child = child }

-- the entries of a page are as many as were asked for
pub length-page_entries : (n : ℕ) (p : List ℕ) → length (page_entries n p) ≡ n
length-page_entries n p = length-map (cells 32 32 n p) node_entry ∙ length-cells 32 32 n p
