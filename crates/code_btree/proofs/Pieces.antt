-- What the pieces and the cells of a page are after a paste.
use Rattle.std.proofs.Common.{◌≡◌, ℕ, suc, ◌+◌, ◌-◌, ◌<◌, ◌≤◌, ◌⊎◌, List, ◌++◌, length, get_or, take, drop, refl, sym, ◌∙◌, ap, inl, inr, arith, length-append}
use Rattle.std.proofs.Common.{length-drop, length-take, get_or-drop, get_or-take}
use Rattle.std.proofs.lemmas.List.{same_lists, get_or_append_left, get_or-append_right}
use Rattle.std.proofs.lemmas.Bool.Decides.{leb_tells}
use Rattle.code_btree.specs.Bytes.{piece, pasted}

pub length-piece : (w at : ℕ) (p : List ℕ) → at + w ≤ length p → length (piece w at p) ≡ w
length-piece w at p h = simp (length-take, length-drop) (omega arith)

pub length-pasted : (p : List ℕ) (at : ℕ) (b : List ℕ) → at + length b ≤ length p → length (pasted p at b) ≡ length p
length-pasted p at b h = simp (length-append, length-take, length-drop) (omega arith)

pub pasted-before : (p : List ℕ) (at : ℕ) (b : List ℕ) (k d : ℕ) → at ≤ length p → k < at → get_or (pasted p at b) k d ≡ get_or p k d
pasted-before p at b k d h l =
    let long : k < length (take at p) = simp length-take (omega arith) in
    get_or_append_left (take at p) (b ++ drop (at + length b) p) d k long ∙ get_or-take at p k d l

pub pasted-within : (p : List ℕ) (at : ℕ) (b : List ℕ) (k d : ℕ) → at ≤ length p → k < length b → get_or (pasted p at b) (at + k) d ≡ get_or b k d
pasted-within p at b k d h l =
    let long : length (take at p) ≡ at = simp length-take (omega arith) in
    let off : (at + k) - at ≡ k = omega arith in
    get_or-append_right (take at p) (b ++ drop (at + length b) p) at (at + k) d long (omega arith)
    ∙ (ap (λ i. get_or (b ++ drop (at + length b) p) i d) off ∙ get_or_append_left b (drop (at + length b) p) d k l)

pub pasted-behind : (p : List ℕ) (at : ℕ) (b : List ℕ) (k d : ℕ) → at + length b ≤ length p → at + length b ≤ k → get_or (pasted p at b) k d ≡ get_or p k d
pasted-behind p at b k d h l =
    let long : length (take at p) ≡ at = simp length-take (omega arith) in
    let off : (at + length b) + ((k - at) - length b) ≡ k = omega arith in
    get_or-append_right (take at p) (b ++ drop (at + length b) p) at k d long (omega arith)
    ∙ (get_or-append_right b (drop (at + length b) p) (length b) (k - at) d refl (omega arith)
    ∙ (get_or-drop (at + length b) p ((k - at) - length b) d ∙ ap (λ i. get_or p i d) off))

-- a piece that a paste does not meet
pub piece_apart : (w a : ℕ) (p : List ℕ) (at : ℕ) (b : List ℕ) → at + length b ≤ length p → (a + w ≤ at) ⊎ (at + length b ≤ a)
    → piece w a (pasted p at b) ≡ piece w a p
piece_apart w a p at b h s =
    same_lists _ _ (simp (length-take, length-drop, length-pasted p at b h))
    (λ k d l.
    let short : k < w = omega (arith, length-take w (drop a (pasted p at b))) in
    let back : get_or (piece w a p) k d ≡ get_or p (a + k) d = get_or-take w (drop a p) k d short ∙ get_or-drop a p k d in
    let forth : get_or (piece w a (pasted p at b)) k d ≡ get_or (pasted p at b) (a + k) d = get_or-take w (drop a (pasted p at b)) k d short ∙ get_or-drop a (pasted p at b) k d in
    forth ∙ ((elim s [ inl before ↦ pasted-before p at b (a + k) d (omega arith) (omega arith) | inr behind ↦ pasted-behind p at b (a + k) d h (omega arith) ]) ∙ sym back))

-- a piece within what was pasted
pub piece_within : (w i : ℕ) (p : List ℕ) (at : ℕ) (b : List ℕ) → at + length b ≤ length p → i + w ≤ length b
    → piece w (at + i) (pasted p at b) ≡ piece w i b
piece_within w i p at b h s =
    same_lists _ _ (simp (length-take, length-drop, length-pasted p at b h) (omega arith))
    (λ k d l.
    let short : k < w = omega (arith, length-take w (drop (at + i) (pasted p at b))) in
    let back : get_or (piece w i b) k d ≡ get_or b (i + k) d = get_or-take w (drop i b) k d short ∙ get_or-drop i b k d in
    let forth : get_or (piece w (at + i) (pasted p at b)) k d ≡ get_or (pasted p at b) ((at + i) + k) d =
    get_or-take w (drop (at + i) (pasted p at b)) k d short ∙ get_or-drop (at + i) (pasted p at b) k d in
    let same : (at + i) + k ≡ at + (i + k) = omega arith in
    forth ∙ (ap (λ j. get_or (pasted p at b) j d) same ∙ (pasted-within p at b (i + k) d (omega arith) (omega arith) ∙ sym back)))

-- a piece of a piece
pub piece_piece : (w i n at : ℕ) (p : List ℕ) → at + n ≤ length p → i + w ≤ n → piece w i (piece n at p) ≡ piece w (at + i) p
piece_piece w i n at p h s =
    same_lists _ _ (simp (length-take, length-drop) (omega arith))
    (λ k d l.
    let short : k < w = omega (arith, length-take w (drop i (piece n at p))) in
    let back : get_or (piece w (at + i) p) k d ≡ get_or p ((at + i) + k) d = get_or-take w (drop (at + i) p) k d short ∙ get_or-drop (at + i) p k d in
    let forth : get_or (piece w i (piece n at p)) k d ≡ get_or (piece n at p) (i + k) d = get_or-take w (drop i (piece n at p)) k d short ∙ get_or-drop i (piece n at p) k d in
    let deep : get_or (piece n at p) (i + k) d ≡ get_or p (at + (i + k)) d = get_or-take n (drop at p) (i + k) d (omega arith) ∙ get_or-drop at p (i + k) d in
    let same : at + (i + k) ≡ (at + i) + k = omega arith in
    forth ∙ (deep ∙ (ap (λ j. get_or p j d) same ∙ sym back)))

-- two pastes side by side are one
pub pasted_twice : (p : List ℕ) (at : ℕ) (a b : List ℕ) → at + (length a + length b) ≤ length p → pasted (pasted p at a) (at + length a) b ≡ pasted p at (a ++ b)
pasted_twice p at a b h =
    let first : length (pasted p at a) ≡ length p = length-pasted p at a (omega arith) in
    let both : length (a ++ b) ≡ length a + length b = length-append a b in
    let left : length (pasted (pasted p at a) (at + length a) b) ≡ length p = length-pasted (pasted p at a) (at + length a) b (omega arith) ∙ first in
    let right : length (pasted p at (a ++ b)) ≡ length p = length-pasted p at (a ++ b) (omega arith) in
    same_lists _ _ (left ∙ sym right) (λ k d l.
    elim (leb_tells (suc k) at) [
      | inl x ↦ pasted-before (pasted p at a) (at + length a) b k d (omega arith) (omega arith) ∙ (pasted-before p at a k d (omega arith) x.1 ∙ sym (pasted-before p at (a ++ b) k d (omega arith) x.1))
      | inr x ↦ elim (leb_tells (suc k) (at + length a)) [
        | inl y ↦
            let e : at + (k - at) ≡ k = omega arith in
            let goal_a : get_or (pasted p at a) k d ≡ get_or a (k - at) d = ap (λ (j : ℕ). get_or (pasted p at a) j d) (sym e) ∙ pasted-within p at a (k - at) d (omega arith) (omega arith) in
            let goal_b : get_or (pasted p at (a ++ b)) k d ≡ get_or (a ++ b) (k - at) d = ap (λ (j : ℕ). get_or (pasted p at (a ++ b)) j d) (sym e)
            ∙ pasted-within p at (a ++ b) (k - at) d (omega arith) (omega arith) in
            pasted-before (pasted p at a) (at + length a) b k d (omega arith) y.1 ∙ (goal_a ∙ sym (goal_b ∙ get_or_append_left a b d (k - at) (omega arith)))
        | inr y ↦ elim (leb_tells (suc k) (at + (length a + length b))) [
          | inl z ↦
              let e : (at + length a) + (k - (at + length a)) ≡ k = omega arith in
              let f : at + (k - at) ≡ k = omega arith in
              let g : (k - at) - length a ≡ k - (at + length a) = omega arith in
              let goal_b : get_or (pasted p at (a ++ b)) k d ≡ get_or (a ++ b) (k - at) d = ap (λ (j : ℕ). get_or (pasted p at (a ++ b)) j d) (sym f)
              ∙ pasted-within p at (a ++ b) (k - at) d (omega arith) (omega arith) in
              ap (λ (j : ℕ). get_or (pasted (pasted p at a) (at + length a) b) j d) (sym e) ∙ (pasted-within (pasted p at a) (at + length a) b (k - (at + length a)) d (omega arith) (omega arith)
              ∙ sym (goal_b ∙ (get_or-append_right a b (length a) (k - at) d refl (omega arith) ∙ ap (λ (j : ℕ). get_or b j d) g)))
          | inr z ↦ pasted-behind (pasted p at a) (at + length a) b k d (omega arith) (omega arith)
              ∙ (pasted-behind p at a k d (omega arith) (omega arith) ∙ sym (pasted-behind p at (a ++ b) k d (omega arith) (omega arith)))
        ]
      ]
    ])
