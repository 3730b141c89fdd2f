-- Two neighbours that were joined, or that shared, in the row of their parent.
use Rattle.std.proofs.Common.{◌≡◌, ℕ, zero, suc, ◌+◌, ◌-◌, ◌<◌, ◌≤◌, List, [], ◌∷◌, ◌++◌, length, get_or, take, drop, map, refl, sym, ◌∙◌, ap, ap₂}
use Rattle.std.proofs.Common.{subst, arith, append_assoc, length-append}
use Rattle.std.specs.Prelude.{Option, None, Some}
use Rattle.std.proofs.lemmas.List.{map-append, length-map}
use Rattle.code_btree.specs.declared.remove.Shrunk.{Shrunk}
use Rattle.code_btree.specs.Node.{Pair, Node, node_of, keys_of, child_pages, size_of}
use Rattle.code_btree.specs.Items.{Each}
use Rattle.code_btree.specs.Tree.{Store, node, items, all_items, first_key, least, Owns, few, Sound, Filled}
use Rattle.code_btree.specs.Steps.{Change, Alters, alter, Subtree}
use Rattle.code_btree.specs.Removals.{Neighbours, Balances, left_over, or_least, RemovesUnder, noted_keys, mended_keys, mended_children}
use Rattle.code_btree.proofs.Lists.{Each-append, Each-left, Each-right}
use Rattle.code_btree.proofs.Orders.{alter_middle}
use Rattle.code_btree.proofs.Moves.{Stays, row_least, row_full, left_stays, right_stays, widen, widen-items, items-three, pages-three}
use Rattle.code_btree.proofs.Seps.{seps_same, seps_set, seps_merge, sep_behind}
use Rattle.code_btree.proofs.Rises.{Descent, row_left, row_right, filled_some, first_key-append, one_items}
use Rattle.code_btree.proofs.Joins.{last_apart}

pub few_some : (h : ℕ) → 63 ≤ few h
few_some zero = omega arith
few_some (suc h) = omega arith

kids_items : (m : Store) (h : ℕ) (cs : List ℕ) → 1 ≤ length cs → Each (λ c. Filled m h c) cs → 1 ≤ length (all_items m h cs)
kids_items m h [] l e = absurd (omega arith)
kids_items m h (c ∷ cs) l e = omega (arith, filled_some m h c e.0, length-append (items m h c) (all_items m h cs))

-- a sound tree whose top isn't empty has a pair
pub sound_some : (m : Store) (h n : ℕ) → Sound m h n → 1 ≤ size_of (node m n) → 1 ≤ length (items m h n)
sound_some m zero n s l = omega (arith, l, ap (λ (o : Node). size_of o) s.is_leaf)
sound_some m (suc h) n s l = kids_items m h (child_pages (node m n)) s.0.some s.1

-- the child has pairs still
child_some : (m w : Store) (h c k : ℕ) (s : Shrunk) → Filled m h c → RemovesUnder m w h c k s → 1 ≤ length (items w h c)
child_some m w h c k s f r = sound_some w h c r.alters.change.sound.0 (omega (arith, few_some h, f.1, r.lost))

-- keys between children, noted
noted_seps : (o : Option ℕ) (fs gs : List ℕ) (a b : ℕ) → b ≡ or_least o a → noted_keys (length fs) o (drop 1 (fs ++ (a ∷ gs))) ≡ drop 1 (fs ++ (b ∷ gs))
noted_seps None fs gs a b e = seps_same fs gs a b (λ l. e)
noted_seps (Some k) [] gs a b e = refl
noted_seps (Some k) (f ∷ fs) gs a b e =
    let ks : List ℕ = fs ++ (a ∷ gs) in
    let i : suc (length fs) - 1 ≡ length fs = omega arith in
    ap (λ (j : ℕ). take j ks ++ ((k ∷ []) ++ drop (suc (length fs)) ks)) (sym i)
    ∙ (ap (λ (x : ℕ). take (suc (length fs) - 1) ks ++ ((x ∷ []) ++ drop (suc (length fs)) ks)) (sym e) ∙ seps_set (f ∷ fs) gs a b (omega arith))

pub noted : (m w : Store) (h k : ℕ) (xs : List ℕ) (c : ℕ) (ys : List ℕ) (s : Shrunk) (ks : List ℕ) → Descent m h k xs c ys → RemovesUnder m w h c k s
    → ks ≡ drop 1 (map (λ x. least m h x) (xs ++ (c ∷ ys)))
    → noted_keys (length xs) s.least ks ≡ drop 1 (map (λ x. least w h x) (xs ++ (c ∷ ys)))
noted m w h k xs c ys s ks d r e =
    let fs : List ℕ = map (λ x. least m h x) xs in
    let gs : List ℕ = map (λ x. least m h x) ys in
    let lf : length fs ≡ length xs = length-map xs (λ x. least m h x) in
    let mapped_m : map (λ x. least m h x) (xs ++ (c ∷ ys)) ≡ fs ++ (least m h c ∷ gs) = map-append (λ x. least m h x) xs (c ∷ ys) in
    let mapped_w : map (λ x. least w h x) (xs ++ (c ∷ ys)) ≡ fs ++ (least w h c ∷ gs) =
    map-append (λ x. least w h x) xs (c ∷ ys)
    ∙ ap₂ (λ (x y : List ℕ). x ++ (least w h c ∷ y)) (row_least m w h xs (row_left m w h k xs c ys (c ∷ []) [] s.was d r.alters))
    (row_least m w h ys (row_right m w h k xs c ys (c ∷ []) [] s.was d r.alters)) in
    ap₂ (λ (i : ℕ) (x : List ℕ). noted_keys i s.least x) (sym lf) (e ∙ ap (λ (x : List ℕ). drop 1 x) mapped_m)
    ∙ (noted_seps s.least fs gs (least m h c) (least w h c) (r.least_key d.filled.1) ∙ ap (λ (x : List ℕ). drop 1 x) (sym mapped_w))

-- the least key under the page above
pub least_up : (m w v : Store) (h n k : ℕ) (xs : List ℕ) (c : ℕ) (ys : List ℕ) (s : Shrunk) (o : Option ℕ) → child_pages (node m n) ≡ xs ++ (c ∷ ys) → Descent m h k xs c ys → RemovesUnder m w h c k s
    → items v (suc h) n ≡ alter k [] (items m (suc h) n) → (length xs ≡ 0 → o ≡ s.least) → (1 ≤ length xs → o ≡ None) → least v (suc h) n ≡ or_least o (least m (suc h) n)
least_up m w v h n k xs c ys s o e d r i first behind =
    let all : items m (suc h) n ≡ all_items m h xs ++ (all_items m h (c ∷ []) ++ all_items m h ys) = ap (λ (cs : List ℕ). all_items m h cs) e ∙ items-three m h xs (c ∷ []) ys in
    let new : items v (suc h) n ≡ all_items m h xs ++ (all_items w h (c ∷ []) ++ all_items m h ys) =
    i ∙ (ap (λ (es : List Pair). alter k [] es) all
    ∙ (alter_middle k [] (all_items m h xs) (all_items m h (c ∷ [])) (all_items m h ys) d.below d.above
    ∙ ap (λ (es : List Pair). all_items m h xs ++ (es ++ all_items m h ys)) (sym r.alters.items))) in
    go xs d.left all new first behind
  where
    go : (zs : List ℕ) → Each (λ x. Filled m h x) zs → items m (suc h) n ≡ all_items m h zs ++ (all_items m h (c ∷ []) ++ all_items m h ys)
        → items v (suc h) n ≡ all_items m h zs ++ (all_items w h (c ∷ []) ++ all_items m h ys)
        → (length zs ≡ 0 → o ≡ s.least) → (1 ≤ length zs → o ≡ None) → least v (suc h) n ≡ or_least o (least m (suc h) n)
    go [] f all new first behind =
        let old_first : least m (suc h) n ≡ least m h c =
        ap (λ (es : List Pair). first_key es) all
        ∙ (ap (λ (es : List Pair). first_key (es ++ all_items m h ys)) (one_items m h c) ∙ first_key-append (items m h c) (all_items m h ys) (filled_some m h c d.filled)) in
        let new_first : least v (suc h) n ≡ least w h c =
        ap (λ (es : List Pair). first_key es) new
        ∙ (ap (λ (es : List Pair). first_key (es ++ all_items m h ys)) (one_items w h c) ∙ first_key-append (items w h c) (all_items m h ys) (child_some m w h c k s d.filled r)) in
        new_first ∙ (r.least_key d.filled.1 ∙ ap₂ (λ (x : Option ℕ) (y : ℕ). or_least x y) (sym (first refl)) (sym old_first))
    go (z ∷ zs) f all new first behind =
        let some : 1 ≤ length (all_items m h (z ∷ zs)) = kids_items m h (z ∷ zs) (omega arith) f in
        ap (λ (es : List Pair). first_key es) new
        ∙ (first_key-append (all_items m h (z ∷ zs)) (all_items w h (c ∷ []) ++ all_items m h ys) some
        ∙ (sym (first_key-append (all_items m h (z ∷ zs)) (all_items m h (c ∷ []) ++ all_items m h ys) some)
        ∙ (ap (λ (es : List Pair). first_key es) (sym all) ∙ ap (λ (x : Option ℕ). or_least x (least m (suc h) n)) (sym (behind (omega arith))))))

-- the child and its neighbour in the row
pub record Beside (w : Store) (h j : ℕ) (cs : List ℕ) : Type 0 where
  pub us : List ℕ
  pub a : ℕ
  pub b : ℕ
  pub vs : List ℕ
  pub whole : cs ≡ us ++ (a ∷ (b ∷ vs))
  pub place : length us ≡ j
  pub left : Each (λ x. few h ≤ size_of (node w x)) us
  pub right : Each (λ x. few h ≤ size_of (node w x)) vs
  pub size : few h ≤ size_of (node w a) + 1
  pub right_size : few h ≤ size_of (node w b) + 1

pub beside : (w : Store) (h j : ℕ) (xs : List ℕ) (c : ℕ) (ys : List ℕ) → Each (λ x. few h ≤ size_of (node w x)) xs → Each (λ x. few h ≤ size_of (node w x)) ys
    → few h ≤ size_of (node w c) + 1 → j ≡ length xs - 1 → j + 1 < length (xs ++ (c ∷ ys)) → Beside w h j (xs ++ (c ∷ ys))
beside w h j [] c [] l r z e i = absurd (omega arith)
beside w h j [] c (y ∷ ys) l r z e i = record { us = []; a = c; b = y; vs = ys; whole = refl; place = omega arith; left = tt; right = r.1; size = z; right_size = omega (arith, r.0) }
beside w h j (x ∷ xs) c ys l r z e i =
    let n : ℕ = length (x ∷ xs) in
    let us : List ℕ = take (n - 1) (x ∷ xs) in
    let a : ℕ = get_or (x ∷ xs) (n - 1) 0 in
    let cut : us ++ (a ∷ []) ≡ x ∷ xs = last_apart n 0 (x ∷ xs) refl (omega arith) in
    let F : List ℕ → Type 0 = λ zs. Each (λ q. few h ≤ size_of (node w q)) zs in
    let both : Each (λ q. few h ≤ size_of (node w q)) (us ++ (a ∷ [])) = subst F (sym cut) l in
    let last = Each-right (λ q. few h ≤ size_of (node w q)) us (a ∷ []) both in
    record {
      us = us;
      a = a;
      b = c;
      vs = ys;
      whole = ap (λ (zs : List ℕ). zs ++ (c ∷ ys)) (sym cut) ∙ append_assoc us (a ∷ []) (c ∷ ys);
      place = omega (arith, e, ap (λ (zs : List ℕ). length zs) cut, length-append us (a ∷ []));
      left = Each-left (λ q. few h ≤ size_of (node w q)) us (a ∷ []) both;
      right = r;
      size = omega (arith, last.0);
      right_size = z;
    }

get_first : (us : List ℕ) (a : ℕ) (zs : List ℕ) (j : ℕ) → length us ≡ j → get_or (us ++ (a ∷ zs)) j 0 ≡ a
get_first [] a zs zero e = refl
get_first [] a zs (suc j) e = absurd (omega arith)
get_first (u ∷ us) a zs zero e = absurd (omega arith)
get_first (u ∷ us) a zs (suc j) e = get_first us a zs j (omega arith)

get_second : (us : List ℕ) (a b : ℕ) (zs : List ℕ) (j : ℕ) → length us ≡ j → get_or (us ++ (a ∷ (b ∷ zs))) (j + 1) 0 ≡ b
get_second us a b zs j e =
    let moved : (us ++ (a ∷ [])) ++ (b ∷ zs) ≡ us ++ (a ∷ (b ∷ zs)) = append_assoc us (a ∷ []) (b ∷ zs) in
    ap (λ (x : List ℕ). get_or x (j + 1) 0) (sym moved) ∙ get_first (us ++ (a ∷ [])) b zs (j + 1) (omega (arith, length-append us (a ∷ [])))

-- the row after two neighbours in it were balanced
pub record Mended (w mid : Store) (h j : ℕ) (cs ks : List ℕ) (up : Option ℕ) : Type 0 where
  pub new : List ℕ
  pub change : Change w mid h cs new
  pub items : all_items mid h new ≡ all_items w h cs
  pub seps : mended_keys j up ks ≡ drop 1 (map (λ x. least mid h x) new)
  pub children : mended_children j up cs ≡ new
  pub full : Each (λ x. few h ≤ size_of (node mid x)) new
  pub some : 1 ≤ length new
  pub fewer : length new ≤ length cs

owns_part : (w : Store) (h : ℕ) (us zs vs : List ℕ) → Owns w h (us ++ (zs ++ vs)) → Owns w h zs
owns_part w h us zs vs o = λ q. omega (arith, o q, pages-three w h q us zs vs)

neighbours : (w : Store) (h a b : ℕ) (us vs : List ℕ) → Each (λ x. Sound w h x) (us ++ (a ∷ (b ∷ vs))) → Owns w h (us ++ ((a ∷ (b ∷ [])) ++ vs))
    → few h ≤ size_of (node w a) + 1 → few h ≤ size_of (node w b) + 1 → Neighbours w h a b
neighbours w h a b us vs s o za zb =
    let r = Each-right (λ x. Sound w h x) us (a ∷ (b ∷ vs)) s in
    record { sound = r.0; right_sound = r.1.0; owns = owns_part w h us (a ∷ (b ∷ [])) vs o; size = za; right_size = zb }

-- the least key of the first of two neighbours stays
first_stays : (w mid : Store) (h a b : ℕ) (up : Option ℕ) → Neighbours w h a b → Balances w mid h a b up → least mid h a ≡ least w h a
first_stays w mid h a b up nb bl =
    let sw : 1 ≤ length (items w h a) = sound_some w h a nb.sound (omega (arith, few_some h, nb.size)) in
    let sm : 1 ≤ length (items mid h a) = sound_some mid h a bl.change.sound.0 (omega (arith, few_some h, bl.full.0)) in
    sym (first_key-append (items mid h a) (all_items mid h (left_over b up)) sm) ∙ (ap (λ (es : List Pair). first_key es) bl.items ∙ first_key-append (items w h a) (all_items w h (b ∷ [])) sw)

-- the keys of the row: the one between is gone, or it is another one
mended_seps : (w mid : Store) (h j a b : ℕ) (us vs ks : List ℕ) (up : Option ℕ) → length us ≡ j → ks ≡ drop 1 (map (λ x. least w h x) (us ++ (a ∷ (b ∷ vs))))
    → Each (λ x. Stays w mid h x) us → Each (λ x. Stays w mid h x) vs → least mid h a ≡ least w h a
    → Balances w mid h a b up → mended_keys j up ks ≡ drop 1 (map (λ x. least mid h x) (us ++ ((a ∷ left_over b up) ++ vs)))
mended_seps w mid h j a b us vs ks None e k l r first bl =
    let fs : List ℕ = map (λ x. least w h x) us in
    let gs : List ℕ = map (λ x. least w h x) vs in
    let lf : length fs ≡ j = length-map us (λ x. least w h x) ∙ e in
    let kk : ks ≡ drop 1 (fs ++ (least w h a ∷ (least w h b ∷ gs))) = k ∙ ap (λ (x : List ℕ). drop 1 x) (map-append (λ x. least w h x) us (a ∷ (b ∷ vs))) in
    ap₂ (λ (i : ℕ) (x : List ℕ). take i x ++ drop (i + 1) x) (sym lf) kk
    ∙ (seps_merge fs gs (least w h a) (least w h b)
    ∙ sym (ap (λ (x : List ℕ). drop 1 x) (map-append (λ x. least mid h x) us (a ∷ vs)
    ∙ (ap₂ (λ (x y : List ℕ). x ++ (least mid h a ∷ y)) (row_least w mid h us l) (row_least w mid h vs r) ∙ ap (λ (x : ℕ). fs ++ (x ∷ gs)) first))))
mended_seps w mid h j a b us vs ks (Some up) e k l r first bl =
    let fs : List ℕ = map (λ x. least w h x) us in
    let gs : List ℕ = map (λ x. least w h x) vs in
    let fa : List ℕ = fs ++ (least w h a ∷ []) in
    let lf : length fs ≡ j = length-map us (λ x. least w h x) ∙ e in
    let la : length fa ≡ j + 1 = omega (arith, lf, length-append fs (least w h a ∷ [])) in
    let kk : ks ≡ drop 1 (fa ++ (least w h b ∷ gs)) =
    k ∙ (ap (λ (x : List ℕ). drop 1 x) (map-append (λ x. least w h x) us (a ∷ (b ∷ vs)) ∙ sym (append_assoc fs (least w h a ∷ []) (least w h b ∷ gs)))) in
    let ij : length fa - 1 ≡ j = omega (arith, la) in
    let new : map (λ x. least mid h x) (us ++ (a ∷ (b ∷ vs))) ≡ fa ++ (up ∷ gs) =
    map-append (λ x. least mid h x) us (a ∷ (b ∷ vs))
    ∙ (ap₂ (λ (x y : List ℕ). x ++ (least mid h a ∷ (least mid h b ∷ y))) (row_least w mid h us l) (row_least w mid h vs r)
    ∙ (ap₂ (λ (x y : ℕ). fs ++ (x ∷ (y ∷ gs))) first (sym bl.key) ∙ sym (append_assoc fs (least w h a ∷ []) (up ∷ gs)))) in
    ap (λ (x : List ℕ). take j x ++ ((up ∷ []) ++ drop (j + 1) x)) kk
    ∙ (ap₂ (λ (i l : ℕ). take i (drop 1 (fa ++ (least w h b ∷ gs))) ++ ((up ∷ []) ++ drop l (drop 1 (fa ++ (least w h b ∷ gs))))) (sym ij) (sym la)
    ∙ (seps_set fa gs (least w h b) up (omega (arith, la)) ∙ ap (λ (x : List ℕ). drop 1 x) (sym new)))

cut_row : (j : ℕ) (us : List ℕ) (a b : ℕ) (vs : List ℕ) → length us ≡ j → take (j + 1) (us ++ (a ∷ (b ∷ vs))) ++ ([] ++ drop (j + 2) (us ++ (a ∷ (b ∷ vs)))) ≡ us ++ (a ∷ vs)
cut_row zero [] a b vs e = refl
cut_row (suc j) [] a b vs e = absurd (omega arith)
cut_row zero (u ∷ us) a b vs e = absurd (omega arith)
cut_row (suc j) (u ∷ us) a b vs e =
    let x : suc j + 1 ≡ suc (j + 1) = omega arith in
    let y : suc j + 2 ≡ suc (j + 2) = omega arith in
    ap₂ (λ (p q : ℕ). take p (u ∷ (us ++ (a ∷ (b ∷ vs)))) ++ ([] ++ drop q (u ∷ (us ++ (a ∷ (b ∷ vs)))))) x y ∙ ap (λ (r : List ℕ). u ∷ r) (cut_row j us a b vs (omega arith))

mended_row : (w : Store) (h j a b : ℕ) (us vs : List ℕ) (up : Option ℕ) → length us ≡ j → mended_children j up (us ++ (a ∷ (b ∷ vs))) ≡ us ++ ((a ∷ left_over b up) ++ vs)
mended_row w h j a b us vs None e = cut_row j us a b vs e
mended_row w h j a b us vs (Some k) e = refl

row_length : (a b : ℕ) (us vs : List ℕ) (up : Option ℕ) → (1 ≤ length (us ++ ((a ∷ left_over b up) ++ vs))) × (length (us ++ ((a ∷ left_over b up) ++ vs)) ≤ length (us ++ (a ∷ (b ∷ vs))))
row_length a b us vs None = (omega (arith, length-append us (a ∷ vs)), omega (arith, length-append us (a ∷ vs), length-append us (a ∷ (b ∷ vs))))
row_length a b us vs (Some k) = (omega (arith, length-append us (a ∷ (b ∷ vs))), omega arith)

pub mended : (w mid : Store) (h j : ℕ) (cs ks : List ℕ) (up : Option ℕ) → Owns w h cs → Each (λ x. Sound w h x) cs → ks ≡ drop 1 (map (λ x. least w h x) cs) → Beside w h j cs
    → (get_or ks j 0 ≡ least w h (get_or cs (j + 1) 0) → Neighbours w h (get_or cs j 0) (get_or cs (j + 1) 0) → Balances w mid h (get_or cs j 0) (get_or cs (j + 1) 0) up) → Mended w mid h j cs ks up
mended w mid h j cs ks up o sound e be f =
    let us : List ℕ = be.us in
    let vs : List ℕ = be.vs in
    let a : ℕ = be.a in
    let b : ℕ = be.b in
    let row : List ℕ = us ++ (a ∷ (b ∷ vs)) in
    let ga : get_or cs j 0 ≡ a = ap (λ (x : List ℕ). get_or x j 0) be.whole ∙ get_first us a (b ∷ vs) j be.place in
    let gb : get_or cs (j + 1) 0 ≡ b = ap (λ (x : List ℕ). get_or x (j + 1) 0) be.whole ∙ get_second us a b vs j be.place in
    let O : List ℕ → Type 0 = λ x. Owns w h x in
    let S : List ℕ → Type 0 = λ x. Each (λ y. Sound w h y) x in
    let owned : Owns w h row = subst O be.whole o in
    let sounds : Each (λ y. Sound w h y) row = subst S be.whole sound in
    let nb : Neighbours w h a b = neighbours w h a b us vs sounds owned be.size be.right_size in
    let kr : ks ≡ drop 1 (map (λ x. least w h x) row) = e ∙ ap (λ (x : List ℕ). drop 1 (map (λ y. least w h y) x)) be.whole in
    let fs : List ℕ = map (λ x. least w h x) us in
    let gk : get_or ks j 0 ≡ least w h b =
    ap (λ (x : List ℕ). get_or x j 0) (kr ∙ ap (λ (x : List ℕ). drop 1 x) (map-append (λ x. least w h x) us (a ∷ (b ∷ vs))))
    ∙ (ap (λ (i : ℕ). get_or (drop 1 (fs ++ (least w h a ∷ (least w h b ∷ map (λ x. least w h x) vs)))) i 0) (sym (length-map us (λ x. least w h x) ∙ be.place))
    ∙ sep_behind fs (map (λ x. least w h x) vs) (least w h a) (least w h b)) in
    let G : ℕ → ℕ → Type 0 = λ x y. get_or ks j 0 ≡ least w h y → Neighbours w h x y → Balances w mid h x y up in
    let A : ℕ → Type 0 = λ x. G x (get_or cs (j + 1) 0) in
    let B : ℕ → Type 0 = λ y. G a y in
    let bl : Balances w mid h a b up = subst B gb (subst A ga f) gk nb in
    let new : List ℕ = us ++ ((a ∷ left_over b up) ++ vs) in
    let su : Each (λ y. Sound w h y) us = Each-left (λ y. Sound w h y) us (a ∷ (b ∷ vs)) sounds in
    let sv : Each (λ y. Sound w h y) vs = (Each-right (λ y. Sound w h y) us (a ∷ (b ∷ vs)) sounds).1.1 in
    let wide : Change w mid h row new = widen w mid h us (a ∷ (b ∷ [])) vs (a ∷ left_over b up) bl.change owned su sv in
    let C : List ℕ → Type 0 = λ x. Change w mid h x new in
    let l = left_stays w mid h us (a ∷ (b ∷ [])) vs (a ∷ left_over b up) bl.change owned in
    let r = right_stays w mid h us (a ∷ (b ∷ [])) vs (a ∷ left_over b up) bl.change owned in
    let same_items : all_items mid h new ≡ all_items w h cs =
    widen-items w mid h us (a ∷ (b ∷ [])) vs (a ∷ left_over b up) bl.change owned
    ∙ (ap (λ (x : List Pair). all_items w h us ++ (x ++ all_items w h vs)) bl.items ∙ (sym (items-three w h us (a ∷ (b ∷ [])) vs) ∙ ap (λ (x : List ℕ). all_items w h x) (sym be.whole))) in
    let lens = row_length a b us vs up in
    record {
      new = new;
      change = subst C (sym be.whole) wide;
      items = same_items;
      seps = mended_seps w mid h j a b us vs ks up be.place kr l r (first_stays w mid h a b up nb bl) bl;
      children = ap (λ (x : List ℕ). mended_children j up x) be.whole ∙ mended_row w h j a b us vs up be.place;
      full = Each-append (λ x. few h ≤ size_of (node mid x)) us ((a ∷ left_over b up) ++ vs) (row_full w mid h us l be.left)
          (Each-append (λ x. few h ≤ size_of (node mid x)) (a ∷ left_over b up) vs bl.full (row_full w mid h vs r be.right));
      some = lens.0;
      fewer = omega (arith, lens.1, ap (λ (x : List ℕ). length x) be.whole);
    }

-- the code's facts at an inner page, after a key was taken from under the child
pub record Taken (m w : Store) (h n k : ℕ) (p : List ℕ) (at : ℕ) (s : Shrunk) : Type 0 where
  pub xs : List ℕ
  pub c : ℕ
  pub ys : List ℕ
  pub tree : Subtree m (suc h) n
  pub kids : child_pages (node m n) ≡ xs ++ (c ∷ ys)
  pub page_kids : child_pages (node_of p) ≡ xs ++ (c ∷ ys)
  pub front : length xs ≡ at
  pub descent : Descent m h k xs c ys
  pub removes : RemovesUnder m w h c k s
  pub row : Alters m w h (xs ++ (c ∷ ys)) (xs ++ (c ∷ ys)) k [] s.was
  pub seps : noted_keys at s.least (keys_of (node_of p)) ≡ drop 1 (map (λ x. least w h x) (xs ++ (c ∷ ys)))
  pub left : Each (λ x. few h ≤ size_of (node w x)) xs
  pub right : Each (λ x. few h ≤ size_of (node w x)) ys
