-- Two neighbours that became one, or two other ones, seen in the tree.
use Rattle.std.proofs.Common.{◌≡◌, ℕ, zero, suc, ◌+◌, ◌≤◌, List, [], ◌∷◌, ◌++◌, length, drop, map, sym, ◌∙◌, ap, ap₂, subst, inl, inr, arith, append-nil, length-append}
use Rattle.std.specs.Prelude.{Option, None, Some}
use Rattle.std.proofs.lemmas.List.{map-append, length-map}
use Rattle.code_btree.specs.Node.{Pair, Node, leaf, inner, node_of, entries_of, next_of, keys_of, child_pages, size_of}
use Rattle.code_btree.specs.Items.{Each}
use Rattle.code_btree.specs.Tree.{Store, node_in, node, pages, all_items, first_key, least, same, times, live, Owns, Path, TopOk, few, Sound, Filled}
use Rattle.code_btree.specs.Steps.{Change, Wrote, Freed, HalvesLeaf, HalvesInner}
use Rattle.code_btree.specs.Removals.{Shares, Merges, Neighbours, Balances}
use Rattle.code_btree.proofs.Lists.{same_cases, same_self, live_small, live_same, live_some, live_none, times-append, Each-append, Each-right, Each-map}
use Rattle.code_btree.proofs.Moves.{Stays, change_none, row_items, all_kids, items_up, Topped, lift, lift-items, kids_stay}
use Rattle.code_btree.proofs.Seps.{seps_join, first_of_list}
use Rattle.code_btree.proofs.Counts.{top_sizes}
use Rattle.code_btree.proofs.Rises.{one_kids, top_made}
use Rattle.code_btree.proofs.Leaves.{leaf_ok}
use Rattle.code_btree.proofs.Inserts.{seps_split, first_least}

pub head_times : (m : Store) (h q n : ℕ) → same q n ≤ times q (pages m h n)
head_times m zero q n = omega arith
head_times m (suc h) q n = omega arith

-- two pages of a row are two
pub apart : (m : Store) (h a b : ℕ) → Owns m h (a ∷ (b ∷ [])) → same b a ≡ 0
apart m h a b o = omega (arith, o b, times-append b (pages m h a) (pages m h b ++ []), times-append b (pages m h b) [], head_times m h b a, head_times m h b b, same_self b, live_small m b)

turned : (a b : ℕ) → same b a ≡ 0 → same a b ≡ 0
turned a b h = elim (same_cases a b) [ inl i ↦ absurd (omega (arith, h, same_self b, ap (λ (x : ℕ). same b x) i.1)) | inr i ↦ i.0 ]

pub shares_of : (m u v : Store) (a b : ℕ) (pa pb : List ℕ) (o p : Node) → same b a ≡ 0 → Wrote m u a pa → Wrote u v b pb → node_of pa ≡ o → node_of pb ≡ p → Shares m v a b o p
shares_of m u v a b pa pb o p h wa wb e f =
    let va : v a ≡ Some pa = wb.others a (turned a b h) ∙ wa.now in
    record {
      before = wa.before;
      right_before = omega (arith, wb.before, live_same m u b (wa.others b h));
      now = live_some v a pa va;
      node = ap (λ (x : Option (List ℕ)). node_in x) va ∙ e;
      right = live_some v b pb wb.now;
      right_node = ap (λ (x : Option (List ℕ)). node_in x) wb.now ∙ f;
      others = λ q x y. wb.others q y ∙ wa.others q x;
    }

pub merges_of : (m u v : Store) (a b : ℕ) (pa : List ℕ) (o : Node) → same b a ≡ 0 → Wrote m u a pa → Freed u v b → node_of pa ≡ o → Merges m v a b o
merges_of m u v a b pa o h wa fb e =
    let va : v a ≡ Some pa = fb.others a (turned a b h) ∙ wa.now in
    record {
      before = wa.before;
      right_before = omega (arith, fb.before, live_same m u b (wa.others b h));
      now = live_some v a pa va;
      node = ap (λ (x : Option (List ℕ)). node_in x) va ∙ e;
      gone = live_none v b fb.now;
      others = λ q x y. fb.others q y ∙ wa.others q x;
    }

shares_moved : (m w : Store) (a b : ℕ) (o p : Node) → Shares m w a b o p → (q : ℕ) → live w q ≡ live m q
shares_moved m w a b o p s q = elim (same_cases q a) [
  | inl i ↦ omega (arith, s.before, s.now, ap (λ (x : ℕ). live w x) i.1, ap (λ (x : ℕ). live m x) i.1)
  | inr i ↦ elim (same_cases q b) [
    | inl j ↦ omega (arith, s.right_before, s.right, ap (λ (x : ℕ). live w x) j.1, ap (λ (x : ℕ). live m x) j.1)
    | inr j ↦ live_same m w q (s.others q i.0 j.0)
  ]
]

merges_moved : (m w : Store) (a b : ℕ) (o : Node) → same b a ≡ 0 → Merges m w a b o → (q : ℕ) → live w q + same q b ≡ live m q
merges_moved m w a b o h s q = elim (same_cases q a) [
  | inl i ↦ omega (arith, s.before, s.now, turned a b h, ap (λ (x : ℕ). live w x) i.1, ap (λ (x : ℕ). live m x) i.1, ap (λ (x : ℕ). same x b) i.1)
  | inr i ↦ elim (same_cases q b) [
    | inl j ↦ omega (arith, j.0, s.right_before, s.gone, ap (λ (x : ℕ). live w x) j.1, ap (λ (x : ℕ). live m x) j.1)
    | inr j ↦ omega (arith, j.0, live_same m w q (s.others q i.0 j.0))
  ]
]

leaf_items : (m : Store) (a b : ℕ) → all_items m 0 (a ∷ (b ∷ [])) ≡ entries_of (node m a) ++ entries_of (node m b)
leaf_items m a b = ap (λ (x : List Pair). entries_of (node m a) ++ x) (append-nil (entries_of (node m b)))

-- two leaves shared out anew
pub leaves_shared : (m w : Store) (a b k : ℕ) (l r : List Pair) → Neighbours m 0 a b → Shares m w a b (leaf l (next_of (node m a))) (leaf r (next_of (node m b)))
    → HalvesLeaf l r (entries_of (node m a) ++ entries_of (node m b))
    → k ≡ first_key r → Balances m w 0 a b (Some k)
leaves_shared m w a b k l r nb s hv kf =
    let na : next_of (node w a) ≡ next_of (node m a) = ap (λ (x : Node). next_of x) s.node in
    let nr : next_of (node w b) ≡ next_of (node m b) = ap (λ (x : Node). next_of x) s.right_node in
    let ea : entries_of (node w a) ≡ l = ap (λ (x : Node). entries_of x) s.node in
    let er : entries_of (node w b) ≡ r = ap (λ (x : Node). entries_of x) s.right_node in
    let lks : (a, next_of (node w a)) ∷ ((b, next_of (node w b)) ∷ []) ≡ (a, next_of (node m a)) ∷ ((b, next_of (node m b)) ∷ []) = ap₂ (λ (x y : ℕ). (a, x) ∷ ((b, y) ∷ [])) na nr in
    record {
      change = record {
        sound = (leaf_ok (node w a) l (next_of (node m a)) s.node hv.left_fits, (leaf_ok (node w b) r (next_of (node m b)) s.right_node hv.right_fits, tt));
        frame = λ q x y. s.others q (omega arith) (omega arith);
        moved = λ q. omega (arith, shares_moved m w a b (leaf l (next_of (node m a))) (leaf r (next_of (node m b))) s q);
        linked = λ x e p. let P : List (ℕ × ℕ) → Type 0 = λ ls. Path x ls e in subst P (sym lks) p;
      };
      items = leaf_items w a b ∙ (ap₂ (λ (x y : List Pair). x ++ y) ea er ∙ (hv.joined ∙ sym (leaf_items m a b)));
      full = (omega (arith, ap (λ (x : Node). size_of x) s.node, hv.left_full), (omega (arith, ap (λ (x : Node). size_of x) s.right_node, hv.right_full), tt));
      key = kf ∙ sym (ap (λ (x : List Pair). first_key x) er);
    }

-- two leaves that became one
pub leaves_merged : (m w : Store) (a b : ℕ) → Neighbours m 0 a b → Merges m w a b (leaf (entries_of (node m a) ++ entries_of (node m b)) (next_of (node m b)))
    → length (entries_of (node m a) ++ entries_of (node m b)) ≤ 127 → Balances m w 0 a b None
leaves_merged m w a b nb s l =
    let es : List Pair = entries_of (node m a) ++ entries_of (node m b) in
    let nx : next_of (node w a) ≡ next_of (node m b) = ap (λ (x : Node). next_of x) s.node in
    let ea : entries_of (node w a) ≡ es = ap (λ (x : Node). entries_of x) s.node in
    let za : size_of (node m a) ≡ length (entries_of (node m a)) = ap (λ (x : Node). size_of x) nb.sound.is_leaf in
    let zb : size_of (node m b) ≡ length (entries_of (node m b)) = ap (λ (x : Node). size_of x) nb.right_sound.is_leaf in
    record {
      change = record {
        sound = (leaf_ok (node w a) es (next_of (node m b)) s.node l, tt);
        frame = λ q x y. s.others q (omega arith) (omega arith);
        moved = λ q. omega (arith, merges_moved m w a b (leaf es (next_of (node m b))) (apart m 0 a b nb.owns) s q);
        linked = λ x e p. (p.0, (p.1.0, nx ∙ p.1.1.1.1));
      };
      items = append-nil (entries_of (node w a)) ∙ (ea ∙ sym (leaf_items m a b));
      full = (omega (arith, ap (λ (x : Node). size_of x) s.node, nb.size, nb.right_size, za, zb, length-append (entries_of (node m a)) (entries_of (node m b))), tt);
      key = tt;
    }

-- keys and children of two inner neighbours, with the key between them
record Both (m : Store) (h a b key : ℕ) : Type 0 where
  pub seps : keys_of (node m a) ++ (key ∷ keys_of (node m b)) ≡ drop 1 (map (λ c. least m h c) (child_pages (node m a) ++ child_pages (node m b)))
  pub filled : Each (λ c. Filled m h c) (child_pages (node m a) ++ child_pages (node m b))
  pub kids : all_kids m (a ∷ (b ∷ [])) ≡ child_pages (node m a) ++ child_pages (node m b)

both : (m : Store) (h a b key : ℕ) → Neighbours m (suc h) a b → key ≡ least m (suc h) b → Both m h a b key
both m h a b key nb e =
    let ca : List ℕ = child_pages (node m a) in
    let cb : List ℕ = child_pages (node m b) in
    let fa : List ℕ = map (λ c. least m h c) ca in
    let fb : List ℕ = map (λ c. least m h c) cb in
    let ta : TopOk (λ c. least m h c) (node m a) = nb.sound.0 in
    let tb : TopOk (λ c. least m h c) (node m b) = nb.right_sound.0 in
    let la : length fa ≡ length ca = length-map ca (λ c. least m h c) in
    let lb : length fb ≡ length cb = length-map cb (λ c. least m h c) in
    let k : key ≡ first_of_list fb = e ∙ first_least m h cb tb.some nb.right_sound.1 in
    record {
      seps = ap₂ (λ (x y : List ℕ). x ++ (key ∷ y)) ta.separators tb.separators
          ∙ (ap (λ (x : ℕ). drop 1 fa ++ (x ∷ drop 1 fb)) k
          ∙ (seps_join fa fb (omega (arith, ta.some, la)) (omega (arith, tb.some, lb)) ∙ ap (λ (x : List ℕ). drop 1 x) (sym (map-append (λ c. least m h c) ca cb))));
      filled = Each-append (λ c. Filled m h c) ca cb nb.sound.1 nb.right_sound.1;
      kids = ap (λ (x : List ℕ). ca ++ x) (append-nil cb);
    }

kids_sound : (m : Store) (h : ℕ) (cs : List ℕ) → Each (λ c. Filled m h c) cs → Each (λ c. Sound m h c) cs
kids_sound m h cs e = Each-map (λ c. Filled m h c) (λ c. Sound m h c) (λ c f. f.0) cs e

kids_full : (m : Store) (h : ℕ) (cs : List ℕ) → Each (λ c. Filled m h c) cs → Each (λ c. few h ≤ size_of (node m c)) cs
kids_full m h cs e = Each-map (λ c. Filled m h c) (λ c. few h ≤ size_of (node m c)) (λ c f. f.1) cs e

-- the children stay, under other tops
tops_changed : (m w : Store) (h a b : ℕ) (cs news : List ℕ) → Owns m (suc h) (a ∷ (b ∷ [])) → Each (λ c. Filled m h c) cs → all_kids m (a ∷ (b ∷ [])) ≡ cs → all_kids w news ≡ cs
    → ((q : ℕ) → same q a ≡ 0 → same q b ≡ 0 → w q ≡ m q) → ((q : ℕ) → live w q + (same q a + same q b) ≡ live m q + times q news) → Topped m m w h (a ∷ (b ∷ [])) news
tops_changed m w h a b cs news o filled km kw others moved =
    let P : List ℕ → Type 0 = λ x. Change m m h x cs in
    let Q : List ℕ → Type 0 = λ x. Change m m h (all_kids m (a ∷ (b ∷ []))) x in
    record {
      kids = subst Q (sym kw) (subst P (sym km) (change_none m h cs (kids_sound m h cs filled)));
      owns = o;
      tops = λ q x y. others q (omega arith) (omega arith);
      moved = λ q. omega (arith, moved q);
    }

-- two inner pages shared out anew
pub inners_shared : (m w : Store) (h a b key k : ℕ) (lk lc rk rc : List ℕ) → Neighbours m (suc h) a b → key ≡ least m (suc h) b → Shares m w a b (inner lk lc) (inner rk rc)
    → HalvesInner lk lc k rk rc (keys_of (node m a) ++ (key ∷ keys_of (node m b))) (child_pages (node m a) ++ child_pages (node m b)) → Balances m w (suc h) a b (Some k)
inners_shared m w h a b key k lk lc rk rc nb e s hv =
    let cs : List ℕ = child_pages (node m a) ++ child_pages (node m b) in
    let bo = both m h a b key nb e in
    let news : List ℕ = a ∷ (b ∷ []) in
    let ka : child_pages (node w a) ≡ lc = ap (λ (x : Node). child_pages x) s.node in
    let kb : child_pages (node w b) ≡ rc = ap (λ (x : Node). child_pages x) s.right_node in
    let kw : all_kids w news ≡ cs = ap₂ (λ (x y : List ℕ). x ++ y) ka (append-nil (child_pages (node w b)) ∙ kb) ∙ hv.children in
    let t = tops_changed m w h a b cs news nb.owns bo.filled bo.kids kw s.others (λ q. omega (arith, shares_moved m w a b (inner lk lc) (inner rk rc) s q)) in
    let sp = seps_split (λ c. least m h c) lk lc k rk rc (keys_of (node m a) ++ (key ∷ keys_of (node m b))) cs bo.seps hv in
    let F : List ℕ → Type 0 = λ x. Each (λ c. few h ≤ size_of (node m c)) x in
    let R : List ℕ → Type 0 = λ x. Each (λ c. Filled m h c) x in
    let right_filled : Each (λ c. Filled m h c) rc = Each-right (λ c. Filled m h c) lc rc (subst R (sym hv.children) bo.filled) in
    let S : List ℕ → Type 0 = λ x. Each (λ c. Stays m w h c) x in
    let stay : Each (λ c. Stays m w h c) rc = Each-right (λ c. Stays m w h c) lc rc (subst S (kw ∙ sym hv.children) (kids_stay m m w h (a ∷ (b ∷ [])) news t)) in
    let lst : least w (suc h) b ≡ k = ap (λ (x : List ℕ). first_key (all_items w h x)) kb
    ∙ (ap (λ (x : List Pair). first_key x) (row_items m w h rc stay) ∙ (first_least m h rc (omega (arith, hv.right)) right_filled ∙ sym sp.1.0)) in
    record {
      change = lift m m w h (a ∷ (b ∷ [])) news t (
        top_made (λ c. least m h c) (node w a) lk lc s.node sp.0 (omega (arith, hv.left)) (omega (arith, hv.left, hv.left_fits)),
        (top_made (λ c. least m h c) (node w b) rk rc s.right_node sp.1.1 (omega (arith, hv.right)) (omega (arith, hv.right, hv.right_fits)), tt),
      )
          (subst F (sym kw) (kids_full m h cs bo.filled));
      items = lift-items m m w h (a ∷ (b ∷ [])) news t ∙ (ap (λ (x : List ℕ). all_items m h x) (kw ∙ sym bo.kids) ∙ sym (items_up m h (a ∷ (b ∷ []))));
      full = (omega (arith, ap (λ (x : Node). size_of x) s.node, hv.left_full), (omega (arith, ap (λ (x : Node). size_of x) s.right_node, hv.right_full), tt));
      key = sym lst;
    }

-- two inner pages that became one
pub inners_merged : (m w : Store) (h a b key : ℕ) → Neighbours m (suc h) a b → key ≡ least m (suc h) b
    → Merges m w a b (inner (keys_of (node m a) ++ (key ∷ keys_of (node m b))) (child_pages (node m a) ++ child_pages (node m b)))
    → size_of (node m a) + size_of (node m b) ≤ 168 → Balances m w (suc h) a b None
inners_merged m w h a b key nb e s l =
    let ks : List ℕ = keys_of (node m a) ++ (key ∷ keys_of (node m b)) in
    let cs : List ℕ = child_pages (node m a) ++ child_pages (node m b) in
    let bo = both m h a b key nb e in
    let news : List ℕ = a ∷ [] in
    let kw : all_kids w news ≡ cs = one_kids w a ∙ ap (λ (x : Node). child_pages x) s.node in
    let t = tops_changed m w h a b cs news nb.owns bo.filled bo.kids kw s.others (λ q. omega (arith, merges_moved m w a b (inner ks cs) (apart m (suc h) a b nb.owns) s q)) in
    let F : List ℕ → Type 0 = λ x. Each (λ c. few h ≤ size_of (node m c)) x in
    let za = top_sizes (λ c. least m h c) (node m a) nb.sound.0 in
    let zb = top_sizes (λ c. least m h c) (node m b) nb.right_sound.0 in
    let sa : size_of (node m a) ≡ length (keys_of (node m a)) = ap (λ (x : Node). size_of x) nb.sound.0.is_inner in
    let sb : size_of (node m b) ≡ length (keys_of (node m b)) = ap (λ (x : Node). size_of x) nb.right_sound.0.is_inner in
    let lc : length cs ≡ length (child_pages (node m a)) + length (child_pages (node m b)) = length-append (child_pages (node m a)) (child_pages (node m b)) in
    record {
      change = lift m m w h (a ∷ (b ∷ [])) news t (top_made (λ c. least m h c) (node w a) ks cs s.node bo.seps (omega arith) (omega arith), tt) (subst F (sym kw) (kids_full m h cs bo.filled));
      items = lift-items m m w h (a ∷ (b ∷ [])) news t ∙ (ap (λ (x : List ℕ). all_items m h x) (kw ∙ sym bo.kids) ∙ sym (items_up m h (a ∷ (b ∷ []))));
      full = (omega (arith, ap (λ (x : Node). size_of x) s.node, nb.size, nb.right_size, length-append (keys_of (node m a)) (key ∷ keys_of (node m b))), tt);
      key = tt;
    }
