-- One level down to the child under which a key belongs, and up again with what became of it.
use Rattle.std.proofs.Common.{◌≡◌, ℕ, zero, suc, ◌+◌, ◌-◌, ◌<◌, ◌≤◌, List, [], ◌∷◌, ◌++◌, length, get_or, drop, map, refl, sym, ◌∙◌, ap, ap₂, subst, inl, inr, arith, append-nil, length-append}
use Rattle.std.specs.Prelude.{Option}
use Rattle.std.proofs.lemmas.List.{map-append, length-map}
use Rattle.std.proofs.lemmas.List.Concat.{flat_map-append}
use Rattle.code_btree.specs.Node.{Pair, Node, inner, keys_of, child_pages, size_of}
use Rattle.code_btree.specs.Items.{Each, Above, Below, Ascending, find_item}
use Rattle.code_btree.specs.Tree.{Store, node_in, node, items, all_items, all_pages, first_key, least, same, times, live, Owns, TopOk, few, Sound, Filled}
use Rattle.code_btree.specs.Steps.{Change, Alters, alter, Subtree, Writes, Cuts}
use Rattle.code_btree.proofs.Lists.{same_cases, same_self, live_small, live_same, Each-left, Each-right, Each-map}
use Rattle.code_btree.proofs.Orders.{alter_middle, find_middle, Ascending-left, Ascending-right, Below-from, Above-from}
use Rattle.code_btree.proofs.Moves.{Stays, left_stays, right_stays, widen, widen-items, items-three, pages-three, all_kids, pages_up, items_up, Topped, lift, lift-items}
use Rattle.code_btree.proofs.Seps.{sep_before, sep_behind}

row_some : (m : Store) (h : ℕ) (some : (c : ℕ) → Filled m h c → 1 ≤ length (items m h c)) (cs : List ℕ) → 1 ≤ length cs → Each (λ c. Filled m h c) cs → 1 ≤ length (all_items m h cs)
row_some m h some [] l e = absurd (omega arith)
row_some m h some (c ∷ cs) l e = omega (arith, some c e.0, length-append (items m h c) (all_items m h cs))

-- a filled tree has a pair
pub filled_some : (m : Store) (h n : ℕ) → Filled m h n → 1 ≤ length (items m h n)
filled_some m zero n f = omega (arith, ap (λ (o : Node). size_of o) f.0.is_leaf, f.1)
filled_some m (suc h) n f = row_some m h (λ d. filled_some m h d) (child_pages (node m n)) f.0.0.some f.0.1

pub first_key-append : (xs ys : List Pair) → 1 ≤ length xs → first_key (xs ++ ys) ≡ first_key xs
first_key-append [] ys h = absurd (omega arith)
first_key-append (x ∷ xs) ys h = refl

pub one_items : (m : Store) (h c : ℕ) → all_items m h (c ∷ []) ≡ items m h c
one_items m h c = append-nil (items m h c)

pub one_kids : (m : Store) (n : ℕ) → all_kids m (n ∷ []) ≡ child_pages (node m n)
one_kids m n = append-nil (child_pages (node m n))

-- The child c under which the key belongs, between those of xs and those of ys.
pub record Descent (m : Store) (h k : ℕ) (xs : List ℕ) (c : ℕ) (ys : List ℕ) : Type 0 where
  pub filled : Filled m h c
  pub owns_row : Owns m h (xs ++ ((c ∷ []) ++ ys))
  pub left : Each (λ d. Filled m h d) xs
  pub right : Each (λ d. Filled m h d) ys
  pub child : Subtree m h c
  pub below : Below k (all_items m h xs)
  pub above : Above k (all_items m h ys)
  pub first : 1 ≤ length xs → least m h c ≤ k

below_by : (m : Store) (h k : ℕ) (xs : List ℕ) (zs : List Pair) → Ascending (all_items m h xs ++ zs) → 1 ≤ length zs → (1 ≤ length xs → first_key zs ≤ k) → Below k (all_items m h xs)
below_by m h k [] zs a l f = tt
below_by m h k (x ∷ xs) zs a l f = Below-from k (all_items m h (x ∷ xs)) zs a l (f (omega arith))

above_by : (m : Store) (h k : ℕ) (ys : List ℕ) → Each (λ d. Filled m h d) ys → Ascending (all_items m h ys) → (g : (y : ℕ) (zs : List ℕ) → ys ≡ y ∷ zs → k < least m h y) → Above k (all_items m h ys)
above_by m h k [] e a g = tt
above_by m h k (y ∷ ys) e a g =
    Above-from k (all_items m h (y ∷ ys)) a (λ l. let i : k < least m h y = g y ys refl in omega (arith, i, first_key-append (items m h y) (all_items m h ys) (filled_some m h y e.0)))

pub descend : (m : Store) (h n k : ℕ) (xs : List ℕ) (c : ℕ) (ys : List ℕ) → Subtree m (suc h) n → child_pages (node m n) ≡ xs ++ (c ∷ ys)
    → (1 ≤ length xs → get_or (keys_of (node m n)) (length xs - 1) 0 ≤ k) → (1 ≤ length ys → k < get_or (keys_of (node m n)) (length xs) 0) → Descent m h k xs c ys
descend m h n k xs c ys s e f g =
    let P : List ℕ → Type 0 = λ cs. Each (λ d. Filled m h d) cs in
    let each : Each (λ d. Filled m h d) (xs ++ (c ∷ ys)) = subst P e s.sound.1 in
    let left = Each-left (λ d. Filled m h d) xs (c ∷ ys) each in
    let right = Each-right (λ d. Filled m h d) xs (c ∷ ys) each in
    let some : 1 ≤ length (items m h c) = filled_some m h c right.0 in
    let owns_row : Owns m h (xs ++ ((c ∷ []) ++ ys)) = λ q. omega (arith, s.owns q, pages_up m h q (n ∷ []), ap (λ (cs : List ℕ). times q (all_pages m h cs)) (one_kids m n ∙ e)) in
    let rest : List Pair = all_items m h (c ∷ ys) in
    let asc : Ascending (all_items m h xs ++ rest) =
    (let Q : List Pair → Type 0 = λ es. Ascending es in subst Q (ap (λ (cs : List ℕ). all_items m h cs) e ∙ flat_map-append (λ d. items m h d) xs (c ∷ ys)) s.ascending) in
    let asc_rest : Ascending (items m h c ++ all_items m h ys) = Ascending-right (all_items m h xs) rest asc in
    let fs : List ℕ = map (λ d. least m h d) xs in
    let gs : List ℕ = map (λ d. least m h d) ys in
    let keys : keys_of (node m n) ≡ drop 1 (fs ++ (least m h c ∷ gs)) = s.sound.0.separators
    ∙ (ap (λ (cs : List ℕ). drop 1 (map (λ d. least m h d) cs)) e ∙ ap (λ (ks : List ℕ). drop 1 ks) (map-append (λ d. least m h d) xs (c ∷ ys))) in
    let lx : length fs ≡ length xs = length-map xs (λ d. least m h d) in
    let first : 1 ≤ length xs → least m h c ≤ k = λ l.
    let at : get_or (keys_of (node m n)) (length xs - 1) 0 ≡ least m h c = ap₂ (λ (ks : List ℕ) (i : ℕ). get_or ks (i - 1) 0) keys (sym lx) ∙ sep_before fs gs (least m h c) (omega arith) in
    omega (arith, f l, at) in
    let first_rest : first_key rest ≡ least m h c = first_key-append (items m h c) (all_items m h ys) some in
    record {
      filled = right.0;
      owns_row = owns_row;
      left = left;
      right = right.1;
      child = record {
        sound = right.0.0;
        owns = λ q. omega (arith, owns_row q, pages-three m h q xs (c ∷ []) ys);
        ascending = Ascending-left (items m h c) (all_items m h ys) asc_rest;
      };
      below = below_by m h k xs rest asc (omega (arith, length-append (items m h c) (all_items m h ys))) (λ l. omega (arith, first l, first_rest));
      above = above_by m h k ys right.1 (Ascending-right (items m h c) (all_items m h ys) asc_rest) (λ y zs i.
          let at : get_or (keys_of (node m n)) (length xs) 0 ≡ least m h y =
          ap₂ (λ (ks : List ℕ) (j : ℕ). get_or ks j 0) (keys ∙ ap (λ (r : List ℕ). drop 1 (fs ++ (least m h c ∷ map (λ d. least m h d) r))) i) (sym lx)
          ∙ sep_behind fs (map (λ d. least m h d) zs) (least m h c) (least m h y) in
          omega (arith, g (omega (arith, ap (λ (r : List ℕ). length r) i)), at));
      first = first;
    }

sounds : (m : Store) (h : ℕ) (cs : List ℕ) → Each (λ d. Filled m h d) cs → Each (λ d. Sound m h d) cs
sounds m h cs e = Each-map (λ d. Filled m h d) (λ d. Sound m h d) (λ d f. f.0) cs e

pub fulls : (m : Store) (h : ℕ) (cs : List ℕ) → Each (λ d. Filled m h d) cs → Each (λ d. few h ≤ size_of (node m d)) cs
fulls m h cs e = Each-map (λ d. Filled m h d) (λ d. few h ≤ size_of (node m d)) (λ d f. f.1) cs e

-- what became of the child, seen in its row
pub rowed : (m w : Store) (h k : ℕ) (xs : List ℕ) (c : ℕ) (ys news : List ℕ) (o : List Pair) (was : Option ℕ) → Descent m h k xs c ys → Alters m w h (c ∷ []) news k o was
    → Alters m w h (xs ++ ((c ∷ []) ++ ys)) (xs ++ (news ++ ys)) k o was
rowed m w h k xs c ys news o was d a = record {
  change = widen m w h xs (c ∷ []) ys news a.change d.owns_row (sounds m h xs d.left) (sounds m h ys d.right);
  items = widen-items m w h xs (c ∷ []) ys news a.change d.owns_row
      ∙ (ap (λ (es : List Pair). all_items m h xs ++ (es ++ all_items m h ys)) a.items
      ∙ (sym (alter_middle k o (all_items m h xs) (all_items m h (c ∷ [])) (all_items m h ys) d.below d.above)
      ∙ ap (λ (es : List Pair). alter k o es) (sym (items-three m h xs (c ∷ []) ys))));
  found = a.found ∙ (sym (find_middle k (all_items m h xs) (all_items m h (c ∷ [])) (all_items m h ys) d.below d.above)
      ∙ ap (λ (es : List Pair). find_item k es) (sym (items-three m h xs (c ∷ []) ys)));
}

pub row_left : (m w : Store) (h k : ℕ) (xs : List ℕ) (c : ℕ) (ys news : List ℕ) (o : List Pair) (was : Option ℕ) → Descent m h k xs c ys
    → Alters m w h (c ∷ []) news k o was → Each (λ d. Stays m w h d) xs
row_left m w h k xs c ys news o was d a = left_stays m w h xs (c ∷ []) ys news a.change d.owns_row

pub row_right : (m w : Store) (h k : ℕ) (xs : List ℕ) (c : ℕ) (ys news : List ℕ) (o : List Pair) (was : Option ℕ) → Descent m h k xs c ys
    → Alters m w h (c ∷ []) news k o was → Each (λ d. Stays m w h d) ys
row_right m w h k xs c ys news o was d a = right_stays m w h xs (c ∷ []) ys news a.change d.owns_row

-- the page above a row stays while the row changes
pub top_stays : (m w : Store) (h n : ℕ) (cs new : List ℕ) → Subtree m (suc h) n → child_pages (node m n) ≡ cs → Change m w h cs new → w n ≡ m n
top_stays m w h n cs new s e c =
    let k : times n (all_pages m h cs) ≡ times n (all_pages m h (all_kids m (n ∷ []))) = ap (λ (r : List ℕ). times n (all_pages m h r)) (sym (one_kids m n ∙ e)) in
    c.frame n (omega (arith, s.owns n, pages_up m h n (n ∷ []), same_self n, live_small m n)) (omega (arith, s.owns n, pages_up m h n (n ∷ []), same_self n, live_small m n, k))

pub top_live : (m : Store) (h n : ℕ) → Subtree m (suc h) n → live m n ≡ 1
top_live m h n s = omega (arith, s.owns n, pages_up m h n (n ∷ []), same_self n, live_small m n)

pub topped : (m w v : Store) (h n : ℕ) (cs new news : List ℕ) → Subtree m (suc h) n → child_pages (node m n) ≡ cs → all_kids v news ≡ new → Change m w h cs new
    → ((q : ℕ) → same q n ≡ 0 → times q news ≡ 0 → v q ≡ w q) → ((q : ℕ) → live v q + same q n ≡ live w q + times q news) → Topped m w v h (n ∷ []) news
topped m w v h n cs new news s e f a tops moved =
    let P : List ℕ → Type 0 = λ r. Change m w h r new in
    let Q : List ℕ → Type 0 = λ r. Change m w h (all_kids m (n ∷ [])) r in
    record {
      kids = subst Q (sym f) (subst P (sym (one_kids m n ∙ e)) a);
      owns = s.owns;
      tops = λ q x y. tops q (omega arith) y;
      moved = λ q. omega (arith, moved q);
    }

-- a row that changed, under tops that were written for it
raise : (m w v : Store) (h n : ℕ) (cs new news : List ℕ) → Subtree m (suc h) n → child_pages (node m n) ≡ cs → all_kids v news ≡ new → Change m w h cs new
    → ((q : ℕ) → same q n ≡ 0 → times q news ≡ 0 → v q ≡ w q) → ((q : ℕ) → live v q + same q n ≡ live w q + times q news)
    → Each (λ t. TopOk (λ c. least w h c) (node v t)) news → Each (λ c. few h ≤ size_of (node w c)) new → Change m v (suc h) (n ∷ []) news × (all_items v (suc h) news ≡ all_items w h new)
raise m w v h n cs new news s e f a tops moved ok full =
    let F : List ℕ → Type 0 = λ r. Each (λ c. few h ≤ size_of (node w c)) r in
    let t : Topped m w v h (n ∷ []) news = topped m w v h n cs new news s e f a tops moved in
    (lift m w v h (n ∷ []) news t ok (subst F (sym f) full), lift-items m w v h (n ∷ []) news t ∙ ap (λ (r : List ℕ). all_items w h r) f)

-- the pairs under a page are those of its row
pub items_beneath : (m : Store) (h n : ℕ) (cs : List ℕ) → child_pages (node m n) ≡ cs → all_items m (suc h) (n ∷ []) ≡ all_items m h cs
items_beneath m h n cs e = items_up m h (n ∷ []) ∙ ap (λ (r : List ℕ). all_items m h r) (one_kids m n ∙ e)

-- what the row's pairs became is what those under the top became
altered : (m w v : Store) (h n k : ℕ) (cs new news : List ℕ) (o : List Pair) (was : Option ℕ) → child_pages (node m n) ≡ cs → Alters m w h cs new k o was
    → Change m v (suc h) (n ∷ []) news × (all_items v (suc h) news ≡ all_items w h new) → Alters m v (suc h) (n ∷ []) news k o was
altered m w v h n k cs new news o was e a r =
    let old : all_items m (suc h) (n ∷ []) ≡ all_items m h cs = items_beneath m h n cs e in
    record {
      change = r.0;
      items = r.1 ∙ (a.items ∙ ap (λ (es : List Pair). alter k o es) (sym old));
      found = a.found ∙ ap (λ (es : List Pair). find_item k es) (sym old);
    }

pub up : (m w v : Store) (h n k : ℕ) (cs new news : List ℕ) (o : List Pair) (was : Option ℕ) → Subtree m (suc h) n → child_pages (node m n) ≡ cs → all_kids v news ≡ new → Alters m w h cs new k o was
    → ((q : ℕ) → same q n ≡ 0 → times q news ≡ 0 → v q ≡ w q) → ((q : ℕ) → live v q + same q n ≡ live w q + times q news)
    → Each (λ t. TopOk (λ c. least w h c) (node v t)) news → Each (λ c. few h ≤ size_of (node w c)) new → Alters m v (suc h) (n ∷ []) news k o was
up m w v h n k cs new news o was s e f a tops moved ok full = altered m w v h n k cs new news o was e a (raise m w v h n cs new news s e f a.change tops moved ok full)

pub top_made : (f : ℕ → ℕ) (o : Node) (ks cs : List ℕ) → o ≡ inner ks cs → ks ≡ drop 1 (map f cs) → 1 ≤ length cs → length cs ≤ 170 → TopOk f o
top_made f o ks cs e s l u =
    let kk : keys_of o ≡ ks = ap (λ (x : Node). keys_of x) e in
    let cc : child_pages o ≡ cs = ap (λ (x : Node). child_pages x) e in
    record {
      is_inner = e ∙ sym (ap₂ (λ (x y : List ℕ). inner x y) kk cc);
      some = omega (arith, ap (λ (x : List ℕ). length x) cc);
      fits = omega (arith, ap (λ (x : List ℕ). length x) cc);
      separators = kk ∙ (s ∙ ap (λ (x : List ℕ). drop 1 (map f x)) (sym cc));
    }

-- the top isn't written: its children are the same, and so are the keys between them
pub up_quiet : (m w : Store) (h n k : ℕ) (cs : List ℕ) (o : List Pair) (was : Option ℕ) → Subtree m (suc h) n → child_pages (node m n) ≡ cs → Alters m w h cs cs k o was
    → drop 1 (map (λ c. least m h c) cs) ≡ drop 1 (map (λ c. least w h c) cs) → Each (λ c. few h ≤ size_of (node w c)) cs → Alters m w (suc h) (n ∷ []) (n ∷ []) k o was
up_quiet m w h n k cs o was s e a seps full =
    let st : w n ≡ m n = top_stays m w h n cs cs s e a.change in
    let no : node w n ≡ node m n = ap (λ (x : Option (List ℕ)). node_in x) st in
    let t : TopOk (λ c. least m h c) (node m n) = s.sound.0 in
    let kids : child_pages (node w n) ≡ cs = ap (λ (x : Node). child_pages x) no ∙ e in
    up m w w h n k cs cs (n ∷ []) o was s e (one_kids w n ∙ kids) a (λ q x y. refl) (λ q. omega arith) (
      top_made (λ c. least w h c) (node w n) (keys_of (node m n)) cs (no ∙ (t.is_inner ∙ ap (λ (x : List ℕ). inner (keys_of (node m n)) x) e))
          (t.separators ∙ (ap (λ (x : List ℕ). drop 1 (map (λ c. least m h c) x)) e ∙ seps)) (omega (arith, t.some, ap (λ (x : List ℕ). length x) e))
          (omega (arith, t.fits, ap (λ (x : List ℕ). length x) e)),
      tt,
    )
    full

-- the top is written
pub raise_written : (m w v : Store) (h n : ℕ) (cs new ks : List ℕ) → Subtree m (suc h) n → child_pages (node m n) ≡ cs → Change m w h cs new
    → Writes w v n (inner ks new) → ks ≡ drop 1 (map (λ c. least w h c) new)
    → 1 ≤ length new → length new ≤ 170 → Each (λ c. few h ≤ size_of (node w c)) new → Change m v (suc h) (n ∷ []) (n ∷ []) × (all_items v (suc h) (n ∷ []) ≡ all_items w h new)
raise_written m w v h n cs new ks s e a wr seps l u full =
    let kids : child_pages (node v n) ≡ new = ap (λ (x : Node). child_pages x) wr.node in
    raise m w v h n cs new (n ∷ []) s e (one_kids v n ∙ kids) a (λ q x y. wr.others q x)
    (λ q. elim (same_cases q n) [
      | inl i ↦ omega (arith, wr.before, wr.now, ap (λ (x : ℕ). live v x) i.1, ap (λ (x : ℕ). live w x) i.1)
      | inr i ↦ omega (arith, live_same w v q (wr.others q i.0))
    ])
    (top_made (λ c. least w h c) (node v n) ks new wr.node seps l u, tt)
    full

pub up_written : (m w v : Store) (h n k : ℕ) (cs new ks : List ℕ) (o : List Pair) (was : Option ℕ) → Subtree m (suc h) n → child_pages (node m n) ≡ cs → Alters m w h cs new k o was
    → Writes w v n (inner ks new) → ks ≡ drop 1 (map (λ c. least w h c) new) → 1 ≤ length new → length new ≤ 170 → Each (λ c. few h ≤ size_of (node w c)) new
    → Alters m v (suc h) (n ∷ []) (n ∷ []) k o was
up_written m w v h n k cs new ks o was s e a wr seps l u full = altered m w v h n k cs new (n ∷ []) o was e a (raise_written m w v h n cs new ks s e a.change wr seps l u full)

pub cut_moved : (w v : Store) (n r : ℕ) (o p : Node) → Cuts w v n r o p → (q : ℕ) → live v q + same q n ≡ live w q + times q (n ∷ (r ∷ []))
cut_moved w v n r o p cut q = elim (same_cases q n) [
  | inl i ↦ elim (same_cases q r) [
    | inl j ↦ absurd (omega (arith, cut.before, cut.gained, ap (λ (x : ℕ). live w x) i.1, ap (λ (x : ℕ). live w x) j.1))
    | inr j ↦ omega (arith, cut.before, cut.now, ap (λ (x : ℕ). live v x) i.1, ap (λ (x : ℕ). live w x) i.1)
  ]
  | inr i ↦ elim (same_cases q r) [
    | inl j ↦ omega (arith, cut.gained, cut.right, ap (λ (x : ℕ). live v x) j.1, ap (λ (x : ℕ). live w x) j.1)
    | inr j ↦ omega (arith, live_same w v q (cut.others q i.0 j.0))
  ]
]

-- the top is cut in two
pub up_cut : (m w v : Store) (h n r k : ℕ) (cs new lk lc rk rc : List ℕ) (o : List Pair) (was : Option ℕ) → Subtree m (suc h) n → child_pages (node m n) ≡ cs → Alters m w h cs new k o was
    → Cuts w v n r (inner lk lc) (inner rk rc) → lc ++ rc ≡ new → lk ≡ drop 1 (map (λ c. least w h c) lc) → rk ≡ drop 1 (map (λ c. least w h c) rc)
    → 1 ≤ length lc → length lc ≤ 170 → 1 ≤ length rc → length rc ≤ 170 → Each (λ c. few h ≤ size_of (node w c)) new → Alters m v (suc h) (n ∷ []) (n ∷ (r ∷ [])) k o was
up_cut m w v h n r k cs new lk lc rk rc o was s e a cut joined sl sr l1 u1 l2 u2 full =
    let kn : child_pages (node v n) ≡ lc = ap (λ (x : Node). child_pages x) cut.node in
    let kr : child_pages (node v r) ≡ rc = ap (λ (x : Node). child_pages x) cut.right_node in
    let kids : all_kids v (n ∷ (r ∷ [])) ≡ new = ap₂ (λ (x y : List ℕ). x ++ y) kn (one_kids v r ∙ kr) ∙ joined in
    up m w v h n k cs new (n ∷ (r ∷ [])) o was s e kids a (λ q x y. cut.others q x (omega arith))
    (cut_moved w v n r (inner lk lc) (inner rk rc) cut)
    (top_made (λ c. least w h c) (node v n) lk lc cut.node sl l1 u1, (top_made (λ c. least w h c) (node v r) rk rc cut.right_node sr l2 u2, tt))
    full
