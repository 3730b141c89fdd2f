-- Rows of trees that stay or become other rows: the three moves that carry insertion and removal alike.
use Rattle.std.proofs.Common.{◌≡◌, ℕ, zero, suc, ◌+◌, ◌≤◌, List, [], ◌∷◌, ◌++◌, length, map, drop, refl, sym, ◌∙◌, ap, ap₂, subst, inl, inr, arith}
use Rattle.std.specs.Prelude.{Option}
use Rattle.std.specs.List.{flat_map}
use Rattle.std.proofs.lemmas.List.Concat.{flat_map-append}
use Rattle.std.proofs.lemmas.Bool.Decides.{leb_tells}
use Rattle.code_btree.specs.Node.{Pair, Node, inner, entries_of, next_of, keys_of, child_pages, size_of}
use Rattle.code_btree.specs.Items.{Each}
use Rattle.code_btree.specs.Tree.{Store, node_in, node, items, pages, links, all_items, all_pages, all_links, first_key, least, same, times, live, Owns, Path, LeafOk, TopOk, few, Sound, Filled}
use Rattle.code_btree.specs.Steps.{Change}
use Rattle.code_btree.proofs.Lists.{same_self, live_small, live_same, times-append, Each-append, Each-map, Each-zip, Each-flat, flat_map-same, map-same, flat_map-flat}
use Rattle.code_btree.proofs.Lists.{times-heads, Path-append, Path-split}

-- the tree under page n is in w what it is in m
pub record Stays (m w : Store) (h n : ℕ) : Type 0 where
  pub items : Rattle.code_btree.specs.Tree.items w h n ≡ Rattle.code_btree.specs.Tree.items m h n
  pub pages : Rattle.code_btree.specs.Tree.pages w h n ≡ Rattle.code_btree.specs.Tree.pages m h n
  pub links : Rattle.code_btree.specs.Tree.links w h n ≡ Rattle.code_btree.specs.Tree.links m h n
  pub node : Rattle.code_btree.specs.Tree.node w n ≡ Rattle.code_btree.specs.Tree.node m n
  pub sound : Sound m h n → Sound w h n

top_same : (f g : ℕ → ℕ) (o p : Node) → p ≡ o → map g (child_pages o) ≡ map f (child_pages o) → TopOk f o → TopOk g p
top_same f g o p e s t =
    let c : child_pages p ≡ child_pages o = ap (λ (x : Node). child_pages x) e in
    let k : keys_of p ≡ keys_of o = ap (λ (x : Node). keys_of x) e in
    record {
      is_inner = e ∙ (t.is_inner ∙ sym (ap₂ (λ (x y : List ℕ). inner x y) k c));
      some = omega (arith, ap (λ (x : List ℕ). length x) c, t.some);
      fits = omega (arith, ap (λ (x : List ℕ). length x) c, t.fits);
      separators = k ∙ (t.separators ∙ ap (λ (x : List ℕ). drop 1 x) (sym (ap (λ (x : List ℕ). map g x) c ∙ s)));
    }

leaf_same : (o p : Node) → p ≡ o → LeafOk o → LeafOk p
leaf_same o p e h = subst LeafOk (sym e) h

size_same : (h : ℕ) (o p : Node) → p ≡ o → few h ≤ size_of o → few h ≤ size_of p
size_same h o p e l = omega (arith, ap (λ (x : Node). size_of x) e, l)

-- each tree of a row stays where its pages do
row_by : (m w : Store) (h : ℕ) (tree : (n : ℕ) → ((q : ℕ) → 1 ≤ times q (pages m h n) → w q ≡ m q) → Stays m w h n)
    (cs : List ℕ) → ((q : ℕ) → 1 ≤ times q (all_pages m h cs) → w q ≡ m q) → Each (λ c. Stays m w h c) cs
row_by m w h tree [] f = tt
row_by m w h tree (c ∷ cs) f = (
  tree c (λ q l. f q (omega (arith, times-append q (pages m h c) (all_pages m h cs)))),
  row_by m w h tree cs (λ q l. f q (omega (arith, times-append q (pages m h c) (all_pages m h cs)))),
)

pub row_items : (m w : Store) (h : ℕ) (cs : List ℕ) → Each (λ c. Stays m w h c) cs → all_items w h cs ≡ all_items m h cs
row_items m w h cs e = flat_map-same (λ c. items w h c) (λ c. items m h c) cs (Each-map (λ c. Stays m w h c) (λ c. items w h c ≡ items m h c) (λ c s. s.items) cs e)

pub row_pages : (m w : Store) (h : ℕ) (cs : List ℕ) → Each (λ c. Stays m w h c) cs → all_pages w h cs ≡ all_pages m h cs
row_pages m w h cs e = flat_map-same (λ c. pages w h c) (λ c. pages m h c) cs (Each-map (λ c. Stays m w h c) (λ c. pages w h c ≡ pages m h c) (λ c s. s.pages) cs e)

pub row_links : (m w : Store) (h : ℕ) (cs : List ℕ) → Each (λ c. Stays m w h c) cs → all_links w h cs ≡ all_links m h cs
row_links m w h cs e = flat_map-same (λ c. links w h c) (λ c. links m h c) cs (Each-map (λ c. Stays m w h c) (λ c. links w h c ≡ links m h c) (λ c s. s.links) cs e)

pub row_least : (m w : Store) (h : ℕ) (cs : List ℕ) → Each (λ c. Stays m w h c) cs → map (λ c. least w h c) cs ≡ map (λ c. least m h c) cs
row_least m w h cs e = map-same (λ c. least w h c) (λ c. least m h c) cs (Each-map (λ c. Stays m w h c) (λ c. least w h c ≡ least m h c) (λ c s. ap (λ (x : List Pair). first_key x) s.items) cs e)

pub row_sound : (m w : Store) (h : ℕ) (cs : List ℕ) → Each (λ c. Stays m w h c) cs → Each (λ c. Sound m h c) cs → Each (λ c. Sound w h c) cs
row_sound m w h cs e s = Each-zip (λ c. Stays m w h c) (λ c. Sound m h c) (λ c. Sound w h c) (λ c x y. x.sound y) cs e s

pub row_full : (m w : Store) (h : ℕ) (cs : List ℕ) → Each (λ c. Stays m w h c) cs → Each (λ c. few h ≤ size_of (node m c)) cs → Each (λ c. few h ≤ size_of (node w c)) cs
row_full m w h cs e s = Each-zip (λ c. Stays m w h c) (λ c. few h ≤ size_of (node m c)) (λ c. few h ≤ size_of (node w c)) (λ c x y. size_same h (node m c) (node w c) x.node y) cs e s

pub row_filled : (m w : Store) (h : ℕ) (cs : List ℕ) → Each (λ c. Stays m w h c) cs → Each (λ c. Filled m h c) cs → Each (λ c. Filled w h c) cs
row_filled m w h cs e s = Each-zip (λ c. Stays m w h c) (λ c. Filled m h c) (λ c. Filled w h c) (λ c x y. (x.sound y.0, size_same h (node m c) (node w c) x.node y.1)) cs e s

pub tree_stays : (m w : Store) (h n : ℕ) → ((q : ℕ) → 1 ≤ times q (pages m h n) → w q ≡ m q) → Stays m w h n
tree_stays m w zero n f =
    let e : node w n ≡ node m n = ap (λ (o : Option (List ℕ)). node_in o) (f n (omega (arith, same_self n))) in
    record {
      items = ap (λ (o : Node). entries_of o) e;
      pages = refl;
      links = ap (λ (o : Node). (n, next_of o) ∷ []) e;
      node = e;
      sound = λ s. leaf_same (node m n) (node w n) e s;
    }
tree_stays m w (suc h) n f =
    let e : node w n ≡ node m n = ap (λ (o : Option (List ℕ)). node_in o) (f n (omega (arith, same_self n))) in
    let c : child_pages (node w n) ≡ child_pages (node m n) = ap (λ (o : Node). child_pages o) e in
    let row : Each (λ d. Stays m w h d) (child_pages (node m n)) = row_by m w h (λ d. tree_stays m w h d) (child_pages (node m n)) (λ q l. f q (omega arith)) in
    record {
      items = ap (λ (cs : List ℕ). all_items w h cs) c ∙ row_items m w h (child_pages (node m n)) row;
      pages = ap (λ (ps : List ℕ). n ∷ ps) (ap (λ (cs : List ℕ). all_pages w h cs) c ∙ row_pages m w h (child_pages (node m n)) row);
      links = ap (λ (cs : List ℕ). all_links w h cs) c ∙ row_links m w h (child_pages (node m n)) row;
      node = e;
      sound = λ s. (
        top_same (λ d. least m h d) (λ d. least w h d) (node m n) (node w n) e (row_least m w h (child_pages (node m n)) row) s.0,
        (let P : List ℕ → Type 0 = λ cs. Each (λ d. Filled w h d) cs in subst P (sym c) (row_filled m w h (child_pages (node m n)) row s.1)),
      );
    }

pub row_stays : (m w : Store) (h : ℕ) (cs : List ℕ) → ((q : ℕ) → 1 ≤ times q (all_pages m h cs) → w q ≡ m q) → Each (λ c. Stays m w h c) cs
row_stays m w h cs f = row_by m w h (λ d. tree_stays m w h d) cs f

pub change_none : (m : Store) (h : ℕ) (cs : List ℕ) → Each (λ c. Sound m h c) cs → Change m m h cs cs
change_none m h cs s = record { sound = s; frame = λ q _ _. refl; moved = λ q. refl; linked = λ s e p. p }

pub change_next : (m w v : Store) (h : ℕ) (old mid new : List ℕ) → Owns m h old → Change m w h old mid → Change w v h mid new → Change m v h old new
change_next m w v h old mid new owns a b = record {
  sound = b.sound;
  frame = λ q l z.
      let e : w q ≡ m q = a.frame q l z in
      b.frame q (omega (arith, live_same m w q e)) (omega (arith, a.moved q, live_same m w q e)) ∙ e;
  moved = λ q. omega (arith, a.moved q, b.moved q);
  linked = λ s e p. b.linked s e (a.linked s e p);
}

pub owns_after : (m w : Store) (h : ℕ) (old new : List ℕ) → Change m w h old new → Owns m h old → Owns w h new
owns_after m w h old new c o = λ q. omega (arith, c.moved q, o q)

pub pages-append : (m : Store) (h q : ℕ) (xs ys : List ℕ) → times q (all_pages m h (xs ++ ys)) ≡ times q (all_pages m h xs) + times q (all_pages m h ys)
pages-append m h q xs ys = ap (λ (ps : List ℕ). times q ps) (flat_map-append (λ c. pages m h c) xs ys) ∙ times-append q (all_pages m h xs) (all_pages m h ys)

pub pages-three : (m : Store) (h q : ℕ) (xs ys zs : List ℕ) → times q (all_pages m h (xs ++ (ys ++ zs))) ≡ times q (all_pages m h xs) + (times q (all_pages m h ys) + times q (all_pages m h zs))
pages-three m h q xs ys zs = omega (arith, pages-append m h q xs (ys ++ zs), pages-append m h q ys zs)

-- the trees beside a row that changed stay
pub left_stays : (m w : Store) (h : ℕ) (xs old ys new : List ℕ) → Change m w h old new → Owns m h (xs ++ (old ++ ys)) → Each (λ c. Stays m w h c) xs
left_stays m w h xs old ys new c o = row_stays m w h xs
    (λ q l. c.frame q (omega (arith, pages-three m h q xs old ys, o q, live_small m q)) (omega (arith, pages-three m h q xs old ys, o q, live_small m q)))

pub right_stays : (m w : Store) (h : ℕ) (xs old ys new : List ℕ) → Change m w h old new → Owns m h (xs ++ (old ++ ys)) → Each (λ c. Stays m w h c) ys
right_stays m w h xs old ys new c o = row_stays m w h ys
    (λ q l. c.frame q (omega (arith, pages-three m h q xs old ys, o q, live_small m q)) (omega (arith, pages-three m h q xs old ys, o q, live_small m q)))

pub links-three : (m : Store) (h : ℕ) (xs ys zs : List ℕ) → all_links m h (xs ++ (ys ++ zs)) ≡ all_links m h xs ++ (all_links m h ys ++ all_links m h zs)
links-three m h xs ys zs = flat_map-append (λ c. links m h c) xs (ys ++ zs) ∙ ap (λ (r : List (ℕ × ℕ)). all_links m h xs ++ r) (flat_map-append (λ c. links m h c) ys zs)

pub items-three : (m : Store) (h : ℕ) (xs ys zs : List ℕ) → all_items m h (xs ++ (ys ++ zs)) ≡ all_items m h xs ++ (all_items m h ys ++ all_items m h zs)
items-three m h xs ys zs = flat_map-append (λ c. items m h c) xs (ys ++ zs) ∙ ap (λ (r : List Pair). all_items m h xs ++ r) (flat_map-append (λ c. items m h c) ys zs)

-- a row changes where a part of it does
pub widen : (m w : Store) (h : ℕ) (xs old ys new : List ℕ) → Change m w h old new → Owns m h (xs ++ (old ++ ys)) → Each (λ c. Sound m h c) xs → Each (λ c. Sound m h c) ys
    → Change m w h (xs ++ (old ++ ys)) (xs ++ (new ++ ys))
widen m w h xs old ys new c o sx sy =
    let l = left_stays m w h xs old ys new c o in
    let r = right_stays m w h xs old ys new c o in
    let px : all_pages w h xs ≡ all_pages m h xs = row_pages m w h xs l in
    let py : all_pages w h ys ≡ all_pages m h ys = row_pages m w h ys r in
    record {
      sound = Each-append (λ x. Sound w h x) xs (new ++ ys) (row_sound m w h xs l sx) (Each-append (λ x. Sound w h x) new ys c.sound (row_sound m w h ys r sy));
      frame = λ q a b. c.frame q a (omega (arith, pages-three m h q xs old ys, b));
      moved = λ q. omega (arith, pages-three m h q xs old ys, pages-three w h q xs new ys, ap (λ (ps : List ℕ). times q ps) px, ap (λ (ps : List ℕ). times q ps) py, c.moved q);
      linked = λ s e p.
          let P : List (ℕ × ℕ) → Type 0 = λ ls. Path s ls e in
          let a = Path-split s e (all_links m h xs) (all_links m h old ++ all_links m h ys) (subst P (links-three m h xs old ys) p) in
          let b = Path-split a.0 e (all_links m h old) (all_links m h ys) a.1.1 in
          let X : List (ℕ × ℕ) → Type 0 = λ ls. Path s ls a.0 in
          let Y : List (ℕ × ℕ) → Type 0 = λ ls. Path b.0 ls e in
          subst P (sym (links-three w h xs new ys))
          (Path-append s a.0 e (all_links w h xs) (all_links w h new ++ all_links w h ys) (subst X (sym (row_links m w h xs l)) a.1.0)
          (Path-append a.0 b.0 e (all_links w h new) (all_links w h ys) (c.linked a.0 b.0 b.1.0) (subst Y (sym (row_links m w h ys r)) b.1.1)));
    }

pub widen-items : (m w : Store) (h : ℕ) (xs old ys new : List ℕ) → Change m w h old new → Owns m h (xs ++ (old ++ ys))
    → all_items w h (xs ++ (new ++ ys)) ≡ all_items m h xs ++ (all_items w h new ++ all_items m h ys)
widen-items m w h xs old ys new c o =
    items-three w h xs new ys
    ∙ ap₂ (λ (a b : List Pair). a ++ (all_items w h new ++ b)) (row_items m w h xs (left_stays m w h xs old ys new c o)) (row_items m w h ys (right_stays m w h xs old ys new c o))

-- the children of a row of inner pages
abbrev pub all_kids : Store → List ℕ → List ℕ
all_kids m ns = flat_map (λ n. child_pages (node m n)) ns

pub pages_up : (m : Store) (h q : ℕ) (ns : List ℕ) → times q (all_pages m (suc h) ns) ≡ times q ns + times q (all_pages m h (all_kids m ns))
pages_up m h q ns = times-heads q (λ n. all_pages m h (child_pages (node m n))) ns
    ∙ ap (λ (ps : List ℕ). times q ns + times q ps) (sym (flat_map-flat (λ c. pages m h c) (λ n. child_pages (node m n)) ns))

pub items_up : (m : Store) (h : ℕ) (ns : List ℕ) → all_items m (suc h) ns ≡ all_items m h (all_kids m ns)
items_up m h ns = sym (flat_map-flat (λ c. items m h c) (λ n. child_pages (node m n)) ns)

pub links_up : (m : Store) (h : ℕ) (ns : List ℕ) → all_links m (suc h) ns ≡ all_links m h (all_kids m ns)
links_up m h ns = sym (flat_map-flat (λ c. links m h c) (λ n. child_pages (node m n)) ns)

-- the children of a row of tops changed, and then the tops themselves were written, gained or freed
pub record Topped (m w v : Store) (h : ℕ) (olds news : List ℕ) : Type 0 where
  pub kids : Change m w h (all_kids m olds) (all_kids v news)
  pub owns : Owns m (suc h) olds
  pub tops : (q : ℕ) → times q olds ≡ 0 → times q news ≡ 0 → v q ≡ w q
  pub moved : (q : ℕ) → live v q + times q olds ≡ live w q + times q news

apart_fact : (lm lw lv o n ko kn : ℕ) → o + ko ≤ lm → lm ≤ 1 → lv ≤ 1 → lw + ko ≡ lm + kn → (lm ≡ 1 → ko ≡ 0 → lw ≡ lm) → lv + o ≡ lw + n → 1 ≤ kn → (o ≡ 0) × (n ≡ 0)
apart_fact lm lw lv o n ko kn a b c d f g l = elim (leb_tells 1 o) [
  | inr z ↦ (omega arith, omega arith)
  | inl p ↦ absurd (let e : lm ≡ 1 = omega arith in let k : ko ≡ 0 = omega arith in let x : lw ≡ lm = f e k in omega arith)
]

pub kids_stay : (m w v : Store) (h : ℕ) (olds news : List ℕ) → Topped m w v h olds news → Each (λ c. Stays w v h c) (all_kids v news)
kids_stay m w v h olds news t = row_stays w v h (all_kids v news) (λ q l.
    let x = apart_fact (live m q) (live w q) (live v q) (times q olds) (times q news) (times q (all_pages m h (all_kids m olds))) (times q (all_pages w h (all_kids v news)))
    (omega (arith, t.owns q, pages_up m h q olds)) (live_small m q) (live_small v q) (t.kids.moved q) (λ a b. live_same m w q (t.kids.frame q a b)) (t.moved q) l in
    t.tops q x.0 x.1)

sounds_up : (w v : Store) (h : ℕ) (ns : List ℕ) → Each (λ n. TopOk (λ c. least w h c) (node v n)) ns → Each (λ n. Each (λ c. Stays w v h c) (child_pages (node v n))) ns
    → Each (λ n. Each (λ c. Filled w h c) (child_pages (node v n))) ns → Each (λ n. Sound v (suc h) n) ns
sounds_up w v h [] a b c = tt
sounds_up w v h (n ∷ ns) a b c = (
  (
    top_same (λ d. least w h d) (λ d. least v h d) (node v n) (node v n) refl (row_least w v h (child_pages (node v n)) b.0) a.0,
    row_filled w v h (child_pages (node v n)) b.0 c.0,
  ),
  sounds_up w v h ns a.1 b.1 c.1,
)

pub lift : (m w v : Store) (h : ℕ) (olds news : List ℕ) → Topped m w v h olds news → Each (λ n. TopOk (λ c. least w h c) (node v n)) news
    → Each (λ c. few h ≤ size_of (node w c)) (all_kids v news) → Change m v (suc h) olds news
lift m w v h olds news t tops full =
    let stay = kids_stay m w v h olds news t in
    let filled : Each (λ c. Filled w h c) (all_kids v news) = Each-zip (λ c. Sound w h c) (λ c. few h ≤ size_of (node w c)) (λ c. Filled w h c) (λ c x y. (x, y)) (all_kids v news) t.kids.sound full in
    let ps : all_pages v h (all_kids v news) ≡ all_pages w h (all_kids v news) = row_pages w v h (all_kids v news) stay in
    record {
      sound = sounds_up w v h news tops (Each-flat (λ c. Stays w v h c) (λ n. child_pages (node v n)) news stay) (Each-flat (λ c. Filled w h c) (λ n. child_pages (node v n)) news filled);
      frame = λ q a b.
          let z : times q olds ≡ 0 = omega (arith, pages_up m h q olds, b) in
          let k : times q (all_pages m h (all_kids m olds)) ≡ 0 = omega (arith, pages_up m h q olds, b) in
          let e : w q ≡ m q = t.kids.frame q a k in
          t.tops q z (omega (arith, t.moved q, live_same m w q e, live_small v q)) ∙ e;
      moved = λ q. omega (arith, pages_up m h q olds, pages_up v h q news, ap (λ (x : List ℕ). times q x) ps, t.kids.moved q, t.moved q);
      linked = λ s e p.
          let P : List (ℕ × ℕ) → Type 0 = λ ls. Path s ls e in
          subst P (sym (links_up v h news ∙ row_links w v h (all_kids v news) stay)) (t.kids.linked s e (subst P (links_up m h olds) p));
    }

pub lift-items : (m w v : Store) (h : ℕ) (olds news : List ℕ) → Topped m w v h olds news → all_items v (suc h) news ≡ all_items w h (all_kids v news)
lift-items m w v h olds news t = items_up v h news ∙ row_items w v h (all_kids v news) (kids_stay m w v h olds news t)
