-- A pair put under an inner page, in the code's words.
use Rattle.std.proofs.Common.{◌≡◌, ℕ, suc, ◌+◌, ◌-◌, ◌<◌, ◌≤◌, List, [], ◌∷◌, ◌++◌, length, get_or, take, drop, map, refl, sym, ◌∙◌, ap, ap₂, subst, inl, inr, arith}
use Rattle.std.proofs.Common.{length-append, length-take, length-drop, take-append-drop, take_at, drop_at}
use Rattle.std.specs.Prelude.{Option, Some}
use Rattle.std.proofs.lemmas.List.{map-append, length-map, drop_more}
use Rattle.std.proofs.lemmas.Bool.Decides.{leb_tells}
use Rattle.code_btree.specs.Node.{Pair, Node, inner, node_of, keys_of, child_pages, size_of, IsInnerOf, key_in, child_in}
use Rattle.code_btree.specs.Items.{Each, Above, Ascending}
use Rattle.code_btree.specs.Tree.{Store, node_in, node, items, all_items, first_key, least, live, few, Sound, Filled}
use Rattle.code_btree.specs.Steps.{Alters, alter, Subtree, HalvesInner, InsertsUnder, Adopts, put_at}
use Rattle.code_btree.specs.declared.insert.Grown.{Grown}
use Rattle.code_btree.specs.declared.insert.Grown.TheVariants.{Kept, Split}
use Rattle.code_btree.proofs.Lists.{Each-append, Each-right, Each-zip}
use Rattle.code_btree.proofs.Orders.{below-Above}
use Rattle.code_btree.proofs.Moves.{Stays, row_items, row_least, row_full, all_kids, kids_stay}
use Rattle.code_btree.proofs.Seps.{seps_insert, seps_same, seps_join, first_of_list}
use Rattle.code_btree.proofs.Halves.{length-put_at, put_right}
use Rattle.code_btree.proofs.Looks.{key_is, child_is}
use Rattle.code_btree.proofs.Leaves.{here}
use Rattle.code_btree.proofs.Rises.{Descent, descend, rowed, row_left, row_right, fulls, filled_some, first_key-append, one_items, one_kids, top_stays, top_live, topped}
use Rattle.code_btree.proofs.Rises.{cut_moved, up_quiet, up_written, up_cut}

-- the first key stays where a pair is put at it or behind it
first_put : (k v : ℕ) (es : List Pair) → Ascending es → 1 ≤ length es → first_key es ≤ k → first_key (alter k ((k, v) ∷ []) es) ≡ first_key es
first_put k v [] a l f = absurd (omega arith)
first_put k v (e ∷ es) a l f =
    elim (leb_tells (suc e.0) k) [
      | inl x ↦ rw x.0
      | inr x ↦
          let same_key : e.0 ≡ k = omega arith in
          let above : Above k es = (let P : ℕ → Type 0 = λ i. Above i es in subst P same_key a.0) in
          rw (x.0, below-Above k es above) (sym same_key)
    ]

-- the code's facts at an inner page
pub record At (m : Store) (h n k : ℕ) (p : List ℕ) (count at : ℕ) : Type 0 where
  pub is : IsInnerOf p count
  pub place : at ≤ count
  pub read : m n ≡ Some p
  pub tree : Subtree m (suc h) n
  pub split : child_pages (node m n) ≡ take at (child_pages (node_of p)) ++ (child_in p at ∷ drop (at + 1) (child_pages (node_of p)))
  pub front : length (take at (child_pages (node_of p))) ≡ at
  pub descent : Descent m h k (take at (child_pages (node_of p))) (child_in p at) (drop (at + 1) (child_pages (node_of p)))

pub at_page : (m : Store) (h n k : ℕ) (p : List ℕ) (count at : ℕ) → m n ≡ Some p → Subtree m (suc h) n → IsInnerOf p count → at ≤ count
    → (1 ≤ at → key_in p (at - 1) ≤ k) → (at < count → k < key_in p at) → At m h n k p count at
at_page m h n k p count at e s is l f g =
    let cs : List ℕ = child_pages (node_of p) in
    let hh : node m n ≡ node_of p = here m n p e in
    let lc : length cs ≡ count + 1 = is.children in
    let lx : length (take at cs) ≡ at = omega (arith, length-take at cs) in
    let ly : length (drop (at + 1) cs) ≡ (count + 1) - (at + 1) = omega (arith, length-drop (at + 1) cs) in
    let sp : child_pages (node m n) ≡ take at cs ++ (child_in p at ∷ drop (at + 1) cs) =
    ap (λ (o : Node). child_pages o) hh ∙ (sym (take-append-drop at cs)
    ∙ ap (λ (r : List ℕ). take at cs ++ r) (drop_more cs at 0 (omega arith) ∙ ap (λ (x : ℕ). x ∷ drop (at + 1) cs) (child_is p count at is (omega arith)))) in
    let kk : keys_of (node m n) ≡ keys_of (node_of p) = ap (λ (o : Node). keys_of o) hh in
    record {
      is = is;
      place = l;
      read = e;
      tree = s;
      split = sp;
      front = lx;
      descent = descend m h n k (take at cs) (child_in p at) (drop (at + 1) cs) s sp
          (λ i. omega (arith, f (omega arith), key_is p count (at - 1) is (omega arith), ap₂ (λ (ks : List ℕ) (j : ℕ). get_or ks (j - 1) 0) kk lx))
          (λ i. omega (arith, g (omega arith), key_is p count at is (omega arith), ap₂ (λ (ks : List ℕ) (j : ℕ). get_or ks j 0) kk lx));
    }

least_new : (m w : Store) (h k v : ℕ) (c : ℕ) (rest : List ℕ) → Subtree m h c → Filled m h c → least m h c ≤ k
    → all_items w h (c ∷ rest) ≡ alter k ((k, v) ∷ []) (all_items m h (c ∷ [])) → 1 ≤ length (items w h c) → least w h c ≡ least m h c
least_new m w h k v c rest s f l e some =
    sym (first_key-append (items w h c) (all_items w h rest) some)
    ∙ (ap (λ (x : List Pair). first_key x) (e ∙ ap (λ (x : List Pair). alter k ((k, v) ∷ []) x) (one_items m h c)) ∙ first_put k v (items m h c) s.ascending (filled_some m h c f) l)

-- the child is whole
pub insert_quiet : (m0 m w : Store) (h n k v count at : ℕ) (p : List ℕ) (was : Option ℕ) → m0 ≡ m → At m h n k p count at
    → InsertsUnder m0 w h (child_in p at) k v was Kept → InsertsUnder m w (suc h) n k v was Kept
insert_quiet m0 m w h n k v count at p was e0 t i0 =
    let i : InsertsUnder m w h (child_in p at) k v was Kept = (let P : Store → Type 0 = λ x. InsertsUnder x w h (child_in p at) k v was Kept in subst P e0 i0) in
    let xs : List ℕ = take at (child_pages (node_of p)) in
    let ys : List ℕ = drop (at + 1) (child_pages (node_of p)) in
    let c : ℕ = child_in p at in
    let d = t.descent in
    let a = rowed m w h k xs c ys (c ∷ []) ((k, v) ∷ []) was d i.alters in
    let lx = row_left m w h k xs c ys (c ∷ []) ((k, v) ∷ []) was d i.alters in
    let ly = row_right m w h k xs c ys (c ∷ []) ((k, v) ∷ []) was d i.alters in
    let full_c : few h ≤ size_of (node w c) = omega (arith, i.grows, d.filled.1) in
    let some : 1 ≤ length (items w h c) = filled_some w h c (i.alters.change.sound.0, full_c) in
    let same_least : 1 ≤ length xs → least w h c ≡ least m h c = λ o. least_new m w h k v c [] d.child d.filled (d.first o) i.alters.items some in
    let fs : List ℕ = map (λ x. least m h x) xs in
    let gs : List ℕ = map (λ x. least m h x) ys in
    let mapped_m : map (λ x. least m h x) (xs ++ (c ∷ ys)) ≡ fs ++ (least m h c ∷ gs) = map-append (λ x. least m h x) xs (c ∷ ys) in
    let mapped_w : map (λ x. least w h x) (xs ++ (c ∷ ys)) ≡ fs ++ (least w h c ∷ gs) =
    map-append (λ x. least w h x) xs (c ∷ ys) ∙ ap₂ (λ (x y : List ℕ). x ++ (least w h c ∷ y)) (row_least m w h xs lx) (row_least m w h ys ly) in
    let seps : drop 1 (map (λ x. least m h x) (xs ++ (c ∷ ys))) ≡ drop 1 (map (λ x. least w h x) (xs ++ (c ∷ ys))) =
    ap (λ (x : List ℕ). drop 1 x) mapped_m ∙ (seps_same fs gs (least m h c) (least w h c) (λ o. same_least (omega (arith, length-map xs (λ x. least m h x))))
    ∙ ap (λ (x : List ℕ). drop 1 x) (sym mapped_w)) in
    let full : Each (λ x. few h ≤ size_of (node w x)) (xs ++ (c ∷ ys)) =
    Each-append (λ x. few h ≤ size_of (node w x)) xs (c ∷ ys) (row_full m w h xs lx (fulls m h xs d.left)) (full_c, row_full m w h ys ly (fulls m h ys d.right)) in
    let st : w n ≡ m n = top_stays m w h n (xs ++ (c ∷ ys)) (xs ++ (c ∷ ys)) t.tree t.split a.change in
    record {
      alters = up_quiet m w h n k (xs ++ (c ∷ ys)) ((k, v) ∷ []) was t.tree t.split a seps full;
      grows = omega (arith, ap (λ (o : Option (List ℕ)). size_of (node_in o)) st);
    }

-- lists of equal lengths in front are equal, and so are the rests
same_front : (xs ys zs ws : List ℕ) → length xs ≡ length ys → xs ++ zs ≡ ys ++ ws → (xs ≡ ys) × (zs ≡ ws)
same_front xs ys zs ws l e = (
  sym (take_at xs zs (length xs) refl) ∙ (ap (λ (r : List ℕ). take (length xs) r) e ∙ take_at ys ws (length xs) (sym l)),
  sym (drop_at xs zs (length xs) refl) ∙ (ap (λ (r : List ℕ). drop (length xs) r) e ∙ drop_at ys ws (length xs) (sym l)),
)

-- separators shared out with the key between them
pub seps_split : (f : ℕ → ℕ) (lk lc : List ℕ) (up : ℕ) (rk rc ks cs : List ℕ) → ks ≡ drop 1 (map f cs) → HalvesInner lk lc up rk rc ks cs
    → (lk ≡ drop 1 (map f lc)) × ((up ≡ first_of_list (map f rc)) × (rk ≡ drop 1 (map f rc)))
seps_split f lk lc up rk rc ks cs e h =
    let fl : List ℕ = map f lc in
    let fr : List ℕ = map f rc in
    let ll : length fl ≡ length lc = length-map lc f in
    let lr : length fr ≡ length rc = length-map rc f in
    let j : lk ++ (up ∷ rk) ≡ drop 1 fl ++ (first_of_list fr ∷ drop 1 fr) =
    h.keys ∙ (e ∙ (ap (λ (x : List ℕ). drop 1 (map f x)) (sym h.children)
    ∙ (ap (λ (x : List ℕ). drop 1 x) (map-append f lc rc) ∙ sym (seps_join fl fr (omega (arith, h.left)) (omega (arith, h.right)))))) in
    let s = same_front lk (drop 1 fl) (up ∷ rk) (first_of_list fr ∷ drop 1 fr) (omega (arith, length-drop 1 fl, h.left)) j in
    (s.0, (ap (λ (x : List ℕ). first_of_list x) s.1, ap (λ (x : List ℕ). drop 1 x) s.1))

pub first_least : (w : Store) (h : ℕ) (rc : List ℕ) → 1 ≤ length rc → Each (λ x. Filled w h x) rc → first_key (all_items w h rc) ≡ first_of_list (map (λ x. least w h x) rc)
first_least w h [] l e = absurd (omega arith)
first_least w h (c ∷ rc) l e = first_key-append (items w h c) (all_items w h rc) (filled_some w h c e.0)

-- a page whose child was split is live still
adopter_live : (m0 m w : Store) (h n k val count at up r : ℕ) (p : List ℕ) (was : Option ℕ) → m0 ≡ m → At m h n k p count at → InsertsUnder m0 w h (child_in p at) k val was (Split up r) → live w n ≡ 1
adopter_live m0 m w h n k val count at up r p was e0 t i0 =
    let i : InsertsUnder m w h (child_in p at) k val was (Split up r) = (let P : Store → Type 0 = λ x. InsertsUnder x w h (child_in p at) k val was (Split up r) in subst P e0 i0) in
    let xs : List ℕ = take at (child_pages (node_of p)) in
    let ys : List ℕ = drop (at + 1) (child_pages (node_of p)) in
    let c : ℕ = child_in p at in
    let a = rowed m w h k xs c ys (c ∷ (r ∷ [])) ((k, val) ∷ []) was t.descent i.alters in
    let st : w n ≡ m n = top_stays m w h n (xs ++ (c ∷ ys)) (xs ++ (c ∷ (r ∷ ys))) t.tree t.split a.change in
    omega (arith, top_live m h n t.tree, ap (λ (x : Option (List ℕ)). live (λ q. x) n) st)

-- a page that took a child in has a key more
pub adopted_more : (m0 m w v : Store) (h n k val count at up r : ℕ) (p : List ℕ) (was : Option ℕ) → m0 ≡ m → At m h n k p count at → InsertsUnder m0 w h (child_in p at) k val was (Split up r)
    → (live w n ≡ 1 → Adopts w v n (put_at at up (keys_of (node_of p))) (put_at (at + 1) r (child_pages (node_of p))) Kept) → size_of (node m n) + 1 ≤ size_of (node v n)
adopted_more m0 m w v h n k val count at up r p was e0 t i0 ad =
    let wr = ad (adopter_live m0 m w h n k val count at up r p was e0 t i0) in
    omega (
      arith,
      ap (λ (x : Node). size_of x) (here m n p t.read ∙ t.is.is_inner),
      ap (λ (x : Node). size_of x) wr.0.node,
      length-put_at at up (keys_of (node_of p)) (omega (arith, t.is.counted, t.place)),
    )

-- the child was split: this page takes the new one in
pub insert_adopted : (m0 m w v : Store) (h n k val count at up r : ℕ) (p : List ℕ) (was : Option ℕ) (grown : Grown) → m0 ≡ m → At m h n k p count at
    → InsertsUnder m0 w h (child_in p at) k val was (Split up r)
    → (live w n ≡ 1 → Adopts w v n (put_at at up (keys_of (node_of p))) (put_at (at + 1) r (child_pages (node_of p))) grown) → InsertsUnder m v (suc h) n k val was grown
insert_adopted m0 m w v h n k val count at up r p was grown e0 t i0 ad =
    let i : InsertsUnder m w h (child_in p at) k val was (Split up r) = (let P : Store → Type 0 = λ x. InsertsUnder x w h (child_in p at) k val was (Split up r) in subst P e0 i0) in
    let cs : List ℕ = child_pages (node_of p) in
    let xs : List ℕ = take at cs in
    let ys : List ℕ = drop (at + 1) cs in
    let c : ℕ = child_in p at in
    let o : List Pair = (k, val) ∷ [] in
    let d = t.descent in
    let news : List ℕ = c ∷ (r ∷ []) in
    let new : List ℕ = xs ++ (c ∷ (r ∷ ys)) in
    let a = rowed m w h k xs c ys news o was d i.alters in
    let lx = row_left m w h k xs c ys news o was d i.alters in
    let ly = row_right m w h k xs c ys news o was d i.alters in
    let some : 1 ≤ length (items w h c) = filled_some w h c (i.alters.change.sound.0, i.grows.0) in
    let same_least : 1 ≤ length xs → least w h c ≡ least m h c = λ x. least_new m w h k val c (r ∷ []) d.child d.filled (d.first x) i.alters.items some in
    let fs : List ℕ = map (λ x. least m h x) xs in
    let gs : List ℕ = map (λ x. least m h x) ys in
    let lf : length fs ≡ at = length-map xs (λ x. least m h x) ∙ t.front in
    let hh : node m n ≡ node_of p = here m n p t.read in
    let keys : keys_of (node_of p) ≡ drop 1 (fs ++ (least m h c ∷ gs)) =
    ap (λ (x : Node). keys_of x) (sym hh) ∙
    (t.tree.sound.0.separators ∙ (ap (λ (x : List ℕ). drop 1 (map (λ y. least m h y) x)) t.split ∙ ap (λ (x : List ℕ). drop 1 x) (map-append (λ x. least m h x) xs (c ∷ ys)))) in
    let mapped : map (λ x. least w h x) new ≡ fs ++ (least w h c ∷ (least w h r ∷ gs)) =
    map-append (λ x. least w h x) xs (c ∷ (r ∷ ys)) ∙ ap₂ (λ (x y : List ℕ). x ++ (least w h c ∷ (least w h r ∷ y))) (row_least m w h xs lx) (row_least m w h ys ly) in
    let ks : List ℕ = put_at at up (keys_of (node_of p)) in
    let seps : ks ≡ drop 1 (map (λ x. least w h x) new) =
    ap₂ (λ (j : ℕ) (x : List ℕ). put_at j up x) (sym lf) keys
    ∙ (seps_insert fs gs (least m h c) (least w h c) up (λ x. same_least (omega (arith, length-map xs (λ y. least m h y))))
    ∙ (ap (λ (x : ℕ). drop 1 (fs ++ (least w h c ∷ (x ∷ gs)))) i.grows.1.1 ∙ ap (λ (x : List ℕ). drop 1 x) (sym mapped))) in
    let whole : cs ≡ xs ++ (c ∷ ys) = ap (λ (x : Node). child_pages x) (sym hh) ∙ t.split in
    let kids : put_at (at + 1) r cs ≡ new =
    ap (λ (x : List ℕ). put_at (at + 1) r x) whole ∙ put_right at 1 r xs (c ∷ ys) t.front in
    let full : Each (λ x. few h ≤ size_of (node w x)) new =
    Each-append (λ x. few h ≤ size_of (node w x)) xs (c ∷ (r ∷ ys)) (row_full m w h xs lx (fulls m h xs d.left)) (i.grows.0, (i.grows.1.0, row_full m w h ys ly (fulls m h ys d.right))) in
    let lw : live w n ≡ 1 = adopter_live m0 m w h n k val count at up r p was e0 t i0 in
    go grown (let A : List ℕ → Type 0 = λ x. Adopts w v n ks x grown in subst A kids (ad lw)) a seps full
  where
    go : (grown : Grown) → Adopts w v n (put_at at up (keys_of (node_of p))) (take at (child_pages (node_of p)) ++ (child_in p at ∷ (r ∷ drop (at + 1) (child_pages (node_of p))))) grown
        → Alters m w h (take at (child_pages (node_of p)) ++ (child_in p at ∷ drop (at + 1) (child_pages (node_of p))))
        (take at (child_pages (node_of p)) ++ (child_in p at ∷ (r ∷ drop (at + 1) (child_pages (node_of p))))) k ((k, val) ∷ []) was
        → put_at at up (keys_of (node_of p)) ≡ drop 1 (map (λ x. least w h x) (take at (child_pages (node_of p)) ++ (child_in p at ∷ (r ∷ drop (at + 1) (child_pages (node_of p))))))
        → Each (λ x. few h ≤ size_of (node w x)) (take at (child_pages (node_of p)) ++ (child_in p at ∷ (r ∷ drop (at + 1) (child_pages (node_of p)))))
        → InsertsUnder m v (suc h) n k val was grown
    go Kept wr a seps full =
        let new : List ℕ = take at (child_pages (node_of p)) ++ (child_in p at ∷ (r ∷ drop (at + 1) (child_pages (node_of p)))) in
        let ks : List ℕ = keys_of (node_of p) in
        record {
          alters = up_written m w v h n k (take at (child_pages (node_of p)) ++ (child_in p at ∷ drop (at + 1) (child_pages (node_of p)))) new (put_at at up ks)
              ((k, val) ∷ []) was t.tree t.split a wr.0 seps
              (omega (arith, length-append (take at (child_pages (node_of p))) (child_in p at ∷ (r ∷ drop (at + 1) (child_pages (node_of p)))))) wr.1 full;
          grows = omega (
            arith,
            ap (λ (x : Node). size_of x) (here m n p t.read ∙ t.is.is_inner),
            ap (λ (x : Node). size_of x) wr.0.node,
            length-put_at at up ks (omega (arith, t.is.counted, t.place)),
          );
        }
    go (Split up2 r2) sp a seps full =
        let new : List ℕ = take at (child_pages (node_of p)) ++ (child_in p at ∷ (r ∷ drop (at + 1) (child_pages (node_of p)))) in
        let cs0 : List ℕ = take at (child_pages (node_of p)) ++ (child_in p at ∷ drop (at + 1) (child_pages (node_of p))) in
        let hv = sp.halves in
        let s = seps_split (λ x. least w h x) sp.lk sp.lc up2 sp.rk sp.rc (put_at at up (keys_of (node_of p))) new seps hv in
        let kn : child_pages (node v n) ≡ sp.lc = ap (λ (x : Node). child_pages x) sp.cuts.node in
        let kr : child_pages (node v r2) ≡ sp.rc = ap (λ (x : Node). child_pages x) sp.cuts.right_node in
        let tp = topped m w v h n cs0 new (n ∷ (r2 ∷ [])) t.tree t.split (ap₂ (λ (x y : List ℕ). x ++ y) kn (one_kids v r2 ∙ kr) ∙ hv.children) a.change
        (λ q x y. sp.cuts.others q x (omega arith)) (cut_moved w v n r2 (inner sp.lk sp.lc) (inner sp.rk sp.rc) sp.cuts) in
        let filled : Each (λ x. Filled w h x) (sp.lc ++ sp.rc) =
        (let P : List ℕ → Type 0 = λ x. Each (λ y. Filled w h y) x in
        subst P (sym hv.children) (Each-zip (λ x. Sound w h x) (λ x. few h ≤ size_of (node w x)) (λ x. Filled w h x) (λ x y z. (y, z)) new a.change.sound full)) in
        let right_filled : Each (λ x. Filled w h x) sp.rc = Each-right (λ x. Filled w h x) sp.lc sp.rc filled in
        let stay : Each (λ x. Stays w v h x) sp.rc =
        (let P : List ℕ → Type 0 = λ x. Each (λ y. Stays w v h y) x in
        subst P (one_kids v r2 ∙ kr) (Each-right (λ x. Stays w v h x) (child_pages (node v n)) (all_kids v (r2 ∷ [])) (kids_stay m w v h (n ∷ []) (n ∷ (r2 ∷ [])) tp))) in
        let lst : least v (suc h) r2 ≡ up2 =
        ap (λ (x : List ℕ). first_key (all_items v h x)) kr
        ∙ (ap (λ (x : List Pair). first_key x) (row_items w v h sp.rc stay) ∙ (first_least w h sp.rc (omega (arith, hv.right)) right_filled ∙ sym s.1.0)) in
        record {
          alters = up_cut m w v h n r2 k cs0 new sp.lk sp.lc sp.rk sp.rc ((k, val) ∷ []) was t.tree t.split a sp.cuts hv.children s.0 s.1.1
              (omega (arith, hv.left)) (omega (arith, hv.left, hv.left_fits)) (omega (arith, hv.right)) (omega (arith, hv.right, hv.right_fits)) full;
          grows = (omega (arith, ap (λ (x : Node). size_of x) sp.cuts.node, hv.left_full), (omega (arith, ap (λ (x : Node). size_of x) sp.cuts.right_node, hv.right_full), sym lst));
        }
