-- Leaves written, cut and read.
use Rattle.std.proofs.Common.{◌≡◌, ◌≢◌, ℕ, ◌+◌, ◌-◌, ◌<◌, ◌≤◌, List, [], ◌∷◌, ◌++◌, length, get_or, take, drop, refl, sym, ◌∙◌, ap, ap₂, subst, inl, inr, arith}
use Rattle.std.proofs.Common.{length-append, length-take, length-drop}
use Rattle.std.specs.Prelude.{Option, None, Some}
use Rattle.code_btree.specs.Node.{Pair, Node, leaf, inner, node_of, entries_of, next_of, keys_of, child_pages, size_of, IsLeafOf, entry_key, entry_value}
use Rattle.code_btree.specs.Items.{Ascending, find_item}
use Rattle.code_btree.specs.Tree.{Store, node_in, node, all_items, first_key, same, live, Path, LeafOk}
use Rattle.code_btree.specs.Steps.{Alters, alter, Subtree, Wrote, Gained, Writes, Cuts, SplitsLeaf, SplitsInner, HalvesLeaf, HalvesInner, InsertsUnder, put_at}
use Rattle.code_btree.specs.declared.insert.Grown.TheVariants.{Kept, Split}
use Rattle.code_btree.proofs.Lists.{same_cases, same_self, live_small, live_same, live_some, live_none}
use Rattle.code_btree.proofs.Orders.{leaf_hit, leaf_miss}
use Rattle.code_btree.proofs.Looks.{entry_is}
use Rattle.code_btree.proofs.Rises.{one_items}

pub writes_of : (m w : Store) (n : ℕ) (page : List ℕ) (o : Node) → Wrote m w n page → node_of page ≡ o → Writes m w n o
writes_of m w n page o wr e = record {
  before = wr.before;
  now = live_some w n page wr.now;
  node = ap (λ (x : Option (List ℕ)). node_in x) wr.now ∙ e;
  others = wr.others;
}

pub cuts_of : (m u v : Store) (n r : ℕ) (p1 p2 : List ℕ) (o p : Node) → live m n ≡ 1 → Gained m u r p2 → Wrote u v n p1 → node_of p1 ≡ o → node_of p2 ≡ p → Cuts m v n r o p
cuts_of m u v n r p1 p2 o p l g wr e f =
    let zero_r : live m r ≡ 0 = live_none m r g.before in
    let apart : same r n ≡ 0 = elim (same_cases r n) [ inl i ↦ absurd (omega (arith, ap (λ (x : ℕ). live m x) i.1)) | inr i ↦ i.0 ] in
    let r_now : v r ≡ Some p2 = wr.others r apart ∙ g.now in
    record {
      before = l;
      now = live_some v n p1 wr.now;
      node = ap (λ (x : Option (List ℕ)). node_in x) wr.now ∙ e;
      gained = zero_r;
      right = live_some v r p2 r_now;
      right_node = ap (λ (x : Option (List ℕ)). node_in x) r_now ∙ f;
      positive = g.positive;
      others = λ q a b. wr.others q a ∙ g.others q b;
    }

first_get : (es : List Pair) → first_key es ≡ (get_or es 0 (0, 0)).0
first_get [] = refl
first_get (e ∷ es) = refl

pub leaf_split_done : (m u v : Store) (n r up nx : ℕ) (pl pr p1 : List ℕ) (es : List Pair) → live m n ≡ 1 → Gained m u r pr → Wrote u v n p1
    → node_of p1 ≡ leaf (entries_of (node_of pl)) r → IsLeafOf pr 65
    → next_of (node_of pr) ≡ nx → HalvesLeaf (entries_of (node_of pl)) (entries_of (node_of pr)) es → up ≡ entry_key pr 0 → SplitsLeaf m v n r up es nx
leaf_split_done m u v n r up nx pl pr p1 es l g wr e is nxt halves ue = record {
  left = entries_of (node_of pl);
  right = entries_of (node_of pr);
  cuts = cuts_of m u v n r p1 pr _ _ l g wr e (is.is_leaf ∙ ap (λ (x : ℕ). leaf (entries_of (node_of pr)) x) nxt);
  halves = halves;
  up_is = ue ∙ sym (first_get (entries_of (node_of pr)) ∙ ap (λ (x : Pair). x.0) (entry_is pr 65 0 (0, 0) is (omega arith)));
}

pub inner_split_done : (m u v : Store) (n r up : ℕ) (pl pr : List ℕ) (ks cs : List ℕ) → live m n ≡ 1 → Gained m u r pr → Wrote u v n pl
    → node_of pl ≡ inner (keys_of (node_of pl)) (child_pages (node_of pl))
    → node_of pr ≡ inner (keys_of (node_of pr)) (child_pages (node_of pr))
    → HalvesInner (keys_of (node_of pl)) (child_pages (node_of pl)) up (keys_of (node_of pr)) (child_pages (node_of pr)) ks cs → SplitsInner m v n r up ks cs
inner_split_done m u v n r up pl pr ks cs l g wr e f halves = record {
  lk = keys_of (node_of pl);
  lc = child_pages (node_of pl);
  rk = keys_of (node_of pr);
  rc = child_pages (node_of pr);
  cuts = cuts_of m u v n r pl pr _ _ l g wr e f;
  halves = halves;
}

pub leaf_ok : (o : Node) (es : List Pair) (nx : ℕ) → o ≡ leaf es nx → length es ≤ 127 → LeafOk o
leaf_ok o es nx e l = record {
  is_leaf = e ∙ sym (ap (λ (x : Node). leaf (entries_of x) (next_of x)) e);
  fits = omega (arith, ap (λ (x : Node). length (entries_of x)) e);
}

pub leaf_live : (m : Store) (n : ℕ) → Subtree m 0 n → live m n ≡ 1
leaf_live m n s = omega (arith, s.owns n, same_self n, live_small m n)

-- a leaf that was written, with the same link
pub leaf_written : (m w : Store) (n k : ℕ) (o : List Pair) (was : Option ℕ) (es : List Pair) (nx : ℕ) → nx ≡ next_of (node m n) → Writes m w n (leaf es nx) → length es ≤ 127
    → alter k o (entries_of (node m n)) ≡ es → find_item k (entries_of (node m n)) ≡ was → Alters m w 0 (n ∷ []) (n ∷ []) k o was
leaf_written m w n k o was es nx en wr l ea ef =
    let link : (n, next_of (node w n)) ∷ [] ≡ (n, next_of (node m n)) ∷ [] = ap (λ (x : ℕ). (n, x) ∷ []) (ap (λ (x : Node). next_of x) wr.node ∙ en) in
    let one : all_items m 0 (n ∷ []) ≡ entries_of (node m n) = one_items m 0 n in
    record {
      change = record {
        sound = (leaf_ok (node w n) es nx wr.node l, tt);
        frame = λ q a b. wr.others q (omega arith);
        moved = λ q. elim (same_cases q n) [
          | inl i ↦ omega (arith, wr.before, wr.now, ap (λ (x : ℕ). live w x) i.1, ap (λ (x : ℕ). live m x) i.1)
          | inr i ↦ omega
              (arith, live_same m w q (wr.others q i.0))
        ];
        linked = λ s e p. let P : List (ℕ × ℕ) → Type 0 = λ ls. Path s ls e in subst P (sym link) p;
      };
      items = one_items w 0 n ∙ (ap (λ (x : Node). entries_of x) wr.node ∙ (sym ea ∙ ap (λ (x : List Pair). alter k o x) (sym one)));
      found = sym ef ∙ ap (λ (x : List Pair). find_item k x) (sym one);
    }

-- a leaf that was cut in two
pub leaf_cut : (m w : Store) (n r k : ℕ) (o : List Pair) (was : Option ℕ) (left right : List Pair) (nx : ℕ) → nx ≡ next_of (node m n)
    → Cuts m w n r (leaf left r) (leaf right nx) → length left ≤ 127 → length right ≤ 127
    → alter k o (entries_of (node m n)) ≡ left ++ right → find_item k (entries_of (node m n)) ≡ was → Alters m w 0 (n ∷ []) (n ∷ (r ∷ [])) k o was
leaf_cut m w n r k o was left right nx en cut l u ea ef =
    let nl : next_of (node w n) ≡ r = ap (λ (x : Node). next_of x) cut.node in
    let nr : next_of (node w r) ≡ next_of (node m n) = ap (λ (x : Node). next_of x) cut.right_node ∙ en in
    let one : all_items m 0 (n ∷ []) ≡ entries_of (node m n) = one_items m 0 n in
    record {
      change = record {
        sound = (leaf_ok (node w n) left r cut.node l, (leaf_ok (node w r) right nx cut.right_node u, tt));
        frame = λ q a b. cut.others q (omega arith) (elim (same_cases q r) [ inl i ↦ absurd (omega (arith, cut.gained, ap (λ (x : ℕ). live m x) i.1)) | inr i ↦ i.0 ]);
        moved = λ q. elim (same_cases q n) [
          | inl i ↦ elim (same_cases q r) [
            | inl j ↦ absurd (omega (arith, cut.before, cut.gained, ap (λ (x : ℕ). live m x) i.1, ap (λ (x : ℕ). live m x) j.1))
            | inr j ↦ omega (arith, cut.before, cut.now, ap (λ (x : ℕ). live w x) i.1, ap (λ (x : ℕ). live m x) i.1)
          ]
          | inr i ↦ elim (same_cases q r) [
            | inl j ↦ omega (arith, cut.gained, cut.right, ap (λ (x : ℕ). live w x) j.1, ap (λ (x : ℕ). live m x) j.1)
            | inr j ↦ omega (arith, live_same m w q (cut.others q i.0 j.0))
          ]
        ];
        linked = λ s e p. (p.0, (p.1.0, (nl, (omega (arith, nl, cut.positive), nr ∙ p.1.1))));
      };
      items = ap₂ (λ (x y : List Pair). x ++ y) (ap (λ (x : Node). entries_of x) cut.node) (one_items w 0 r ∙ ap (λ (x : Node). entries_of x) cut.right_node)
          ∙ (sym ea ∙ ap (λ (x : List Pair). alter k o x) (sym one));
      found = sym ef ∙ ap (λ (x : List Pair). find_item k x) (sym one);
    }

-- the code's page is the leaf
pub here : (m : Store) (n : ℕ) (p : List ℕ) → m n ≡ Some p → node m n ≡ node_of p
here m n p e = ap (λ (x : Option (List ℕ)). node_in x) e

pub ranked : (p : List ℕ) (count at k : ℕ) → IsLeafOf p count → at ≤ count → (1 ≤ at → entry_key p (at - 1) < k) → 1 ≤ at → (get_or (entries_of (node_of p)) (at - 1) (0, 0)).0 < k
ranked p count at k is l f o = omega (arith, f o, ap (λ (x : Pair). x.0) (entry_is p count (at - 1) (0, 0) is (omega arith)))

pub leaf_sound : (m : Store) (n : ℕ) (p : List ℕ) → m n ≡ Some p → Subtree m 0 n → Ascending (entries_of (node_of p))
leaf_sound m n p e s = let P : Node → Type 0 = λ o. Ascending (entries_of o) in subst P (here m n p e) s.ascending

-- the key stands in the leaf: its value is set
pub insert_found : (m1 m w : Store) (n k v count at old : ℕ) (p q : List ℕ) → m1 ≡ m → m n ≡ Some p → Subtree m 0 n → IsLeafOf p count → at ≤ count → (1 ≤ at → entry_key p (at - 1) < k)
    → (at < count) × (entry_key p at ≡ k) × (old ≡ entry_value p at)
    → node_of q ≡ leaf (take at (entries_of (node_of p)) ++ (((k, v) ∷ []) ++ drop (at + 1) (entries_of (node_of p)))) (next_of (node_of p)) → Wrote m1 w n q
    → InsertsUnder m w 0 n k v (Some old) Kept
insert_found m1 m w n k v count at old p q e1 e s is l f hit eq wr =
    let es : List Pair = entries_of (node_of p) in
    let wm : Wrote m w n q = (let P : Store → Type 0 = λ x. Wrote x w n q in subst P e1 wr) in
    let wo = writes_of m w n q _ wm eq in
    let c : length es ≡ count = is.counted in
    let hh = here m n p e in
    let entry = entry_is p count at (0, 0) is hit.0 in
    let h = leaf_hit k ((k, v) ∷ []) es at (0, 0) (leaf_sound m n p e s) (omega (arith, hit.0)) (λ o. ranked p count at k is l f o) (ap (λ (x : Pair). x.0) entry ∙ hit.1) in
    let len : length (take at es ++ (((k, v) ∷ []) ++ drop (at + 1) es)) ≡ count =
    omega (arith, hit.0, length-append (take at es) ((k, v) ∷ drop (at + 1) es), length-take at es, length-drop (at + 1) es) in
    record {
      alters = leaf_written m w n k ((k, v) ∷ []) (Some old) _ _ (sym (ap (λ (x : Node). next_of x) hh)) wo (omega (arith, is.fits))
          (ap (λ (x : Node). alter k ((k, v) ∷ []) (entries_of x)) hh ∙ h.0)
          (ap (λ (x : Node). find_item k (entries_of x)) hh ∙ (h.1 ∙ ap (λ (x : ℕ). Some x) (ap (λ (x : Pair). x.1) entry ∙ sym hit.2)));
      grows = omega (arith, ap (λ (x : Node). size_of x) (hh ∙ is.is_leaf), ap (λ (x : Node). size_of x) wo.node);
    }

pub missed : (p : List ℕ) (count at k : ℕ) → IsLeafOf p count → at ≤ count → (at < count → k ≤ entry_key p at) → (at < count → entry_key p at ≢ k)
    → at < length (entries_of (node_of p)) → k < (get_or (entries_of (node_of p)) at (0, 0)).0
missed p count at k is l g miss i =
    let j : at < count = omega (arith, is.counted) in
    let ne = miss j in
    omega (arith, g j, ap (λ (x : Pair). x.0) (entry_is p count at (0, 0) is j))

-- the key isn't there, and the leaf has room
pub insert_room : (m1 m w : Store) (n k v count at : ℕ) (p q : List ℕ) → m1 ≡ m → m n ≡ Some p → Subtree m 0 n → IsLeafOf p count → at ≤ count
    → (1 ≤ at → entry_key p (at - 1) < k) → (at < count → k ≤ entry_key p at)
    → (at < count → entry_key p at ≢ k) → count < 127 → node_of q ≡ leaf (put_at at (k, v) (entries_of (node_of p))) (next_of (node_of p)) → Wrote m1 w n q → InsertsUnder m w 0 n k v None Kept
insert_room m1 m w n k v count at p q e1 e s is l f g miss room eq wr =
    let es : List Pair = entries_of (node_of p) in
    let wm : Wrote m w n q = (let P : Store → Type 0 = λ x. Wrote x w n q in subst P e1 wr) in
    let wo = writes_of m w n q _ wm eq in
    let c : length es ≡ count = is.counted in
    let hh = here m n p e in
    let h = leaf_miss k ((k, v) ∷ []) es at (0, 0) (leaf_sound m n p e s) (omega arith) (λ o. ranked p count at k is l f o) (λ i. missed p count at k is l g miss i) in
    let len : length (put_at at (k, v) es) ≡ count + 1 = omega (arith, length-append (take at es) ((k, v) ∷ drop at es), length-take at es, length-drop at es) in
    record {
      alters = leaf_written m w n k ((k, v) ∷ []) None _ _ (sym (ap (λ (x : Node). next_of x) hh)) wo (omega arith)
          (ap (λ (x : Node). alter k ((k, v) ∷ []) (entries_of x)) hh ∙ h.0)
          (ap (λ (x : Node). find_item k (entries_of x)) hh ∙ h.1);
      grows = omega (arith, ap (λ (x : Node). size_of x) (hh ∙ is.is_leaf), ap (λ (x : Node). size_of x) wo.node);
    }

-- the key isn't there, and the leaf is full
pub insert_split : (m1 m w : Store) (n k v count at up r : ℕ) (p : List ℕ) → m1 ≡ m → m n ≡ Some p → Subtree m 0 n → IsLeafOf p count → at ≤ count
    → (1 ≤ at → entry_key p (at - 1) < k) → (at < count → k ≤ entry_key p at)
    → (at < count → entry_key p at ≢ k) → (live m1 n ≡ 1 → SplitsLeaf m1 w n r up (put_at at (k, v) (entries_of (node_of p))) (next_of (node_of p))) → InsertsUnder m w 0 n k v None (Split up r)
insert_split m1 m w n k v count at up r p e1 e s is l f g miss sp =
    let es : List Pair = entries_of (node_of p) in
    let P : Store → Type 0 = λ x. live x n ≡ 1 → SplitsLeaf x w n r up (put_at at (k, v) es) (next_of (node_of p)) in
    let t : SplitsLeaf m w n r up (put_at at (k, v) es) (next_of (node_of p)) = subst P e1 sp (leaf_live m n s) in
    let c : length es ≡ count = is.counted in
    let hh = here m n p e in
    let h = leaf_miss k ((k, v) ∷ []) es at (0, 0) (leaf_sound m n p e s) (omega arith) (λ o. ranked p count at k is l f o) (λ i. missed p count at k is l g miss i) in
    record {
      alters = leaf_cut m w n r k ((k, v) ∷ []) None t.left t.right _ (sym (ap (λ (x : Node). next_of x) hh)) t.cuts t.halves.left_fits t.halves.right_fits
          (ap (λ (x : Node). alter k ((k, v) ∷ []) (entries_of x)) hh ∙ (h.0 ∙ sym t.halves.joined))
          (ap (λ (x : Node). find_item k (entries_of x)) hh ∙ h.1);
      grows = (
        omega (arith, ap (λ (x : Node). size_of x) t.cuts.node, t.halves.left_full),
        (omega (arith, ap (λ (x : Node). size_of x) t.cuts.right_node, t.halves.right_full), t.up_is ∙ sym (ap (λ (x : Node). first_key (entries_of x)) t.cuts.right_node)),
      );
    }
