-- Whole trees: planted, with the root kept, and with a new root above two pages.
use Rattle.std.proofs.Common.{◌≡◌, ℕ, suc, ◌+◌, ◌-◌, ◌*◌, ◌^◌, List, [], ◌∷◌, length, drop, map, refl, sym, ◌∙◌, ap, ap₂, subst, inl, inr, arith, append-nil}
use Rattle.std.specs.Prelude.{Option}
use Rattle.code_btree.specs.declared.map.Tree.{Tree}
use Rattle.code_btree.specs.declared.insert.Grown.TheVariants.{Kept, Split}
use Rattle.code_btree.specs.Node.{Pair, Node, leaf, inner, node_of, entries_of, next_of, child_pages, size_of}
use Rattle.code_btree.specs.Items.{Each, Ascending, find_item}
use Rattle.code_btree.specs.Tree.{Store, node_in, node, items, pages, links, all_items, all_pages, all_links, least, same, times, live, Owns, Path, Filled, IsTreeAt, IsTree}
use Rattle.code_btree.specs.Calls.{Keeps, Planted, Inserted}
use Rattle.code_btree.specs.Steps.{alter, Subtree, Gained, InsertsUnder, count_after}
use Rattle.code_btree.proofs.Lists.{same_cases, live_small, live_same, live_some, live_none, none_live}
use Rattle.code_btree.proofs.Orders.{Ascending-put}
use Rattle.code_btree.proofs.Moves.{Stays, row_stays, row_items, row_pages, row_links, row_least, row_filled, owns_after}
use Rattle.code_btree.proofs.Rises.{one_items, top_made}
use Rattle.code_btree.proofs.Leaves.{leaf_ok}
use Rattle.code_btree.proofs.Seps.{first_of_list}
use Rattle.code_btree.proofs.Counts.{length_put, many}

pub keeps_of : (m w : Store) (before after : List ℕ) → ((q : ℕ) → live m q ≡ 1 → times q before ≡ 0 → w q ≡ m q)
    → ((q : ℕ) → live w q + times q before ≡ live m q + times q after) → Keeps m w before after
keeps_of m w before after others moved = record {
  others = others;
  gained = λ q a b. none_live m q (omega (arith, moved q, live_small w q));
  lost = λ q a b. none_live w q (omega (arith, moved q, live_small m q));
  moved = moved;
}

pub one_pages : (m : Store) (h q n : ℕ) → times q (all_pages m h (n ∷ [])) ≡ times q (pages m h n)
one_pages m h q n = ap (λ (ps : List ℕ). times q ps) (append-nil (pages m h n))

pub one_links : (m : Store) (h n : ℕ) → all_links m h (n ∷ []) ≡ links m h n
one_links m h n = append-nil (links m h n)

pub subtree_of : (m : Store) (h n count : ℕ) → IsTreeAt m h n count → Subtree m h n
subtree_of m h n count t = record { sound = t.sound; owns = t.owns; ascending = t.ascending }

-- a tree of one empty leaf
pub planted : (m w : Store) (r : ℕ) (p : List ℕ) → Gained m w r p → node_of p ≡ leaf [] 0 → Planted m w (record { root = r; height = 1; entries = 0 })
planted m w r p g e =
    let no : node w r ≡ leaf [] 0 = ap (λ (x : Option (List ℕ)). node_in x) g.now ∙ e in
    let es : entries_of (node w r) ≡ [] = ap (λ (x : Node). entries_of x) no in
    let lm : live m r ≡ 0 = live_none m r g.before in
    let lw : live w r ≡ 1 = live_some w r p g.now in
    let A : List Pair → Type 0 = λ x. Ascending x in
    record {
      tree = record {
        tall = omega arith;
        at = record {
          sound = leaf_ok (node w r) [] 0 no (omega arith);
          top = λ h. absurd (omega arith);
          owns = λ q. elim (same_cases q r) [ inl i ↦ omega (arith, i.0, ap (λ (x : ℕ). live w x) i.1) | inr i ↦ omega (arith, i.0) ];
          ascending = subst A (sym es) tt;
          chain = (r, (refl, (g.positive, ap (λ (x : Node). next_of x) no)));
          counted = sym (ap (λ (x : List Pair). length x) es);
        };
        many = λ h. absurd (omega arith);
      };
      items = es;
      keeps = keeps_of m w [] (r ∷ [])
          (λ q a b. g.others q (elim (same_cases q r) [ inl i ↦ absurd (omega (arith, ap (λ (x : ℕ). live m x) i.1)) | inr i ↦ i.0 ]))
          (λ q. elim (same_cases q r) [ inl i ↦ omega (arith, i.0, ap (λ (x : ℕ). live m x) i.1, ap (λ (x : ℕ). live w x) i.1) | inr i ↦ omega (arith, i.0, live_same m w q (g.others q i.0)) ]);
    }

counts : (m : Store) (h n k v count entries : ℕ) (was : Option ℕ) (es : List Pair) → IsTreeAt m h n count → was ≡ find_item k (items m h n)
    → entries ≡ count_after count was → es ≡ alter k ((k, v) ∷ []) (items m h n) → entries ≡ length es
counts m h n k v count entries was es t f e i =
    e ∙ (ap₂ (λ (x : ℕ) (y : Option ℕ). count_after x y) t.counted f ∙ (sym (length_put k v (items m h n) t.ascending) ∙ sym (ap (λ (x : List Pair). length x) i)))

-- the root is whole
pub root_kept : (m w : Store) (t : Tree) (k v entries : ℕ) (was : Option ℕ) → IsTree m t → InsertsUnder m w (t.height - 1) t.root k v was Kept
    → entries ≡ count_after t.entries was → Inserted m w t (record t { entries = entries }) k v was
root_kept m w t k v entries was tree i e =
    let h : ℕ = t.height - 1 in
    let n : ℕ = t.root in
    let a = i.alters in
    let old : all_items m h (n ∷ []) ≡ items m h n = one_items m h n in
    let new : items w h n ≡ alter k ((k, v) ∷ []) (items m h n) = sym (one_items w h n) ∙ (a.items ∙ ap (λ (x : List Pair). alter k ((k, v) ∷ []) x) old) in
    let found : was ≡ find_item k (items m h n) = a.found ∙ ap (λ (x : List Pair). find_item k x) old in
    let A : List Pair → Type 0 = λ x. Ascending x in
    let P : List (ℕ × ℕ) → Type 0 = λ ls. Path tree.at.chain.0 ls 0 in
    let at : IsTreeAt w h n entries = record {
      sound = a.change.sound.0;
      top = λ l. omega (arith, tree.at.top l, i.grows);
      owns = owns_after m w h (n ∷ []) (n ∷ []) a.change tree.at.owns;
      ascending = subst A (sym new) (Ascending-put k v (items m h n) tree.at.ascending);
      chain = (tree.at.chain.0, subst P (one_links w h n) (a.change.linked tree.at.chain.0 0 (subst P (sym (one_links m h n)) tree.at.chain.1)));
      counted = counts m h n k v t.entries entries was (items w h n) tree.at found e new;
    } in
    let tall = tree.tall in
    let hh : (h + 1) - 2 ≡ t.height - 2 = omega arith in
    record {
      tree = record { tall = tall; at = at; many = λ l. omega (arith, many w h n entries at (omega arith), ap (λ (x : ℕ). 126 * 85 ^ x) hh) };
      items = new;
      found = found;
      keeps = keeps_of m w (pages m h n) (pages w h n)
          (λ q x y. a.change.frame q x (omega (arith, one_pages m h q n)))
          (λ q. omega (arith, a.change.moved q, one_pages m h q n, one_pages w h q n));
    }

-- the root was split: a new one stands above the two
pub root_grown : (m w x : Store) (t : Tree) (k v entries height up r p : ℕ) (was : Option ℕ) (page : List ℕ) → IsTree m t
    → InsertsUnder m w (t.height - 1) t.root k v was (Split up r) → entries ≡ count_after t.entries was → height ≡ t.height + 1
    → Gained w x p page → node_of page ≡ inner (up ∷ []) (t.root ∷ (r ∷ [])) → Inserted m x t (record { root = p; height = height; entries = entries }) k v was
root_grown m w x t k v entries height up r p was page tree i e eh g en =
    let h : ℕ = t.height - 1 in
    let n : ℕ = t.root in
    let a = i.alters in
    let row : List ℕ = n ∷ (r ∷ []) in
    let no : node x p ≡ inner (up ∷ []) row = ap (λ (y : Option (List ℕ)). node_in y) g.now ∙ en in
    let kids : child_pages (node x p) ≡ row = ap (λ (y : Node). child_pages y) no in
    let owned : Owns w h row = owns_after m w h (n ∷ []) row a.change tree.at.owns in
    let lw : live w p ≡ 0 = live_none w p g.before in
    let lx : live x p ≡ 1 = live_some x p page g.now in
    let stay : Each (λ c. Stays w x h c) row =
    row_stays w x h row (λ q l. g.others q (elim (same_cases q p) [ inl j ↦ absurd (omega (arith, owned q, ap (λ (y : ℕ). live w y) j.1)) | inr j ↦ j.0 ])) in
    let ps : all_pages x h row ≡ all_pages w h row = row_pages w x h row stay in
    let filled : Each (λ c. Filled x h c) row = row_filled w x h row stay ((a.change.sound.0, i.grows.0), ((a.change.sound.1.0, i.grows.1.0), tt)) in
    let old : all_items m h (n ∷ []) ≡ items m h n = one_items m h n in
    let new : items x (suc h) p ≡ alter k ((k, v) ∷ []) (items m h n) =
    ap (λ (cs : List ℕ). all_items x h cs) kids ∙ (row_items w x h row stay ∙ (a.items ∙ ap (λ (y : List Pair). alter k ((k, v) ∷ []) y) old)) in
    let found : was ≡ find_item k (items m h n) = a.found ∙ ap (λ (y : List Pair). find_item k y) old in
    let seps : up ∷ [] ≡ drop 1 (map (λ c. least x h c) row) = ap (λ (y : ℕ). y ∷ []) (i.grows.1.1 ∙ ap (λ (es : List ℕ). first_of_list (drop 1 es)) (sym (row_least w x h row stay))) in
    let A : List Pair → Type 0 = λ y. Ascending y in
    let F : List ℕ → Type 0 = λ cs. Each (λ c. Filled x h c) cs in
    let P : List (ℕ × ℕ) → Type 0 = λ ls. Path tree.at.chain.0 ls 0 in
    let lks : links x (suc h) p ≡ all_links w h row = ap (λ (cs : List ℕ). all_links x h cs) kids ∙ row_links w x h row stay in
    let pgs : (q : ℕ) → times q (pages x (suc h) p) ≡ same q p + times q (all_pages w h row) = λ q. ap (λ (cs : List ℕ). same q p + times q (all_pages x h cs)) kids
    ∙ ap (λ (y : List ℕ). same q p + times q y) ps in
    let at : IsTreeAt x (suc h) p entries = record {
      sound = (top_made (λ c. least x h c) (node x p) (up ∷ []) row no seps (omega arith) (omega arith), subst F (sym kids) filled);
      top = λ l. omega (arith, ap (λ (y : Node). size_of y) no);
      owns = λ q. elim (same_cases q p) [
        | inl j ↦ omega (arith, one_pages x (suc h) q p, pgs q, owned q, ap (λ (y : ℕ). live w y) j.1, ap (λ (y : ℕ). live x y) j.1)
        | inr j ↦ omega (arith, one_pages x (suc h) q p, pgs q, owned q, live_same w x q (g.others q j.0))
      ];
      ascending = subst A (sym new) (Ascending-put k v (items m h n) tree.at.ascending);
      chain = (tree.at.chain.0, subst P (sym lks) (a.change.linked tree.at.chain.0 0 (subst P (sym (one_links m h n)) tree.at.chain.1)));
      counted = counts m h n k v t.entries entries was (items x (suc h) p) tree.at found e new;
    } in
    let tall = tree.tall in
    let level : suc h ≡ height - 1 = omega arith in
    let hh : (suc h + 1) - 2 ≡ height - 2 = omega arith in
    let L : ℕ → Type 0 = λ l. IsTreeAt x l p entries in
    record {
      tree = record { tall = omega arith; at = subst L level at; many = λ l. omega (arith, many x (suc h) p entries at (omega arith), ap (λ (y : ℕ). 126 * 85 ^ y) hh) };
      items = ap (λ (l : ℕ). items x l p) (sym level) ∙ new;
      found = found;
      keeps = keeps_of m x (pages m h n) (pages x (height - 1) p)
          (λ q y z.
          let f : w q ≡ m q = a.change.frame q y (omega (arith, one_pages m h q n)) in
          g.others q (elim (same_cases q p) [ inl j ↦ absurd (omega (arith, live_same m w q f, ap (λ (b : ℕ). live w b) j.1)) | inr j ↦ j.0 ]) ∙ f)
          (λ q. elim (same_cases q p) [
            | inl j ↦ omega (arith, a.change.moved q, one_pages m h q n, pgs q, ap (λ (l : ℕ). times q (pages x l p)) level, ap (λ (b : ℕ). live w b) j.1, ap (λ (b : ℕ). live x b) j.1)
            | inr j ↦ omega (arith, a.change.moved q, one_pages m h q n, pgs q, ap (λ (l : ℕ). times q (pages x l p)) level, live_same w x q (g.others q j.0))
          ]);
    }
