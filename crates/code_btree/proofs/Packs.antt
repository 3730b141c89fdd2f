-- Two neighbours under a page that became one, after a pair was put under it.
use Rattle.std.proofs.Common.{◌≡◌, ℕ, suc, ◌+◌, ◌-◌, ◌<◌, ◌≤◌, List, [], ◌∷◌, ◌++◌, length, get_or, take, drop, map, refl, sym, ◌∙◌, ap, subst, arith, length-take, take-append-drop}
use Rattle.std.specs.Prelude.{Option, Some}
use Rattle.std.proofs.lemmas.List.{drop_more}
use Rattle.code_btree.specs.Node.{Pair, Node, inner, node_of, keys_of, child_pages, size_of, IsInnerOf, key_in, child_in}
use Rattle.code_btree.specs.Items.{Each, Ascending}
use Rattle.code_btree.specs.Tree.{Store, node, items, all_pages, least, times, live, Owns, few, Sound, Filled}
use Rattle.code_btree.specs.Steps.{alter, put_at, Subtree, InsertsUnder, Adopts, Packs, Writes}
use Rattle.code_btree.specs.Removals.{mended_keys, Mends}
use Rattle.code_btree.specs.declared.insert.Grown.{Grown}
use Rattle.code_btree.specs.declared.insert.Grown.TheVariants.{Kept, Split}
use Rattle.code_btree.proofs.Lists.{Each-left, Each-right, Each-map}
use Rattle.code_btree.proofs.Leaves.{here}
use Rattle.code_btree.proofs.Orders.{Ascending-put}
use Rattle.code_btree.proofs.Moves.{change_none, change_next, owns_after, pages_up}
use Rattle.code_btree.proofs.Rises.{fulls, one_items, one_kids, items_beneath, raise_written}
use Rattle.code_btree.proofs.Inserts.{At, at_page, insert_adopted, adopted_more}
use Rattle.code_btree.proofs.Mends.{Beside, mended}
use Rattle.code_btree.proofs.Removes.{mended_length, top_size}

-- nothing changed
pub kept_apart : (m w : Store) (h n : ℕ) → w ≡ m → Subtree m h n → Packs m w h n
kept_apart m w h n e s =
    let P : Store → Type 0 = λ x. Packs m x h n in
    let p : Packs m m h n = record { change = change_none m h (n ∷ []) (s.sound, tt); items = refl; lost = omega arith } in
    subst P (sym e) p

-- two neighbours in a row of filled pages
row_beside : (m : Store) (h j : ℕ) (cs : List ℕ) → Each (λ c. Filled m h c) cs → j + 1 < length cs → Beside m h j cs
row_beside m h j cs f l =
    let us : List ℕ = take j cs in
    let a : ℕ = get_or cs j 0 in
    let b : ℕ = get_or cs (j + 1) 0 in
    let vs : List ℕ = drop (j + 1 + 1) cs in
    let whole : cs ≡ us ++ (a ∷ (b ∷ vs)) =
    sym (take-append-drop j cs) ∙ ap (λ (r : List ℕ). us ++ r) (drop_more cs j 0 (omega arith) ∙ ap (λ (r : List ℕ). a ∷ r) (drop_more cs (j + 1) 0 (omega arith))) in
    let F : List ℕ → Type 0 = λ xs. Each (λ c. few h ≤ size_of (node m c)) xs in
    let full : Each (λ c. few h ≤ size_of (node m c)) (us ++ (a ∷ (b ∷ vs))) = subst F whole (fulls m h cs f) in
    let r = Each-right (λ c. few h ≤ size_of (node m c)) us (a ∷ (b ∷ vs)) full in
    record {
      us = us;
      a = a;
      b = b;
      vs = vs;
      whole = whole;
      place = omega (arith, length-take j cs);
      left = Each-left (λ c. few h ≤ size_of (node m c)) us (a ∷ (b ∷ vs)) full;
      right = r.1.1;
      size = omega (arith, r.0);
      right_size = omega (arith, r.1.0);
    }

-- neighbours were balanced and their page was written
pub packed : (m0 m v : Store) (h n j count size : ℕ) (p : List ℕ) → m0 ≡ m → m n ≡ Some p → Subtree m (suc h) n → IsInnerOf p count
    → Mends m0 v h n j (keys_of (node_of p)) (child_pages (node_of p)) size → Packs m v (suc h) n
packed m0 m v h n j count size p e0 e s is me0 =
    let ks : List ℕ = keys_of (node_of p) in
    let cs : List ℕ = child_pages (node_of p) in
    let me : Mends m v h n j ks cs size = (let P : Store → Type 0 = λ x. Mends x v h n j ks cs size in subst P e0 me0) in
    let hh : node m n ≡ node_of p = here m n p e in
    let kids : child_pages (node m n) ≡ cs = ap (λ (x : Node). child_pages x) hh in
    let row : Each (λ c. Filled m h c) cs = (let R : List ℕ → Type 0 = λ x. Each (λ c. Filled m h c) x in subst R kids s.sound.1) in
    let owns : Owns m h cs = λ q. omega (arith, s.owns q, pages_up m h q (n ∷ []), ap (λ (r : List ℕ). times q (all_pages m h r)) (one_kids m n ∙ kids)) in
    let seps : ks ≡ drop 1 (map (λ x. least m h x) cs) = ap (λ (x : Node). keys_of x) (sym hh) ∙ (s.sound.0.separators ∙ ap (λ (x : List ℕ). drop 1 (map (λ y. least m h y) x)) kids) in
    let d = mended m me.mid h j cs ks me.up owns (Each-map (λ c. Filled m h c) (λ c. Sound m h c) (λ c x. x.0) cs row) seps (row_beside m h j cs row me.inside) me.balances in
    let mk : List ℕ = mended_keys j me.up ks in
    let W : List ℕ → Type 0 = λ x. Writes me.mid v n (inner mk x) in
    let wo : Writes me.mid v n (inner mk d.new) = subst W d.children me.writes in
    let fits : length d.new ≤ 170 = omega (arith, d.fewer, s.sound.0.fits, ap (λ (x : List ℕ). length x) kids) in
    let r = raise_written m me.mid v h n cs d.new mk s kids d.change wo d.seps d.some fits d.full in
    let lost : length ks ≤ length mk + 1 = mended_length j me.up ks (omega (arith, is.counted, me.inside, is.children)) in
    record {
      change = r.0;
      items = r.1 ∙ (d.items ∙ sym (items_beneath m h n cs kids));
      lost = omega (arith, top_size m n count p e is, ap (λ (x : Node). size_of x) wo.node, lost, is.counted);
    }

-- the tree after a pair was put into it
pub put_under : (m w : Store) (h n k val : ℕ) (was : Option ℕ) → Subtree m h n → InsertsUnder m w h n k val was Kept → Subtree w h n
put_under m w h n k val was s i =
    let es : items w h n ≡ alter k ((k, val) ∷ []) (items m h n) = sym (one_items w h n) ∙ (i.alters.items ∙ ap (λ (x : List Pair). alter k ((k, val) ∷ []) x) (one_items m h n)) in
    record {
      sound = i.alters.change.sound.0;
      owns = owns_after m w h (n ∷ []) (n ∷ []) i.alters.change s.owns;
      ascending = subst Ascending (sym es) (Ascending-put k val (items m h n) s.ascending);
    }

-- the child was split, and its page took the new one in: where it kept it, it has a key more
pub split_under : (m0 m w v : Store) (level n k val count at up r child : ℕ) (p : List ℕ) (was : Option ℕ) (below grown : Grown) → m0 ≡ m → 1 ≤ level → m n ≡ Some p → Subtree m level n
    → IsInnerOf p count → at ≤ count → (1 ≤ at → key_in p (at - 1) ≤ k) → (at < count → k < key_in p at) → child ≡ child_in p at → below ≡ Split up r
    → InsertsUnder m0 w (level - 1) child k val was below
    → (live w n ≡ 1 → Adopts w v n (put_at at up (keys_of (node_of p))) (put_at (at + 1) r (child_pages (node_of p))) grown)
    → InsertsUnder m v level n k val was grown × (grown ≡ Kept → size_of (node m n) + 1 ≤ size_of (node v n))
split_under m0 m w v level n k val count at up r child p was below grown e0 some e s is place before behind ce be i0 ad =
    let h : ℕ = level - 1 in
    let l : level ≡ suc h = omega arith in
    let S : ℕ → Type 0 = λ x. Subtree m x n in
    let a : At m h n k p count at = at_page m h n k p count at e (subst S l s) is place before behind in
    let G : Grown → Type 0 = λ x. InsertsUnder m0 w h child k val was x in
    let C : ℕ → Type 0 = λ x. InsertsUnder m0 w h x k val was (Split up r) in
    let i : InsertsUnder m0 w h (child_in p at) k val was (Split up r) = subst C ce (subst G be i0) in
    let R : ℕ → Type 0 = λ x. InsertsUnder m v x n k val was grown in
    let A : Grown → Type 0 = λ x. live w n ≡ 1 → Adopts w v n (put_at at up (keys_of (node_of p))) (put_at (at + 1) r (child_pages (node_of p))) x in (
      subst R (sym l) (insert_adopted m0 m w v h n k val count at up r p was grown e0 a i ad),
      λ kept. adopted_more m0 m w v h n k val count at up r p was e0 a i (subst A kept ad),
    )

-- a page that had gained a key was packed
pub insert_packed : (m w v : Store) (h n k val : ℕ) (was : Option ℕ) → Subtree m h n → InsertsUnder m w h n k val was Kept → size_of (node m n) + 1 ≤ size_of (node w n)
    → Packs w v h n → InsertsUnder m v h n k val was Kept
insert_packed m w v h n k val was s i l p = record {
  alters = record {
    change = change_next m w v h (n ∷ []) (n ∷ []) (n ∷ []) s.owns i.alters.change p.change;
    items = p.items ∙ i.alters.items;
    found = i.alters.found;
  };
  grows = omega (arith, l, p.lost);
}
