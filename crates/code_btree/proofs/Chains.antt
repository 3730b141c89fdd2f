-- The chain of leaves: a tree's pairs in the order of its leaves, and where a run goes from a leaf.
use Rattle.std.proofs.Common.{◌≡◌, ℕ, suc, ◌+◌, ◌-◌, ◌<◌, ◌≤◌, true, cond, List, [], ◌∷◌, ◌++◌, length, get_or, take, drop, refl, sym, ◌∙◌, ap, ap₂, subst, inl}
use Rattle.std.proofs.Common.{inr, arith, append_assoc, append-nil}
use Rattle.std.specs.Prelude.{Option, None, Some, MatchOption}
use Rattle.std.proofs.lemmas.List.{drop_more}
use Rattle.std.proofs.lemmas.List.Concat.{flat_map-append}
use Rattle.std.proofs.lemmas.Bool.Decides.{leb_tells}
use Rattle.code_btree.specs.declared.chain.Given.{Given}
use Rattle.code_btree.specs.declared.map.Tree.{Tree}
use Rattle.code_btree.specs.declared.steps.Spot.{Spot}
use Rattle.code_btree.specs.Node.{Pair, Node, leaf, inner, blank, node_of, entries_of, next_of, child_pages, IsLeafOf, entry_key, entry_value, child_in}
use Rattle.code_btree.specs.Items.{Above, Below, Ascending, items_from}
use Rattle.code_btree.specs.Tree.{Store, node, items, links, all_items, all_links, IsTree, tree_items}
use Rattle.code_btree.specs.Steps.{Subtree, LeadsTo, InnerStep}
use Rattle.code_btree.specs.Run.{chained, BeginsAt, StandsAt, pairs_to_come, least_left}
use Rattle.code_btree.specs.Chain.{GivesEntry, IsGivenIn, IsGivenFrom, Seeks, FollowsPair, IsFirstOf}
use Rattle.code_btree.proofs.Lists.{Each-map}
use Rattle.code_btree.proofs.Orders.{items_from-append, from-Below, from-AtLeast, Above-AtLeast, lt_is, lt_not}
use Rattle.code_btree.proofs.Looks.{entry_is}
use Rattle.code_btree.proofs.Leaves.{here, leaf_sound}
use Rattle.code_btree.proofs.Inserts.{at_page}
use Rattle.code_btree.proofs.PageRuns.{rank_from}
use Rattle.code_btree.proofs.LeafChain.{chained-append, row_chained, items_chained, next_is, MovesOn, moves_on}

-- what a leaf gives at a place, in the code's words
pub gives_none : (p : List ℕ) (n nx count at : ℕ) → IsLeafOf p count → nx ≡ next_of (node_of p) → count ≤ at
    → GivesEntry (entries_of (node_of p)) (next_of (node_of p)) n at (record { pair = None; leaf = nx; place = 0 })
gives_none p n nx count at is e l = record { pair = omega (arith, is.counted); spot = inr (e, refl, omega (arith, is.counted)) }

given_pair : (p : List ℕ) (count at : ℕ) → IsLeafOf p count → at < count → (at < length (entries_of (node_of p)))
    × (drop at (entries_of (node_of p)) ≡ (entry_key p at, entry_value p at) ∷ drop (at + 1) (entries_of (node_of p)))
given_pair p count at is l =
    let es : List Pair = entries_of (node_of p) in
    let i : at < length es = omega (arith, is.counted) in
    (i, drop_more es at (0, 0) i ∙ ap (λ (x : Pair). x ∷ drop (at + 1) es) (entry_is p count at (0, 0) is l))

pub gives_inside : (p : List ℕ) (n count at k v : ℕ) → IsLeafOf p count → at + 1 < count → k ≡ entry_key p at → v ≡ entry_value p at
    → GivesEntry (entries_of (node_of p)) (next_of (node_of p)) n at (record { pair = Some (k, v); leaf = n; place = at + 1 })
gives_inside p n count at k v is l ek ev =
    let h = given_pair p count at is (omega arith) in
    record { pair = (h.0, h.1 ∙ ap₂ (λ (x y : ℕ). (x, y) ∷ drop (at + 1) (entries_of (node_of p))) (sym ek) (sym ev)); spot = inl (refl, refl, omega (arith, is.counted)) }

pub gives_last : (p : List ℕ) (n nx count at k v : ℕ) → IsLeafOf p count → nx ≡ next_of (node_of p) → at < count → count ≤ at + 1 → k ≡ entry_key p at → v ≡ entry_value p at
    → GivesEntry (entries_of (node_of p)) (next_of (node_of p)) n at (record { pair = Some (k, v); leaf = nx; place = 0 })
gives_last p n nx count at k v is e l u ek ev =
    let h = given_pair p count at is l in
    record { pair = (h.0, h.1 ∙ ap₂ (λ (x y : ℕ). (x, y) ∷ drop (at + 1) (entries_of (node_of p))) (sym ek) (sym ev)); spot = inr (e, refl, omega (arith, is.counted)) }

-- a page with entries is a leaf
pub leaf_by : (o : Node) → 1 ≤ length (entries_of o) → o ≡ leaf (entries_of o) (next_of o)
leaf_by (leaf es nx) l = refl
leaf_by (inner ks cs) l = absurd (omega arith)
leaf_by blank l = absurd (omega arith)

-- the leaf to which a key belongs
pub seeks_leaf : (m : Store) (n k : ℕ) (g : Given) → Subtree m 0 n → IsGivenFrom m n k g → Seeks m 0 n k g
seeks_leaf m n k g s f =
    let hh : node m n ≡ node_of f.page = here m n f.page f.read in
    let L : Node → Type 0 = λ o. o ≡ leaf (entries_of o) (next_of o) in
    let r = f.step (subst L hh s.sound.is_leaf) in
    let G : Node → Type 0 = λ o. GivesEntry (entries_of o) (next_of o) n r.at g in
    record {
      before = [];
      behind = [];
      leaf = n;
      next = next_of (node m n);
      at = r.at;
      chain = refl;
      from = ap (λ (o : Node). items_from k (entries_of o)) hh
          ∙ (sym (rank_from f.page r.count r.at k r.is r.place r.before r.behind (leaf_sound m n f.page f.read s))
          ∙ (ap (λ (o : Node). drop r.at (entries_of o)) (sym hh) ∙ sym (append-nil (drop r.at (entries_of (node m n))))));
      gives = subst G (sym hh) r.gives;
    }

-- and one level higher
seeks_up : (m : Store) (h n k c : ℕ) (xs ys : List ℕ) (g : Given) → child_pages (node m n) ≡ xs ++ (c ∷ ys) → Below k (all_items m h xs) → Above k (all_items m h ys)
    → Seeks m h c k g → Seeks m (suc h) n k g
seeks_up m h n k c xs ys g e below above s =
    let X : List (ℕ × ℕ) = all_links m h xs in
    let Y : List (ℕ × ℕ) = all_links m h ys in
    let links_all : links m (suc h) n ≡ X ++ (links m h c ++ Y) = ap (λ (cs : List ℕ). all_links m h cs) e ∙ flat_map-append (λ d. links m h d) xs (c ∷ ys) in
    let moved : X ++ ((s.before ++ ((s.leaf, s.next) ∷ s.behind)) ++ Y) ≡ (X ++ s.before) ++ ((s.leaf, s.next) ∷ (s.behind ++ Y)) = simp append_assoc in
    let items_all : items m (suc h) n ≡ all_items m h xs ++ (items m h c ++ all_items m h ys) = ap (λ (cs : List ℕ). all_items m h cs) e ∙ flat_map-append (λ d. items m h d) xs (c ∷ ys) in
    let D : List Pair = drop s.at (entries_of (node m s.leaf)) in
    let ys_all : items_from k (all_items m h ys) ≡ chained m Y = from-AtLeast k (all_items m h ys) (Above-AtLeast k (all_items m h ys) above) ∙ row_chained m h (λ d. items_chained m h d) ys in
    let mid : items_from k (items m h c ++ all_items m h ys) ≡ D ++ chained m (s.behind ++ Y) =
    items_from-append k (items m h c) (all_items m h ys)
    ∙ (ap₂ (λ (a b : List Pair). a ++ b) s.from ys_all ∙ (append_assoc D (chained m s.behind) (chained m Y) ∙ ap (λ (b : List Pair). D ++ b) (sym (chained-append m s.behind Y)))) in
    record {
      before = X ++ s.before;
      behind = s.behind ++ Y;
      leaf = s.leaf;
      next = s.next;
      at = s.at;
      chain = links_all ∙ (ap (λ (ls : List (ℕ × ℕ)). X ++ (ls ++ Y)) s.chain ∙ moved);
      from = ap (λ (es : List Pair). items_from k es) items_all
          ∙ (items_from-append k (all_items m h xs) (items m h c ++ all_items m h ys) ∙ ap₂ (λ (a b : List Pair). a ++ b) (from-Below k (all_items m h xs) below) mid);
      gives = s.gives;
    }

pub record SeekLed (m : Store) (h n k c : ℕ) : Type 0 where
  pub child : Subtree m h c
  pub up : (g : Given) → Seeks m h c k g → Seeks m (suc h) n k g

pub seek_led : (m : Store) (h n k c : ℕ) → Subtree m (suc h) n → LeadsTo m n k (Some c) → SeekLed m h n k c
seek_led m h n k c s l =
    let st : InnerStep l.page k c = l.step in
    let t = at_page m h n k l.page st.count st.at l.read s st.is st.place st.before st.behind in
    let S : ℕ → Type 0 = λ x. Subtree m h x in
    record {
      child = subst S (sym st.child_is) t.descent.child;
      up = λ g z.
          let Z : ℕ → Type 0 = λ x. Seeks m h x k g in
          seeks_up m h n k (child_in l.page st.at) (take st.at (child_pages (node_of l.page)))
          (drop (st.at + 1) (child_pages (node_of l.page))) g t.split t.descent.below t.descent.above (subst Z st.child_is z);
    }

pub seek_moves : (m : Store) (t : Tree) (k : ℕ) (g : Given) → IsTree m t → Seeks m (t.height - 1) t.root k g → MovesOn m t (items_from k (tree_items m t)) g
seek_moves m t k g tree s = moves_on m t (items_from k (tree_items m t)) s.leaf s.next s.at s.before s.behind g tree s.chain s.from s.gives

-- a pair that a leaf gave is the first one
pub first_given : (m : Store) (t : Tree) (es : List Pair) (g : Given) (e : Pair) → g.pair ≡ Some e → MovesOn m t es g → IsFirstOf m t es g
first_given m t es g e i h = go g.pair i h
  where
    go : (o : Option Pair) → o ≡ Some e → MatchOption o (BeginsAt m t g.leaf g.place es) (λ x. FollowsPair m t es x g.leaf g.place) → MatchOption o (es ≡ []) (λ x. FollowsPair m t es x g.leaf g.place)
    go None i h = absurd (cc)
    go (Some x) i h = h

-- a leaf that gave none: the pairs begin at the place to which it led
pub begins_given : (m : Store) (t : Tree) (es : List Pair) (g : Given) → g.pair ≡ None → MovesOn m t es g → BeginsAt m t g.leaf g.place es
begins_given m t es g i h = go g.pair i h
  where
    go : (o : Option Pair) → o ≡ None → MatchOption o (BeginsAt m t g.leaf g.place es) (λ x. FollowsPair m t es x g.leaf g.place) → BeginsAt m t g.leaf g.place es
    go None i h = h
    go (Some x) i h = absurd (cc)

-- the place where pairs begin gives the first of them
pub given_on : (m : Store) (t : Tree) (es : List Pair) (lf pl : ℕ) (g : Given) → IsTree m t → BeginsAt m t lf pl es → (lf ≡ 0 → g.pair ≡ None) → (1 ≤ lf → IsGivenIn m lf pl g) → IsFirstOf m t es g
given_on m t es lf pl g tree b none some = elim (leb_tells 1 lf) [
  | inr z ↦ let l : lf ≡ 0 = omega (arith, z.1) in empty g.pair (none l) (b.none l)
  | inl z ↦
      let w = b.here z.1 in
      let i = some z.1 in
      let hh : node m lf ≡ node_of i.page = here m lf i.page i.read in
      let L : Node → Type 0 = λ o. o ≡ leaf (entries_of o) (next_of o) in
      let gives = i.step (subst L hh (leaf_by (node m lf) (omega (arith, w.within)))) in
      let G : Node → Type 0 = λ o. GivesEntry (entries_of o) (next_of o) lf pl g in
      let N : ℕ → Type 0 = λ x. GivesEntry (entries_of (node m lf)) x lf pl g in
      let gv : GivesEntry (entries_of (node m lf)) w.next lf pl g = subst N (sym (next_is m (t.height - 1) t.root lf w.next w.before w.behind w.chain)) (subst G (sym hh) gives) in
      inside g.pair gv.pair w.within (moves_on m t es lf w.next pl w.before w.behind g tree w.chain w.pairs gv)
]
  where
    empty : (o : Option Pair) → o ≡ None → es ≡ [] → MatchOption o (es ≡ []) (λ x. FollowsPair m t es x g.leaf g.place)
    empty None i h = h
    empty (Some x) i h = absurd (cc)

    inside : (o : Option Pair) → MatchOption o (length (entries_of (node m lf)) ≤ pl) (λ x. (pl < length (entries_of (node m lf)))
        × (drop pl (entries_of (node m lf)) ≡ x ∷ drop (pl + 1) (entries_of (node m lf)))) → pl < length (entries_of (node m lf))
        → MatchOption o (BeginsAt m t g.leaf g.place es) (λ x. FollowsPair m t es x g.leaf g.place) → MatchOption o (es ≡ []) (λ x. FollowsPair m t es x g.leaf g.place)
    inside None l i h = absurd (omega arith)
    inside (Some x) l i h = h

-- the pairs behind the first one from a key on are those above its key
next_from : (k : ℕ) (es : List Pair) (e : Pair) (rest : List Pair) → Ascending es → items_from k es ≡ e ∷ rest → (k ≤ e.0) × (items_from (e.0 + 1) es ≡ rest)
next_from k [] e rest a h = absurd (cc)
next_from k (x ∷ xs) e rest a h = elim (leb_tells (suc x.0) k) [
  | inl l ↦
      let i : items_from k xs ≡ e ∷ rest = sym (ap (λ b. cond b (items_from k xs) (x ∷ items_from k xs)) (lt_is x.0 k l.1)) ∙ h in
      let r = next_from k xs e rest a.1 i in
      let le : k ≤ e.0 = r.0 in
      (le, rw (lt_is x.0 (e.0 + 1) (omega (arith, l.1, le))) r.1)
  | inr l ↦
      let le : k ≤ x.0 = omega (arith, l.1) in
      let i : x ∷ items_from k xs ≡ e ∷ rest = sym (ap (λ b. cond b (items_from k xs) (x ∷ items_from k xs)) (lt_not x.0 k le)) ∙ h in
      let same_pair : x ≡ e = ap (λ (y : List Pair). get_or y 0 x) i in
      let same_rest : items_from k xs ≡ rest = ap (λ (y : List Pair). drop 1 y) i in
      let key : x.0 ≡ e.0 = ap (λ (y : Pair). y.0) same_pair in
      let low : items_from k xs ≡ xs = from-AtLeast k xs (Each-map (λ y. x.0 < y.0) (λ y. k ≤ y.0) (λ y z. omega (arith, z, le)) xs a.0) in
      let high : items_from (e.0 + 1) xs ≡ xs = from-AtLeast (e.0 + 1) xs (Each-map (λ y. x.0 < y.0) (λ y. e.0 + 1 ≤ y.0) (λ y z. omega (arith, z, key)) xs a.0) in
      (omega (arith, le, key), rw (lt_is x.0 (e.0 + 1) (omega (arith, key))) (high ∙ (sym low ∙ same_rest)))
]

first_at : (m : Store) (t : Tree) (es : List Pair) (g : Given) (e : Pair) → g.pair ≡ Some e → IsFirstOf m t es g → FollowsPair m t es e g.leaf g.place
first_at m t es g e i h = go g.pair i h
  where
    go : (o : Option Pair) → o ≡ Some e → MatchOption o (es ≡ []) (λ x. FollowsPair m t es x g.leaf g.place) → FollowsPair m t es e g.leaf g.place
    go None i h = absurd (cc)
    go (Some x) i h = let F : Option Pair → Type 0 = λ o. MatchOption o (es ≡ []) (λ y. FollowsPair m t es y g.leaf g.place) in subst F i h

-- a step that gave a pair
pub record Stepping (m : Store) (s after : Spot) (e : Pair) : Type 0 where
  pub least : least_left s ≤ e.0
  pub first : pairs_to_come m s ≡ e ∷ pairs_to_come m after
  pub stands : StandsAt m after

pub stepping : (m : Store) (s : Spot) (g : Given) (e : Pair) → StandsAt m s → g.pair ≡ Some e → IsFirstOf m s.tree (pairs_to_come m s) g
    → Stepping m s (record { tree = s.tree; from = e.0; begun = true; leaf = g.leaf; place = g.place }) e
stepping m s g e st i f =
    let h = first_at m s.tree (pairs_to_come m s) g e i f in
    let r = next_from (least_left s) (tree_items m s.tree) e h.rest st.tree.at.ascending h.first in
    let B : List Pair → Type 0 = λ x. BeginsAt m s.tree g.leaf g.place x in
    record {
      least = r.0;
      first = h.first ∙ ap (λ (x : List Pair). e ∷ x) (sym r.1);
      stands = record { tree = st.tree; place = λ b. subst B (sym r.1) h.begins };
    }
