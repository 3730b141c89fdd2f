-- The pairs of a key range, taken leaf by leaf.
use Rattle.std.proofs.Common.{◌≡◌, ℕ, suc, ◌+◌, ◌-◌, ◌/◌, ◌<◌, ◌≤◌, List, [], ◌∷◌, ◌++◌, length, take, drop, refl, sym, ◌∙◌, ap, subst, inl, inr, arith}
use Rattle.std.proofs.Common.{append_assoc, append-nil, length-append}
use Rattle.std.specs.Prelude.{Some, Result, Ok}
use Rattle.std.proofs.lemmas.List.Concat.{flat_map-append}
use Rattle.std.proofs.lemmas.Bool.Decides.{leb_tells}
use Rattle.page_pool.specs.declared.fault.PageFault.{PageFault}
use Rattle.page_pool.specs.Pool.{PoolState}
use Rattle.page_pool.specs.Steps.{IsRead-trans, HasPageCause-before, HasPageCause-done}
use Rattle.code_btree.specs.declared.map.Tree.{Tree}
use Rattle.code_btree.specs.Calls.{Peeks}
use Rattle.code_btree.specs.Node.{Pair, Node, leaf, node_of, entries_of, next_of, child_pages, child_in}
use Rattle.code_btree.specs.Items.{Above, Below, Ascending, items_below}
use Rattle.code_btree.specs.Tree.{Store, node, links, all_items, all_links, Path, IsTree, tree_items}
use Rattle.code_btree.specs.Steps.{Subtree, LeadsTo, InnerStep}
use Rattle.code_btree.specs.Run.{chained}
use Rattle.code_btree.specs.Between.{items_between, AtLeast, TakesEntry, IsTakenIn, IsLeafFor, IsRestAt, IsRest, IsPartDone}
use Rattle.code_btree.proofs.Lists.{Each-append, Each-right}
use Rattle.code_btree.proofs.Orders.{from-Below, Above-AtLeast, Ascending-left, Ascending-right}
use Rattle.code_btree.proofs.Leaves.{here}
use Rattle.code_btree.proofs.Inserts.{at_page}
use Rattle.code_btree.proofs.LeafChain.{chained-append, row_chained, items_chained, next_is, next_filled, path_from}
use Rattle.code_btree.proofs.Chains.{leaf_by}
use Rattle.code_btree.proofs.BetweenLeaf.{between-append, between-AtLeast, between_all, behind_high}

-- a lone leaf is that of each key
pub leaf_lone : (m : Store) (n key : ℕ) → Subtree m 0 n → IsLeafFor m 0 n key n
leaf_lone m n key s = record {
  before = [];
  behind = [];
  next = next_of (node m n);
  chain = refl;
  is_leaf = s.sound.is_leaf;
  below = tt;
  above = tt;
}

-- the leaf under the child to which a key belongs
leaf_up : (m : Store) (h n k c lf : ℕ) (xs ys : List ℕ) → child_pages (node m n) ≡ xs ++ (c ∷ ys) → Below k (all_items m h xs) → Above k (all_items m h ys)
    → IsLeafFor m h c k lf → IsLeafFor m (suc h) n k lf
leaf_up m h n k c lf xs ys e below above s =
    let X : List (ℕ × ℕ) = all_links m h xs in
    let Y : List (ℕ × ℕ) = all_links m h ys in
    let links_all : links m (suc h) n ≡ X ++ (links m h c ++ Y) = ap (λ (cs : List ℕ). all_links m h cs) e ∙ flat_map-append (λ d. links m h d) xs (c ∷ ys) in
    let moved : X ++ ((s.before ++ ((lf, s.next) ∷ s.behind)) ++ Y) ≡ (X ++ s.before) ++ ((lf, s.next) ∷ (s.behind ++ Y)) = simp append_assoc in
    let B : List Pair → Type 0 = λ x. Below k x in
    let A : List Pair → Type 0 = λ x. AtLeast k x in
    let left : Below k (chained m X) = subst B (row_chained m h (λ d. items_chained m h d) xs) below in
    let right : AtLeast k (chained m Y) = subst A (row_chained m h (λ d. items_chained m h d) ys) (Above-AtLeast k (all_items m h ys) above) in
    record {
      before = X ++ s.before;
      behind = s.behind ++ Y;
      next = s.next;
      chain = links_all ∙ (ap (λ (ls : List (ℕ × ℕ)). X ++ (ls ++ Y)) s.chain ∙ moved);
      is_leaf = s.is_leaf;
      below = subst B (sym (chained-append m X s.before)) (Each-append (λ x. x.0 < k) (chained m X) (chained m s.before) left s.below);
      above = subst A (sym (chained-append m s.behind Y)) (Each-append (λ x. k ≤ x.0) (chained m s.behind) (chained m Y) s.above right);
    }

pub record LeafLed (m : Store) (h n k c : ℕ) : Type 0 where
  pub child : Subtree m h c
  pub up : (lf : ℕ) → IsLeafFor m h c k lf → IsLeafFor m (suc h) n k lf

pub leaf_led : (m : Store) (h n k c : ℕ) → Subtree m (suc h) n → LeadsTo m n k (Some c) → LeafLed m h n k c
leaf_led m h n k c s l =
    let st : InnerStep l.page k c = l.step in
    let t = at_page m h n k l.page st.count st.at l.read s st.is st.place st.before st.behind in
    let S : ℕ → Type 0 = λ x. Subtree m h x in
    record {
      child = subst S (sym st.child_is) t.descent.child;
      up = λ lf z.
          let Z : ℕ → Type 0 = λ x. IsLeafFor m h x k lf in
          leaf_up m h n k (child_in l.page st.at) lf (take st.at (child_pages (node_of l.page)))
          (drop (st.at + 1) (child_pages (node_of l.page))) t.split t.descent.below t.descent.above (subst Z st.child_is z);
    }

-- what is still wanted behind a leaf
record GoneOn (m : Store) (t : Tree) (low high lf most on : ℕ) (behind : List (ℕ × ℕ)) (old new : List Pair) : Type 0 where
  rest : List Pair
  is : IsRest m t low high on most rest
  found : old ++ items_between low high (entries_of (node m lf) ++ chained m behind) ≡ new ++ rest

-- no leaf behind one that leads to 0
last_leaf : (m : Store) (nx : ℕ) (behind : List (ℕ × ℕ)) → Path nx behind 0 → nx ≡ 0 → chained m behind ≡ []
last_leaf m nx [] p z = refl
last_leaf m nx (r ∷ rest) p z = absurd (omega (arith, p.1.0, z))

-- the next leaf of the chain
next_rest : (m : Store) (t : Tree) (low high lf nx most : ℕ) (before behind : List (ℕ × ℕ)) → IsTree m t → links m (t.height - 1) t.root ≡ before ++ ((lf, nx) ∷ behind) → Path nx behind 0 → 1 ≤ nx
    → length (chained m behind) ≤ most → AtLeast low (chained m behind) → IsRestAt m t low high nx most (items_between low high (chained m behind))
next_rest m t low high lf nx most before [] tree e p some few least = absurd (omega (arith, p, some))
next_rest m t low high lf nx most before (r ∷ rest) tree e p some few least =
    let moved : before ++ ((lf, nx) ∷ (r ∷ rest)) ≡ (before ++ ((lf, nx) ∷ [])) ++ ((r.0, r.1) ∷ rest) = sym (append_assoc before ((lf, nx) ∷ []) (r ∷ rest)) in
    let R : ℕ → Type 0 = λ x. IsRestAt m t low high x most (items_between low high (chained m (r ∷ rest))) in
    subst R (sym p.0) (record {
      before = before ++ ((lf, nx) ∷ []);
      behind = rest;
      next = r.1;
      chain = e ∙ moved;
      full = next_filled m (t.height - 1) t.root before (lf, nx) r rest tree.at.sound e;
      few = few;
      least = least;
      pairs = refl;
    })

go_on : (m : Store) (t : Tree) (low high lf nx most on : ℕ) (before behind : List (ℕ × ℕ)) (old new : List Pair) → IsTree m t → links m (t.height - 1) t.root ≡ before ++ ((lf, nx) ∷ behind)
    → TakesEntry (entries_of (node m lf)) nx low high old new on → Ascending (entries_of (node m lf) ++ chained m behind) → length (chained m behind) ≤ most
    → AtLeast low (chained m behind) → GoneOn m t low high lf most on behind old new
go_on m t low high lf nx most on before behind old new tree e takes asc few least =
    let E : List Pair = entries_of (node m lf) in
    let C : List Pair = chained m behind in
    let R : List Pair = items_between low high C in
    let path = (path_from m t lf nx before behind tree e).1 in
    record {
      rest = R;
      is = record {
        none = λ z. elim (takes.ends z) [
          | inl n ↦ ap (λ (x : List Pair). items_between low high x) (last_leaf m nx behind path n)
          | inr s ↦ between-AtLeast low high C least (behind_high high E C asc s)
        ];
        here = λ l.
            let g = takes.goes l in
            let W : ℕ → Type 0 = λ x. IsRestAt m t low high x most R in
            subst W (sym g.0) (next_rest m t low high lf nx most before behind tree e path (omega (arith, l, g.0)) few least);
      };
      found = ap (λ (x : List Pair). old ++ x) (between-append low high E C) ∙ (sym (append_assoc old (items_between low high E) R) ∙ ap (λ (x : List Pair). x ++ R) (sym takes.taken));
    }

-- the pairs of a tree from a leaf on
chain_items : (m : Store) (t : Tree) (lf nx : ℕ) (before behind : List (ℕ × ℕ)) → links m (t.height - 1) t.root ≡ before ++ ((lf, nx) ∷ behind)
    → tree_items m t ≡ chained m before ++ (entries_of (node m lf) ++ chained m behind)
chain_items m t lf nx before behind e = items_chained m (t.height - 1) t.root ∙ (ap (λ (ls : List (ℕ × ℕ)). chained m ls) e ∙ chained-append m before ((lf, nx) ∷ behind))

chain_ascends : (m : Store) (t : Tree) (lf nx : ℕ) (before behind : List (ℕ × ℕ)) → IsTree m t → links m (t.height - 1) t.root ≡ before ++ ((lf, nx) ∷ behind)
    → Ascending (entries_of (node m lf) ++ chained m behind)
chain_ascends m t lf nx before behind tree e =
    let A : List Pair → Type 0 = λ x. Ascending x in
    Ascending-right (chained m before) (entries_of (node m lf) ++ chained m behind) (subst A (chain_items m t lf nx before behind e) tree.at.ascending)

-- what a leaf of the chain gave, by its node
taken_there : (m : Store) (t : Tree) (low high lf nx on : ℕ) (before behind : List (ℕ × ℕ)) (old new : List Pair) → IsTree m t → links m (t.height - 1) t.root ≡ before ++ ((lf, nx) ∷ behind)
    → node m lf ≡ leaf (entries_of (node m lf)) (next_of (node m lf)) → IsTakenIn m lf low high old new on → TakesEntry (entries_of (node m lf)) nx low high old new on
taken_there m t low high lf nx on before behind old new tree e is_leaf i =
    let hh : node m lf ≡ node_of i.page = here m lf i.page i.read in
    let L : Node → Type 0 = λ o. o ≡ leaf (entries_of o) (next_of o) in
    let A : Node → Type 0 = λ o. Ascending (entries_of o) in
    let asc : Ascending (entries_of (node m lf)) = Ascending-left (entries_of (node m lf)) (chained m behind) (chain_ascends m t lf nx before behind tree e) in
    let G : Node → Type 0 = λ o. TakesEntry (entries_of o) (next_of o) low high old new on in
    let N : ℕ → Type 0 = λ x. TakesEntry (entries_of (node m lf)) x low high old new on in
    subst N (sym (next_is m (t.height - 1) t.root lf nx before behind e)) (subst G (sym hh) (i.step (subst L hh is_leaf) (subst A hh asc)))

-- The first leaf of a range: what is still wanted behind it.
pub record FirstTaken (m : Store) (t : Tree) (low high on : ℕ) (old new : List Pair) : Type 0 where
  pub rest : List Pair
  pub is : IsRest m t low high on t.entries rest
  pub found : old ++ items_between low high (tree_items m t) ≡ new ++ rest
  pub fewer : length rest ≤ length (items_between low high (tree_items m t))

pub first_taken : (m : Store) (t : Tree) (low high lf on : ℕ) (old new : List Pair) → IsTree m t → IsLeafFor m (t.height - 1) t.root low lf
    → IsTakenIn m lf low high old new on → FirstTaken m t low high on old new
first_taken m t low high lf on old new tree w i =
    let E : List Pair = entries_of (node m lf) in
    let C : List Pair = chained m w.behind in
    let B : List Pair = chained m w.before in
    let all : tree_items m t ≡ B ++ (E ++ C) = chain_items m t lf w.next w.before w.behind w.chain in
    let few : length C ≤ t.entries = omega (arith, tree.at.counted, ap (λ (x : List Pair). length x) all, length-append B (E ++ C), length-append E C) in
    let takes = taken_there m t low high lf w.next on w.before w.behind old new tree w.chain w.is_leaf i in
    let g = go_on m t low high lf w.next t.entries on w.before w.behind old new tree w.chain takes (chain_ascends m t lf w.next w.before w.behind tree w.chain) few w.above in
    let none : items_between low high B ≡ [] = ap (λ (x : List Pair). items_below high x) (from-Below low B w.below) in
    let wanted : items_between low high (tree_items m t) ≡ items_between low high (E ++ C) =
    ap (λ (x : List Pair). items_between low high x) all ∙ (between-append low high B (E ++ C) ∙ ap (λ (x : List Pair). x ++ items_between low high (E ++ C)) none) in
    let found : old ++ items_between low high (tree_items m t) ≡ new ++ g.rest = ap (λ (x : List Pair). old ++ x) wanted ∙ g.found in
    record {
      rest = g.rest;
      is = g.is;
      found = found;
      fewer = omega (
        arith,
        ap (λ (x : List Pair). length x) found,
        length-append old (items_between low high (tree_items m t)),
        length-append new g.rest,
        ap (λ (x : List Pair). length x) takes.taken,
        length-append old (items_between low high E),
      );
    }

-- A further leaf of the range: it gave all that it has, or it is the last.
record TakenOn (m : Store) (t : Tree) (low high left on : ℕ) (old new want : List Pair) : Type 0 where
  rest : List Pair
  is : IsRest m t low high on left rest
  found : old ++ want ≡ new ++ rest
  fewer : length rest ≤ length want
  full : 1 ≤ on → 63 + length rest ≤ length want

taken_on : (m : Store) (t : Tree) (low high lf left on : ℕ) (old new want : List Pair) → IsTree m t → IsRestAt m t low high lf left want
    → IsTakenIn m lf low high old new on → TakenOn m t low high (left - 1) on old new want
taken_on m t low high lf left on old new want tree w i =
    let E : List Pair = entries_of (node m lf) in
    let C : List Pair = chained m w.behind in
    let lengths : length (E ++ C) ≡ length E + length C = length-append E C in
    let few : length C ≤ left - 1 = omega (arith, lengths, w.few, w.full) in
    let takes = taken_there m t low high lf w.next on w.before w.behind old new tree w.chain (leaf_by (node m lf) (omega (arith, w.full))) i in
    let g = go_on m t low high lf w.next (left - 1) on w.before w.behind old new tree w.chain takes (chain_ascends m t lf w.next w.before w.behind tree w.chain) few
    (Each-right (λ x. low ≤ x.0) E C w.least) in
    let found : old ++ want ≡ new ++ g.rest = ap (λ (x : List Pair). old ++ x) w.pairs ∙ g.found in
    let sizes : length want ≡ length (items_between low high E) + length g.rest =
    omega (
      arith,
      ap (λ (x : List Pair). length x) found,
      length-append old want,
      length-append new g.rest,
      ap (λ (x : List Pair). length x) takes.taken,
      length-append old (items_between low high E),
    ) in
    record {
      rest = g.rest;
      is = g.is;
      found = found;
      fewer = omega (arith, sizes);
      full = λ l.
          let least : AtLeast low E = left_least low E C w.least in
          let all : items_between low high E ≡ E = between_all low high E least ((takes.goes l).1 least) in
          omega (arith, sizes, ap (λ (x : List Pair). length x) all, w.full);
    }
  where
    left_least : (k : ℕ) (xs ys : List Pair) → AtLeast k (xs ++ ys) → AtLeast k xs
    left_least k [] ys h = tt
    left_least k (x ∷ xs) ys h = (h.0, left_least k xs ys h.1)

-- all is still wanted
pub part_begun : (m : Store) (t : Tree) (low high lf most : ℕ) (old want : List Pair) (gets : ℕ) → IsRest m t low high lf most want → IsPartDone m t low high lf most old want old gets gets
part_begun m t low high lf most old want gets is = record { rest = want; on = is; found = refl; price = omega arith; tight = λ l. omega arith }

-- one leaf more
pub part_on : (m : Store) (t : Tree) (low high lf left on : ℕ) (old want mid new : List Pair) (before now then : ℕ) → IsTree m t → 1 ≤ lf
    → IsPartDone m t low high lf left old want mid before now → IsTakenIn m lf low high mid new on → then ≤ now + 1
    → IsPartDone m t low high on (left - 1) old want new before then
part_on m t low high lf left on old want mid new before now then tree l d i more =
    let k = taken_on m t low high lf left on mid new d.rest tree (d.on.here l) i in
    record {
      rest = k.rest;
      on = k.is;
      found = d.found ∙ k.found;
      price = omega (arith, d.tight l, k.fewer, more);
      tight = λ o. omega (arith, d.tight l, k.full o, more);
    }

-- nothing is left
pub part_over : (m : Store) (t : Tree) (low high lf left : ℕ) (old want new : List Pair) (before now : ℕ) → lf ≡ 0 → IsPartDone m t low high lf left old want new before now → new ≡ old ++ want
part_over m t low high lf left old want new before now z d = sym (d.found ∙ (ap (λ (x : List Pair). new ++ x) (d.on.none z) ∙ append-nil new))

-- where no leaf is left, none is wanted
pub part_last : (m : Store) (t : Tree) (low high lf left : ℕ) (old want new : List Pair) (before now : ℕ) → left ≡ 0 → IsPartDone m t low high lf left old want new before now → lf ≡ 0
part_last m t low high lf left old want new before now z d = elim (leb_tells 1 lf) [
  | inl l ↦
      let w = d.on.here l.1 in
      absurd (omega (arith, z, w.few, w.full, length-append (entries_of (node m lf)) (chained m w.behind)))
  | inr l ↦ omega (arith, l.1)
]

-- the gets of a range
pub part_price : (m : Store) (t : Tree) (low high lf left : ℕ) (old want new : List Pair) (before now : ℕ) → IsPartDone m t low high lf left old want new before now
    → now ≤ before + (1 + length want / 63)
part_price m t low high lf left old want new before now d = omega (arith, d.price)

-- those of a leaf that was refused
pub part_failed : (m : Store) (t : Tree) (low high lf left : ℕ) (old want new : List Pair) (before now then : ℕ) → 1 ≤ lf
    → IsPartDone m t low high lf left old want new before now → then ≤ now + 1 → then ≤ before + (1 + length want / 63)
part_failed m t low high lf left old want new before now then l d more = omega (arith, d.tight l, more)

-- gets of a descent, of a first leaf and of those behind it
pub price_all : (a b d e h r n : ℕ) → 1 ≤ h → b ≤ a + (h - 1) → d ≤ b + 1 → e ≤ d + (1 + r / 63) → r ≤ n → e ≤ a + ((h + 1) + n / 63)
price_all a b d e h r n one x y z l = omega (arith, one, x, y, z, l)

-- gets after gets, some of which may be none
pub peeks_on : {T U : Type 0} (a b c : PoolState) (k l : ℕ) (x : T) (r : Result U PageFault) → Peeks a b k (Ok x) → Peeks b c l r → Peeks a c (k + l) r
peeks_on a b c k l x r g h = record {
  read = IsRead-trans a b c g.read h.read;
  within = omega (arith, g.within, h.within);
  up = omega (arith, g.up, h.up);
  cause = HasPageCause-before a b c r g.cause.counted h.cause;
}

pub peeks_more : {T : Type 0} (a b : PoolState) (k l : ℕ) (r : Result T PageFault) → k ≤ l → Peeks a b k r → Peeks a b l r
peeks_more a b k l r h g = record { read = g.read; within = omega (arith, g.within, h); up = g.up; cause = g.cause }

-- one answer for another
pub peeks_given : {T U : Type 0} (a b : PoolState) (k : ℕ) (x : T) (y : U) → Peeks a b k (Ok x) → Peeks a b k (Ok y)
peeks_given a b k x y g = record { read = g.read; within = g.within; up = g.up; cause = HasPageCause-done a b y g.cause.counted }
