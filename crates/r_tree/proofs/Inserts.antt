-- A member entered into a leaf, or under one entry of an inner node.
use Rattle.std.proofs.Common.{◌≡◌, ℕ, suc, ◌+◌, ◌≤◌, ◌<◌, List, [], ◌∷◌, ◌++◌, length, get_or, refl, sym, ap, subst, arith, length-append}
use Rattle.std.specs.Prelude.{Bool, true, false, IsPermutation}
use Rattle.std.specs.List.{swap_remove}
use Rattle.std.proofs.lemmas.List.Sorted.{IsPermutation-swap_remove}
use Rattle.code_btree.specs.Items.{Each}
use Rattle.code_btree.specs.Tree.{Store, same, times, live}
use Rattle.code_btree.proofs.Lists.{live_small, times-append}
use Rattle.r_tree.specs.declared.entry.NodeEntry.{NodeEntry}
use Rattle.r_tree.specs.declared.insert.Grown.{Grown}
use Rattle.r_tree.specs.declared.insert.Grown.TheVariants.{Kept, Split}
use Rattle.r_tree.specs.Entry.{Member, member_of}
use Rattle.r_tree.specs.Page.{NodeView, node, node_entries}
use Rattle.r_tree.specs.Tree.{node_at, entries_at, members_in, members_under, pages_below, pages_under, is_inner, StandsUnder}
use Rattle.r_tree.specs.Steps.{weigh, Moves, grandchildren, Lays, LeadsToTree, IsFilledIfSplit, raised, GrowsNode, NodeTree, EntersUnder}
use Rattle.r_tree.proofs.Bags.{length-perm}
use Rattle.r_tree.proofs.EntryTrees.{members-perm, pages-perm, members-append, pages-append, one_members, one_pages, stands-perm, stands-append, InStays, in_stays}
use Rattle.r_tree.proofs.Raises.{moves_next, moves_beside, owns_after, Laid, laid}

-- some entries of an inner node lead on otherwise, and the others stay
pub record Stepped (m u : Store) (l n : ℕ) (es new : List NodeEntry) (less more : List Member) : Type 0 where
  pub moves : Moves m u (n ∷ pages_below m (suc l) es) (n ∷ pages_below u (suc l) new) (members_in m (suc l) es) (members_in u (suc l) new) less more
  pub owns : (q : ℕ) → times q (n ∷ pages_below u (suc l) new) ≤ live u q

-- the other entries of a node, some of whose entries lead on otherwise
pub others_stay : (m u : Store) (l n : ℕ) (es olds rest : List NodeEntry) (Q : List ℕ) (I J less more : List Member) → IsPermutation es (olds ++ rest)
    → ((q : ℕ) → times q (n ∷ pages_below m (suc l) es) ≤ live m q)
    → Moves m u (pages_below m (suc l) olds) Q I J less more → InStays m u (suc l) rest
others_stay m u l n es olds rest Q I J less more p o a = in_stays m u (suc l) rest (λ q k. a.frame q
    (omega (arith, k, o q, live_small m q, pages-perm q m (suc l) es (olds ++ rest) p, pages-append q m (suc l) olds rest))
    (omega (arith, k, o q, live_small m q, pages-perm q m (suc l) es (olds ++ rest) p, pages-append q m (suc l) olds rest)))

pub stepped : (m u : Store) (l n : ℕ) (es olds rest news : List NodeEntry) (less more : List Member) → IsPermutation es (olds ++ rest) → ((q : ℕ) → times q (n ∷ pages_below m (suc l) es) ≤ live m q)
    → Moves m u (pages_below m (suc l) olds) (pages_below u (suc l) news) (members_in m (suc l) olds) (members_in u (suc l) news) less more → Stepped m u l n es (rest ++ news) less more
stepped m u l n es olds rest news less more p o a =
    let st : InStays m u (suc l) rest = others_stay m u l n es olds rest (pages_below u (suc l) news) (members_in m (suc l) olds) (members_in u (suc l) news) less more p o a in
    let mv : Moves m u (n ∷ pages_below m (suc l) es) (n ∷ pages_below u (suc l) (rest ++ news)) (members_in m (suc l) es) (members_in u (suc l) (rest ++ news)) less more =
    moves_beside m u (pages_below m (suc l) olds) (pages_below u (suc l) news) (n ∷ pages_below m (suc l) es) (n ∷ pages_below u (suc l) (rest ++ news))
    (members_in m (suc l) olds) (members_in u (suc l) news) (members_in m (suc l) es) (members_in u (suc l) (rest ++ news)) less more
    (λ q. same q n + times q (pages_below m (suc l) rest)) (λ f. weigh f (members_in m (suc l) rest)) a
    (λ q. omega (arith, pages-perm q m (suc l) es (olds ++ rest) p, pages-append q m (suc l) olds rest))
    (λ q. omega (arith, pages-append q u (suc l) rest news, ap (λ (x : List ℕ). times q x) st.pages))
    (λ f. omega (arith, members-perm f m (suc l) es (olds ++ rest) p, members-append f m (suc l) olds rest))
    (λ f. omega (arith, members-append f u (suc l) rest news, ap (λ (x : List Member). weigh f x) st.members)) in
    record {
      moves = mv;
      owns = owns_after m u (n ∷ pages_below m (suc l) es) (n ∷ pages_below u (suc l) (rest ++ news)) (members_in m (suc l) es) (members_in u (suc l) (rest ++ news)) less more mv o;
    }

-- what an entry of an inner node leads to, as one entry of a row
pub one_moves : (m u : Store) (l : ℕ) (e : NodeEntry) (Q : List ℕ) (J less more : List Member) → Moves m u (pages_under m l e.child) Q (members_under m l e.child) J less more
    → Moves m u (pages_below m (suc l) (e ∷ [])) Q (members_in m (suc l) (e ∷ [])) J less more
one_moves m u l e Q J less more a = moves_beside m u (pages_under m l e.child) Q (pages_below m (suc l) (e ∷ [])) Q (members_under m l e.child) J
    (members_in m (suc l) (e ∷ [])) J less more (λ q. 0) (λ f. 0) a
    (λ q. omega (arith, one_pages q m l e)) (λ q. omega arith) (λ f. omega (arith, one_members f m l e)) (λ f. omega arith)

-- the entries that lead to a child that grew
raised_stands : (m u : Store) (l c : ℕ) (g : Grown) → 50 ≤ length (entries_at m c) → Each (LeadsToTree u l) (raised c g) → GrowsNode m u c g → StandsUnder u (suc l) (raised c g)
raised_stands m u l c (Kept r) few le gr = ((le.0.0, (omega (arith, few, gr), le.0.1)), tt)
raised_stands m u l c (Split r s p) few le gr = ((le.0.0, (gr.0, le.0.1)), ((le.1.0.0, (gr.1.0, le.1.0.1)), tt))

-- a page that was laid out anew has no fewer entries, or was split
grown_of : (m w : Store) (n : ℕ) (g : Grown) (es fs : List NodeEntry) → entries_at m n ≡ es → length es ≤ length fs → IsPermutation fs (grandchildren w (raised n g))
    → IsFilledIfSplit w n g → GrowsNode m w n g
grown_of m w n (Kept r) es fs e l p f = omega (arith, l, ap (λ (x : List NodeEntry). length x) e, length-perm fs (entries_at w n ++ []) p, length-append (entries_at w n) [])
grown_of m w n (Split r s p2) es fs e l p f = f

raised_some : (c : ℕ) (g : Grown) → 1 ≤ length (raised c g)
raised_some c (Kept r) = omega arith
raised_some c (Split r s p) = omega arith

-- the entries of page n, read as this node
pub read_as : (m : Store) (n : ℕ) (inner : Bool) (es : List NodeEntry) → node_at m n ≡ node inner es → entries_at m n ≡ es
read_as m n inner es e = ap (λ (v : NodeView). node_entries v) e

-- entries that became others under page n, and were laid into it
laid_up : (m u w : Store) (l n : ℕ) (g : Grown) (i : Member) (es fs : List NodeEntry) → entries_at m n ≡ es → length es ≤ length fs → StandsUnder u l fs
    → ((q : ℕ) → times q (n ∷ pages_below u l fs) ≤ live u q)
    → Moves m u (n ∷ pages_below m l es) (n ∷ pages_below u l fs) (members_in m l es) (members_in u l fs) [] (i ∷ []) → Lays u w (n ∷ []) (raised n g) fs (is_inner l)
    → IsFilledIfSplit w n g → EntersUnder m w l n i g
laid_up m u w l n g i es fs e len s o mv a full =
    let ld : Laid u w l (n ∷ []) (raised n g) fs = laid u w l (n ∷ []) (raised n g) fs s o a in
    let M : List NodeEntry → Type 0 = λ x. Moves m w (n ∷ pages_below m l x) (pages_below w (suc l) (raised n g)) (members_in m l x) (members_in w (suc l) (raised n g)) [] (i ∷ []) in
    record {
      leads = ld.leads;
      grows = grown_of m w n g es fs e len a.shared full;
      moves = subst M (sym e) (moves_next m u w (n ∷ pages_below m l es) (n ∷ pages_below u l fs) (pages_below w (suc l) (raised n g)) (members_in m l es)
          (members_in u l fs) (members_in w (suc l) (raised n g)) [] (i ∷ []) mv ld.moves);
    }

-- a member more in a leaf
pub leaf_put : (m w : Store) (n : ℕ) (g : Grown) (x : NodeEntry) (es : List NodeEntry) → node_at m n ≡ node false es → NodeTree m 0 n
    → Lays m w (n ∷ []) (raised n g) (es ++ x ∷ []) false → IsFilledIfSplit w n g → EntersUnder m w 0 n (member_of x) g
leaf_put m w n g x es e t a full = laid_up m m w 0 n g (member_of x) es (es ++ x ∷ []) (read_as m n false es e) (omega (arith, length-append es (x ∷ []))) tt t.owns
    (record { frame = λ q l z. refl; moved = λ q. refl; weighed = λ f. omega (arith, members-append f m 0 es (x ∷ [])) }) a full

-- a member more under an entry of an inner node
pub inner_put : (m u w : Store) (l n at : ℕ) (below g : Grown) (i : Member) (c : NodeEntry) (es : List NodeEntry) → node_at m n ≡ node true es → NodeTree m (suc l) n
    → at < length es → c ≡ get_or es at c → EntersUnder m u l c.child i below
    → Lays u w (n ∷ []) (raised n g) (swap_remove es at c ++ raised c.child below) true → IsFilledIfSplit w n g → EntersUnder m w (suc l) n i g
inner_put m u w l n at below g i c es e t lt is ins a full =
    let rest : List NodeEntry = swap_remove es at c in
    let ee : entries_at m n ≡ es = read_as m n true es e in
    let p : IsPermutation es (c ∷ rest) = IsPermutation-swap_remove es at c lt is in
    let S : List NodeEntry → Type 0 = λ x. StandsUnder m (suc l) x in
    let O : List NodeEntry → Type 0 = λ x. (q : ℕ) → times q (n ∷ pages_below m (suc l) x) ≤ live m q in
    let s : StandsUnder m (suc l) (c ∷ rest) = stands-perm m (suc l) es (c ∷ rest) p (subst S ee t.stands.1) in
    let o : (q : ℕ) → times q (n ∷ pages_below m (suc l) es) ≤ live m q = subst O ee t.owns in
    let mv = one_moves m u l c (pages_below u (suc l) (raised c.child below)) (members_in u (suc l) (raised c.child below)) [] (i ∷ []) ins.moves in
    let st : Stepped m u l n es (rest ++ raised c.child below) [] (i ∷ []) = stepped m u l n es (c ∷ []) rest (raised c.child below) [] (i ∷ []) p o mv in
    let stay : InStays m u (suc l) rest = others_stay m u l n es (c ∷ []) rest (pages_below u (suc l) (raised c.child below)) (members_in m (suc l) (c ∷ []))
    (members_in u (suc l) (raised c.child below)) [] (i ∷ []) p o mv in
    laid_up m u w (suc l) n g i es (rest ++ raised c.child below) ee (omega (arith, length-perm es (c ∷ rest) p, length-append rest (raised c.child below), raised_some c.child below))
    (stands-append u (suc l) rest (raised c.child below) (stay.stands s.1) (raised_stands m u l c.child below s.0.1.0 ins.leads ins.grows)) st.owns st.moves a full

-- the same, from a store where the pages are as before, with the entries as they were handed on
pub leaf_put_from : (m m0 w : Store) (n : ℕ) (g : Grown) (x : NodeEntry) (es fs : List NodeEntry) → m0 ≡ m → fs ≡ es ++ x ∷ [] → node_at m n ≡ node false es
    → NodeTree m 0 n → Lays m0 w (n ∷ []) (raised n g) fs false → IsFilledIfSplit w n g → EntersUnder m w 0 n (member_of x) g
leaf_put_from m m0 w n g x es fs s f e t a full =
    let P : Store → Type 0 = λ y. Lays y w (n ∷ []) (raised n g) fs false in
    let Q : List NodeEntry → Type 0 = λ y. Lays m w (n ∷ []) (raised n g) y false in
    leaf_put m w n g x es e t (subst Q f (subst P s a)) full

pub inner_put_from : (m m0 u w : Store) (l n at : ℕ) (below g : Grown) (i : Member) (c : NodeEntry) (es fs : List NodeEntry) → m0 ≡ m
    → fs ≡ swap_remove es at c ++ raised c.child below → node_at m n ≡ node true es → NodeTree m (suc l) n → at < length es → c ≡ get_or es at c
    → EntersUnder m0 u l c.child i below → Lays u w (n ∷ []) (raised n g) fs true → IsFilledIfSplit w n g → EntersUnder m w (suc l) n i g
inner_put_from m m0 u w l n at below g i c es fs s f e t lt is ins a full =
    let P : Store → Type 0 = λ y. EntersUnder y u l c.child i below in
    let Q : List NodeEntry → Type 0 = λ y. Lays u w (n ∷ []) (raised n g) y true in
    inner_put m u w l n at below g i c es e t lt is (subst P s ins) (subst Q f a) full

-- the tree under an entry of an inner node
pub child_tree : (m : Store) (l n at : ℕ) (c : NodeEntry) (es : List NodeEntry) → node_at m n ≡ node true es → NodeTree m (suc l) n → at < length es → c ≡ get_or es at c → NodeTree m l c.child
child_tree m l n at c es e t lt is =
    let ee : entries_at m n ≡ es = read_as m n true es e in
    let rest : List NodeEntry = swap_remove es at c in
    let p : IsPermutation es (c ∷ rest) = IsPermutation-swap_remove es at c lt is in
    let S : List NodeEntry → Type 0 = λ x. StandsUnder m (suc l) x in
    let O : List NodeEntry → Type 0 = λ x. (q : ℕ) → times q (n ∷ pages_below m (suc l) x) ≤ live m q in
    let s : StandsUnder m (suc l) (c ∷ rest) = stands-perm m (suc l) es (c ∷ rest) p (subst S ee t.stands.1) in
    let o : (q : ℕ) → times q (n ∷ pages_below m (suc l) es) ≤ live m q = subst O ee t.owns in
    record {
      stands = s.0.1.1;
      owns = λ q. omega (arith, o q, pages-perm q m (suc l) es (c ∷ rest) p, times-append q (pages_below m l (entries_at m c.child)) (pages_below m (suc l) rest));
    }

-- the place that was found among lent entries
pub at_lent : (es ds : List NodeEntry) (at : ℕ) → ds ≡ es → (1 ≤ length ds → at < length ds) → 1 ≤ length es → at < length es
at_lent es ds at e h l = omega (arith, h (omega (arith, l, ap (λ (x : List NodeEntry). length x) e)), ap (λ (x : List NodeEntry). length x) e)
