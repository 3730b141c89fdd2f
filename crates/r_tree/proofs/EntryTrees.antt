-- Trees under the entries of a node: their members and pages counted in any order, and that they stay where their pages do.
use Rattle.std.proofs.Common.{◌≡◌, ℕ, zero, suc, ◌+◌, ◌≤◌, List, [], ◌∷◌, ◌++◌, length, refl, sym, ◌∙◌, ap, ap₂, subst, arith}
use Rattle.std.specs.Prelude.{Option, IsPermutation}
use Rattle.std.specs.List.{sum_by}
use Rattle.std.proofs.lemmas.List.Sorted.{sum_by-IsPermutation}
use Rattle.std.proofs.lemmas.List.Sums.{sum_by-cons, sum_by-append}
use Rattle.code_btree.specs.Tree.{Store, same, times}
use Rattle.code_btree.proofs.Lists.{same_self, times-append, Each-append, Each-left, Each-right}
use Rattle.r_tree.specs.declared.entry.NodeEntry.{NodeEntry}
use Rattle.r_tree.specs.Entry.{Member, member_of, bound_of}
use Rattle.r_tree.specs.Page.{NodeView, node, rtree_node_in, node_entries}
use Rattle.r_tree.specs.Tree.{node_at, entries_at, members_in, pages_below, is_inner, IsNodeAt, Encloses, StandsUnder}
use Rattle.r_tree.specs.Steps.{weigh, children, grandchildren}
use Rattle.r_tree.proofs.Bags.{weigh-append, Each-perm}

-- the weight of what is listed under one entry, and how often a page stands under it
abbrev entry_weight : (Member → ℕ) → Store → ℕ → NodeEntry → ℕ
entry_weight f m zero e = f (member_of e)
entry_weight f m (suc l) e = weigh f (members_in m l (entries_at m e.child))

abbrev entry_times : ℕ → Store → ℕ → NodeEntry → ℕ
entry_times q m zero e = 0
entry_times q m (suc l) e = same q e.child + times q (pages_below m l (entries_at m e.child))

members-sum : (f : Member → ℕ) (m : Store) (l : ℕ) (es : List NodeEntry) → weigh f (members_in m l es) ≡ sum_by (entry_weight f m l) es
members-sum f m zero [] = refl
members-sum f m (suc l) [] = refl
members-sum f m zero (e ∷ es) = omega (arith, members-sum f m zero es, sum_by-cons (entry_weight f m zero) e es)
members-sum f m (suc l) (e ∷ es) = omega (
  arith,
  members-sum f m (suc l) es,
  sum_by-cons (entry_weight f m (suc l)) e es,
  weigh-append f (members_in m l (entries_at m e.child)) (members_in m (suc l) es),
)

pages-sum : (q : ℕ) (m : Store) (l : ℕ) (es : List NodeEntry) → times q (pages_below m l es) ≡ sum_by (entry_times q m l) es
pages-sum q m zero [] = refl
pages-sum q m (suc l) [] = refl
pages-sum q m zero (e ∷ es) = omega (arith, pages-sum q m zero es, sum_by-cons (entry_times q m zero) e es)
pages-sum q m (suc l) (e ∷ es) = omega (arith, pages-sum q m (suc l) es, sum_by-cons (entry_times q m (suc l)) e es, times-append q (pages_below m l (entries_at m e.child)) (pages_below m (suc l) es))

pub members-perm : (f : Member → ℕ) (m : Store) (l : ℕ) (es fs : List NodeEntry) → IsPermutation es fs → weigh f (members_in m l fs) ≡ weigh f (members_in m l es)
members-perm f m l es fs p = members-sum f m l fs ∙ (sum_by-IsPermutation (entry_weight f m l) es fs p ∙ sym (members-sum f m l es))

pub pages-perm : (q : ℕ) (m : Store) (l : ℕ) (es fs : List NodeEntry) → IsPermutation es fs → times q (pages_below m l fs) ≡ times q (pages_below m l es)
pages-perm q m l es fs p = pages-sum q m l fs ∙ (sum_by-IsPermutation (entry_times q m l) es fs p ∙ sym (pages-sum q m l es))

pub members-append : (f : Member → ℕ) (m : Store) (l : ℕ) (xs ys : List NodeEntry) → weigh f (members_in m l (xs ++ ys)) ≡ weigh f (members_in m l xs) + weigh f (members_in m l ys)
members-append f m l xs ys = omega (arith, members-sum f m l (xs ++ ys), members-sum f m l xs, members-sum f m l ys, sum_by-append (entry_weight f m l) xs ys)

pub pages-append : (q : ℕ) (m : Store) (l : ℕ) (xs ys : List NodeEntry) → times q (pages_below m l (xs ++ ys)) ≡ times q (pages_below m l xs) + times q (pages_below m l ys)
pages-append q m l xs ys = omega (arith, pages-sum q m l (xs ++ ys), pages-sum q m l xs, pages-sum q m l ys, sum_by-append (entry_times q m l) xs ys)

-- one entry of an inner node: its child's members and pages
pub one_members : (f : Member → ℕ) (m : Store) (l : ℕ) (e : NodeEntry) → weigh f (members_in m (suc l) (e ∷ [])) ≡ weigh f (members_in m l (entries_at m e.child))
one_members f m l e = omega (arith, weigh-append f (members_in m l (entries_at m e.child)) [])

pub one_pages : (q : ℕ) (m : Store) (l : ℕ) (e : NodeEntry) → times q (pages_below m (suc l) (e ∷ [])) ≡ same q e.child + times q (pages_below m l (entries_at m e.child))
one_pages q m l e = omega (arith, times-append q (pages_below m l (entries_at m e.child)) [])

-- what stands under entries in any order, and under some of them
pub stands-perm : (m : Store) (l : ℕ) (es fs : List NodeEntry) → IsPermutation es fs → StandsUnder m l es → StandsUnder m l fs
stands-perm m zero es fs p s = tt
stands-perm m (suc l) es fs p s = Each-perm (λ e. Encloses m e × ((50 ≤ length (entries_at m e.child)) × (IsNodeAt m l e.child × StandsUnder m l (entries_at m e.child)))) es fs p s

pub stands-append : (m : Store) (l : ℕ) (xs ys : List NodeEntry) → StandsUnder m l xs → StandsUnder m l ys → StandsUnder m l (xs ++ ys)
stands-append m zero xs ys s t = tt
stands-append m (suc l) xs ys s t = Each-append (λ e. Encloses m e × ((50 ≤ length (entries_at m e.child)) × (IsNodeAt m l e.child × StandsUnder m l (entries_at m e.child)))) xs ys s t

pub stands-left : (m : Store) (l : ℕ) (xs ys : List NodeEntry) → StandsUnder m l (xs ++ ys) → StandsUnder m l xs
stands-left m zero xs ys s = tt
stands-left m (suc l) xs ys s = Each-left (λ e. Encloses m e × ((50 ≤ length (entries_at m e.child)) × (IsNodeAt m l e.child × StandsUnder m l (entries_at m e.child)))) xs ys s

pub stands-right : (m : Store) (l : ℕ) (xs ys : List NodeEntry) → StandsUnder m l (xs ++ ys) → StandsUnder m l ys
stands-right m zero xs ys s = tt
stands-right m (suc l) xs ys s = Each-right (λ e. Encloses m e × ((50 ≤ length (entries_at m e.child)) × (IsNodeAt m l e.child × StandsUnder m l (entries_at m e.child)))) xs ys s

-- a page's node stays where the page does
pub node_stays : (m w : Store) (n : ℕ) → w n ≡ m n → node_at w n ≡ node_at m n
node_stays m w n c = ap (λ (o : Option (List ℕ)). rtree_node_in o) c

-- what stands under entries is in w what it is in m
pub record InStays (m w : Store) (l : ℕ) (es : List NodeEntry) : Type 0 where
  pub members : members_in w l es ≡ members_in m l es
  pub pages : pages_below w l es ≡ pages_below m l es
  pub stands : StandsUnder m l es → StandsUnder w l es

entry_stays : (m w : Store) (l : ℕ) (e : NodeEntry) → node_at w e.child ≡ node_at m e.child → InStays m w l (entries_at m e.child)
    → Encloses m e × ((50 ≤ length (entries_at m e.child)) × (IsNodeAt m l e.child × StandsUnder m l (entries_at m e.child)))
    → Encloses w e × ((50 ≤ length (entries_at w e.child)) × (IsNodeAt w l e.child × StandsUnder w l (entries_at w e.child)))
entry_stays m w l e nn b s =
    let ee : entries_at w e.child ≡ entries_at m e.child = ap (λ (v : NodeView). node_entries v) nn in
    let U : List NodeEntry → Type 0 = λ fs. StandsUnder w l fs in (
      record { least = ap (λ (fs : List NodeEntry). bound_of fs) ee ∙ s.0.least; is = s.0.is },
      (
        omega (arith, ap (λ (fs : List NodeEntry). length fs) ee, s.1.0),
        (
          record { is = nn ∙ (s.1.1.0.is ∙ sym (ap (λ (fs : List NodeEntry). node (is_inner l) fs) ee)); fits = omega (arith, ap (λ (fs : List NodeEntry). length fs) ee, s.1.1.0.fits) },
          subst U (sym ee) (b.stands s.1.1.1),
        ),
      ),
    )

row_stays : (m w : Store) (l : ℕ) (below : (fs : List NodeEntry) → ((q : ℕ) → 1 ≤ times q (pages_below m l fs) → w q ≡ m q) → InStays m w l fs)
    (es : List NodeEntry) → ((q : ℕ) → 1 ≤ times q (pages_below m (suc l) es) → w q ≡ m q) → InStays m w (suc l) es
row_stays m w l below [] f = record { members = refl; pages = refl; stands = λ s. tt }
row_stays m w l below (e ∷ es) f =
    let nn : node_at w e.child ≡ node_at m e.child = node_stays m w e.child (f e.child (omega (arith, same_self e.child))) in
    let ee : entries_at w e.child ≡ entries_at m e.child = ap (λ (v : NodeView). node_entries v) nn in
    let b : InStays m w l (entries_at m e.child) = below (entries_at m e.child) (λ q k. f q (omega (arith, k, times-append q (pages_below m l (entries_at m e.child)) (pages_below m (suc l) es)))) in
    let r : InStays m w (suc l) es = row_stays m w l below es (λ q k. f q (omega (arith, k, times-append q (pages_below m l (entries_at m e.child)) (pages_below m (suc l) es)))) in
    record {
      members = ap₂ (λ (x y : List Member). x ++ y) (ap (λ (fs : List NodeEntry). members_in w l fs) ee ∙ b.members) r.members;
      pages = ap₂ (λ (x y : List ℕ). (e.child ∷ x) ++ y) (ap (λ (fs : List NodeEntry). pages_below w l fs) ee ∙ b.pages) r.pages;
      stands = λ s. (entry_stays m w l e nn b s.0, r.stands s.1);
    }

pub in_stays : (m w : Store) (l : ℕ) (es : List NodeEntry) → ((q : ℕ) → 1 ≤ times q (pages_below m l es) → w q ≡ m q) → InStays m w l es
in_stays m w zero es f = record { members = refl; pages = refl; stands = λ s. s }
in_stays m w (suc l) es f = row_stays m w l (λ fs g. in_stays m w l fs g) es f

-- a row's pages and members, by those under all entries of its nodes
pub row_pages : (q : ℕ) (m : Store) (l : ℕ) (row : List NodeEntry) → times q (pages_below m (suc l) row) ≡ times q (children row) + times q (pages_below m l (grandchildren m row))
row_pages q m l [] = omega (arith, pages-sum q m l [])
row_pages q m l (e ∷ row) = omega (
  arith,
  row_pages q m l row,
  times-append q (pages_below m l (entries_at m e.child)) (pages_below m (suc l) row),
  pages-append q m l (entries_at m e.child) (grandchildren m row),
)

pub row_members : (f : Member → ℕ) (m : Store) (l : ℕ) (row : List NodeEntry) → weigh f (members_in m (suc l) row) ≡ weigh f (members_in m l (grandchildren m row))
row_members f m l [] = omega (arith, members-sum f m l [])
row_members f m l (e ∷ row) = omega (
  arith,
  row_members f m l row,
  weigh-append f (members_in m l (entries_at m e.child)) (members_in m (suc l) row),
  members-append f m l (entries_at m e.child) (grandchildren m row),
)
