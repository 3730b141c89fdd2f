-- A member taken from a leaf, or from under one entry of an inner node, whose child may be short.
use Rattle.std.proofs.Common.{◌≡◌, ◌≢◌, ℕ, zero, suc, ◌+◌, ◌≤◌, ◌<◌, List, [], ◌∷◌, ◌++◌, length, get_or, take, refl, sym, ◌∙◌, ap, subst, arith, length-append}
use Rattle.std.specs.Prelude.{Some, Bool, true, false, nat_lt, IsPermutation}
use Rattle.std.specs.List.{swap_remove}
use Rattle.std.proofs.lemmas.Bool.{le-leb}
use Rattle.std.proofs.lemmas.List.{take_more, take_all}
use Rattle.std.proofs.lemmas.List.Concat.{flat_map-append}
use Rattle.std.proofs.lemmas.List.Sorted.{IsPermutation-swap_remove, IsPermutation-trans, IsPermutation-append_right, IsPermutation-append_comm}
use Rattle.code_btree.specs.Items.{Each}
use Rattle.code_btree.specs.Tree.{Store, same, times, live}
use Rattle.code_btree.proofs.Lists.{same_self, live_small, times-append, Each-append}
use Rattle.sand_base.specs.declared.rect.Rect.{Rect}
use Rattle.r_tree.specs.declared.entry.NodeEntry.{NodeEntry}
use Rattle.r_tree.specs.declared.insert.Grown.{Grown}
use Rattle.r_tree.specs.declared.insert.Grown.TheVariants.{Kept, Split}
use Rattle.r_tree.specs.declared.remove.Shrunk.{Shrunk}
use Rattle.r_tree.specs.Entry.{Member, member_of, members_of, box_of, branch, covers, bound_of}
use Rattle.r_tree.specs.Page.{node}
use Rattle.r_tree.specs.Tree.{node_at, entries_at, members_in, members_under, pages_below, pages_under, is_inner, IsNodeAt, Encloses, StandsUnder, NodeStandsAt}
use Rattle.r_tree.specs.Steps.{WritesNode, Moves, LeadsToTree, AllFilled, raised, NodeTree, RemovesUnder, SettlesEntry, Lacks, BalancesNodes}
use Rattle.r_tree.proofs.Bags.{weigh-append, length-perm, Each-get}
use Rattle.r_tree.proofs.EntryTrees.{members-perm, pages-perm, members-append, pages-append, one_members, one_pages, stands-perm, stands-append, InStays}
use Rattle.r_tree.proofs.Raises.{moves_next, moves_beside, Laid, laid, Held, held}
use Rattle.r_tree.proofs.Hulls.{members_each, members_lack}
use Rattle.r_tree.proofs.Inserts.{Stepped, stepped, others_stay, one_moves, read_as}

-- the entries of a node once a member was taken from under it
pub record Lesser (m w : Store) (l n : ℕ) (i : Member) : Type 0 where
  pub stands : NodeStandsAt w l n
  pub lost : length (entries_at m n) ≤ length (entries_at w n) + 1
  pub moves : Moves m w (pages_under m l n) (pages_under w l n) (members_under m l n) (members_under w l n) (i ∷ []) []

removed_of : (m w : Store) (l n : ℕ) (i : Member) (s : Shrunk) (es : List NodeEntry) → Lesser m w l n i → entries_at w n ≡ es → bound_of es ≡ s.bound → s.size ≡ length es → RemovesUnder m w l n i s
removed_of m w l n i s es a e b c = record {
  stands = a.stands;
  least = ap (λ (x : List NodeEntry). bound_of x) e ∙ b;
  counted = omega (arith, c, ap (λ (x : List NodeEntry). length x) e);
  lost = a.lost;
  moves = a.moves;
}

-- entries that became others under page n, and were written into it
lesser : (m u w : Store) (l n : ℕ) (i : Member) (es fs : List NodeEntry) → entries_at m n ≡ es → length es ≤ length fs + 1 → length fs ≤ 126 → StandsUnder u l fs
    → ((q : ℕ) → times q (n ∷ pages_below u l fs) ≤ live u q)
    → Moves m u (n ∷ pages_below m l es) (n ∷ pages_below u l fs) (members_in m l es) (members_in u l fs) (i ∷ []) [] → WritesNode u w n (is_inner l) fs → Lesser m w l n i
lesser m u w l n i es fs e len fits s o mv a =
    let h : Held u w l n fs = held u w l n fs fits s o a in
    let M : List NodeEntry → Type 0 = λ x. Moves m w (n ∷ pages_below m l x) (pages_under w l n) (members_in m l x) (members_under w l n) (i ∷ []) [] in
    record {
      stands = h.stands;
      lost = omega (arith, len, ap (λ (x : List NodeEntry). length x) e, ap (λ (x : List NodeEntry). length x) h.entries);
      moves = subst M (sym e) (moves_next m u w (n ∷ pages_below m l es) (n ∷ pages_below u l fs) (pages_under w l n) (members_in m l es) (members_in u l fs)
          (members_under w l n) (i ∷ []) [] mv h.moves);
    }

-- an entry less in a leaf
pub leaf_took : (m w : Store) (n at : ℕ) (i : Member) (s : Shrunk) (x : NodeEntry) (es : List NodeEntry) → node_at m n ≡ node false es → NodeTree m 0 n → at < length es
    → x ≡ get_or es at x → member_of x ≡ i → WritesNode m w n false (swap_remove es at x)
    → bound_of (swap_remove es at x) ≡ s.bound → s.size ≡ length (swap_remove es at x) → s.size ≤ 126 → RemovesUnder m w 0 n i s
leaf_took m w n at i s x es e t lt is j a b c fits =
    let rest : List NodeEntry = swap_remove es at x in
    let p : IsPermutation es (x ∷ rest) = IsPermutation-swap_remove es at x lt is in
    let mv : Moves m m (n ∷ []) (n ∷ []) (members_of es) (members_of rest) (i ∷ []) [] =
    record { frame = λ q l z. refl; moved = λ q. refl; weighed = λ f. omega (arith, members-perm f m 0 es (x ∷ rest) p, ap (λ (y : Member). f y) j) } in
    let ls : Lesser m w 0 n i = lesser m m w 0 n i es rest (read_as m n false es e) (omega (arith, length-perm es (x ∷ rest) p)) (omega (arith, c, fits)) tt t.owns mv a in
    let hd : Held m w 0 n rest = held m w 0 n rest (omega (arith, c, fits)) tt t.owns a in
    removed_of m w 0 n i s rest ls hd.entries b c

-- the child that lost a member, beside the other entries of its parent
record Beside (m u : Store) (l n c : ℕ) (i : Member) (es others : List NodeEntry) (bound : Rect) : Type 0 where
  pub stands : StandsUnder u (suc l) others
  pub moves : Moves m u (n ∷ pages_below m (suc l) es) (n ∷ pages_below u (suc l) (others ++ branch bound c ∷ [])) (members_in m (suc l) es)
      (members_in u (suc l) (others ++ branch bound c ∷ [])) (i ∷ []) []
  pub owns : (q : ℕ) → times q (n ∷ pages_below u (suc l) (others ++ branch bound c ∷ [])) ≤ live u q
  pub encloses : Encloses u (branch bound c)
  pub filled : 49 ≤ length (entries_at u c)
  pub counted : length es ≡ length others + 1

beside : (m u : Store) (l n : ℕ) (i : Member) (e : NodeEntry) (others : List NodeEntry) (below : Shrunk) (bound : Rect) → below.bound ≡ Some bound
    → SettlesEntry m u l n i e others below → Beside m u l n e.child i (entries_at m n) others bound
beside m u l n i e others below bound b s =
    let es : List NodeEntry = entries_at m n in
    let r : RemovesUnder m u l e.child i below = s.removed in
    let x : NodeEntry = branch bound e.child in
    let st0 : StandsUnder m (suc l) (e ∷ others) = stands-perm m (suc l) es (e ∷ others) s.among s.old.stands.1 in
    let mv1 : Moves m u (pages_below m (suc l) (e ∷ [])) (pages_under u l e.child) (members_in m (suc l) (e ∷ [])) (members_under u l e.child) (i ∷ []) [] =
    one_moves m u l e (pages_under u l e.child) (members_under u l e.child) (i ∷ []) [] r.moves in
    let mv : Moves m u (pages_below m (suc l) (e ∷ [])) (pages_below u (suc l) (x ∷ [])) (members_in m (suc l) (e ∷ [])) (members_in u (suc l) (x ∷ [])) (i ∷ []) [] =
    moves_beside m u (pages_below m (suc l) (e ∷ [])) (pages_under u l e.child) (pages_below m (suc l) (e ∷ [])) (pages_below u (suc l) (x ∷ []))
    (members_in m (suc l) (e ∷ [])) (members_under u l e.child) (members_in m (suc l) (e ∷ [])) (members_in u (suc l) (x ∷ [])) (i ∷ []) []
    (λ q. 0) (λ f. 0) mv1 (λ q. omega arith) (λ q. omega (arith, one_pages q u l x)) (λ f. omega arith) (λ f. omega (arith, one_members f u l x)) in
    let st : Stepped m u l n es (others ++ x ∷ []) (i ∷ []) [] = stepped m u l n es (e ∷ []) others (x ∷ []) (i ∷ []) [] s.among s.old.owns mv in
    let stay : InStays m u (suc l) others = others_stay m u l n es (e ∷ []) others (pages_below u (suc l) (x ∷ [])) (members_in m (suc l) (e ∷ []))
    (members_in u (suc l) (x ∷ [])) (i ∷ []) [] s.among s.old.owns mv in
    record {
      stands = stay.stands st0.1;
      moves = st.moves;
      owns = st.owns;
      encloses = record { least = r.least ∙ b; is = refl };
      filled = omega (arith, st0.0.1.0, r.lost);
      counted = omega (arith, length-perm es (e ∷ others) s.among);
    }

-- the child is filled still
pub settled_full : (m u w : Store) (l n : ℕ) (i : Member) (e : NodeEntry) (others : List NodeEntry) (below s : Shrunk) (bound : Rect) → below.bound ≡ Some bound
    → SettlesEntry m u l n i e others below → 50 ≤ below.size
    → WritesNode u w n true (others ++ branch bound e.child ∷ []) → bound_of (others ++ branch bound e.child ∷ []) ≡ s.bound
    → s.size ≡ length (others ++ branch bound e.child ∷ []) → s.size ≤ 126 → RemovesUnder m w (suc l) n i s
settled_full m u w l n i e others below s bound b st few a least counted fits =
    let x : NodeEntry = branch bound e.child in
    let fs : List NodeEntry = others ++ x ∷ [] in
    let bs : Beside m u l n e.child i (entries_at m n) others bound = beside m u l n i e others below bound b st in
    let one : StandsUnder u (suc l) (x ∷ []) = ((bs.encloses, (omega (arith, few, st.removed.counted), (st.removed.stands.0, st.removed.stands.1))), tt) in
    let all : StandsUnder u (suc l) fs = stands-append u (suc l) others (x ∷ []) bs.stands one in
    let ls : Lesser m w (suc l) n i = lesser m u w (suc l) n i (entries_at m n) fs refl (omega (arith, bs.counted, length-append others (x ∷ [])))
    (omega (arith, counted, fits)) all bs.owns bs.moves a in
    let hd : Held u w (suc l) n fs = held u w (suc l) n fs (omega (arith, counted, fits)) all bs.owns a in
    removed_of m w (suc l) n i s fs ls hd.entries least counted

-- the entries that lead to two nodes that were balanced
balanced_stands : (v : Store) (l c : ℕ) (g : Grown) → Each (LeadsToTree v l) (raised c g) → AllFilled v (raised c g) → StandsUnder v (suc l) (raised c g)
balanced_stands v l c (Kept r) le f = ((le.0.0, (f.0, le.0.1)), tt)
balanced_stands v l c (Split r s p) le f = ((le.0.0, (f.0, le.0.1)), ((le.1.0.0, (f.1.0, le.1.0.1)), tt))

raised_some : (c : ℕ) (g : Grown) → 1 ≤ length (raised c g)
raised_some c (Kept r) = omega arith
raised_some c (Split r s p) = omega arith

-- the child and a sibling stand apart
pub apart : (u : Store) (l n : ℕ) (x y : NodeEntry) (rest fs : List NodeEntry) → IsPermutation fs (x ∷ (y ∷ rest))
    → ((q : ℕ) → times q (n ∷ pages_below u (suc l) fs) ≤ live u q) → same y.child x.child ≡ 0
apart u l n x y rest fs p o = omega (
  arith,
  o y.child,
  live_small u y.child,
  same_self y.child,
  pages-perm y.child u (suc l) fs (x ∷ (y ∷ rest)) p,
  times-append y.child (pages_below u l (entries_at u x.child)) (pages_below u (suc l) (y ∷ rest)),
  times-append y.child (pages_below u l (entries_at u y.child)) (pages_below u (suc l) rest),
)

-- the child and a sibling in front of the rest
pub in_front : (others rest : List NodeEntry) (x y : NodeEntry) → IsPermutation others (y ∷ rest) → IsPermutation (others ++ x ∷ []) (x ∷ (y ∷ rest))
in_front others rest x y p = IsPermutation-trans (others ++ x ∷ []) (x ∷ others) (x ∷ (y ∷ rest)) (IsPermutation-append_comm others (x ∷ [])) (IsPermutation-append_right (x ∷ []) others (y ∷ rest) p)

-- the child was short, and was balanced with a sibling
pub settled_short : (m u v w : Store) (l n : ℕ) (i : Member) (e y : NodeEntry) (others rest : List NodeEntry) (below s : Shrunk) (bound : Rect) (g : Grown)
    → below.bound ≡ Some bound → SettlesEntry m u l n i e others below → IsPermutation others (y ∷ rest)
    → (same y.child e.child ≡ 0 → BalancesNodes u v (is_inner l) e.child y.child g) → WritesNode v w n true (rest ++ raised e.child g)
    → bound_of (rest ++ raised e.child g) ≡ s.bound → s.size ≡ length (rest ++ raised e.child g) → s.size ≤ 126
    → RemovesUnder m w (suc l) n i s
settled_short m u v w l n i e y others rest below s bound g b st p ba a least counted fits =
    let x : NodeEntry = branch bound e.child in
    let fs : List NodeEntry = others ++ x ∷ [] in
    let row : List NodeEntry = raised e.child g in
    let gs : List NodeEntry = rest ++ row in
    let ex : List NodeEntry = entries_at u e.child in
    let ey : List NodeEntry = entries_at u y.child in
    let bs : Beside m u l n e.child i (entries_at m n) others bound = beside m u l n i e others below bound b st in
    let front : IsPermutation fs (x ∷ (y ∷ rest)) = in_front others rest x y p in
    let far : same y.child e.child ≡ 0 = apart u l n x y rest fs front bs.owns in
    let bal : BalancesNodes u v (is_inner l) e.child y.child g = ba far in
    let yst : StandsUnder u (suc l) (y ∷ rest) = stands-perm u (suc l) others (y ∷ rest) p bs.stands in
    let under : StandsUnder u l (ex ++ ey) = stands-append u l ex ey st.removed.stands.1 yst.0.1.1.1 in
    let count : (q : ℕ) → times q (pages_below u (suc l) (x ∷ (y ∷ []))) ≡ times q (e.child ∷ (y.child ∷ pages_below u l (ex ++ ey))) =
    λ q. omega (arith, times-append q (pages_below u l ex) (pages_below u (suc l) (y ∷ [])), times-append q (pages_below u l ey) [], pages-append q u l ex ey) in
    let split : (q : ℕ) → times q (pages_below u (suc l) fs) ≡ times q (pages_below u (suc l) (x ∷ (y ∷ []))) + times q (pages_below u (suc l) rest) =
    λ q. omega (arith, pages-perm q u (suc l) fs (x ∷ (y ∷ rest)) front, pages-append q u (suc l) (x ∷ (y ∷ [])) rest) in
    let ld : Laid u v l (e.child ∷ (y.child ∷ [])) row (ex ++ ey) = laid u v l (e.child ∷ (y.child ∷ [])) row (ex ++ ey) under (λ q. omega (arith, bs.owns q, count q, split q)) bal.lays in
    let mv : Moves u v (pages_below u (suc l) (x ∷ (y ∷ []))) (pages_below v (suc l) row) (members_in u (suc l) (x ∷ (y ∷ []))) (members_in v (suc l) row) [] [] =
    moves_beside u v (e.child ∷ (y.child ∷ pages_below u l (ex ++ ey))) (pages_below v (suc l) row) (pages_below u (suc l) (x ∷ (y ∷ []))) (pages_below v (suc l) row)
    (members_in u l (ex ++ ey)) (members_in v (suc l) row) (members_in u (suc l) (x ∷ (y ∷ []))) (members_in v (suc l) row) [] []
    (λ q. 0) (λ f. 0) ld.moves (λ q. omega (arith, count q)) (λ q. omega arith)
    (λ f. omega (arith, weigh-append f (members_in u l ex) (members_in u (suc l) (y ∷ [])), one_members f u l y, members-append f u l ex ey)) (λ f. omega arith) in
    let sp : Stepped u v l n fs gs [] [] = stepped u v l n fs (x ∷ (y ∷ [])) rest row [] [] front bs.owns mv in
    let stay : InStays u v (suc l) rest = others_stay u v l n fs (x ∷ (y ∷ [])) rest (pages_below v (suc l) row) (members_in u (suc l) (x ∷ (y ∷ [])))
    (members_in v (suc l) row) [] [] front bs.owns mv in
    let all : StandsUnder v (suc l) gs = stands-append v (suc l) rest row (stay.stands yst.1) (balanced_stands v l e.child g ld.leads (bal.full (omega (arith, bs.filled, yst.0.1.0)))) in
    let whole : Moves m v (n ∷ pages_below m (suc l) (entries_at m n)) (n ∷ pages_below v (suc l) gs) (members_in m (suc l) (entries_at m n)) (members_in v (suc l) gs) (i ∷ []) [] =
    moves_next m u v (n ∷ pages_below m (suc l) (entries_at m n)) (n ∷ pages_below u (suc l) fs) (n ∷ pages_below v (suc l) gs) (members_in m (suc l) (entries_at m n))
    (members_in u (suc l) fs) (members_in v (suc l) gs) (i ∷ []) [] bs.moves sp.moves in
    let ls : Lesser m w (suc l) n i = lesser m v w (suc l) n i (entries_at m n) gs refl
    (omega (arith, bs.counted, length-perm others (y ∷ rest) p, length-append rest row, raised_some e.child g)) (omega (arith, counted, fits)) all sp.owns whole a in
    let hd : Held v w (suc l) n gs = held v w (suc l) n gs (omega (arith, counted, fits)) all sp.owns a in
    removed_of m w (suc l) n i s gs ls hd.entries least counted

-- the same, with the entries as they were handed on
pub settled_full_from : (m u w : Store) (l n c : ℕ) (i : Member) (e : NodeEntry) (others fs : List NodeEntry) (below s : Shrunk) (bound : Rect) → e.child ≡ c
    → below.bound ≡ Some bound → SettlesEntry m u l n i e others below → 50 ≤ below.size → fs ≡ others ++ branch bound c ∷ []
    → WritesNode u w n true fs → bound_of fs ≡ s.bound → s.size ≡ length fs → s.size ≤ 126 → RemovesUnder m w (suc l) n i s
settled_full_from m u w l n c i e others fs below s bound ec b st few f a least counted fits =
    let g : fs ≡ others ++ branch bound e.child ∷ [] = f ∙ ap (λ (x : ℕ). others ++ branch bound x ∷ []) (sym ec) in
    let W : List NodeEntry → Type 0 = λ x. WritesNode u w n true x in
    settled_full m u w l n i e others below s bound b st few (subst W g a) (sym (ap (λ (x : List NodeEntry). bound_of x) g) ∙ least) (counted ∙ ap (λ (x : List NodeEntry). length x) g) fits

pub settled_short_from : (m u v w : Store) (l n c at : ℕ) (i : Member) (e y : NodeEntry) (others fs : List NodeEntry) (below s : Shrunk) (bound : Rect) (g : Grown) (inner : Bool)
    → e.child ≡ c → below.bound ≡ Some bound → SettlesEntry m u l n i e others below
    → at < length others → y ≡ get_or others at y → inner ≡ is_inner l → (same y.child c ≡ 0 → BalancesNodes u v inner c y.child g)
    → fs ≡ swap_remove others at y ++ raised c g → WritesNode v w n true fs → bound_of fs ≡ s.bound → s.size ≡ length fs → s.size ≤ 126
    → RemovesUnder m w (suc l) n i s
settled_short_from m u v w l n c at i e y others fs below s bound g inner ec b st lt is inn ba f a least counted fits =
    let rest : List NodeEntry = swap_remove others at y in
    let h : fs ≡ rest ++ raised e.child g = f ∙ ap (λ (x : ℕ). rest ++ raised x g) (sym ec) in
    let W : List NodeEntry → Type 0 = λ x. WritesNode v w n true x in
    let B : ℕ → Type 0 = λ x. same y.child x ≡ 0 → BalancesNodes u v (is_inner l) x y.child g in
    let C : Bool → Type 0 = λ x. same y.child c ≡ 0 → BalancesNodes u v x c y.child g in
    settled_short m u v w l n i e y others rest below s bound g b st (IsPermutation-swap_remove others at y lt is) (subst B (sym ec) (subst C inn ba)) (subst W h a)
    (sym (ap (λ (x : List NodeEntry). bound_of x) h) ∙ least) (counted ∙ ap (λ (x : List NodeEntry). length x) h) fits

-- no entry of a leaf has the member
members_lack_it : (i : Member) (es : List NodeEntry) → Each (λ e. member_of e ≢ i) es → Each (λ j. j ≢ i) (members_of es)
members_lack_it i [] h = tt
members_lack_it i (e ∷ es) h = (h.0, members_lack_it i es h.1)

pub leaf_lacks : (m : Store) (n : ℕ) (i : Member) (es ds : List NodeEntry) → node_at m n ≡ node false es → ds ≡ es → Each (λ e. member_of e ≢ i) ds → Lacks m 0 n i
leaf_lacks m n i es ds e f h =
    let P : List NodeEntry → Type 0 = λ x. Each (λ e. member_of e ≢ i) x in
    members_lack_it i (entries_at m n) (subst P (f ∙ sym (read_as m n false es e)) h)

-- an entry less in a leaf, with the entries as they were handed on
pub leaf_took_from : (m m0 w : Store) (n at : ℕ) (i : Member) (s : Shrunk) (x : NodeEntry) (es ds fs : List NodeEntry) → m0 ≡ m → ds ≡ es → fs ≡ swap_remove es at x
    → node_at m n ≡ node false es → NodeTree m 0 n → at < length ds → x ≡ get_or es at x
    → ((e : NodeEntry) → e ≡ get_or ds at e → member_of e ≡ i) → WritesNode m0 w n false fs → bound_of fs ≡ s.bound → s.size ≡ length fs → s.size ≤ 126 → RemovesUnder m w 0 n i s
leaf_took_from m m0 w n at i s x es ds fs e0 ed ef e t lt is j a b c fits =
    let W : List NodeEntry → Type 0 = λ y. WritesNode m w n false y in
    let M : Store → Type 0 = λ y. WritesNode y w n false fs in
    leaf_took m w n at i s x es e t (omega (arith, lt, ap (λ (y : List NodeEntry). length y) ed)) is (j x (is ∙ ap (λ (y : List NodeEntry). get_or y at x) (sym ed)))
    (subst W ef (subst M e0 a)) (sym (ap (λ (y : List NodeEntry). bound_of y) ef) ∙ b) (c ∙ ap (λ (y : List NodeEntry). length y) ef) fits

-- entry by entry, what was passed over lacks the member
pub lacks_more : (m : Store) (l at : ℕ) (i : Member) (d : NodeEntry) (es : List NodeEntry) → at < length es → Each (λ j. j ≢ i) (members_in m (suc l) (take at es))
    → Lacks m l (get_or es at d).child i → Each (λ j. j ≢ i) (members_in m (suc l) (take (at + 1) es))
lacks_more m l at i d es lt h k =
    let x : NodeEntry = get_or es at d in
    let P : List NodeEntry → Type 0 = λ y. Each (λ j. j ≢ i) (members_in m (suc l) y) in
    let Q : List Member → Type 0 = λ y. Each (λ j. j ≢ i) y in
    subst P (sym (take_more es at d lt)) (subst Q (sym (flat_map-append (λ e. members_under m l e.child) (take at es) (x ∷ [])))
    (Each-append (λ j. j ≢ i) (members_in m (suc l) (take at es)) (members_in m (suc l) (x ∷ [])) h (Each-append (λ j. j ≢ i) (members_under m l x.child) [] k tt)))

-- a member isn't under an entry whose rectangle doesn't hold its box
pub past_lacks : (m : Store) (l n at : ℕ) (i : Member) (d : NodeEntry) (es : List NodeEntry) → node_at m n ≡ node true es → NodeTree m (suc l) n → at < length es
    → covers (box_of (get_or es at d).rough) (box_of i.1) ≡ false → Lacks m l (get_or es at d).child i
past_lacks m l n at i d es e t lt c =
    let S : List NodeEntry → Type 0 = λ x. StandsUnder m (suc l) x in
    let s : StandsUnder m (suc l) es = subst S (read_as m n true es e) t.stands.1 in
    let f = Each-get (λ x. Encloses m x × ((50 ≤ length (entries_at m x.child)) × (IsNodeAt m l x.child × StandsUnder m l (entries_at m x.child)))) es at d s lt in
    members_lack (box_of (get_or es at d).rough) i (members_under m l (get_or es at d).child) c (members_each m l (get_or es at d).child (box_of (get_or es at d).rough) f.1.1 f.0.least)

-- all entries were passed over
pub lacks_all : (m : Store) (l n at : ℕ) (i : Member) (es : List NodeEntry) → node_at m n ≡ node true es → length es ≤ at → Each (λ j. j ≢ i) (members_in m (suc l) (take at es)) → Lacks m (suc l) n i
lacks_all m l n at i es e le h =
    let P : List NodeEntry → Type 0 = λ y. Each (λ j. j ≢ i) (members_in m (suc l) y) in
    subst P (take_all at es le ∙ sym (read_as m n true es e)) h

-- what a test of the level says
pub is_inner_test : (l : ℕ) → nat_lt 0 l ≡ is_inner l
is_inner_test zero = refl
is_inner_test (suc l) = le-leb 1 (suc l) (omega arith)

get_same : (es : List NodeEntry) (at : ℕ) (x y : NodeEntry) → at < length es → get_or es at x ≡ get_or es at y
get_same [] at x y lt = absurd (omega arith)
get_same (e ∷ es) zero x y lt = refl
get_same (e ∷ es) (suc at) x y lt = get_same es at x y (omega arith)

-- the entry under which a member was found, beside the others
pub settles_from : (m m0 u : Store) (l n at : ℕ) (i : Member) (e x : NodeEntry) (es fs : List NodeEntry) (below : Shrunk) → m0 ≡ m → node_at m n ≡ node true es
    → NodeTree m (suc l) n → at < length es → e ≡ get_or es at e → x ≡ get_or es at x → fs ≡ swap_remove es at x
    → RemovesUnder m0 u l e.child i below → SettlesEntry m u l n i e fs below
settles_from m m0 u l n at i e x es fs below s is t lt ie ix f r =
    let xe : x ≡ e = ix ∙ (get_same es at x e lt ∙ sym ie) in
    let P : NodeEntry → Type 0 = λ y. IsPermutation es (y ∷ swap_remove es at x) in
    let Q : List NodeEntry → Type 0 = λ y. IsPermutation (entries_at m n) (e ∷ y) in
    let S : List NodeEntry → Type 0 = λ y. IsPermutation y (e ∷ swap_remove es at x) in
    let R : Store → Type 0 = λ y. RemovesUnder y u l e.child i below in
    record {
      old = t;
      among = subst Q (sym f) (subst S (sym (read_as m n true es is)) (subst P xe (IsPermutation-swap_remove es at x lt ix)));
      removed = subst R s r;
    }
