-- A list's entries laid into new nodes, part by part and level by level.
use Rattle.std.proofs.Common.{◌≡◌, ℕ, suc, ◌+◌, ◌*◌, ◌≤◌, ◌<◌, List, [], ◌∷◌, ◌++◌, length, refl, sym, ◌∙◌, ap, subst, arith, length-append, append_assoc}
use Rattle.std.specs.Prelude.{Bool, Option, Some, IsPermutation}
use Rattle.std.proofs.lemmas.List.{map-append}
use Rattle.std.proofs.lemmas.List.Concat.{flat_map-append}
use Rattle.std.proofs.lemmas.List.Sorted.{IsPermutation-trans, IsPermutation-append}
use Rattle.sand_base.specs.declared.rect.Rect.{Rect}
use Rattle.code_btree.specs.Items.{Each}
use Rattle.code_btree.specs.Tree.{Store, same, times, live}
use Rattle.code_btree.proofs.Lists.{same_self, live_small, live_same, times-append, Each-append, Each-map, Each-zip, flat_map-same}
use Rattle.r_tree.specs.declared.entry.NodeEntry.{NodeEntry}
use Rattle.r_tree.specs.Entry.{Member, branch, bound_of, members_of}
use Rattle.r_tree.specs.Page.{NodeView, node, node_entries}
use Rattle.r_tree.specs.Tree.{node_at, entries_at, members_in, members_under, pages_below, pages_under, is_inner, IsNodeAt, Encloses, StandsUnder}
use Rattle.r_tree.specs.Calls.{HasEachIdOnce}
use Rattle.r_tree.specs.Steps.{GainsNode, weigh, children, grandchildren, LeadsToNode, Lays, AllFilled, LaysNodes, IsTop, LeadsToTree}
use Rattle.r_tree.proofs.Bags.{length-perm}
use Rattle.r_tree.proofs.EntryTrees.{node_stays}
use Rattle.r_tree.proofs.Writes.{new_laid}
use Rattle.r_tree.proofs.Raises.{moves_next, owns_after, Laid, laid}
use Rattle.r_tree.proofs.Inserts.{read_as}
use Rattle.r_tree.proofs.Roots.{Rooted, Raised, raised_over, ids_weigh}

-- a part that has room in one new node
pub tiled_one : (m w : Store) (n : ℕ) (inner : Bool) (es before after : List NodeEntry) (r : Rect) → length es ≤ 126 → bound_of es ≡ Some r → GainsNode m w n inner es
    → after ≡ before ++ branch r n ∷ [] → LaysNodes m w inner es before after
tiled_one m w n inner es before after r l b a e = record {
  row = branch r n ∷ [];
  joined = e;
  lays = new_laid m w n inner es r l b a;
  full = λ k. (omega (arith, k, ap (λ (x : List NodeEntry). length x) (read_as w n inner es a.is)), tt);
}

-- the children of a row are live
row_lives : (u : Store) (row : List NodeEntry) → ((q : ℕ) → times q (children row) ≤ live u q) → Each (λ e. live u e.child ≡ 1) row
row_lives u [] o = tt
row_lives u (e ∷ row) o = (omega (arith, o e.child, same_self e.child, live_small u e.child), row_lives u row (λ q. omega (arith, o q)))

-- a node stays, with the entry that leads to it
lead_stays : (u w : Store) (inner : Bool) (e : NodeEntry) → node_at w e.child ≡ node_at u e.child → LeadsToNode u inner e → LeadsToNode w inner e
lead_stays u w inner e nn s =
    let ee : entries_at w e.child ≡ entries_at u e.child = ap (λ (v : NodeView). node_entries v) nn in
    record {
      is = nn ∙ (s.is ∙ sym (ap (λ (x : List NodeEntry). node inner x) ee));
      fits = omega (arith, s.fits, ap (λ (x : List NodeEntry). length x) ee);
      encloses = record { least = ap (λ (x : List NodeEntry). bound_of x) ee ∙ s.encloses.least; is = s.encloses.is };
    }

-- it stays filled
fill_stays : (u w : Store) (e : NodeEntry) → node_at w e.child ≡ node_at u e.child → 50 ≤ length (entries_at u e.child) → 50 ≤ length (entries_at w e.child)
fill_stays u w e nn k = omega (arith, k, ap (λ (v : NodeView). length (node_entries v)) nn)

-- how often a page is a child of two rows
children-append : (q : ℕ) (xs ys : List NodeEntry) → times q (children (xs ++ ys)) ≡ times q (children xs) + times q (children ys)
children-append q xs ys = ap (λ (x : List ℕ). times q x) (map-append (λ (e : NodeEntry). e.child) xs ys) ∙ times-append q (children xs) (children ys)

-- the entries under two rows, of which the first stays
under_both : (u w : Store) (xs ys : List NodeEntry) → Each (λ e. node_at w e.child ≡ node_at u e.child) xs → grandchildren w (xs ++ ys) ≡ grandchildren u xs ++ grandchildren w ys
under_both u w xs ys h =
    flat_map-append (λ (e : NodeEntry). entries_at w e.child) xs ys
    ∙ ap (λ (x : List NodeEntry). x ++ grandchildren w ys)
    (flat_map-same (λ (e : NodeEntry). entries_at w e.child) (λ (e : NodeEntry). entries_at u e.child) xs
    (Each-map (λ e. node_at w e.child ≡ node_at u e.child) (λ e. entries_at w e.child ≡ entries_at u e.child) (λ e k. ap (λ (v : NodeView). node_entries v) k) xs h))

-- two parts, one after the other
pub tiled_two : (m u w : Store) (inner : Bool) (es left right before mid after : List NodeEntry) → IsPermutation es (left ++ right) → 50 ≤ length left → 50 ≤ length right
    → LaysNodes m u inner left before mid → LaysNodes u w inner right mid after → LaysNodes m w inner es before after
tiled_two m u w inner es left right before mid after p few_left few_right a b =
    let lives : Each (λ e. live u e.child ≡ 1) a.row = row_lives u a.row (λ q. omega (arith, a.lays.moved q)) in
    let stay : Each (λ e. node_at w e.child ≡ node_at u e.child) a.row =
    Each-map (λ e. live u e.child ≡ 1) (λ e. node_at w e.child ≡ node_at u e.child) (λ e k. node_stays u w e.child (b.lays.frame e.child k refl)) a.row lives in
    let P : List NodeEntry → Type 0 = λ x. IsPermutation es x in
    record {
      row = a.row ++ b.row;
      joined = b.joined ∙ (ap (λ (x : List NodeEntry). x ++ b.row) a.joined ∙ append_assoc before a.row b.row);
      lays = record {
        frame = λ q k z.
            let e : u q ≡ m q = a.lays.frame q k z in
            b.lays.frame q (omega (arith, k, live_same m u q e)) z ∙ e;
        moved = λ q. omega (arith, a.lays.moved q, b.lays.moved q, children-append q a.row b.row);
        nodes = Each-append (λ e. LeadsToNode w inner e) a.row b.row
            (Each-zip (λ e. node_at w e.child ≡ node_at u e.child) (λ e. LeadsToNode u inner e) (λ e. LeadsToNode w inner e)
            (λ e x y. lead_stays u w inner e x y) a.row stay a.lays.nodes) b.lays.nodes;
        shared = subst P (sym (under_both u w a.row b.row stay)) (IsPermutation-trans es (left ++ right) (grandchildren u a.row ++ grandchildren w b.row) p
            (IsPermutation-append left (grandchildren u a.row) right (grandchildren w b.row) a.lays.shared b.lays.shared));
      };
      full = λ k. Each-append (λ e. 50 ≤ length (entries_at w e.child)) a.row b.row
          (Each-zip (λ e. node_at w e.child ≡ node_at u e.child) (λ e. 50 ≤ length (entries_at u e.child)) (λ e. 50 ≤ length (entries_at w e.child))
          (λ e x y. fill_stays u w e x y) a.row stay (a.full few_left)) (b.full few_right);
    }

-- filled nodes are at most a fiftieth of their entries
few_filled : (w : Store) (row : List NodeEntry) → AllFilled w row → 50 * length row ≤ length (grandchildren w row)
few_filled w [] f = omega arith
few_filled w (e ∷ row) f = omega (arith, f.0, few_filled w row f.1, length-append (entries_at w e.child) (grandchildren w row))

-- nodes have room for 126 entries each
room_in : (w : Store) (inner : Bool) (row : List NodeEntry) → Each (λ e. LeadsToNode w inner e) row → length (grandchildren w row) ≤ 126 * length row
room_in w inner [] n = omega arith
room_in w inner (e ∷ row) n = omega (arith, n.0.fits, room_in w inner row n.1, length-append (entries_at w e.child) (grandchildren w row))

-- a level has fewer nodes than entries
pub level_fewer : (u w : Store) (inner : Bool) (es row : List NodeEntry) → 127 ≤ length es → LaysNodes u w inner es [] row → length row < length es
level_fewer u w inner es row many a = omega (
  arith,
  many,
  few_filled w a.row (a.full (omega (arith, many))),
  length-perm es (grandchildren w a.row) a.lays.shared,
  ap (λ (x : List NodeEntry). length x) a.joined,
)

-- the members of a list are the first level
pub level_first : (m : Store) (es : List NodeEntry) (is : List Member) → members_of es ≡ is → IsTop m m 0 es is
level_first m es is e = record {
  stands = tt;
  top = λ k. absurd (omega arith);
  moves = record {
    frame = λ q k z. refl;
    moved = λ q. omega arith;
    weighed = λ f. omega (arith, ap (λ (x : List Member). weigh f x) e);
  };
}

-- one level more
pub level_next : (m u w : Store) (l : ℕ) (es row : List NodeEntry) (is : List Member) → 127 ≤ length es → IsTop m u l es is → LaysNodes u w (is_inner l) es [] row → IsTop m w (suc l) row is
level_next m u w l es row is many h a =
    let L : List NodeEntry → Type 0 = λ x. Lays u w [] x es (is_inner l) in
    let F : List NodeEntry → Type 0 = λ x. AllFilled w x in
    let ly : Lays u w [] row es (is_inner l) = subst L (sym a.joined) a.lays in
    let full : AllFilled w row = subst F (sym a.joined) (a.full (omega (arith, many))) in
    let o : (q : ℕ) → times q (pages_below u l es) ≤ live u q = owns_after m u [] (pages_below u l es) [] (members_in u l es) [] is h.moves (λ q. omega arith) in
    let ld : Laid u w l [] row es = laid u w l [] row es h.stands o ly in
    record {
      stands = Each-zip (λ e. LeadsToTree w l e) (λ e. 50 ≤ length (entries_at w e.child))
          (λ e. Encloses w e × ((50 ≤ length (entries_at w e.child)) × (IsNodeAt w l e.child × StandsUnder w l (entries_at w e.child)))) (λ e x y. (x.0, (y, x.1))) row ld.leads full;
      top = λ k. omega (arith, many, room_in w (is_inner l) row ly.nodes, length-perm es (grandchildren w row) ly.shared);
      moves = moves_next m u w [] (pages_below u l es) (pages_below w (suc l) row) [] (members_in u l es) (members_in w (suc l) row) [] is h.moves ld.moves;
    }

-- the root of a tree that was built
pub built : (m u w : Store) (l n : ℕ) (b : Option Rect) (es : List NodeEntry) (is : List Member) → length es ≤ 126 → b ≡ bound_of es → HasEachIdOnce is
    → IsTop m u l es is → GainsNode u w n (is_inner l) es → Rooted m w l n b [] [] [] is
built m u w l n b es is fits be once h a =
    let o : (q : ℕ) → times q (pages_below u l es) ≤ live u q = owns_after m u [] (pages_below u l es) [] (members_in u l es) [] is h.moves (λ q. omega arith) in
    let r : Raised u w l n es = raised_over u w l n es fits h.stands o a in
    let mv = moves_next m u w [] (pages_below u l es) (pages_under w l n) [] (members_in u l es) (members_under w l n) [] is h.moves r.moves in
    record {
      root = record {
        stands = r.stands;
        top = λ k. omega (arith, h.top k, ap (λ (x : List NodeEntry). length x) r.entries);
        owns = owns_after m w [] (pages_under w l n) [] (members_under w l n) [] is mv (λ q. omega arith);
        least = ap (λ (x : List NodeEntry). bound_of x) r.entries ∙ sym be;
        once = λ id. omega (arith, mv.weighed (λ j. same id j.0), ids_weigh id is, ids_weigh id (members_under w l n), once id);
      };
      moves = mv;
    }
