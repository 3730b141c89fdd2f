-- What writing nodes makes of the trees under their entries, and how changes add up.
use Rattle.std.proofs.Common.{◌≡◌, ℕ, suc, ◌+◌, ◌≤◌, List, [], ◌∷◌, ◌++◌, length, sym, ◌∙◌, ap, subst, arith}
use Rattle.code_btree.specs.Items.{Each}
use Rattle.code_btree.specs.Tree.{Store, times, live}
use Rattle.code_btree.proofs.Lists.{live_small, live_same, times-append}
use Rattle.r_tree.specs.declared.entry.NodeEntry.{NodeEntry}
use Rattle.r_tree.specs.Entry.{Member}
use Rattle.r_tree.specs.Page.{NodeView, node, node_entries}
use Rattle.r_tree.specs.Tree.{entries_at, members_in, members_under, pages_below, pages_under, is_inner, StandsUnder, NodeStandsAt}
use Rattle.r_tree.specs.Steps.{WritesNode, weigh, Moves, grandchildren, LeadsToNode, Lays, LeadsToTree}
use Rattle.r_tree.proofs.Writes.{live_kept}
use Rattle.r_tree.proofs.EntryTrees.{members-perm, pages-perm, stands-perm, stands-left, stands-right, InStays, in_stays, row_pages, row_members}

-- two changes, one after the other, of which the second loses and gains no member
pub moves_next : (m u w : Store) (P Q R : List ℕ) (I J K less more : List Member) → Moves m u P Q I J less more → Moves u w Q R J K [] [] → Moves m w P R I K less more
moves_next m u w P Q R I J K less more a b = record {
  frame = λ q l z.
      let e : u q ≡ m q = a.frame q l z in
      b.frame q (omega (arith, l, live_same m u q e)) (omega (arith, z, a.moved q, live_same m u q e)) ∙ e;
  moved = λ q. omega (arith, a.moved q, b.moved q);
  weighed = λ f. omega (arith, a.weighed f, b.weighed f);
}

-- the same change told over other lists of the same counts, with others beside them
pub moves_beside : (m w : Store) (P Q P2 Q2 : List ℕ) (I J I2 J2 less more : List Member) (b : ℕ → ℕ) (c : (Member → ℕ) → ℕ) → Moves m w P Q I J less more
    → ((q : ℕ) → times q P2 ≡ times q P + b q) → ((q : ℕ) → times q Q2 ≡ times q Q + b q)
    → ((f : Member → ℕ) → weigh f I2 ≡ weigh f I + c f) → ((f : Member → ℕ) → weigh f J2 ≡ weigh f J + c f) → Moves m w P2 Q2 I2 J2 less more
moves_beside m w P Q P2 Q2 I J I2 J2 less more b c a p q2 i j = record {
  frame = λ q l z. a.frame q l (omega (arith, z, p q));
  moved = λ q. omega (arith, a.moved q, p q, q2 q);
  weighed = λ f. omega (arith, a.weighed f, i f, j f);
}

pub owns_after : (m w : Store) (P Q : List ℕ) (I J less more : List Member) → Moves m w P Q I J less more → ((q : ℕ) → times q P ≤ live m q) → (q : ℕ) → times q Q ≤ live w q
owns_after m w P Q I J less more a o q = omega (arith, a.moved q, o q)

-- the nodes of a row, with what stands under all their entries
row_leads : (w : Store) (l : ℕ) (row : List NodeEntry) → Each (LeadsToNode w (is_inner l)) row → StandsUnder w l (grandchildren w row) → Each (LeadsToTree w l) row
row_leads w l [] n s = tt
row_leads w l (e ∷ row) n s = (
  (n.0.encloses, (record { is = n.0.is; fits = n.0.fits }, stands-left w l (entries_at w e.child) (grandchildren w row) s)),
  row_leads w l row n.1 (stands-right w l (entries_at w e.child) (grandchildren w row) s),
)

-- entries that were laid into the nodes of a row
pub record Laid (u w : Store) (l : ℕ) (old : List ℕ) (row es : List NodeEntry) : Type 0 where
  pub leads : Each (LeadsToTree w l) row
  pub moves : Moves u w (old ++ pages_below u l es) (pages_below w (suc l) row) (members_in u l es) (members_in w (suc l) row) [] []

pub laid : (u w : Store) (l : ℕ) (old : List ℕ) (row es : List NodeEntry) → StandsUnder u l es → ((q : ℕ) → times q (old ++ pages_below u l es) ≤ live u q)
    → Lays u w old row es (is_inner l) → Laid u w l old row es
laid u w l old row es s o a =
    let st : InStays u w l es = in_stays u w l es
    (λ q k. a.frame q (omega (arith, k, o q, live_small u q, times-append q old (pages_below u l es))) (omega (arith, k, o q, live_small u q, times-append q old (pages_below u l es)))) in
    record {
      leads = row_leads w l row a.nodes (stands-perm w l es (grandchildren w row) a.shared (st.stands s));
      moves = record {
        frame = λ q k z. a.frame q k (omega (arith, z, times-append q old (pages_below u l es)));
        moved = λ q. omega (
          arith,
          a.moved q,
          times-append q old (pages_below u l es),
          row_pages q w l row,
          pages-perm q w l es (grandchildren w row) a.shared,
          ap (λ (x : List ℕ). times q x) st.pages,
        );
        weighed = λ f. omega (arith, row_members f w l row, members-perm f w l es (grandchildren w row) a.shared, ap (λ (x : List Member). weigh f x) st.members);
      };
    }

-- entries that were written into one node
pub record Held (u w : Store) (l n : ℕ) (es : List NodeEntry) : Type 0 where
  pub stands : NodeStandsAt w l n
  pub entries : entries_at w n ≡ es
  pub moves : Moves u w (n ∷ pages_below u l es) (pages_under w l n) (members_in u l es) (members_under w l n) [] []

pub held : (u w : Store) (l n : ℕ) (es : List NodeEntry) → length es ≤ 126 → StandsUnder u l es → ((q : ℕ) → times q (n ∷ pages_below u l es) ≤ live u q)
    → WritesNode u w n (is_inner l) es → Held u w l n es
held u w l n es fits s o a =
    let st : InStays u w l es = in_stays u w l es (λ q k. a.others q (omega (arith, k, o q, live_small u q))) in
    let ee : entries_at w n ≡ es = ap (λ (v : NodeView). node_entries v) a.is in
    let U : List NodeEntry → Type 0 = λ fs. StandsUnder w l fs in
    record {
      stands = (
        record { is = a.is ∙ ap (λ (fs : List NodeEntry). node (is_inner l) fs) (sym ee); fits = omega (arith, fits, ap (λ (fs : List NodeEntry). length fs) ee) },
        subst U (sym ee) (st.stands s),
      );
      entries = ee;
      moves = record {
        frame = λ q k z. a.others q (omega (arith, z));
        moved = λ q. omega (arith, live_kept u w n (is_inner l) es a q, ap (λ (fs : List NodeEntry). times q (pages_below w l fs)) ee, ap (λ (x : List ℕ). times q x) st.pages);
        weighed = λ f. omega (arith, ap (λ (fs : List NodeEntry). weigh f (members_in w l fs)) ee, ap (λ (x : List Member). weigh f x) st.members);
      };
    }
