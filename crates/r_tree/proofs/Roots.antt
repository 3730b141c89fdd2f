-- What becomes of the whole tree: planted, grown at its root, fallen by one level.
use Rattle.std.proofs.Common.{◌≡◌, ℕ, zero, suc, ◌+◌, ◌≤◌, true, false, List, [], ◌∷◌, length, refl, sym, ◌∙◌, ap, subst, inl, inr, arith}
use Rattle.std.specs.Prelude.{Option, Some, None}
use Rattle.sand_base.specs.declared.rect.Rect.{Rect}
use Rattle.code_btree.specs.Items.{Each}
use Rattle.code_btree.specs.Tree.{Store, same, times, live}
use Rattle.code_btree.specs.Steps.{Freed}
use Rattle.code_btree.specs.Calls.{Keeps}
use Rattle.code_btree.proofs.Lists.{same_cases, same_self, live_small, none_live}
use Rattle.r_tree.specs.declared.entry.NodeEntry.{NodeEntry}
use Rattle.r_tree.specs.declared.insert.Grown.TheVariants.{Kept, Split}
use Rattle.r_tree.specs.declared.remove.Shrunk.{Shrunk}
use Rattle.r_tree.specs.Entry.{Member, members_of, branch, bound_of, member_ids}
use Rattle.r_tree.specs.Page.{NodeView, node, node_entries}
use Rattle.r_tree.specs.Tree.{node_at, entries_at, members_in, members_under, pages_below, pages_under, is_inner, StandsUnder, NodeStandsAt, IsRootAt}
use Rattle.r_tree.specs.Calls.{IsUnlisted}
use Rattle.r_tree.specs.Steps.{GainsNode, weigh, Moves, raised, AllFilled, LeadsToTree, EntersUnder, RemovesUnder, LoneChild}
use Rattle.r_tree.proofs.EntryTrees.{one_members, one_pages, InStays, in_stays, node_stays}
use Rattle.r_tree.proofs.Writes.{live_gained, live_freed}
use Rattle.r_tree.proofs.Raises.{moves_next, moves_beside, owns_after}
use Rattle.r_tree.proofs.Inserts.{read_as}

-- how often an id is listed, as a weight
pub ids_weigh : (id : ℕ) (is : List Member) → weigh (λ j. same id j.0) is ≡ times id (member_ids is)
ids_weigh id [] = refl
ids_weigh id (i ∷ is) = omega (arith, ids_weigh id is)

-- the pages that a change touched
pub keeps_of : (m w : Store) (P Q : List ℕ) (I J less more : List Member) → Moves m w P Q I J less more → ((q : ℕ) → times q P ≤ live m q) → Keeps m w P Q
keeps_of m w P Q I J less more a o = record {
  others = a.frame;
  gained = λ q k z. none_live m q (omega (arith, a.moved q, k, z, live_small w q));
  lost = λ q k z. none_live w q (omega (arith, a.moved q, k, z, live_small m q));
  moved = a.moved;
}

-- a root that stands as before, or is another one
pub record Rooted (m w : Store) (l n : ℕ) (bound : Option Rect) (P : List ℕ) (I less more : List Member) : Type 0 where
  pub root : IsRootAt w l n bound
  pub moves : Moves m w P (pages_under w l n) I (members_under w l n) less more

once_more : (I J : List Member) (i : Member) → ((f : Member → ℕ) → weigh f J + weigh f [] ≡ weigh f I + weigh f (i ∷ [])) → IsUnlisted i.0 I
    → ((id : ℕ) → times id (member_ids I) ≤ 1) → (id : ℕ) → times id (member_ids J) ≤ 1
once_more I J i w u o id = elim (same_cases id i.0) [
  | inl x ↦ omega (arith, w (λ j. same id j.0), ids_weigh id I, ids_weigh id J, x.0, u, ap (λ (y : ℕ). times y (member_ids I)) x.1)
  | inr x ↦ omega (arith, w (λ j. same id j.0), ids_weigh id I, ids_weigh id J, x.0, o id)
]

once_less : (I J : List Member) (i : Member) → ((f : Member → ℕ) → weigh f J + weigh f (i ∷ []) ≡ weigh f I + weigh f []) → ((id : ℕ) → times id (member_ids I) ≤ 1)
    → (id : ℕ) → times id (member_ids J) ≤ 1
once_less I J i w o id = omega (arith, w (λ j. same id j.0), ids_weigh id I, ids_weigh id J, o id)

-- the root's page alone, as a row
pub one_root : (m w : Store) (l n : ℕ) (r : Rect) (P : List ℕ) (I less more : List Member)
    → Moves m w P (pages_below w (suc l) (branch r n ∷ [])) I (members_in w (suc l) (branch r n ∷ [])) less more → Moves m w P (pages_under w l n) I (members_under w l n) less more
one_root m w l n r P I less more a = moves_beside m w P (pages_below w (suc l) (branch r n ∷ [])) P (pages_under w l n) I (members_in w (suc l) (branch r n ∷ [])) I
    (members_under w l n) less more (λ q. 0) (λ f. 0) a
    (λ q. omega arith) (λ q. omega (arith, one_pages q w l (branch r n))) (λ f. omega arith) (λ f. omega (arith, one_members f w l (branch r n)))

-- the root is whole after a member was entered
pub inserted_kept : (m w : Store) (l n : ℕ) (bound : Option Rect) (i : Member) (r : Rect) → IsRootAt m l n bound → IsUnlisted i.0 (members_under m l n)
    → EntersUnder m w l n i (Kept r) → Rooted m w l n (Some r) (pages_under m l n) (members_under m l n) [] (i ∷ [])
inserted_kept m w l n bound i r t u ins =
    let mv : Moves m w (pages_under m l n) (pages_under w l n) (members_under m l n) (members_under w l n) [] (i ∷ []) =
    one_root m w l n r (pages_under m l n) (members_under m l n) [] (i ∷ []) ins.moves in
    record {
      root = record {
        stands = ins.leads.0.1;
        top = λ k. omega (arith, t.top k, ins.grows);
        owns = owns_after m w (pages_under m l n) (pages_under w l n) (members_under m l n) (members_under w l n) [] (i ∷ []) mv t.owns;
        least = ins.leads.0.0.least;
        once = once_more (members_under m l n) (members_under w l n) i mv.weighed u t.once;
      };
      moves = mv;
    }

-- a new page over what stands
pub record Raised (u w : Store) (l n : ℕ) (es : List NodeEntry) : Type 0 where
  pub stands : NodeStandsAt w l n
  pub entries : entries_at w n ≡ es
  pub moves : Moves u w (pages_below u l es) (pages_under w l n) (members_in u l es) (members_under w l n) [] []

pub raised_over : (u w : Store) (l n : ℕ) (es : List NodeEntry) → length es ≤ 126 → StandsUnder u l es → ((q : ℕ) → times q (pages_below u l es) ≤ live u q)
    → GainsNode u w n (is_inner l) es → Raised u w l n es
raised_over u w l n es fits s o a =
    let new : (q : ℕ) → live u q ≡ 1 → same q n ≡ 0 = λ q k. elim (same_cases q n) [ inl i ↦ absurd (omega (arith, k, a.before, ap (λ (x : ℕ). live u x) i.1)) | inr i ↦ i.0 ] in
    let st : InStays u w l es = in_stays u w l es (λ q k. a.others q (new q (omega (arith, k, o q, live_small u q)))) in
    let ee : entries_at w n ≡ es = read_as w n (is_inner l) es a.is in
    let U : List NodeEntry → Type 0 = λ fs. StandsUnder w l fs in
    record {
      stands = (
        record { is = a.is ∙ ap (λ (fs : List NodeEntry). node (is_inner l) fs) (sym ee); fits = omega (arith, fits, ap (λ (fs : List NodeEntry). length fs) ee) },
        subst U (sym ee) (st.stands s),
      );
      entries = ee;
      moves = record {
        frame = λ q k z. a.others q (new q k);
        moved = λ q. omega (arith, live_gained u w n (is_inner l) es a q, ap (λ (fs : List NodeEntry). times q (pages_below w l fs)) ee, ap (λ (x : List ℕ). times q x) st.pages);
        weighed = λ f. omega (arith, ap (λ (fs : List NodeEntry). weigh f (members_in w l fs)) ee, ap (λ (x : List Member). weigh f x) st.members);
      };
    }

filled_row : (u : Store) (l n : ℕ) (r s : Rect) (p : ℕ) → Each (LeadsToTree u l) (raised n (Split r s p)) → AllFilled u (raised n (Split r s p)) → StandsUnder u (suc l) (raised n (Split r s p))
filled_row u l n r s p le f = ((le.0.0, (f.0, le.0.1)), ((le.1.0.0, (f.1.0, le.1.0.1)), tt))

-- the root was split, and a new root stands over both halves
pub inserted_split : (m u w : Store) (l n root : ℕ) (bound b : Option Rect) (i : Member) (r s : Rect) (p : ℕ) (es : List NodeEntry) → es ≡ raised n (Split r s p)
    → IsRootAt m l n bound → IsUnlisted i.0 (members_under m l n) → EntersUnder m u l n i (Split r s p)
    → GainsNode u w root true es → b ≡ bound_of es → Rooted m w (suc l) root b (pages_under m l n) (members_under m l n) [] (i ∷ [])
inserted_split m u w l n root bound b i r s p es e t un ins a be =
    let row : List NodeEntry = raised n (Split r s p) in
    let G : List NodeEntry → Type 0 = λ x. GainsNode u w root true x in
    let o : (q : ℕ) → times q (pages_below u (suc l) row) ≤ live u q =
    owns_after m u (pages_under m l n) (pages_below u (suc l) row) (members_under m l n) (members_in u (suc l) row) [] (i ∷ []) ins.moves t.owns in
    let h : Raised u w (suc l) root row = raised_over u w (suc l) root row (omega arith) (filled_row u l n r s p ins.leads ins.grows) o (subst G e a) in
    let mv : Moves m w (pages_under m l n) (pages_under w (suc l) root) (members_under m l n) (members_under w (suc l) root) [] (i ∷ []) =
    moves_next m u w (pages_under m l n) (pages_below u (suc l) row) (pages_under w (suc l) root) (members_under m l n) (members_in u (suc l) row)
    (members_under w (suc l) root) [] (i ∷ []) ins.moves h.moves in
    record {
      root = record {
        stands = h.stands;
        top = λ k. omega (arith, ap (λ (x : List NodeEntry). length x) h.entries);
        owns = owns_after m w (pages_under m l n) (pages_under w (suc l) root) (members_under m l n) (members_under w (suc l) root) [] (i ∷ []) mv t.owns;
        least = ap (λ (x : List NodeEntry). bound_of x) (h.entries ∙ sym e) ∙ sym be;
        once = once_more (members_under m l n) (members_under w (suc l) root) i mv.weighed un t.once;
      };
      moves = mv;
    }

-- a root page of no entries
pub planted : (m w : Store) (n : ℕ) → GainsNode m w n false [] → Rooted m w 0 n None [] [] [] []
planted m w n a =
    let h : Raised m w 0 n [] = raised_over m w 0 n [] (omega arith) tt (λ q. omega arith) a in
    let e : members_under w 0 n ≡ [] = ap (λ (x : List NodeEntry). members_of x) h.entries in
    record {
      root = record {
        stands = h.stands;
        top = λ k. absurd (omega arith);
        owns = owns_after m w [] (pages_under w 0 n) [] (members_under w 0 n) [] [] h.moves (λ q. omega arith);
        least = ap (λ (x : List NodeEntry). bound_of x) h.entries;
        once = λ id. omega (arith, ap (λ (x : List Member). times id (member_ids x)) e);
      };
      moves = h.moves;
    }

-- the root stays after a member was taken
pub removed_stays : (m w : Store) (l n : ℕ) (bound : Option Rect) (i : Member) (s : Shrunk) → IsRootAt m l n bound → (1 ≤ l → s.size ≡ 1 → ⊥) → RemovesUnder m w l n i s
    → Rooted m w l n s.bound (pages_under m l n) (members_under m l n) (i ∷ []) []
removed_stays m w l n bound i s t two r = record {
  root = record {
    stands = r.stands;
    top = λ k. not_one (length (entries_at w n)) (omega (arith, t.top k, r.lost)) (λ e. two k (omega (arith, e, r.counted)));
    owns = owns_after m w (pages_under m l n) (pages_under w l n) (members_under m l n) (members_under w l n) (i ∷ []) [] r.moves t.owns;
    least = r.least;
    once = once_less (members_under m l n) (members_under w l n) i r.moves.weighed t.once;
  };
  moves = r.moves;
}
  where
    not_one : (k : ℕ) → 1 ≤ k → (k ≡ 1 → ⊥) → 2 ≤ k
    not_one zero a h = absurd (omega arith)
    not_one (suc zero) a h = absurd (h refl)
    not_one (suc (suc k)) a h = omega arith

-- the root had one entry left, and its child is the root
pub removed_falls : (m u w : Store) (l n child : ℕ) (bound : Option Rect) (i : Member) (s : Shrunk) → IsRootAt m (suc l) n bound → RemovesUnder m u (suc l) n i s
    → LoneChild u n child → Freed u w n → Rooted m w l child s.bound (pages_under m (suc l) n) (members_under m (suc l) n) (i ∷ []) []
removed_falls m u w l n child bound i s t r lone f =
    let e : NodeEntry = lone.entry in
    let ee : entries_at u n ≡ e ∷ [] = read_as u n true (e ∷ []) lone.is in
    let U : List NodeEntry → Type 0 = λ x. StandsUnder u (suc l) x in
    let st : StandsUnder u (suc l) (e ∷ []) = subst U ee r.stands.1 in
    let o : (q : ℕ) → times q (pages_under u (suc l) n) ≤ live u q =
    owns_after m u (pages_under m (suc l) n) (pages_under u (suc l) n) (members_under m (suc l) n) (members_under u (suc l) n) (i ∷ []) [] r.moves t.owns in
    let P : (q : ℕ) → times q (pages_under u (suc l) n) ≡ same q n + (same q e.child + times q (pages_below u l (entries_at u e.child))) =
    λ q. omega (arith, ap (λ (x : List NodeEntry). times q (pages_below u (suc l) x)) ee, one_pages q u l e) in
    let apart : (q : ℕ) → 1 ≤ same q e.child + times q (pages_below u l (entries_at u e.child)) → same q n ≡ 0 = λ q k. omega (arith, k, P q, o q, live_small u q) in
    let nn : node_at w e.child ≡ node_at u e.child = node_stays u w e.child (f.others e.child (apart e.child (omega (arith, same_self e.child)))) in
    let ce : entries_at w e.child ≡ entries_at u e.child = ap (λ (v : NodeView). node_entries v) nn in
    let stay : InStays u w l (entries_at u e.child) = in_stays u w l (entries_at u e.child) (λ q k. f.others q (apart q (omega (arith, k)))) in
    let W : List NodeEntry → Type 0 = λ x. StandsUnder w l x in
    let stands : NodeStandsAt w l e.child = (
      record {
        is = nn ∙ (st.0.1.1.0.is ∙ sym (ap (λ (x : List NodeEntry). node (is_inner l) x) ce));
        fits = omega (arith, ap (λ (x : List NodeEntry). length x) ce, st.0.1.1.0.fits);
      },
      subst W (sym ce) (stay.stands st.0.1.1.1),
    ) in
    let mv1 : Moves u w (pages_under u (suc l) n) (pages_under w l e.child) (members_under u (suc l) n) (members_under w l e.child) [] [] = record {
      frame = λ q k z. f.others q (omega (arith, z, P q));
      moved = λ q. omega (arith, P q, live_freed u w n f q, ap (λ (x : List NodeEntry). times q (pages_below w l x)) ce, ap (λ (x : List ℕ). times q x) stay.pages);
      weighed = λ g. omega (
        arith,
        ap (λ (x : List NodeEntry). weigh g (members_in u (suc l) x)) ee,
        one_members g u l e,
        ap (λ (x : List NodeEntry). weigh g (members_in w l x)) ce,
        ap (λ (x : List Member). weigh g x) stay.members,
      );
    } in
    let mv : Moves m w (pages_under m (suc l) n) (pages_under w l e.child) (members_under m (suc l) n) (members_under w l e.child) (i ∷ []) [] =
    moves_next m u w (pages_under m (suc l) n) (pages_under u (suc l) n) (pages_under w l e.child) (members_under m (suc l) n) (members_under u (suc l) n)
    (members_under w l e.child) (i ∷ []) [] r.moves mv1 in
    let least : bound_of (entries_at w e.child) ≡ s.bound = ap (λ (x : List NodeEntry). bound_of x) ce ∙ (st.0.0.least ∙ (sym (ap (λ (x : List NodeEntry). bound_of x) ee) ∙ r.least)) in
    let R : ℕ → Type 0 = λ x. Rooted m w l x s.bound (pages_under m (suc l) n) (members_under m (suc l) n) (i ∷ []) [] in
    subst R lone.leads (record {
      root = record {
        stands = stands;
        top = λ k. omega (arith, ap (λ (x : List NodeEntry). length x) ce, st.0.1.0);
        owns = owns_after m w (pages_under m (suc l) n) (pages_under w l e.child) (members_under m (suc l) n) (members_under w l e.child) (i ∷ []) [] mv t.owns;
        least = least;
        once = once_less (members_under m (suc l) n) (members_under w l e.child) i mv.weighed t.once;
      };
      moves = mv;
    })
