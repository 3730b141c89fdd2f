-- Nodes written, gained and freed, as rows of entries that were laid out.
use Rattle.std.proofs.Common.{◌≡◌, ℕ, ◌+◌, ◌≤◌, List, [], ◌∷◌, ◌++◌, length, refl, sym, ◌∙◌, ap, ap₂, subst, inl, inr, arith, append-nil}
use Rattle.std.specs.Prelude.{Option, Some, Bool, IsPermutation}
use Rattle.std.proofs.lemmas.List.Sorted.{IsPermutation-refl}
use Rattle.sand_base.specs.declared.rect.Rect.{Rect}
use Rattle.code_btree.specs.Tree.{Store, same, live}
use Rattle.code_btree.specs.Steps.{Wrote, Gained, Freed}
use Rattle.code_btree.proofs.Lists.{same_cases, same_self, live_same, live_some, live_none}
use Rattle.r_tree.specs.declared.entry.NodeEntry.{NodeEntry}
use Rattle.r_tree.specs.Entry.{branch, bound_of}
use Rattle.r_tree.specs.Page.{NodeView, node, rtree_node_in, rtree_node, node_entries}
use Rattle.r_tree.specs.Tree.{node_at, entries_at}
use Rattle.r_tree.specs.Steps.{WritesNode, GainsNode, grandchildren, LeadsToNode, AllFilled, Lays}

pub turned : (a b : ℕ) → same b a ≡ 0 → same a b ≡ 0
turned a b h = elim (same_cases a b) [ inl i ↦ absurd (omega (arith, h, same_self b, ap (λ (x : ℕ). same b x) i.1)) | inr i ↦ i.0 ]

pub live_kept : (u w : Store) (n : ℕ) (inner : Bool) (es : List NodeEntry) → WritesNode u w n inner es → (q : ℕ) → live w q ≡ live u q
live_kept u w n inner es a q = elim (same_cases q n) [
  | inl i ↦ omega (arith, a.before, a.now, ap (λ (x : ℕ). live w x) i.1, ap (λ (x : ℕ). live u x) i.1)
  | inr i ↦ live_same u w q (a.others q i.0)
]

pub live_gained : (u w : Store) (n : ℕ) (inner : Bool) (es : List NodeEntry) → GainsNode u w n inner es → (q : ℕ) → live w q ≡ live u q + same q n
live_gained u w n inner es a q = elim (same_cases q n) [
  | inl i ↦ omega (arith, i.0, a.before, a.now, ap (λ (x : ℕ). live w x) i.1, ap (λ (x : ℕ). live u x) i.1)
  | inr i ↦ omega (arith, i.0, live_same u w q (a.others q i.0))
]

pub live_freed : (u w : Store) (n : ℕ) → Freed u w n → (q : ℕ) → live w q + same q n ≡ live u q
live_freed u w n a q = elim (same_cases q n) [
  | inl i ↦ omega (arith, i.0, a.before, live_none w n a.now, ap (λ (x : ℕ). live w x) i.1, ap (λ (x : ℕ). live u x) i.1)
  | inr i ↦ omega (arith, i.0, live_same u w q (a.others q i.0))
]

-- a page that was written or gained with the bytes of a node
pub node_wrote : (m w : Store) (n : ℕ) (page : List ℕ) (inner : Bool) (es : List NodeEntry) → rtree_node page ≡ node inner es → Wrote m w n page → WritesNode m w n inner es
node_wrote m w n page inner es e a = record { before = a.before; now = live_some w n page a.now; is = ap (λ (o : Option (List ℕ)). rtree_node_in o) a.now ∙ e; others = a.others }

pub node_gained : (m w : Store) (n : ℕ) (page : List ℕ) (inner : Bool) (es : List NodeEntry) → rtree_node page ≡ node inner es → Gained m w n page → GainsNode m w n inner es
node_gained m w n page inner es e a = record { before = live_none m n a.before; now = live_some w n page a.now; is = ap (λ (o : Option (List ℕ)). rtree_node_in o) a.now ∙ e; others = a.others }

-- a node that was written, and the entry that leads to it
leads : (w : Store) (n : ℕ) (inner : Bool) (es : List NodeEntry) (r : Rect) → node_at w n ≡ node inner es → length es ≤ 126 → bound_of es ≡ Some r → LeadsToNode w inner (branch r n)
leads w n inner es r e l b =
    let ee : entries_at w n ≡ es = ap (λ (v : NodeView). node_entries v) e in
    record {
      is = e ∙ ap (λ (x : List NodeEntry). node inner x) (sym ee);
      fits = omega (arith, l, ap (λ (x : List NodeEntry). length x) ee);
      encloses = record { least = ap (λ (x : List NodeEntry). bound_of x) ee ∙ b; is = refl };
    }

at_node : (w v : Store) (n : ℕ) (inner : Bool) (es : List NodeEntry) → w n ≡ v n → node_at v n ≡ node inner es → node_at w n ≡ node inner es
at_node w v n inner es e is = ap (λ (o : Option (List ℕ)). rtree_node_in o) e ∙ is

in_one : (w : Store) (n : ℕ) (inner : Bool) (es : List NodeEntry) (r : Rect) → node_at w n ≡ node inner es → IsPermutation es (grandchildren w (branch r n ∷ []))
in_one w n inner es r e =
    let ee : entries_at w n ≡ es = ap (λ (v : NodeView). node_entries v) e in
    let P : List NodeEntry → Type 0 = λ x. IsPermutation es x in
    subst P (sym (append-nil (entries_at w n) ∙ ee)) (IsPermutation-refl es)

in_two : (w : Store) (n r : ℕ) (inner : Bool) (es left right : List NodeEntry) (b s : Rect) → node_at w n ≡ node inner left → node_at w r ≡ node inner right
    → IsPermutation es (left ++ right) → IsPermutation es (grandchildren w (branch b n ∷ (branch s r ∷ [])))
in_two w n r inner es left right b s e f p =
    let ee : entries_at w n ≡ left = ap (λ (v : NodeView). node_entries v) e in
    let ff : entries_at w r ≡ right = ap (λ (v : NodeView). node_entries v) f in
    let P : List NodeEntry → Type 0 = λ x. IsPermutation es x in
    subst P (sym (ap₂ (λ (x y : List NodeEntry). x ++ y) ee (append-nil (entries_at w r) ∙ ff))) p

-- one node was written
pub one_laid : (u w : Store) (n : ℕ) (inner : Bool) (es : List NodeEntry) (r : Rect) → length es ≤ 126 → bound_of es ≡ Some r → WritesNode u w n inner es → Lays u w (n ∷ []) (branch r n ∷ []) es inner
one_laid u w n inner es r l b a = record {
  frame = λ q k z. a.others q (omega (arith, z));
  moved = λ q. omega (arith, live_kept u w n inner es a q);
  nodes = (leads w n inner es r a.is l b, tt);
  shared = in_one w n inner es r a.is;
}

-- a new node was gained, and no page gave way
pub new_laid : (m w : Store) (n : ℕ) (inner : Bool) (es : List NodeEntry) (r : Rect) → length es ≤ 126 → bound_of es ≡ Some r → GainsNode m w n inner es → Lays m w [] (branch r n ∷ []) es inner
new_laid m w n inner es r l b a = record {
  frame = λ q k z. a.others q (elim (same_cases q n) [ inl i ↦ absurd (omega (arith, k, a.before, ap (λ (x : ℕ). live m x) i.1)) | inr i ↦ i.0 ]);
  moved = λ q. omega (arith, live_gained m w n inner es a q);
  nodes = (leads w n inner es r a.is l b, tt);
  shared = in_one w n inner es r a.is;
}

-- the two parts of entries, each of a node's size
pub record Parts (es left right : List NodeEntry) (b s : Rect) : Type 0 where
  pub order : IsPermutation es (left ++ right)
  pub left_full : 50 ≤ length left
  pub right_full : 50 ≤ length right
  pub left_fits : length left ≤ 126
  pub right_fits : length right ≤ 126
  pub left_bound : bound_of left ≡ Some b
  pub right_bound : bound_of right ≡ Some s

filled : (w : Store) (n r : ℕ) (inner : Bool) (es left right : List NodeEntry) (b s : Rect) → Parts es left right b s → node_at w n ≡ node inner left
    → node_at w r ≡ node inner right → AllFilled w (branch b n ∷ (branch s r ∷ []))
filled w n r inner es left right b s p e f = (
  omega (arith, p.left_full, ap (λ (v : NodeView). length (node_entries v)) e),
  (omega (arith, p.right_full, ap (λ (v : NodeView). length (node_entries v)) f), tt),
)

-- one node was written, and one gained
pub record Split (u w : Store) (n r : ℕ) (inner : Bool) (es : List NodeEntry) (b s : Rect) : Type 0 where
  pub lays : Lays u w (n ∷ []) (branch b n ∷ (branch s r ∷ [])) es inner
  pub full : AllFilled w (branch b n ∷ (branch s r ∷ []))

pub two_laid : (u v w : Store) (n r : ℕ) (inner : Bool) (es left right : List NodeEntry) (b s : Rect) → Parts es left right b s → WritesNode u v n inner left
    → GainsNode v w r inner right → Split u w n r inner es b s
two_laid u v w n r inner es left right b s p a g =
    let apart : same n r ≡ 0 = elim (same_cases n r) [ inl i ↦ absurd (omega (arith, a.now, g.before, ap (λ (x : ℕ). live v x) i.1)) | inr i ↦ i.0 ] in
    let e : node_at w n ≡ node inner left = at_node w v n inner left (g.others n apart) a.is in
    record {
      lays = record {
        frame = λ q k z.
            let fresh : same q r ≡ 0 = elim (same_cases q r) [ inl i ↦ absurd (omega (arith, k, g.before, live_kept u v n inner left a q, ap (λ (x : ℕ). live v x) i.1)) | inr i ↦ i.0 ] in
            g.others q fresh ∙ a.others q (omega (arith, z));
        moved = λ q. omega (arith, live_kept u v n inner left a q, live_gained v w r inner right g q);
        nodes = (leads w n inner left b e p.left_fits p.left_bound, (leads w r inner right s g.is p.right_fits p.right_bound, tt));
        shared = in_two w n r inner es left right b s e g.is p.order;
      };
      full = filled w n r inner es left right b s p e g.is;
    }

-- two nodes were written
pub record Shared (u w : Store) (a b : ℕ) (inner : Bool) (es : List NodeEntry) (r s : Rect) : Type 0 where
  pub lays : Lays u w (a ∷ (b ∷ [])) (branch r a ∷ (branch s b ∷ [])) es inner
  pub full : AllFilled w (branch r a ∷ (branch s b ∷ []))

pub both_laid : (u v w : Store) (a b : ℕ) (inner : Bool) (es left right : List NodeEntry) (r s : Rect) → Parts es left right r s → WritesNode u v a inner left
    → WritesNode v w b inner right → same b a ≡ 0 → Shared u w a b inner es r s
both_laid u v w a b inner es left right r s p x y h =
    let e : node_at w a ≡ node inner left = at_node w v a inner left (y.others a (turned a b h)) x.is in
    record {
      lays = record {
        frame = λ q k z. y.others q (omega (arith, z)) ∙ x.others q (omega (arith, z));
        moved = λ q. omega (arith, live_kept u v a inner left x q, live_kept v w b inner right y q);
        nodes = (leads w a inner left r e p.left_fits p.left_bound, (leads w b inner right s y.is p.right_fits p.right_bound, tt));
        shared = in_two w a b inner es left right r s e y.is p.order;
      };
      full = filled w a b inner es left right r s p e y.is;
    }

-- one node was written, and another freed
pub merged : (u v w : Store) (a b : ℕ) (inner : Bool) (es : List NodeEntry) (r : Rect) → length es ≤ 126 → bound_of es ≡ Some r → WritesNode u v a inner es → Freed v w b
    → same b a ≡ 0 → Lays u w (a ∷ (b ∷ [])) (branch r a ∷ []) es inner
merged u v w a b inner es r l bo x y h =
    let e : node_at w a ≡ node inner es = at_node w v a inner es (y.others a (turned a b h)) x.is in
    record {
      frame = λ q k z. y.others q (omega (arith, z)) ∙ x.others q (omega (arith, z));
      moved = λ q. omega (arith, live_kept u v a inner es x q, live_freed v w b y q);
      nodes = (leads w a inner es r e l bo, tt);
      shared = in_one w a inner es r e;
    }
