-- What the entries of a leaf and the children of a block give to a queue at the distance 0.
use Rattle.std.proofs.Common.{◌≡◌, ℕ, suc, ◌+◌, ◌<◌, ◌≤◌, Bool, true, false, cond, List, [], ◌∷◌, ◌++◌, length, take, get_or, flat_map, map, not, All, IsPermutation}
use Rattle.std.proofs.Common.{refl, sym, ap, ◌∙◌, subst, arith, append-nil, Some, Ordering, Less, Equal, Greater}
use Rattle.std.specs.Prelude.{nat_eq, ◌↔◌, IsTrue, Result, Ok, Err, OnOk}
use Rattle.std.specs.List.{AllZip}
use Rattle.std.specs.Ordering.{is_lt}
use Rattle.std.proofs.lemmas.Bool.{eqb-true, eq-eqb}
use Rattle.std.proofs.lemmas.List.{take_all, take_more, length-append}
use Rattle.std.proofs.lemmas.List.Elements.{All-append, All-cons, All-nil, All-head, All-tail}
use Rattle.std.proofs.lemmas.List.Concat.{flat_map-append}
use Rattle.std.proofs.lemmas.List.Sorted.{IsPermutation-refl}
use Rattle.exact_frac.specs.Frac.{value_cmp}
use Rattle.exact_frac.specs.declared.frac.Frac.{Frac}
use Rattle.sand_base.specs.declared.rect.Rect.{Rect}
use Rattle.z_code.specs.Block.{children_of, with_square}
use Rattle.z_code.specs.declared.block.Block.{Block}
use Rattle.sand_model.specs.Nodes.{greater}
use Rattle.best_first.specs.Item.{IsAlike, node_if_any, nodes_of}
use Rattle.best_first.specs.Reach.{IsSameGap, IsAtMost, within}
use Rattle.best_first.specs.declared.item.Item.{Item}
use Rattle.best_first.specs.declared.item.Item.TheVariants.{Rough, Row}
use Rattle.best_first.proofs.Gaps.{less_is, not_below, reach_same, same_itself, within_reach}
use Rattle.best_first.specs.RowsAtZero.{zero_gap, row_at_zero}
use Rattle.best_first.specs.ZeroItems.{ZeroItems, PutIn, OpensNode, at_zero, is_at_zero, rough_id_in, row_id_in, rough_at_zero}
use Rattle.best_first.proofs.Leveled.{within_zero}
use Rattle.best_first.proofs.Queued.{puts_none, opens_then}
use Rattle.sand_base.specs.declared.goal.Goal.{Goal}
use Rattle.sand_base.specs.declared.goal.Goal.TheVariants as figure
use Rattle.sand_base.specs.declared.rough.Rough as Shapes
use Rattle.sand_base.specs.declared.shape.Shape.TheVariants as shape
use Rattle.pmr_tree.specs.Keys.{id_in}
use Rattle.pmr_tree.specs.Listing.{Pair, rough_in, listed_in}
use Rattle.pmr_tree.specs.declared.listed.Listed.{Listed}
use Rattle.rank_cursor.specs.AtZero.{HaveBits, list_found}
use Rattle.rank_cursor.specs.Cursor.{block_found, exact_found, entry_found, goal_gap}
use Rattle.rank_cursor.proofs.LeafEntries.{pair_found, pairs_found}

-- no gap is nearer than the distance 0
never_nearer : (g : Frac) → is_lt (value_cmp g zero_gap) ≡ false
never_nearer g =
    let least : IsAtMost zero_gap g = omega arith in
    let go : (o : Ordering) → value_cmp g zero_gap ≡ o → is_lt o ≡ false = elim [ Less ↦ λ e. absurd (not_below g zero_gap (less_is g zero_gap e) least) | Equal ↦ λ e. refl | Greater ↦ λ e. refl ] in
    go (value_cmp g zero_gap) refl

-- gaps of one value are at the distance 0 together
pub both_zero : (g h : Frac) → IsSameGap g h → nat_eq g.num 0 ≡ nat_eq h.num 0
both_zero g h same = sym (reach_same (within (Some 0)) (within_reach (Some 0)) g h same (nat_eq g.num 0) (within_zero g)) ∙ within_zero h

-- what one item at the distance 0 brings
brought : {A : Type 0} (f : Item Block → List A) (item : Item Block) → is_at_zero item ≡ true → flat_map f (at_zero (item ∷ [])) ≡ f item
brought f item near = ap (λ b. flat_map f (cond b (item ∷ []) [])) near ∙ append-nil (f item)

-- an item may be told under another gap at the distance 0
retold : (item other : Item Block) (rest : List Block) (old new : ZeroItems Block) → is_at_zero item ≡ true → is_at_zero other ≡ true → node_if_any item ≡ node_if_any other
    → rough_id_in item ≡ rough_id_in other → row_id_in item ≡ row_id_in other
    → OpensNode rest (item ∷ []) old new → OpensNode rest (other ∷ []) old new
retold item other rest old new near too nodes roughs rows o = record {
  nodes = subst (λ l. IsPermutation (l ++ rest) new.nodes) (brought node_if_any item near ∙ nodes ∙ sym (brought node_if_any other too)) o.nodes;
  roughs = subst (λ l. PutIn l old.roughs new.roughs) (brought rough_id_in item near ∙ roughs ∙ sym (brought rough_id_in other too)) o.roughs;
  rows = subst (λ l. PutIn l old.rows new.rows) (brought row_id_in item near ∙ rows ∙ sym (brought row_id_in other too)) o.rows;
  below = o.below;
}

-- an item that is farther brings nothing
left_out : (item : Item Block) (q : ZeroItems Block) → is_at_zero item ≡ false → OpensNode q.nodes (item ∷ []) q q
left_out item q far =
    let e : at_zero (item ∷ []) ≡ [] = ap (λ b. cond b (item ∷ []) []) far in
    record {
      nodes = subst (λ l. IsPermutation (nodes_of l ++ q.nodes) q.nodes) (sym e) (IsPermutation-refl q.nodes);
      roughs = subst (λ l. PutIn (flat_map rough_id_in l) q.roughs q.roughs) (sym e) (puts_none q.roughs);
      rows = subst (λ l. PutIn (flat_map row_id_in l) q.rows q.rows) (sym e) (puts_none q.rows);
      below = refl;
    }

exact_is : (id : ℕ) (h : Frac) → exact_found zero_gap id h ≡ Row h id 0 ∷ []
exact_is id h = ap (λ b. cond b [] (Row h id 0 ∷ [])) (never_nearer h)

greater_is : (h : Frac) → greater h zero_gap ≡ h
greater_is h = ap (λ b. cond b zero_gap h) (never_nearer h)

-- an exact object at the distance 0
pub exact_near : (id : ℕ) (g h : Frac) (q new : ZeroItems Block) → IsSameGap g h → nat_eq g.num 0 ≡ true → OpensNode q.nodes (row_at_zero id ∷ []) q new
    → OpensNode q.nodes (exact_found zero_gap id h) q new
exact_near id g h q new same near o =
    subst (λ (l : List (Item Block)). OpensNode q.nodes l q new) (sym (exact_is id h))
    (retold (row_at_zero id) (Row h id 0) q.nodes q new refl (sym (both_zero g h same) ∙ near) refl refl refl o)

-- and a farther one
pub exact_far : (id : ℕ) (g h : Frac) (q : ZeroItems Block) → IsSameGap g h → nat_eq g.num 0 ≡ false → OpensNode q.nodes (exact_found zero_gap id h) q q
exact_far id g h q same far =
    subst (λ (l : List (Item Block)). OpensNode q.nodes l q q) (sym (exact_is id h)) (left_out (Row h id 0) q (sym (both_zero g h same) ∙ far))

-- a rough object at the distance 0
pub bound_near : (id : ℕ) (g h : Frac) (q new : ZeroItems Block) → IsSameGap g h → nat_eq g.num 0 ≡ true → OpensNode q.nodes (rough_at_zero id ∷ []) q new
    → OpensNode q.nodes (Rough (greater h zero_gap) id 0 ∷ []) q new
bound_near id g h q new same near o =
    subst (λ f. OpensNode q.nodes (Rough f id 0 ∷ []) q new) (sym (greater_is h))
    (retold (rough_at_zero id) (Rough h id 0) q.nodes q new refl (sym (both_zero g h same) ∙ near) refl refl refl o)

-- and a farther one
pub bound_far : (id : ℕ) (g h : Frac) (q : ZeroItems Block) → IsSameGap g h → nat_eq g.num 0 ≡ false → OpensNode q.nodes (Rough (greater h zero_gap) id 0 ∷ []) q q
bound_far id g h q same far =
    subst (λ f. OpensNode q.nodes (Rough f id 0 ∷ []) q q) (sym (greater_is h)) (left_out (Rough h id 0) q (sym (both_zero g h same) ∙ far))

-- what one more element gives was added
pub one_joined : {X : Type 0} (f : X → List (Item Block)) (xs : List X) (i : ℕ) (d : X) (rest : List Block) (old mid new : ZeroItems Block) → i < length xs
    → OpensNode rest (flat_map f (take i xs)) old mid → OpensNode mid.nodes (f (get_or xs i d)) mid new → OpensNode rest (flat_map f (take (i + 1) xs)) old new
one_joined f xs i d rest old mid new below first second =
    let x = get_or xs i d in
    let all : flat_map f (take (i + 1) xs) ≡ flat_map f (take i xs) ++ f x =
    ap (flat_map f) (take_more xs i d below) ∙ flat_map-append f (take i xs) (x ∷ []) ∙ ap (λ l. flat_map f (take i xs) ++ l) (append-nil (f x)) in
    subst (λ (l : List (Item Block)). OpensNode rest l old new) (sym all) (opens_then rest (flat_map f (take i xs)) (f x) old mid new first second)

-- what joined after the node was taken took its place
pub from_taken : (rest : List Block) (found : List (Item Block)) (old taken new : ZeroItems Block) → taken ≡ record old { nodes = rest }
    → OpensNode taken.nodes found taken new → OpensNode rest found old new
from_taken rest found old taken new is o =
    let p : OpensNode rest found (record old { nodes = rest }) new = subst (λ (q : ZeroItems Block). OpensNode q.nodes found q new) is o in
    record { nodes = p.nodes; roughs = p.roughs; rows = p.rows; below = p.below }

-- a node was taken, and nothing took its place
pub nothing_took : (rest : List Block) (old new : ZeroItems Block) → new ≡ record old { nodes = rest } → OpensNode rest [] old new
nothing_took rest old new is =
    subst (λ (q : ZeroItems Block). OpensNode rest [] old q) (sym is)
    (record { nodes = IsPermutation-refl rest; roughs = puts_none old.roughs; rows = puts_none old.rows; below = refl })

-- nothing joined yet
pub nothing_joined : (q : ZeroItems Block) → OpensNode q.nodes [] q q
nothing_joined q = record { nodes = IsPermutation-refl q.nodes; roughs = puts_none q.roughs; rows = puts_none q.rows; below = refl }

-- a numerator other than 0
pub is_far : (n : ℕ) → (n ≡ 0 → ⊥) → nat_eq n 0 ≡ false
is_far n apart =
    let go : (b : Bool) → nat_eq n 0 ≡ b → b ≡ false = elim [ true ↦ λ e. absurd (apart (eqb-true n 0 e)) | false ↦ λ e. refl ] in
    go (nat_eq n 0) refl

-- a gap that was computed has the numerator 0 where the measure's has
pub measured_zero : (n : ℕ) (g h : Frac) → n ≡ g.num → IsSameGap g h → IsTrue (nat_eq n 0) ↔ (h.num ≡ 0)
measured_zero n g h is same = (
  λ yes. eqb-true h.num 0 (sym (both_zero g h same) ∙ ap (λ m. nat_eq m 0) (sym is) ∙ yes),
  λ e. ap (λ m. nat_eq m 0) is ∙ both_zero g h same ∙ eq-eqb h.num 0 e,
)

-- the same, where it is the measure's own gap that is known to be 0, or not
pub exact_touched : (id : ℕ) (h : Frac) (q new : ZeroItems Block) → h.num ≡ 0 → OpensNode q.nodes (row_at_zero id ∷ []) q new → OpensNode q.nodes (exact_found zero_gap id h) q new
exact_touched id h q new e o = exact_near id h h q new (same_itself h) (eq-eqb h.num 0 e) o

pub exact_missed : (id : ℕ) (h : Frac) (q : ZeroItems Block) → (h.num ≡ 0 → ⊥) → OpensNode q.nodes (exact_found zero_gap id h) q q
exact_missed id h q apart = exact_far id h h q (same_itself h) (is_far h.num apart)

pub bound_touched : (id : ℕ) (h : Frac) (q new : ZeroItems Block) → h.num ≡ 0 → OpensNode q.nodes (rough_at_zero id ∷ []) q new → OpensNode q.nodes (Rough (greater h zero_gap) id 0 ∷ []) q new
bound_touched id h q new e o = bound_near id h h q new (same_itself h) (eq-eqb h.num 0 e) o

pub bound_missed : (id : ℕ) (h : Frac) (q : ZeroItems Block) → (h.num ≡ 0 → ⊥) → OpensNode q.nodes (Rough (greater h zero_gap) id 0 ∷ []) q q
bound_missed id h q apart = bound_far id h h q (same_itself h) (is_far h.num apart)

-- what holds of one more element holds of all so far
pub all_more : {X : Type 0} (P : X → Type 0) (xs : List X) (i : ℕ) (d : X) → i < length xs → All P (take i xs) → P (get_or xs i d) → All P (take (i + 1) xs)
all_more P xs i d below before this =
    subst (All P) (sym (take_more xs i d below)) (All-append P (take i xs) (get_or xs i d ∷ []) before (All-cons P (get_or xs i d) [] this (All-nil P)))

-- no more items than entries
pub few_found : (goal : Goal) (list : List Listed) → length (list_found goal list) ≤ length list
few_found goal [] = omega arith
few_found goal (l ∷ ls) =
    let f = λ (e : Listed). entry_found goal zero_gap e.id e.rough in
    let both = length-append (f l) (flat_map f ls) in
    let one = one_at_most l.rough in
    let more = few_found goal ls in
    omega arith
  where
    one_at_most : (r : Shapes.Rough) → length (entry_found goal zero_gap l.id r) ≤ 1
    one_at_most (Shapes.TheVariants.Point p) = subst (λ (xs : List (Item Block)). length xs ≤ 1) (sym (exact_is l.id (goal_gap goal (figure.Shape (shape.Point p))))) (omega arith)
    one_at_most (Shapes.TheVariants.Segment s) = subst (λ (xs : List (Item Block)). length xs ≤ 1) (sym (exact_is l.id (goal_gap goal (figure.Shape (shape.Segment s))))) (omega arith)
    one_at_most (Shapes.TheVariants.Bound b) = omega arith

-- what follows from an answer, where there is one
pub passed_on : {T E : Type 0} {X Y : Type 0} (r : Result T E) → (X → Y) → OnOk r X → OnOk r Y
passed_on (Ok t) f h = f h
passed_on (Err e) f h = tt

-- ---- entries as pages have them

-- the id of an entry has a bit, where the entry lists one
abbrev pub PairHasBit : ℕ → Pair → Type 0
PairHasBit below pair = HaveBits below (listed_in (pair ∷ []))

-- an entry that lists an id
pub some_bit : (below : ℕ) (pair : Pair) (l : Listed) → l ∷ [] ≡ listed_in (pair ∷ []) → (l.id < below) ↔ PairHasBit below pair
some_bit below pair l is =
    subst (λ list. (l.id < below) ↔ HaveBits below list) is
    (λ h. All-cons (λ (m : Listed). m.id < below) l [] h (All-nil (λ (m : Listed). m.id < below)), λ h. All-head (λ (m : Listed). m.id < below) l [] h)

-- and one that marks an empty leaf
pub no_bit : (below : ℕ) (pair : Pair) → [] ≡ listed_in (pair ∷ []) → PairHasBit below pair
no_bit below pair is = subst (HaveBits below) is (All-nil (λ (m : Listed). m.id < below))

-- ids that have bits one by one have bits together
pub bits_joined : (below : ℕ) (pairs : List Pair) → All (PairHasBit below) pairs → HaveBits below (listed_in pairs)
bits_joined below [] h = All-nil (λ (m : Listed). m.id < below)
bits_joined below (pair ∷ pairs) h =
    go (not (nat_eq (id_in pair.0) 0)) (All-head (PairHasBit below) pair pairs h) (bits_joined below pairs (All-tail (PairHasBit below) pair pairs h))
  where
    listed : Listed
    listed = record { id = id_in pair.0; rough = rough_in pair.1 }

    go : (k : Bool) → HaveBits below (cond k (listed ∷ []) []) → HaveBits below (listed_in pairs) → HaveBits below (cond k (listed ∷ listed_in pairs) (listed_in pairs))
    go true first rest = All-cons (λ (m : Listed). m.id < below) listed (listed_in pairs) (All-head (λ (m : Listed). m.id < below) listed [] first) rest
    go false first rest = rest

-- ids that have bits together have bits one by one
pub bits_apart : (below : ℕ) (pairs : List Pair) → HaveBits below (listed_in pairs) → All (PairHasBit below) pairs
bits_apart below [] h = All-nil (PairHasBit below)
bits_apart below (pair ∷ pairs) h =
    let k = not (nat_eq (id_in pair.0) 0) in
    All-cons (PairHasBit below) pair pairs (first k h) (bits_apart below pairs (rest k h))
  where
    listed : Listed
    listed = record { id = id_in pair.0; rough = rough_in pair.1 }

    first : (k : Bool) → HaveBits below (cond k (listed ∷ listed_in pairs) (listed_in pairs)) → HaveBits below (cond k (listed ∷ []) [])
    first true h = All-cons (λ (m : Listed). m.id < below) listed [] (All-head (λ (m : Listed). m.id < below) listed (listed_in pairs) h) (All-nil (λ (m : Listed). m.id < below))
    first false h = All-nil (λ (m : Listed). m.id < below)

    rest : (k : Bool) → HaveBits below (cond k (listed ∷ listed_in pairs) (listed_in pairs)) → HaveBits below (listed_in pairs)
    rest true h = All-tail (λ (m : Listed). m.id < below) listed (listed_in pairs) h
    rest false h = h

-- what an entry listed joined
pub some_joined : (goal : Goal) (pair : Pair) (l : Listed) (rest : List Block) (old new : ZeroItems Block) → l ∷ [] ≡ listed_in (pair ∷ [])
    → OpensNode rest (entry_found goal zero_gap l.id l.rough) old new → OpensNode rest (pair_found goal zero_gap pair) old new
some_joined goal pair l rest old new is h =
    subst (λ list. OpensNode rest (list_found goal list) old new) is
    (subst (λ found. OpensNode rest found old new) (sym (append-nil (entry_found goal zero_gap l.id l.rough))) h)

-- an entry that lists nothing adds nothing
pub none_joined : (goal : Goal) (pair : Pair) (q : ZeroItems Block) → [] ≡ listed_in (pair ∷ []) → OpensNode q.nodes (pair_found goal zero_gap pair) q q
none_joined goal pair q is = subst (λ list. OpensNode q.nodes (list_found goal list) q q) is (nothing_joined q)

-- the entries together give what their list gives
pub all_joined : (goal : Goal) (pairs : List Pair) (i : ℕ) (list : List Listed) (rest : List Block) (old new : ZeroItems Block) → length pairs ≤ i → listed_in pairs ≡ list
    → OpensNode rest (flat_map (pair_found goal zero_gap) (take i pairs)) old new → OpensNode rest (list_found goal list) old new
all_joined goal pairs i list rest old new end is h =
    subst (λ found. OpensNode rest found old new)
    (ap (flat_map (pair_found goal zero_gap)) (take_all i pairs end) ∙ pairs_found goal zero_gap pairs ∙ ap (list_found goal) is) h

-- no more ids than entries
few_listed : (pairs : List Pair) → length (listed_in pairs) ≤ length pairs
few_listed [] = omega arith
few_listed (pair ∷ pairs) = go (not (nat_eq (id_in pair.0) 0)) (few_listed pairs) where
  listed : Listed
  listed = record { id = id_in pair.0; rough = rough_in pair.1 }

  go : (k : Bool) → length (listed_in pairs) ≤ length pairs → length (cond k (listed ∷ listed_in pairs) (listed_in pairs)) ≤ suc (length pairs)
  go true h = omega arith
  go false h = omega arith

pub few_pairs : (goal : Goal) (pairs : List Pair) (list : List Listed) (bound : ℕ) → listed_in pairs ≡ list → length pairs < bound → length (list_found goal list) < bound
few_pairs goal pairs list bound is below =
    let found = few_found goal list in
    let listed = subst (λ l. length l ≤ length pairs) is (few_listed pairs) in
    omega arith

-- ---- children

-- four items stand for the children
pub four_alike : (goal : Goal) (b : Block) (pairs : List (Block × Rect)) (d : Block × Rect) → pairs ≡ map with_square (children_of b) → (first second third fourth : Item Block)
    → IsAlike first (block_found goal (get_or pairs 0 d).0) → IsAlike second (block_found goal (get_or pairs 1 d).0)
    → IsAlike third (block_found goal (get_or pairs 2 d).0) → IsAlike fourth (block_found goal (get_or pairs 3 d).0)
    → AllZip IsAlike (first ∷ second ∷ third ∷ fourth ∷ []) (map (block_found goal) (children_of b))
four_alike goal b pairs d is first second third fourth h1 h2 h3 h4 = (
  subst (λ (ps : List (Block × Rect)). IsAlike first (block_found goal (get_or ps 0 d).0)) is h1,
  (
    subst (λ (ps : List (Block × Rect)). IsAlike second (block_found goal (get_or ps 1 d).0)) is h2,
    (
      subst (λ (ps : List (Block × Rect)). IsAlike third (block_found goal (get_or ps 2 d).0)) is h3,
      (
        subst (λ (ps : List (Block × Rect)). IsAlike fourth (block_found goal (get_or ps 3 d).0)) is h4,
        tt,
      ),
    ),
  ),
)
