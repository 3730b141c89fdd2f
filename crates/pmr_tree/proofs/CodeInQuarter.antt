-- The quarter of a block that has a code, and the keys there.
use Rattle.std.proofs.Common.{◌≡◌, ℕ, ◌+◌, ◌*◌, ◌^◌, ◌<◌, ◌≤◌, List, [], ◌∷◌, ◌++◌, map, refl, sym, ◌∙◌, ap, inl, inr, arith}
use Rattle.std.specs.Prelude.{Contains}
use Rattle.std.proofs.lemmas.Bool.{cases_lt}
use Rattle.std.proofs.lemmas.List.Elements.{Contains-append_left, Contains-append_right}
use Rattle.sand_base.specs.declared.TheConstants.{COORDINATE_BITS}
use Rattle.z_code.specs.Block.{IsBlock, HasCode, child, code_count}
use Rattle.z_code.specs.declared.block.Block.{Block}
use Rattle.sand_model.specs.Tree.{Tree, Leaf, Inner, places}
use Rattle.pmr_tree.specs.Lists.{Each}
use Rattle.pmr_tree.specs.Keys.{key_of, leaf_keys, keys, IsId, IsShaped}
use Rattle.pmr_tree.specs.Leaves.{last_key}
use Rattle.pmr_tree.proofs.AscendingLists.{each_map, each_append}
use Rattle.pmr_tree.proofs.KeyLists.{Lies, keys_lie, child_before}
use Rattle.pmr_tree.proofs.Quarter.{quarter_count, child_block}

-- the number is the last of the list up to a bound
pub record IsLastTo (bound k : ℕ) (ks : List ℕ) : Type 0 where
  pub before : List ℕ
  pub behind : List ℕ
  pub is : ks ≡ before ++ (k ∷ behind)
  pub below : Each (λ j. j ≤ bound) before
  pub at : k ≤ bound
  pub above : Each (λ j. bound < j) behind

append-assoc : {A : Type 0} (xs ys zs : List A) → (xs ++ ys) ++ zs ≡ xs ++ (ys ++ zs)
append-assoc [] ys zs = refl
append-assoc (x ∷ xs) ys zs = ap (λ t. x ∷ t) (append-assoc xs ys zs)

last_after : (bound k : ℕ) (xs ks : List ℕ) → Each (λ j. j ≤ bound) xs → IsLastTo bound k ks → IsLastTo bound k (xs ++ ks)
last_after bound k xs ks h l = record {
  before = xs ++ l.before;
  behind = l.behind;
  is = ap (λ t. xs ++ t) l.is ∙ sym (append-assoc xs l.before (k ∷ l.behind));
  below = each_append (λ j. j ≤ bound) xs l.before h l.below;
  at = l.at;
  above = l.above;
}

last_before : (bound k : ℕ) (ks xs : List ℕ) → Each (λ j. bound < j) xs → IsLastTo bound k ks → IsLastTo bound k (ks ++ xs)
last_before bound k ks xs h l = record {
  before = l.before;
  behind = l.behind ++ xs;
  is = ap (λ t. t ++ xs) l.is ∙ append-assoc l.before (k ∷ l.behind) xs;
  below = l.below;
  at = l.at;
  above = each_append (λ j. bound < j) l.behind xs l.above h;
}

-- a leaf of a tree that has the code, with the last of its ids, or 0
pub record LeafOf (z : ℕ) (b0 : Block) (tree : Tree) : Type 0 where
  pub block : Block
  pub ids : List ℕ
  pub id : ℕ
  pub small : id < 2 ^ 32
  pub is_block : IsBlock block
  pub place : Contains (places b0 tree) (block, Leaf ids)
  pub code : HasCode block z
  pub last : IsLastTo (last_key z) (key_of block id) (keys b0 tree)

-- the keys of a leaf end with that of its last id
record Ends (b : Block) (bound : ℕ) (ks : List ℕ) : Type 0 where
  id : ℕ
  small : id < 2 ^ 32
  last : IsLastTo bound (key_of b id) ks

key_upto : (b : Block) (z id : ℕ) → b.level ≤ COORDINATE_BITS → b.z ≤ z → id < 2 ^ 32 → key_of b id ≤ last_key z
key_upto b z id h c s = omega (arith, h, c, s)

ids_end : (b : Block) (z : ℕ) → b.level ≤ COORDINATE_BITS → b.z ≤ z → (id : ℕ) (ids : List ℕ) → Each IsId (id ∷ ids) → Ends b (last_key z) (map (key_of b) (id ∷ ids))
ids_end b z h c id [] i = record {
  id = id;
  small = i.0.small;
  last = record { before = []; behind = []; is = refl; below = tt; at = key_upto b z id h c i.0.small; above = tt };
}
ids_end b z h c id (next ∷ ids) i =
    let more = ids_end b z h c next ids i.1 in record {
      id = more.id;
      small = more.small;
      last = last_after (last_key z) (key_of b more.id) (key_of b id ∷ []) (map (key_of b) (next ∷ ids)) (key_upto b z id h c i.0.small, tt) more.last;
    }

leaf_ends : (b : Block) (z : ℕ) (ids : List ℕ) → b.level ≤ COORDINATE_BITS → b.z ≤ z → Each IsId ids → Ends b (last_key z) (leaf_keys b ids)
leaf_ends b z [] h c i = record {
  id = 0;
  small = omega arith;
  last = record { before = []; behind = []; is = refl; below = tt; at = key_upto b z 0 h c (omega arith); above = tt };
}
leaf_ends b z (id ∷ ids) h c i = ids_end b z h c id ids i

-- the keys of a child before that of the code, and of one behind it
keys_below : (b : Block) (i j z : ℕ) → i < j → HasCode (child b j) z → (t : Tree) → IsShaped (child b i) t → Each (λ k. k ≤ last_key z) (keys (child b i) t)
keys_below b i j z l code t h = each_map (Lies (child b i)) (λ k. k ≤ last_key z) (λ k a. omega (arith, a.1, child_before b i j l, code.from_first)) (keys (child b i) t) (keys_lie (child b i) t h)

keys_above : (b : Block) (i j z : ℕ) → i < j → HasCode (child b i) z → (t : Tree) → IsShaped (child b j) t → Each (λ k. last_key z < k) (keys (child b j) t)
keys_above b i j z l code t h = each_map (Lies (child b j)) (λ k. last_key z < k) (λ k a. omega (arith, a.0, child_before b i j l, code.below_next)) (keys (child b j) t) (keys_lie (child b j) t h)

-- one of the four children has the code
pub data Child (b : Block) (z : ℕ) : Type 0 where
  in_first : HasCode (child b 0) z → Child b z
  in_second : HasCode (child b 1) z → Child b z
  in_third : HasCode (child b 2) z → Child b z
  in_fourth : HasCode (child b 3) z → Child b z

child_of : (b : Block) (z : ℕ) → b.level < COORDINATE_BITS → HasCode b z → Child b z
child_of b z h code =
    let c = code_count (b.level + 1) in
    let four = quarter_count b.level h in
    elim (cases_lt z (b.z + c)) [
      | inl l ↦ in_first (record { from_first = omega (arith, code.from_first); below_next = omega (arith, l) })
      | inr l ↦ elim (cases_lt z (b.z + 2 * c)) [
        | inl m ↦ in_second (record { from_first = omega (arith, l); below_next = omega (arith, m) })
        | inr m ↦ elim (cases_lt z (b.z + 3 * c)) [
          | inl n ↦ in_third (record { from_first = omega (arith, m); below_next = omega (arith, n) })
          | inr n ↦ in_fourth (record { from_first = omega (arith, n); below_next = omega (arith, code.below_next, four) })
        ]
      ]
    ]

-- one more at the head of a list
has_more : {A : Type 0} (y : A) (xs : List A) (x : A) → Contains xs x → Contains (y ∷ xs) x
has_more y xs x c = Contains-append_right (y ∷ []) xs x c

-- a leaf of a child is one of its block
abbrev all_places : Block → Tree → Tree → Tree → Tree → List (Block × Tree)
all_places b p q r s = places (child b 0) p ++ (places (child b 1) q ++ (places (child b 2) r ++ places (child b 3) s))

-- the trees of the four children are shaped
record AreShaped (b : Block) (p q r s : Tree) : Type 0 where
  first : IsShaped (child b 0) p
  second : IsShaped (child b 1) q
  third : IsShaped (child b 2) r
  fourth : IsShaped (child b 3) s

first_up : (z : ℕ) (b : Block) (p q r s : Tree) → AreShaped b p q r s → HasCode (child b 0) z → LeafOf z (child b 0) p → LeafOf z b (Inner p q r s)
first_up z b p q r s h c l = record {
  block = l.block;
  ids = l.ids;
  id = l.id;
  small = l.small;
  is_block = l.is_block;
  place = has_more (b, Inner p q r s) (all_places b p q r s) (l.block, Leaf l.ids)
      (Contains-append_left (places (child b 0) p) (places (child b 1) q ++ (places (child b 2) r ++ (places (child b 3) s))) (l.block, Leaf l.ids) l.place);
  code = l.code;
  last = (last_before (last_key z) (key_of l.block l.id) (keys (child b 0) p) (keys (child b 1) q ++ (keys (child b 2) r ++ (keys (child b 3) s)))
      (each_append (λ j. last_key z < j) (keys (child b 1) q) (keys (child b 2) r ++ (keys (child b 3) s)) (keys_above b 0 1 z (omega arith) c q h.second)
      (each_append (λ j. last_key z < j) (keys (child b 2) r) (keys (child b 3) s) (keys_above b 0 2 z (omega arith) c r h.third) (keys_above b 0 3 z (omega arith) c s h.fourth))) l.last);
}

second_up : (z : ℕ) (b : Block) (p q r s : Tree) → AreShaped b p q r s → HasCode (child b 1) z → LeafOf z (child b 1) q → LeafOf z b (Inner p q r s)
second_up z b p q r s h c l = record {
  block = l.block;
  ids = l.ids;
  id = l.id;
  small = l.small;
  is_block = l.is_block;
  place = has_more (b, Inner p q r s) (all_places b p q r s) (l.block, Leaf l.ids)
      (Contains-append_right (places (child b 0) p) (places (child b 1) q ++ (places (child b 2) r ++ (places (child b 3) s))) (l.block, Leaf l.ids)
      (Contains-append_left (places (child b 1) q) (places (child b 2) r ++ (places (child b 3) s)) (l.block, Leaf l.ids) l.place));
  code = l.code;
  last = (last_after (last_key z) (key_of l.block l.id) (keys (child b 0) p) (keys (child b 1) q ++ (keys (child b 2) r ++ (keys (child b 3) s)))
      (keys_below b 0 1 z (omega arith) c p h.first)
      (last_before (last_key z) (key_of l.block l.id) (keys (child b 1) q) (keys (child b 2) r ++ (keys (child b 3) s))
      (each_append (λ j. last_key z < j) (keys (child b 2) r) (keys (child b 3) s) (keys_above b 1 2 z (omega arith) c r h.third) (keys_above b 1 3 z (omega arith) c s h.fourth)) l.last));
}

third_up : (z : ℕ) (b : Block) (p q r s : Tree) → AreShaped b p q r s → HasCode (child b 2) z → LeafOf z (child b 2) r → LeafOf z b (Inner p q r s)
third_up z b p q r s h c l = record {
  block = l.block;
  ids = l.ids;
  id = l.id;
  small = l.small;
  is_block = l.is_block;
  place = has_more (b, Inner p q r s) (all_places b p q r s) (l.block, Leaf l.ids)
      (Contains-append_right (places (child b 0) p) (places (child b 1) q ++ (places (child b 2) r ++ (places (child b 3) s))) (l.block, Leaf l.ids)
      (Contains-append_right (places (child b 1) q) (places (child b 2) r ++ (places (child b 3) s)) (l.block, Leaf l.ids)
      (Contains-append_left (places (child b 2) r) (places (child b 3) s) (l.block, Leaf l.ids) l.place)));
  code = l.code;
  last = (last_after (last_key z) (key_of l.block l.id) (keys (child b 0) p) (keys (child b 1) q ++ (keys (child b 2) r ++ (keys (child b 3) s)))
      (keys_below b 0 2 z (omega arith) c p h.first)
      (last_after (last_key z) (key_of l.block l.id) (keys (child b 1) q) (keys (child b 2) r ++ (keys (child b 3) s))
      (keys_below b 1 2 z (omega arith) c q h.second)
      (last_before (last_key z) (key_of l.block l.id) (keys (child b 2) r) (keys (child b 3) s) (keys_above b 2 3 z (omega arith) c s h.fourth) l.last)));
}

fourth_up : (z : ℕ) (b : Block) (p q r s : Tree) → AreShaped b p q r s → HasCode (child b 3) z → LeafOf z (child b 3) s → LeafOf z b (Inner p q r s)
fourth_up z b p q r s h c l = record {
  block = l.block;
  ids = l.ids;
  id = l.id;
  small = l.small;
  is_block = l.is_block;
  place = has_more (b, Inner p q r s) (all_places b p q r s) (l.block, Leaf l.ids)
      (Contains-append_right (places (child b 0) p) (places (child b 1) q ++ (places (child b 2) r ++ (places (child b 3) s))) (l.block, Leaf l.ids)
      (Contains-append_right (places (child b 1) q) (places (child b 2) r ++ (places (child b 3) s)) (l.block, Leaf l.ids)
      (Contains-append_right (places (child b 2) r) (places (child b 3) s) (l.block, Leaf l.ids) l.place)));
  code = l.code;
  last = (last_after (last_key z) (key_of l.block l.id) (keys (child b 0) p) (keys (child b 1) q ++ (keys (child b 2) r ++ (keys (child b 3) s)))
      (keys_below b 0 3 z (omega arith) c p h.first)
      (last_after (last_key z) (key_of l.block l.id) (keys (child b 1) q) (keys (child b 2) r ++ (keys (child b 3) s))
      (keys_below b 1 3 z (omega arith) c q h.second)
      (last_after (last_key z) (key_of l.block l.id) (keys (child b 2) r) (keys (child b 3) s) (keys_below b 2 3 z (omega arith) c r h.third) l.last)));
}

by_child : {X : Type 0} (b : Block) (z : ℕ) → Child b z → (HasCode (child b 0) z → X) → (HasCode (child b 1) z → X) → (HasCode (child b 2) z → X) → (HasCode (child b 3) z → X) → X
by_child b z (in_first c) f g h k = f c
by_child b z (in_second c) f g h k = g c
by_child b z (in_third c) f g h k = h c
by_child b z (in_fourth c) f g h k = k c

pub leaf_of : (z : ℕ) (b : Block) (t : Tree) → IsBlock b → HasCode b z → IsShaped b t → LeafOf z b t
leaf_of z b (Leaf ids) is code h =
    let end = leaf_ends b z ids h.0 code.from_first h.1.1 in record {
      block = b;
      ids = ids;
      id = end.id;
      small = end.small;
      is_block = is;
      place = (0, omega arith, refl);
      code = code;
      last = end.last;
    }
leaf_of z b (Inner p q r s) is code h =
    let four : AreShaped b p q r s = record { first = h.1.0; second = h.1.1.0; third = h.1.1.1.0; fourth = h.1.1.1.1 } in
    by_child b z (child_of b z h.0 code)
    (λ c. first_up z b p q r s four c (leaf_of z (child b 0) p (child_block b is h.0 0 (omega arith)) c h.1.0))
    (λ c. second_up z b p q r s four c (leaf_of z (child b 1) q (child_block b is h.0 1 (omega arith)) c h.1.1.0))
    (λ c. third_up z b p q r s four c (leaf_of z (child b 2) r (child_block b is h.0 2 (omega arith)) c h.1.1.1.0))
    (λ c. fourth_up z b p q r s four c (leaf_of z (child b 3) s (child_block b is h.0 3 (omega arith)) c h.1.1.1.1))
