-- The keys of a tree: where they lie, and what a list of keys says of the children of a block.
use Rattle.std.proofs.Common.{◌≡◌, ◌≢◌, ℕ, suc, ◌+◌, ◌*◌, ◌^◌, ◌<◌, ◌≤◌, Bool, true, false, List, [], ◌∷◌, ◌++◌, map, refl, sym, ◌∙◌, ap, ap₂, inl, inr, arith, append-nil}
use Rattle.std.specs.Prelude.{filter}
use Rattle.std.proofs.lemmas.Bool.{cases_lt}
use Rattle.std.proofs.lemmas.List.Elements.{filter-append}
use Rattle.std.proofs.Math.Nat.{mul-le-mul_right}
use Rattle.sand_base.specs.declared.TheConstants.{COORDINATE_BITS}
use Rattle.z_code.specs.Block.{code_count, child}
use Rattle.z_code.specs.declared.block.Block.{Block}
use Rattle.sand_model.specs.Tree.{Tree, Leaf, Inner}
use Rattle.pmr_tree.specs.Lists.{Each, RiseStrictly, is_from_to, part}
use Rattle.pmr_tree.specs.Keys.{key_of, mark_of, end_of, leaf_keys, keys, is_inside, keys_within, own, IsId, IsShaped, ReadsKeys}
use Rattle.pmr_tree.proofs.AscendingLists.{each_map, each_append, each_of_map, filter_all, filter_none, filter_weaker, rises_append}
use Rattle.pmr_tree.proofs.Orders.{cut, between_true, between_below, between_above, between_from, between_to}
use Rattle.pmr_tree.proofs.Quarter.{quarter_count, count_some}

-- where a key of the tree of a block lies
abbrev pub Lies : Block → ℕ → Type 0
Lies b k = (mark_of b ≤ k) × (k < end_of b)

mark_lies : (b : Block) → b.level ≤ COORDINATE_BITS → Lies b (mark_of b)
mark_lies b h = (omega arith, omega (arith, count_some b.level))

key_lies : (b : Block) → b.level ≤ COORDINATE_BITS → (id : ℕ) → IsId id → Lies b (key_of b id)
key_lies b h id i = (omega arith, omega (arith, count_some b.level, i.small))

leaf_lie : (b : Block) (ids : List ℕ) → b.level ≤ COORDINATE_BITS → Each IsId ids → Each (Lies b) (leaf_keys b ids)
leaf_lie b [] h e = (mark_lies b h, tt)
leaf_lie b (id ∷ ids) h e = each_of_map (Lies b) (key_of b) (id ∷ ids) (each_map IsId (λ x. Lies b (key_of b x)) (key_lies b h) (id ∷ ids) e)

-- a child's part of the keys lies in its block's
child_mark : (b : Block) (i : ℕ) → mark_of b + 2 ^ 32 ≤ mark_of (child b i)
child_mark b i = omega arith

child_end : (b : Block) → b.level < COORDINATE_BITS → (i : ℕ) → i < 4 → end_of (child b i) ≤ end_of b
child_end b h i small =
    let c = code_count (b.level + 1) in
    let before : i * c ≤ 3 * c = mul-le-mul_right c (omega arith) in
    omega (arith, before, quarter_count b.level h)

child_lie : (b : Block) → b.level < COORDINATE_BITS → (i : ℕ) → i < 4 → (ks : List ℕ) → Each (Lies (child b i)) ks → Each (Lies b) ks
child_lie b h i small ks = each_map (Lies (child b i)) (Lies b) (λ k l. (omega (arith, child_mark b i, l.0), omega (arith, child_end b h i small, l.1))) ks

pub keys_lie : (b : Block) (t : Tree) → IsShaped b t → Each (Lies b) (keys b t)
keys_lie b (Leaf ids) h = leaf_lie b ids h.0 h.1.1
keys_lie b (Inner p q r s) h =
    each_append (Lies b) (keys (child b 0) p) (keys (child b 1) q ++ (keys (child b 2) r ++ keys (child b 3) s))
    (child_lie b h.0 0 (omega arith) (keys (child b 0) p) (keys_lie (child b 0) p h.1.0))
    (each_append (Lies b) (keys (child b 1) q) (keys (child b 2) r ++ keys (child b 3) s)
    (child_lie b h.0 1 (omega arith) (keys (child b 1) q) (keys_lie (child b 1) q h.1.1.0))
    (each_append (Lies b) (keys (child b 2) r) (keys (child b 3) s)
    (child_lie b h.0 2 (omega arith) (keys (child b 2) r) (keys_lie (child b 2) r h.1.1.1.0))
    (child_lie b h.0 3 (omega arith) (keys (child b 3) s) (keys_lie (child b 3) s h.1.1.1.1))))

pub lies_inside : (b : Block) (k : ℕ) → Lies b k → is_inside b k ≡ true
lies_inside b k l = between_true (b.z * 2 ^ 40) (end_of b) k (omega (arith, l.0)) l.1

pub keys_inside : (b : Block) (t : Tree) → IsShaped b t → Each (λ k. is_inside b k ≡ true) (keys b t)
keys_inside b t h = each_map (Lies b) (λ k. is_inside b k ≡ true) (lies_inside b) (keys b t) (keys_lie b t h)

-- two children are apart
pub child_before : (b : Block) (i j : ℕ) → i < j → end_of (child b i) ≤ (child b j).z * 2 ^ 40
child_before b i j h =
    let c = code_count (b.level + 1) in
    let next : suc i * c ≤ j * c = mul-le-mul_right c h in
    omega (arith, next)

pub child_apart : (b : Block) (i j : ℕ) → i ≢ j → (k : ℕ) → is_inside (child b i) k ≡ true → is_inside (child b j) k ≡ false
child_apart b i j differ k h =
    let from = between_from ((child b i).z * 2 ^ 40) (end_of (child b i)) k h in
    let to = between_to ((child b i).z * 2 ^ 40) (end_of (child b i)) k h in
    elim (cases_lt i j) [
      | inl l ↦ between_below ((child b j).z * 2 ^ 40) (end_of (child b j)) k (omega (arith, child_before b i j l, to))
      | inr l ↦ (let less : j < i = omega arith in between_above ((child b j).z * 2 ^ 40) (end_of (child b j)) k (omega (arith, child_before b j i less, from)))
    ]

pub child_inside : (b : Block) → b.level < COORDINATE_BITS → (i : ℕ) → i < 4 → (k : ℕ) → is_inside (child b i) k ≡ true → is_inside b k ≡ true
child_inside b h i small k t =
    let from = between_from ((child b i).z * 2 ^ 40) (end_of (child b i)) k t in
    let to = between_to ((child b i).z * 2 ^ 40) (end_of (child b i)) k t in
    between_true (b.z * 2 ^ 40) (end_of b) k (omega (arith, from)) (omega (arith, to, child_end b h i small))

-- the ranges of the children follow one another
leaf_rise : (b : Block) (ids : List ℕ) → RiseStrictly ids → RiseStrictly (map (key_of b) ids)
leaf_rise b [] h = tt
leaf_rise b (id ∷ ids) h = (each_of_map (λ y. key_of b id < y) (key_of b) ids (each_map (λ x. id < x) (λ x. key_of b id < key_of b x) (λ x l. omega arith) ids h.0), leaf_rise b ids h.1)

keys_before : (b : Block) (i j : ℕ) → i < j → (t : Tree) → IsShaped (child b i) t → Each (λ k. k < (child b j).z * 2 ^ 40) (keys (child b i) t)
keys_before b i j l t h = each_map (Lies (child b i)) (λ k. k < (child b j).z * 2 ^ 40) (λ k a. omega (arith, a.1, child_before b i j l)) (keys (child b i) t) (keys_lie (child b i) t h)

keys_after : (b : Block) (i j : ℕ) → i ≤ j → (t : Tree) → IsShaped (child b j) t → Each (λ k. (child b i).z * 2 ^ 40 ≤ k) (keys (child b j) t)
keys_after b i j l t h =
    let c = code_count (b.level + 1) in
    let next : i * c ≤ j * c = mul-le-mul_right c l in
    each_map (Lies (child b j)) (λ k. (child b i).z * 2 ^ 40 ≤ k) (λ k a. omega (arith, a.0, next)) (keys (child b j) t) (keys_lie (child b j) t h)

pub keys_rise : (b : Block) (t : Tree) → IsShaped b t → RiseStrictly (keys b t)
keys_rise b (Leaf []) h = (tt, tt)
keys_rise b (Leaf (id ∷ ids)) h = leaf_rise b (id ∷ ids) h.1.0
keys_rise b (Inner p q r s) h =
    let after : (i : ℕ) → ℕ = λ i. (child b i).z * 2 ^ 40 in
    rises_append (after 1) (keys (child b 0) p) (keys (child b 1) q ++ (keys (child b 2) r ++ keys (child b 3) s)) (keys_rise (child b 0) p h.1.0)
    (rises_append (after 2) (keys (child b 1) q) (keys (child b 2) r ++ keys (child b 3) s) (keys_rise (child b 1) q h.1.1.0)
    (rises_append (after 3) (keys (child b 2) r) (keys (child b 3) s) (keys_rise (child b 2) r h.1.1.1.0) (keys_rise (child b 3) s h.1.1.1.1)
    (keys_before b 2 3 (omega arith) r h.1.1.1.0) (keys_after b 3 3 (omega arith) s h.1.1.1.1))
    (keys_before b 1 2 (omega arith) q h.1.1.0)
    (each_append (λ k. after 2 ≤ k) (keys (child b 2) r) (keys (child b 3) s) (keys_after b 2 2 (omega arith) r h.1.1.1.0) (keys_after b 2 3 (omega arith) s h.1.1.1.1)))
    (keys_before b 0 1 (omega arith) p h.1.0)
    (each_append (λ k. after 1 ≤ k) (keys (child b 1) q) (keys (child b 2) r ++ keys (child b 3) s) (keys_after b 1 1 (omega arith) q h.1.1.0)
    (each_append (λ k. after 1 ≤ k) (keys (child b 2) r) (keys (child b 3) s) (keys_after b 1 2 (omega arith) r h.1.1.1.0) (keys_after b 1 3 (omega arith) s h.1.1.1.1)))

-- a filter of four lists
four_parts : (f : ℕ → Bool) (p q r s : List ℕ) → filter f (p ++ (q ++ (r ++ s))) ≡ filter f p ++ (filter f q ++ (filter f r ++ filter f s))
four_parts f p q r s = filter-append f p (q ++ (r ++ s)) ∙ ap (λ t. filter f p ++ t) (filter-append f q (r ++ s) ∙ ap (λ t. filter f q ++ t) (filter-append f r s))

-- the keys of a child's tree, among those of the child and of another child
mine : (b : Block) (i : ℕ) (t : Tree) → IsShaped (child b i) t → keys_within (child b i) (keys (child b i) t) ≡ keys (child b i) t
mine b i t h = filter_all (is_inside (child b i)) (keys (child b i) t) (keys_inside (child b i) t h)

other : (b : Block) (i j : ℕ) → j ≢ i → (t : Tree) → IsShaped (child b j) t → keys_within (child b i) (keys (child b j) t) ≡ []
other b i j differ t h = filter_none (is_inside (child b i)) (keys (child b j) t)
    (each_map (λ k. is_inside (child b j) k ≡ true) (λ k. is_inside (child b i) k ≡ false) (child_apart b j i differ) (keys (child b j) t) (keys_inside (child b j) t h))

-- the keys inside a child are among those inside its block
narrowed : (b : Block) → b.level < COORDINATE_BITS → (i : ℕ) → i < 4 → (ks xs : List ℕ) → keys_within b ks ≡ xs → keys_within (child b i) ks ≡ keys_within (child b i) xs
narrowed b h i small ks xs e = sym (filter_weaker (is_inside b) (is_inside (child b i)) (child_inside b h i small) ks) ∙ ap (keys_within (child b i)) e

-- what the four children of an inner place have
pub record Parts (b : Block) (ks : List ℕ) (p q r s : Tree) : Type 0 where
  pub above : b.level < COORDINATE_BITS
  pub first : ReadsKeys (child b 0) ks p
  pub second : ReadsKeys (child b 1) ks q
  pub third : ReadsKeys (child b 2) ks r
  pub fourth : ReadsKeys (child b 3) ks s

pub reads_children : (b : Block) (ks : List ℕ) (p q r s : Tree) → ReadsKeys b ks (Inner p q r s) → Parts b ks p q r s
reads_children b ks p q r s h =
    let sh = h.shaped in
    let part_of : (i : ℕ) → i < 4 → keys_within (child b i) ks ≡ keys_within (child b i) (keys (child b 0) p)
    ++ (keys_within (child b i) (keys (child b 1) q) ++ (keys_within (child b i) (keys (child b 2) r) ++ keys_within (child b i) (keys (child b 3) s))) =
    λ i small. narrowed b sh.0 i small ks (keys b (Inner p q r s)) h.is ∙ four_parts (is_inside (child b i)) (keys (child b 0) p) (keys (child b 1) q) (keys (child b 2) r) (keys (child b 3) s) in
    record {
      above = sh.0;
      first = record {
        is = part_of 0 (omega arith) ∙ rw (
          mine b 0 p sh.1.0,
          other b 0 1 (omega arith) q sh.1.1.0,
          other b 0 2 (omega arith) r sh.1.1.1.0,
          other b 0 3 (omega arith) s sh.1.1.1.1,
        ) (append-nil (keys (child b 0) p));
        shaped = sh.1.0;
      };
      second = record {
        is = part_of 1 (omega arith) ∙ rw (
          other b 1 0 (omega arith) p sh.1.0,
          mine b 1 q sh.1.1.0,
          other b 1 2 (omega arith) r sh.1.1.1.0,
          other b 1 3 (omega arith) s sh.1.1.1.1,
        ) (append-nil (keys (child b 1) q));
        shaped = sh.1.1.0;
      };
      third = record {
        is = part_of 2 (omega arith) ∙ rw (
          other b 2 0 (omega arith) p sh.1.0,
          other b 2 1 (omega arith) q sh.1.1.0,
          mine b 2 r sh.1.1.1.0,
          other b 2 3 (omega arith) s sh.1.1.1.1,
        ) (append-nil (keys (child b 2) r));
        shaped = sh.1.1.1.0;
      };
      fourth = record {
        is = part_of 3 (omega arith) ∙ rw (other b 3 0 (omega arith) p sh.1.0, other b 3 1 (omega arith) q sh.1.1.0, other b 3 2 (omega arith) r sh.1.1.1.0, mine b 3 s sh.1.1.1.1) refl;
        shaped = sh.1.1.1.1;
      };
    }

pub reads_inner : (b : Block) (ks : List ℕ) (p q r s : Tree) → RiseStrictly ks → Parts b ks p q r s → ReadsKeys b ks (Inner p q r s)
reads_inner b ks p q r s rise h =
    let c = code_count (b.level + 1) in
    let at : ℕ → ℕ = λ i. (b.z + i * c) * 2 ^ 40 in
    let four = quarter_count b.level h.above in
    let low : b.z * 2 ^ 40 ≡ at 0 = omega arith in
    let high : end_of b ≡ at 4 = omega (arith, four) in
    let part_is : (i : ℕ) → keys_within (child b i) ks ≡ part (at i) (at (i + 1)) ks = λ i. (let e : end_of (child b i) ≡ at (i + 1) = omega arith in ap (λ t. part (at i) t ks) e) in
    let whole : keys_within b ks ≡ part (at 0) (at 4) ks = ap₂ (λ l u. part l u ks) low high in record {
      is = whole
          ∙ cut (at 0) (at 1) (at 4) (omega arith) (omega arith) ks rise
          ∙ ap₂ (λ x y. x ++ y) (sym (part_is 0) ∙ h.first.is)
          (cut (at 1) (at 2) (at 4) (omega arith) (omega arith) ks rise
          ∙ ap₂ (λ x y. x ++ y) (sym (part_is 1) ∙ h.second.is)
          (cut (at 2) (at 3) (at 4) (omega arith) (omega arith) ks rise
          ∙ ap₂ (λ x y. x ++ y) (sym (part_is 2) ∙ h.third.is) (sym (part_is 3) ∙ h.fourth.is)));
      shaped = (h.above, (h.first.shaped, (h.second.shaped, (h.third.shaped, h.fourth.shaped))));
    }

-- a block's own range lies inside it
own_inside : (b : Block) → b.level ≤ COORDINATE_BITS → (k : ℕ) → is_from_to (mark_of b) (mark_of b + 2 ^ 32) k ≡ true → is_inside b k ≡ true
own_inside b h k t =
    let from = between_from (mark_of b) (mark_of b + 2 ^ 32) k t in
    let to = between_to (mark_of b) (mark_of b + 2 ^ 32) k t in
    lies_inside b k (from, omega (arith, to, count_some b.level))

own_narrowed : (b : Block) → b.level ≤ COORDINATE_BITS → (ks xs : List ℕ) → keys_within b ks ≡ xs → own b ks ≡ own b xs
own_narrowed b h ks xs e = sym (filter_weaker (is_inside b) (is_from_to (mark_of b) (mark_of b + 2 ^ 32)) (own_inside b h) ks) ∙ ap (own b) e

leaf_own : (b : Block) (ids : List ℕ) → Each IsId ids → Each (λ k. is_from_to (mark_of b) (mark_of b + 2 ^ 32) k ≡ true) (leaf_keys b ids)
leaf_own b [] e = (between_true (mark_of b) (mark_of b + 2 ^ 32) (mark_of b) (omega arith) (omega arith), tt)
leaf_own b (id ∷ ids) e =
    each_of_map (λ k. is_from_to (mark_of b) (mark_of b + 2 ^ 32) k ≡ true) (key_of b) (id ∷ ids)
    (each_map IsId (λ x. is_from_to (mark_of b) (mark_of b + 2 ^ 32) (key_of b x) ≡ true)
    (λ x i. between_true (mark_of b) (mark_of b + 2 ^ 32) (key_of b x) (omega arith) (omega (arith, i.small))) (id ∷ ids) e)

-- a leaf's own keys are its keys, and an inner place has none of its own
pub own_leaf : (b : Block) (ks ids : List ℕ) → ReadsKeys b ks (Leaf ids) → own b ks ≡ leaf_keys b ids
own_leaf b ks ids h = own_narrowed b h.shaped.0 ks (leaf_keys b ids) h.is ∙ filter_all (is_from_to (mark_of b) (mark_of b + 2 ^ 32)) (leaf_keys b ids) (leaf_own b ids h.shaped.1.1)

child_own : (b : Block) (i : ℕ) (t : Tree) → IsShaped (child b i) t → own b (keys (child b i) t) ≡ []
child_own b i t h = filter_none (is_from_to (mark_of b) (mark_of b + 2 ^ 32)) (keys (child b i) t)
    (each_map (Lies (child b i)) (λ k. is_from_to (mark_of b) (mark_of b + 2 ^ 32) k ≡ false)
    (λ k l. between_above (mark_of b) (mark_of b + 2 ^ 32) k (omega (arith, l.0, child_mark b i))) (keys (child b i) t) (keys_lie (child b i) t h))

pub own_inner : (b : Block) (ks : List ℕ) (p q r s : Tree) → ReadsKeys b ks (Inner p q r s) → own b ks ≡ []
own_inner b ks p q r s h =
    let sh = h.shaped in
    own_narrowed b (omega (arith, sh.0)) ks (keys b (Inner p q r s)) h.is
    ∙ four_parts (is_from_to (mark_of b) (mark_of b + 2 ^ 32)) (keys (child b 0) p) (keys (child b 1) q) (keys (child b 2) r) (keys (child b 3) s)
    ∙ rw (child_own b 0 p sh.1.0, child_own b 1 q sh.1.1.0, child_own b 2 r sh.1.1.1.0, child_own b 3 s sh.1.1.1.1) refl
