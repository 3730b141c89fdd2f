-- The leaves of a quadtree lie side by side, so the leaf that has the next code is the next one.
use Rattle.std.proofs.Common.{◌≡◌, ◌⊎◌, ℕ, zero, suc, ◌+◌, ◌-◌, ◌*◌, ◌<◌, ◌≤◌, List, [], ◌∷◌, ◌++◌, length, refl, sym, ◌∙◌, ap, subst, inl, inr, arith, Bool, true, false, true≢false, slice_index_or}
use Rattle.std.specs.Prelude.{Contains}
use Rattle.std.proofs.lemmas.List.{append_assoc, append-nil}
use Rattle.sand_base.specs.declared.TheConstants.{COORDINATE_BITS}
use Rattle.z_code.proofs.Children.{quarter_count}
use Rattle.z_code.proofs.Powers.{four_pow, four_pow_pos}
use Rattle.z_code.specs.Block.{HasCode, child, code_count}
use Rattle.z_code.specs.declared.block.Block.{Block}
use Rattle.sand_model.specs.Tree.{Tree, Leaf, Inner, places, leaves, root_block, IsPlace}
use Rattle.pmr_tree.specs.Keys.{IsShaped}
use Rattle.statement_exec.specs.LeafWalk.{Leaves, AreSideBySide, Walked, AreFirst, code_end}

-- a block has codes
count_some : (level : ℕ) → 0 < code_count level
count_some level = rw (four_pow (COORDINATE_BITS - level)) (four_pow_pos (COORDINATE_BITS - level))

tiles_at : (a b c d : ℕ) (xs : Leaves) → a ≡ b → c ≡ d → AreSideBySide a xs c → AreSideBySide b xs d
tiles_at a b c d xs e k h = subst (λ (n : ℕ). AreSideBySide n xs d) e (subst (λ (n : ℕ). AreSideBySide a xs n) k h)

tiles_append : (a b c : ℕ) (xs ys : Leaves) → AreSideBySide a xs b → AreSideBySide b ys c → AreSideBySide a (xs ++ ys) c
tiles_append a b c [] ys h k = subst (λ (n : ℕ). AreSideBySide n ys c) (sym h) k
tiles_append a b c (x ∷ xs) ys h k = (h.0, tiles_append (a + code_count x.0.level) b c xs ys h.1 k)

-- the leaves of a tree are side by side over the codes of its block
pub tiles_tree : (b : Block) (t : Tree) → IsShaped b t → AreSideBySide b.z (leaves b t) (b.z + code_count b.level)
tiles_tree b (Leaf ids) h = (refl, refl)
tiles_tree b (Inner p q r s) h =
    let count : ℕ = code_count (b.level + 1) in
    let all : code_count b.level ≡ 4 * count = quarter_count b.level h.0 in
    let first : AreSideBySide b.z (leaves (child b 0) p) ((child b 1).z) =
    tiles_at ((child b 0).z) b.z ((child b 0).z + count) ((child b 1).z) (leaves (child b 0) p) (omega arith) (omega arith) (tiles_tree (child b 0) p h.1.0) in
    let second : AreSideBySide ((child b 1).z) (leaves (child b 1) q) ((child b 2).z) =
    tiles_at ((child b 1).z) ((child b 1).z) ((child b 1).z + count) ((child b 2).z) (leaves (child b 1) q) refl (omega arith) (tiles_tree (child b 1) q h.1.1.0) in
    let third : AreSideBySide ((child b 2).z) (leaves (child b 2) r) ((child b 3).z) =
    tiles_at ((child b 2).z) ((child b 2).z) ((child b 2).z + count) ((child b 3).z) (leaves (child b 2) r) refl (omega arith) (tiles_tree (child b 2) r h.1.1.1.0) in
    let fourth : AreSideBySide ((child b 3).z) (leaves (child b 3) s) (b.z + code_count b.level) =
    tiles_at ((child b 3).z) ((child b 3).z) ((child b 3).z + count) (b.z + code_count b.level) (leaves (child b 3) s) refl (omega (arith, all)) (tiles_tree (child b 3) s h.1.1.1.1) in
    tiles_append b.z ((child b 1).z) (b.z + code_count b.level) (leaves (child b 0) p) (leaves (child b 1) q ++ (leaves (child b 2) r ++ leaves (child b 3) s)) first
    (tiles_append ((child b 1).z) ((child b 2).z) (b.z + code_count b.level) (leaves (child b 1) q) (leaves (child b 2) r ++ leaves (child b 3) s) second
    (tiles_append ((child b 2).z) ((child b 3).z) (b.z + code_count b.level) (leaves (child b 2) r) (leaves (child b 3) s) third fourth))

-- the element is in the list
In : {A : Type 0} → A → List A → Type 0
In x [] = ⊥
In x (y ∷ ys) = (x ≡ y) ⊎ In x ys

in_append : {A : Type 0} (x : A) (xs ys : List A) → In x (xs ++ ys) → In x xs ⊎ In x ys
unfolding In
in_append x [] ys h = inr h
in_append x (z ∷ xs) ys (inl e) = inl (inl e)
in_append x (z ∷ xs) ys (inr h) = elim (in_append x xs ys h) [ inl k ↦ inl (inr k) | inr k ↦ inr k ]

in_before : {A : Type 0} (x : A) (xs ys : List A) → In x xs → In x (xs ++ ys)
unfolding In
in_before x [] ys h = absurd h
in_before x (z ∷ xs) ys (inl e) = inl e
in_before x (z ∷ xs) ys (inr h) = inr (in_before x xs ys h)

in_behind : {A : Type 0} (x : A) (xs ys : List A) → In x ys → In x (xs ++ ys)
unfolding In
in_behind x [] ys h = h
in_behind x (z ∷ xs) ys h = inr (in_behind x xs ys h)

contains_in : {A : Type 0} (x : A) (xs : List A) → Contains xs x → In x xs
unfolding In
contains_in x [] c = absurd (omega (arith, c.1))
contains_in {A} x (y ∷ ys) c = at (λ d. contains_in x ys d) c.0 c.1 c.2 where
  at : (Contains ys x → In x ys) → (k : ℕ) → k < length (y ∷ ys) → slice_index_or (y ∷ ys) k x ≡ x → (x ≡ y) ⊎ In x ys
  at next zero l e = inl (sym e)
  at next (suc k) l e = inr (next (k, omega (arith, l), e))

-- a place as a leaf
abbrev as_leaf : Block × Tree → Block × List ℕ
as_leaf (b, Leaf ids) = (b, ids)
as_leaf (b, Inner p q r s) = (b, [])

abbrev is_leaf : Block × Tree → Bool
is_leaf (b, Leaf ids) = true
is_leaf (b, Inner p q r s) = false

-- a place that is a leaf is one of the leaves
leaf_in : (b : Block) (t : Tree) (c : Block) (ids : List ℕ) → In (c, Leaf ids) (places b t) → In (c, ids) (leaves b t)
unfolding In
leaf_in b (Leaf listed) c ids (inl e) = inl (ap as_leaf e)
leaf_in b (Leaf listed) c ids (inr h) = absurd h
leaf_in b (Inner p q r s) c ids (inl e) = absurd (true≢false (ap is_leaf e))
leaf_in b (Inner p q r s) c ids (inr h) =
    let x : Block × Tree = (c, Leaf ids) in
    let leaf : Block × List ℕ = (c, ids) in
    let P : List (Block × Tree) = places (child b 0) p in
    let Q : List (Block × Tree) = places (child b 1) q in
    let R : List (Block × Tree) = places (child b 2) r in
    let S : List (Block × Tree) = places (child b 3) s in
    let p' : Leaves = leaves (child b 0) p in
    let q' : Leaves = leaves (child b 1) q in
    let r' : Leaves = leaves (child b 2) r in
    let s' : Leaves = leaves (child b 3) s in
    elim (in_append x P (Q ++ (R ++ S)) h) [
      | inl k ↦ in_before leaf p' (q' ++ (r' ++ s')) (leaf_in (child b 0) p c ids k)
      | inr k ↦ in_behind leaf p' (q' ++ (r' ++ s')) (elim (in_append x Q (R ++ S) k) [
        | inl l ↦ in_before leaf q' (r' ++ s') (leaf_in (child b 1) q c ids l)
        | inr l ↦ in_behind leaf q' (r' ++ s') (elim (in_append x R S l) [
          | inl m ↦ in_before leaf r' s' (leaf_in (child b 2) r c ids m)
          | inr m ↦ in_behind leaf r' s' (leaf_in (child b 3) s c ids m)
        ])
      ])
    ]

-- a leaf of a run ends before the run does, and begins behind its beginning

rises : (from to : ℕ) (xs : Leaves) → AreSideBySide from xs to → from ≤ to
rises from to [] h = let e : from ≡ to = h in omega (arith, e)
rises from to (x ∷ xs) h = let rest : from + code_count x.0.level ≤ to = rises (from + code_count x.0.level) to xs h.1 in omega (arith, rest)

ends_within : (from to : ℕ) (xs : Leaves) (leaf : Block × List ℕ) → AreSideBySide from xs to → In leaf xs → leaf.0.z + code_count leaf.0.level ≤ to
unfolding In
ends_within from to [] leaf h i = absurd i
ends_within from to (x ∷ xs) leaf h (inl e) =
    let z : leaf.0.z ≡ x.0.z = ap (λ (l : Block × List ℕ). l.0.z) e in
    let count : code_count leaf.0.level ≡ code_count x.0.level = ap (λ (l : Block × List ℕ). code_count l.0.level) e in
    let rest : from + code_count x.0.level ≤ to = rises (from + code_count x.0.level) to xs h.1 in
    omega (arith, z, count, rest, h.0)
ends_within from to (x ∷ xs) leaf h (inr i) = ends_within (from + code_count x.0.level) to xs leaf h.1 i

begins_within : (from to : ℕ) (xs : Leaves) (leaf : Block × List ℕ) → AreSideBySide from xs to → In leaf xs → from ≤ leaf.0.z
unfolding In
begins_within from to [] leaf h i = absurd i
begins_within from to (x ∷ xs) leaf h (inl e) = let z : leaf.0.z ≡ x.0.z = ap (λ (l : Block × List ℕ). l.0.z) e in omega (arith, z, h.0)
begins_within from to (x ∷ xs) leaf h (inr i) =
    let rest : from + code_count x.0.level ≤ leaf.0.z = begins_within (from + code_count x.0.level) to xs leaf h.1 i in omega (arith, rest)

-- the leaf that has the next code is the next one
next_leaf : (code to : ℕ) (visited rest : Leaves) (leaf : Block × List ℕ) → AreSideBySide 0 visited code → AreSideBySide code rest to → In leaf (visited ++ rest) → HasCode leaf.0 code
    → (more : Leaves) × ((rest ≡ leaf ∷ more) × ((leaf.0.z ≡ code) × AreSideBySide (code + code_count leaf.0.level) more to))
unfolding In
next_leaf code to visited rest leaf h k i at = elim (in_append leaf visited rest i) [
  | inl j ↦ let ends : leaf.0.z + code_count leaf.0.level ≤ code = ends_within 0 code visited leaf h j in absurd (omega (arith, ends, at.below_next))
  | inr j ↦ here rest k j
] where
  here : (rest : Leaves) → AreSideBySide code rest to → In leaf rest → (more : Leaves) × ((rest ≡ leaf ∷ more) × ((leaf.0.z ≡ code) × AreSideBySide (code + code_count leaf.0.level) more to))
  here [] k j = absurd j
  here (x ∷ xs) k (inl e) = (
    xs,
    (
      ap (λ (l : Block × List ℕ). l ∷ xs) (sym e),
      (ap (λ (l : Block × List ℕ). l.0.z) e ∙ k.0, subst (λ (l : Block × List ℕ). AreSideBySide (code + code_count l.0.level) xs to) (sym e) k.1),
    ),
  )
  here (x ∷ xs) k (inr j) =
      let begins : code + code_count x.0.level ≤ leaf.0.z = begins_within (code + code_count x.0.level) to xs leaf k.1 j in
      let some : 0 < code_count x.0.level = count_some x.0.level in
      absurd (omega (arith, begins, some, at.from_first))

-- the walk goes on by the leaf that has the next code
pub walked_on : (tree : Tree) (visited : Leaves) (code next : ℕ) (leaf : Block × List ℕ) → Walked (leaves root_block tree) visited code → HasCode leaf.0 code
    → IsPlace tree leaf.0 (Leaf leaf.1) → next ≡ leaf.0.z + code_count leaf.0.level → Walked (leaves root_block tree) (visited ++ leaf ∷ []) next
walked_on tree visited code next leaf w at place is =
    let all : Leaves = leaves root_block tree in
    let listed : In leaf all = leaf_in root_block tree leaf.0 leaf.1 (contains_in (leaf.0, Leaf leaf.1) (places root_block tree) place) in
    let found = next_leaf code code_end visited w.rest leaf w.before w.behind (subst (λ (xs : Leaves). In leaf xs) w.all_are listed) at in
    let more : Leaves = found.0 in
    let begins : leaf.0.z ≡ code = found.1.1.0 in
    let to : code + code_count leaf.0.level ≡ next = sym (is ∙ ap (λ (z : ℕ). z + code_count leaf.0.level) begins) in
    record {
      rest = more;
      all_are = w.all_are ∙ (ap (λ (xs : Leaves). visited ++ xs) found.1.0 ∙ sym (append_assoc visited (leaf ∷ []) more));
      before = tiles_append 0 code next visited (leaf ∷ []) w.before (begins, to);
      behind = subst (λ (n : ℕ). AreSideBySide n more code_end) to found.1.1.1;
    }

-- the walk begins at the first code
pub walk_begins : (tree : Tree) → IsShaped root_block tree → Walked (leaves root_block tree) [] 0
walk_begins tree h = record { rest = leaves root_block tree; all_are = refl; before = refl; behind = tiles_tree root_block tree h }

-- it has ended behind the last code
pub walk_ended : (all visited : Leaves) (code : ℕ) → Walked all visited code → code_end ≤ code → all ≡ visited
walk_ended all visited code w h = ended w.rest w.all_are w.behind where
  ended : (rest : Leaves) → all ≡ visited ++ rest → AreSideBySide code rest code_end → all ≡ visited
  ended [] e k = e ∙ append-nil visited
  ended (x ∷ xs) e k =
      let rest : code + code_count x.0.level ≤ code_end = rises (code + code_count x.0.level) code_end xs k.1 in
      let some : 0 < code_count x.0.level = count_some x.0.level in
      absurd (omega (arith, rest, some, h))

pub are_first : (all visited : Leaves) (code : ℕ) → Walked all visited code → AreFirst all visited
are_first all visited code w = record { rest = w.rest; all_are = w.all_are }
