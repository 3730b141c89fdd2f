-- An id leaves a leaf that alone lists it, and the places above it merge as long as one does.
use Rattle.std.proofs.Common.{◌≡◌, ◌≢◌, ℕ, ◌+◌, ◌<◌, Bool, true, false, List, [], refl, sym, ap, inl, inr, subst, arith}
use Rattle.z_code.specs.Block.{IsBlock, HasCode, child}
use Rattle.z_code.specs.declared.block.Block.{Block}
use Rattle.z_code.proofs.Blocks.{same_block, HasCode-first}
use Rattle.sand_model.specs.Tree.{Tree, Leaf, Inner}
use Rattle.pmr_tree.specs.Lists.{RiseStrictly}
use Rattle.pmr_tree.specs.Keys.{IsShaped, ReadsKeys, own}
use Rattle.pmr_tree.specs.Changes.{KeysStand, Becomes, merging, shrunk_where, below_shrunk}
use Rattle.pmr_tree.specs.Starts.{IsLeafIn, MeetsAlone, HasLeaf}
use Rattle.pmr_tree.proofs.Begins.{apart_child, codes_in}
use Rattle.pmr_tree.proofs.KeyLists.{Parts, reads_children, own_inner}
use Rattle.pmr_tree.proofs.LeaveSteps.{shrunk_unmet}
use Rattle.pmr_tree.proofs.MergeSteps.{some_large, still_inner, shrunk_inner}
use Rattle.pmr_tree.proofs.Quarter.{child_block}
use Rattle.pmr_tree.proofs.Steps.{stands_sibling, stands_after, becomes_four}

-- The block is an inner place, and one of its children has the leaf: what this one makes of it, and what one that is inner keeps.
pub record Step (leaf b c : Block) (id : ℕ) (ks : List ℕ) : Type 0 where
  pub stands : KeysStand b ks
  pub none : own b ks ≡ []
  pub has : HasLeaf leaf c ks
  pub met : (m : Block → ℕ → Bool) → MeetsAlone m id leaf → m b id ≡ true
  pub up : (m : Block → ℕ → Bool) → MeetsAlone m id leaf → (n : ℕ) (new : List ℕ) → Becomes c (shrunk_where m n id c) ks new → Becomes b (below_shrunk m n id b) ks new
  pub kept : (n : ℕ) (new : List ℕ) → KeysStand b new → own b new ≡ [] → own c new ≡ [] → Becomes b (merging n) new new

stepped : (leaf b : Block) (id : ℕ) (ks : List ℕ) (p q r s : Tree) → IsBlock b → RiseStrictly ks → ReadsKeys b ks (Inner p q r s) → (c : Block) → IsBlock c → c.level ≡ b.level + 1 → HasCode c leaf.z
    → IsLeafIn b (Inner p q r s) leaf → Step leaf b c id ks
stepped leaf b id ks p q r s block rise reads c hc level code at =
    elim at [
      | inl a ↦
          from 0 (omega arith) p parts.first a
          (λ m h n new one.
          let u : (j : ℕ) → 0 ≢ j → j < 4 → m (child b j) id ≡ false = λ j differ small. beside m h 0 j differ small p parts.first.shaped a in
          let f = shrunk_where m n id (child b 0) in
          four m n new new new new one
          (after m n 0 1 (omega arith) f new one q parts.second (u 1 (omega arith) (omega arith)))
          (after m n 0 2 (omega arith) f new one r parts.third (u 2 (omega arith) (omega arith)))
          (after m n 0 3 (omega arith) f new one s parts.fourth (u 3 (omega arith) (omega arith))))
          (λ n new st no inner. some_large n b new new st no (inl (inl inner)) refl)
      | inr k ↦ elim k [
        | inl a ↦
            from 1 (omega arith) q parts.second a
            (λ m h n new one.
            let u : (j : ℕ) → 1 ≢ j → j < 4 → m (child b j) id ≡ false = λ j differ small. beside m h 1 j differ small q parts.second.shaped a in
            let f = shrunk_where m n id (child b 1) in
            four m n ks new new new
            (before m n 0 p parts.first (u 0 (omega arith) (omega arith))) one
            (after m n 1 2 (omega arith) f new one r parts.third (u 2 (omega arith) (omega arith)))
            (after m n 1 3 (omega arith) f new one s parts.fourth (u 3 (omega arith) (omega arith))))
            (λ n new st no inner. some_large n b new new st no (inr (inl (inl inner))) refl)
        | inr e ↦ elim e [
          | inl a ↦
              from 2 (omega arith) r parts.third a
              (λ m h n new one.
              let u : (j : ℕ) → 2 ≢ j → j < 4 → m (child b j) id ≡ false = λ j differ small. beside m h 2 j differ small r parts.third.shaped a in
              let f = shrunk_where m n id (child b 2) in
              four m n ks ks new new
              (before m n 0 p parts.first (u 0 (omega arith) (omega arith))) (before m n 1 q parts.second (u 1 (omega arith) (omega arith))) one
              (after m n 2 3 (omega arith) f new one s parts.fourth (u 3 (omega arith) (omega arith))))
              (λ n new st no inner. some_large n b new new st no (inr (inr (inl (inl inner)))) refl)
          | inr a ↦
              from 3 (omega arith) s parts.fourth a
              (λ m h n new one.
              let u : (j : ℕ) → 3 ≢ j → j < 4 → m (child b j) id ≡ false = λ j differ small. beside m h 3 j differ small s parts.fourth.shaped a in
              four m n ks ks ks new
              (before m n 0 p parts.first (u 0 (omega arith) (omega arith))) (before m n 1 q parts.second (u 1 (omega arith) (omega arith)))
              (before m n 2 r parts.third (u 2 (omega arith) (omega arith))) one)
              (λ n new st no inner. some_large n b new new st no (inr (inr (inr (inl inner)))) refl)
        ]
      ]
    ]
  where
    parts : Parts b ks p q r s
    parts = reads_children b ks p q r s reads

    stands : KeysStand b ks
    stands = record { rises = rise; tree = Inner p q r s; reads = reads }

    none : own b ks ≡ []
    none = own_inner b ks p q r s reads

    kid : (i : ℕ) → i < 4 → IsBlock (child b i)
    kid i small = child_block b block reads.shaped.0 i small

    -- a child beside that of the leaf
    beside : (m : Block → ℕ → Bool) → MeetsAlone m id leaf → (i j : ℕ) → i ≢ j → j < 4 → (t : Tree) → IsShaped (child b i) t → IsLeafIn (child b i) t leaf → m (child b j) id ≡ false
    beside m h i j differ small t sh a = h.alone (child b j) (kid j small) (apart_child b i j differ t sh leaf a)

    -- it stays as it is, before and after
    before : (m : Block → ℕ → Bool) (n j : ℕ) (t : Tree) → ReadsKeys (child b j) ks t → m (child b j) id ≡ false → Becomes (child b j) (shrunk_where m n id (child b j)) ks ks
    before m n j t x unmet = shrunk_unmet m n id (child b j) ks (record { rises = rise; tree = t; reads = x }) unmet

    after : (m : Block → ℕ → Bool) (n i j : ℕ) → i ≢ j → (f : Tree → Tree) (new : List ℕ) → Becomes (child b i) f ks new → (t : Tree) → ReadsKeys (child b j) ks t → m (child b j) id ≡ false
        → Becomes (child b j) (shrunk_where m n id (child b j)) new new
    after m n i j differ f new change t x unmet = shrunk_unmet m n id (child b j) new (stands_sibling b i j differ f ks new change (record { rises = rise; tree = t; reads = x })) unmet

    -- the four children one after another
    four : (m : Block → ℕ → Bool) (n : ℕ) (k0 k1 k2 new : List ℕ)
        → Becomes (child b 0) (shrunk_where m n id (child b 0)) ks k0
        → Becomes (child b 1) (shrunk_where m n id (child b 1)) k0 k1
        → Becomes (child b 2) (shrunk_where m n id (child b 2)) k1 k2
        → Becomes (child b 3) (shrunk_where m n id (child b 3)) k2 new
        → Becomes b (below_shrunk m n id b) ks new
    four m n k0 k1 k2 new g0 g1 g2 g3 =
        becomes_four b (shrunk_where m n id (child b 0)) (shrunk_where m n id (child b 1)) (shrunk_where m n id (child b 2))
        (shrunk_where m n id (child b 3)) ks k0 k1 k2 new (below_shrunk m n id b) (λ p q r s. refl) stands none g0 g1 g2 g3

    -- the child of the leaf is the one that has its first code
    from : (i : ℕ) → i < 4 → (t : Tree) → ReadsKeys (child b i) ks t → IsLeafIn (child b i) t leaf
        → ((m : Block → ℕ → Bool) → MeetsAlone m id leaf → (n : ℕ) (new : List ℕ) → Becomes (child b i) (shrunk_where m n id (child b i)) ks new → Becomes b (below_shrunk m n id b) ks new)
        → ((n : ℕ) (new : List ℕ) → KeysStand b new → own b new ≡ [] → own (child b i) new ≡ [] → Becomes b (merging n) new new)
        → Step leaf b c id ks
    from i small t x a up kept =
        let same : c ≡ child b i = same_block c (child b i) hc (kid i small) level leaf.z code (codes_in (child b i) t x.shaped leaf a leaf.z (HasCode-first leaf)) in
        subst (λ y. Step leaf b y id ks) (sym same) (record {
          stands = stands;
          none = none;
          has = record { rises = rise; tree = t; reads = x; at = a };
          met = λ m h. h.met b block (codes_in b (Inner p q r s) reads.shaped leaf at);
          up = up;
          kept = kept;
        })

-- the child with the first code of the leaf, where this is below the block
pub step_of : (leaf b c : Block) (id : ℕ) (ks : List ℕ) → HasLeaf leaf b ks → b.level < leaf.level → IsBlock b → IsBlock c → c.level ≡ b.level + 1 → HasCode c leaf.z → Step leaf b c id ks
step_of leaf b c id ks h below block hc level code = go h.tree h.reads h.at where
  go : (t : Tree) → ReadsKeys b ks t → IsLeafIn b t leaf → Step leaf b c id ks
  go (Leaf ids) reads at = absurd (omega (arith, below, ap (λ x. x.level) at))
  go (Inner p q r s) reads at = stepped leaf b id ks p q r s block h.rises reads c hc level code at

-- the child stands
pub child_stands : (leaf b c : Block) (id : ℕ) (ks : List ℕ) → Step leaf b c id ks → KeysStand c ks
child_stands leaf b c id ks h = record { rises = h.has.rises; tree = h.has.tree; reads = h.has.reads }

-- when it has shrunk, the block is an inner place still
pub block_stands : (leaf b c : Block) (id : ℕ) (ks : List ℕ) → Step leaf b c id ks → (m : Block → ℕ → Bool) → MeetsAlone m id leaf → (n : ℕ) (new : List ℕ)
    → Becomes c (shrunk_where m n id c) ks new → KeysStand b new
block_stands leaf b c id ks h m alone n new one = stands_after b (below_shrunk m n id b) ks new (h.up m alone n new one) h.stands

pub block_inner : (leaf b c : Block) (id : ℕ) (ks : List ℕ) → Step leaf b c id ks → (m : Block → ℕ → Bool) → MeetsAlone m id leaf → (n : ℕ) (new : List ℕ)
    → Becomes c (shrunk_where m n id c) ks new → own b new ≡ []
block_inner leaf b c id ks h m alone n new one =
    still_inner b (below_shrunk m n id b) (shrunk_where m n id (child b 0)) (shrunk_where m n id (child b 1)) (shrunk_where m n id (child b 2))
    (shrunk_where m n id (child b 3)) ks new (λ p q r s. refl) h.stands h.none (h.up m alone n new one)

-- where the child is an inner place then, nothing merges
pub block_kept : (leaf b c : Block) (id : ℕ) (ks : List ℕ) → Step leaf b c id ks → (m : Block → ℕ → Bool) → MeetsAlone m id leaf → (n : ℕ) (new : List ℕ)
    → Becomes c (shrunk_where m n id c) ks new → own c new ≡ []
    → Becomes b (shrunk_where m n id b) ks new
block_kept leaf b c id ks h m alone n new one inner =
    shrunk_inner m n id b ks new new h.none (h.met m alone) (h.up m alone n new one)
    (h.kept n new (block_stands leaf b c id ks h m alone n new one) (block_inner leaf b c id ks h m alone n new one) inner)

-- and else what merging leaves is the block that has shrunk
pub block_merged : (leaf b c : Block) (id : ℕ) (ks : List ℕ) → Step leaf b c id ks → (m : Block → ℕ → Bool) → MeetsAlone m id leaf → (n : ℕ) (mid new : List ℕ)
    → Becomes c (shrunk_where m n id c) ks mid
    → Becomes b (merging n) mid new → Becomes b (shrunk_where m n id b) ks new
block_merged leaf b c id ks h m alone n mid new one merge = shrunk_inner m n id b ks mid new h.none (h.met m alone) (h.up m alone n mid one) merge
