-- The keys inside the block of a place are those of the tree below it.
use Rattle.std.proofs.Common.{◌≡◌, ℕ, zero, suc, ◌<◌, List, [], ◌∷◌, ◌++◌, length, subst, arith, slice_index_or}
use Rattle.std.specs.Prelude.{Contains}
use Rattle.z_code.specs.Block.{child}
use Rattle.z_code.specs.declared.block.Block.{Block}
use Rattle.sand_model.specs.Tree.{Tree, Leaf, Inner, places}
use Rattle.pmr_tree.specs.Lists.{Each}
use Rattle.pmr_tree.specs.Keys.{ReadsKeys}
use Rattle.pmr_tree.proofs.AscendingLists.{each_append}
use Rattle.pmr_tree.proofs.KeyLists.{reads_children}

-- what holds of each element holds of one that a list has
pub each_has : {A : Type 0} (P : A → Type 0) (xs : List A) (x : A) → Each P xs → Contains xs x → P x
each_has P [] x h c = absurd (omega (arith, c.1))
each_has {A} P (y ∷ ys) x h c = at (λ d. each_has P ys x h.1 d) c.0 c.1 c.2 where
  at : (Contains ys x → P x) → (k : ℕ) → k < length (y ∷ ys) → slice_index_or (y ∷ ys) k x ≡ x → P x
  at next zero l e = subst P e h.0
  at next (suc k) l e = next (k, omega (arith, l), e)

-- each place reads its own tree
pub each_place : (b : Block) (ks : List ℕ) (t : Tree) → ReadsKeys b ks t → Each (λ p. ReadsKeys p.0 ks p.1) (places b t)
each_place b ks (Leaf ids) r = (r, tt)
each_place b ks (Inner p q s t) r =
    let parts = reads_children b ks p q s t r in
    let P : Block × Tree → Type 0 = λ x. ReadsKeys x.0 ks x.1 in (
      r,
      each_append P (places (child b 0) p) (places (child b 1) q ++ (places (child b 2) s ++ places (child b 3) t)) (each_place (child b 0) ks p parts.first)
          (each_append P (places (child b 1) q) (places (child b 2) s ++ places (child b 3) t) (each_place (child b 1) ks q parts.second)
          (each_append P (places (child b 2) s) (places (child b 3) t) (each_place (child b 2) ks s parts.third) (each_place (child b 3) ks t parts.fourth))),
    )

pub place_reads : (b0 : Block) (ks : List ℕ) (tree : Tree) → ReadsKeys b0 ks tree → (b : Block) (place : Tree) → Contains (places b0 tree) (b, place) → ReadsKeys b ks place
place_reads b0 ks tree r b place c = each_has (λ p. ReadsKeys p.0 ks p.1) (places b0 tree) (b, place) (each_place b0 ks tree r) c
