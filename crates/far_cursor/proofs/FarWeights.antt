-- What a place gives weighs less than its block, so that a search ends.
use Rattle.std.proofs.Common.{◌≡◌, ℕ, zero, suc, ◌+◌, ◌-◌, ◌*◌, ◌^◌, ◌<◌, Bool, true, false, cond, List, [], ◌∷◌, ◌++◌, flat_map, sum_by, refl, sym, ap, ap₂, ◌∙◌, subst, arith, pow-suc, lit<}
use Rattle.std.specs.Ordering.{is_lt}
use Rattle.std.proofs.lemmas.List.Concat.{flat_map-append}
use Rattle.exact_frac.specs.Frac.{value_cmp}
use Rattle.exact_frac.specs.declared.frac.Frac.{Frac}
use Rattle.sand_base.specs.declared.TheConstants.{COORDINATE_BITS}
use Rattle.sand_base.specs.declared.point.Point.{Point}
use Rattle.sand_base.specs.declared.rough.Rough.{Rough}
use Rattle.sand_base.specs.declared.rough.Rough.TheVariants as rough
use Rattle.sand_base.specs.declared.goal.Goal.TheVariants as figure
use Rattle.sand_base.specs.declared.shape.Shape.TheVariants as shape
use Rattle.z_code.specs.declared.block.Block.{Block}
use Rattle.pmr_tree.specs.declared.listed.Listed.{Listed}
use Rattle.pmr_tree.specs.declared.listed.Node.{Node as Place}
use Rattle.pmr_tree.specs.declared.listed.Node.TheVariants as place
use Rattle.best_first.specs.Hierarchy.{FindsAlike}
use Rattle.best_first.specs.Item.{node_if_any, nodes_of}
use Rattle.best_first.specs.Steps.{AddsLess}
use Rattle.best_first.specs.declared.item.Item.{Item}
use Rattle.best_first.specs.declared.item.Item.TheVariants as item
use Rattle.best_first.proofs.Alikes.{alike_nodes}
use Rattle.rank_cursor.specs.Cursor.{block_weight}
use Rattle.far_cursor.specs.FarRanking.{key_from, far_exact, far_entry, far_place}

fives : (k n : ℕ) → 0 < k → n ≡ k * 5 → 4 * k < n
fives k n some e = omega arith

five_pow_pos : (n : ℕ) → 0 < 5 ^ n
five_pow_pos zero = lit< tt
five_pow_pos (suc n) = let some = five_pow_pos n in let e : 5 ^ suc n ≡ 5 ^ n * 5 = pow-suc 5 n in omega arith

exact_nodes : (leaf : Frac) (id : ℕ) (g : Frac) → nodes_of (far_exact leaf id g) ≡ []
exact_nodes leaf id g = go (is_lt (value_cmp g leaf))
  where
    go : (k : Bool) → nodes_of {N = Block} (cond k [] (item.Row g id 0 ∷ [])) ≡ []
    go true = refl
    go false = refl

entry_nodes : (goal : Point) (leaf : Frac) (id : ℕ) (l : Rough) → nodes_of (far_entry goal leaf id l) ≡ []
entry_nodes goal leaf id (rough.Bound r) = refl
entry_nodes goal leaf id (rough.Point p) = exact_nodes leaf id (key_from goal (figure.Shape (shape.Point p)))
entry_nodes goal leaf id (rough.Segment s) = exact_nodes leaf id (key_from goal (figure.Shape (shape.Segment s)))

list_nodes : (goal : Point) (leaf : Frac) (list : List Listed) → nodes_of (flat_map (λ l. far_entry goal leaf l.id l.rough) list) ≡ []
list_nodes goal leaf [] = refl
list_nodes goal leaf (l ∷ ls) =
    flat_map-append node_if_any (far_entry goal leaf l.id l.rough) (flat_map (λ l. far_entry goal leaf l.id l.rough) ls)
    ∙ ap₂ (λ (x : List Block) (y : List Block). x ++ y) (entry_nodes goal leaf l.id l.rough) (list_nodes goal leaf ls)

-- what a place gives weighs less than its block
place_weight : (goal : Point) (leaf : Frac) (b : Block) (found : Place) → (found ≡ place.Inner → b.level < COORDINATE_BITS)
    → sum_by block_weight (nodes_of (far_place goal leaf b found)) < block_weight b
place_weight goal leaf b place.Inner above =
    let level = above refl in
    let height : COORDINATE_BITS - b.level ≡ suc (COORDINATE_BITS - (b.level + 1)) = omega arith in
    let whole : 5 ^ (COORDINATE_BITS - b.level) ≡ 5 ^ (COORDINATE_BITS - (b.level + 1)) * 5 = ap (λ n. 5 ^ n) height ∙ pow-suc 5 (COORDINATE_BITS - (b.level + 1)) in
    let some = five_pow_pos (COORDINATE_BITS - (b.level + 1)) in
    let four = fives (5 ^ (COORDINATE_BITS - (b.level + 1))) (5 ^ (COORDINATE_BITS - b.level)) some whole in
    omega arith
place_weight goal leaf b (place.Leaf list) above =
    subst (λ ns. sum_by block_weight ns < block_weight b) (sym (list_nodes goal leaf list)) (five_pow_pos (COORDINATE_BITS - b.level))

pub found_falls : (goal : Point) (leaf : Frac) (b : Block) (found : Place) → (found ≡ place.Inner → b.level < COORDINATE_BITS) → (old new : List (Item Block))
    → FindsAlike (far_place goal leaf b found) old new → AddsLess block_weight b old new
found_falls goal leaf b found above old new h = record {
  added = h.found;
  adds = h.adds;
  less = subst (λ ns. sum_by block_weight ns < block_weight b) (sym (alike_nodes h.found (far_place goal leaf b found) h.alike)) (place_weight goal leaf b found above);
}
