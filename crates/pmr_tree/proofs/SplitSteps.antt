-- A split, step by step: the leaf is cleared, and its four quarters are planted one after another.
use Rattle.std.proofs.Common.{◌≡◌, ℕ, ◌<◌, Bool, List, get_or, refl, ◌∙◌, ap, ap₂}
use Rattle.std.specs.Prelude.{filter}
use Rattle.sand_base.specs.declared.TheConstants.{COORDINATE_BITS}
use Rattle.z_code.specs.Block.{child, children_of}
use Rattle.z_code.specs.declared.block.Block.{Block}
use Rattle.pmr_tree.specs.Lists.{put_all, take_all}
use Rattle.pmr_tree.specs.Keys.{leaf_keys}
use Rattle.pmr_tree.specs.Changes.{KeysStand, Becomes, IsOneMore, split_leaf}
use Rattle.pmr_tree.specs.Leaves.{HasLeafIds, ids_of}
use Rattle.pmr_tree.specs.Parts.{AreParts, with_parts}
use Rattle.pmr_tree.specs.declared.leaf.Kept.{Kept}
use Rattle.pmr_tree.specs.declared.part.Parts.{Parts}
use Rattle.pmr_tree.proofs.Entries.{ids_met}
use Rattle.pmr_tree.proofs.LeafSteps.{becomes_divided}

-- the same leaf by other names, planted beside the same keys
named : (x y : Block) → x ≡ y → (p q : List Kept) → p ≡ q → (ks js k : List ℕ) → ks ≡ js → k ≡ put_all (leaf_keys x (ids_of p)) ks → k ≡ put_all (leaf_keys y (ids_of q)) js
named x y e p q f ks js k same is = is ∙ ap₂ (λ z l. put_all (leaf_keys z (ids_of l)) ks) e f ∙ ap (put_all (leaf_keys y (ids_of q))) same

-- four leaves, planted one after another
pub four_planted : (b : Block) (cs : List Block) (d0 d1 d2 d3 : Block) (p q r s : List Kept) (parts : Parts) (k0 k1 k2 k3 k4 : List ℕ) → cs ≡ children_of b
    → p ≡ parts.first.items → q ≡ parts.second.items → r ≡ parts.third.items → s ≡ parts.fourth.items
    → k1 ≡ put_all (leaf_keys (get_or cs 0 d0) (ids_of p)) k0
    → k2 ≡ put_all (leaf_keys (get_or cs 1 d1) (ids_of q)) k1
    → k3 ≡ put_all (leaf_keys (get_or cs 2 d2) (ids_of r)) k2
    → k4 ≡ put_all (leaf_keys (get_or cs 3 d3) (ids_of s)) k3
    → k4 ≡ with_parts b parts k0
four_planted b cs d0 d1 d2 d3 p q r s parts k0 k1 k2 k3 k4 is fp fq fr fs e1 e2 e3 e4 =
    let h1 = named (get_or cs 0 d0) (child b 0) (ap (λ t. get_or t 0 d0) is) p parts.first.items fp k0 k0 k1 refl e1 in
    let h2 = named (get_or cs 1 d1) (child b 1) (ap (λ t. get_or t 1 d1) is) q parts.second.items fq k1 _ k2 h1 e2 in
    let h3 = named (get_or cs 2 d2) (child b 2) (ap (λ t. get_or t 2 d2) is) r parts.third.items fr k2 _ k3 h2 e3 in
    named (get_or cs 3 d3) (child b 3) (ap (λ t. get_or t 3 d3) is) s parts.fourth.items fs k3 _ k4 h3 e4

-- the keys of a part are those of the ids that meet
met_keys : (m : Block → ℕ → Bool) (c : Block) (list part : List Kept) → part ≡ filter (λ k. m c k.id) list → (ks : List ℕ)
    → put_all (leaf_keys c (ids_of part)) ks ≡ put_all (leaf_keys c (filter (m c) (ids_of list))) ks
met_keys m c list part are ks = ap (λ ids. put_all (leaf_keys c ids) ks) (ids_met (m c) list part are)

pub split_steps : (b : Block) (m : Block → ℕ → Bool) (list all : List Kept) (parts : Parts) (ks js k0 k4 : List ℕ)
    → KeysStand b ks → HasLeafIds b ks (ids_of list) → IsOneMore (ids_of list) (ids_of all) → b.level < COORDINATE_BITS → AreParts m b all parts
    → js ≡ ks → k0 ≡ take_all (leaf_keys b (ids_of list)) js → k4 ≡ with_parts b parts k0
    → Becomes b (split_leaf m b (ids_of all)) ks k4
split_steps b m list all parts ks js k0 k4 stands leaf one up are same e0 e4 =
    let k1 = put_all (leaf_keys (child b 0) (ids_of parts.first.items)) k0 in
    let k2 = put_all (leaf_keys (child b 1) (ids_of parts.second.items)) k1 in
    let k3 = put_all (leaf_keys (child b 2) (ids_of parts.third.items)) k2 in
    becomes_divided m b ks (ids_of list) (ids_of all) stands leaf one up k0 k1 k2 k3 k4 (e0 ∙ ap (take_all (leaf_keys b (ids_of list))) same)
    (met_keys m (child b 0) all parts.first.items are.first k0)
    (met_keys m (child b 1) all parts.second.items are.second k1)
    (met_keys m (child b 2) all parts.third.items are.third k2)
    (e4 ∙ met_keys m (child b 3) all parts.fourth.items are.fourth k3)
