-- An id comes to an inner place: its children grow one after another.
use Rattle.std.proofs.Common.{◌≡◌, ℕ, ◌+◌, ◌<◌, Bool, true, List, [], get_or, refl, sym, subst, arith}
use Rattle.sand_base.specs.declared.TheConstants.{COORDINATE_BITS}
use Rattle.z_code.specs.Block.{IsBlock, child, children_of}
use Rattle.z_code.specs.declared.block.Block.{Block}
use Rattle.sand_model.specs.Tree.{Tree}
use Rattle.pmr_tree.specs.Keys.{own}
use Rattle.pmr_tree.specs.Changes.{KeysStand, Becomes, grown_where, below_grown}
use Rattle.pmr_tree.specs.Leaves.{Passes, id_test, Told}
use Rattle.pmr_tree.specs.Listing.{Pair}
use Rattle.pmr_tree.proofs.Quarter.{child_block}
use Rattle.pmr_tree.proofs.Steps.{stands_0, stands_1, stands_2, stands_3, stands_sibling, becomes_four}
use Rattle.pmr_tree.proofs.LeafSteps.{becomes_grown_inner}

-- a change that begins and ends with the same keys by other names
pub becomes_from : (b : Block) (f : Tree → Tree) (k0 k1 k2 : List ℕ) → k1 ≡ k0 → Becomes b f k1 k2 → Becomes b f k0 k2
becomes_from b f k0 k1 k2 same h = subst (λ k. Becomes b f k k2) same h

-- the children of a place, as an array has them
pub at_child : (b : Block) (cs : List Block) (i : ℕ) (d : Block) (P : Block → Type 0) → cs ≡ children_of b → P (get_or cs i d) → P (get_or (children_of b) i d)
at_child b cs i d P is h = subst (λ t. P (get_or t i d)) is h

pub from_child : (b : Block) (cs : List Block) (i : ℕ) (d : Block) (P : Block → Type 0) → cs ≡ children_of b → P (get_or (children_of b) i d) → P (get_or cs i d)
from_child b cs i d P is h = subst (λ t. P (get_or t i d)) (sym is) h

pub grow_steps : (m : Block → ℕ → Bool) (n id : ℕ) (b : Block) (cs : List Block) (d0 d1 d2 d3 : Block) (k0 k1 k2 k3 k4 : List ℕ)
    → KeysStand b k0 → own b k0 ≡ [] → m b id ≡ true → cs ≡ children_of b
    → Becomes (get_or cs 0 d0) (grown_where m n id (get_or cs 0 d0)) k0 k1
    → Becomes (get_or cs 1 d1) (grown_where m n id (get_or cs 1 d1)) k1 k2
    → Becomes (get_or cs 2 d2) (grown_where m n id (get_or cs 2 d2)) k2 k3
    → Becomes (get_or cs 3 d3) (grown_where m n id (get_or cs 3 d3)) k3 k4
    → Becomes b (grown_where m n id b) k0 k4
grow_steps m n id b cs d0 d1 d2 d3 k0 k1 k2 k3 k4 stands none met is g0 g1 g2 g3 =
    becomes_grown_inner m n id b k0 k4 none met
    (becomes_four b (grown_where m n id (child b 0)) (grown_where m n id (child b 1)) (grown_where m n id (child b 2)) (grown_where m n id (child b 3)) k0 k1 k2 k3 k4
    (below_grown m n id b) (λ p q r s. refl) stands none
    (at_child b cs 0 d0 (λ x. Becomes x (grown_where m n id x) k0 k1) is g0)
    (at_child b cs 1 d1 (λ x. Becomes x (grown_where m n id x) k1 k2) is g1)
    (at_child b cs 2 d2 (λ x. Becomes x (grown_where m n id x) k2 k3) is g2)
    (at_child b cs 3 d3 (λ x. Becomes x (grown_where m n id x) k3 k4) is g3))

-- each child stands, after those before it have changed in some way
pub stands_first : (b : Block) (cs : List Block) (d0 : Block) (k0 : List ℕ) → cs ≡ children_of b → KeysStand b k0 → own b k0 ≡ [] → KeysStand (get_or cs 0 d0) k0
stands_first b cs d0 k0 is stands none = from_child b cs 0 d0 (λ x. KeysStand x k0) is (stands_0 b k0 stands none)

pub stands_second : (b : Block) (cs : List Block) (d0 d1 : Block) (f0 : Block → Tree → Tree) (k0 k1 : List ℕ) → cs ≡ children_of b → KeysStand b k0 → own b k0 ≡ []
    → Becomes (get_or cs 0 d0) (f0 (get_or cs 0 d0)) k0 k1 → KeysStand (get_or cs 1 d1) k1
stands_second b cs d0 d1 f0 k0 k1 is stands none g0 =
    from_child b cs 1 d1 (λ x. KeysStand x k1) is (stands_sibling b 0 1 (omega arith) (f0 (child b 0)) k0 k1 (at_child b cs 0 d0 (λ x. Becomes x (f0 x) k0 k1) is g0) (stands_1 b k0 stands none))

pub stands_third : (b : Block) (cs : List Block) (d0 d1 d2 : Block) (f0 f1 : Block → Tree → Tree) (k0 k1 k2 : List ℕ) → cs ≡ children_of b → KeysStand b k0 → own b k0 ≡ []
    → Becomes (get_or cs 0 d0) (f0 (get_or cs 0 d0)) k0 k1 → Becomes (get_or cs 1 d1) (f1 (get_or cs 1 d1)) k1 k2 → KeysStand (get_or cs 2 d2) k2
stands_third b cs d0 d1 d2 f0 f1 k0 k1 k2 is stands none g0 g1 =
    from_child b cs 2 d2 (λ x. KeysStand x k2) is
    (stands_sibling b 1 2 (omega arith) (f1 (child b 1)) k1 k2 (at_child b cs 1 d1 (λ x. Becomes x (f1 x) k1 k2) is g1)
    (stands_sibling b 0 2 (omega arith) (f0 (child b 0)) k0 k1 (at_child b cs 0 d0 (λ x. Becomes x (f0 x) k0 k1) is g0) (stands_2 b k0 stands none)))

pub stands_fourth : (b : Block) (cs : List Block) (d0 d1 d2 d3 : Block) (f0 f1 f2 : Block → Tree → Tree) (k0 k1 k2 k3 : List ℕ) → cs ≡ children_of b → KeysStand b k0 → own b k0 ≡ []
    → Becomes (get_or cs 0 d0) (f0 (get_or cs 0 d0)) k0 k1 → Becomes (get_or cs 1 d1) (f1 (get_or cs 1 d1)) k1 k2 → Becomes (get_or cs 2 d2) (f2 (get_or cs 2 d2)) k2 k3 → KeysStand (get_or cs 3 d3) k3
stands_fourth b cs d0 d1 d2 d3 f0 f1 f2 k0 k1 k2 k3 is stands none g0 g1 g2 =
    from_child b cs 3 d3 (λ x. KeysStand x k3) is
    (stands_sibling b 2 3 (omega arith) (f2 (child b 2)) k2 k3 (at_child b cs 2 d2 (λ x. Becomes x (f2 x) k2 k3) is g2)
    (stands_sibling b 1 3 (omega arith) (f1 (child b 1)) k1 k2 (at_child b cs 1 d1 (λ x. Becomes x (f1 x) k1 k2) is g1)
    (stands_sibling b 0 3 (omega arith) (f0 (child b 0)) k0 k1 (at_child b cs 0 d0 (λ x. Becomes x (f0 x) k0 k1) is g0) (stands_3 b k0 stands none))))

-- what was told is told still
pub told_later : (T U : (Block → ℕ → Bool) → (ℕ → Bool) → Type 0) (es fs : List Pair) (id : ℕ) → ((m : Block → ℕ → Bool) (has : ℕ → Bool) → T m has → U m has)
    → ((has : ℕ → Bool) → has id ≡ true → Passes (id_test has) es → Passes (id_test has) fs) → Told T es id → Told U fs id
told_later T U es fs id on kept h = record { meets = h.meets; has = h.has; told = on h.meets h.has h.told; listed = kept h.has h.one h.listed; one = h.one }

-- each child is a block one level lower
pub child_is_block : (b : Block) (cs : List Block) (i : ℕ) (d : Block) → cs ≡ children_of b → IsBlock b → b.level < COORDINATE_BITS → i < 4 → get_or (children_of b) i d ≡ child b i
    → IsBlock (get_or cs i d) × ((get_or cs i d).level ≡ b.level + 1)
child_is_block b cs i d is block up small e =
    from_child b cs i d (λ x. IsBlock x × (x.level ≡ b.level + 1)) is (subst (λ x. IsBlock x × (x.level ≡ b.level + 1)) (sym e) (child_block b block up i small, refl))

pub first_block : (b : Block) (cs : List Block) (d : Block) → cs ≡ children_of b → IsBlock b → b.level < COORDINATE_BITS → IsBlock (get_or cs 0 d) × ((get_or cs 0 d).level ≡ b.level + 1)
first_block b cs d is block up = child_is_block b cs 0 d is block up (omega arith) refl

pub second_block : (b : Block) (cs : List Block) (d : Block) → cs ≡ children_of b → IsBlock b → b.level < COORDINATE_BITS → IsBlock (get_or cs 1 d) × ((get_or cs 1 d).level ≡ b.level + 1)
second_block b cs d is block up = child_is_block b cs 1 d is block up (omega arith) refl

pub third_block : (b : Block) (cs : List Block) (d : Block) → cs ≡ children_of b → IsBlock b → b.level < COORDINATE_BITS → IsBlock (get_or cs 2 d) × ((get_or cs 2 d).level ≡ b.level + 1)
third_block b cs d is block up = child_is_block b cs 2 d is block up (omega arith) refl

pub fourth_block : (b : Block) (cs : List Block) (d : Block) → cs ≡ children_of b → IsBlock b → b.level < COORDINATE_BITS → IsBlock (get_or cs 3 d) × ((get_or cs 3 d).level ≡ b.level + 1)
fourth_block b cs d is block up = child_is_block b cs 3 d is block up (omega arith) refl
