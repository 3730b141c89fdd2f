-- A tree that grows by ascending ids, one after another, is told by blocks: the law of a build of all rows at once.
use Rattle.std.proofs.Common.{◌≡◌, ℕ, zero, suc, ◌+◌, ◌<◌, ◌≤◌, Bool, true, false, cond, ◌&&◌, List, [], ◌∷◌, ◌++◌, length, take, refl, sym, ◌∙◌, ap, ap₂, arith}
use Rattle.std.specs.Prelude.{filter, nat_lt, max}
use Rattle.std.proofs.lemmas.Bool.Decides.{nat_tests}
use Rattle.std.proofs.lemmas.List.{append_assoc, append-nil}
use Rattle.sand_base.specs.declared.TheConstants.{COORDINATE_BITS}
use Rattle.z_code.specs.Block.{IsBlock, child}
use Rattle.z_code.specs.declared.block.Block.{Block}
use Rattle.sand_model.specs.Tree.{Tree, Leaf, Inner, split, settled, grown}
use Rattle.pmr_tree.specs.Changes.{Quarters}
use Rattle.pmr_tree.specs.Lists.{Each, RiseStrictly}
use Rattle.pmr_tree.proofs.AscendingLists.{holds, fails, test, each_append, each_filter, filter_weaker, add_last}
use Rattle.pmr_tree.proofs.GrownTrees.{met_0, met_1, met_2, met_3}
use Rattle.pmr_tree.proofs.Quarter.{child_block}
use Rattle.pmr_build.specs.Bulk.{grown_by, leaf_room, bulk}

-- a test of what meets
abbrev Met : Type 0
Met = Block → ℕ → Bool

-- each of these ids comes after all before it
abbrev pub Follows : List ℕ → List ℕ → Type 0
Follows there [] = Unit {0}
Follows there (x ∷ xs) = Each (λ y. y < x) there × Follows (there ++ x ∷ []) xs

-- ids follow fewer ids too
follows_fewer : (few many xs : List ℕ) → ((x : ℕ) → Each (λ y. y < x) many → Each (λ y. y < x) few) → Follows many xs → Follows few xs
follows_fewer few many [] h f = tt
follows_fewer few many (x ∷ xs) h f = (h x f.0, follows_fewer (few ++ x ∷ []) (many ++ x ∷ []) xs more f.1) where
  first : (z : ℕ) (ys : List ℕ) → Each (λ y. y < z) (ys ++ x ∷ []) → Each (λ y. y < z) ys × (x < z)
  first z [] k = (tt, k.0)
  first z (y ∷ ys) k = (let r = first z ys k.1 in ((k.0, r.0), r.1))

  more : (z : ℕ) → Each (λ y. y < z) (many ++ x ∷ []) → Each (λ y. y < z) (few ++ x ∷ [])
  more z k = (let r = first z many k in each_append (λ y. y < z) few (x ∷ []) (h z r.0) (r.1, tt))

-- ids that rise follow one another
pub rises_follow : (there ids : List ℕ) → Each (λ y. Each (λ x. y < x) ids) there → RiseStrictly ids → Follows there ids
rises_follow there [] h r = tt
rises_follow there (x ∷ ids) h r = (firsts there h, rises_follow (there ++ x ∷ []) ids (each_append (λ y. Each (λ z. y < z) ids) there (x ∷ []) (rests there h) (r.0, tt)) r.1) where
  firsts : (ys : List ℕ) → Each (λ y. Each (λ z. y < z) (x ∷ ids)) ys → Each (λ y. y < x) ys
  firsts [] k = tt
  firsts (y ∷ ys) k = (k.0.0, firsts ys k.1)

  rests : (ys : List ℕ) → Each (λ y. Each (λ z. y < z) (x ∷ ids)) ys → Each (λ y. Each (λ z. y < z) ids) ys
  rests [] k = tt
  rests (y ∷ ys) k = (k.0.1, rests ys k.1)

inner_same : (p q r s p' q' r' s' : Tree) → p ≡ p' → q ≡ q' → r ≡ r' → s ≡ s' → Inner p q r s ≡ Inner p' q' r' s'
inner_same p q r s p' q' r' s' a b c d = cc

-- blocks side by side don't touch each other
grown_by_inner : (m : Met) (n : ℕ) (b : Block) (ids : List ℕ) (p q r s : Tree)
    → grown_by m n b ids (Inner p q r s) ≡ Inner (grown_by m n (child b 0) ids p) (grown_by m n (child b 1) ids q) (grown_by m n (child b 2) ids r) (grown_by m n (child b 3) ids s)
grown_by_inner m n b [] p q r s = refl
grown_by_inner m n b (x ∷ ids) p q r s = grown_by_inner m n b ids (grown m n x (child b 0) p) (grown m n x (child b 1) q) (grown m n x (child b 2) r) (grown m n x (child b 3) s)

less_true : (x y : ℕ) → x < y → nat_lt x y ≡ true
less_true x y h = grind (arith, nat_tests)

less_false : (x y : ℕ) → y ≤ x → nat_lt x y ≡ false
less_false x y h = grind (arith, nat_tests)

-- a leaf takes an id that meets its square, and goes on as one where it isn't too full or is of the finest level
leaf_takes : (m : Met) (n : ℕ) (b : Block) (there : List ℕ) (x : ℕ) → m b x ≡ true → Each (λ y. y < x) there → grown m n x b (Leaf there) ≡ settled m n b (there ++ x ∷ [])
leaf_takes m n b there x met before = rw (met, add_last x there before) refl

leaf_stays : (m : Met) (n : ℕ) (b : Block) (ids : List ℕ) → length ids ≤ n → settled m n b ids ≡ Leaf ids
leaf_stays m n b ids few = rw (less_false n (length ids) few) refl

leaf_last : (m : Met) (n : ℕ) (b : Block) (ids : List ℕ) → b.level ≡ COORDINATE_BITS → settled m n b ids ≡ Leaf ids
leaf_last m n b ids last = rw (less_false b.level COORDINATE_BITS (omega (arith, last))) (both (nat_lt n (length ids))) where
  both : (c : Bool) → cond (c && false) (split m b ids) (Leaf ids) ≡ Leaf ids
  both true = refl
  both false = refl

leaf_splits : (m : Met) (n : ℕ) (b : Block) (ids : List ℕ) → n < length ids → b.level < COORDINATE_BITS → settled m n b ids ≡ split m b ids
leaf_splits m n b ids many up = rw (less_true n (length ids) many, less_true b.level COORDINATE_BITS up) refl

-- an id that doesn't meet the square leaves a leaf as it is
leaf_outside : (m : Met) (n : ℕ) (b : Block) (there : List ℕ) (x : ℕ) → m b x ≡ false → grown m n x b (Leaf there) ≡ Leaf there
leaf_outside m n b there x unmet = rw unmet refl

filter_met : (f : ℕ → Bool) (x : ℕ) (xs : List ℕ) → f x ≡ true → filter f (x ∷ xs) ≡ x ∷ filter f xs
filter_met f x xs h = rw h refl

filter_unmet : (f : ℕ → Bool) (x : ℕ) (xs : List ℕ) → f x ≡ false → filter f (x ∷ xs) ≡ filter f xs
filter_unmet f x xs h = rw h refl

-- the ids up to the one that divides a leaf
take_more : (there : List ℕ) (x : ℕ) (ys : List ℕ) → take (suc (length there)) (there ++ x ∷ ys) ≡ there ++ x ∷ []
take_more [] x ys = refl
take_more (y ∷ there) x ys = ap (λ t. y ∷ t) (take_more there x ys)

length_last : (there : List ℕ) (x : ℕ) → length (there ++ x ∷ []) ≡ suc (length there)
length_last [] x = refl
length_last (y ∷ there) x = ap suc (length_last there x)

longer : (there : List ℕ) (x : ℕ) (ys : List ℕ) → length there < length (there ++ x ∷ ys)
longer [] x ys = omega arith
longer (y ∷ there) x ys = omega (arith, longer there x ys)

pub filter_append : (f : ℕ → Bool) (xs ys : List ℕ) → filter f (xs ++ ys) ≡ filter f xs ++ filter f ys
filter_append f [] ys = refl
filter_append f (x ∷ xs) ys = elim (test (f x)) [
  | holds h ↦ rw h (ap (λ t. x ∷ t) (filter_append f xs ys))
  | fails h ↦ rw h (filter_append f xs ys)
]

-- the cases of the tree of a block, so that no later goal opens it
pub bulk_leaf : (m : Met) (n levels : ℕ) (b : Block) (most : ℕ) (ids : List ℕ) → length ids ≤ most → bulk m n levels b most ids ≡ Leaf ids
bulk_leaf m n zero b most ids few = refl
bulk_leaf m n (suc levels) b most ids few = rw (less_false most (length ids) few) refl

-- a child of a block that was divided, by the ids there when it was, and all
abbrev pub quarter : Met → ℕ → ℕ → Block → ℕ → List ℕ → Tree
quarter m n levels c most ids = bulk m n levels c (leaf_room m n c (take (suc most) ids)) (filter (m c) ids)

pub bulk_inner : (m : Met) (n levels : ℕ) (b : Block) (most : ℕ) (ids : List ℕ) → most < length ids
    → bulk m n (suc levels) b most ids
    ≡ Inner (quarter m n levels (child b 0) most ids) (quarter m n levels (child b 1) most ids) (quarter m n levels (child b 2) most ids) (quarter m n levels (child b 3) most ids)
bulk_inner m n levels b most ids many = rw (less_true most (length ids) many) refl

-- the law at one height
abbrev pub IsBulk : Met → ℕ → ℕ → Type 0
IsBulk m n levels = (b : Block) → IsBlock b → levels + b.level ≡ COORDINATE_BITS → (there more : List ℕ) → Follows there more
    → grown_by m n b more (Leaf there) ≡ bulk m n levels b (max n (length there)) (there ++ filter (m b) more)

-- at the finest level all stay in one leaf
last_is : (m : Met) (n : ℕ) → IsBulk m n zero
last_is m n b block level there [] f = ap Leaf (sym (append-nil there))
last_is m n b block level there (x ∷ xs) f = elim (test (m b x)) [
  | holds met ↦
      ap (grown_by m n b xs) (leaf_takes m n b there x met f.0 ∙ leaf_last m n b (there ++ x ∷ []) (omega (arith, level)))
      ∙ (last_is m n b block level (there ++ x ∷ []) xs f.1
      ∙ (ap Leaf (append_assoc there (x ∷ []) (filter (m b) xs) ∙ ap (λ t. there ++ t) (sym (filter_met (m b) x xs met)))))
  | fails unmet ↦
      ap (grown_by m n b xs) (leaf_outside m n b there x unmet)
      ∙ (last_is m n b block level there xs (follows_fewer there (there ++ x ∷ []) xs (λ z k. (front z there k)) f.1)
      ∙ ap (λ t. Leaf (there ++ t)) (sym (filter_unmet (m b) x xs unmet)))
]
  where
    front : (z : ℕ) (ys : List ℕ) → Each (λ y. y < z) (ys ++ x ∷ []) → Each (λ y. y < z) ys
    front z [] k = tt
    front z (y ∷ ys) k = (k.0, front z ys k.1)

-- a child that began with those of the ids that met it grows on as the law has it
quarter_is : (m : Met) (n levels : ℕ) → IsBulk m n levels → (b : Block) → IsBlock b → suc levels + b.level ≡ COORDINATE_BITS → (i : ℕ) → i < 4
    → ((x : ℕ) → m (child b i) x ≡ true → m b x ≡ true) → (there : List ℕ) (x : ℕ) (xs : List ℕ) → Follows (there ++ x ∷ []) xs
    → grown_by m n (child b i) xs (Leaf (filter (m (child b i)) (there ++ x ∷ []))) ≡ quarter m n levels (child b i) (length there) (there ++ x ∷ filter (m b) xs)
quarter_is m n levels law b block level i small narrow there x xs f =
    let c : Block = child b i in
    let begun : List ℕ = there ++ x ∷ [] in
    let ys : List ℕ = filter (m b) xs in
    let here = law c (child_block b block (omega (arith, level)) i small) (omega (arith, level)) (filter (m c) begun) xs
    (follows_fewer (filter (m c) begun) begun xs (λ z k. each_filter (λ y. y < z) (m c) begun k) f) in
    let most : max n (length (filter (m c) begun)) ≡ leaf_room m n c (take (suc (length there)) (there ++ x ∷ ys)) = ap (λ t. max n (length (filter (m c) t))) (sym (take_more there x ys)) in
    let all : filter (m c) begun ++ filter (m c) xs ≡ filter (m c) (there ++ x ∷ ys) =
    ap (λ t. filter (m c) begun ++ t) (sym (filter_weaker (m b) (m c) narrow xs)) ∙ (sym (filter_append (m c) begun ys) ∙ ap (filter (m c)) (append_assoc there (x ∷ []) ys)) in
    here ∙ ap₂ (λ k t. bulk m n levels c k t) most all

level_is : (m : Met) (n levels : ℕ) → Quarters m → IsBulk m n levels → IsBulk m n (suc levels)
level_is m n levels q law b block level there [] f =
    ap Leaf (sym (append-nil there)) ∙ sym (bulk_leaf m n (suc levels) b (max n (length there)) (there ++ []) (omega (arith, ap length (append-nil there))))
level_is m n levels q law b block level there (x ∷ xs) f = elim (test (m b x)) [
  | holds met ↦
      ap (grown_by m n b xs) (leaf_takes m n b there x met f.0)
      ∙ (elim (test (nat_lt n (suc (length there)))) [
        | holds many ↦ splits (below n (suc (length there)) many)
        | fails few ↦ stays (not_below n (suc (length there)) few) (level_is m n levels q law b block level (there ++ x ∷ []) xs f.1)
      ]
      ∙ ap (λ t. bulk m n (suc levels) b (max n (length there)) (there ++ t)) (sym (filter_met (m b) x xs met)))
  | fails unmet ↦
      ap (grown_by m n b xs) (leaf_outside m n b there x unmet)
      ∙ (level_is m n levels q law b block level there xs (follows_fewer there (there ++ x ∷ []) xs (λ z k. (front z there k)) f.1)
      ∙ ap (λ t. bulk m n (suc levels) b (max n (length there)) (there ++ t)) (sym (filter_unmet (m b) x xs unmet)))
]
  where
    begun : List ℕ
    begun = there ++ x ∷ []

    ys : List ℕ
    ys = filter (m b) xs

    up : b.level < COORDINATE_BITS
    up = omega (arith, level)

    below : (u v : ℕ) → nat_lt u v ≡ true → u < v
    below u v h = grind (arith, nat_tests)

    not_below : (u v : ℕ) → nat_lt u v ≡ false → v ≤ u
    not_below u v h = grind (arith, nat_tests)

    front : (z : ℕ) (zs : List ℕ) → Each (λ y. y < z) (zs ++ x ∷ []) → Each (λ y. y < z) zs
    front z [] k = tt
    front z (y ∷ zs) k = (k.0, front z zs k.1)

    stays : suc (length there) ≤ n → grown_by m n b xs (Leaf begun) ≡ bulk m n (suc levels) b (max n (length begun)) (begun ++ ys)
        → grown_by m n b xs (settled m n b begun) ≡ bulk m n (suc levels) b (max n (length there)) (there ++ x ∷ ys)
    stays few next =
        let long : length begun ≡ suc (length there) = length_last there x in
        let most : max n (length begun) ≡ max n (length there) = omega (arith, long, few) in
        ap (grown_by m n b xs) (leaf_stays m n b begun (omega (arith, long, few)))
        ∙ (next
        ∙ ap₂ (λ k t. bulk m n (suc levels) b k t) most (append_assoc there (x ∷ []) ys))

    child_is : (i : ℕ) → i < 4 → ((z : ℕ) → m (child b i) z ≡ true → m b z ≡ true)
        → grown_by m n (child b i) xs (Leaf (filter (m (child b i)) begun)) ≡ quarter m n levels (child b i) (length there) (there ++ x ∷ ys)
    child_is i small narrow = quarter_is m n levels law b block level i small narrow there x xs f.1

    splits : n < suc (length there) → grown_by m n b xs (settled m n b begun) ≡ bulk m n (suc levels) b (max n (length there)) (there ++ x ∷ ys)
    splits many =
        let long : length begun ≡ suc (length there) = length_last there x in
        let most : length there ≡ max n (length there) = omega (arith, many) in
        ap (grown_by m n b xs) (leaf_splits m n b begun (omega (arith, long, many)) up)
        ∙ (grown_by_inner m n b xs (Leaf (filter (m (child b 0)) begun)) (Leaf (filter (m (child b 1)) begun)) (Leaf (filter (m (child b 2)) begun)) (Leaf (filter (m (child b 3)) begun))
        ∙ (inner_same (grown_by m n (child b 0) xs (Leaf (filter (m (child b 0)) begun))) (grown_by m n (child b 1) xs (Leaf (filter (m (child b 1)) begun)))
        (grown_by m n (child b 2) xs (Leaf (filter (m (child b 2)) begun))) (grown_by m n (child b 3) xs (Leaf (filter (m (child b 3)) begun)))
        (quarter m n levels (child b 0) (length there) (there ++ x ∷ ys)) (quarter m n levels (child b 1) (length there) (there ++ x ∷ ys))
        (quarter m n levels (child b 2) (length there) (there ++ x ∷ ys)) (quarter m n levels (child b 3) (length there) (there ++ x ∷ ys))
        (child_is 0 (omega arith) (met_0 m q b block up)) (child_is 1 (omega arith) (met_1 m q b block up))
        (child_is 2 (omega arith) (met_2 m q b block up)) (child_is 3 (omega arith) (met_3 m q b block up))
        ∙ (sym (bulk_inner m n levels b (length there) (there ++ x ∷ ys) (longer there x ys))
        ∙ ap (λ k. bulk m n (suc levels) b k (there ++ x ∷ ys)) most)))

-- A block's tree that grows by ids, each after all before it, is told by blocks.
pub bulk_is : (m : Met) (n levels : ℕ) → Quarters m → IsBulk m n levels
bulk_is m n zero q = last_is m n
bulk_is m n (suc levels) q = level_is m n levels q (bulk_is m n levels q)
