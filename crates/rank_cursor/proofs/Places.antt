-- Places of a quadtree: each has a block of its own, by which it is found.
use Rattle.std.proofs.Common.{◌≡◌, ◌⊎◌, inl, inr, ⊎_elim, ℕ, zero, suc, ◌+◌, ◌<◌, ◌≤◌, Bool, true, false, cond, ◌&&◌, true≢false, List, [], ◌∷◌, ◌++◌, find, filter}
use Rattle.std.proofs.Common.{Contains, Option, None, Some, option_map, refl, sym, ap, ap₂, ◌∙◌, subst, arith}
use Rattle.std.specs.Prelude.{nat_eq}
use Rattle.std.proofs.lemmas.Bool.{ltb-true, eqb-true, eq-eqb}
use Rattle.std.proofs.lemmas.List.Elements.{Contains-append_left, Contains-append_right, Contains-append_cases}
use Rattle.sand_base.specs.declared.TheConstants.{COORDINATE_BITS}
use Rattle.z_code.specs.Block.{IsBlock, HasCode, child}
use Rattle.z_code.specs.declared.block.Block.{Block}
use Rattle.z_code.proofs.Blocks.{HasCode-first}
use Rattle.z_code.proofs.Children.{child_block, divided_codes}
use Rattle.sand_model.specs.Tree.{Tree, Leaf, Inner, places, leaves, root_block, Fits, IsShallow}
use Rattle.ring_geom.proofs.BlockLemmas.{root_is_block}
use Rattle.best_first.proofs.Bags.{here, there, cons_cases, none, only}
use Rattle.rank_cursor.specs.Ranking.{same_block, place_at}

-- ---- four children

-- the child of this number
abbrev pub pick : Tree → Tree → Tree → Tree → ℕ → Tree
pick p q s t zero = p
pick p q s t (suc zero) = q
pick p q s t (suc (suc zero)) = s
pick p q s t (suc (suc (suc n))) = t

-- what holds of each of four numbers
pub by_four : (P : ℕ → Type 0) → P 0 → P 1 → P 2 → P 3 → (i : ℕ) → i < 4 → P i
by_four P a b c d zero small = a
by_four P a b c d (suc zero) small = b
by_four P a b c d (suc (suc zero)) small = c
by_four P a b c d (suc (suc (suc zero))) small = d
by_four P a b c d (suc (suc (suc (suc n)))) small = absurd (omega arith)

-- a term of four lists in a row is one of a list of these
pub four_cases : {X : Type 0} (xs ys zs ws : List X) (x : X) → Contains (xs ++ (ys ++ (zs ++ ws))) x → Contains xs x ⊎ (Contains ys x ⊎ (Contains zs x ⊎ Contains ws x))
four_cases xs ys zs ws x h =
    ⊎_elim (λ a. inl a) (λ b. inr (⊎_elim (λ c. inl c) (λ d. inr (Contains-append_cases zs ws x d)) (Contains-append_cases ys (zs ++ ws) x b)))
    (Contains-append_cases xs (ys ++ (zs ++ ws)) x h)

-- a place at or below an inner one is it, or a place at or below a child
pub place_cases : (b : Block) (p q s t : Tree) (x : Block × Tree) → Contains (places b (Inner p q s t)) x
    → ((b, Inner p q s t) ≡ x) ⊎ ((i : ℕ) × (i < 4) × Contains (places (child b i) (pick p q s t i)) x)
place_cases b p q s t x h =
    ⊎_elim (λ e. inl e)
    (λ more. inr (⊎_elim (λ a. (0, omega arith, a))
    (λ m. ⊎_elim (λ a. (1, omega arith, a)) (λ n. ⊎_elim (λ a. (2, omega arith, a)) (λ a. (3, omega arith, a)) n) m)
    (four_cases (places (child b 0) p) (places (child b 1) q) (places (child b 2) s) (places (child b 3) t) x more)))
    (cons_cases (b, Inner p q s t) _ x h)

-- and what is below a child is below the place
pub place_below : (b : Block) (p q s t : Tree) (x : Block × Tree) (i : ℕ) → i < 4 → Contains (places (child b i) (pick p q s t i)) x
    → Contains (places b (Inner p q s t)) x
place_below b p q s t x i small h =
    let first = places (child b 0) p in
    let second = places (child b 1) q in
    let third = places (child b 2) s in
    let fourth = places (child b 3) t in
    there (b, Inner p q s t) _ x
    (by_four (λ j. Contains (places (child b j) (pick p q s t j)) x → Contains (first ++ (second ++ (third ++ fourth))) x)
    (λ a. Contains-append_left first (second ++ (third ++ fourth)) x a)
    (λ a. Contains-append_right first (second ++ (third ++ fourth)) x (Contains-append_left second (third ++ fourth) x a))
    (λ a. Contains-append_right first (second ++ (third ++ fourth)) x (Contains-append_right second (third ++ fourth) x (Contains-append_left third fourth x a)))
    (λ a. Contains-append_right first (second ++ (third ++ fourth)) x (Contains-append_right second (third ++ fourth) x (Contains-append_right third fourth x a)))
    i small h)

-- a place stands at or below itself
pub place_here : (b : Block) (tree : Tree) → Contains (places b tree) (b, tree)
place_here b (Leaf ids) = here (b, Leaf ids) []
place_here b (Inner p q s t) = here (b, Inner p q s t) _

-- what is below a place below a place is below it
pub place_more : (b : Block) (tree : Tree) (c : Block) (place : Tree) (x : Block × Tree) → Contains (places b tree) (c, place) → Contains (places c place) x
    → Contains (places b tree) x
place_more b (Leaf ids) c place x h g = subst (λ (y : Block × Tree). Contains (places y.0 y.1) x) (sym (only (b, Leaf ids) (c, place) h)) g
place_more b (Inner p q s t) c place x h g =
    ⊎_elim (λ e. subst (λ (y : Block × Tree). Contains (places y.0 y.1) x) (sym e) g)
    (λ (i, small, below). place_below b p q s t x i small
    (by_four (λ j. Contains (places (child b j) (pick p q s t j)) (c, place) → Contains (places (child b j) (pick p q s t j)) x)
    (λ k. place_more (child b 0) p c place x k g) (λ k. place_more (child b 1) q c place x k g)
    (λ k. place_more (child b 2) s c place x k g) (λ k. place_more (child b 3) t c place x k g) i small below))
    (place_cases b p q s t (c, place) h)

-- ---- blocks of places

-- The block of a place at or below a block, in a tree that is not too deep.
pub record IsInside (b c : Block) (place : Tree) : Type 0 where
  pub block : IsBlock c
  pub level : b.level ≤ c.level
  pub code : HasCode b c.z
  pub shallow : IsShallow c place

itself : (b : Block) (tree : Tree) → IsBlock b → IsShallow b tree → IsInside b b tree
itself b tree h shallow = record { block = h; level = omega arith; code = HasCode-first b; shallow = shallow }

wider : (b : Block) → b.level < COORDINATE_BITS → (c : Block) (place : Tree) (i : ℕ) → i < 4 → IsInside (child b i) c place → IsInside b c place
wider b above c place i small k =
    let deep : b.level + 1 ≤ c.level = k.level in record {
      block = k.block;
      level = omega arith;
      code = (divided_codes b above c.z).within i small k.code;
      shallow = k.shallow;
    }

pub inside : (b : Block) (tree : Tree) → IsBlock b → IsShallow b tree → (c : Block) (place : Tree) → Contains (places b tree) (c, place) → IsInside b c place
inside b (Leaf ids) h shallow c place at =
    subst (λ (x : Block × Tree). IsInside b x.0 x.1) (only (b, Leaf ids) (c, place) at) (itself b (Leaf ids) h shallow)
inside b (Inner p q s t) h shallow c place at =
    let above = ltb-true b.level COORDINATE_BITS shallow.0 in
    ⊎_elim (λ e. subst (λ (x : Block × Tree). IsInside b x.0 x.1) e (itself b (Inner p q s t) h shallow))
    (λ (i, small, below). wider b above c place i small
    (by_four (λ j. Contains (places (child b j) (pick p q s t j)) (c, place) → IsInside (child b j) c place)
    (λ k. inside (child b 0) p (child_block b h above 0 (omega arith)) shallow.1.0 c place k)
    (λ k. inside (child b 1) q (child_block b h above 1 (omega arith)) shallow.1.1.0 c place k)
    (λ k. inside (child b 2) s (child_block b h above 2 (omega arith)) shallow.1.1.1.0 c place k)
    (λ k. inside (child b 3) t (child_block b h above 3 (omega arith)) shallow.1.1.1.1 c place k) i small below))
    (place_cases b p q s t (c, place) at)

-- no place below a child has the block of the parent
not_above : (b c : Block) (place : Tree) (i : ℕ) → b ≡ c → IsInside (child b i) c place → ⊥
not_above b c place i e k =
    let deep : b.level + 1 ≤ c.level = k.level in
    let same : b.level ≡ c.level = ap (λ (d : Block). d.level) e in
    absurd (omega arith)

-- a block is that of one place
pub one_place : (b : Block) (tree : Tree) → IsBlock b → IsShallow b tree → (c : Block) (u v : Tree) → Contains (places b tree) (c, u) → Contains (places b tree) (c, v) → u ≡ v
one_place b (Leaf ids) h shallow c u v at other =
    ap (λ (x : Block × Tree). x.1) (sym (only (b, Leaf ids) (c, u) at) ∙ only (b, Leaf ids) (c, v) other)
one_place b (Inner p q s t) h shallow c u v at other =
    let above = ltb-true b.level COORDINATE_BITS shallow.0 in
    let within_child : (w : Tree) (i : ℕ) → i < 4 → Contains (places (child b i) (pick p q s t i)) (c, w) → IsInside (child b i) c w =
    λ w i small k.
    by_four (λ j. Contains (places (child b j) (pick p q s t j)) (c, w) → IsInside (child b j) c w)
    (inside (child b 0) p (child_block b h above 0 (omega arith)) shallow.1.0 c w)
    (inside (child b 1) q (child_block b h above 1 (omega arith)) shallow.1.1.0 c w)
    (inside (child b 2) s (child_block b h above 2 (omega arith)) shallow.1.1.1.0 c w)
    (inside (child b 3) t (child_block b h above 3 (omega arith)) shallow.1.1.1.1 c w) i small k in
    ⊎_elim
    (λ e. ⊎_elim
    (λ f. ap (λ (x : Block × Tree). x.1) (sym e ∙ f))
    (λ (j, little, low). absurd (not_above b c v j (ap (λ (x : Block × Tree). x.0) e) (within_child v j little low)))
    (place_cases b p q s t (c, v) other))
    (λ (i, small, below). ⊎_elim
    (λ f. absurd (not_above b c u i (ap (λ (x : Block × Tree). x.0) f) (within_child u i small below)))
    (λ (j, little, low).
    let same = (divided_codes b above c.z).one i j small little (within_child u i small below).code (within_child v j little low).code in
    by_four (λ k. Contains (places (child b k) (pick p q s t k)) (c, u) → Contains (places (child b k) (pick p q s t k)) (c, v) → u ≡ v)
    (one_place (child b 0) p (child_block b h above 0 (omega arith)) shallow.1.0 c u v)
    (one_place (child b 1) q (child_block b h above 1 (omega arith)) shallow.1.1.0 c u v)
    (one_place (child b 2) s (child_block b h above 2 (omega arith)) shallow.1.1.1.0 c u v)
    (one_place (child b 3) t (child_block b h above 3 (omega arith)) shallow.1.1.1.1 c u v) j little
    (subst (λ k. Contains (places (child b k) (pick p q s t k)) (c, u)) same below) low)
    (place_cases b p q s t (c, v) other))
    (place_cases b p q s t (c, u) at)

-- ---- a place is found by its block

pub both_true : (a b : Bool) → (a && b) ≡ true → (a ≡ true) × (b ≡ true)
both_true true true h = (refl, refl)
both_true true false h = absurd (true≢false (sym h))
both_true false b h = absurd (true≢false (sym h))

pub true_both : (a b : Bool) → a ≡ true → b ≡ true → (a && b) ≡ true
true_both true true h k = refl
true_both true false h k = absurd (true≢false (sym k))
true_both false b h k = absurd (true≢false (sym h))

pub same_block_is : (b c : Block) → same_block b c ≡ true → b ≡ c
same_block_is b c e =
    let h = both_true (nat_eq b.z c.z) (nat_eq b.level c.level) e in
    ap₂ (λ (z : ℕ) (level : ℕ). record { z = z; level = level }) (eqb-true b.z c.z h.0) (eqb-true b.level c.level h.1)

pub same_block_itself : (b : Block) → same_block b b ≡ true
same_block_itself b = true_both (nat_eq b.z b.z) (nat_eq b.level b.level) (eq-eqb b.z b.z refl) (eq-eqb b.level b.level refl)

-- what is found stands in the list and passes the test
found_step : {X : Type 0} (x : X) (xs : List X) (test : X → Bool) (y : X) → (find test xs ≡ Some y → Contains xs y × (test y ≡ true)) → (b : Bool) → test x ≡ b
    → cond b (Some x) (find test xs) ≡ Some y → Contains (x ∷ xs) y × (test y ≡ true)
found_step x xs test y rest true e f = let same = some_same x y f in (subst (Contains (x ∷ xs)) same (here x xs), ap test (sym same) ∙ e)
  where
    some_same : {X : Type 0} (x y : X) → Some x ≡ Some y → x ≡ y
    some_same {X} x y e = ap (λ (o : Option X). elim o as (λ _. X) [ None ↦ x | Some z ↦ z ]) e
found_step x xs test y rest false e f = let h = rest f in (there x xs y h.0, h.1)

pub found_is : {X : Type 0} (test : X → Bool) (xs : List X) (y : X) → find test xs ≡ Some y → Contains xs y × (test y ≡ true)
found_is {X} test [] y h = absurd (none_some y h)
  where
    none_some : {X : Type 0} (y : X) → None ≡ Some y → ⊥
    none_some {X} y e = absurd (true≢false (ap (λ (o : Option X). elim o as (λ _. Bool) [ None ↦ true | Some z ↦ false ]) e))
found_is test (x ∷ xs) y h = found_step x xs test y (found_is test xs y) (test x) refl h

-- where an element passes one is found
find_step : {X : Type 0} (x : X) (xs : List X) (test : X → Bool) → ((y : X) × (find test xs ≡ Some y)) ⊎ (test x ≡ true) → (b : Bool) → test x ≡ b
    → (y : X) × (cond b (Some x) (find test xs) ≡ Some y)
find_step x xs test rest true e = (x, refl)
find_step x xs test rest false e = ⊎_elim (λ h. h) (λ t. absurd (true≢false (sym t ∙ e))) rest

pub some_found : {X : Type 0} (test : X → Bool) (xs : List X) (x : X) → Contains xs x → test x ≡ true → (y : X) × (find test xs ≡ Some y)
some_found test [] x h e = absurd (none x h)
some_found test (z ∷ xs) x h e =
    find_step z xs test
    (⊎_elim (λ same. inr (ap test same ∙ e)) (λ more. inl (some_found test xs x more e)) (cons_cases z xs x h))
    (test z) refl

pub mapped_some : {X Y : Type 0} (f : X → Y) (o : Option X) (y : Y) → option_map f o ≡ Some y → (x : X) × (o ≡ Some x) × (f x ≡ y)
mapped_some {X} {Y} f None y h = absurd (true≢false (ap (λ (o : Option Y). elim o as (λ _. Bool) [ None ↦ true | Some z ↦ false ]) h))
mapped_some {X} {Y} f (Some x) y h = (x, refl, ap (λ (o : Option Y). elim o as (λ _. Y) [ None ↦ f x | Some z ↦ z ]) h)

-- what a look-up at a block gives is a place
pub place_is : (tree : Tree) (b : Block) (place : Tree) → place_at tree b ≡ Some place → Contains (places root_block tree) (b, place)
place_is tree b place h =
    let (x, found, is) = mapped_some (λ (y : Block × Tree). y.1) (find (λ (y : Block × Tree). same_block b y.0) (places root_block tree)) place h in
    let (at, same) = found_is (λ (y : Block × Tree). same_block b y.0) (places root_block tree) x found in
    subst (λ (y : Tree). Contains (places root_block tree) (b, y)) is
    (subst (λ (c : Block). Contains (places root_block tree) (c, x.1)) (sym (same_block_is b x.0 same)) at)

-- and each place is found
pub is_place : (tree : Tree) → IsShallow root_block tree → (b : Block) (place : Tree) → Contains (places root_block tree) (b, place) → place_at tree b ≡ Some place
is_place tree shallow b place at =
    let test : Block × Tree → Bool = λ (y : Block × Tree). same_block b y.0 in
    let (x, found) = some_found test (places root_block tree) (b, place) at (same_block_itself b) in
    let (other, same) = found_is test (places root_block tree) x found in
    let is = one_place root_block tree root_is_block shallow b x.1 place
    (subst (λ (c : Block). Contains (places root_block tree) (c, x.1)) (sym (same_block_is b x.0 same)) other) at in
    ap (option_map (λ (y : Block × Tree). y.1)) found ∙ ap (λ (u : Tree). Some u) is

-- ---- leaves

-- a leaf is a place
pub leaf_place : (b : Block) (tree : Tree) (c : Block) (ids : List ℕ) → Contains (leaves b tree) (c, ids) → Contains (places b tree) (c, Leaf ids)
leaf_place b (Leaf listed) c ids h =
    subst (λ (x : Block × List ℕ). Contains (places b (Leaf listed)) (x.0, Leaf x.1)) (only (b, listed) (c, ids) h) (here (b, Leaf listed) [])
leaf_place b (Inner p q s t) c ids h =
    ⊎_elim (λ a. place_below b p q s t (c, Leaf ids) 0 (omega arith) (leaf_place (child b 0) p c ids a))
    (λ m. ⊎_elim (λ a. place_below b p q s t (c, Leaf ids) 1 (omega arith) (leaf_place (child b 1) q c ids a))
    (λ n. ⊎_elim (λ a. place_below b p q s t (c, Leaf ids) 2 (omega arith) (leaf_place (child b 2) s c ids a))
    (λ a. place_below b p q s t (c, Leaf ids) 3 (omega arith) (leaf_place (child b 3) t c ids a)) n) m)
    (four_cases (leaves (child b 0) p) (leaves (child b 1) q) (leaves (child b 2) s) (leaves (child b 3) t) (c, ids) h)

-- and a place that is a leaf is one
pub place_leaf : (b : Block) (tree : Tree) (c : Block) (ids : List ℕ) → Contains (places b tree) (c, Leaf ids) → Contains (leaves b tree) (c, ids)
place_leaf b (Leaf listed) c ids h =
    subst (λ (x : Block × Tree). Contains {X = Block × List ℕ} ((b, listed) ∷ []) (x.0, elim x.1 as (λ _. List ℕ) [ Leaf l ↦ l | Inner p q s t ↦ [] ]))
    (only (b, Leaf listed) (c, Leaf ids) h) (here (b, listed) [])
place_leaf b (Inner p q s t) c ids h =
    let first = leaves (child b 0) p in
    let second = leaves (child b 1) q in
    let third = leaves (child b 2) s in
    let fourth = leaves (child b 3) t in
    ⊎_elim (λ e. absurd (true≢false (ap is_inner e)))
    (λ (i, small, below).
    by_four (λ j. Contains (places (child b j) (pick p q s t j)) (c, Leaf ids) → Contains (first ++ (second ++ (third ++ fourth))) (c, ids))
    (λ k. Contains-append_left first (second ++ (third ++ fourth)) (c, ids) (place_leaf (child b 0) p c ids k))
    (λ k. Contains-append_right first (second ++ (third ++ fourth)) (c, ids) (Contains-append_left second (third ++ fourth) (c, ids) (place_leaf (child b 1) q c ids k)))
    (λ k. Contains-append_right first (second ++ (third ++ fourth)) (c, ids)
    (Contains-append_right second (third ++ fourth) (c, ids) (Contains-append_left third fourth (c, ids) (place_leaf (child b 2) s c ids k))))
    (λ k. Contains-append_right first (second ++ (third ++ fourth)) (c, ids)
    (Contains-append_right second (third ++ fourth) (c, ids) (Contains-append_right third fourth (c, ids) (place_leaf (child b 3) t c ids k))))
    i small below)
    (place_cases b p q s t (c, Leaf ids) h)
  where
    is_inner : Block × Tree → Bool
    is_inner x = elim x.1 as (λ _. Bool) [ Leaf l ↦ false | Inner p q s t ↦ true ]

-- a leaf of a tree that fits lists exactly the ids that meet its square
pub leaf_fits : (meets : Block → ℕ → Bool) (ids : List ℕ) (b : Block) (tree : Tree) → Fits meets ids b tree → (c : Block) (listed : List ℕ)
    → Contains (places b tree) (c, Leaf listed) → listed ≡ filter (meets c) ids
leaf_fits meets ids b (Leaf here_listed) fits c listed h =
    subst (λ (x : Block × Tree). elim x.1 as (λ _. Type 0) [ Leaf l ↦ l ≡ filter (meets x.0) ids | Inner p q s t ↦ Unit {0} ]) (only (b, Leaf here_listed) (c, Leaf listed) h) fits
leaf_fits meets ids b (Inner p q s t) fits c listed h =
    ⊎_elim (λ e. absurd (true≢false (ap is_inner e)))
    (λ (i, small, below).
    by_four (λ j. Contains (places (child b j) (pick p q s t j)) (c, Leaf listed) → listed ≡ filter (meets c) ids)
    (leaf_fits meets ids (child b 0) p fits.0 c listed) (leaf_fits meets ids (child b 1) q fits.1.0 c listed)
    (leaf_fits meets ids (child b 2) s fits.1.1.0 c listed) (leaf_fits meets ids (child b 3) t fits.1.1.1 c listed) i small below)
    (place_cases b p q s t (c, Leaf listed) h)
  where
    is_inner : Block × Tree → Bool
    is_inner x = elim x.1 as (λ _. Bool) [ Leaf l ↦ false | Inner p q s t ↦ true ]
