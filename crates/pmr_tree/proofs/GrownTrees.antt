-- Growing a tree: what fits goes on to fit, and full trees stay full.
use Rattle.std.proofs.Common.{◌≡◌, ◌≢◌, ℕ, ◌<◌, ◌≤◌, Bool, true, false, cond, ◌&&◌, ◌||◌, List, [], ◌∷◌, length, refl, sym, ◌∙◌, ap, ap₂, subst, arith}
use Rattle.std.specs.Prelude.{filter, nat_lt}
use Rattle.std.proofs.lemmas.Bool.{false≢true}
use Rattle.std.proofs.lemmas.Bool.Decides.{nat_tests}
use Rattle.sand_base.specs.declared.TheConstants.{COORDINATE_BITS}
use Rattle.z_code.specs.Block.{IsBlock, child}
use Rattle.z_code.specs.declared.block.Block.{Block}
use Rattle.sand_model.specs.Tree.{Tree, Leaf, Inner, add, union, union_of_four, split, settled, grown, Fits, IsShallow, HasEnough, IsFull}
use Rattle.pmr_tree.specs.Lists.{Each, Above, RiseStrictly}
use Rattle.pmr_tree.specs.Changes.{Quarters, grown_where}
use Rattle.pmr_tree.proofs.AscendingLists.{holds, fails, test, each_add, each_filter, add_first, add_after, add_here, filter_add, filter_weaker, filter_same}
use Rattle.pmr_tree.proofs.AscendingLists.{rises_add, order, add_before}
use Rattle.pmr_tree.proofs.AscendingLists.{below, same, above}
use Rattle.pmr_tree.proofs.Quarter.{child_block}

-- a test of what meets
abbrev pub Met : Type 0
Met = Block → ℕ → Bool

pub less_true : (x y : ℕ) → nat_lt x y ≡ true → x < y
less_true x y h = grind (arith, nat_tests)

less_false : (x y : ℕ) → y ≤ x → nat_lt x y ≡ false
less_false x y h = grind (arith, nat_tests)

not_less : (x y : ℕ) → nat_lt x y ≡ false → y ≤ x
not_less x y h = grind (arith, nat_tests)

-- a shape that does not meet a square meets none of its quarters
or_false : (a b : Bool) → (a || b) ≡ false → (a ≡ false) × (b ≡ false)
or_false true b h = absurd (false≢true (sym h))
or_false false b h = (refl, h)

or_left : (a b : Bool) → a ≡ true → (a || b) ≡ true
or_left a b h = rw h refl

or_right : (a b : Bool) → b ≡ true → (a || b) ≡ true
or_right true b h = refl
or_right false b h = h

pub unmet_children : (m : Met) → Quarters m → (b : Block) (id : ℕ) → IsBlock b → b.level < COORDINATE_BITS → m b id ≡ false
    → (m (child b 0) id ≡ false) × ((m (child b 1) id ≡ false) × ((m (child b 2) id ≡ false) × (m (child b 3) id ≡ false)))
unmet_children m q b id block up h =
    let none = sym (q b id block up) ∙ h in
    let first = or_false (m (child b 0) id) (m (child b 1) id || (m (child b 2) id || m (child b 3) id)) none in
    let second = or_false (m (child b 1) id) (m (child b 2) id || m (child b 3) id) first.1 in
    let third = or_false (m (child b 2) id) (m (child b 3) id) second.1 in
    (first.0, (second.0, (third.0, third.1)))

-- a shape that meets a quarter meets the square
pub met_0 : (m : Met) → Quarters m → (b : Block) → IsBlock b → b.level < COORDINATE_BITS → (id : ℕ) → m (child b 0) id ≡ true → m b id ≡ true
met_0 m q b block up id h = q b id block up ∙ or_left (m (child b 0) id) (m (child b 1) id || (m (child b 2) id || m (child b 3) id)) h

pub met_1 : (m : Met) → Quarters m → (b : Block) → IsBlock b → b.level < COORDINATE_BITS → (id : ℕ) → m (child b 1) id ≡ true → m b id ≡ true
met_1 m q b block up id h = q b id block up ∙ or_right (m (child b 0) id) (m (child b 1) id || (m (child b 2) id || m (child b 3) id))
    (or_left (m (child b 1) id) (m (child b 2) id || m (child b 3) id) h)

pub met_2 : (m : Met) → Quarters m → (b : Block) → IsBlock b → b.level < COORDINATE_BITS → (id : ℕ) → m (child b 2) id ≡ true → m b id ≡ true
met_2 m q b block up id h = q b id block up ∙ or_right (m (child b 0) id) (m (child b 1) id || (m (child b 2) id || m (child b 3) id))
    (or_right (m (child b 1) id) (m (child b 2) id || m (child b 3) id) (or_left (m (child b 2) id) (m (child b 3) id) h))

pub met_3 : (m : Met) → Quarters m → (b : Block) → IsBlock b → b.level < COORDINATE_BITS → (id : ℕ) → m (child b 3) id ≡ true → m b id ≡ true
met_3 m q b block up id h = q b id block up ∙ or_right (m (child b 0) id) (m (child b 1) id || (m (child b 2) id || m (child b 3) id))
    (or_right (m (child b 1) id) (m (child b 2) id || m (child b 3) id) (or_right (m (child b 2) id) (m (child b 3) id) h))

-- four trees that are equal make equal inner places
inner_same : (p q r s p' q' r' s' : Tree) → p ≡ p' → q ≡ q' → r ≡ r' → s ≡ s' → Inner p q r s ≡ Inner p' q' r' s'
inner_same p q r s p' q' r' s' a b c d = cc

pub grown_outside : (m : Met) → Quarters m → (n id : ℕ) (b : Block) (t : Tree) → IsBlock b → IsShallow b t → m b id ≡ false → grown m n id b t ≡ t
grown_outside m q n id b (Leaf ids) block shallow h = rw h refl
grown_outside m q n id b (Inner p r s t) block shallow h =
    let up = less_true b.level COORDINATE_BITS shallow.0 in
    let none = unmet_children m q b id block up h in
    inner_same (grown m n id (child b 0) p) (grown m n id (child b 1) r) (grown m n id (child b 2) s) (grown m n id (child b 3) t) p r s t
    (grown_outside m q n id (child b 0) p (child_block b block up 0 (omega arith)) shallow.1.0 none.0)
    (grown_outside m q n id (child b 1) r (child_block b block up 1 (omega arith)) shallow.1.1.0 none.1.0)
    (grown_outside m q n id (child b 2) s (child_block b block up 2 (omega arith)) shallow.1.1.1.0 none.1.1.0)
    (grown_outside m q n id (child b 3) t (child_block b block up 3 (omega arith)) shallow.1.1.1.1 none.1.1.1)

-- only the children that a shape meets need be looked at
pub grown_where_same : (m : Met) → Quarters m → (n id : ℕ) (b : Block) (t : Tree) → IsBlock b → IsShallow b t → grown_where m n id b t ≡ grown m n id b t
grown_where_same m q n id b (Leaf ids) block shallow = refl
grown_where_same m q n id b (Inner p r s t) block shallow =
    let up = less_true b.level COORDINATE_BITS shallow.0 in
    elim (test (m b id)) [
      | holds h ↦ rw h (inner_same (grown_where m n id (child b 0) p) (grown_where m n id (child b 1) r) (grown_where m n id (child b 2) s) (grown_where m n id (child b 3) t)
          (grown m n id (child b 0) p) (grown m n id (child b 1) r) (grown m n id (child b 2) s) (grown m n id (child b 3) t)
          (grown_where_same m q n id (child b 0) p (child_block b block up 0 (omega arith)) shallow.1.0)
          (grown_where_same m q n id (child b 1) r (child_block b block up 1 (omega arith)) shallow.1.1.0)
          (grown_where_same m q n id (child b 2) s (child_block b block up 2 (omega arith)) shallow.1.1.1.0)
          (grown_where_same m q n id (child b 3) t (child_block b block up 3 (omega arith)) shallow.1.1.1.1))
      | fails h ↦ rw h (sym (grown_outside m q n id b (Inner p r s t) block shallow h))
    ]

-- the union of two filters of one list
each_union : (P : ℕ → Type 0) (xs ys : List ℕ) → Each P xs → Each P ys → Each P (union xs ys)
each_union P [] ys h k = k
each_union P (x ∷ xs) ys h k = each_add P x (union xs ys) h.0 (each_union P xs ys h.1 k)

union_cons : (x : ℕ) (xs ys : List ℕ) → Above x xs → union xs (x ∷ ys) ≡ x ∷ union xs ys
union_cons x [] ys h = refl
union_cons x (y ∷ xs) ys h = ap (add y) (union_cons x xs ys h.1) ∙ add_after y x (union xs ys) h.0

pub union_filters : (f g : ℕ → Bool) (xs : List ℕ) → RiseStrictly xs → union (filter f xs) (filter g xs) ≡ filter (λ x. f x || g x) xs
union_filters f g [] h = refl
union_filters f g (x ∷ xs) h =
    let more = union_filters f g xs h.1 in
    let F = filter f xs in
    let G = filter g xs in
    let over_f = each_filter (λ y. x < y) f xs h.0 in
    let over_g = each_filter (λ y. x < y) g xs h.0 in
    elim (test (f x)) [
      | holds a ↦ elim (test (g x)) [
        | holds b ↦ rw (a, b) (ap (add x) (union_cons x F G over_f) ∙ add_here x (union F G) ∙ ap (λ t. x ∷ t) more)
        | fails b ↦ rw (a, b) (add_first x (union F G) (each_union (λ y. x < y) F G over_f over_g) ∙ ap (λ t. x ∷ t) more)
      ]
      | fails a ↦ elim (test (g x)) [
        | holds b ↦ rw (a, b) (union_cons x F G over_f ∙ ap (λ t. x ∷ t) more)
        | fails b ↦ rw (a, b) more
      ]
    ]

each_of_all : {A : Type 0} (P : A → Type 0) → ((x : A) → P x) → (xs : List A) → Each P xs
each_of_all P f [] = tt
each_of_all P f (x ∷ xs) = (f x, each_of_all P f xs)

-- four leaves that fit have the ids of one leaf that fits together
pub union_fits : (m : Met) → Quarters m → (b : Block) → IsBlock b → b.level < COORDINATE_BITS → (rows p r s t : List ℕ) → RiseStrictly rows
    → Fits m rows b (Inner (Leaf p) (Leaf r) (Leaf s) (Leaf t)) → union_of_four p r s t ≡ filter (m b) rows
union_fits m q b block up rows p r s t rise fit =
    ap₂ union fit.0 (ap₂ union fit.1.0 (ap₂ union fit.1.1.0 fit.1.1.1))
    ∙ ap (λ u. union (filter (m (child b 0)) rows) (union (filter (m (child b 1)) rows) u)) (union_filters (m (child b 2)) (m (child b 3)) rows rise)
    ∙ ap (λ u. union (filter (m (child b 0)) rows) u) (union_filters (m (child b 1)) (λ x. m (child b 2) x || m (child b 3) x) rows rise)
    ∙ union_filters (m (child b 0)) (λ x. m (child b 1) x || (m (child b 2) x || m (child b 3) x)) rows rise
    ∙ filter_same (λ x. m (child b 0) x || (m (child b 1) x || (m (child b 2) x || m (child b 3) x))) (m b) rows
    (each_of_all (λ x. (m (child b 0) x || (m (child b 1) x || (m (child b 2) x || m (child b 3) x))) ≡ m b x) (λ x. sym (q b x block up)) rows)

-- four leaves of a leaf that fits fit
split_fits : (m : Met) → Quarters m → (b : Block) → IsBlock b → b.level < COORDINATE_BITS → (rows ids : List ℕ) → ids ≡ filter (m b) rows → Fits m rows b (split m b ids)
split_fits m q b block up rows ids fit = (
  ap (filter (m (child b 0))) fit ∙ filter_weaker (m b) (m (child b 0)) (met_0 m q b block up) rows,
  (
    ap (filter (m (child b 1))) fit ∙ filter_weaker (m b) (m (child b 1)) (met_1 m q b block up) rows,
    (
      ap (filter (m (child b 2))) fit ∙ filter_weaker (m b) (m (child b 2)) (met_2 m q b block up) rows,
      ap (filter (m (child b 3))) fit ∙ filter_weaker (m b) (m (child b 3)) (met_3 m q b block up) rows,
    ),
  ),
)

and_true : (a b : Bool) → (a && b) ≡ true → (a ≡ true) × (b ≡ true)
and_true true b h = (refl, h)
and_true false b h = absurd (false≢true h)

settled_fits : (m : Met) → Quarters m → (n : ℕ) (b : Block) → IsBlock b → (rows ids : List ℕ) → ids ≡ filter (m b) rows → Fits m rows b (settled m n b ids)
settled_fits m q n b block rows ids fit =
    elim (test (nat_lt n (length ids) && nat_lt b.level COORDINATE_BITS)) [
      | holds h ↦ rw h (split_fits m q b block (less_true b.level COORDINATE_BITS (and_true (nat_lt n (length ids)) (nat_lt b.level COORDINATE_BITS) h).1) rows ids fit)
      | fails h ↦ rw h fit
    ]

-- a tree that fits some rows fits them and one row more when it has grown by it
pub fits_grown : (m : Met) → Quarters m → (n id : ℕ) (rows : List ℕ) → RiseStrictly rows → (b : Block) (t : Tree) → IsBlock b → IsShallow b t → Fits m rows b t
    → Fits m (add id rows) b (grown m n id b t)
fits_grown m q n id rows rise b (Leaf ids) block shallow fit =
    let more = filter_add (m b) id rows rise in
    elim (test (m b id)) [
      | holds h ↦ rw h (settled_fits m q n b block (add id rows) (add id ids) (ap (add id) fit ∙ sym (more ∙ ap (λ c. cond c (add id (filter (m b) rows)) (filter (m b) rows)) h)))
      | fails h ↦ rw h (fit ∙ sym (more ∙ ap (λ c. cond c (add id (filter (m b) rows)) (filter (m b) rows)) h))
    ]
fits_grown m q n id rows rise b (Inner p r s t) block shallow fit =
    let up = less_true b.level COORDINATE_BITS shallow.0 in (
      fits_grown m q n id rows rise (child b 0) p (child_block b block up 0 (omega arith)) shallow.1.0 fit.0,
      (
        fits_grown m q n id rows rise (child b 1) r (child_block b block up 1 (omega arith)) shallow.1.1.0 fit.1.0,
        (
          fits_grown m q n id rows rise (child b 2) s (child_block b block up 2 (omega arith)) shallow.1.1.1.0 fit.1.1.0,
          fits_grown m q n id rows rise (child b 3) t (child_block b block up 3 (omega arith)) shallow.1.1.1.1 fit.1.1.1,
        ),
      ),
    )

-- four places that fit have enough where their block has
enough_fits : (m : Met) → Quarters m → (n : ℕ) (b : Block) → IsBlock b → b.level < COORDINATE_BITS → (rows : List ℕ) → RiseStrictly rows → (p r s t : Tree)
    → Fits m rows b (Inner p r s t) → n ≤ length (filter (m b) rows) → HasEnough n p r s t
enough_fits m q n b block up rows rise (Leaf p) (Leaf r) (Leaf s) (Leaf t) fit h =
    less_false (length (union_of_four p r s t)) n (subst (λ u. n ≤ length u) (sym (union_fits m q b block up rows p r s t rise fit)) h)
enough_fits m q n b block up rows rise (Inner p p' p'' p''') r s t fit h = tt
enough_fits m q n b block up rows rise (Leaf p) (Inner r r' r'' r''') s t fit h = tt
enough_fits m q n b block up rows rise (Leaf p) (Leaf r) (Inner s s' s'' s''') t fit h = tt
enough_fits m q n b block up rows rise (Leaf p) (Leaf r) (Leaf s) (Inner t t' t'' t''') fit h = tt

-- an inner place among the four is enough
pub enough_second : (n : ℕ) (p a b c d s t : Tree) → HasEnough n p (Inner a b c d) s t
enough_second n (Leaf p) a b c d s t = tt
enough_second n (Inner p p' p'' p''') a b c d s t = tt

pub enough_third : (n : ℕ) (p r a b c d t : Tree) → HasEnough n p r (Inner a b c d) t
enough_third n (Leaf p) (Leaf r) a b c d t = tt
enough_third n (Leaf p) (Inner r r' r'' r''') a b c d t = tt
enough_third n (Inner p p' p'' p''') r a b c d t = tt

pub enough_fourth : (n : ℕ) (p r s a b c d : Tree) → HasEnough n p r s (Inner a b c d)
enough_fourth n (Leaf p) (Leaf r) (Leaf s) a b c d = tt
enough_fourth n (Leaf p) (Leaf r) (Inner s s' s'' s''') a b c d = tt
enough_fourth n (Leaf p) (Inner r r' r'' r''') s a b c d = tt
enough_fourth n (Inner p p' p'' p''') r s a b c d = tt

length_filter_add : (f : ℕ → Bool) (id : ℕ) (rows : List ℕ) → RiseStrictly rows → length (filter f rows) ≤ length (filter f (add id rows))
length_filter_add f id rows rise =
    let more = filter_add f id rows rise in
    elim (test (f id)) [
      | holds h ↦ subst (λ u. length (filter f rows) ≤ length u) (sym (more ∙ ap (λ c. cond c (add id (filter f rows)) (filter f rows)) h)) (grows id (filter f rows))
      | fails h ↦ subst (λ u. length (filter f rows) ≤ length u) (sym (more ∙ ap (λ c. cond c (add id (filter f rows)) (filter f rows)) h)) (omega arith)
    ]
  where
    grows : (x : ℕ) (ys : List ℕ) → length ys ≤ length (add x ys)
    grows x [] = omega arith
    grows x (y ∷ ys) =
        elim (order x y) [
          | below l ↦ rw (add_before x y ys l) (omega arith)
          | same e ↦ subst (λ x. length (y ∷ ys) ≤ length (add x (y ∷ ys))) (sym e) (subst (λ t. length (y ∷ ys) ≤ length t) (sym (add_here y ys)) (omega arith))
          | above l ↦ rw (add_after x y ys l) (omega (arith, grows x ys))
        ]

-- a place has enough still when its children have grown
grown_enough : (m : Met) → Quarters m → (n id : ℕ) (b : Block) → IsBlock b → b.level < COORDINATE_BITS → (rows : List ℕ) → RiseStrictly rows → (p r s t : Tree)
    → Fits m rows b (Inner p r s t) → Fits m (add id rows) b (grown m n id b (Inner p r s t)) → HasEnough n p r s t
    → HasEnough n (grown m n id (child b 0) p) (grown m n id (child b 1) r) (grown m n id (child b 2) s) (grown m n id (child b 3) t)
grown_enough m q n id b block up rows rise (Leaf p) (Leaf r) (Leaf s) (Leaf t) fit fit' h =
    let before : n ≤ length (filter (m b) rows) = subst (λ u. n ≤ length u) (union_fits m q b block up rows p r s t rise fit) (not_less (length (union_of_four p r s t)) n h) in
    enough_fits m q n b block up (add id rows) (rises_add id rows rise) (grown m n id (child b 0) (Leaf p)) (grown m n id (child b 1) (Leaf r))
    (grown m n id (child b 2) (Leaf s)) (grown m n id (child b 3) (Leaf t)) fit'
    (omega (arith, before, length_filter_add (m b) id rows rise))
grown_enough m q n id b block up rows rise (Inner p p' p'' p''') r s t fit fit' h = tt
grown_enough m q n id b block up rows rise (Leaf p) (Inner r r' r'' r''') s t fit fit' h =
    enough_second n (grown m n id (child b 0) (Leaf p)) (grown m n id (child (child b 1) 0) r) (grown m n id (child (child b 1) 1) r')
    (grown m n id (child (child b 1) 2) r'') (grown m n id (child (child b 1) 3) r''') (grown m n id (child b 2) s) (grown m n id (child b 3) t)
grown_enough m q n id b block up rows rise (Leaf p) (Leaf r) (Inner s s' s'' s''') t fit fit' h =
    enough_third n (grown m n id (child b 0) (Leaf p)) (grown m n id (child b 1) (Leaf r)) (grown m n id (child (child b 2) 0) s) (grown m n id (child (child b 2) 1) s')
    (grown m n id (child (child b 2) 2) s'') (grown m n id (child (child b 2) 3) s''') (grown m n id (child b 3) t)
grown_enough m q n id b block up rows rise (Leaf p) (Leaf r) (Leaf s) (Inner t t' t'' t''') fit fit' h =
    enough_fourth n (grown m n id (child b 0) (Leaf p)) (grown m n id (child b 1) (Leaf r)) (grown m n id (child b 2) (Leaf s)) (grown m n id (child (child b 3) 0) t)
    (grown m n id (child (child b 3) 1) t') (grown m n id (child (child b 3) 2) t'') (grown m n id (child (child b 3) 3) t''')

-- what has just been split is full
settled_full : (m : Met) → Quarters m → (n : ℕ) (b : Block) → IsBlock b → (rows ids : List ℕ) → RiseStrictly rows → ids ≡ filter (m b) rows → IsFull n (settled m n b ids)
settled_full m q n b block rows ids rise fit =
    elim (test (nat_lt n (length ids) && nat_lt b.level COORDINATE_BITS)) [
      | holds h ↦
          (let tests = and_true (nat_lt n (length ids)) (nat_lt b.level COORDINATE_BITS) h in
          let up = less_true b.level COORDINATE_BITS tests.1 in
          let many : n < length ids = less_true n (length ids) tests.0 in
          let enough : n ≤ length (filter (m b) rows) = subst (λ u. n ≤ length u) fit (omega (arith, many)) in
          rw h (
            enough_fits m q n b block up rows rise (Leaf (filter (m (child b 0)) ids)) (Leaf (filter (m (child b 1)) ids)) (Leaf (filter (m (child b 2)) ids))
                (Leaf (filter (m (child b 3)) ids)) (split_fits m q b block up rows ids fit) enough,
            (tt, (tt, (tt, tt))),
          ))
      | fails h ↦ rw h tt
    ]

-- a full tree that fits stays full when it grows
pub full_grown : (m : Met) → Quarters m → (n id : ℕ) (rows : List ℕ) → RiseStrictly rows → (b : Block) (t : Tree) → IsBlock b → IsShallow b t → Fits m rows b t → IsFull n t
    → IsFull n (grown m n id b t)
full_grown m q n id rows rise b (Leaf ids) block shallow fit full =
    let more = filter_add (m b) id rows rise in
    elim (test (m b id)) [
      | holds h ↦ rw h (settled_full m q n b block (add id rows) (add id ids) (rises_add id rows rise)
          (ap (add id) fit ∙ sym (more ∙ ap (λ c. cond c (add id (filter (m b) rows)) (filter (m b) rows)) h)))
      | fails h ↦ rw h tt
    ]
full_grown m q n id rows rise b (Inner p r s t) block shallow fit full =
    let up = less_true b.level COORDINATE_BITS shallow.0 in (
      grown_enough m q n id b block up rows rise p r s t fit (fits_grown m q n id rows rise b (Inner p r s t) block shallow fit) full.0,
      (
        full_grown m q n id rows rise (child b 0) p (child_block b block up 0 (omega arith)) shallow.1.0 fit.0 full.1.0,
        (
          full_grown m q n id rows rise (child b 1) r (child_block b block up 1 (omega arith)) shallow.1.1.0 fit.1.0 full.1.1.0,
          (
            full_grown m q n id rows rise (child b 2) s (child_block b block up 2 (omega arith)) shallow.1.1.1.0 fit.1.1.0 full.1.1.1.0,
            full_grown m q n id rows rise (child b 3) t (child_block b block up 3 (omega arith)) shallow.1.1.1.1 fit.1.1.1 full.1.1.1.1,
          ),
        ),
      ),
    )
