-- An id leaves a leaf: its key goes, and a mark comes where no id is left.
use Rattle.std.proofs.Common.{◌≡◌, inl, inr, ℕ, ◌<◌, Bool, true, false, cond, not, List, [], ◌∷◌, length, map, refl, sym, ◌∙◌, ap, ap₂, subst, arith, get_or}
use Rattle.std.specs.Prelude.{nat_eq}
use Rattle.std.proofs.lemmas.Bool.Decides.{nat_tests}
use Rattle.z_code.specs.declared.block.Block.{Block}
use Rattle.sand_model.specs.Tree.{Tree, Leaf, Inner, add, without}
use Rattle.pmr_tree.specs.Lists.{RiseStrictly, put_all, take_all}
use Rattle.pmr_tree.specs.FirstIds.{IsUpTo, HasFirstIds}
use Rattle.pmr_tree.specs.Keys.{key_of, mark_of, leaf_keys, keys, is_inside, keys_within, outside, own, ids_in, IsId, IsShaped, ReadsKeys}
use Rattle.pmr_tree.specs.Changes.{KeysStand, Becomes, left, shrunk_where}
use Rattle.pmr_tree.specs.Leaves.{HasLeafIds, ids_of}
use Rattle.pmr_tree.specs.declared.leaf.Kept.{Kept}
use Rattle.pmr_tree.proofs.AscendingLists.{holds, fails, test, each_filter, filter_swap, rises_filter}
use Rattle.pmr_tree.proofs.Orders.{take_all_other}
use Rattle.pmr_tree.proofs.Entries.{leaf_is, leaf_all, length_ids}
use Rattle.pmr_tree.proofs.Unions.{up_to_few}
use Rattle.pmr_tree.proofs.LeafSteps.{key_inside}
use Rattle.pmr_tree.proofs.Steps.{becomes_refilled, becomes_same, becomes_as}

-- two keys of a leaf are one where their ids are
same_key : (b : Block) (x id : ℕ) → not (nat_eq (key_of b x) (key_of b id)) ≡ not (nat_eq x id)
same_key b x id =
    let go : (c d : Bool) → nat_eq (key_of b x) (key_of b id) ≡ c → nat_eq x id ≡ d → not c ≡ not d =
    elim [
      | true ↦ elim [ true ↦ λ e f. refl | false ↦ λ e f. absurd (apart (key_of b x) (key_of b id) x id e f (λ h. omega (arith, h))) ]
      | false ↦ elim [ true ↦ λ e f. absurd (apart x id (key_of b x) (key_of b id) f e (λ h. omega (arith, h))) | false ↦ λ e f. refl ]
    ] in
    go (nat_eq (key_of b x) (key_of b id)) (nat_eq x id) refl refl
  where
    apart : (k l x y : ℕ) → nat_eq k l ≡ true → nat_eq x y ≡ false → (k ≡ l → x ≡ y) → ⊥
    apart k l x y e f h =
        let is : k ≡ l = grind (arith, nat_tests) in
        let same : x ≡ y = h is in
        differ x y same f
      where
        differ : (x y : ℕ) → x ≡ y → nat_eq x y ≡ false → ⊥
        differ x y e f = grind (arith, nat_tests)

keys_without : (b : Block) (id : ℕ) (ids : List ℕ) → map (key_of b) (without id ids) ≡ without (key_of b id) (map (key_of b) ids)
keys_without b id [] = refl
keys_without b id (x ∷ xs) =
    let same = same_key b x id in
    elim (test (not (nat_eq x id))) [
      | holds h ↦ rw (same, h) (ap (λ t. key_of b x ∷ t) (keys_without b id xs))
      | fails h ↦ rw (same, h) (keys_without b id xs)
    ]

keeps_other : (x id : ℕ) → (x ≡ id → ⊥) → not (nat_eq x id) ≡ true
keeps_other x id h = grind (arith, nat_tests)

takes_same : (id : ℕ) → not (nat_eq id id) ≡ false
takes_same id = grind (arith, nat_tests)

-- of two ids and more one at least is left
some_left : (x y : ℕ) (zs : List ℕ) (id : ℕ) → x < y → (w : ℕ) × ((ws : List ℕ) × (without id (x ∷ y ∷ zs) ≡ w ∷ ws))
some_left x y zs id l =
    elim (test (not (nat_eq x id))) [
      | holds h ↦ (x, (without id (y ∷ zs), rw h refl))
      | fails h ↦ (let other : not (nat_eq y id) ≡ true = next x y id l h in (y, (without id zs, rw (h, other) refl)))
    ]
  where
    next : (x y id : ℕ) → x < y → not (nat_eq x id) ≡ false → not (nat_eq y id) ≡ true
    next x y id l h = grind (arith, nat_tests)

some_keys_of : (b : Block) (ys : List ℕ) (z : ℕ) (zs : List ℕ) → ys ≡ z ∷ zs → leaf_keys b ys ≡ map (key_of b) ys
some_keys_of b [] z zs e = cc
some_keys_of b (y ∷ ys) z zs e = refl

-- the keys of a leaf without an id, where it was not the only one
left_keys : (b : Block) (id : ℕ) → IsId id → (ids : List ℕ) → RiseStrictly ids → (ids ≡ id ∷ [] → ⊥) → leaf_keys b (without id ids) ≡ without (key_of b id) (leaf_keys b ids)
left_keys b id i [] rise more =
    let other : not (nat_eq (mark_of b) (key_of b id)) ≡ true = keeps_other (mark_of b) (key_of b id) (λ e. omega (arith, e, i.above_mark)) in
    rw other refl
left_keys b id i (x ∷ []) rise more =
    let other : not (nat_eq x id) ≡ true = keeps_other x id (λ e. more (ap (λ t. t ∷ []) e)) in
    let key = same_key b x id ∙ other in
    rw (other, key) refl
left_keys b id i (x ∷ y ∷ zs) rise more =
    let s = some_left x y zs id rise.0.0 in
    some_keys_of b (without id (x ∷ y ∷ zs)) s.0 s.1.0 s.1.1 ∙ keys_without b id (x ∷ y ∷ zs)

-- an id leaves, and others stay
left_more : (b : Block) (ks ids : List ℕ) (id : ℕ) → KeysStand b ks → HasLeafIds b ks ids → IsId id → (ids ≡ id ∷ [] → ⊥) → (new : List ℕ) → new ≡ without (key_of b id) ks → Becomes b (left id) ks new
left_more b ks ids id stands leaf i more new is =
    let e = leaf_is b ks ids stands.tree stands.reads leaf in
    let level = (subst (ReadsKeys b ks) e stands.reads).shaped.0 in
    let inside = key_inside b id level i in record {
      rises = subst RiseStrictly (sym is) (rises_filter (λ k. not (nat_eq k (key_of b id))) ks stands.rises);
      elsewhere = ap (outside b) is ∙ filter_swap (λ k. not (is_inside b k)) (λ k. not (nat_eq k (key_of b id))) ks ∙ take_all_other (is_inside b) (key_of b id ∷ []) ks (inside, tt);
      here = here;
    }
  where
    here : (t : Tree) → ReadsKeys b ks t → ReadsKeys b new (left id t)
    here t r =
        let e = leaf_is b ks ids t r leaf in
        let at = subst (ReadsKeys b ks) e r in
        subst (λ t. ReadsKeys b new (left id t)) (sym e) (record {
          is = ap (keys_within b) is
              ∙ filter_swap (is_inside b) (λ k. not (nat_eq k (key_of b id))) ks
              ∙ ap (without (key_of b id)) at.is
              ∙ sym (left_keys b id i ids at.shaped.1.0 more);
          shaped = (at.shaped.0, (rises_filter (λ other. not (nat_eq other id)) ids at.shaped.1.0, each_filter IsId (λ other. not (nat_eq other id)) ids at.shaped.1.1));
        })

-- the only id leaves, and a mark comes
left_last : (b : Block) (ks : List ℕ) (id : ℕ) → KeysStand b ks → HasLeafIds b ks (id ∷ []) → (new : List ℕ) → new ≡ add (mark_of b) (without (key_of b id) ks) → Becomes b (left id) ks new
left_last b ks id stands leaf new is = becomes_refilled b (left id) ks new stands.rises here stands where
  none : without id (id ∷ []) ≡ []
  none = rw (takes_same id) refl

  here : (t : Tree) → ReadsKeys b ks t → IsShaped b (left id t) × (new ≡ put_all (keys b (left id t)) (take_all (keys b t) ks))
  here t r =
      let e = leaf_is b ks (id ∷ []) t r leaf in
      let at = subst (ReadsKeys b ks) e r in
      subst (λ t. IsShaped b (left id t) × (new ≡ put_all (keys b (left id t)) (take_all (keys b t) ks))) (sym e)
      (subst (λ ids. IsShaped b (Leaf ids) × (new ≡ put_all (leaf_keys b ids) (take_all (leaf_keys b (id ∷ [])) ks))) (sym none) ((at.shaped.0, (tt, tt)), is))

-- the two ways in which an id leaves, as the first ids of the leaf tell them apart
pub last_left : (b : Block) (ks : List ℕ) (list : List Kept) (id key mark : ℕ) (mid new : List ℕ) → KeysStand b ks → HasFirstIds b 2 ks (ids_of list) → ids_of list ≡ id ∷ []
    → key ≡ key_of b id → mark ≡ mark_of b → mid ≡ without key ks → new ≡ add mark mid → Becomes b (left id) ks new
last_left b ks list id key mark mid new stands leaf only e f m n =
    let whole = up_to_few 2 (ids_in (own b ks)) (ids_of list) leaf.up_to (omega (arith, ap length only)) in
    left_last b ks id stands (subst (HasLeafIds b ks) (sym whole ∙ only) (leaf_all b 2 ks (ids_of list) leaf)) new (n ∙ ap₂ add f (m ∙ ap (λ x. without x ks) e))

pub others_left : (b : Block) (ks : List ℕ) (list : List Kept) (id key : ℕ) (new : List ℕ) → KeysStand b ks → HasFirstIds b 2 ks (ids_of list) → IsId id → (ids_of list ≡ id ∷ [] → ⊥)
    → key ≡ key_of b id → new ≡ without key ks → Becomes b (left id) ks new
others_left b ks list id key new stands leaf i more e n =
    left_more b ks (ids_in (own b ks)) id stands (leaf_all b 2 ks (ids_of list) leaf) i (several leaf.up_to) new (n ∙ ap (λ x. without x ks) e)
  where
    several : IsUpTo 2 (ids_in (own b ks)) (ids_of list) → ids_in (own b ks) ≡ id ∷ [] → ⊥
    several (inl is) only = more (is ∙ only)
    several (inr h) only = omega (arith, h.0, ap length only)

abbrev head_or : List ℕ → ℕ
head_or [] = 0
head_or (x ∷ xs) = x

-- a list of one id is that id alone
pub only_one : (list : List Kept) (id : ℕ) (d : Kept) → length list ≡ 1 → (get_or list 0 d).id ≡ id → ids_of list ≡ id ∷ []
only_one [] id d h e = absurd (omega (arith, h))
only_one (k ∷ []) id d h e = ap (λ t. t ∷ []) e
only_one (k ∷ l ∷ list) id d h e = absurd (omega (arith, h))

pub not_one : (list : List Kept) (id : ℕ) → (length list ≡ 1 → ⊥) → ids_of list ≡ id ∷ [] → ⊥
not_one list id h e = h (sym (length_ids list) ∙ ap length e)

pub not_this : (list : List Kept) (id : ℕ) (d : Kept) → length list ≡ 1 → ((get_or list 0 d).id ≡ id → ⊥) → ids_of list ≡ id ∷ [] → ⊥
not_this [] id d h n e = absurd (omega (arith, h))
not_this (k ∷ ks) id d h n e = n (head_of (ids_of (k ∷ ks)) id e) where
  head_of : (xs : List ℕ) (id : ℕ) → xs ≡ id ∷ [] → head_or xs ≡ id
  head_of xs id e = ap head_or e

-- what the shape does not meet stays
pub shrunk_unmet : (m : Block → ℕ → Bool) (n id : ℕ) (b : Block) (ks : List ℕ) → KeysStand b ks → m b id ≡ false → Becomes b (shrunk_where m n id b) ks ks
shrunk_unmet m n id b ks stands h = becomes_same b (shrunk_where m n id b) ks stands.rises (λ t r. same t) where
  same : (t : Tree) → t ≡ shrunk_where m n id b t
  same (Leaf ids) = rw h refl
  same (Inner p q r s) = rw h refl

-- a leaf that the shape meets loses the id
pub shrunk_leaf : (m : Block → ℕ → Bool) (n id : ℕ) (b : Block) (k0 k1 ids : List ℕ) → HasLeafIds b k0 ids → m b id ≡ true → Becomes b (left id) k0 k1 → Becomes b (shrunk_where m n id b) k0 k1
shrunk_leaf m n id b k0 k1 ids leaf h leave = becomes_as b (left id) (shrunk_where m n id b) k0 k1 same leave where
  same : (t : Tree) → ReadsKeys b k0 t → left id t ≡ shrunk_where m n id b t
  same t r =
      let e = leaf_is b k0 ids t r leaf in
      subst (λ t. left id t ≡ shrunk_where m n id b t) (sym e) (sym (ap (λ c. cond c (Leaf (without id ids)) (Leaf ids)) h))
