-- What happens to a leaf: an id comes, the leaf splits, or nothing of its block changes.
use Rattle.std.proofs.Common.{◌≡◌, ℕ, ◌<◌, ◌≤◌, Bool, true, false, cond, not, ◌&&◌, List, [], ◌∷◌, ◌++◌, length, map, refl, sym, ◌∙◌, ap, ap₂, subst, arith}
use Rattle.std.specs.Prelude.{filter, nat_lt}
use Rattle.std.proofs.lemmas.Bool.Decides.{nat_tests}
use Rattle.sand_base.specs.declared.TheConstants.{COORDINATE_BITS}
use Rattle.z_code.specs.Block.{child}
use Rattle.z_code.specs.declared.block.Block.{Block}
use Rattle.sand_model.specs.Tree.{Tree, Leaf, Inner, add, without, split, settled}
use Rattle.pmr_tree.specs.Lists.{Each, RiseStrictly, put_all, take_all}
use Rattle.pmr_tree.specs.Keys.{key_of, mark_of, leaf_keys, keys, is_inside, keys_within, outside, own, ids_in, IsId, IsShaped, ReadsKeys}
use Rattle.pmr_tree.specs.Changes.{KeysStand, Becomes, grown_where, entered, split_leaf, below_grown, IsOneMore}
use Rattle.pmr_tree.specs.Leaves.{HasLeafIds, ids_of}
use Rattle.pmr_tree.specs.FirstIds.{HasFirstIds}
use Rattle.pmr_tree.specs.declared.leaf.Kept.{Kept}
use Rattle.pmr_tree.proofs.AscendingLists.{each_add, each_filter, filter_add, rises_add, rises_filter, put_all_append}
use Rattle.pmr_tree.proofs.Orders.{map_add, add_some, length_add}
use Rattle.pmr_tree.proofs.KeyLists.{lies_inside, own_leaf}
use Rattle.pmr_tree.proofs.Entries.{leaf_is, leaf_all, length_ids}
use Rattle.pmr_tree.proofs.Unions.{up_to_many, up_to_few}
use Rattle.pmr_tree.proofs.Steps.{becomes_refilled, becomes_same, becomes_as}
use Rattle.pmr_tree.proofs.Quarter.{count_some}

pub key_inside : (b : Block) (id : ℕ) → b.level ≤ COORDINATE_BITS → IsId id → is_inside b (key_of b id) ≡ true
key_inside b id h i = lies_inside b (key_of b id) (omega arith, omega (arith, count_some b.level, i.small))

some_keys : (b : Block) (ids : List ℕ) (id : ℕ) → leaf_keys b (add id ids) ≡ map (key_of b) (add id ids)
some_keys b ids id = let s = add_some id ids in go (add id ids) s.0 s.1.0 s.1.1 where
  go : (ys : List ℕ) (z : ℕ) (zs : List ℕ) → ys ≡ z ∷ zs → leaf_keys b ys ≡ map (key_of b) ys
  go [] z zs e = cc
  go (y ∷ ys) z zs e = refl

-- an id comes to an empty leaf, in place of its mark
pub entered_first : (b : Block) (ks : List ℕ) (id : ℕ) → KeysStand b ks → HasLeafIds b ks [] → IsId id → (new : List ℕ) → new ≡ add (key_of b id) (without (mark_of b) ks)
    → Becomes b (entered id) ks new
entered_first b ks id stands leaf i new is = becomes_refilled b (entered id) ks new stands.rises here stands where
  here : (t : Tree) → ReadsKeys b ks t → IsShaped b (entered id t) × (new ≡ put_all (keys b (entered id t)) (take_all (keys b t) ks))
  here t r =
      let e = leaf_is b ks [] t r leaf in
      let at = subst (ReadsKeys b ks) e r in
      subst (λ t. IsShaped b (entered id t) × (new ≡ put_all (keys b (entered id t)) (take_all (keys b t) ks))) (sym e)
      ((at.shaped.0, ((tt, tt), (i, tt))), is)

-- an id comes to a leaf that has ids
pub entered_more : (b : Block) (ks : List ℕ) (x : ℕ) (xs : List ℕ) (id : ℕ) → KeysStand b ks → HasLeafIds b ks (x ∷ xs) → IsId id → (new : List ℕ) → new ≡ add (key_of b id) ks
    → Becomes b (entered id) ks new
entered_more b ks x xs id stands leaf i new is =
    let e = leaf_is b ks (x ∷ xs) stands.tree stands.reads leaf in
    let level = (subst (ReadsKeys b ks) e stands.reads).shaped.0 in
    let inside = key_inside b id level i in record {
      rises = subst RiseStrictly (sym is) (rises_add (key_of b id) ks stands.rises);
      elsewhere = ap (outside b) is ∙ filter_add (λ k. not (is_inside b k)) (key_of b id) ks stands.rises ∙ ap (λ c. cond (not c) (add (key_of b id) (outside b ks)) (outside b ks)) inside;
      here = λ t r. here level inside t r;
    }
  where
    here : b.level ≤ COORDINATE_BITS → is_inside b (key_of b id) ≡ true → (t : Tree) → ReadsKeys b ks t → ReadsKeys b new (entered id t)
    here level inside t r =
        let e = leaf_is b ks (x ∷ xs) t r leaf in
        let at = subst (ReadsKeys b ks) e r in
        subst (λ t. ReadsKeys b new (entered id t)) (sym e) (record {
          is = ap (keys_within b) is
              ∙ filter_add (is_inside b) (key_of b id) ks stands.rises
              ∙ ap (λ c. cond c (add (key_of b id) (keys_within b ks)) (keys_within b ks)) inside
              ∙ ap (add (key_of b id)) at.is
              ∙ sym (map_add (key_of b) (λ y z l. omega arith) id (x ∷ xs))
              ∙ sym (some_keys b (x ∷ xs) id);
          shaped = (level, (rises_add id (x ∷ xs) at.shaped.1.0, each_add IsId id (x ∷ xs) i at.shaped.1.1));
        })

pub becomes_entered : (b : Block) (ks ids : List ℕ) (id : ℕ) → KeysStand b ks → HasLeafIds b ks ids → IsId id → (new : List ℕ)
    → (length ids ≡ 0 → new ≡ add (key_of b id) (without (mark_of b) ks)) → (0 < length ids → new ≡ add (key_of b id) ks)
    → Becomes b (entered id) ks new
becomes_entered b ks [] id stands leaf i new first more = entered_first b ks id stands leaf i new (first refl)
becomes_entered b ks (x ∷ xs) id stands leaf i new first more = entered_more b ks x xs id stands leaf i new (more (omega arith))

-- the keys of one of the four leaves of a split
abbrev pub quarter_keys : (Block → ℕ → Bool) → Block → List ℕ → ℕ → List ℕ
quarter_keys m b ids i = leaf_keys (child b i) (filter (m (child b i)) ids)

-- the four leaves of a split in place of a leaf, for its ids and one more
pub becomes_divided : (m : Block → ℕ → Bool) (b : Block) (ks listed ids : List ℕ) → KeysStand b ks → HasLeafIds b ks listed → IsOneMore listed ids → b.level < COORDINATE_BITS
    → (k0 k1 k2 k3 k4 : List ℕ) → k0 ≡ take_all (leaf_keys b listed) ks
    → k1 ≡ put_all (leaf_keys (child b 0) (filter (m (child b 0)) ids)) k0 → k2 ≡ put_all (leaf_keys (child b 1) (filter (m (child b 1)) ids)) k1
    → k3 ≡ put_all (leaf_keys (child b 2) (filter (m (child b 2)) ids)) k2 → k4 ≡ put_all (leaf_keys (child b 3) (filter (m (child b 3)) ids)) k3
    → Becomes b (split_leaf m b ids) ks k4
becomes_divided m b ks listed ids stands leaf one up k0 k1 k2 k3 k4 e0 e1 e2 e3 e4 = becomes_refilled b (split_leaf m b ids) ks k4 stands.rises here stands where
  all : k4 ≡ put_all (quarter_keys m b ids 0 ++ (quarter_keys m b ids 1 ++ (quarter_keys m b ids 2 ++ quarter_keys m b ids 3))) (take_all (leaf_keys b listed) ks)
  all =
      e4 ∙ ap (put_all (quarter_keys m b ids 3)) (e3 ∙ ap (put_all (quarter_keys m b ids 2)) (e2 ∙ ap (put_all (quarter_keys m b ids 1)) (e1 ∙ ap (put_all (quarter_keys m b ids 0)) e0)))
      ∙ sym (put_all_append (quarter_keys m b ids 0) (quarter_keys m b ids 1 ++ (quarter_keys m b ids 2 ++ quarter_keys m b ids 3)) (take_all (leaf_keys b listed) ks)
      ∙ put_all_append (quarter_keys m b ids 1) (quarter_keys m b ids 2 ++ quarter_keys m b ids 3) (put_all (quarter_keys m b ids 0) (take_all (leaf_keys b listed) ks))
      ∙ put_all_append (quarter_keys m b ids 2) (quarter_keys m b ids 3) (put_all (quarter_keys m b ids 1) (put_all (quarter_keys m b ids 0) (take_all (leaf_keys b listed) ks))))

  quarter : RiseStrictly ids → Each IsId ids → (i : ℕ) → IsShaped (child b i) (Leaf (filter (m (child b i)) ids))
  quarter r e i = (omega arith, (rises_filter (m (child b i)) ids r, each_filter IsId (m (child b i)) ids e))

  here : (t : Tree) → ReadsKeys b ks t → IsShaped b (split_leaf m b ids t) × (k4 ≡ put_all (keys b (split_leaf m b ids t)) (take_all (keys b t) ks))
  here t r =
      let e = leaf_is b ks listed t r leaf in
      let at = subst (ReadsKeys b ks) e r in
      let rise = subst RiseStrictly (sym one.is) (rises_add one.id listed at.shaped.1.0) in
      let are = subst (Each IsId) (sym one.is) (each_add IsId one.id listed one.is_id at.shaped.1.1) in
      let q = quarter rise are in
      let done : IsShaped b (split m b ids) × (k4 ≡ put_all (keys b (split m b ids)) (take_all (keys b (Leaf listed)) ks)) = ((up, (q 0, (q 1, (q 2, q 3)))), all) in
      subst (λ t. IsShaped b (split_leaf m b ids t) × (k4 ≡ put_all (keys b (split_leaf m b ids t)) (take_all (keys b t) ks))) (sym e) done

-- what the shape does not meet stays
pub becomes_unmet : (m : Block → ℕ → Bool) (n id : ℕ) (b : Block) (ks : List ℕ) → KeysStand b ks → m b id ≡ false → Becomes b (grown_where m n id b) ks ks
becomes_unmet m n id b ks stands h = becomes_same b (grown_where m n id b) ks stands.rises (λ t r. same t) where
  same : (t : Tree) → t ≡ grown_where m n id b t
  same (Leaf ids) = rw h refl
  same (Inner p q r s) = rw h refl

pub above_finest : (n m k w : ℕ) → (nat_lt n m && nat_lt k w) ≡ true → k < w
above_finest n m k w h = grind (arith, nat_tests)

-- a leaf that the shape meets splits where it has too many ids with the new one
pub becomes_grown_split : (m : Block → ℕ → Bool) (n id : ℕ) (b : Block) (k0 k1 ids all : List ℕ) → HasLeafIds b k0 ids → m b id ≡ true → all ≡ add id ids
    → (nat_lt n (length all) && nat_lt b.level COORDINATE_BITS) ≡ true → Becomes b (split_leaf m b all) k0 k1 → Becomes b (grown_where m n id b) k0 k1
becomes_grown_split m n id b k0 k1 ids all leaf h is many divide = becomes_as b (split_leaf m b all) (grown_where m n id b) k0 k1 same divide where
  splits : settled m n b (add id ids) ≡ split m b all
  splits = ap (settled m n b) (sym is) ∙ ap (λ c. cond c (split m b all) (Leaf all)) many

  same : (t : Tree) → ReadsKeys b k0 t → split_leaf m b all t ≡ grown_where m n id b t
  same t r =
      let e = leaf_is b k0 ids t r leaf in
      subst (λ t. split_leaf m b all t ≡ grown_where m n id b t) (sym e) (sym (ap (λ c. cond c (settled m n b (add id ids)) (Leaf ids)) h ∙ splits))

-- it stays where it has not too many, or is as small as can be
pub becomes_grown_kept : (m : Block → ℕ → Bool) (n id : ℕ) (b : Block) (k0 k1 ids : List ℕ) → HasLeafIds b k0 ids → m b id ≡ true
    → (nat_lt n (length (add id ids)) && nat_lt b.level COORDINATE_BITS) ≡ false
    → Becomes b (entered id) k0 k1 → Becomes b (grown_where m n id b) k0 k1
becomes_grown_kept m n id b k0 k1 ids leaf h few enter = becomes_as b (entered id) (grown_where m n id b) k0 k1 same enter where
  same : (t : Tree) → ReadsKeys b k0 t → entered id t ≡ grown_where m n id b t
  same t r =
      let e = leaf_is b k0 ids t r leaf in
      let stays : settled m n b (add id ids) ≡ Leaf (add id ids) = ap (λ c. cond c (split m b (add id ids)) (Leaf (add id ids))) few in
      subst (λ t. entered id t ≡ grown_where m n id b t) (sym e) (sym (ap (λ c. cond c (settled m n b (add id ids)) (Leaf ids)) h ∙ stays))

-- one id more is not too many where there were fewer than the threshold
pub becomes_grown_few : (m : Block → ℕ → Bool) (n id : ℕ) (b : Block) (k0 k1 ids : List ℕ) → HasLeafIds b k0 ids → m b id ≡ true → length ids < n
    → Becomes b (entered id) k0 k1 → Becomes b (grown_where m n id b) k0 k1
becomes_grown_few m n id b k0 k1 ids leaf h few enter = becomes_grown_kept m n id b k0 k1 ids leaf h (ap (λ c. c && nat_lt b.level COORDINATE_BITS) not_many) enter where
  not_many : nat_lt n (length (add id ids)) ≡ false
  not_many = below_it n (length (add id ids)) (omega (arith, length_add id ids)) where
    below_it : (x y : ℕ) → y ≤ x → nat_lt x y ≡ false
    below_it x y l = grind (arith, nat_tests)

-- an inner place that the shape meets, whose children have grown
pub becomes_grown_inner : (m : Block → ℕ → Bool) (n id : ℕ) (b : Block) (k0 k1 : List ℕ) → own b k0 ≡ [] → m b id ≡ true
    → Becomes b (below_grown m n id b) k0 k1 → Becomes b (grown_where m n id b) k0 k1
becomes_grown_inner m n id b k0 k1 none h below = becomes_as b (below_grown m n id b) (grown_where m n id b) k0 k1 same below where
  same : (t : Tree) → ReadsKeys b k0 t → below_grown m n id b t ≡ grown_where m n id b t
  same (Leaf []) r = absurd (nil (sym none ∙ own_leaf b k0 [] r)) where
    nil : {A : Type 0} {x : A} {xs : List A} → [] ≡ x ∷ xs → ⊥
    nil e = cc
  same (Leaf (x ∷ xs)) r = absurd (nil (sym none ∙ own_leaf b k0 (x ∷ xs) r)) where
    nil : {A : Type 0} {x : A} {xs : List A} → [] ≡ x ∷ xs → ⊥
    nil e = cc
  same (Inner p q r s) read = rw h refl

-- the two ways in which an id comes to a leaf, step by step
pub first_entered : (b : Block) (ks : List ℕ) (list : List Kept) (id key mark : ℕ) (mid new : List ℕ) → KeysStand b ks → HasFirstIds b 1 ks (ids_of list) → IsId id → length list ≡ 0
    → key ≡ key_of b id → mark ≡ mark_of b → mid ≡ without mark ks → new ≡ add key mid → Becomes b (entered id) ks new
first_entered b ks list id key mark mid new stands leaf i none e f m n =
    let whole = up_to_few 1 (ids_in (own b ks)) (ids_of list) leaf.up_to (omega (arith, length_ids list, none)) in
    becomes_entered b ks (ids_in (own b ks)) id stands (leaf_all b 1 ks (ids_of list) leaf) i new (λ z. n ∙ ap₂ add e (m ∙ ap (λ x. without x ks) f))
    (λ some. absurd (omega (arith, length_ids list, none, some, ap length whole)))

pub next_entered : (b : Block) (ks : List ℕ) (list : List Kept) (id key : ℕ) (new : List ℕ) → KeysStand b ks → HasFirstIds b 1 ks (ids_of list) → IsId id → 0 < length list
    → key ≡ key_of b id → new ≡ add key ks → Becomes b (entered id) ks new
next_entered b ks list id key new stands leaf i some e n =
    let many = up_to_many 1 (ids_in (own b ks)) (ids_of list) leaf.up_to (omega (arith, length_ids list, some)) in
    becomes_entered b ks (ids_in (own b ks)) id stands (leaf_all b 1 ks (ids_of list) leaf) i new (λ none. absurd (omega (arith, none, many))) (λ z. n ∙ ap (λ x. add x ks) e)
