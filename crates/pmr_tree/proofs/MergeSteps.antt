-- Four leaves become one, where they have too few ids together; and an inner place whose children have shrunk.
use Rattle.std.proofs.Common.{◌≡◌, ℕ, ◌<◌, ◌≤◌, Bool, true, false, cond, List, [], ◌∷◌, ◌++◌, length, get_or, refl, sym, ◌∙◌, ap, subst, inl, inr, arith}
use Rattle.std.specs.Prelude.{nat_lt}
use Rattle.std.proofs.lemmas.Bool.Decides.{nat_tests}
use Rattle.z_code.specs.Block.{child, children_of}
use Rattle.z_code.specs.declared.block.Block.{Block}
use Rattle.sand_model.specs.Tree.{Tree, Leaf, Inner, union, union_of_four, merged, HasEnough}
use Rattle.pmr_tree.specs.Lists.{Each, RiseStrictly, put_all, take_all}
use Rattle.pmr_tree.specs.Keys.{leaf_keys, keys, own, ids_in, IsId, IsShaped, ReadsKeys}
use Rattle.pmr_tree.specs.Changes.{KeysStand, Becomes, merging, below_shrunk, shrunk_where}
use Rattle.pmr_tree.specs.Leaves.{HasLeafIds, ids_of}
use Rattle.pmr_tree.specs.FirstIds.{HasLargeChild}
use Rattle.pmr_tree.specs.declared.leaf.Kept.{Kept}
use Rattle.pmr_tree.proofs.Orders.{take_all_append}
use Rattle.pmr_tree.proofs.KeyLists.{Parts, reads_children, own_leaf, own_inner}
use Rattle.pmr_tree.proofs.Entries.{leaf_is, ids_leaf}
use Rattle.pmr_tree.proofs.GrownTrees.{enough_second, enough_third, enough_fourth}
use Rattle.pmr_tree.proofs.Growth.{merged_full}
use Rattle.pmr_tree.proofs.Unions.{union_nil, rises_union, each_union, union_grows, union_holds}
use Rattle.pmr_tree.proofs.GrowSteps.{at_child}
use Rattle.pmr_tree.proofs.Steps.{becomes_refilled, becomes_same, becomes_as, becomes_then, becomes_four, stands_parts}

no_keys : {A : Type 0} {x : A} {xs : List A} → [] ≡ x ∷ xs → ⊥
no_keys e = cc

-- a block with no keys of its own is no leaf
leaf_no : (b : Block) (ks ids : List ℕ) → ReadsKeys b ks (Leaf ids) → own b ks ≡ [] → ⊥
leaf_no b ks [] r none = no_keys (sym none ∙ own_leaf b ks [] r)
leaf_no b ks (x ∷ xs) r none = no_keys (sym none ∙ own_leaf b ks (x ∷ xs) r)

-- a place with an inner place among its children is not merged
merged_first : (n : ℕ) (b : Block) (ks : List ℕ) (p q r s : Tree) → ReadsKeys b ks p → own b ks ≡ [] → merged n p q r s ≡ Inner p q r s
merged_first n b ks (Leaf p) q r s h none = absurd (leaf_no b ks p h none)
merged_first n b ks (Inner a c d e) q r s h none = refl

merged_second : (n : ℕ) (b : Block) (ks : List ℕ) (p q r s : Tree) → ReadsKeys b ks q → own b ks ≡ [] → merged n p q r s ≡ Inner p q r s
merged_second n b ks p (Leaf q) r s h none = absurd (leaf_no b ks q h none)
merged_second n b ks p (Inner a c d e) r s h none = merged_full n p (Inner a c d e) r s (enough_second n p a c d e r s)

merged_third : (n : ℕ) (b : Block) (ks : List ℕ) (p q r s : Tree) → ReadsKeys b ks r → own b ks ≡ [] → merged n p q r s ≡ Inner p q r s
merged_third n b ks p q (Leaf r) s h none = absurd (leaf_no b ks r h none)
merged_third n b ks p q (Inner a c d e) s h none = merged_full n p q (Inner a c d e) s (enough_third n p q a c d e s)

merged_fourth : (n : ℕ) (b : Block) (ks : List ℕ) (p q r s : Tree) → ReadsKeys b ks s → own b ks ≡ [] → merged n p q r s ≡ Inner p q r s
merged_fourth n b ks p q r (Leaf s) h none = absurd (leaf_no b ks s h none)
merged_fourth n b ks p q r (Inner a c d e) h none = merged_full n p q r (Inner a c d e) (enough_fourth n p q r a c d e)

-- nothing is merged where the inner place has such a child
kept_inner : (n : ℕ) (b : Block) (k0 k1 : List ℕ) → KeysStand b k0 → own b k0 ≡ [] → ((p q r s : Tree) → Parts b k0 p q r s → merged n p q r s ≡ Inner p q r s) → k1 ≡ k0 → Becomes b (merging n) k0 k1
kept_inner n b k0 k1 stands none h same = subst (Becomes b (merging n) k0) (sym same) (becomes_same b (merging n) k0 stands.rises here) where
  here : (t : Tree) → ReadsKeys b k0 t → t ≡ merging n t
  here (Leaf ids) r = absurd (leaf_no b k0 ids r none)
  here (Inner p q r s) read = sym (h p q r s (reads_children b k0 p q r s read))

not_less : (x y : ℕ) → y ≤ x → nat_lt x y ≡ false
not_less x y h = grind (arith, nat_tests)

-- four leaves have enough ids where they have so many together
enough_leaves : (n : ℕ) (p q r s : Tree) → ((a c d e : List ℕ) → p ≡ Leaf a → q ≡ Leaf c → r ≡ Leaf d → s ≡ Leaf e → n ≤ length (union_of_four a c d e)) → HasEnough n p q r s
enough_leaves n (Leaf p) (Leaf q) (Leaf r) (Leaf s) h = not_less (length (union_of_four p q r s)) n (h p q r s refl refl refl refl)
enough_leaves n (Inner a c d e) q r s h = tt
enough_leaves n (Leaf p) (Inner a c d e) r s h = tt
enough_leaves n (Leaf p) (Leaf q) (Inner a c d e) s h = tt
enough_leaves n (Leaf p) (Leaf q) (Leaf r) (Inner a c d e) h = tt

-- the ids of a leaf ascend, and are as many as its keys tell
leaf_many : (n : ℕ) (b : Block) (ks : List ℕ) (t : Tree) (ids : List ℕ) → ReadsKeys b ks t → t ≡ Leaf ids → n ≤ length (ids_in (own b ks)) → RiseStrictly ids × (n ≤ length ids)
leaf_many n b ks t ids read is many =
    let at = subst (ReadsKeys b ks) is read in
    (at.shaped.1.0, subst (λ x. n ≤ length x) (ap ids_in (own_leaf b ks ids at) ∙ ids_leaf b ids at.shaped.1.1) many)

-- nothing is merged where one of the children is an inner place or has enough ids
pub some_large : (n : ℕ) (b : Block) (k0 k1 : List ℕ) → KeysStand b k0 → own b k0 ≡ [] → HasLargeChild n b k0 → k1 ≡ k0 → Becomes b (merging n) k0 k1
some_large n b k0 k1 stands none large same = kept_inner n b k0 k1 stands none (λ p q r s parts. apart p q r s parts large) same where
  apart : (p q r s : Tree) → Parts b k0 p q r s → HasLargeChild n b k0 → merged n p q r s ≡ Inner p q r s
  apart p q r s parts (inl (inl h)) = merged_first n (child b 0) k0 p q r s parts.first h
  apart p q r s parts (inl (inr h)) = merged_full n p q r s (enough_leaves n p q r s (λ a c d e i j k l.
      let m = leaf_many n (child b 0) k0 p a parts.first i h in omega (arith, m.1, union_holds a (union c (union d e)) m.0)))
  apart p q r s parts (inr (inl (inl h))) = merged_second n (child b 1) k0 p q r s parts.second h
  apart p q r s parts (inr (inl (inr h))) = merged_full n p q r s (enough_leaves n p q r s (λ a c d e i j k l.
      let m = leaf_many n (child b 1) k0 q c parts.second j h in omega (arith, m.1, union_holds c (union d e) m.0, union_grows a (union c (union d e)))))
  apart p q r s parts (inr (inr (inl (inl h)))) = merged_third n (child b 2) k0 p q r s parts.third h
  apart p q r s parts (inr (inr (inl (inr h)))) = merged_full n p q r s (enough_leaves n p q r s (λ a c d e i j k l.
      let m = leaf_many n (child b 2) k0 r d parts.third k h in
      omega (arith, m.1, union_holds d e m.0, union_grows c (union d e), union_grows a (union c (union d e)))))
  apart p q r s parts (inr (inr (inr (inl h)))) = merged_fourth n (child b 3) k0 p q r s parts.fourth h
  apart p q r s parts (inr (inr (inr (inr h)))) = merged_full n p q r s (enough_leaves n p q r s (λ a c d e i j k l.
      let m = leaf_many n (child b 3) k0 s e parts.fourth l h in
      omega (arith, m.1, union_grows d e, union_grows c (union d e), union_grows a (union c (union d e)))))

-- the four leaves of a place
pub record Four (b : Block) (ks p q r s : List ℕ) : Type 0 where
  pub first : HasLeafIds (child b 0) ks p
  pub second : HasLeafIds (child b 1) ks q
  pub third : HasLeafIds (child b 2) ks r
  pub fourth : HasLeafIds (child b 3) ks s

inner_same : (p q r s p' q' r' s' : Tree) → p ≡ p' → q ≡ q' → r ≡ r' → s ≡ s' → Inner p q r s ≡ Inner p' q' r' s'
inner_same p q r s p' q' r' s' a b c d = cc

four_is : (b : Block) (ks p q r s : List ℕ) → own b ks ≡ [] → Four b ks p q r s → (t : Tree) → ReadsKeys b ks t → t ≡ Inner (Leaf p) (Leaf q) (Leaf r) (Leaf s)
four_is b ks p q r s none four (Leaf ids) read = absurd (leaf_no b ks ids read none)
four_is b ks p q r s none four (Inner t u v w) read =
    let parts = reads_children b ks t u v w read in
    inner_same t u v w (Leaf p) (Leaf q) (Leaf r) (Leaf s) (leaf_is (child b 0) ks p t parts.first four.first) (leaf_is (child b 1) ks q u parts.second four.second)
    (leaf_is (child b 2) ks r v parts.third four.third) (leaf_is (child b 3) ks s w parts.fourth four.fourth)

-- the ids of four leaves, joined one list after another
pub joined : (b : Block) (ks p q r s : List ℕ) → KeysStand b ks → own b ks ≡ [] → Four b ks p q r s → union p (union q (union r (union s []))) ≡ union_of_four p q r s
joined b ks p q r s stands none four =
    let at = subst (ReadsKeys b ks) (four_is b ks p q r s none four stands.tree stands.reads) stands.reads in
    ap (λ t. union p (union q (union r t))) (union_nil s at.shaped.1.1.1.1.1.0)

is_less : (x y : ℕ) → x < y → nat_lt x y ≡ true
is_less x y h = grind (arith, nat_tests)

-- enough ids: they stay apart
pub merge_enough : (n : ℕ) (b : Block) (k0 k1 p q r s all : List ℕ) → KeysStand b k0 → own b k0 ≡ [] → Four b k0 p q r s → all ≡ union p (union q (union r (union s []))) → n ≤ length all → k1 ≡ k0
    → Becomes b (merging n) k0 k1
merge_enough n b k0 k1 p q r s all stands none four is many same = subst (Becomes b (merging n) k0) (sym same) (becomes_same b (merging n) k0 stands.rises here) where
  enough : nat_lt (length (union_of_four p q r s)) n ≡ false
  enough = not_less (length (union_of_four p q r s)) n (subst (λ t. n ≤ length t) (is ∙ joined b k0 p q r s stands none four) many)

  here : (t : Tree) → ReadsKeys b k0 t → t ≡ merging n t
  here t read =
      subst (λ t. t ≡ merging n t) (sym (four_is b k0 p q r s none four t read)) (sym (ap (λ c. cond c (Leaf (union_of_four p q r s)) (Inner (Leaf p) (Leaf q) (Leaf r) (Leaf s))) enough))

-- too few ids: one leaf has them
pub merge_few : (n : ℕ) (b : Block) (k0 k1 p q r s all : List ℕ) → KeysStand b k0 → own b k0 ≡ [] → Four b k0 p q r s → all ≡ union p (union q (union r (union s []))) → length all < n
    → k1 ≡ put_all (leaf_keys b all) (take_all (leaf_keys (child b 3) s) (take_all (leaf_keys (child b 2) r) (take_all (leaf_keys (child b 1) q) (take_all (leaf_keys (child b 0) p) k0))))
    → Becomes b (merging n) k0 k1
merge_few n b k0 k1 p q r s all stands none four is few new = becomes_refilled b (merging n) k0 k1 stands.rises here stands where
  whole : all ≡ union_of_four p q r s
  whole = is ∙ joined b k0 p q r s stands none four

  merges : Leaf all ≡ merged n (Leaf p) (Leaf q) (Leaf r) (Leaf s)
  merges =
      ap Leaf whole
      ∙ sym (ap (λ c. cond c (Leaf (union_of_four p q r s)) (Inner (Leaf p) (Leaf q) (Leaf r) (Leaf s))) (is_less (length (union_of_four p q r s)) n (subst (λ t. length t < n) whole few)))

  apart : take_all (leaf_keys (child b 3) s) (take_all (leaf_keys (child b 2) r) (take_all (leaf_keys (child b 1) q) (take_all (leaf_keys (child b 0) p) k0)))
      ≡ take_all (keys b (Inner (Leaf p) (Leaf q) (Leaf r) (Leaf s))) k0
  apart = sym (take_all_append (leaf_keys (child b 0) p) (leaf_keys (child b 1) q ++ (leaf_keys (child b 2) r ++ leaf_keys (child b 3) s)) k0
      ∙ take_all_append (leaf_keys (child b 1) q) (leaf_keys (child b 2) r ++ leaf_keys (child b 3) s) (take_all (leaf_keys (child b 0) p) k0)
      ∙ take_all_append (leaf_keys (child b 2) r) (leaf_keys (child b 3) s) (take_all (leaf_keys (child b 1) q) (take_all (leaf_keys (child b 0) p) k0)))

  here : (t : Tree) → ReadsKeys b k0 t → IsShaped b (merging n t) × (k1 ≡ put_all (keys b (merging n t)) (take_all (keys b t) k0))
  here t read =
      let e = four_is b k0 p q r s none four t read in
      let at = subst (ReadsKeys b k0) e read in
      let sh = at.shaped in
      let rise : RiseStrictly (union_of_four p q r s) = rises_union p (union q (union r s)) (rises_union q (union r s) (rises_union r s sh.1.1.1.1.1.0)) in
      let each : Each IsId (union_of_four p q r s) =
      each_union IsId p (union q (union r s)) sh.1.0.1.1 (each_union IsId q (union r s) sh.1.1.0.1.1 (each_union IsId r s sh.1.1.1.0.1.1 sh.1.1.1.1.1.1)) in
      let one : IsShaped b (Leaf all) × (k1 ≡ put_all (keys b (Leaf all)) (take_all (keys b (Inner (Leaf p) (Leaf q) (Leaf r) (Leaf s))) k0)) =
      ((omega (arith, sh.0), (subst RiseStrictly (sym whole) rise, subst (Each IsId) (sym whole) each)), new ∙ ap (put_all (leaf_keys b all)) apart) in
      subst (λ t. IsShaped b (merging n t) × (k1 ≡ put_all (keys b (merging n t)) (take_all (keys b t) k0))) (sym e)
      (subst (λ u. IsShaped b u × (k1 ≡ put_all (keys b u) (take_all (keys b (Inner (Leaf p) (Leaf q) (Leaf r) (Leaf s))) k0))) merges one)

-- the keys of the four leaves, as an array has the children
pub take_four : (b : Block) (cs : List Block) (d0 d1 d2 d3 d : Block) (k0 k1 k2 k3 k4 k5 p q r s all : List ℕ) → cs ≡ children_of b
    → k1 ≡ take_all (leaf_keys (get_or cs 0 d0) p) k0 → k2 ≡ take_all (leaf_keys (get_or cs 1 d1) q) k1 → k3 ≡ take_all (leaf_keys (get_or cs 2 d2) r) k2
    → k4 ≡ take_all (leaf_keys (get_or cs 3 d3) s) k3
    → k5 ≡ put_all (leaf_keys b all) k4
    → k5 ≡ put_all (leaf_keys b all) (take_all (leaf_keys (child b 3) s) (take_all (leaf_keys (child b 2) r) (take_all (leaf_keys (child b 1) q) (take_all (leaf_keys (child b 0) p) k0))))
take_four b cs d0 d1 d2 d3 d k0 k1 k2 k3 k4 k5 p q r s all is e0 e1 e2 e3 e4 =
    let f0 = at_child b cs 0 d0 (λ x. k1 ≡ take_all (leaf_keys x p) k0) is e0 in
    let f1 = at_child b cs 1 d1 (λ x. k2 ≡ take_all (leaf_keys x q) k1) is e1 in
    let f2 = at_child b cs 2 d2 (λ x. k3 ≡ take_all (leaf_keys x r) k2) is e2 in
    let f3 = at_child b cs 3 d3 (λ x. k4 ≡ take_all (leaf_keys x s) k3) is e3 in
    e4 ∙ ap (put_all (leaf_keys b all)) (f3 ∙ ap (take_all (leaf_keys (child b 3) s)) (f2 ∙ ap (take_all (leaf_keys (child b 2) r)) (f1 ∙ ap (take_all (leaf_keys (child b 1) q)) f0)))

-- the keys without those of a leaf, by the list that was read
pub cleared : (b : Block) (k0 k1 : List ℕ) (list read : List Kept) → read ≡ list → k1 ≡ take_all (leaf_keys b (ids_of read)) k0 → k1 ≡ take_all (leaf_keys b (ids_of list)) k0
cleared b k0 k1 list read is e = e ∙ ap (λ x. take_all (leaf_keys b (ids_of x)) k0) is

-- an inner place whose children have changed is one still
pub still_inner : (b : Block) (f : Tree → Tree) (g h k l : Tree → Tree) (k0 k1 : List ℕ) → ((p q r s : Tree) → f (Inner p q r s) ≡ Inner (g p) (h q) (k r) (l s))
    → KeysStand b k0 → own b k0 ≡ [] → Becomes b f k0 k1 → own b k1 ≡ []
still_inner b f g h k l k0 k1 is stands none change =
    let parts = stands_parts b k0 stands none in
    go stands.tree stands.reads
  where
    go : (t : Tree) → ReadsKeys b k0 t → own b k1 ≡ []
    go (Leaf ids) read = absurd (leaf_no b k0 ids read none)
    go (Inner p q r s) read = own_inner b k1 (g p) (h q) (k r) (l s) (subst (ReadsKeys b k1) (is p q r s) (change.here (Inner p q r s) read))

pub shrink_steps : (m : Block → ℕ → Bool) (n id : ℕ) (b : Block) (cs : List Block) (d0 d1 d2 d3 : Block) (k0 k1 k2 k3 k4 : List ℕ)
    → KeysStand b k0 → own b k0 ≡ [] → cs ≡ children_of b
    → Becomes (get_or cs 0 d0) (shrunk_where m n id (get_or cs 0 d0)) k0 k1
    → Becomes (get_or cs 1 d1) (shrunk_where m n id (get_or cs 1 d1)) k1 k2
    → Becomes (get_or cs 2 d2) (shrunk_where m n id (get_or cs 2 d2)) k2 k3
    → Becomes (get_or cs 3 d3) (shrunk_where m n id (get_or cs 3 d3)) k3 k4
    → Becomes b (below_shrunk m n id b) k0 k4
shrink_steps m n id b cs d0 d1 d2 d3 k0 k1 k2 k3 k4 stands none is g0 g1 g2 g3 =
    becomes_four b (shrunk_where m n id (child b 0)) (shrunk_where m n id (child b 1)) (shrunk_where m n id (child b 2)) (shrunk_where m n id (child b 3)) k0 k1 k2 k3 k4
    (below_shrunk m n id b) (λ p q r s. refl) stands none
    (at_child b cs 0 d0 (λ x. Becomes x (shrunk_where m n id x) k0 k1) is g0)
    (at_child b cs 1 d1 (λ x. Becomes x (shrunk_where m n id x) k1 k2) is g1)
    (at_child b cs 2 d2 (λ x. Becomes x (shrunk_where m n id x) k2 k3) is g2)
    (at_child b cs 3 d3 (λ x. Becomes x (shrunk_where m n id x) k3 k4) is g3)

pub shrunk_inner : (m : Block → ℕ → Bool) (n id : ℕ) (b : Block) (k0 k1 k2 : List ℕ) → own b k0 ≡ [] → m b id ≡ true → Becomes b (below_shrunk m n id b) k0 k1
    → Becomes b (merging n) k1 k2 → Becomes b (shrunk_where m n id b) k0 k2
shrunk_inner m n id b k0 k1 k2 none h below merge =
    becomes_as b (λ t. merging n (below_shrunk m n id b t)) (shrunk_where m n id b) k0 k2 same (becomes_then b (below_shrunk m n id b) (merging n) k0 k1 k2 below merge)
  where
    same : (t : Tree) → ReadsKeys b k0 t → merging n (below_shrunk m n id b t) ≡ shrunk_where m n id b t
    same (Leaf ids) read = absurd (leaf_no b k0 ids read none)
    same (Inner p q r s) read = rw h refl
