-- Entries and the keys in them; a leaf's ids and values, as they are read.
use Rattle.std.proofs.Common.{◌≡◌, ◌≢◌, ◌⊎◌, inl, inr, ℕ, zero, suc, ◌+◌, ◌^◌, ◌<◌, ◌≤◌, Bool, true, false, cond, not, List, [], ◌∷◌, ◌++◌, length, map, refl, sym, ◌∙◌, ap, subst, arith, get_or, drop, take, add-one}
use Rattle.std.specs.Prelude.{filter, nat_eq, Option, None, Some, MatchOption, IfSome}
use Rattle.std.proofs.lemmas.Bool.Decides.{nat_tests}
use Rattle.sand_base.specs.declared.TheConstants.{COORDINATE_BITS}
use Rattle.z_code.specs.declared.block.Block.{Block}
use Rattle.std.proofs.Math.Seq.{drop-cons}
use Rattle.std.proofs.lemmas.List.Elements.{filter-append}
use Rattle.sand_model.specs.Tree.{Tree, Leaf, Inner, add, without}
use Rattle.pmr_tree.specs.Lists.{Each, is_from_to, put_all, take_all}
use Rattle.pmr_tree.specs.FirstIds.{IsUpTo, HasFirstIds, AreFirstPairs}
use Rattle.pmr_tree.specs.Keys.{key_of, mark_of, leaf_keys, own, IsId, ReadsKeys, id_in, ids_in}
use Rattle.pmr_tree.specs.Leaves.{firsts, Passes, own_pairs, kept_of, ids_of, ListPasses, HasLeafIds}
use Rattle.pmr_tree.specs.Changes.{KeysStand}
use Rattle.pmr_tree.specs.Listing.{Pair}
use Rattle.pmr_tree.specs.declared.leaf.Kept.{Kept}
use Rattle.pmr_tree.proofs.AscendingLists.{holds, fails, test, each_filter}
use Rattle.pmr_tree.proofs.KeyLists.{own_leaf, own_inner}

pub map_filter : {A B : Type 0} (f : A → B) (p : B → Bool) (xs : List A) → map f (filter (λ x. p (f x)) xs) ≡ filter p (map f xs)
map_filter f p [] = refl
map_filter f p (x ∷ xs) = elim (test (p (f x))) [ holds h ↦ rw h (ap (λ t. f x ∷ t) (map_filter f p xs)) | fails h ↦ rw h (map_filter f p xs) ]

map_map : {A B C : Type 0} (f : B → C) (h : A → B) (xs : List A) → map f (map h xs) ≡ map (λ x. f (h x)) xs
map_map f h [] = refl
map_map f h (x ∷ xs) = ap (λ t. f (h x) ∷ t) (map_map f h xs)

-- the keys of a block's own entries
pub firsts_own : (b : Block) (es : List Pair) → firsts (own_pairs b es) ≡ own b (firsts es)
firsts_own b es = map_filter (λ e. e.0) (is_from_to (mark_of b) (mark_of b + 2 ^ 32)) es

abbrev mk_of : Pair → Kept
mk_of e = record { id = id_in e.0; value = e.1 }

pub ids_kept : (es : List Pair) → ids_of (kept_of es) ≡ ids_in (firsts es)
ids_kept es =
    map_filter (λ k. k.id) (λ i. not (nat_eq i 0)) (map mk_of es)
    ∙ ap (filter (λ i. not (nat_eq i 0))) (map_map (λ k. k.id) mk_of es ∙ sym (map_map id_in (λ e. e.0) es))

some_id : (i : ℕ) → not (nat_eq i 0) ≡ true → 1 ≤ i
some_id i h = grind (arith, nat_tests)

pub passes_kept : (test : ℕ → ℕ → Bool) (es : List Pair) → Passes test es → ListPasses test (kept_of es)
passes_kept test [] h = tt
passes_kept test (e ∷ es) h =
    let go : (b : Bool) → not (nat_eq (id_in e.0) 0) ≡ b → ListPasses test (cond b (mk_of e ∷ kept_of es) (kept_of es)) =
    elim [ true ↦ λ some. (h.0 (some_id (id_in e.0) some), passes_kept test es h.1) | false ↦ λ none. passes_kept test es h.1 ] in
    go (not (nat_eq (id_in e.0) 0)) refl

pub leaf_found : (b : Block) (es pairs : List Pair) → pairs ≡ own_pairs b es → 0 < length pairs → HasLeafIds b (firsts es) (ids_of (kept_of pairs))
leaf_found b es pairs is some = record {
  some = λ none. (let z = no_pairs pairs (ap firsts is ∙ firsts_own b es ∙ none) in absurd (omega arith));
  ids_are = ids_kept pairs ∙ ap ids_in (ap firsts is ∙ firsts_own b es);
} where
  no_pairs : (xs : List Pair) → firsts xs ≡ [] → length xs ≡ 0
  no_pairs [] h = refl
  no_pairs (x ∷ xs) h = cc

pub no_leaf_found : (b : Block) (es pairs : List Pair) → pairs ≡ own_pairs b es → length pairs ≡ 0 → own b (firsts es) ≡ []
no_leaf_found b es pairs is none = sym (firsts_own b es) ∙ sym (ap firsts is) ∙ ap firsts (nil pairs none) where
  nil : (xs : List Pair) → length xs ≡ 0 → xs ≡ []
  nil [] h = refl
  nil (x ∷ xs) h = absurd (omega arith)

pub found_passes : (test : ℕ → ℕ → Bool) (b : Block) (es pairs : List Pair) → pairs ≡ own_pairs b es → Passes test es → ListPasses test (kept_of pairs)
found_passes test b es pairs is h = passes_kept test pairs
    (subst (Passes test) (sym is) (each_filter (λ e. 1 ≤ id_in e.0 → test (id_in e.0) e.1 ≡ true) (λ e. is_from_to (mark_of b) (mark_of b + 2 ^ 32) e.0) es h))

-- a leaf's keys have its ids
pub id_in_key : (b : Block) (id : ℕ) → id < 2 ^ 32 → id_in (key_of b id) ≡ id
id_in_key b id h = omega arith

pub ids_leaf : (b : Block) (ids : List ℕ) → Each IsId ids → ids_in (leaf_keys b ids) ≡ ids
ids_leaf b [] h = ap (λ t. filter (λ i. not (nat_eq i 0)) (t ∷ [])) (id_in_key b 0 (omega arith))
ids_leaf b (id ∷ ids) h = each_in (id ∷ ids) h where
  each_in : (xs : List ℕ) → Each IsId xs → ids_in (map (key_of b) xs) ≡ xs
  each_in [] h = refl
  each_in (x ∷ xs) h =
      let e = id_in_key b x h.0.small in
      let some : not (nat_eq x 0) ≡ true = not_mark x h.0.above_mark in
      rw (e, some) (ap (λ t. x ∷ t) (each_in xs h.1))
    where
      not_mark : (x : ℕ) → 1 ≤ x → not (nat_eq x 0) ≡ true
      not_mark x l = grind (arith, nat_tests)

-- a block with keys of its own is a leaf
pub leaf_is : (b : Block) (ks ids : List ℕ) (t : Tree) → ReadsKeys b ks t → HasLeafIds b ks ids → t ≡ Leaf ids
leaf_is b ks ids (Leaf listed) reads h = ap Leaf (sym (h.ids_are ∙ ap ids_in (own_leaf b ks listed reads) ∙ ids_leaf b listed reads.shaped.1.1))
leaf_is b ks ids (Inner p q r s) reads h = absurd (h.some (own_inner b ks p q r s reads))

-- what an id passes, the entry of its key passes
pub same_id : (b : Block) (id : ℕ) → id < 2 ^ 32 → id_in (key_of b id) ≡ id
same_id b id h = omega arith

pub key_passes : (test : ℕ → ℕ → Bool) (b : Block) (id value key : ℕ) → id < 2 ^ 32 → key ≡ key_of b id → test id value ≡ true → 1 ≤ id_in key → test (id_in key) value ≡ true
key_passes test b id value key small is h some = ap (λ i. test i value) (ap id_in is ∙ same_id b id small) ∙ h

pub mark_passes : (test : ℕ → ℕ → Bool) (b : Block) (value key : ℕ) → key ≡ mark_of b → 1 ≤ id_in key → test (id_in key) value ≡ true
mark_passes test b value key is some = (let none : id_in key ≡ 0 = ap id_in is ∙ same_id b 0 (omega arith) in absurd (omega (arith, none, some)))

-- one step of a loop over the ids of a leaf
pub take_step : (b : Block) (list : List Kept) (i : ℕ) (d : Kept) → i < length list → (key : ℕ) → key ≡ key_of b (get_or list i d).id → (ks new : List ℕ) → new ≡ without key ks
    → take_all (map (key_of b) (ids_of (drop (i + 1) list))) new ≡ take_all (map (key_of b) (ids_of (drop i list))) ks
take_step b list i d h key k ks new e = rw (e, k, add-one, drop-cons list i d) refl

pub put_step : (b : Block) (list : List Kept) (i : ℕ) (d : Kept) → i < length list → (key : ℕ) → key ≡ key_of b (get_or list i d).id → (ks new : List ℕ) → new ≡ add key ks
    → put_all (map (key_of b) (ids_of (drop (i + 1) list))) new ≡ put_all (map (key_of b) (ids_of (drop i list))) ks
put_step b list i d h key k ks new e = rw (e, k, add-one, drop-cons list i d) refl

-- what holds of each element holds of the one at an index
pub each_at : {A : Type 0} (P : A → Type 0) (xs : List A) (i : ℕ) (d : A) → i < length xs → Each P xs → P (get_or xs i d)
each_at P [] i d h e = absurd (omega arith)
each_at P (x ∷ xs) zero d h e = e.0
each_at P (x ∷ xs) (suc i) d h e = each_at P xs i d (omega arith) e.1

-- one step of a loop over the ids that meet
take_next : {A : Type 0} (xs : List A) (i : ℕ) (d : A) → i < length xs → take (suc i) xs ≡ take i xs ++ (get_or xs i d ∷ [])
take_next [] i d h = absurd (omega arith)
take_next (x ∷ xs) zero d h = refl
take_next (x ∷ xs) (suc i) d h = ap (λ t. x ∷ t) (take_next xs i d (omega arith))

pub met_step : (f : ℕ → Bool) (list : List Kept) (i : ℕ) (d : Kept) → i < length list → (old new : List Kept) → old ≡ filter (λ k. f k.id) (take i list)
    → new ≡ old ++ filter (λ k. f k.id) (get_or list i d ∷ []) → new ≡ filter (λ k. f k.id) (take (i + 1) list)
met_step f list i d h old new e n =
    n ∙ ap (λ t. t ++ filter (λ k. f k.id) (get_or list i d ∷ [])) e
    ∙ sym (filter-append (λ k. f k.id) (take i list) (get_or list i d ∷ []))
    ∙ ap (filter (λ k. f k.id)) (sym (take_next list i d h))
    ∙ ap (λ t. filter (λ k. f k.id) (take t list)) (sym (add-one i))

pub pushed : (b mb : Bool) (k : Kept) (old new : List Kept) → new ≡ old ++ (k ∷ []) → b ≡ true → b ≡ mb → new ≡ old ++ cond mb (k ∷ []) []
pushed b mb k old new e h same = e ∙ ap (λ c. old ++ cond c (k ∷ []) []) (sym h ∙ same)

pub ids_met : (f : ℕ → Bool) (list found : List Kept) → found ≡ filter (λ k. f k.id) list → ids_of found ≡ filter f (ids_of list)
ids_met f list found e = ap ids_of e ∙ map_filter (λ k. k.id) f list

pub passes_met : (test : ℕ → ℕ → Bool) (f : ℕ → Bool) (list found : List Kept) → found ≡ filter (λ k. f k.id) list → ListPasses test list → ListPasses test found
passes_met test f list found e h = subst (ListPasses test) (sym e) (each_filter (λ k. test k.id k.value ≡ true) (λ k. f k.id) list h)

-- what is first of a list
take_none : {A : Type 0} (n : ℕ) (xs : List A) → 1 ≤ n → length (take n xs) ≡ 0 → xs ≡ []
take_none n [] l h = refl
take_none zero (x ∷ xs) l h = absurd (omega (arith, l))
take_none (suc n) (x ∷ xs) l h = absurd (omega (arith, h))

each_first : {A : Type 0} (P : A → Type 0) (n : ℕ) (xs : List A) → Each P xs → Each P (take n xs)
each_first P zero xs h = tt
each_first P (suc n) [] h = tt
each_first P (suc n) (x ∷ xs) h = (h.0, each_first P n xs h.1)

firsts_take : (n : ℕ) (es : List Pair) → firsts (take n es) ≡ take n (firsts es)
firsts_take zero es = refl
firsts_take (suc n) [] = refl
firsts_take (suc n) (e ∷ es) = ap (λ t. e.0 ∷ t) (firsts_take n es)

-- the ids of the first keys of a leaf: all, or so many
ids_first : (b : Block) (most n : ℕ) (ids : List ℕ) → most ≤ n → 1 ≤ n → Each IsId ids → IsUpTo most ids (ids_in (take n (leaf_keys b ids)))
ids_first b most zero ids l some h = absurd (omega (arith, some))
ids_first b most (suc n) [] l some h = inl (ap (λ t. ids_in (mark_of b ∷ t)) (nothing n) ∙ ids_leaf b [] tt) where
  nothing : (n : ℕ) → take {A = ℕ} n [] ≡ []
  nothing zero = refl
  nothing (suc n) = refl
ids_first b most (suc n) (x ∷ xs) l some h = part (suc n) (x ∷ xs) h l where
  in_part : (n : ℕ) (ids : List ℕ) → Each IsId ids → ids_in (take n (map (key_of b) ids)) ≡ take n ids
  in_part zero ids h = refl
  in_part (suc n) [] h = refl
  in_part (suc n) (x ∷ xs) h =
      let e = id_in_key b x h.0.small in
      let some : not (nat_eq x 0) ≡ true = not_mark x h.0.above_mark in
      rw (e, some) (ap (λ t. x ∷ t) (in_part n xs h.1))
    where
      not_mark : (x : ℕ) → 1 ≤ x → not (nat_eq x 0) ≡ true
      not_mark x l = grind (arith, nat_tests)

  whole_or : (n : ℕ) (ids : List ℕ) → (take n ids ≡ ids) ⊎ ((n ≤ length ids) × (n ≤ length (take n ids)))
  whole_or zero ids = inr (omega arith, omega arith)
  whole_or (suc n) [] = inl refl
  whole_or (suc n) (x ∷ xs) = more n x xs (whole_or n xs) where
    more : (n x : ℕ) (xs : List ℕ) → (take n xs ≡ xs) ⊎ ((n ≤ length xs) × (n ≤ length (take n xs)))
        → (take (suc n) (x ∷ xs) ≡ x ∷ xs) ⊎ ((suc n ≤ length (x ∷ xs)) × (suc n ≤ length (take (suc n) (x ∷ xs))))
    more n x xs (inl e) = inl (ap (λ t. x ∷ t) e)
    more n x xs (inr h) = inr (omega (arith, h.0), omega (arith, h.1))

  part : (n : ℕ) (ids : List ℕ) → Each IsId ids → most ≤ n → IsUpTo most ids (ids_in (take n (map (key_of b) ids)))
  part n ids h l = subst (IsUpTo most ids) (sym (in_part n ids h)) (go (whole_or n ids)) where
    go : (take n ids ≡ ids) ⊎ ((n ≤ length ids) × (n ≤ length (take n ids))) → IsUpTo most ids (take n ids)
    go (inl e) = inl e
    go (inr h) = inr (omega (arith, l, h.0), omega (arith, l, h.1))

own_first : (b : Block) (ks : List ℕ) (most n : ℕ) → KeysStand b ks → own b ks ≢ [] → most ≤ n → 1 ≤ n → IsUpTo most (ids_in (own b ks)) (ids_in (take n (own b ks)))
own_first b ks most n stands some l one = go stands.tree stands.reads where
  go : (t : Tree) → ReadsKeys b ks t → IsUpTo most (ids_in (own b ks)) (ids_in (take n (own b ks)))
  go (Inner p q r s) read = absurd (some (own_inner b ks p q r s read))
  go (Leaf ids) read =
      let own_is : own b ks ≡ leaf_keys b ids = own_leaf b ks ids read in
      let each = read.shaped.1.1 in
      subst (λ x. IsUpTo most (ids_in x) (ids_in (take n x))) (sym own_is) (subst (λ x. IsUpTo most x (ids_in (take n (leaf_keys b ids)))) (sym (ids_leaf b ids each)) (ids_first b most n ids l one each))

-- a read of a block's own entries, or of the first of them
first_pairs_leaf : (b : Block) (most : ℕ) (es pairs : List Pair) → KeysStand b (firsts es) → AreFirstPairs b most es pairs → 0 < length pairs → HasFirstIds b most (firsts es) (ids_of (kept_of pairs))
first_pairs_leaf b most es pairs stands (inl is) some =
    let leaf = leaf_found b es pairs is some in
    record { some = leaf.some; up_to = inl leaf.ids_are; whole = λ up. leaf.ids_are }
first_pairs_leaf b most es pairs stands (inr (deep, is)) some = record {
  some = own_some;
  up_to = subst (IsUpTo most (ids_in (own b (firsts es)))) (sym ids) (own_first b (firsts es) most (most + 1) stands own_some (omega arith) (omega arith));
  whole = λ up. absurd (omega (arith, deep, up));
} where
  own_some : own b (firsts es) ≢ []
  own_some none =
      let no_own : own_pairs b es ≡ [] = no_pairs (own_pairs b es) (firsts_own b es ∙ none) in
      let z : length pairs ≡ 0 = ap length is ∙ ap (λ x. length (take (most + 1) x)) no_own ∙ none_of (most + 1) in
      absurd (omega (arith, some, z))
    where
      no_pairs : (xs : List Pair) → firsts xs ≡ [] → xs ≡ []
      no_pairs [] h = refl
      no_pairs (x ∷ xs) h = cc

      none_of : (n : ℕ) → length (take {A = Pair} n []) ≡ 0
      none_of zero = refl
      none_of (suc n) = refl

  ids : ids_of (kept_of pairs) ≡ ids_in (take (most + 1) (own b (firsts es)))
  ids = ids_kept pairs ∙ ap ids_in (ap firsts is ∙ firsts_take (most + 1) (own_pairs b es) ∙ ap (take (most + 1)) (firsts_own b es))

first_pairs_none : (b : Block) (most : ℕ) (es pairs : List Pair) → AreFirstPairs b most es pairs → length pairs ≡ 0 → own b (firsts es) ≡ []
first_pairs_none b most es pairs (inl is) none = no_leaf_found b es pairs is none
first_pairs_none b most es pairs (inr (deep, is)) none =
    sym (firsts_own b es) ∙ ap firsts (take_none (most + 1) (own_pairs b es) (omega arith) (sym (ap length is) ∙ none))

pub leaf_read : {V : Type 0} (items : V → List Kept) (b : Block) (most : ℕ) (es pairs : List Pair) (found : Option V) → KeysStand b (firsts es) → AreFirstPairs b most es pairs
    → MatchOption found (length pairs ≡ 0) (λ list. (0 < length pairs) × (items list ≡ kept_of pairs))
    → MatchOption found (own b (firsts es) ≡ []) (λ list. HasFirstIds b most (firsts es) (ids_of (items list)))
leaf_read items b most es pairs None stands is h = first_pairs_none b most es pairs is h
leaf_read items b most es pairs (Some list) stands is h = subst (λ t. HasFirstIds b most (firsts es) (ids_of t)) (sym h.1) (first_pairs_leaf b most es pairs stands is h.0)

first_passes : (test : ℕ → ℕ → Bool) (b : Block) (most : ℕ) (es pairs : List Pair) → AreFirstPairs b most es pairs → Passes test es → ListPasses test (kept_of pairs)
first_passes test b most es pairs (inl is) h = found_passes test b es pairs is h
first_passes test b most es pairs (inr (deep, is)) h = passes_kept test pairs
    (subst (Passes test) (sym is) (each_first (λ e. 1 ≤ id_in e.0 → test (id_in e.0) e.1 ≡ true) (most + 1) (own_pairs b es)
    (each_filter (λ e. 1 ≤ id_in e.0 → test (id_in e.0) e.1 ≡ true) (λ e. is_from_to (mark_of b) (mark_of b + 2 ^ 32) e.0) es h)))

pub passes_read : {V : Type 0} (items : V → List Kept) (test : ℕ → ℕ → Bool) (b : Block) (most : ℕ) (es pairs : List Pair) (found : Option V) → AreFirstPairs b most es pairs → Passes test es
    → MatchOption found (length pairs ≡ 0) (λ list. (0 < length pairs) × (items list ≡ kept_of pairs))
    → IfSome found (λ list. ListPasses test (items list))
passes_read items test b most es pairs None is w h = tt
passes_read items test b most es pairs (Some list) is w h = subst (ListPasses test) (sym h.1) (first_passes test b most es pairs is w)

-- a leaf has the ids that its keys tell; above the finest level they are those that were read
pub leaf_all : (b : Block) (most : ℕ) (ks ids : List ℕ) → HasFirstIds b most ks ids → HasLeafIds b ks (ids_in (own b ks))
leaf_all b most ks ids h = record { some = h.some; ids_are = refl }

pub leaf_whole : (b : Block) (most : ℕ) (ks ids : List ℕ) → HasFirstIds b most ks ids → b.level < COORDINATE_BITS → HasLeafIds b ks ids
leaf_whole b most ks ids h up = record { some = h.some; ids_are = h.whole up }

-- what an answer says, where it is known which it is
pub none_found : {V : Type 0} (found : Option V) (A : Type 0) (B : V → Type 0) → found ≡ None → MatchOption found A B → A
none_found found A B e h = subst (λ f. MatchOption f A B) e h

pub some_found : {V : Type 0} (found : Option V) (A : Type 0) (B : V → Type 0) (x : V) → found ≡ Some x → MatchOption found A B → B x
some_found found A B x e h = subst (λ f. MatchOption f A B) e h

pub if_found : {V : Type 0} (found : Option V) (B : V → Type 0) (x : V) → found ≡ Some x → IfSome found B → B x
if_found found B x e h = subst (λ f. IfSome f B) e h

pub length_ids : (list : List Kept) → length (ids_of list) ≡ length list
length_ids [] = refl
length_ids (k ∷ ks) = ap suc (length_ids ks)

-- a leaf is the same one later, where no key has changed
pub leaf_later : (b : Block) (most : ℕ) (k0 k1 : List ℕ) (items list : List Kept) → k1 ≡ k0 → list ≡ items → HasFirstIds b most k0 (ids_of items) → HasFirstIds b most k1 (ids_of list)
leaf_later b most k0 k1 items list same is leaf = subst (λ k. HasFirstIds b most k (ids_of list)) (sym same) (subst (λ x. HasFirstIds b most k0 (ids_of x)) (sym is) leaf)
