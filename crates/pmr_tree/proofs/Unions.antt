-- An ascending list with one id more, by its place; and with those of another list.
use Rattle.std.proofs.Common.{◌≡◌, ◌⊎◌, inl, inr, ℕ, zero, suc, ◌+◌, ◌<◌, ◌≤◌, Bool, true, false, cond, List, [], ◌∷◌, length, refl, sym, ◌∙◌, ap, subst, arith, get_or, drop, take, add-one}
use Rattle.std.specs.Prelude.{nat_eq, nat_lt}
use Rattle.std.specs.List.{insert}
use Rattle.std.proofs.Math.Seq.{drop-cons}
use Rattle.std.proofs.lemmas.Bool.{false≢true}
use Rattle.std.proofs.lemmas.Bool.Decides.{nat_tests}
use Rattle.sand_model.specs.Tree.{add, union}
use Rattle.pmr_tree.specs.Lists.{Each, RiseStrictly, place_in, is_at}
use Rattle.pmr_tree.specs.FirstIds.{IsUpTo}
use Rattle.pmr_tree.specs.Leaves.{ids_of, ListPasses}
use Rattle.pmr_tree.specs.declared.leaf.Kept.{Kept}
use Rattle.pmr_tree.proofs.AscendingLists.{below, same, above, test, order, each_map, add_before, add_after, add_here, add_first, each_append, each_add, rises_add}

-- the end of the search for a place
pub place_end : (list : List Kept) (at id : ℕ) → length list ≤ at → place_in id (ids_of (drop at list)) ≡ 0
place_end [] at id h = go at where
  go : (at : ℕ) → place_in id (ids_of (drop {A = Kept} at [])) ≡ 0
  go zero = refl
  go (suc at) = refl
place_end (k ∷ list) zero id h = absurd (omega (arith, h))
place_end (k ∷ list) (suc at) id h = place_end list at id (omega (arith, h))

pub place_stop : (list : List Kept) (at id : ℕ) (d : Kept) → at < length list → id ≤ (get_or list at d).id → place_in id (ids_of (drop at list)) ≡ 0
place_stop list at id d h l = rw (drop-cons list at d h) (stop (get_or list at d).id id (place_in id (ids_of (drop (suc at) list))) l) where
  stop : (y x n : ℕ) → x ≤ y → cond (nat_lt y x) (suc n) 0 ≡ 0
  stop y x n l = grind (arith, nat_tests)

pub place_go : (list : List Kept) (at id : ℕ) (d : Kept) → at < length list → (get_or list at d).id < id
    → (at + 1) + place_in id (ids_of (drop (at + 1) list)) ≡ at + place_in id (ids_of (drop at list))
place_go list at id d h l =
    let next : place_in id (ids_of (drop at list)) ≡ suc (place_in id (ids_of (drop (suc at) list))) =
    rw (drop-cons list at d h) (goes (get_or list at d).id id (place_in id (ids_of (drop (suc at) list))) l) in
    let one : place_in id (ids_of (drop (at + 1) list)) ≡ place_in id (ids_of (drop (suc at) list)) = ap (λ t. place_in id (ids_of (drop t list))) (add-one at) in
    omega (arith, next, one)
  where
    goes : (y x n : ℕ) → y < x → cond (nat_lt y x) (suc n) 0 ≡ suc n
    goes y x n l = grind (arith, nat_tests)

pub at_none : (list : List Kept) (at id : ℕ) → length list ≤ at → false ≡ is_at (ids_of list) at id
at_none [] at id h = refl
at_none (k ∷ list) zero id h = absurd (omega (arith, h))
at_none (k ∷ list) (suc at) id h = at_none list at id (omega (arith, h))

pub at_some : (list : List Kept) (at id : ℕ) (d : Kept) → at < length list → nat_eq (get_or list at d).id id ≡ is_at (ids_of list) at id
at_some [] at id d h = absurd (omega (arith, h))
at_some (k ∷ list) zero id d h = refl
at_some (k ∷ list) (suc at) id d h = at_some list at id d (omega (arith, h))

not_below : (y x : ℕ) → x ≤ y → nat_lt y x ≡ false
not_below y x l = grind (arith, nat_tests)

is_below : (y x : ℕ) → y < x → nat_lt y x ≡ true
is_below y x l = grind (arith, nat_tests)

is_same : (y x : ℕ) → nat_eq y x ≡ false → x ≡ y → ⊥
is_same y x e h = grind (arith, nat_tests)

-- an id that stands at its place is there already
pub add_there : (list : List Kept) (id at : ℕ) → at ≡ place_in id (ids_of list) → is_at (ids_of list) at id ≡ true → ids_of list ≡ add id (ids_of list)
add_there [] id at e h = absurd (false≢true h)
add_there (k ∷ list) id at e h =
    elim (order id k.id) [
      | below l ↦ (let z : at ≡ 0 = e ∙ ap (λ c. cond c (suc (place_in id (ids_of list))) 0) (not_below k.id id (omega (arith, l))) in
          absurd (differs k.id id l (ap (λ t. is_at (k.id ∷ ids_of list) t id) (sym z) ∙ h)))
      | same s ↦ sym (ap (λ x. add x (k.id ∷ ids_of list)) s ∙ add_here k.id (ids_of list))
      | above l ↦ (let z : at ≡ suc (place_in id (ids_of list)) = e ∙ ap (λ c. cond c (suc (place_in id (ids_of list))) 0) (is_below k.id id l) in
          ap (λ t. k.id ∷ t) (add_there list id (place_in id (ids_of list)) refl (ap (λ t. is_at (k.id ∷ ids_of list) t id) (sym z) ∙ h))
          ∙ sym (add_after id k.id (ids_of list) l))
    ]
  where
    differs : (y x : ℕ) → x < y → nat_eq y x ≡ true → ⊥
    differs y x l e = grind (arith, nat_tests)

-- and another one is put there
pub add_new : (list : List Kept) (kept : Kept) (at : ℕ) → at ≡ place_in kept.id (ids_of list) → is_at (ids_of list) at kept.id ≡ false → ids_of (insert list at kept) ≡ add kept.id (ids_of list)
add_new [] kept at e h = rw e refl
add_new (k ∷ list) kept at e h =
    elim (order kept.id k.id) [
      | below l ↦ (let z : at ≡ 0 = e ∙ ap (λ c. cond c (suc (place_in kept.id (ids_of list))) 0) (not_below k.id kept.id (omega (arith, l))) in
          ap (λ t. ids_of (insert (k ∷ list) t kept)) z ∙ sym (add_before kept.id k.id (ids_of list) l))
      | same s ↦ (let z : at ≡ 0 = e ∙ ap (λ c. cond c (suc (place_in kept.id (ids_of list))) 0) (not_below k.id kept.id (omega (arith, s))) in
          absurd (is_same k.id kept.id (ap (λ t. is_at (k.id ∷ ids_of list) t kept.id) (sym z) ∙ h) s))
      | above l ↦ (let z : at ≡ suc (place_in kept.id (ids_of list)) = e ∙ ap (λ c. cond c (suc (place_in kept.id (ids_of list))) 0) (is_below k.id kept.id l) in
          ap (λ t. ids_of (insert (k ∷ list) t kept)) z
          ∙ ap (λ t. k.id ∷ t) (add_new list kept (place_in kept.id (ids_of list)) refl (ap (λ t. is_at (k.id ∷ ids_of list) t kept.id) (sym z) ∙ h))
          ∙ sym (add_after kept.id k.id (ids_of list) l))
    ]

each_take : {A : Type 0} (P : A → Type 0) (i : ℕ) (xs : List A) → Each P xs → Each P (take i xs)
each_take P zero xs h = tt
each_take P (suc i) [] h = tt
each_take P (suc i) (x ∷ xs) h = (h.0, each_take P i xs h.1)

each_drop : {A : Type 0} (P : A → Type 0) (i : ℕ) (xs : List A) → Each P xs → Each P (drop i xs)
each_drop P zero xs h = h
each_drop P (suc i) [] h = tt
each_drop P (suc i) (x ∷ xs) h = each_drop P i xs h.1

-- what each id passes, each passes with one more that does
pub insert_passes : (test : ℕ → ℕ → Bool) (list : List Kept) (kept : Kept) (at : ℕ) → test kept.id kept.value ≡ true → ListPasses test list → ListPasses test (insert list at kept)
insert_passes test list kept at one all =
    each_append (λ k. test k.id k.value ≡ true) (take at list) (kept ∷ drop at list) (each_take (λ k. test k.id k.value ≡ true) at list all)
    (one, each_drop (λ k. test k.id k.value ≡ true) at list all)

-- one step of a loop from the last id of a list to its first
pub join_step : (more : List Kept) (i : ℕ) (d : Kept) (j : ℕ) → i < length more → j ≡ suc i → (ys old new : List ℕ) → old ≡ union (ids_of (drop j more)) ys
    → new ≡ add (get_or more i d).id old → new ≡ union (ids_of (drop i more)) ys
join_step more i d j h n ys old new e f =
    f ∙ ap (add (get_or more i d).id) (e ∙ ap (λ t. union (ids_of (drop t more)) ys) n) ∙ ap (λ t. union (ids_of t) ys) (sym (drop-cons more i d h))

-- nothing more, and a list alone
pub union_nil : (xs : List ℕ) → RiseStrictly xs → union xs [] ≡ xs
union_nil [] h = refl
union_nil (x ∷ xs) h = ap (add x) (union_nil xs h.1) ∙ add_first x xs h.0

pub rises_union : (xs ys : List ℕ) → RiseStrictly ys → RiseStrictly (union xs ys)
rises_union [] ys h = h
rises_union (x ∷ xs) ys h = rises_add x (union xs ys) (rises_union xs ys h)

pub each_union : (P : ℕ → Type 0) (xs ys : List ℕ) → Each P xs → Each P ys → Each P (union xs ys)
each_union P [] ys h k = k
each_union P (x ∷ xs) ys h k = each_add P x (union xs ys) h.0 (each_union P xs ys h.1 k)

-- a list with a number more is no shorter, and neither is one with many
add_grows : (x : ℕ) (ys : List ℕ) → length ys ≤ length (add x ys)
add_grows x [] = omega arith
add_grows x (y ∷ ys) =
    elim (order x y) [
      | below l ↦ (let e : length (add x (y ∷ ys)) ≡ suc (suc (length ys)) = ap length (add_before x y ys l) in omega (arith, e))
      | same s ↦ (let e : length (add x (y ∷ ys)) ≡ suc (length ys) = ap (λ z. length (add z (y ∷ ys))) s ∙ ap length (add_here y ys) in omega (arith, e))
      | above l ↦ (let e : length (add x (y ∷ ys)) ≡ suc (length (add x ys)) = ap length (add_after x y ys l) in omega (arith, e, add_grows x ys))
    ]

pub union_grows : (xs ys : List ℕ) → length ys ≤ length (union xs ys)
union_grows [] ys = omega arith
union_grows (x ∷ xs) ys = omega (arith, union_grows xs ys, add_grows x (union xs ys))

-- the numbers of one list stand in their order among those of another
abbrev StandsIn : List ℕ → List ℕ → Type 0
StandsIn [] zs = Unit {0}
StandsIn (x ∷ xs) [] = ⊥
StandsIn (x ∷ xs) (z ∷ zs) = ((x ≡ z) × StandsIn xs zs) ⊎ StandsIn (x ∷ xs) zs

stands_short : (xs zs : List ℕ) → StandsIn xs zs → length xs ≤ length zs
stands_short [] zs h = omega arith
stands_short (x ∷ xs) [] h = absurd h
stands_short (x ∷ xs) (z ∷ zs) (inl h) = omega (arith, stands_short xs zs h.1)
stands_short (x ∷ xs) (z ∷ zs) (inr h) = omega (arith, stands_short (x ∷ xs) zs h)

-- without a head that is below them
stands_behind : (xs : List ℕ) (z : ℕ) (zs : List ℕ) → Each (λ x. z < x) xs → StandsIn xs (z ∷ zs) → StandsIn xs zs
stands_behind [] z zs over h = tt
stands_behind (x ∷ xs) z zs over (inl h) = absurd (omega (arith, over.0, h.0))
stands_behind (x ∷ xs) z zs over (inr h) = h

stands_add : (x : ℕ) (xs zs : List ℕ) → Each (λ y. x < y) xs → StandsIn xs zs → StandsIn (x ∷ xs) (add x zs)
stands_add x [] [] over h = inl (refl, tt)
stands_add x (y ∷ xs) [] over h = absurd h
stands_add x xs (z ∷ zs) over h =
    elim (order x z) [
      | below l ↦ subst (StandsIn (x ∷ xs)) (sym (add_before x z zs l)) (inl (refl, h))
      | same s ↦
          (let at : add x (z ∷ zs) ≡ z ∷ zs = ap (λ w. add w (z ∷ zs)) s ∙ add_here z zs in
          subst (StandsIn (x ∷ xs)) (sym at) (inl (s, stands_behind xs z zs (subst (λ w. Each (λ y. w < y) xs) s over) h)))
      | above l ↦
          subst (StandsIn (x ∷ xs)) (sym (add_after x z zs l))
          (inr (stands_add x xs zs over (stands_behind xs z zs (each_map (λ y. x < y) (λ y. z < y) (λ y m. omega (arith, l, m)) xs over) h)))
    ]

stands_union : (xs ys : List ℕ) → RiseStrictly xs → StandsIn xs (union xs ys)
stands_union [] ys rise = tt
stands_union (x ∷ xs) ys rise = stands_add x xs (union xs ys) rise.0 (stands_union xs ys rise.1)

-- with other numbers an ascending list is no shorter
pub union_holds : (xs ys : List ℕ) → RiseStrictly xs → length xs ≤ length (union xs ys)
union_holds xs ys rise = stands_short xs (union xs ys) (stands_union xs ys rise)

-- a list of so many at most, where it has at least so many, and where it hasn't
pub up_to_many : (most : ℕ) (whole list : List ℕ) → IsUpTo most whole list → most ≤ length list → most ≤ length whole
up_to_many most whole list (inl e) l = omega (arith, l, ap length e)
up_to_many most whole list (inr h) l = h.0

pub up_to_few : (most : ℕ) (whole list : List ℕ) → IsUpTo most whole list → length list < most → list ≡ whole
up_to_few most whole list (inl e) l = e
up_to_few most whole list (inr h) l = absurd (omega (arith, h.1, l))
