-- Members in the order of the rows that they are of: their ids, the member of an id, and those left without it.
use Rattle.std.proofs.Common.{◌≡◌, ℕ, ◌+◌, ◌≤◌, Bool, true, false, cond, nat_eq, List, [], ◌∷◌, map, filter, refl, sym, ◌∙◌, ap, ap₂, subst, inl, inr, arith, true≢false}
use Rattle.std.specs.Prelude.{not, is_some, IsPermutation, Option, None, Some}
use Rattle.std.specs.List.{find, sum_by}
use Rattle.std.specs.Option.{option_map}
use Rattle.std.proofs.lemmas.Bool.Decides.{eqb_tells}
use Rattle.std.proofs.lemmas.List.Sorted.{IsPermutation-map, sum_by-IsPermutation}
use Rattle.std.proofs.lemmas.List.Sums.{sum_by-cons}
use Rattle.code_btree.specs.Tree.{same, times}
use Rattle.code_btree.proofs.Lists.{same_cases, same_self}
use Rattle.sand_base.specs.declared.goal.Goal.{Goal}
use Rattle.sand_base.specs.declared.goal.Goal.TheVariants as figure
use Rattle.sand_base.specs.declared.rough.Rough.{Rough}
use Rattle.sand_base.specs.declared.rough.Rough.TheVariants as rough
use Rattle.sand_base.specs.declared.shape.Shape.{Shape}
use Rattle.sand_base.specs.declared.shape.Shape.TheVariants as shape
use Rattle.sand_model.specs.Database.{shape_at}
use Rattle.sand_model.specs.Roughs.{rough_figure, row_figure}
use Rattle.pmr_tree.specs.Entries.{figure_of}
use Rattle.pmr_tree.proofs.Entries.{map_filter}
use Rattle.r_tree.specs.Entry.{Member, member_ids}
use Rattle.r_tree.specs.Steps.{weigh}
use Rattle.r_tree.specs.Listing.{member_figure, AreMembersOf}

-- how often a number stands in a list is a sum over it
times-sum : (q : ℕ) (xs : List ℕ) → times q xs ≡ sum_by (same q) xs
times-sum q [] = refl
times-sum q (x ∷ xs) = omega (arith, times-sum q xs, sum_by-cons (same q) x xs)

-- so it is the same in another order
pub times-perm : (q : ℕ) (xs ys : List ℕ) → IsPermutation xs ys → times q ys ≡ times q xs
times-perm q xs ys p = times-sum q ys ∙ (sum_by-IsPermutation (same q) xs ys p ∙ sym (times-sum q xs))

-- the ids of rows
abbrev pub row_ids : List (ℕ × Shape) → List ℕ
row_ids rows = map (λ (row : ℕ × Shape). row.0) rows

-- the id of an id with a figure
abbrev first_of : ℕ × Goal → ℕ
first_of x = x.0

-- the ids of members with their figures are those of the members
pub member_firsts : (is : List Member) → map first_of (map member_figure is) ≡ member_ids is
member_firsts [] = refl
member_firsts (i ∷ is) = ap (λ (ids : List ℕ). i.0 ∷ ids) (member_firsts is)

-- and those of rows with their figures are those of the rows
pub row_firsts : (rows : List (ℕ × Shape)) → map first_of (map row_figure rows) ≡ row_ids rows
row_firsts [] = refl
row_firsts (row ∷ rows) = ap (λ (ids : List ℕ). row.0 ∷ ids) (row_firsts rows)

-- members of rows have their ids
pub ids_same : (is : List Member) (rows : List (ℕ × Shape)) → AreMembersOf is rows → member_ids is ≡ row_ids rows
ids_same is rows e = sym (member_firsts is) ∙ (ap (λ (xs : List (ℕ × Goal)). map first_of xs) e ∙ row_firsts rows)

-- the rough shape of a figure
abbrev rough_in_figure : Goal → Rough
rough_in_figure (figure.Shape (shape.Point p)) = rough.Point p
rough_in_figure (figure.Shape (shape.Segment s)) = rough.Segment s
rough_in_figure (figure.Shape (shape.Polygon ring)) = rough.Point (record { x = 0; y = 0 })
rough_in_figure (figure.Rect r) = rough.Bound r

rough_is : (r : Rough) → rough_in_figure (figure_of r) ≡ r
rough_is (rough.Point p) = refl
rough_is (rough.Segment s) = refl
rough_is (rough.Bound r) = refl

-- rough shapes that are one figure are one
pub one_rough : (a b : Rough) → figure_of a ≡ figure_of b → a ≡ b
one_rough a b e = sym (rough_is a) ∙ (ap rough_in_figure e ∙ rough_is b)

-- the member of an id
abbrev pub member_at : List Member → ℕ → Option Rough
member_at is id = option_map (λ (i : Member). i.1) (find (λ (i : Member). nat_eq i.0 id) is)

-- members without that of an id
abbrev pub members_left : ℕ → List Member → List Member
members_left id is = filter (λ (i : Member). not (nat_eq i.0 id)) is

some_none : {A : Type 0} (x : A) → None ≡ Some x → ⊥
some_none x e = true≢false (sym (ap (λ o. is_some o) e))

some_is : {A : Type 0} (x y : A) → Some x ≡ Some y → x ≡ y
some_is {A} x y e = ap value_or e where
  value_or : Option A → A
  value_or None = x
  value_or (Some s) = s

-- the first of a list, and the others
abbrev first_or : {A : Type 0} → A → List A → A
first_or x [] = x
first_or x (y ∷ ys) = y

abbrev others_of : {A : Type 0} → List A → List A
others_of [] = []
others_of (y ∷ ys) = ys

none_one : {A : Type 0} (x : A) (xs : List A) → [] ≡ x ∷ xs → ⊥
none_one {A} x xs e = false_one (ap is_one e) where
  is_one : List A → Bool
  is_one [] = true
  is_one (y ∷ ys) = false

  false_one : true ≡ false → ⊥
  false_one h = true≢false h

-- the row of an id has a member of its shape
pub member_found : (is : List Member) (rows : List (ℕ × Shape)) (id : ℕ) (s : Shape) (q : Rough) → AreMembersOf is rows → shape_at rows id ≡ Some s
    → figure_of q ≡ rough_figure s → member_at is id ≡ Some q
member_found is [] id s q e h f = absurd (some_none s h)
member_found [] (row ∷ rows) id s q e h f = absurd (none_one (row_figure row) (map row_figure rows) e)
member_found (i ∷ is) (row ∷ rows) id s q e h f =
    let here : member_figure i ≡ row_figure row = ap (λ (xs : List (ℕ × Goal)). first_or (member_figure i) xs) e in
    let rest : AreMembersOf is rows = ap (λ (xs : List (ℕ × Goal)). others_of xs) e in
    let ids : i.0 ≡ row.0 = ap (λ (x : ℕ × Goal). x.0) here in
    let figures : figure_of i.1 ≡ rough_figure row.1 = ap (λ (x : ℕ × Goal). x.1) here in
    let go : (b : Bool) → nat_eq row.0 id ≡ b → option_map (λ (r : ℕ × Shape). r.1) (cond b (Some row) (find (λ (r : ℕ × Shape). nat_eq r.0 id) rows)) ≡ Some s
    → option_map (λ (j : Member). j.1) (cond b (Some i) (find (λ (j : Member). nat_eq j.0 id) is)) ≡ Some q =
    elim [
      | true ↦ λ t k. ap (λ (r : Rough). Some r) (one_rough i.1 q (figures ∙ (ap rough_figure (some_is row.1 s k) ∙ sym f)))
      | false ↦ λ t k. member_found is rows id s q rest k f
    ] in
    let same : nat_eq i.0 id ≡ nat_eq row.0 id = ap (λ (n : ℕ). nat_eq n id) ids in
    rw same (go (nat_eq row.0 id) refl h)

-- where no member has the id, all are left
pub none_left : (id : ℕ) (is : List Member) → times id (member_ids is) ≡ 0 → members_left id is ≡ is
none_left id [] z = refl
none_left id (i ∷ is) z = elim (same_cases id i.0) [
  | inl x ↦ absurd (omega (arith, x.0, z))
  | inr x ↦ elim (eqb_tells i.0 id) [
    | inl y ↦ absurd (x.1 (sym y.1))
    | inr y ↦ rw y.0 (ap (λ (js : List Member). i ∷ js) (none_left id is (omega (arith, z))))
  ]
]

-- the member of an id weighs what is missing without it
pub weigh_left : (f : Member → ℕ) (id : ℕ) (q : Rough) (is : List Member) → times id (member_ids is) ≤ 1 → member_at is id ≡ Some q
    → weigh f is ≡ f (id, q) + weigh f (members_left id is)
weigh_left f id q [] l e = absurd (some_none q e)
weigh_left f id q (i ∷ is) l e = elim (eqb_tells i.0 id) [
  | inl y ↦
      let one : option_map (λ (j : Member). j.1) (cond true (Some i) (find (λ (j : Member). nat_eq j.0 id) is)) ≡ Some q =
      ap (λ (b : Bool). option_map (λ (j : Member). j.1) (cond b (Some i) (find (λ (j : Member). nat_eq j.0 id) is))) (sym y.0) ∙ e in
      let it : i ≡ (id, q) = ap₂ (λ (n : ℕ) (r : Rough). (n, r)) y.1 (some_is i.1 q one) in
      let counted : same id i.0 ≡ 1 = ap (λ (n : ℕ). same id n) y.1 ∙ same_self id in
      let none : members_left id is ≡ is = none_left id is (omega (arith, l, counted)) in
      rw y.0 (omega (arith, ap f it, ap (λ (js : List Member). weigh f js) none))
  | inr y ↦
      let rest : option_map (λ (j : Member). j.1) (cond false (Some i) (find (λ (j : Member). nat_eq j.0 id) is)) ≡ Some q =
      ap (λ (b : Bool). option_map (λ (j : Member). j.1) (cond b (Some i) (find (λ (j : Member). nat_eq j.0 id) is))) (sym y.0) ∙ e in
      rw y.0 (omega (arith, weigh_left f id q is (omega (arith, l)) rest))
]

-- the members left are those of the rows left
pub members_of_left : (id : ℕ) (is : List Member) (rows : List (ℕ × Shape)) → AreMembersOf is rows
    → AreMembersOf (members_left id is) (filter (λ (row : ℕ × Shape). not (nat_eq row.0 id)) rows)
members_of_left id is rows e =
    let p : ℕ × Goal → Bool = λ x. not (nat_eq x.0 id) in
    map_filter member_figure p is ∙ (ap (λ (xs : List (ℕ × Goal)). filter p xs) e ∙ sym (map_filter row_figure p rows))
