-- The checks of relations, by their names, read no more than their outline.
use Rattle.std.proofs.Common.{◌≡◌, ℕ, Bool, true, false, cond, ◌&&◌, ◌||◌, List, [], ◌∷◌, map, Option, Some, None, refl, ◌∙◌, ap, ap₂}
use Rattle.std.specs.List.{list_any}
use Rattle.std.specs.Prelude.{⊤, nat_eq, find, option_map}
use Rattle.sand_base.specs.declared.kind.Kind.{Kind}
use Rattle.sand_base.specs.declared.refusal.Refusal.{Refusal}
use Rattle.sand_base.specs.Shape.{value_kind, same_kind, is_spatial}
use Rattle.sand_base.specs.declared.kind.Kind.TheVariants as kind
use Rattle.sand_model.specs.Checks.{first_refusal, kind_named, is_indexed, has_rectangles, check_search, check_column, place_kind, check_place, check_relation}
use Rattle.sand_model.specs.Checks.{check_tests, check_places, check_operators, can_compare, is_plain, is_plain_pair}
use Rattle.sand_model.specs.Database.{Database, Relation, Index, Attribute, Rectangles, has_name, relation_named, column_named, element}
use Rattle.sand_model.specs.Operators.{relations_of, kth}
use Rattle.statements.specs.Plan as plan
use Rattle.statements.specs.Plan.{Plan}
use Rattle.statements.specs.declared.column.Column.{Column}
use Rattle.statements.specs.declared.column.Place.{Place}
use Rattle.statements.specs.declared.test.Test.{Test}
use Rattle.sand_model.specs.StatementChecks.{in_relation, in_column, is_there}
use Rattle.statement_exec.specs.Outline.{sketch_in, bare_relation}

-- a relation with no more than its sketch
abbrev pub shown : Relation → Relation
shown r = bare_relation (sketch_in r)

-- the relations with no more than their sketches
abbrev pub shown_all : Database → Database
shown_all d = map bare_relation (map sketch_in d)

-- ---- relations

-- both are there, or neither is
abbrev Alike : {A B : Type 0} → Option A → Option B → Type 0
Alike None None = ⊤
Alike (Some a) (Some b) = ⊤
Alike _ _ = ⊥

index_alike : (at : ℕ) (xs : List (ℕ × Index))
    → Alike (find (λ (p : ℕ × Index). nat_eq p.0 at) (map (λ n. (n, Attribute)) (map (λ (i : ℕ × Index). i.0) xs))) (find (λ (p : ℕ × Index). nat_eq p.0 at) xs)
index_alike at [] = tt
index_alike at (x ∷ xs) =
    let go : (b : Bool) → Alike (cond b (Some (x.0, Attribute)) (find (λ (p : ℕ × Index). nat_eq p.0 at) (map (λ n. (n, Attribute)) (map (λ (i : ℕ × Index). i.0) xs))))
    (cond b (Some x) (find (λ (p : ℕ × Index). nat_eq p.0 at) xs)) = elim [
      | true ↦ tt
      | false ↦ index_alike at xs
    ] in
    go (nat_eq x.0 at)

-- a column of a relation has an index where it has one
pub indexed_shown : (r : Relation) (column : List ℕ) → is_indexed (shown r) column ≡ is_indexed r column
indexed_shown r column = go (column_named r.schema column) refl where
  by_index : (at : ℕ) → column_named r.schema column ≡ Some at → (i j : Option (ℕ × Index)) → find (λ (p : ℕ × Index). nat_eq p.0 at) (shown r).indexes ≡ i
      → find (λ (p : ℕ × Index). nat_eq p.0 at) r.indexes ≡ j → Alike i j
      → is_indexed (shown r) column ≡ is_indexed r column
  by_index at e None None a b h = rw (e, a, b) refl
  by_index at e (Some x) (Some y) a b h = rw (e, a, b) refl
  by_index at e None (Some y) a b h = absurd h
  by_index at e (Some x) None a b h = absurd h

  go : (o : Option ℕ) → column_named r.schema column ≡ o → is_indexed (shown r) column ≡ is_indexed r column
  go None e = rw e refl
  go (Some at) e = by_index at e (find (λ (p : ℕ × Index). nat_eq p.0 at) (shown r).indexes) (find (λ (p : ℕ × Index). nat_eq p.0 at) r.indexes) refl refl (index_alike at r.indexes)

listed_alike : (at : ℕ) (xs : List Rectangles) → list_any (λ (tree : Rectangles). nat_eq tree.0 at) (map (λ n. (n, [])) (map (λ (tree : Rectangles). tree.0) xs))
    ≡ list_any (λ (tree : Rectangles). nat_eq tree.0 at) xs
listed_alike at [] = refl
listed_alike at (x ∷ xs) = ap (λ (b : Bool). nat_eq x.0 at || b) (listed_alike at xs)

-- and an R-tree where it has one
pub treed_shown : (r : Relation) (column : List ℕ) → has_rectangles (shown r) column ≡ has_rectangles r column
treed_shown r column = go (column_named r.schema column) refl where
  go : (o : Option ℕ) → column_named r.schema column ≡ o → has_rectangles (shown r) column ≡ has_rectangles r column
  go None e = rw e refl
  go (Some at) e = rw e (listed_alike at r.rectangles)

-- its columns have the same kinds
kind_shown : (r : Relation) (column : List ℕ) → kind_named (shown r) column ≡ kind_named r column
kind_shown r column = go (column_named r.schema column) refl where
  at_place : (at : ℕ) → column_named r.schema column ≡ Some at → (o : Option (List ℕ × Kind)) → element r.schema at ≡ o → kind_named (shown r) column ≡ kind_named r column
  at_place at e None k = rw (e, k) refl
  at_place at e (Some c) k = rw (e, k) refl

  go : (o : Option ℕ) → column_named r.schema column ≡ o → kind_named (shown r) column ≡ kind_named r column
  go None e = rw e refl
  go (Some at) e = at_place at e (element r.schema at) refl

-- ---- relations by their names

pub named_shown : (d : Database) (name : List ℕ) (o : Option Relation) → relation_named d name ≡ o → relation_named (shown_all d) name ≡ option_map shown o
named_shown [] name o e = ap (option_map shown) e
named_shown (r ∷ d) name o e =
    let go : (b : Bool) → cond b (Some r) (relation_named d name) ≡ o → cond b (Some (shown r)) (relation_named (shown_all d) name) ≡ option_map shown o = elim [
      | true ↦ λ k. ap (option_map shown) k
      | false ↦ λ k. named_shown d name o k
    ] in
    go (has_name name r) e

module _ (d : Database) where
  pub there_shown : (name : List ℕ) → is_there (relation_named (shown_all d) name) ≡ is_there (relation_named d name)
  there_shown name =
      let go : (o : Option Relation) → relation_named d name ≡ o → is_there (relation_named (shown_all d) name) ≡ is_there (relation_named d name) = elim [
        | None ↦ λ e. rw (e, named_shown d name None e) refl
        | Some r ↦ λ e. rw (e, named_shown d name (Some r) e) refl
      ] in
      go (relation_named d name) refl

  pub relation_shown : (name : List ℕ) (check : Relation → Option Refusal) → ((r : Relation) → check (shown r) ≡ check r) → in_relation (shown_all d) name check ≡ in_relation d name check
  relation_shown name check h =
      let go : (o : Option Relation) → relation_named d name ≡ o → in_relation (shown_all d) name check ≡ in_relation d name check = elim [
        | None ↦ λ e. rw (e, named_shown d name None e) refl
        | Some r ↦ λ e. rw (e, named_shown d name (Some r) e) (h r)
      ] in
      go (relation_named d name) refl

  pub known_shown : (name : List ℕ) → check_relation (shown_all d) name ≡ check_relation d name
  known_shown name =
      let go : (o : Option Relation) → relation_named d name ≡ o → check_relation (shown_all d) name ≡ check_relation d name = elim [
        | None ↦ λ e. rw (e, named_shown d name None e) refl
        | Some r ↦ λ e. rw (e, named_shown d name (Some r) e) refl
      ] in
      go (relation_named d name) refl

  pub column_shown : (column : Column) (check : Relation → Kind → Option Refusal) → ((r : Relation) (k : Kind) → check (shown r) k ≡ check r k)
      → in_column (shown_all d) column check ≡ in_column d column check
  column_shown column check h =
      let at : (r : Relation) → relation_named d column.relation ≡ Some r → in_column (shown_all d) column check ≡ in_column d column check = λ r e.
      let go : (o : Option Kind) → kind_named r column.column ≡ o → in_column (shown_all d) column check ≡ in_column d column check = elim [
        | None ↦ λ k. rw (e, named_shown d column.relation (Some r) e, k) refl
        | Some kind ↦ λ k. rw (e, named_shown d column.relation (Some r) e, k) (h r kind)
      ] in
      go (kind_named r column.column) refl in
      let go : (o : Option Relation) → relation_named d column.relation ≡ o → in_column (shown_all d) column check ≡ in_column d column check = elim [
        | None ↦ λ e. rw (e, named_shown d column.relation None e) refl
        | Some r ↦ λ e. at r e
      ] in
      go (relation_named d column.relation) refl

  -- ---- plans

  searched_shown : (has : Relation → List ℕ → Bool) → ((r : Relation) (name : List ℕ) → has (shown r) name ≡ has r name) → (column : Column) (asked : Kind → Bool)
      → check_search has (shown_all d) column asked ≡ check_search has d column asked
  searched_shown has same column asked =
      let at : (r : Relation) → relation_named d column.relation ≡ Some r → check_search has (shown_all d) column asked ≡ check_search has d column asked = λ r e.
      let go : (o : Option Kind) → kind_named r column.column ≡ o → check_search has (shown_all d) column asked ≡ check_search has d column asked = elim [
        | None ↦ λ k. rw (e, named_shown d column.relation (Some r) e, k) refl
        | Some kind ↦ λ k. rw (e, named_shown d column.relation (Some r) e, k, same r column.column) refl
      ] in
      go (kind_named r column.column) refl in
      let go : (o : Option Relation) → relation_named d column.relation ≡ o → check_search has (shown_all d) column asked ≡ check_search has d column asked = elim [
        | None ↦ λ e. rw (e, named_shown d column.relation None e) refl
        | Some r ↦ λ e. at r e
      ] in
      go (relation_named d column.relation) refl

  asked_shown : (column : Column) (asked : Kind → Bool) → check_column (shown_all d) column asked ≡ check_column d column asked
  asked_shown = searched_shown is_indexed indexed_shown

  place_shown : (names : List (List ℕ)) (place : Place) → place_kind (shown_all d) names place ≡ place_kind d names place
  place_shown names place =
      let at : (name : List ℕ) → kth names place.k ≡ Some name → place_kind (shown_all d) names place ≡ place_kind d names place = λ name n.
      let go : (o : Option Relation) → relation_named d name ≡ o → place_kind (shown_all d) names place ≡ place_kind d names place = elim [
        | None ↦ λ e. rw (n, e, named_shown d name None e) refl
        | Some r ↦ λ e. rw (n, e, named_shown d name (Some r) e) (kind_shown r place.column)
      ] in
      go (relation_named d name) refl in
      let go : (o : Option (List ℕ)) → kth names place.k ≡ o → place_kind (shown_all d) names place ≡ place_kind d names place = elim [
        | None ↦ λ n. rw n refl
        | Some name ↦ λ n. at name n
      ] in
      go (kth names place.k) refl

  placed_shown : (names : List (List ℕ)) (place : Place) (asked : Kind → Bool) → check_place (shown_all d) names place asked ≡ check_place d names place asked
  placed_shown names place asked =
      let go : (o : Option Kind) → place_kind d names place ≡ o → check_place (shown_all d) names place asked ≡ check_place d names place asked = elim [
        | None ↦ λ e. rw (e, place_shown names place ∙ e) refl
        | Some k ↦ λ e. rw (e, place_shown names place ∙ e) refl
      ] in
      go (place_kind d names place) refl

  tests_shown : (names : List (List ℕ)) (tests : List Test) → check_tests (shown_all d) names tests ≡ check_tests d names tests
  tests_shown names [] = refl
  tests_shown names (test ∷ tests) =
      ap₂ (λ (a b : Option Refusal). first_refusal (a ∷ b ∷ [])) (placed_shown names test.place (λ k. can_compare test.op k (value_kind test.value))) (tests_shown names tests)

  places_shown : (names : List (List ℕ)) (places : List Place) → check_places (shown_all d) names places ≡ check_places d names places
  places_shown names [] = refl
  places_shown names (place ∷ places) =
      ap₂ (λ (a b : Option Refusal). first_refusal (a ∷ b ∷ [])) (placed_shown names place (λ k. true)) (places_shown names places)

  pub operators_shown : (p : Plan) → check_operators (shown_all d) p ≡ check_operators d p
  operators_shown (plan.Scan relation) = known_shown relation
  operators_shown (plan.Rank column goal within) = asked_shown column is_spatial
  operators_shown (plan.Near column goal within) = searched_shown has_rectangles treed_shown column is_spatial
  operators_shown (plan.Window column window) = asked_shown column is_spatial
  operators_shown (plan.PickEqual column v) = asked_shown column (λ k. is_plain k && same_kind k (value_kind v))
  operators_shown (plan.PickBetween column low high) = asked_shown column (same_kind kind.Int)
  operators_shown (plan.Join left right within) = ap₂ (λ (a b : Option Refusal). first_refusal (a ∷ b ∷ [])) (asked_shown left is_spatial) (asked_shown right is_spatial)
  operators_shown (plan.Semi left right within) = ap₂ (λ (a b : Option Refusal). first_refusal (a ∷ b ∷ [])) (asked_shown left is_spatial) (asked_shown right is_spatial)
  operators_shown (plan.Knn k left right within) = ap₂ (λ (a b : Option Refusal). first_refusal (a ∷ b ∷ [])) (asked_shown left is_spatial) (asked_shown right is_spatial)
  operators_shown (plan.Filter p tests) = ap₂ (λ (a b : Option Refusal). first_refusal (a ∷ b ∷ [])) (operators_shown p) (tests_shown (relations_of p) tests)
  operators_shown (plan.Match p place column) =
      let kinds : place_kind (shown_all d) (relations_of p) place ≡ place_kind d (relations_of p) place = place_shown (relations_of p) place in
      let asked : check_column (shown_all d) column (is_plain_pair (place_kind (shown_all d) (relations_of p) place)) ≡ check_column d column (is_plain_pair (place_kind d (relations_of p) place)) =
      ap (λ (k : Option Kind). check_column (shown_all d) column (is_plain_pair k)) kinds ∙ asked_shown column (is_plain_pair (place_kind d (relations_of p) place)) in
      ap₂ (λ (a : Option Refusal) (bs : List (Option Refusal)). first_refusal (a ∷ bs)) (operators_shown p)
      (ap₂ (λ (b c : Option Refusal). b ∷ c ∷ []) (placed_shown (relations_of p) place (λ k. true)) asked)
  operators_shown (plan.Fetch p places) = ap₂ (λ (a b : Option Refusal). first_refusal (a ∷ b ∷ [])) (operators_shown p) (places_shown (relations_of p) places)
  operators_shown (plan.First count p) = operators_shown p
  operators_shown (plan.SortBy p place) = ap₂ (λ (a b : Option Refusal). first_refusal (a ∷ b ∷ [])) (operators_shown p) (placed_shown (relations_of p) place (same_kind kind.Int))
  operators_shown (plan.SortNear p place goal) = ap₂ (λ (a b : Option Refusal). first_refusal (a ∷ b ∷ [])) (operators_shown p) (placed_shown (relations_of p) place is_spatial)
