-- Rows of the schema are refused for no kind, so a load of them is the model's.
use Rattle.std.proofs.Common.{◌≡◌, ℕ, Bool, true, ◌&&◌, not, List, [], ◌∷◌, length, map, refl, ◌∙◌, ap, arith, All, Option, Some, None}
use Rattle.std.proofs.lemmas.List.Elements.{All-head, All-tail}
use Rattle.sand_base.specs.InRange.{IsRowOf}
use Rattle.sand_base.specs.Shape.{value_kind, same_kind}
use Rattle.sand_base.specs.declared.kind.Kind.{Kind}
use Rattle.sand_base.specs.declared.kind.Kind.TheVariants as kind
use Rattle.sand_base.specs.declared.refusal.Refusal.{Refusal}
use Rattle.sand_base.specs.declared.refusal.Refusal.TheVariants as why
use Rattle.sand_base.specs.declared.value.Value.{Value}
use Rattle.sand_model.specs.Checks.{first_refusal}
use Rattle.sand_model.specs.Database.{Relation, with_row}
use Rattle.sand_model.specs.StatementChecks.{Setting, refused_where, is_row_of, check_length, check_ids, check_listings, entered}
use Rattle.sand_store.specs.Calls.{loaded}
use Rattle.sand_store.specs.Loads.{row_refusal}

abbrev Columns : Type 0
Columns = List (List ℕ × Kind)

same_itself : (k : Kind) → same_kind k k ≡ true
same_itself kind.Int = refl
same_itself kind.Text = refl
same_itself kind.Point = refl
same_itself kind.Segment = refl
same_itself kind.Polygon = refl

abbrev first_or : Kind → List Kind → Kind
first_or k [] = k
first_or k (x ∷ xs) = x

abbrev others : List Kind → List Kind
others [] = []
others (x ∷ xs) = xs

-- a row of the schema passes the test
of_schema : (cs : Columns) (vs : List Value) → IsRowOf cs vs → is_row_of cs vs ≡ true
of_schema [] [] e = refl
of_schema [] (v ∷ vs) e = (let n : length (map value_kind (v ∷ vs)) ≡ 0 = ap (λ (ks : List Kind). length ks) e in absurd (omega (arith, n)))
of_schema (c ∷ cs) [] e = (let n : 0 ≡ length (map (λ (x : List ℕ × Kind). x.1) (c ∷ cs)) = ap (λ (ks : List Kind). length ks) e in absurd (omega (arith, n)))
of_schema (c ∷ cs) (v ∷ vs) e =
    let here : value_kind v ≡ c.1 = ap (λ (ks : List Kind). first_or c.1 ks) e in
    let rest : is_row_of cs vs ≡ true = of_schema cs vs (ap others e) in
    ap (λ (k : Kind). same_kind k c.1 && is_row_of cs vs) here ∙ (ap (λ (b : Bool). b && is_row_of cs vs) (same_itself c.1) ∙ rest)

-- the checks of such a row are the model's
kinds_pass : (setting : Setting) (row : List Value) (relation : Relation) → IsRowOf relation.schema row
    → row_refusal setting row relation ≡ first_refusal (check_length row ∷ check_ids setting.limits relation ∷ check_listings setting.limits (with_row setting.gap row relation) ∷ [])
kinds_pass setting row relation h =
    ap (λ (b : Bool). first_refusal (refused_where (not b) why.WrongKind ∷ check_length row ∷ check_ids setting.limits relation
    ∷ check_listings setting.limits (with_row setting.gap row relation) ∷ []))
    (of_schema relation.schema row h)

-- Rows of the schema are loaded as the model enters them.
pub loaded_entered : (setting : Setting) (rows : List (List Value)) (relation : Relation) → All (IsRowOf relation.schema) rows → loaded setting rows relation ≡ entered setting rows relation
loaded_entered setting [] relation h = refl
loaded_entered setting (row ∷ rows) relation h =
    let grown : Relation = with_row setting.gap row relation in
    let rest : loaded setting rows grown ≡ entered setting rows grown = loaded_entered setting rows grown (All-tail (IsRowOf relation.schema) row rows h) in
    let same = kinds_pass setting row relation (All-head (IsRowOf relation.schema) row rows h) in
    let go : (o : Option Refusal) → first_refusal (check_length row ∷ check_ids setting.limits relation ∷ check_listings setting.limits grown ∷ []) ≡ o
    → loaded setting (row ∷ rows) relation ≡ entered setting (row ∷ rows) relation =
    elim [
      | None ↦ λ e. (let all : row_refusal setting row relation ≡ None = same ∙ e in rw (all, e) rest)
      | Some w ↦ λ e.
          (let all : row_refusal setting row relation ≡ Some w = same ∙ e in rw (all, e) refl)
    ] in
    go (first_refusal (check_length row ∷ check_ids setting.limits relation ∷ check_listings setting.limits grown ∷ [])) refl
