-- The shapes of a column, by the ids of their rows.
use Rattle.std.proofs.Common.{◌≡◌, ℕ, Bool, true, false, cond, nat_eq, List, [], ◌∷◌, refl, sym, ◌∙◌, ap, Option, Some, None, true≢false}
use Rattle.std.specs.Prelude.{is_some, MatchOption}
use Rattle.std.specs.List.{find}
use Rattle.std.specs.Option.{option_map}
use Rattle.sand_base.specs.declared.kind.Kind.{Kind}
use Rattle.sand_base.specs.declared.shape.Shape.{Shape}
use Rattle.sand_base.specs.declared.value.Value.{Value}
use Rattle.sand_base.specs.declared.value.Value.TheVariants as value
use Rattle.sand_model.specs.Database.{element, shape_in, shapes_of, shape_at}
use Rattle.tuple_codec.specs.Decoding.{HasValue}
use Rattle.tuple_file.specs.Rows.{of_id}
use Rattle.tuple_file.specs.Calls.{IsValueAt}
use Rattle.tuple_file.specs.Table.{encodings, AreRowsFor}
use Rattle.tuple_file.proofs.Tables.{value_fetched}

-- the row of an id
abbrev Rows : Type 0
Rows = List (ℕ × List Value)

none_some : {A : Type 0} (x : A) → None ≡ Some x → ⊥
none_some x e = true≢false (sym (ap (λ o. is_some o) e))

pub some_same : {A : Type 0} (x y : A) → Some x ≡ Some y → x ≡ y
some_same {A} x y e = ap value_or e where
  value_or : Option A → A
  value_or None = x
  value_or (Some a) = a

-- the shape of the row of an id is that of the id
pub shape_of_row : (rows : Rows) (column id : ℕ) (vs : List Value) (s : Shape) → of_id id rows ≡ Some vs → shape_in column vs ≡ Some s → shape_at (shapes_of column rows) id ≡ Some s
shape_of_row [] column id vs s e h = absurd (none_some vs e)
shape_of_row (row ∷ rows) column id vs s e h =
    let go : (b : Bool) → nat_eq row.0 id ≡ b → option_map (λ (r : ℕ × List Value). r.1) (cond b (Some row) (find (λ r. nat_eq r.0 id) rows)) ≡ Some vs
    → shape_at (shapes_of column (row ∷ rows)) id ≡ Some s =
    elim [
      | true ↦ λ t k.
          let here : shape_in column row.1 ≡ Some s = ap (λ (v : List Value). shape_in column v) (some_same row.1 vs k) ∙ h in
          rw here (rw t refl)
      | false ↦ λ t k.
          let rest : shape_at (shapes_of column rows) id ≡ Some s = shape_of_row rows column id vs s k h in
          let of : (o : Option Shape) → shape_in column row.1 ≡ o → shape_at (shapes_of column (row ∷ rows)) id ≡ Some s =
          elim [ None ↦ λ n. rw n rest | Some x ↦ λ n. rw n (rw t rest) ] in
          of (shape_in column row.1) refl
    ] in
    go (nat_eq row.0 id) refl e

-- the shape that was read is that of the id
pub shape_fetched : (schema : List (List ℕ × Kind)) (rows : Rows) (column id : ℕ) (found : Option Value) (x s : Shape) → AreRowsFor schema rows
    → IsValueAt schema (encodings rows) id column found → found ≡ Some (value.Shape x) → shape_at (shapes_of column rows) id ≡ Some s → x ≡ s
shape_fetched schema rows column id found x s all read is at =
    let go : (o : Option (List Value)) → of_id id rows ≡ o → MatchOption o (found ≡ None) (λ vs. HasValue vs column found) → x ≡ s =
    elim [
      | None ↦ λ e none. absurd (none_some (value.Shape x) (sym none ∙ is))
      | Some vs ↦ λ e has.
          let there : element vs column ≡ Some (value.Shape x) = sym has ∙ is in
          let shape : shape_in column vs ≡ Some x = rw there refl in
          some_same x s (sym (shape_of_row rows column id vs x e shape) ∙ at)
    ] in
    go (of_id id rows) refl (value_fetched schema rows id column found all read)
