-- Rows and their encodings, by id.
use Rattle.std.proofs.Common.{◌≡◌, ℕ, ◌<◌, Bool, true, false, cond, List, [], ◌∷◌, ◌++◌, refl, sym, ◌∙◌, ap, ap₂, subst, arith}
use Rattle.std.specs.Prelude.{Option, None, Some, nat_lt, nat_eq, not, option_map, IfSome, MatchOption}
use Rattle.std.specs.List.{All, filter, find}
use Rattle.std.proofs.lemmas.List.{map-append}
use Rattle.std.proofs.lemmas.List.Elements.{All-tail}
use Rattle.sand_base.specs.declared.kind.Kind.{Kind}
use Rattle.sand_base.specs.declared.value.Value.{Value}
use Rattle.tuple_codec.specs.Encoding.{encoding}
use Rattle.tuple_codec.specs.Decoding.{IsRowFor, IsEncodingOf, HasValue, IsValueIn}
use Rattle.tuple_codec.proofs.Rows.{one_encoding}
use Rattle.code_btree.proofs.Orders.{lt_is, lt_not}
use Rattle.tuple_file.specs.Rows.{of_id, with_id, without_id}
use Rattle.tuple_file.specs.Calls.{IsRowAt, IsValueAt}
use Rattle.tuple_file.proofs.Counts.{none_some}
use Rattle.tuple_file.specs.Table.{encodings, AreRowsFor}

encodings-filter : (p : ℕ → Bool) (table : List (ℕ × List Value)) → encodings (filter (λ r. p r.0) table) ≡ filter (λ r. p r.0) (encodings table)
encodings-filter p [] = refl
encodings-filter p (r ∷ rs) = elim (p r.0) as (λ b. encodings (cond b (r ∷ filter (λ r. p r.0) rs) (filter (λ r. p r.0) rs))
    ≡ cond b ((r.0, encoding r.1) ∷ filter (λ r. p r.0) (encodings rs)) (filter (λ r. p r.0) (encodings rs))) [
      | true ↦ ap (λ (t : List (ℕ × List ℕ)). (r.0, encoding r.1) ∷ t) (encodings-filter p rs)
      | false ↦ encodings-filter p rs
    ]

pub encodings-with : (id : ℕ) (row : List Value) (table : List (ℕ × List Value)) → encodings (with_id id row table) ≡ with_id id (encoding row) (encodings table)
encodings-with id row table =
    map-append (λ (r : ℕ × List Value). (r.0, encoding r.1)) (filter (λ r. nat_lt r.0 id) table) ((id, row) ∷ filter (λ r. nat_lt id r.0) table)
    ∙ ap₂ (λ (a b : List (ℕ × List ℕ)). a ++ ((id, encoding row) ∷ b)) (encodings-filter (λ i. nat_lt i id) table) (encodings-filter (λ i. nat_lt id i) table)

pub encodings-without : (id : ℕ) (table : List (ℕ × List Value)) → encodings (without_id id table) ≡ without_id id (encodings table)
encodings-without id table = encodings-filter (λ i. not (nat_eq i id)) table

encodings-find : (id : ℕ) (table : List (ℕ × List Value)) → of_id id (encodings table) ≡ option_map encoding (of_id id table)
encodings-find id [] = refl
encodings-find id (r ∷ rs) = elim (nat_eq r.0 id) as
    (λ b. option_map (λ (x : ℕ × List ℕ). x.1) (cond b (Some (r.0, encoding r.1)) (find (λ x. nat_eq x.0 id) (encodings rs)))
    ≡ option_map encoding (option_map (λ (x : ℕ × List Value). x.1) (cond b (Some r) (find (λ x. nat_eq x.0 id) rs)))) [
      | true ↦ refl
      | false ↦ encodings-find id rs
    ]

All-head : {X : Type 0} (P : X → Type 0) (x : X) (xs : List X) → All P (x ∷ xs) → P x
All-head P x xs h = h 0 x (omega arith)

-- the row of an id is one of the table
row_for : (schema : List (List ℕ × Kind)) (id : ℕ) (table : List (ℕ × List Value)) → AreRowsFor schema table → IfSome (of_id id table) (λ row. IsRowFor schema row)
row_for schema id [] h = tt
row_for schema id (r ∷ rs) h = elim (nat_eq r.0 id) as (λ b. IfSome (option_map (λ (x : ℕ × List Value). x.1) (cond b (Some r) (find (λ x. nat_eq x.0 id) rs))) (λ row. IsRowFor schema row)) [
  | true ↦ All-head (λ x. IsRowFor schema x.1) r rs h
  | false ↦ row_for schema id rs (All-tail (λ x. IsRowFor schema x.1) r rs h)
]

-- of two answers for one encoding
same_answer : (schema : List (List ℕ × Kind)) (rows : List (ℕ × List ℕ)) (id : ℕ) (row found : Option (List Value)) → of_id id rows ≡ option_map encoding row
    → IfSome row (λ r. IsRowFor schema r) → IsRowAt schema rows id found → found ≡ row
same_answer schema rows id None None e is h = refl
same_answer schema rows id None (Some r) e is h = absurd (none_some h.0 (sym h.1.0 ∙ e))
same_answer schema rows id (Some r) None e is h = absurd (h (encoding r) r e (record { fitting = is; encoded = refl }))
same_answer schema rows id (Some r) (Some s) e is h =
    let P : Option (List ℕ) → Type 0 = λ o. IfSome o (λ b. IsEncodingOf schema s b) in
    let other : IsEncodingOf schema s (encoding r) = subst P (sym h.1.0 ∙ e) h.1.1 in
    ap (λ (x : List Value). Some x) (one_encoding schema (encoding r) s r other (record { fitting = is; encoded = refl }))

pub fetched : (schema : List (List ℕ × Kind)) (table : List (ℕ × List Value)) (id : ℕ) (found : Option (List Value)) → AreRowsFor schema table
    → IsRowAt schema (encodings table) id found → found ≡ of_id id table
fetched schema table id found all h = same_answer schema (encodings table) id (of_id id table) found (encodings-find id table) (row_for schema id table all) h

-- the value of an encoding is that of its row
value_of_row : (schema : List (List ℕ × Kind)) (row : Option (List Value)) (column : ℕ) (value : Option Value) → IfSome row (λ r. IsRowFor schema r)
    → MatchOption (option_map encoding row) (value ≡ None) (λ bytes. IsValueIn schema bytes column value) → MatchOption row (value ≡ None) (λ r. HasValue r column value)
value_of_row schema None column value is h = h
value_of_row schema (Some r) column value is h = h r (record { fitting = is; encoded = refl })

pub value_fetched : (schema : List (List ℕ × Kind)) (table : List (ℕ × List Value)) (id column : ℕ) (value : Option Value) → AreRowsFor schema table
    → IsValueAt schema (encodings table) id column value
    → MatchOption (of_id id table) (value ≡ None) (λ row. HasValue row column value)
value_fetched schema table id column value all h =
    let P : Option (List ℕ) → Type 0 = λ o. MatchOption o (value ≡ None) (λ bytes. IsValueIn schema bytes column value) in
    value_of_row schema (of_id id table) column value (row_for schema id table all) (subst P (encodings-find id table) h)

-- an id above all others
all_below : (id : ℕ) (rows : List (ℕ × List ℕ)) → All (λ r. r.0 < id) rows → (filter (λ r. nat_lt r.0 id) rows ≡ rows) × (filter (λ r. nat_lt id r.0) rows ≡ [])
all_below id [] h = (refl, refl)
all_below id (r ∷ rs) h =
    let l : r.0 < id = All-head (λ x. x.0 < id) r rs h in
    let rest = all_below id rs (All-tail (λ x. x.0 < id) r rs h) in
    (rw (lt_is r.0 id l) (ap (λ (t : List (ℕ × List ℕ)). r ∷ t) rest.0), rw (lt_not id r.0 (omega arith)) rest.1)

pub greatest_last : (id : ℕ) (bytes : List ℕ) (rows : List (ℕ × List ℕ)) → All (λ r. r.0 < id) rows → with_id id bytes rows ≡ rows ++ ((id, bytes) ∷ [])
greatest_last id bytes rows h = let b = all_below id rows h in ap₂ (λ (x y : List (ℕ × List ℕ)). x ++ ((id, bytes) ∷ y)) b.0 b.1
