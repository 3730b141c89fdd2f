-- Rows without the one of an id: their shapes, and what an index has of them.
use Rattle.std.proofs.Common.{◌≡◌, ◌≢◌, ℕ, ◌+◌, ◌*◌, ◌^◌, ◌<◌, ◌≤◌, Bool, true, false, cond, nat_eq, List, [], ◌∷◌, map, refl, sym, ◌∙◌, ap, Option, Some, None, subst}
use Rattle.std.proofs.Common.{arith, inl, inr, true≢false, All}
use Rattle.std.specs.Prelude.{is_some, not}
use Rattle.std.specs.List.{find}
use Rattle.std.specs.Option.{option_map}
use Rattle.std.proofs.lemmas.Bool.Decides.{eqb_tells}
use Rattle.std.proofs.lemmas.List.Elements.{All-head, All-tail}
use Rattle.code_btree.specs.Tree.{times}
use Rattle.code_btree.proofs.Lists.{same_cases}
use Rattle.attr_index.specs.Entries.{Entry, entry_number, without_entry}
use Rattle.attr_index.specs.Key.{value_key}
use Rattle.sand_base.specs.declared.shape.Shape.{Shape}
use Rattle.sand_base.specs.declared.value.Value.{Value}
use Rattle.sand_model.specs.Database.{element, shape_in, shapes_of, shape_at}
use Rattle.sand_model.specs.Tree.{without}
use Rattle.pmr_tree.specs.Lists.{Each, Above, RiseStrictly}
use Rattle.pmr_tree.proofs.Entries.{map_filter}
use Rattle.tuple_file.specs.Rows.{of_id, without_id}
use Rattle.sand_store.specs.Standing.{column_entries}
use Rattle.sand_store.proofs.ColumnsOfShapes.{some_same}
use Rattle.sand_store.proofs.IndexGrowth.{numbers}
use Rattle.sand_store.proofs.RowLists.{Rows, Shapes, ids_of}

-- the shapes of the rows left are those left of all shapes
pub shapes_left : (column id : ℕ) (rows : Rows) → shapes_of column (without_id id rows) ≡ without_id id (shapes_of column rows)
shapes_left column id [] = refl
shapes_left column id (r ∷ rows) =
    let rest : shapes_of column (without_id id rows) ≡ without_id id (shapes_of column rows) = shapes_left column id rows in
    let go : (b : Bool) (o : Option Shape) → nat_eq r.0 id ≡ b → shape_in column r.1 ≡ o → shapes_of column (without_id id (r ∷ rows)) ≡ without_id id (shapes_of column (r ∷ rows)) =
    elim [
      | true ↦ elim [ None ↦ λ e n. rw (n, e) rest | Some s ↦ λ e n. rw (n, e) rest ]
      | false ↦ elim [ None ↦ λ e n. rw (n, e, n) rest | Some s ↦ λ e n. rw (n, e, n) (ap (λ (xs : Shapes). (r.0, s) ∷ xs) rest) ]
    ] in
    go (nat_eq r.0 id) (shape_in column r.1) refl refl

-- and so are their ids
pub ids_left : (id : ℕ) (shapes : Shapes) → ids_of (without_id id shapes) ≡ without id (ids_of shapes)
ids_left id shapes = map_filter (λ (s : ℕ × Shape). s.0) (λ (i : ℕ). not (nat_eq i id)) shapes

-- of another id the shape is what it was, and the id has none
pub shape_left : (shapes : Shapes) (id other : ℕ) → other ≢ id → shape_at (without_id id shapes) other ≡ shape_at shapes other
shape_left [] id other n = refl
shape_left (x ∷ shapes) id other n = elim (eqb_tells x.0 id) [
  | inl y ↦ elim (eqb_tells x.0 other) [
    | inl z ↦ absurd (n (sym z.1 ∙ y.1))
    | inr z ↦ rw (y.0, z.0) (shape_left shapes id other n)
  ]
  | inr y ↦
      let go : (b : Bool) → nat_eq x.0 other ≡ b → shape_at (without_id id (x ∷ shapes)) other ≡ shape_at (x ∷ shapes) other =
      elim [ true ↦ λ t. rw (y.0, t) refl | false ↦ λ t. rw (y.0, t) (shape_left shapes id other n) ] in
      go (nat_eq x.0 other) refl
]

pub shape_gone : (shapes : Shapes) (id : ℕ) → shape_at (without_id id shapes) id ≡ None
shape_gone [] id = refl
shape_gone (x ∷ shapes) id = elim (eqb_tells x.0 id) [
  | inl y ↦ rw y.0 (shape_gone shapes id)
  | inr y ↦ rw (y.0, y.0) (shape_gone shapes id)
]

none_some : (s : Shape) → None ≡ Some s → ⊥
none_some s e = true≢false (sym (ap (λ (o : Option Shape). is_some o) e))

-- an id that has a shape then is another one, and had it
pub shape_was : (shapes : Shapes) (id other : ℕ) (s : Shape) → shape_at (without_id id shapes) other ≡ Some s → (other ≢ id) × (shape_at shapes other ≡ Some s)
shape_was shapes id other s e = elim (eqb_tells other id) [
  | inl y ↦
      let P : ℕ → Type 0 = λ i. shape_at (without_id id shapes) i ≡ Some s in
      absurd (none_some s (sym (shape_gone shapes id) ∙ subst P y.1 e))
  | inr y ↦ (y.1, sym (shape_left shapes id other y.1) ∙ e)
]

-- of the ids left all shapes are what they were
pub all_left : (shapes : Shapes) (id : ℕ) (ids : List ℕ) → Each (λ other. shape_at shapes other ≡ shape_at (without_id id shapes) other) (without id ids)
all_left shapes id [] = tt
all_left shapes id (x ∷ ids) = elim (eqb_tells x id) [
  | inl y ↦ rw y.0 (all_left shapes id ids)
  | inr y ↦ rw y.0 (sym (shape_left shapes id x y.1), all_left shapes id ids)
]

-- the row of an id is the only one of it where the ids ascend
abbrev pub OnlyRow : ℕ → List Value → Rows → Type 0
OnlyRow id row rows = Each (λ r. r.0 ≡ id → r.1 ≡ row) rows

above_id : (n id : ℕ) (row : List Value) (rows : Rows) → n ≡ id → Above n (map (λ (r : ℕ × List Value). r.0) rows) → OnlyRow id row rows
above_id n id row [] e h = tt
above_id n id row (r ∷ rows) e h = ((λ k. absurd (omega (arith, e, k, h.0))), above_id n id row rows e h.1)

pub only_row : (id : ℕ) (row : List Value) (rows : Rows) → RiseStrictly (map (λ (r : ℕ × List Value). r.0) rows) → of_id id rows ≡ Some row → OnlyRow id row rows
only_row id row [] h e = tt
only_row id row (r ∷ rows) h e =
    let go : (b : Bool) → nat_eq r.0 id ≡ b → option_map (λ (x : ℕ × List Value). x.1) (cond b (Some r) (find (λ x. nat_eq x.0 id) rows)) ≡ Some row → OnlyRow id row (r ∷ rows) =
    elim [
      | true ↦ λ t k. elim (eqb_tells r.0 id) [
        | inl y ↦ ((λ same. some_same r.1 row k), above_id r.0 id row rows y.1 h.0)
        | inr y ↦ absurd (true≢false (sym t ∙ y.0))
      ]
      | false ↦ λ t k. elim (eqb_tells r.0 id) [
        | inl y ↦ absurd (true≢false (sym y.0 ∙ t))
        | inr y ↦ ((λ same. absurd (y.1 same)), only_row id row rows h.1 k)
      ]
    ] in
    go (nat_eq r.0 id) refl e

-- an entry that is taken out stands there no more, and the others stand as before
pub entry_gone : (e : Entry) (es : List Entry) → times (entry_number e) (numbers (without_entry e es)) ≡ 0
entry_gone e [] = refl
entry_gone e (d ∷ es) = elim (eqb_tells (entry_number d) (entry_number e)) [
  | inl y ↦ rw y.0 (entry_gone e es)
  | inr y ↦ elim (same_cases (entry_number e) (entry_number d)) [
    | inl z ↦ absurd (y.1 (sym z.1))
    | inr z ↦ rw y.0 (omega (arith, z.0, entry_gone e es))
  ]
]

pub entry_stays : (e : Entry) (es : List Entry) (n : ℕ) → n ≢ entry_number e → times n (numbers (without_entry e es)) ≡ times n (numbers es)
entry_stays e [] n other = refl
entry_stays e (d ∷ es) n other = elim (eqb_tells (entry_number d) (entry_number e)) [
  | inl y ↦ elim (same_cases n (entry_number d)) [
    | inl z ↦ absurd (other (z.1 ∙ y.1))
    | inr z ↦ rw y.0 (omega (arith, z.0, entry_stays e es n other))
  ]
  | inr y ↦ rw y.0 (omega (arith, entry_stays e es n other))
]

-- the rows left have no entry of the id
pub row_gone : (column k id : ℕ) (rows : Rows) → id < 2 ^ 32 → All (λ r. (1 ≤ r.0) × (r.0 < 2 ^ 32)) rows
    → times (entry_number (k, id)) (numbers (column_entries column (without_id id rows))) ≡ 0
row_gone column k id [] l h = refl
row_gone column k id (r ∷ rows) l h =
    let rest : times (entry_number (k, id)) (numbers (column_entries column (without_id id rows))) ≡ 0 =
    row_gone column k id rows l (All-tail (λ (x : ℕ × List Value). (1 ≤ x.0) × (x.0 < 2 ^ 32)) r rows h) in
    let here : (1 ≤ r.0) × (r.0 < 2 ^ 32) = All-head (λ (x : ℕ × List Value). (1 ≤ x.0) × (x.0 < 2 ^ 32)) r rows h in
    elim (eqb_tells r.0 id) [
      | inl y ↦ rw y.0 rest
      | inr y ↦
          let go : (o : Option Value) → element r.1 column ≡ o → times (entry_number (k, id)) (numbers (column_entries column (r ∷ without_id id rows))) ≡ 0 =
          elim [
            | None ↦ λ n. rw n rest
            | Some x ↦ λ n. elim (same_cases (entry_number (k, id)) (entry_number (value_key x, r.0))) [
              | inl z ↦ absurd (y.1 (let c : k * 2 ^ 32 + id ≡ value_key x * 2 ^ 32 + r.0 = z.1 in omega (arith, c, l, here.1)))
              | inr z ↦ rw n (omega (arith, z.0, rest))
            ]
          ] in
          rw y.0 (go (element r.1 column) refl)
    ]

-- and all other entries that all rows have
pub row_stays : (column id : ℕ) (row : List Value) (v : Value) (rows : Rows) (n : ℕ) → OnlyRow id row rows → element row column ≡ Some v → n ≢ entry_number (value_key v, id)
    → times n (numbers (column_entries column (without_id id rows))) ≡ times n (numbers (column_entries column rows))
row_stays column id row v [] n only e other = refl
row_stays column id row v (r ∷ rows) n only e other =
    let rest : times n (numbers (column_entries column (without_id id rows))) ≡ times n (numbers (column_entries column rows)) = row_stays column id row v rows n only.1 e other in
    elim (eqb_tells r.0 id) [
      | inl y ↦
          let here : element r.1 column ≡ Some v = ap (λ (x : List Value). element x column) (only.0 y.1) ∙ e in
          elim (same_cases n (entry_number (value_key v, r.0))) [
            | inl z ↦ absurd (other (z.1 ∙ ap (λ (i : ℕ). entry_number (value_key v, i)) y.1))
            | inr z ↦ rw (y.0, here) (omega (arith, z.0, rest))
          ]
      | inr y ↦
          let go : (o : Option Value) → element r.1 column ≡ o → times n (numbers (column_entries column (r ∷ without_id id rows))) ≡ times n (numbers (column_entries column (r ∷ rows))) =
          elim [ None ↦ λ k. rw k rest | Some x ↦ λ k. rw k (omega (arith, rest)) ] in
          rw y.0 (go (element r.1 column) refl)
    ]
