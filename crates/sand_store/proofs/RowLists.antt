-- Rows with one more at their end: their ids, their shapes, and what an index has of them.
use Rattle.std.proofs.Common.{◌≡◌, ◌≢◌, ℕ, ◌<◌, ◌≤◌, Bool, true, false, cond, nat_eq, List, [], ◌∷◌, ◌++◌, map, refl, sym, ◌∙◌, ap, Option, Some, None, subst, arith, inl, inr, true≢false, All}
use Rattle.std.specs.Prelude.{is_some, Contains}
use Rattle.std.specs.List.{find}
use Rattle.std.specs.Option.{option_map}
use Rattle.std.proofs.lemmas.Bool.Decides.{eqb_tells}
use Rattle.std.proofs.lemmas.List.Elements.{All-head, All-tail}
use Rattle.sand_base.specs.declared.shape.Shape.{Shape}
use Rattle.sand_base.specs.declared.value.Value.{Value}
use Rattle.sand_model.specs.Database.{shape_in, shapes_of, shape_at}
use Rattle.sand_model.specs.Tree.{add}
use Rattle.pmr_tree.specs.Lists.{Each, Above, RiseStrictly}
use Rattle.pmr_tree.proofs.AscendingLists.{add_after}
use Rattle.pmr_tree.proofs.ShapeLaws.{each_contains}

-- rows, and shapes by the ids of their rows
abbrev pub Rows : Type 0
Rows = List (ℕ × List Value)

abbrev pub Shapes : Type 0
Shapes = List (ℕ × Shape)

abbrev pub ids_of : Shapes → List ℕ
ids_of shapes = map (λ (s : ℕ × Shape). s.0) shapes

-- every id is from 1 on and below this one
abbrev pub Below : ℕ → List ℕ → Type 0
Below id ids = Each (λ other. (1 ≤ other) × (other < id)) ids

-- the shapes of rows with one more
pub shapes_more : (column : ℕ) (rows : Rows) (id : ℕ) (row : List Value) (s : Shape) → shape_in column row ≡ Some s
    → shapes_of column (rows ++ (id, row) ∷ []) ≡ shapes_of column rows ++ (id, s) ∷ []
shapes_more column [] id row s e = rw e refl
shapes_more column (r ∷ rows) id row s e =
    let rest : shapes_of column (rows ++ (id, row) ∷ []) ≡ shapes_of column rows ++ (id, s) ∷ [] = shapes_more column rows id row s e in
    let go : (o : Option Shape) → shape_in column r.1 ≡ o → shapes_of column ((r ∷ rows) ++ (id, row) ∷ []) ≡ shapes_of column (r ∷ rows) ++ (id, s) ∷ [] =
    elim [ None ↦ λ n. rw n rest | Some x ↦ λ n. rw n (ap (λ (xs : Shapes). (r.0, x) ∷ xs) rest) ] in
    go (shape_in column r.1) refl

-- the ids of shapes are ids of rows
pub below_shapes : (column id : ℕ) (rows : Rows) → All (λ r. (1 ≤ r.0) × (r.0 < id)) rows → Below id (ids_of (shapes_of column rows))
below_shapes column id [] h = tt
below_shapes column id (r ∷ rows) h =
    let rest : Below id (ids_of (shapes_of column rows)) = below_shapes column id rows (All-tail (λ (x : ℕ × List Value). (1 ≤ x.0) × (x.0 < id)) r rows h) in
    let here : (1 ≤ r.0) × (r.0 < id) = All-head (λ (x : ℕ × List Value). (1 ≤ x.0) × (x.0 < id)) r rows h in
    let go : (o : Option Shape) → shape_in column r.1 ≡ o → Below id (ids_of (shapes_of column (r ∷ rows))) =
    elim [ None ↦ λ n. rw n rest | Some x ↦ λ n. rw n (here, rest) ] in
    go (shape_in column r.1) refl

above_shapes : (column n : ℕ) (rows : Rows) → Above n (map (λ (r : ℕ × List Value). r.0) rows) → Above n (ids_of (shapes_of column rows))
above_shapes column n [] h = tt
above_shapes column n (r ∷ rows) h =
    let go : (o : Option Shape) → shape_in column r.1 ≡ o → Above n (ids_of (shapes_of column (r ∷ rows))) =
    elim [ None ↦ λ e. rw e (above_shapes column n rows h.1) | Some x ↦ λ e. rw e (h.0, above_shapes column n rows h.1) ] in
    go (shape_in column r.1) refl

-- and they rise as those do
pub rises_shapes : (column : ℕ) (rows : Rows) → RiseStrictly (map (λ (r : ℕ × List Value). r.0) rows) → RiseStrictly (ids_of (shapes_of column rows))
rises_shapes column [] h = tt
rises_shapes column (r ∷ rows) h =
    let go : (o : Option Shape) → shape_in column r.1 ≡ o → RiseStrictly (ids_of (shapes_of column (r ∷ rows))) =
    elim [ None ↦ λ e. rw e (rises_shapes column rows h.1) | Some x ↦ λ e. rw e (above_shapes column r.0 rows h.0, rises_shapes column rows h.1) ] in
    go (shape_in column r.1) refl

-- a greatest id comes last
pub add_last : (id : ℕ) (ids : List ℕ) → Below id ids → add id ids ≡ ids ++ id ∷ []
add_last id [] h = refl
add_last id (x ∷ ids) h = add_after id x ids h.0.1 ∙ ap (λ (xs : List ℕ). x ∷ xs) (add_last id ids h.1)

pub ids_more : (shapes : Shapes) (id : ℕ) (s : Shape) → ids_of (shapes ++ (id, s) ∷ []) ≡ ids_of shapes ++ id ∷ []
ids_more [] id s = refl
ids_more (x ∷ shapes) id s = ap (λ (xs : List ℕ). x.0 ∷ xs) (ids_more shapes id s)

-- a greatest id is none of those
pub none_below : (id : ℕ) (ids : List ℕ) → Below id ids → Each (λ other. other ≢ id) ids
none_below id [] h = tt
none_below id (x ∷ ids) h = ((λ e. absurd (omega (arith, e, h.0.1))), none_below id ids h.1)

-- of another id the shape is what it was
pub shape_before : (shapes : Shapes) (id other : ℕ) (s : Shape) → other ≢ id → shape_at (shapes ++ (id, s) ∷ []) other ≡ shape_at shapes other
shape_before [] id other s n = elim (eqb_tells id other) [ inl x ↦ absurd (n (sym x.1)) | inr x ↦ rw x.0 refl ]
shape_before (x ∷ shapes) id other s n =
    let go : (b : Bool) → nat_eq x.0 other ≡ b → shape_at ((x ∷ shapes) ++ (id, s) ∷ []) other ≡ shape_at (x ∷ shapes) other =
    elim [ true ↦ λ t. rw t refl | false ↦ λ t. rw t (shape_before shapes id other s n) ] in
    go (nat_eq x.0 other) refl

-- the new id has the new shape
pub shape_last : (shapes : Shapes) (id : ℕ) (s : Shape) → Below id (ids_of shapes) → shape_at (shapes ++ (id, s) ∷ []) id ≡ Some s
shape_last [] id s h = elim (eqb_tells id id) [ inl x ↦ rw x.0 refl | inr x ↦ absurd (x.1 refl) ]
shape_last (x ∷ shapes) id s h = elim (eqb_tells x.0 id) [ inl y ↦ absurd (omega (arith, y.1, h.0.1)) | inr y ↦ rw y.0 (shape_last shapes id s h.1) ]

-- so the new row in front of all changes no shape
pub shape_front : (shapes : Shapes) (id : ℕ) (s : Shape) → Below id (ids_of shapes) → (other : ℕ)
    → shape_at ((id, s) ∷ (shapes ++ (id, s) ∷ [])) other ≡ shape_at (shapes ++ (id, s) ∷ []) other
shape_front shapes id s h other = elim (eqb_tells id other) [
  | inl x ↦ rw x.0 (sym (ap (λ (k : ℕ). shape_at (shapes ++ (id, s) ∷ []) k) (sym x.1) ∙ shape_last shapes id s h))
  | inr x ↦ rw x.0 refl
]

-- an id that has a shape is one of those with shapes
pub known_id : (shapes : Shapes) (other : ℕ) (s : Shape) (P : ℕ → Type 0) → Each P (ids_of shapes) → shape_at shapes other ≡ Some s → P other
known_id [] other s P h e = absurd (true≢false (sym (ap (λ (o : Option Shape). is_some o) e)))
known_id (x ∷ shapes) other s P h e =
    let go : (b : Bool) → nat_eq x.0 other ≡ b → option_map (λ (p : ℕ × Shape). p.1) (cond b (Some x) (find (λ p. nat_eq p.0 other) shapes)) ≡ Some s → P other =
    elim [
      | true ↦ λ t k. elim (eqb_tells x.0 other) [ inl y ↦ subst P y.1 h.0 | inr y ↦ absurd (true≢false (sym t ∙ y.0)) ]
      | false ↦ λ t k. known_id shapes other s P h.1 k
    ] in
    go (nat_eq x.0 other) refl e

-- every id of a part has a shape among all
has_shape : (x : ℕ × Shape) (shapes : Shapes) (other : ℕ) → is_some (shape_at shapes other) ≡ true → is_some (shape_at (x ∷ shapes) other) ≡ true
has_shape x shapes other h =
    let go : (b : Bool) → nat_eq x.0 other ≡ b → is_some (shape_at (x ∷ shapes) other) ≡ true = elim [ true ↦ λ t. rw t refl | false ↦ λ t. rw t h ] in
    go (nat_eq x.0 other) refl

each_map : (P Q : ℕ → Type 0) → ((n : ℕ) → P n → Q n) → (ns : List ℕ) → Each P ns → Each Q ns
each_map P Q f [] h = tt
each_map P Q f (n ∷ ns) h = (f n h.0, each_map P Q f ns h.1)

pub all_known : (shapes : Shapes) → Each (λ other. is_some (shape_at shapes other) ≡ true) (ids_of shapes)
all_known [] = tt
all_known (x ∷ shapes) = (
  elim (eqb_tells x.0 x.0) [ inl y ↦ rw y.0 refl | inr y ↦ absurd (y.1 refl) ],
  each_map (λ other. is_some (shape_at shapes other) ≡ true) (λ other. is_some (shape_at (x ∷ shapes) other) ≡ true) (λ other h. has_shape x shapes other h) (ids_of shapes) (all_known shapes),
)

-- of the others all shapes are what they were
pub all_before : (shapes : Shapes) (id : ℕ) (s : Shape) (ids : List ℕ) → Below id ids → Each (λ other. shape_at shapes other ≡ shape_at (shapes ++ (id, s) ∷ []) other) ids
all_before shapes id s [] h = tt
all_before shapes id s (x ∷ ids) h = (sym (shape_before shapes id x s (λ e. absurd (omega (arith, e, h.0.1)))), all_before shapes id s ids h.1)

-- so they have shapes still
pub known_more : (shapes : Shapes) (id : ℕ) (s : Shape) (ids : List ℕ) → Below id ids → Each (λ other. is_some (shape_at shapes other) ≡ true) ids
    → Each (λ other. is_some (shape_at (shapes ++ (id, s) ∷ []) other) ≡ true) ids
known_more shapes id s [] h k = tt
known_more shapes id s (x ∷ ids) h k = (ap (λ (o : Option Shape). is_some o) (shape_before shapes id x s (λ e. absurd (omega (arith, e, h.0.1)))) ∙ k.0, known_more shapes id s ids h.1 k.1)

pub not_there : (id : ℕ) (ids : List ℕ) → Below id ids → Contains ids id → ⊥
not_there id ids h c = each_contains (λ other. other ≢ id) ids id (none_below id ids h) c refl
