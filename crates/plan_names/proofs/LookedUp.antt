-- What an attribute index says of the rows of its column.
use Rattle.std.proofs.Common.{◌≡◌, ℕ, ◌+◌, ◌*◌, ◌^◌, ◌<◌, ◌≤◌, true, false, List, [], ◌∷◌, map, refl, sym, ◌∙◌, ap, subst, inl, inr, arith, true≢false, ℤ, ◌<ℤ◌, ap₂}
use Rattle.std.specs.Cmp.{int_ranks}
use Rattle.std.specs.Int.Signed.{<ℤ_irrefl}
use Rattle.std.specs.Ordering.{int_cmp, MatchOrdering}
use Rattle.std.specs.declared.cmp.Ordering.{Ordering}
use Rattle.std.specs.declared.cmp.Ordering.TheVariants as ordering
use Rattle.std.specs.Prelude.{Option, None, Some, is_some, option_map, filter_map}
use Rattle.std.proofs.lemmas.Bool.Decides.{eqb_tells}
use Rattle.code_btree.specs.Items.{Each}
use Rattle.code_btree.specs.Tree.{Store, tree_items, times}
use Rattle.code_btree.proofs.Lists.{same_cases, Each-map, Each-zip}
use Rattle.sand_base.specs.InRange.{IsIntInRange}
use Rattle.sand_base.specs.declared.value.Value.{Value}
use Rattle.sand_base.specs.declared.value.Value.TheVariants as value
use Rattle.sand_model.specs.Database.{element}
use Rattle.sand_model.specs.Sources.{same_value}
use Rattle.tuple_file.specs.Rows.{of_id}
use Rattle.attr_index.specs.declared.index.AttrIndex.{AttrIndex}
use Rattle.attr_index.specs.Entries.{Entry, entry_number, equal_id}
use Rattle.attr_index.specs.Index.{IsAttrIndex, index_entries}
use Rattle.attr_index.specs.Key.{value_key, int_of}
use Rattle.attr_index.proofs.Ints.{key_back}
use Rattle.attr_index.proofs.Pairs.{entries_in_order}
use Rattle.plan_names.specs.Equals.{above, GivesFirst}
use Rattle.plan_names.specs.Steps.{is_equal, has_equal, values_at, matches}
use Rattle.plan_names.proofs.Above.{Pairs, InOrder, Has, none_above, none_between, first_above}
use Rattle.plan_names.proofs.ColumnValues.{Rows, each_value}
use Rattle.plan_names.proofs.EqualIds.{small_ids, each_same, IsOf, equal_none, equal_some, equal_there, equal_small}
use Rattle.plan_names.proofs.IntColumns.{IsIntPair}
use Rattle.plan_names.proofs.SameValues.{same_is}

-- the ids of rows rise strictly
abbrev pub RowsRise : Rows → Type 0
RowsRise [] = Unit {0}
RowsRise (row ∷ rows) = Each (λ other. row.0 < other.0) rows × RowsRise rows

-- the entries of a column
abbrev entries_of : ℕ → Rows → List Entry
entries_of at rows = filter_map (λ row. option_map (λ v. (value_key v, row.0)) (element row.1 at)) rows

-- an index has the entries of a column of rows in the order of their ids
pub record Keeps (m : Store) (at : ℕ) (rows : Rows) (index : AttrIndex) : Type 0 where
  pub is : IsAttrIndex m index
  pub entries : (n : ℕ) → times n (map entry_number (index_entries m index)) ≡ times n (map entry_number (entries_of at rows))
  pub rise : RowsRise rows
  pub small : Each (λ row. row.0 < 2 ^ 32) rows

-- so do the values of a column
pub in_order : (at : ℕ) (rows : Rows) → RowsRise rows → InOrder (values_at at rows)
in_order at [] h = tt
in_order at (row ∷ rows) h =
    let rest = in_order at rows h.1 in
    let behind : Each (λ (q : ℕ × Value). row.0 < q.0) (values_at at rows) =
    each_value (λ q. row.0 < q.0) at rows (Each-map (λ other. row.0 < other.0) (λ other. (v : Value) → element other.1 at ≡ Some v → row.0 < other.0) (λ other l v e. l) rows h.0) in
    let go : (o : Option Value) → element row.1 at ≡ o → InOrder (values_at at (row ∷ rows)) = elim [ None ↦ λ e. rw e rest | Some v ↦ λ e. rw e (behind, rest) ] in
    go (element row.1 at) refl

-- the numbers of the entries of a column
pub numbers_are : (at : ℕ) (rows : Rows) → map entry_number (entries_of at rows) ≡ map (λ (p : ℕ × Value). value_key p.1 * 2 ^ 32 + p.0) (values_at at rows)
numbers_are at [] = refl
numbers_are at (row ∷ rows) =
    let rest = numbers_are at rows in
    let go : (o : Option Value) → element row.1 at ≡ o → map entry_number (entries_of at (row ∷ rows)) ≡ map (λ (p : ℕ × Value). value_key p.1 * 2 ^ 32 + p.0) (values_at at (row ∷ rows)) =
    elim [ None ↦ λ e. rw e rest | Some v ↦ λ e. rw e (ap (λ (ns : List ℕ). (value_key v * 2 ^ 32 + row.0) ∷ ns) rest) ] in
    go (element row.1 at) refl

each_unmap : {A : Type 0} (P : ℕ → Type 0) (f : A → ℕ) (xs : List A) → Each P (map f xs) → Each (λ x. P (f x)) xs
each_unmap P f [] h = tt
each_unmap P f (x ∷ xs) h = (h.0, each_unmap P f xs h.1)

-- What holds of the id of each entry of a value's key holds of each row with an equal value.
of_entries : (m : Store) (at : ℕ) (rows : Rows) (index : AttrIndex) (v : Value) (Q : ℕ → Type 0) → Keeps m at rows index
    → Each (λ n. (id : ℕ) → IsOf (value_key v) n id → Q id) (map entry_number (index_entries m index)) → Each (λ p. same_value p.1 v ≡ true → Q p.0) (values_at at rows)
of_entries m at rows index v Q k h =
    let P : ℕ → Type 0 = λ n. (id : ℕ) → IsOf (value_key v) n id → Q id in
    let f : ℕ × Value → ℕ = λ p. value_key p.1 * 2 ^ 32 + p.0 in
    let E : List ℕ → Type 0 = λ ns. Each P ns in
    let all : Each P (map f (values_at at rows)) = subst E (numbers_are at rows) (each_same P (map entry_number (index_entries m index)) (map entry_number (entries_of at rows)) k.entries h) in
    let small : Each (λ (p : ℕ × Value). p.0 < 2 ^ 32) (values_at at rows) =
    each_value (λ p. p.0 < 2 ^ 32) at rows (Each-map (λ row. row.0 < 2 ^ 32) (λ row. (w : Value) → element row.1 at ≡ Some w → row.0 < 2 ^ 32) (λ row l w e. l) rows k.small) in
    Each-zip (λ p. P (f p)) (λ p. p.0 < 2 ^ 32) (λ p. same_value p.1 v ≡ true → Q p.0)
    (λ p q l same. q p.0 (ap (λ (w : Value). value_key w * 2 ^ 32 + p.0) (same_is p.1 v same), l)) (values_at at rows) (each_unmap P f (values_at at rows) all) small

-- a row is known by its id
only_row : (id : ℕ) (rows : Rows) (found : Option (List Value)) → RowsRise rows → of_id id rows ≡ found → Each (λ row. row.0 ≡ id → found ≡ Some row.1) rows
only_row id [] found r h = tt
only_row id (row ∷ rows) found r h = elim (eqb_tells row.0 id) [
  | inl x ↦
      let here : found ≡ Some row.1 = sym h ∙ rw x.0 refl in
      ((λ e. here), Each-map (λ other. row.0 < other.0) (λ other. other.0 ≡ id → found ≡ Some other.1) (λ other l e. absurd (omega (arith, l, e, x.1))) rows r.0)
  | inr x ↦
      let later : of_id id rows ≡ found = sym (rw x.0 refl) ∙ h in
      ((λ e. absurd (x.1 e)), only_row id rows found r.1 later)
]

-- so a value is, where its row was found
only_value : (id at : ℕ) (v : Value) (rows : Rows) (found : Option (List Value)) → RowsRise rows → of_id id rows ≡ found
    → Each (λ p. p.0 ≡ id → has_equal at v found ≡ same_value p.1 v) (values_at at rows)
only_value id at v rows found r h =
    each_value (λ p. p.0 ≡ id → has_equal at v found ≡ same_value p.1 v) at rows
    (Each-map (λ row. row.0 ≡ id → found ≡ Some row.1) (λ row. (w : Value) → element row.1 at ≡ Some w → row.0 ≡ id → has_equal at v found ≡ same_value w v)
    (λ row k w e i. ap (λ (o : Option (List Value)). has_equal at v o) (k i) ∙ ap (λ (o : Option Value). is_equal v o) e) rows (only_row id rows found r h))

-- a row that was found has its value among those of the column
has_value : (id at : ℕ) (w : Value) (values : List Value) (rows : Rows) → of_id id rows ≡ Some values → element values at ≡ Some w → Has (id, w) (values_at at rows)
has_value id at w values [] h e = absurd (true≢false (sym (ap (λ (o : Option (List Value)). is_some o) h)))
has_value id at w values (row ∷ rows) h e = elim (eqb_tells row.0 id) [
  | inl x ↦
      let here : row.1 ≡ values = some_is row.1 values (sym (rw x.0 refl) ∙ h) in
      let there : element row.1 at ≡ Some w = ap (λ (vs : List Value). element vs at) here ∙ e in
      rw there (inl (ap (λ (i : ℕ). (i, w)) x.1))
  | inr x ↦
      let later : Has (id, w) (values_at at rows) = has_value id at w values rows (sym (rw x.0 refl) ∙ h) e in
      let go : (o : Option Value) → element row.1 at ≡ o → Has (id, w) (values_at at (row ∷ rows)) = elim [ None ↦ λ k. rw k later | Some u ↦ λ k. rw k (inr later) ] in
      go (element row.1 at) refl
]
  where
    some_is : (x y : List Value) → Some x ≡ Some y → x ≡ y
    some_is x y e = ap value_or e where
      value_or : Option (List Value) → List Value
      value_or None = x
      value_or (Some n) = n

-- no entry: no row has the value above the id
pub looked_none : (m : Store) (at : ℕ) (rows : Rows) (index : AttrIndex) (v : Value) (last : ℕ) → Keeps m at rows index → equal_id (value_key v) last (index_entries m index) ≡ None
    → above last (matches at rows v) ≡ []
looked_none m at rows index v last k h =
    none_above (λ pair. same_value pair.1 v) last (values_at at rows)
    (of_entries m at rows index v (λ id. id ≤ last) k (equal_none (value_key v) last (index_entries m index) (small_ids (tree_items m index.tree)) h))

-- the rows above an id with the value aren't below the id of the next entry
least : (m : Store) (at : ℕ) (rows : Rows) (index : AttrIndex) (v : Value) (last id : ℕ) → Keeps m at rows index → equal_id (value_key v) last (index_entries m index) ≡ Some id
    → Each (λ p. same_value p.1 v ≡ true → last < p.0 → id ≤ p.0) (values_at at rows)
least m at rows index v last id k h =
    of_entries m at rows index v (λ i. last < i → id ≤ i) k
    (equal_some (value_key v) last id (index_entries m index) (small_ids (tree_items m index.tree)) (entries_in_order (tree_items m index.tree) k.is.tree.at.ascending) h)

-- an entry whose row has another value, or none, is passed over
pub looked_past : (m : Store) (at : ℕ) (rows : Rows) (index : AttrIndex) (v : Value) (last id : ℕ) (found : Option (List Value)) → Keeps m at rows index → last < id
    → equal_id (value_key v) last (index_entries m index) ≡ Some id → of_id id rows ≡ found → has_equal at v found ≡ false → above last (matches at rows v) ≡ above id (matches at rows v)
looked_past m at rows index v last id found k l h row other =
    none_between (λ pair. same_value pair.1 v) last id (values_at at rows) l
    (Each-zip (λ p. same_value p.1 v ≡ true → last < p.0 → id ≤ p.0) (λ p. p.0 ≡ id → has_equal at v found ≡ same_value p.1 v) (λ p. same_value p.1 v ≡ true → last < p.0 → id < p.0)
    (λ p a b same after. higher p.0 (a same after) (λ e. true≢false (sym (sym other ∙ (b e ∙ same))))) (values_at at rows) (least m at rows index v last id k h)
    (only_value id at v rows found k.rise row))
  where
    higher : (n : ℕ) → id ≤ n → (n ≡ id → ⊥) → id < n
    higher n le ne = elim (eqb_tells n id) [ inl x ↦ absurd (ne x.1) | inr x ↦ omega (arith, le, x.1) ]

-- an entry whose row has the value comes first
pub looked_found : (m : Store) (at : ℕ) (rows : Rows) (index : AttrIndex) (v : Value) (last id : ℕ) (found : Option (List Value)) → Keeps m at rows index → last < id
    → equal_id (value_key v) last (index_entries m index) ≡ Some id → of_id id rows ≡ found → has_equal at v found ≡ true → GivesFirst last (matches at rows v) (Some id)
looked_found m at rows index v last id None k l h row same = absurd (true≢false (sym same))
looked_found m at rows index v last id (Some values) k l h row same = go (element values at) refl where
  go : (o : Option Value) → element values at ≡ o → GivesFirst last (matches at rows v) (Some id)
  go None e = absurd (true≢false (sym (sym (ap (λ (p : Option Value). is_equal v p) e) ∙ same)))
  go (Some w) e = (
    w,
    first_above (λ pair. same_value pair.1 v) last id w (values_at at rows) l (sym (ap (λ (p : Option Value). is_equal v p) e) ∙ same) (in_order at rows k.rise)
        (has_value id at w values rows row e) (least m at rows index v last id k h),
  )

-- the pair whose number stands among those of pairs
pub record HasNumber (n : ℕ) (ps : Pairs) : Type 0 where
  pub pair : ℕ × Value
  pub has : Has pair ps
  pub is : value_key pair.1 * 2 ^ 32 + pair.0 ≡ n

has_number : (n : ℕ) (ps : Pairs) → 1 ≤ times n (map (λ (p : ℕ × Value). value_key p.1 * 2 ^ 32 + p.0) ps) → HasNumber n ps
has_number n [] h = absurd (omega (arith, h))
has_number n (p ∷ ps) h = elim (same_cases n (value_key p.1 * 2 ^ 32 + p.0)) [
  | inl x ↦ record { pair = p; has = inl refl; is = sym x.1 }
  | inr x ↦ (let rest = has_number n ps (omega (arith, h, x.0)) in record { pair = rest.pair; has = inr rest.has; is = rest.is })
]

same_int : (n : ℤ) → same_value (value.Int n) (value.Int n) ≡ true
same_int n = go (int_cmp n n) refl (int_ranks n n) where
  go : (o : Ordering) → int_cmp n n ≡ o → MatchOrdering o (n <ℤ n) (n ≡ n) (n <ℤ n) → same_value (value.Int n) (value.Int n) ≡ true
  go ordering.Less e r = absurd (<ℤ_irrefl r)
  go ordering.Equal e r = rw e refl
  go ordering.Greater e r = absurd (<ℤ_irrefl r)

has_each : (P : ℕ × Value → Type 0) (ps : Pairs) (x : ℕ × Value) → Each P ps → Has x ps → P x
has_each P [] x e has = absurd has
has_each P (q ∷ qs) x e (inl is) = subst P is e.0
has_each P (q ∷ qs) x e (inr has) = has_each P qs x e.1 has

-- among ints an entry has the value whose key it has
pub looked_told : (m : Store) (at : ℕ) (rows : Rows) (index : AttrIndex) (n : ℤ) (last id : ℕ) → Keeps m at rows index → Each IsIntPair (values_at at rows) → IsIntInRange n → last < id
    → equal_id (value_key (value.Int n)) last (index_entries m index) ≡ Some id → GivesFirst last (matches at rows (value.Int n)) (Some id)
looked_told m at rows index n last id k ints fit l h =
    let s = equal_small (value_key (value.Int n)) last id (index_entries m index) (small_ids (tree_items m index.tree)) h in
    let v : Value = value.Int n in
    let number : ℕ = value_key v * 2 ^ 32 + id in
    let there : 1 ≤ times number (map entry_number (index_entries m index)) = equal_there (value_key v) last id (index_entries m index) h in
    let among : times number (map entry_number (index_entries m index)) ≡ times number (map (λ (p : ℕ × Value). value_key p.1 * 2 ^ 32 + p.0) (values_at at rows)) =
    k.entries number ∙ ap (λ (ns : List ℕ). times number ns) (numbers_are at rows) in
    let found = has_number number (values_at at rows) (omega (arith, there, among)) in
    let int = has_each IsIntPair (values_at at rows) found.pair ints found.has in
    let is_id : found.pair.0 ≡ id = omega (arith, found.is, s, int.1.1.1) in
    let is_key : value_key found.pair.1 ≡ value_key v = omega (arith, found.is, s, int.1.1.1) in
    let same_number : int.0 ≡ n = sym (key_back int.0 int.1.1.0) ∙ (ap int_of (sym (ap value_key int.1.0) ∙ is_key) ∙ key_back n fit) in
    let is_value : found.pair.1 ≡ v = int.1.0 ∙ ap (λ (i : ℤ). value.Int i) same_number in
    let H : ℕ × Value → Type 0 = λ p. Has p (values_at at rows) in
    let has : Has (id, v) (values_at at rows) = subst H {x = found.pair} (ap₂ (λ (i : ℕ) (w : Value). (i, w)) is_id is_value) found.has in
    (v, first_above (λ pair. same_value pair.1 v) last id v (values_at at rows) l (same_int n) (in_order at rows k.rise) has (least m at rows index v last id k h))
