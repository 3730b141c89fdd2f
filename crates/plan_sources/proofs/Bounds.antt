-- The rows of a column of ints within bounds, one after another.
use Rattle.std.proofs.Common.{◌≡◌, ℕ, ℤ, ◌-◌, ◌^◌, ◌<◌, ◌≤◌, Bool, true, false, cond, List, [], ◌∷◌, map, filter, refl, sym, ◌∙◌, ap, ap₂, subst, arith, true≢false}
use Rattle.std.specs.Prelude.{Option, Some, None, Ok, Err, IfSome}
use Rattle.std.specs.Int.{w64}
use Rattle.std.proofs.Common.{to_z, of_z, FitsSigned}
use Rattle.std.proofs.lemmas.Int.{to_z-of_z}
use Rattle.code_btree.specs.Items.{Each}
use Rattle.code_btree.specs.Tree.{tree_items, times}
use Rattle.code_btree.proofs.Lists.{Each-map, Each-zip}
use Rattle.page_pool.specs.Desk.{DeskState}
use Rattle.page_pool.specs.Disk.{PageMap}
use Rattle.page_pool.specs.Pool.{PoolState, IsTold}
use Rattle.page_pool.specs.declared.fault.PageFault.{PageFault}
use Rattle.pmr_tree.specs.Quadtree.{store_of}
use Rattle.sand_base.specs.declared.value.Value.{Value}
use Rattle.sand_model.specs.Answer.{number_cmp, is_between, plain_row}
use Rattle.sand_model.specs.Database.{Database}
use Rattle.statements.specs.Plan as plan
use Rattle.statements.specs.Plan.{Plan}
use Rattle.statements.specs.declared.column.Column.{Column}
use Rattle.sand_model.specs.Reach.{no_counts}
use Rattle.sand_model.specs.Sources.{sorted}
use Rattle.sand_model.specs.Taken.{Taken}
use Rattle.tuple_codec.specs.Decoding.{IsRowFor}
use Rattle.attr_index.specs.Entries.{Entry, IntEntry, entry_number, int_entries, between_entry}
use Rattle.attr_index.specs.Index.{IsIntIndex, index_entries}
use Rattle.attr_index.specs.Key.{IsIntKey}
use Rattle.attr_index.proofs.Pairs.{Each-filter, entries_in_order}
use Rattle.sand_store.specs.Contents.{rows_in, relation_in}
use Rattle.best_first.specs.Visits.{told_pages}
use Rattle.plan_names.specs.Indexed.{HasInts, IsLookUp}
use Rattle.plan_names.specs.Steps.{values_at}
use Rattle.plan_names.specs.declared.look_up.LookUp.{LookUp}
use Rattle.plan_names.proofs.Above.{Pairs}
use Rattle.plan_names.proofs.ColumnValues.{values_are}
use Rattle.plan_names.proofs.IntColumns.{IsIntPair, int_pairs}
use Rattle.plan_names.proofs.EqualIds.{small_ids}
use Rattle.plan_names.proofs.LookedUp.{in_order, numbers_are}
use Rattle.plan_names.proofs.LookUps.{keeps_of, each_all}
use Rattle.plan_iterator.specs.Rows.{row_of}
use Rattle.plan_iterator.specs.SourceSteps.{SourceStep, nothing_taken}
use Rattle.plan_iterator.specs.declared.answer.Answer.{Answer}
use Rattle.plan_sources.specs.Plain.{lies_within, row_of_number, place_after, left_from, IsPickBetween}
use Rattle.plan_sources.proofs.PlainSteps.{IsPlain, Reads, row_step, end_step, fault_step, where_told}
use Rattle.plan_sources.proofs.Sorting.{numbers, each_sorted}
use Rattle.plan_sources.proofs.Between.{sorted_numbers, rows_of_pairs, IsIntEntry, filter_none, left_none, IsLeft, left_some}

-- the entries of an index of ints
int_entries_of : (m : PageMap) (l : LookUp) → IsIntIndex (store_of m) l.index → Each IsIntEntry (index_entries (store_of m) l.index)
int_entries_of m l h = Each-zip (λ e. IsIntKey e.0) (λ e. e.1 < 2 ^ 32) IsIntEntry (λ e k s. (k, s)) (index_entries (store_of m) l.index) h.ints (small_ids (tree_items (store_of m) l.index.tree))

ints_index : (low high : ℤ) (last : Option IntEntry) (l : LookUp) (m : PageMap) (d : Database) (p : Plan) (t : Taken) → IsPickBetween l low high last m d p t → IsIntIndex (store_of m) l.index
ints_index low high last l m d p t h = h.look_up.holds.index.ints h.ints

-- what was asked where the desk tells its pages
asked : (desk : DeskState) (F : PageMap → Type 0) → IfSome (told_pages desk) F → IsTold desk.pool → F desk.pool.pages
asked desk F =
    let go : (b : Bool) → desk.pool.disk.told ≡ b → IfSome (cond b (Some desk.pool.pages) None) F → b ≡ true
    → F desk.pool.pages = elim [ true ↦ λ e f t. f | false ↦ λ e f t. absurd (true≢false (sym t)) ] in
    go desk.pool.disk.told refl

-- where nothing was taken all rows within the bounds are left
pub between_begun : (m : PageMap) (l : LookUp) (d : Database) (column : Column) (low high : ℤ) (greatest : ℕ) → IsLookUp d column l m → HasInts l → FitsSigned w64 low
    → FitsSigned w64 high → greatest ≡ l.spot.relation.value.next - 1 → greatest < 2 ^ 32
    → IsPickBetween l low high None m d (plan.PickBetween column low high) nothing_taken
between_begun m l d column low high greatest h i lf hf g s =
    let rows : List (ℕ × List Value) = rows_in m l.spot.relation.value in
    let at : ℕ = l.spot.column in
    let ps : Pairs = values_at at rows in
    let es : List Entry = index_entries (store_of m) l.index in
    let kept = keeps_of m l h.holds (omega (arith, g, s)) in
    let fitting : Each (λ (row : ℕ × List Value). IsRowFor l.spot.relation.value.schema row.1) rows = each_all (λ row. IsRowFor l.spot.relation.value.schema row.1) rows h.holds.stands.1.table.rows in
    let pairs : Each IsIntPair ps = int_pairs l.spot.relation.value.schema at rows fitting kept.small i in
    let counted : (n : ℕ) → times n (map entry_number es) ≡ times n (numbers ps) = λ n. kept.entries n ∙ ap (λ (ns : List ℕ). times n ns) (numbers_are at rows) in
    let part : Pairs = filter (λ p. is_between low high p.1) ps in
    let small : Each (λ (p : ℕ × Value). p.0 < 2 ^ 32) (sorted number_cmp part) =
    each_sorted (λ p. p.0 < 2 ^ 32) part (Each-filter (λ p. p.0 < 2 ^ 32) (λ p. is_between low high p.1) ps (Each-map IsIntPair (λ p. p.0 < 2 ^ 32) (λ p k. k.1.1.1) ps pairs)) in
    let kept_numbers : List ℕ = filter (lies_within low high) (map entry_number es) in
    let all : Each (λ n. 0 ≤ n) kept_numbers = each_any kept_numbers in record {
      column = column;
      is = refl;
      look_up = h;
      ints = i;
      low_fits = lf;
      high_fits = hf;
      last_fits = tt;
      left =
          ap (λ (xs : Pairs). map (λ (p : ℕ × Value). plain_row p.0) (sorted number_cmp (filter (λ p. is_between low high p.1) xs)))
          (values_are d column (relation_in m l.spot.relation.value) at h.is.relation h.is.at)
          ∙ (rows_of_pairs (sorted number_cmp part) small
          ∙ ap (λ (ns : List ℕ). map row_of_number ns)
          (sorted_numbers low high ps es pairs (in_order at rows kept.rise) (entries_in_order (tree_items (store_of m) l.index.tree) kept.is.tree.at.ascending) counted
          ∙ sym (filter_none 0 kept_numbers all)));
    }
  where
    each_any : (ns : List ℕ) → Each (λ n. 0 ≤ n) ns
    each_any [] = tt
    each_any (n ∷ ns) = (omega arith, each_any ns)

-- ---- a call

plain : (l : LookUp) (low high : ℤ) (last : Option IntEntry) (m : PageMap) (d : Database) (p : Plan) (t : Taken) → IsPickBetween l low high last m d p t → IsPlain p
plain l low high last m d p t h = (let P : Plan → Type 0 = IsPlain in let one : P (plan.PickBetween h.column low high) = tt in subst P (sym h.is) one)

-- what the index gives, for bounds as an i64 holds them
abbrev pub Finds : LookUp → ℤ → ℤ → Option IntEntry → PageMap → Option IntEntry → Type 0
Finds l low high last pages found = found ≡ between_entry (to_z w64 (of_z w64 low)) (to_z w64 (of_z w64 high)) last (int_entries (index_entries (store_of pages) l.index))

-- which is the entry for these bounds, where they are in range
finds : (l : LookUp) (low high : ℤ) (last : Option IntEntry) (m : PageMap) (found : Option IntEntry) → FitsSigned w64 low → FitsSigned w64 high → Finds l low high last m found
    → between_entry low high last (int_entries (index_entries (store_of m) l.index)) ≡ found
finds l low high last m found a b e =
    sym (e ∙ ap₂ (λ (x y : ℤ). between_entry x y last (int_entries (index_entries (store_of m) l.index))) (to_z-of_z w64 low a) (to_z-of_z w64 high b))

-- a row
pub between_row : (l : LookUp) (low high : ℤ) (last : Option IntEntry) (x : IntEntry) (a : Answer) (old new : DeskState)
    → (IsTold old.pool → Finds l low high last old.pool.pages (Some x)) → row_of a ≡ plain_row x.1 → Reads old new
    → IfSome (told_pages old) (λ pages. (d : Database) (p : Plan) (t : Taken) → IsPickBetween l low high last pages d p t
    → SourceStep pages d p t no_counts no_counts old new (Ok (Some a)) (λ u. IsPickBetween l low high (Some x) pages d p u))
between_row l low high last x a old new gives is reads =
    let F : PageMap → Type 0 = λ pages. (d : Database) (p : Plan) (t : Taken) → IsPickBetween l low high last pages d p t
    → SourceStep pages d p t no_counts no_counts old new (Ok (Some a)) (λ u. IsPickBetween l low high (Some x) pages d p u) in
    where_told old F (λ told d p t h.
    let m : PageMap = old.pool.pages in
    let es : List Entry = index_entries (store_of m) l.index in
    let ints = ints_index low high last l m d p t h in
    let first : IsLeft low high (place_after last) x es =
    left_some low high last x es h.last_fits (int_entries_of m l ints) (entries_in_order (tree_items (store_of m) l.index.tree) ints.index.tree.at.ascending)
    (finds l low high last m (Some x) h.low_fits h.high_fits (gives told)) in
    row_step m d p t a (row_of_number first.number) (map row_of_number (left_from low high (place_after (Some x)) es)) old new
    (λ u. IsPickBetween l low high (Some x) m d p u) (plain l low high last m d p t h)
    (h.left ∙ ap (λ (ns : List ℕ). map row_of_number ns) first.first) (is ∙ ap plain_row (sym first.id)) reads
    (λ u left. record { column = h.column; is = h.is; look_up = h.look_up; ints = h.ints; low_fits = h.low_fits; high_fits = h.high_fits; last_fits = first.fit; left = left }))

-- the end
pub between_end : (l : LookUp) (low high : ℤ) (last : Option IntEntry) (old new : DeskState) → (IsTold old.pool → Finds l low high last old.pool.pages None) → Reads old new
    → IfSome (told_pages old) (λ pages. (d : Database) (p : Plan) (t : Taken) → IsPickBetween l low high last pages d p t
    → SourceStep pages d p t no_counts no_counts old new (Ok None) (λ u. IsPickBetween l low high last pages d p u))
between_end l low high last old new gives reads =
    let F : PageMap → Type 0 = λ pages. (d : Database) (p : Plan) (t : Taken) → IsPickBetween l low high last pages d p t
    → SourceStep pages d p t no_counts no_counts old new (Ok None) (λ u. IsPickBetween l low high last pages d p u) in
    where_told old F (λ told d p t h.
    let m : PageMap = old.pool.pages in
    let es : List Entry = index_entries (store_of m) l.index in
    let none : map row_of_number (left_from low high (place_after last) es) ≡ [] =
    ap (λ (ns : List ℕ). map row_of_number ns)
    (left_none low high last es h.last_fits (int_entries_of m l (ints_index low high last l m d p t h)) (finds l low high last m None h.low_fits h.high_fits (gives told))) in
    end_step m d p t old new (λ u. IsPickBetween l low high last m d p u) (plain l low high last m d p t h) (h.left ∙ none) reads
    (λ u left. record { column = h.column; is = h.is; look_up = h.look_up; ints = h.ints; low_fits = h.low_fits; high_fits = h.high_fits; last_fits = h.last_fits; left = left ∙ sym none }))

-- what holds of the pages that are lent holds of the desk's
pub index_asked : (low high : ℤ) (last : Option IntEntry) (l : LookUp) (desk : DeskState) (pool : PoolState) → pool ≡ desk.pool
    → IfSome (told_pages desk) (λ pages. (d : Database) × ((p : Plan) × ((t : Taken) × IsPickBetween l low high last pages d p t))) → IsTold pool → IsIntIndex (store_of pool.pages) l.index
index_asked low high last l desk pool e h =
    let P : PoolState → Type 0 = λ s. IsTold s → IsIntIndex (store_of s.pages) l.index in
    let F : PageMap → Type 0 = λ pages. (d : Database) × ((p : Plan) × ((t : Taken) × IsPickBetween l low high last pages d p t)) in
    subst P (sym e) (λ told. (let k = asked desk F h told in ints_index low high last l desk.pool.pages k.0 k.1.0 k.1.1.0 k.1.1.1))

-- where a look is refused, nothing is taken
pub between_refused : (l : LookUp) (low high : ℤ) (last : Option IntEntry) (fault : PageFault) (old new : DeskState) → Reads old new
    → IfSome (told_pages old) (λ pages. (d : Database) (p : Plan) (t : Taken) → IsPickBetween l low high last pages d p t
    → SourceStep pages d p t no_counts no_counts old new (Err fault) (λ u. IsPickBetween l low high last pages d p u))
between_refused l low high last fault old new reads =
    let F : PageMap → Type 0 = λ pages. (d : Database) (p : Plan) (t : Taken) → IsPickBetween l low high last pages d p t
    → SourceStep pages d p t no_counts no_counts old new (Err fault) (λ u. IsPickBetween l low high last pages d p u) in
    where_told old F (λ told d p t h. fault_step old.pool.pages d p t fault old new (λ u. IsPickBetween l low high last old.pool.pages d p u) (plain l low high last old.pool.pages d p t h) reads h)
