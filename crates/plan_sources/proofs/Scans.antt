-- The ids of a relation's rows, one after another.
use Rattle.std.proofs.Common.{◌≡◌, ℕ, suc, ◌+◌, ◌<◌, ◌≤◌, List, [], ◌∷◌, map, refl, sym, ◌∙◌, ap, subst, inl, inr, arith, All, true≢false, IsErr}
use Rattle.std.specs.Prelude.{Option, Some, None, is_some, Result, Ok, Err, IfSome}
use Rattle.std.proofs.lemmas.Bool.Decides.{leb_tells}
use Rattle.std.proofs.lemmas.List.Elements.{All-head, All-tail}
use Rattle.code_btree.proofs.Orders.{lt_is, lt_not}
use Rattle.page_pool.specs.Desk.{DeskState}
use Rattle.page_pool.specs.Disk.{PageMap}
use Rattle.page_pool.specs.Pool.{IsTold}
use Rattle.page_pool.specs.declared.fault.PageFault.{PageFault}
use Rattle.pmr_tree.specs.Lists.{Each, RiseStrictly}
use Rattle.pmr_tree.specs.Quadtree.{store_of}
use Rattle.sand_base.specs.declared.kind.Kind.{Kind}
use Rattle.sand_base.specs.declared.value.Value.{Value}
use Rattle.sand_model.specs.Answer.{plain_row}
use Rattle.sand_model.specs.Database.{Database, relation_named}
use Rattle.sand_model.specs.Operators.{PlanRow}
use Rattle.statements.specs.Plan as plan
use Rattle.statements.specs.Plan.{Plan}
use Rattle.sand_model.specs.Reach.{no_counts}
use Rattle.sand_model.specs.Taken.{Taken}
use Rattle.tuple_file.specs.declared.file.TupleFile.{TupleFile}
use Rattle.tuple_file.specs.File.{tuples_of}
use Rattle.tuple_file.specs.Rows.{least_id_from}
use Rattle.sand_store.specs.Catalog.{RelationView}
use Rattle.sand_store.specs.Contents.{rows_in, relation_in}
use Rattle.sand_store.specs.Tuples.{row_in}
use Rattle.sand_store.proofs.Databases.{rises_at}
use Rattle.best_first.specs.Visits.{told_pages}
use Rattle.plan_names.specs.Spots.{Stands}
use Rattle.plan_iterator.specs.Rows.{row_of}
use Rattle.plan_iterator.specs.SourceSteps.{SourceStep, nothing_taken}
use Rattle.plan_iterator.specs.declared.answer.Answer.{Answer}
use Rattle.plan_sources.specs.Plain.{rows_left_of, row_ids, ids_above, GivesNextId, IsScan}
use Rattle.plan_sources.proofs.PlainSteps.{IsPlain, Reads, row_step, end_step, fault_step, where_told}

-- a filter that all pass
all_above : (id : ℕ) (ids : List ℕ) → Each (λ n. id < n) ids → ids_above id ids ≡ ids
all_above id [] h = refl
all_above id (n ∷ ids) h = rw (lt_is id n h.0) (ap (λ (ns : List ℕ). n ∷ ns) (all_above id ids h.1))

each_above : (id : ℕ) (ids : List ℕ) → Each (λ n. id < n) (ids_above id ids)
each_above id [] = tt
each_above id (n ∷ ids) = elim (leb_tells (suc id) n) [ inl x ↦ rw x.0 (x.1, each_above id ids) | inr x ↦ rw x.0 (each_above id ids) ]

each_higher : (low high : ℕ) (ids : List ℕ) → low ≤ high → Each (λ n. high < n) ids → Each (λ n. low < n) ids
each_higher low high [] l h = tt
each_higher low high (n ∷ ids) l h = (omega (arith, l, h.0), each_higher low high ids l h.1)

-- the least id from the next one on is the first above the last
first_above : {A : Type 0} (last : ℕ) (rows : List (ℕ × A)) (found : Option ℕ) → RiseStrictly (row_ids rows) → found ≡ least_id_from (last + 1) rows → GivesNextId last (row_ids rows) found
first_above last [] None r e = refl
first_above last [] (Some id) r e = absurd (true≢false (ap (λ (o : Option ℕ). is_some o) e))
first_above last (row ∷ rows) found r e = elim (leb_tells (last + 1) row.0) [
  | inl x ↦
      let is : found ≡ Some row.0 = e ∙ rw x.0 refl in
      let rest : ids_above last (row_ids rows) ≡ ids_above row.0 (row_ids rows) =
      all_above last (row_ids rows) (each_higher last row.0 (row_ids rows) (omega (arith, x.1)) r.0) ∙ sym (all_above row.0 (row_ids rows) r.0) in
      let G : Option ℕ → Type 0 = λ o. GivesNextId last (row_ids (row ∷ rows)) o in
      subst G (sym is) (rw (lt_is last row.0 (omega (arith, x.1)), lt_not row.0 row.0 (omega arith)) (ap (λ (ns : List ℕ). row.0 ∷ ns) rest))
  | inr x ↦
      let later : found ≡ least_id_from (last + 1) rows = e ∙ rw x.0 refl in
      passed found (first_above last rows found r.1 later) (omega (arith, x.1))
]
  where
    passed : (o : Option ℕ) → GivesNextId last (row_ids rows) o → row.0 ≤ last → GivesNextId last (row_ids (row ∷ rows)) o
    passed None g l = rw (lt_not last row.0 l) g
    passed (Some id) g l =
        let E : List ℕ → Type 0 = λ ns. Each (λ n. last < n) ns in
        let all : Each (λ n. last < n) (id ∷ ids_above id (row_ids rows)) = subst E g (each_above last (row_ids rows)) in
        rw (lt_not last row.0 l, lt_not id row.0 (omega (arith, l, all.0))) g

-- the ids of rows are those of their tuples
ids_same : (schema : List (List ℕ × Kind)) (ts : List (ℕ × List ℕ)) → row_ids (map (λ (t : ℕ × List ℕ). (t.0, row_in schema t.1)) ts) ≡ row_ids ts
ids_same schema [] = refl
ids_same schema (t ∷ ts) = ap (λ (ns : List ℕ). t.0 ∷ ns) (ids_same schema ts)

-- what a scan of the file finds
pub next_found : (m : PageMap) (r : RelationView) (file : TupleFile) (last : ℕ) (found : Option ℕ) → Stands m r → file ≡ r.file → found ≡ least_id_from (last + 1) (tuples_of (store_of m) file)
    → GivesNextId last (row_ids (rows_in m r)) found
next_found m r file last found h f e =
    let ts : List (ℕ × List ℕ) = tuples_of (store_of m) r.file in
    let same : row_ids (rows_in m r) ≡ row_ids ts = ids_same r.schema ts in
    let G : List ℕ → Type 0 = λ ns. GivesNextId last ns found in
    let there : found ≡ least_id_from (last + 1) ts = e ∙ ap (λ (x : TupleFile). least_id_from (last + 1) (tuples_of (store_of m) x)) f in
    subst G (sym same) (first_above last ts found (subst RiseStrictly same (rises_at m r.schema r.file h.1.table.file)) there)

-- no id is above the greatest
pub none_past : (last greatest : ℕ) (rows : List (ℕ × List Value)) → All (λ row. row.0 ≤ greatest) rows → greatest ≤ last → ids_above last (row_ids rows) ≡ []
none_past last greatest [] h l = refl
none_past last greatest (row ∷ rows) h l =
    let here : row.0 ≤ greatest = All-head (λ (x : ℕ × List Value). x.0 ≤ greatest) row rows h in
    rw (lt_not last row.0 (omega (arith, here, l))) (none_past last greatest rows (All-tail (λ (x : ℕ × List Value). x.0 ≤ greatest) row rows h) l)

-- all rows, by their ids above 0
whole : (rows : List (ℕ × List Value)) (next : ℕ) → All (λ row. (1 ≤ row.0) × (row.0 < next)) rows → map (λ (row : ℕ × List Value). plain_row row.0) rows ≡ map plain_row (ids_above 0 (row_ids rows))
whole [] next h = refl
whole (row ∷ rows) next h =
    let here : (1 ≤ row.0) × (row.0 < next) = All-head (λ (x : ℕ × List Value). (1 ≤ x.0) × (x.0 < next)) row rows h in
    rw (lt_is 0 row.0 here.0) (ap (λ (xs : List PlanRow). plain_row row.0 ∷ xs) (whole rows next (All-tail (λ (x : ℕ × List Value). (1 ≤ x.0) × (x.0 < next)) row rows h)))

-- where nothing was taken all rows are left
pub scan_begun : (m : PageMap) (r : RelationView) (d : Database) (name : List ℕ) → relation_named d name ≡ Some (relation_in m r) → Stands m r → IsScan r 0 m d (plan.Scan name) nothing_taken
scan_begun m r d name named h = record {
  name = name;
  is = refl;
  stands = h;
  left = rw named (whole (rows_in m r) r.next h.1.given_out);
}

-- the plan of a scan
plain : (r : RelationView) (last : ℕ) (m : PageMap) (d : Database) (p : Plan) (t : Taken) → IsScan r last m d p t → IsPlain p
plain r last m d p t h = (let P : Plan → Type 0 = IsPlain in let one : P (plan.Scan h.name) = tt in subst P (sym h.is) one)

-- the scan after an id
after_row : (r : RelationView) (last id : ℕ) (m : PageMap) (d : Database) (p : Plan) (t u : Taken) → IsScan r last m d p t
    → rows_left_of d p u ≡ map plain_row (ids_above id (row_ids (rows_in m r))) → IsScan r id m d p u
after_row r last id m d p t u h left = record { name = h.name; is = h.is; stands = h.stands; left = left }

-- a row
pub scan_row : (r : RelationView) (last id : ℕ) (a : Answer) (old new : DeskState) → (IsTold old.pool → GivesNextId last (row_ids (rows_in old.pool.pages r)) (Some id))
    → row_of a ≡ plain_row id → Reads old new
    → IfSome (told_pages old) (λ pages. (d : Database) (p : Plan) (t : Taken) → IsScan r last pages d p t
    → SourceStep pages d p t no_counts no_counts old new (Ok (Some a)) (λ u. IsScan r id pages d p u))
scan_row r last id a old new gives is reads =
    let F : PageMap → Type 0 = λ pages. (d : Database) (p : Plan) (t : Taken) → IsScan r last pages d p t
    → SourceStep pages d p t no_counts no_counts old new (Ok (Some a)) (λ u. IsScan r id pages d p u) in
    where_told old F (λ told d p t h.
    row_step old.pool.pages d p t a (plain_row id) (map plain_row (ids_above id (row_ids (rows_in old.pool.pages r)))) old new (λ u. IsScan r id old.pool.pages d p u)
    (plain r last old.pool.pages d p t h)
    (h.left ∙ ap (λ (ns : List ℕ). map plain_row ns) (gives told)) is reads (λ u left. after_row r last id old.pool.pages d p t u h left))

-- the end
pub scan_end : (r : RelationView) (last : ℕ) (old new : DeskState) → (IsTold old.pool → GivesNextId last (row_ids (rows_in old.pool.pages r)) None) → Reads old new
    → IfSome (told_pages old) (λ pages. (d : Database) (p : Plan) (t : Taken) → IsScan r last pages d p t
    → SourceStep pages d p t no_counts no_counts old new (Ok None) (λ u. IsScan r last pages d p u))
scan_end r last old new gives reads =
    let F : PageMap → Type 0 = λ pages. (d : Database) (p : Plan) (t : Taken) → IsScan r last pages d p t
    → SourceStep pages d p t no_counts no_counts old new (Ok None) (λ u. IsScan r last pages d p u) in
    where_told old F (λ told d p t h.
    let none : map plain_row (ids_above last (row_ids (rows_in old.pool.pages r))) ≡ [] = ap (λ (ns : List ℕ). map plain_row ns) (gives told) in
    end_step old.pool.pages d p t old new (λ u. IsScan r last old.pool.pages d p u) (plain r last old.pool.pages d p t h) (h.left ∙ none) reads
    (λ u left. after_row r last last old.pool.pages d p t u h (left ∙ sym none)))

-- a refusal takes nothing
pub scan_refused : (r : RelationView) (last : ℕ) (result : Result (Option Answer) PageFault) (old new : DeskState) → IsErr result → Reads old new
    → IfSome (told_pages old) (λ pages. (d : Database) (p : Plan) (t : Taken) → IsScan r last pages d p t → SourceStep pages d p t no_counts no_counts old new result (λ u. IsScan r last pages d p u))
scan_refused r last (Ok a) old new refused reads = absurd (true≢false (sym refused))
scan_refused r last (Err fault) old new refused reads =
    let F : PageMap → Type 0 = λ pages. (d : Database) (p : Plan) (t : Taken) → IsScan r last pages d p t
    → SourceStep pages d p t no_counts no_counts old new (Err fault) (λ u. IsScan r last pages d p u) in
    where_told old F (λ told d p t h. fault_step old.pool.pages d p t fault old new (λ u. IsScan r last old.pool.pages d p u) (plain r last old.pool.pages d p t h) reads h)
