-- The rows of a value, one after another.
use Rattle.std.proofs.Common.{◌≡◌, ℕ, suc, ◌≤◌, List, [], ◌∷◌, length, inl, inr, arith, map, refl, sym, ◌∙◌, ap, subst, IsErr, true≢false}
use Rattle.std.proofs.lemmas.Bool.Decides.{leb_tells}
use Rattle.code_btree.proofs.Orders.{lt_not}
use Rattle.std.specs.Prelude.{Option, Some, None, Result, Ok, Err, IfSome}
use Rattle.page_pool.specs.Desk.{DeskState}
use Rattle.page_pool.specs.Disk.{PageMap}
use Rattle.page_pool.specs.Pool.{IsTold}
use Rattle.page_pool.specs.declared.fault.PageFault.{PageFault}
use Rattle.sand_base.specs.declared.value.Value.{Value}
use Rattle.sand_model.specs.Answer.{plain_row}
use Rattle.sand_model.specs.Database.{Database}
use Rattle.sand_model.specs.Operators.{PlanRow}
use Rattle.statements.specs.Plan as plan
use Rattle.statements.specs.Plan.{Plan}
use Rattle.statements.specs.declared.column.Column.{Column}
use Rattle.sand_model.specs.Reach.{no_counts}
use Rattle.sand_model.specs.Taken.{Taken}
use Rattle.best_first.specs.Visits.{told_pages}
use Rattle.plan_names.specs.Equals.{equals, above, GivesFirst}
use Rattle.plan_names.specs.Indexed.{IsLookUp}
use Rattle.plan_names.specs.declared.look_up.LookUp.{LookUp}
use Rattle.plan_names.proofs.LookUps.{all_above_zero}
use Rattle.plan_iterator.specs.Rows.{row_of}
use Rattle.plan_iterator.specs.SourceSteps.{SourceStep, nothing_taken}
use Rattle.plan_iterator.specs.declared.answer.Answer.{Answer}
use Rattle.plan_sources.specs.Plain.{IsPickEqual}
use Rattle.plan_sources.proofs.PlainSteps.{IsPlain, Reads, row_step, end_step, fault_step, where_told}

-- the rows of pairs
abbrev rows_of : List (ℕ × Value) → List PlanRow
rows_of pairs = map (λ pair. plain_row pair.0) pairs

-- where nothing was taken all rows with an equal value are left
pub pick_begun : (m : PageMap) (l : LookUp) (d : Database) (column : Column) (v : Value) → IsLookUp d column l m → IsPickEqual l v 0 m d (plan.PickEqual column v) nothing_taken
pick_begun m l d column v h = record {
  column = column;
  is = refl;
  look_up = h;
  left = ap rows_of (sym (all_above_zero d column l m v h));
}

plain : (l : LookUp) (v : Value) (last : ℕ) (m : PageMap) (d : Database) (p : Plan) (t : Taken) → IsPickEqual l v last m d p t → IsPlain p
plain l v last m d p t h = (let P : Plan → Type 0 = IsPlain in let one : P (plan.PickEqual h.column v) = tt in subst P (sym h.is) one)

-- what a look-up gives
abbrev pub Looks : LookUp → Value → ℕ → PageMap → Option ℕ → Type 0
Looks l v last pages found = (d : Database) (column : Column) → IsLookUp d column l pages → GivesFirst last (equals d column v) found

-- a row
pub pick_row : (l : LookUp) (v : Value) (last id : ℕ) (a : Answer) (old new : DeskState) → (IsTold old.pool → Looks l v last old.pool.pages (Some id)) → row_of a ≡ plain_row id → Reads old new
    → IfSome (told_pages old) (λ pages. (d : Database) (p : Plan) (t : Taken) → IsPickEqual l v last pages d p t
    → SourceStep pages d p t no_counts no_counts old new (Ok (Some a)) (λ u. IsPickEqual l v id pages d p u))
pick_row l v last id a old new gives is reads =
    let F : PageMap → Type 0 = λ pages. (d : Database) (p : Plan) (t : Taken) → IsPickEqual l v last pages d p t
    → SourceStep pages d p t no_counts no_counts old new (Ok (Some a)) (λ u. IsPickEqual l v id pages d p u) in
    where_told old F (λ told d p t h.
    let first = gives told d h.column h.look_up in
    row_step old.pool.pages d p t a (plain_row id) (rows_of (above id (equals d h.column v))) old new (λ u. IsPickEqual l v id old.pool.pages d p u) (plain l v last old.pool.pages d p t h)
    (h.left ∙ ap rows_of first.1) is reads (λ u left. record { column = h.column; is = h.is; look_up = h.look_up; left = left }))

-- where none is above an id, none is above a greater one
none_higher : (low high : ℕ) (pairs : List (ℕ × Value)) → low ≤ high → above low pairs ≡ [] → above high pairs ≡ []
none_higher low high [] l h = refl
none_higher low high (pair ∷ pairs) l h = elim (leb_tells (suc low) pair.0) [
  | inl x ↦
      let there : pair ∷ above low pairs ≡ [] = sym (rw x.0 refl) ∙ h in
      let none : suc (length (above low pairs)) ≡ 0 = ap (λ (ps : List (ℕ × Value)). length ps) there in
      absurd (omega (arith, none))
  | inr x ↦ (let rest : above low pairs ≡ [] = sym (rw x.0 refl) ∙ h in rw (lt_not high pair.0 (omega (arith, x.1, l))) (none_higher low high pairs l rest))
]

-- the end, after which the last id is one that none is above
pub pick_end : (l : LookUp) (v : Value) (last high : ℕ) (old new : DeskState) → last ≤ high → (IsTold old.pool → Looks l v last old.pool.pages None) → Reads old new
    → IfSome (told_pages old) (λ pages. (d : Database) (p : Plan) (t : Taken) → IsPickEqual l v last pages d p t
    → SourceStep pages d p t no_counts no_counts old new (Ok None) (λ u. IsPickEqual l v high pages d p u))
pick_end l v last high old new higher gives reads =
    let F : PageMap → Type 0 = λ pages. (d : Database) (p : Plan) (t : Taken) → IsPickEqual l v last pages d p t
    → SourceStep pages d p t no_counts no_counts old new (Ok None) (λ u. IsPickEqual l v high pages d p u) in
    where_told old F (λ told d p t h.
    let none : rows_of (above last (equals d h.column v)) ≡ [] = ap rows_of (gives told d h.column h.look_up) in
    let past : rows_of (above high (equals d h.column v)) ≡ [] = ap rows_of (none_higher last high (equals d h.column v) higher (gives told d h.column h.look_up)) in
    end_step old.pool.pages d p t old new (λ u. IsPickEqual l v high old.pool.pages d p u) (plain l v last old.pool.pages d p t h) (h.left ∙ none) reads
    (λ u left. record { column = h.column; is = h.is; look_up = h.look_up; left = left ∙ sym past }))

-- a refusal takes nothing
pub pick_refused : (l : LookUp) (v : Value) (last : ℕ) (result : Result (Option Answer) PageFault) (old new : DeskState) → IsErr result → Reads old new
    → IfSome (told_pages old) (λ pages. (d : Database) (p : Plan) (t : Taken) → IsPickEqual l v last pages d p t
    → SourceStep pages d p t no_counts no_counts old new result (λ u. IsPickEqual l v last pages d p u))
pick_refused l v last (Ok a) old new refused reads = absurd (true≢false (sym refused))
pick_refused l v last (Err fault) old new refused reads =
    let F : PageMap → Type 0 = λ pages. (d : Database) (p : Plan) (t : Taken) → IsPickEqual l v last pages d p t
    → SourceStep pages d p t no_counts no_counts old new (Err fault) (λ u. IsPickEqual l v last pages d p u) in
    where_told old F (λ told d p t h. fault_step old.pool.pages d p t fault old new (λ u. IsPickEqual l v last old.pool.pages d p u) (plain l v last old.pool.pages d p t h) reads h)
