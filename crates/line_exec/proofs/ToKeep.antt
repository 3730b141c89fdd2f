-- What is to be kept of a statement, by its kind.
use Rattle.std.proofs.Common.{◌≡◌, ◌∙◌, ℕ, suc, ◌+◌, ◌≤◌, Bool, true, false, not, nat_lt, List, [], ◌∷◌, Option, Some, None, refl, sym, ap, subst, arith, inl, inr, true≢false}
use Rattle.std.proofs.lemmas.Bool.Decides.{leb_tells}
use Rattle.std.specs.List.{AllByRecursion}
use Rattle.std.specs.Prelude.{Result, Ok, Err, IfOk, OnOk, OnErr}
use Rattle.journal_replay.proofs.Entered as entered
use Rattle.journal_replay.proofs.Entered.{found_relation, led_by_rows}
use Rattle.journal_replay.proofs.RowChanges.{led_by_row}
use Rattle.journal_replay.specs.EncodedRows.{HasRowsFor}
use Rattle.journal_replay.specs.KeptBody.{FitsSchema, HasNoBodyOfRows, IsKeptOfRows}
use Rattle.journal_replay.specs.LedBy.{LedByOne}
use Rattle.sand_base.specs.declared.kind.Kind.{Kind}
use Rattle.sand_base.specs.declared.limits.Limits.{Limits}
use Rattle.sand_base.specs.declared.refusal.Refusal.{Refusal}
use Rattle.sand_base.specs.declared.refusal.Refusal.TheVariants as why
use Rattle.sand_base.specs.declared.value.Value.{Value}
use Rattle.sand_journal.specs.ChangeBody.{Line, Rows, IsChange, body_of}
use Rattle.sand_model.specs.Checks.{first_refusal}
use Rattle.sand_model.specs.Database.{Database, Relation, relation_named}
use Rattle.sand_model.specs.Kept.{longest_row}
use Rattle.sand_model.specs.RowSize.{row_size}
use Rattle.sand_model.specs.StatementChecks.{refused_where, is_row_of, check_length, check_ids, in_relation}
use Rattle.sand_store.proofs.RowKinds.{row_of}
use Rattle.sand_store.specs.Calls.{Carries, RowInserted, IsUnchanged, Loaded, check_kinds, plain_checks}
use Rattle.sand_store.specs.Catalog.{StoreState}
use Rattle.sand_store.specs.Contents.{database}
use Rattle.statement_exec.proofs.SomeSetting.{some_setting, is_some_setting}
use Rattle.statement_exec.specs.declared.reply.Reply.{Reply}
use Rattle.statements.specs.Statement.{Statement, Insert, Load}
use Rattle.line_exec.specs.KeptChanges.{IsToKeep}
use Rattle.line_exec.specs.MadeChanges.{AddsRows, IsChangeBy}

-- ---- a line

-- what holds of an answer that is accepted, and so what follows
pub on_accepted : {T E : Type 0} (P Q : Type 0) (answer : Result T E) → (P → Q) → OnOk answer P → OnOk answer Q
on_accepted {T} {E} P Q (Ok given) then h = then h
on_accepted {T} {E} P Q (Err why) then h = tt

-- a record that was made was where one is to be made
pub made_so : {T E : Type 0} (P : T → Type 0) (keeps : Type 0) (made : Result T E) → IfOk made P → IfOk made (λ one. keeps → P one)
made_so {T} {E} P keeps (Ok one) h = λ k. h
made_so {T} {E} P keeps (Err why) h = tt

some_is : (a b : List ℕ) → Some a ≡ Some b → a ≡ b
some_is a b e = ap value e where
  value : Option (List ℕ) → List ℕ
  value None = a
  value (Some x) = x

-- a statement that is kept as a line
pub keep_line : (keeps : Bool) (answer : Result Reply Refusal) (body : Option (List ℕ)) (v : Statement) (old new : StoreState) → (keeps ≡ true → body ≡ Some (body_of (Line v))) → IsChange (Line v)
    → IsChangeBy (database old) v (Line v) → OnOk answer (LedByOne (Line v) old new) → OnErr answer (IsUnchanged old new) → IsToKeep keeps v answer body old new
keep_line keeps (Err why) body v old new made is by led same = same
keep_line false (Ok given) body v old new made is by led same = tt
keep_line true (Ok given) None v old new made is by led same = let clash : None ≡ Some (body_of (Line v)) = made refl in absurd (let no : ⊥ = cc in no)
keep_line true (Ok given) (Some body) v old new made is by led same = record { change = Line v; by = by; is = is; has = some_is body (body_of (Line v)) (made refl); led = led }

-- ---- rows

-- the first checks pass where all do
first_passes : (a : Option Refusal) (rest : List (Option Refusal)) → first_refusal (a ∷ rest) ≡ None → (a ≡ None) × (first_refusal rest ≡ None)
first_passes None rest e = (refl, e)
first_passes (Some w) rest e = let clash : ⊥ = cc in absurd clash

not_wrong : (b : Bool) (w : Refusal) → refused_where b w ≡ None → b ≡ false
not_wrong true w e = let clash : ⊥ = cc in absurd clash
not_wrong false w e = refl

not_false : (b : Bool) → not b ≡ false → b ≡ true
not_false true e = refl
not_false false e = absurd (true≢false e)

not_less : (a b : ℕ) → nat_lt a b ≡ false → b ≤ a
not_less a b told = elim (leb_tells (suc a) b) [ inl x ↦ absurd (true≢false (sym x.0 ∙ told)) | inr x ↦ omega (arith, x.1) ]

-- a row whose kinds and length pass fits
row_fits : (schema : List (List ℕ × Kind)) (row : List Value) → refused_where (not (is_row_of schema row)) why.WrongKind ≡ None → check_length row ≡ None → FitsSchema schema row
row_fits schema row kinds size = record {
  of_schema = row_of schema row (not_false (is_row_of schema row) (not_wrong (not (is_row_of schema row)) why.WrongKind kinds));
  short = not_less longest_row (row_size row) (not_wrong (nat_lt longest_row (row_size row)) why.TupleTooLong size);
}

-- rows whose checks pass fit
rows_fit : (limits : Limits) (rows : List (List Value)) (r : Relation) → plain_checks limits rows r ≡ None → AllByRecursion (FitsSchema r.schema) rows
rows_fit limits [] r passes = tt
rows_fit limits (row ∷ rows) r passes =
    let more : Relation = record r { next = r.next + 1 } in
    let a = first_passes (check_kinds r row) (check_length row ∷ check_ids limits r ∷ plain_checks limits rows more ∷ []) passes in
    let b = first_passes (check_length row) (check_ids limits r ∷ plain_checks limits rows more ∷ []) a.1 in
    let d = first_passes (check_ids limits r) (plain_checks limits rows more ∷ []) b.1 in
    let e = first_passes (plain_checks limits rows more) [] d.1 in
    (row_fits r.schema row a.0 b.0, rows_fit limits rows more e.0)

-- a relation whose checks pass is there
relation_there : (d : Database) (name : List ℕ) (check : Relation → Option Refusal) → in_relation d name check ≡ None → (r : Relation) × (relation_named d name ≡ Some r) × (check r ≡ None)
relation_there d name check passes = go (relation_named d name) refl where
  go : (o : Option Relation) → relation_named d name ≡ o → (r : Relation) × (relation_named d name ≡ Some r) × (check r ≡ None)
  go None e = let none : in_relation d name check ≡ Some why.UnknownRelation = rw e refl in absurd (let no : ⊥ = cc in no)
  go (Some r) e = let same : in_relation d name check ≡ check r = rw e refl in (r, e, sym same ∙ passes)

-- rows that have encodings by the catalog of a store are added to its relation
adds : (old : StoreState) (name : List ℕ) (rows : List (List Value)) (encodings : List (List ℕ)) → HasRowsFor old.catalog name encodings rows
    → AddsRows (database old) name rows (Rows name encodings)
adds old name rows encodings has = record {
  relation = entered.relation old name encodings rows has;
  named = entered.named old name encodings rows has;
  encodings = encodings;
  encoded = has.encoded;
  is = refl;
}

module _ (keeps : Bool) (body : Option (List ℕ)) (old new : StoreState) (name : List ℕ) where
  -- rows that fit the relation have a body
  made_of : (rows : List (List Value)) → HasNoBodyOfRows old.catalog name rows → (r : Relation) → relation_named (database old) name ≡ Some r → AllByRecursion (FitsSchema r.schema) rows → ⊥
  made_of rows none r named fit =
      let found = found_relation old.pool.pages old.catalog.relations name r named in
      none found.0 found.1 (subst (λ (x : Relation). AllByRecursion (FitsSchema x.schema) rows) found.2 fit)

  -- a row that was inserted
  pub keep_row : (answer : Result Reply Refusal) (row : List Value) → (keeps ≡ true → IsKeptOfRows old.catalog name (row ∷ []) body)
      → OnOk answer ((id : ℕ) × RowInserted old new name row id) → OnErr answer (IsUnchanged old new) → Carries old new → IsToKeep keeps (Insert name row) answer body old new
  keep_row answer row made done same carries = by keeps answer body made done same where
    fits : (id : ℕ) → RowInserted old new name row id → (r : Relation) → relation_named (database old) name ≡ Some r → FitsSchema r.schema row
    fits id h r named =
        let passes = (h.passes (some_setting old) (is_some_setting old) refl).0 in
        let kinds : Relation → Option Refusal = λ relation. refused_where (not (is_row_of relation.schema row)) why.WrongKind in
        let a = first_passes (in_relation (database old) name kinds) (check_length row ∷ in_relation (database old) name (check_ids old.catalog.limits) ∷ []) passes in
        let b = first_passes (check_length row) (in_relation (database old) name (check_ids old.catalog.limits) ∷ []) a.1 in
        let same : in_relation (database old) name kinds ≡ kinds r = rw named refl in
        row_fits r.schema row (sym same ∙ a.0) b.0

    by : (k : Bool) (a : Result Reply Refusal) (o : Option (List ℕ)) → (k ≡ true → IsKeptOfRows old.catalog name (row ∷ []) o)
        → OnOk a ((id : ℕ) × RowInserted old new name row id) → OnErr a (IsUnchanged old new) → IsToKeep k (Insert name row) a o old new
    by k (Err why) o made done same = same
    by false (Ok given) o made done same = tt
    by true (Ok given) None made done same =
        let next = done.1.next in
        made_of (row ∷ []) (made refl) next.0 next.1.0 (fits done.0 done.1 next.0 next.1.0, tt)
    by true (Ok given) (Some bytes) made done same =
        let b = made refl in
        record { change = Rows name b.encodings; by = adds old name (row ∷ []) b.encodings b.encoded; is = b.is; has = b.body; led = led_by_row old name b.encodings row b.encoded new done.0 done.1 carries }

  -- rows that were loaded
  pub keep_rows : (file : List ℕ) (header : Bool) (answer : Result Reply Refusal) (rows : List (List Value)) → (keeps ≡ true → IsKeptOfRows old.catalog name rows body)
      → OnOk answer ((count : ℕ) × Loaded old new name rows count) → OnErr answer (IsUnchanged old new) → Carries old new → IsToKeep keeps (Load name file header) answer body old new
  keep_rows file header answer rows made done same carries = by keeps answer body made done same where
    by : (k : Bool) (a : Result Reply Refusal) (o : Option (List ℕ)) → (k ≡ true → IsKeptOfRows old.catalog name rows o)
        → OnOk a ((count : ℕ) × Loaded old new name rows count) → OnErr a (IsUnchanged old new) → IsToKeep k (Load name file header) a o old new
    by k (Err why) o made done same = same
    by false (Ok given) o made done same = tt
    by true (Ok given) None made done same =
        let there = relation_there (database old) name (plain_checks old.catalog.limits rows) done.1.plain in
        made_of rows (made refl) there.0 there.1 (rows_fit old.catalog.limits rows there.0 there.2)
    by true (Ok given) (Some bytes) made done same =
        let b = made refl in
        record { change = Rows name b.encodings; by = (rows, adds old name rows b.encodings b.encoded); is = b.is; has = b.body; led = led_by_rows old name b.encodings rows b.encoded new done.0 done.1 carries }
