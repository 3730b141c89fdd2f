-- The change of rows is that of the statement that brought them.
use Rattle.std.proofs.Common.{◌≡◌, ℕ, List, [], ◌∷◌, Option, Some, None, refl, sym, ap, subst, ◌∙◌}
use Rattle.sand_base.specs.declared.refusal.Refusal.{Refusal}
use Rattle.sand_base.specs.declared.value.Value.{Value}
use Rattle.sand_journal.specs.ChangeBody.{Rows}
use Rattle.sand_model.specs.Checks.{first_refusal}
use Rattle.sand_model.specs.Database.{Database, Relation, relation_named, changed_at, with_row}
use Rattle.statements.specs.Statement.{Insert}
use Rattle.sand_model.specs.StatementChecks.{Setting, IsSetting, entered, in_relation, check_length, check_ids, check_listings}
use Rattle.journal_replay.specs.ChangedDatabase.{PassesChecks, TakesChange, changed_by, with_encoded}
use Rattle.sand_store.specs.Calls.{Carries, RowInserted}
use Rattle.sand_store.specs.Catalog.{StoreState}
use Rattle.sand_store.specs.Contents.{database}
use Rattle.sand_store.specs.Sketches.{sketches, sketched_at, with_ids}
use Rattle.page_pool.specs.Pool.{IsTold}
use Rattle.journal_replay.specs.EncodedRows.{AreEncodingsOf, HasRowsFor}
use Rattle.journal_replay.specs.LedBy.{LedByOne}
use Rattle.journal_replay.proofs.Decoded.{rows_back, as_many}
use Rattle.journal_replay.proofs.Entered.{changed_alike, relation, named}

-- all of three checks pass
three_pass : (a b c : Option Refusal) → first_refusal (a ∷ b ∷ c ∷ []) ≡ None → (b ≡ None) × (c ≡ None)
three_pass None None None e = (refl, refl)
three_pass None None (Some w) e = let clash : ⊥ = cc in absurd clash
three_pass None (Some w) c e = let clash : ⊥ = cc in absurd clash
three_pass (Some w) b c e = let clash : ⊥ = cc in absurd clash

module _ (setting : Setting) (d : Database) (name : List ℕ) (relation : Relation) (named : relation_named d name ≡ Some relation) where
  -- the rows that stand in the encodings are those that were encoded
  same_rows : (rows : List (List Value)) (encodings : List (List ℕ)) → AreEncodingsOf relation.schema rows encodings → with_encoded setting encodings relation ≡ entered setting rows relation
  same_rows rows encodings all = ap (λ (vs : List (List Value)). entered setting vs relation) (rows_back relation.schema rows encodings all)

  -- rows that enter are a change
  pub loaded_change : (rows : List (List Value)) (encodings : List (List ℕ)) → AreEncodingsOf relation.schema rows encodings → (entered setting rows relation).0 ≡ None
      → TakesChange setting (Rows name encodings) d × (changed_by setting (Rows name encodings) d ≡ changed_at name (λ r. (entered setting rows r).1) d)
  loaded_change rows encodings all passes = (
    record {
      relation = relation;
      named = named;
      encoded = subst (λ (vs : List (List Value)). AreEncodingsOf relation.schema vs encodings) (sym (rows_back relation.schema rows encodings all)) all;
      passes = ap (λ (p : Option Refusal × Relation). p.0) (same_rows rows encodings all) ∙ passes;
    },
    changed_alike (λ r. (with_encoded setting encodings r).1) (λ r. (entered setting rows r).1) name d relation named (ap (λ (p : Option Refusal × Relation). p.1) (same_rows rows encodings all)),
  )

  -- a row that no check refuses enters as the model adds it
  one_enters : (row : List Value) → PassesChecks setting d (Insert name row) → entered setting (row ∷ []) relation ≡ (None, with_row setting.gap row relation)
  one_enters row passes =
      let ids : in_relation d name (check_ids setting.limits) ≡ check_ids setting.limits relation = rw named refl in
      let listings : in_relation d name (λ r. check_listings setting.limits (with_row setting.gap row r)) ≡ check_listings setting.limits (with_row setting.gap row relation) = rw named refl in
      let two = three_pass _ (check_length row) (in_relation d name (check_ids setting.limits)) passes.before in
      let a : check_length row ≡ None = two.0 in
      let b : check_ids setting.limits relation ≡ None = sym ids ∙ two.1 in
      let c : check_listings setting.limits (with_row setting.gap row relation) ≡ None = sym listings ∙ passes.behind in
      rw (a, b, c) refl

  -- so a row that was inserted is a change
  pub inserted_change : (row : List Value) (encodings : List (List ℕ)) → AreEncodingsOf relation.schema (row ∷ []) encodings → PassesChecks setting d (Insert name row)
      → TakesChange setting (Rows name encodings) d × (changed_by setting (Rows name encodings) d ≡ changed_at name (with_row setting.gap row) d)
  inserted_change row encodings all passes =
      let enters = one_enters row passes in
      let change = loaded_change (row ∷ []) encodings all (ap (λ (p : Option Refusal × Relation). p.0) enters) in (
        change.0,
        change.1 ∙ changed_alike (λ r. (entered setting (row ∷ []) r).1) (with_row setting.gap row) name d relation named (ap (λ (p : Option Refusal × Relation). p.1) enters),
      )

-- a row that the store inserted is a change
pub led_by_row : (old : StoreState) (name : List ℕ) (encodings : List (List ℕ)) (row : List Value) (has : HasRowsFor old.catalog name encodings (row ∷ []))
    → (new : StoreState) (id : ℕ) → RowInserted old new name row id → Carries old new → LedByOne (Rows name encodings) old new
led_by_row old name encodings row has new id h carries = record {
  carries = carries;
  sketched = h.sketched ∙ ap (λ (n : ℕ). sketched_at name (with_ids n) (sketches old)) (as_many has.relation.schema (row ∷ []) encodings has.encoded);
  takes = λ told setting is limits. (change told setting is limits).0;
  becomes = λ told setting is limits. h.becomes told setting.gap is.gap ∙ sym (change told setting is limits).1;
} where
  change : IsTold old.pool → (setting : Setting) → IsSetting setting → setting.limits ≡ old.catalog.limits
      → TakesChange setting (Rows name encodings) (database old) × (changed_by setting (Rows name encodings) (database old) ≡ changed_at name (with_row setting.gap row) (database old))
  change told setting is limits =
      inserted_change setting (database old) name (relation old name encodings (row ∷ []) has) (named old name encodings (row ∷ []) has) row encodings has.encoded
      (record { before = (h.passes setting is limits).0; behind = (h.passes setting is limits).1 told })
