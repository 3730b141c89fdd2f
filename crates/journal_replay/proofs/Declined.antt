-- A change that a store refuses is one that it doesn't take.
use Rattle.std.proofs.Common.{◌≡◌, inl, inr, ℕ, Bool, true, false, List, [], ◌∷◌, Option, Some, None, refl, sym, ap, subst, ◌∙◌}
use Rattle.std.specs.Prelude.{Result, Ok, Err, IfErr, IsErrAnd}
use Rattle.page_pool.specs.Pool.{IsTold}
use Rattle.sand_base.specs.declared.refusal.Refusal.{Refusal}
use Rattle.sand_base.specs.declared.refusal.Refusal.TheVariants as why
use Rattle.sand_base.specs.declared.value.Value.{Value}
use Rattle.sand_journal.specs.ChangeBody.{ChangeValue, Line, Rows, line_value}
use Rattle.sand_model.specs.Checks.{first_refusal}
use Rattle.sand_model.specs.Database.{Relation, relation_named, with_row}
use Rattle.statements.specs.Statement.{Statement, Insert}
use Rattle.sand_model.specs.StatementChecks.{Setting, check_length, check_ids, check_listings}
use Rattle.sand_store.specs.Calls.{Refuses, IsStatementRefused, LoadIsRefusedBy, IsRefusedPlainly, is_index_full, is_of_a_row, check_kinds, loaded, load_early, load_late, early_at, late_at}
use Rattle.sand_store.specs.Catalog.{CatalogView, StoreState}
use Rattle.sand_store.specs.Contents.{database}
use Rattle.statements.specs.declared.statement.Statement as script
use Rattle.journal_replay.specs.ChangedDatabase.{PassesChecks, TakesChange, rows_of, with_encoded}
use Rattle.journal_replay.specs.EncodedRows.{AreEncodingsOf, HasRowsFor, LacksRowsFor}
use Rattle.journal_replay.specs.Declined.{replay_fault, Declines, OfCheck, RefusesChange}
use Rattle.journal_replay.specs.Replayed.{IsDeclined, IsLacking}
use Rattle.journal_replay.specs.declared.fault.ReplayFault.{ReplayFault}
use Rattle.journal_replay.specs.declared.fault.ReplayFault.TheVariants as fault
use Rattle.journal_replay.proofs.Entered.{some_same, relation, named, entered_is, early_is, late_is, found_relation}

-- where no check refuses, none does
no_check : (told : Type 0) → told → (is_late : Refusal → Bool) (before behind : Option Refusal) → before ≡ None → behind ≡ None → (w : Refusal)
    → Refuses told is_late before behind w → replay_fault w ≡ fault.Bad → ⊥
no_check told is is_late before behind first last why.Memory h bad = let clash : ⊥ = cc in clash
no_check told is is_late before behind first last why.Device h bad = let clash : ⊥ = cc in clash
no_check told is is_late before behind first last (why.Damaged n kept read) h bad = let clash : ⊥ = cc in clash
no_check told is is_late before behind first last w h bad = elim (is_late w) as (λ b. is_late w ≡ b → ⊥) [
  | true ↦ λ e. let k : (before ≡ None) × (told → behind ≡ Some w) = rw e at h in let l : behind ≡ Some w = k.1 is in let clash : ⊥ = cc in clash
  | false ↦ λ e. let k : before ≡ Some w = rw e at h in let clash : ⊥ = cc in clash
] refl

-- at a fault that is none but Bad nothing is claimed
at_bad : (store : StoreState) (change : ChangeValue) (f : ReplayFault) → (f ≡ fault.Bad → Declines store change) → IsDeclined store change f
at_bad store change fault.Memory h = tt
at_bad store change fault.Tape h = tt
at_bad store change fault.Bad h = h refl
at_bad store change fault.Device h = tt
at_bad store change fault.Damaged h = tt

-- an answer that passes a fault on
pub passed_on : {T : Type 0} (r : Result T ReplayFault) (f : ReplayFault) (P : ReplayFault → Type 0) → IsErrAnd r (λ e. e ≡ f) → P f → IfErr r P
passed_on (Ok x) f P is h = tt
passed_on (Err e) f P is h = subst P (sym is) h

-- a statement that the store refuses
pub line_declined : (store : StoreState) (s : script.Statement) (v : Statement) (statement : Statement) (is_late : Refusal → Bool) (w : Refusal) → line_value s ≡ v
    → ((setting : Setting) → TakesChange setting (Line v) (database store) → PassesChecks setting (database store) statement)
    → (OfCheck (IsStatementRefused is_late store statement) → RefusesChange store (Line v))
    → IsStatementRefused is_late store statement w → IsDeclined store (Line (line_value s)) (replay_fault w)
line_declined store s v statement is_late w same passes refuses h = at_bad store (Line (line_value s)) (replay_fault w) (λ bad.
    subst (λ (x : Statement). Declines store (Line x)) (sym same) (record {
      refused = refuses (w, bad, h);
      not_taken = λ told setting is limits takes.
          let p : PassesChecks setting (database store) statement = passes setting takes in
          no_check (IsTold store.pool) told is_late (early_at setting store statement) (late_at setting store statement) p.before p.behind w (h setting is limits) bad;
    }))

-- a load that the store refuses
pub rows_declined : (store : StoreState) (name : List ℕ) (encodings : List (List ℕ)) (rows : List (List Value)) (has : HasRowsFor store.catalog name encodings rows) (w : Refusal)
    → LoadIsRefusedBy store name rows w → IsRefusedPlainly store name rows w → IsDeclined store (Rows name encodings) (replay_fault w)
rows_declined store name encodings rows has w h plain = at_bad store (Rows name encodings) (replay_fault w) (λ bad. record {
  refused = inr (rows, has, (w, bad, inl (h, plain)));
  not_taken = λ told setting is limits takes.
      let same : relation store name encodings rows has ≡ takes.relation =
      some_same (relation store name encodings rows has) takes.relation (sym (named store name encodings rows has) ∙ takes.named) in
      let passes : (with_encoded setting encodings (relation store name encodings rows has)).0 ≡ None =
      subst (λ (r : Relation). (with_encoded setting encodings r).0 ≡ None) (sym same) takes.passes in
      let late : load_late setting store name rows ≡ None =
      late_is store name encodings rows has setting ∙ ap (λ (p : Option Refusal × Relation). p.0) (sym (entered_is store name encodings rows has setting)) ∙ passes in
      no_check (IsTold store.pool) told is_of_a_row (load_early store name) (load_late setting store name rows) (early_is store name encodings rows has) late w (h setting is limits) bad;
})

-- four checks pass
four_pass : (a b c d : Option Refusal) → first_refusal (a ∷ b ∷ c ∷ d ∷ []) ≡ None → (a ≡ None) × (b ≡ None) × (c ≡ None) × (d ≡ None)
four_pass None None None None e = (refl, refl, refl, refl)
four_pass None None None (Some w) e = let clash : ⊥ = cc in absurd clash
four_pass None None (Some w) d e = let clash : ⊥ = cc in absurd clash
four_pass None (Some w) c d e = let clash : ⊥ = cc in absurd clash
four_pass (Some w) b c d e = let clash : ⊥ = cc in absurd clash

-- a row that is loaded alone passes its four checks
alone_passes : (setting : Setting) (row : List Value) (r : Relation) → (loaded setting (row ∷ []) r).0 ≡ None
    → first_refusal (check_kinds r row ∷ check_length row ∷ check_ids setting.limits r ∷ check_listings setting.limits (with_row setting.gap row r) ∷ []) ≡ None
alone_passes setting row r e =
    go (first_refusal (check_kinds r row ∷ check_length row ∷ check_ids setting.limits r ∷ check_listings setting.limits (with_row setting.gap row r) ∷ [])) refl where
      go : (o : Option Refusal) → first_refusal (check_kinds r row ∷ check_length row ∷ check_ids setting.limits r ∷ check_listings setting.limits (with_row setting.gap row r) ∷ []) ≡ o
          → first_refusal (check_kinds r row ∷ check_length row ∷ check_ids setting.limits r ∷ check_listings setting.limits (with_row setting.gap row r) ∷ []) ≡ None
      go None is = is
      go (Some w) is = let none : Some w ≡ None = rw is at e in let clash : ⊥ = cc in absurd clash

-- a row that the store refuses to insert
pub row_declined : (store : StoreState) (name : List ℕ) (encodings : List (List ℕ)) (row : List Value) (has : HasRowsFor store.catalog name encodings (row ∷ [])) (w : Refusal)
    → IsStatementRefused is_index_full store (Insert name row) w → IsDeclined store (Rows name encodings) (replay_fault w)
row_declined store name encodings row has w h = at_bad store (Rows name encodings) (replay_fault w) (λ bad. record {
  refused = inr (row ∷ [], has, (w, bad, inr (row, refl, h)));
  not_taken = λ told setting is limits takes.
      let r : Relation = relation store name encodings (row ∷ []) has in
      let same : r ≡ takes.relation = some_same r takes.relation (sym (named store name encodings (row ∷ []) has) ∙ takes.named) in
      let passes : (with_encoded setting encodings r).0 ≡ None = subst (λ (q : Relation). (with_encoded setting encodings q).0 ≡ None) (sym same) takes.passes in
      let late : (loaded setting (row ∷ []) r).0 ≡ None =
      ap (λ (p : Option Refusal × Relation). p.0) (sym (entered_is store name encodings (row ∷ []) has setting)) ∙ passes in
      let four = four_pass (check_kinds r row) (check_length row) (check_ids setting.limits r) (check_listings setting.limits (with_row setting.gap row r)) (alone_passes setting row r late) in
      let named_so : relation_named (database store) name ≡ Some r = named store name encodings (row ∷ []) has in
      let before : early_at setting store (Insert name row) ≡ None = rw (named_so, four.0, four.1, four.2) refl in
      let behind : late_at setting store (Insert name row) ≡ None = rw named_so four.3 in
      no_check (IsTold store.pool) told is_index_full (early_at setting store (Insert name row)) (late_at setting store (Insert name row)) before behind w (h setting is limits) bad;
})

-- encodings of which the relation has no rows
lacking_declines : (store : StoreState) (name : List ℕ) (encodings : List (List ℕ)) → LacksRowsFor store.catalog name encodings → Declines store (Rows name encodings)
lacking_declines store name encodings lacks = record {
  refused = inl lacks;
  not_taken = λ told setting is limits takes.
      let found = found_relation store.pool.pages store.catalog.relations name takes.relation takes.named in
      lacks found.0 found.1 (rows_of found.0.schema encodings) (subst (λ (r : Relation). AreEncodingsOf r.schema (rows_of r.schema encodings) encodings) found.2 takes.encoded);
}

pub lacking_declined : (store : StoreState) (catalog : CatalogView) (name : List ℕ) (encodings : List (List ℕ)) (f : ReplayFault) → catalog ≡ store.catalog
    → IsLacking catalog name encodings f → IsDeclined store (Rows name encodings) f
lacking_declined store catalog name encodings fault.Memory same h = tt
lacking_declined store catalog name encodings fault.Tape same h = tt
lacking_declined store catalog name encodings fault.Bad same h =
    lacking_declines store name encodings (subst (λ (k : CatalogView). LacksRowsFor k name encodings) same h)
lacking_declined store catalog name encodings fault.Device same h = tt
lacking_declined store catalog name encodings fault.Damaged same h = tt
