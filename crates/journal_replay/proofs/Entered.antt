-- The rows of a change enter their relation, or the relation takes none.
use Rattle.std.proofs.Common.{◌≡◌, ℕ, Bool, true, false, cond, List, [], ◌∷◌, Option, Some, None, refl, sym, ap, subst, ◌∙◌}
use Rattle.std.specs.List.{find}
use Rattle.std.specs.Option.{option_map}
use Rattle.page_pool.specs.Disk.{PageMap}
use Rattle.sand_base.specs.declared.refusal.Refusal.{Refusal}
use Rattle.sand_base.specs.declared.value.Value.{Value}
use Rattle.sand_journal.specs.ChangeBody.{Rows}
use Rattle.sand_model.specs.Database.{Database, Relation, relation_named, changed_at, has_name}
use Rattle.sand_model.specs.StatementChecks.{Setting, entered}
use Rattle.sand_store.proofs.Places.{named_in}
use Rattle.sand_store.proofs.SchemaRows.{loaded_entered}
use Rattle.sand_store.specs.Calls.{Carries, Loaded, loaded, load_early, load_late}
use Rattle.sand_store.specs.Catalog.{StoreState, RelationView, is_named}
use Rattle.sand_store.specs.Contents.{database, database_in, relation_in}
use Rattle.sand_store.specs.Sketches.{sketches, sketched_at, with_ids}
use Rattle.journal_replay.specs.ChangedDatabase.{with_encoded}
use Rattle.journal_replay.specs.EncodedRows.{AreEncodingsOf, HasRowsFor}
use Rattle.journal_replay.specs.LedBy.{LedByOne}
use Rattle.journal_replay.proofs.Decoded.{rows_of_schema, rows_back, as_many}

-- two that are found at one place are one
pub some_same : {A : Type 0} (x y : A) → Some x ≡ Some y → x ≡ y
some_same {A} x y e = ap value e where
  value : Option A → A
  value None = x
  value (Some a) = a

-- a relation that is changed alike is the same afterwards
pub changed_alike : (f g : Relation → Relation) (name : List ℕ) (d : Database) (r : Relation) → relation_named d name ≡ Some r → f r ≡ g r → changed_at name f d ≡ changed_at name g d
changed_alike f g name [] r named same = refl
changed_alike f g name (x ∷ d) r named same =
    let go : (b : Bool) → cond b (Some x) (relation_named d name) ≡ Some r → cond b (f x ∷ d) (x ∷ changed_at name f d) ≡ cond b (g x ∷ d) (x ∷ changed_at name g d) =
    elim [
      | true ↦ λ e. let is : x ≡ r = some_same x r e in
          ap (λ (y : Relation). y ∷ d) (subst (λ (y : Relation). f y ≡ g y) (sym is) same)
      | false ↦ λ e. ap (λ (rest : Database). x ∷ rest) (changed_alike f g name d r e same)
    ] in
    go (has_name name x) named

module _ (old : StoreState) (name : List ℕ) (encodings : List (List ℕ)) (rows : List (List Value)) (has : HasRowsFor old.catalog name encodings rows) where
  -- the relation, as it stands in the pages
  abbrev pub relation : Relation
  relation = relation_in old.pool.pages has.relation

  -- it is the one of the name
  pub named : relation_named (database old) name ≡ Some relation
  named = named_in old.pool.pages old.catalog.relations name ∙ ap (λ (o : Option RelationView). option_map (relation_in old.pool.pages) o) has.named

  -- the rows that stand in the encodings enter as those that were read are loaded
  pub entered_is : (setting : Setting) → with_encoded setting encodings relation ≡ loaded setting rows relation
  entered_is setting =
      ap (λ (vs : List (List Value)). entered setting vs relation) (rows_back has.relation.schema rows encodings has.encoded)
      ∙ sym (loaded_entered setting rows relation (rows_of_schema has.relation.schema rows encodings has.encoded))

  -- the checks of the load
  pub early_is : load_early old name ≡ None
  early_is = rw named refl

  pub late_is : (setting : Setting) → load_late setting old name rows ≡ (loaded setting rows relation).0
  late_is setting = rw named refl

  -- rows that were loaded are a change
  pub led_by_rows : (new : StoreState) (count : ℕ) → Loaded old new name rows count → Carries old new → LedByOne (Rows name encodings) old new
  led_by_rows new count h carries = record {
    carries = carries;
    sketched = h.sketched ∙ ap (λ (n : ℕ). sketched_at name (with_ids n) (sketches old)) (h.counted ∙ as_many has.relation.schema rows encodings has.encoded);
    takes = λ told setting is limits. record {
      relation = relation;
      named = named;
      encoded = subst (λ (vs : List (List Value)). AreEncodingsOf has.relation.schema vs encodings) (sym (rows_back has.relation.schema rows encodings has.encoded)) has.encoded;
      passes = ap (λ (p : Option Refusal × Relation). p.0) (entered_is setting) ∙ sym (late_is setting) ∙ h.late told setting is limits;
    };
    becomes = λ told setting is limits. h.becomes told setting is limits
        ∙ changed_alike (λ r. (loaded setting rows r).1) (λ r. (with_encoded setting encodings r).1) name (database old) relation named
        (sym (ap (λ (p : Option Refusal × Relation). p.1) (entered_is setting)));
  }

-- a relation of the database is one of the catalog
pub found_relation : (m : PageMap) (rs : List RelationView) (name : List ℕ) (r : Relation) → relation_named (database_in m rs) name ≡ Some r
    → (view : RelationView) × (find (is_named name) rs ≡ Some view) × (r ≡ relation_in m view)
found_relation m rs name r named = go (find (is_named name) rs) refl (sym (named_in m rs name) ∙ named) where
  go : (o : Option RelationView) → find (is_named name) rs ≡ o → option_map (relation_in m) o ≡ Some r
      → (view : RelationView) × (find (is_named name) rs ≡ Some view) × (r ≡ relation_in m view)
  go None e h = let clash : ⊥ = cc in absurd clash
  go (Some view) e h = (view, e, sym (some_same (relation_in m view) r h))
