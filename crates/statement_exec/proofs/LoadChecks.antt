-- The early checks of a load, from what its file was read as.
use Rattle.std.proofs.Common.{◌≡◌, ℕ, ◌<◌, ◌≤◌, true, false, nat_lt, List, length, Option, Some, None, refl, ◌∙◌, ap, inl, inr, arith, suc}
use Rattle.std.proofs.lemmas.Bool.Decides.{leb_tells}
use Rattle.sand_base.specs.Shelf.{Files}
use Rattle.sand_base.specs.declared.refusal.Refusal.TheVariants as why
use Rattle.sand_base.specs.declared.value.Value.{Value}
use Rattle.csv_load.specs.declared.fault.LoadFault.{LoadFault}
use Rattle.csv_load.specs.declared.fault.LoadFault.TheVariants as fault
use Rattle.page_pool.specs.Disk.{PageMap}
use Rattle.page_pool.specs.Pool.{PoolState}
use Rattle.sand_model.specs.Cursor.{Cursor}
use Rattle.sand_model.specs.Database.{Database, Relation, relation_named}
use Rattle.statements.specs.Statement.{Load}
use Rattle.sand_model.specs.StatementChecks.{Setting, IsSetting, FileRows, AreRows, HasBad, early, check_load, file_rows, longest_file}
use Rattle.sand_store.specs.Catalog.{CatalogView, RelationView}
use Rattle.sand_store.specs.Contents.{database_in, relation_in}
use Rattle.statement_exec.specs.FileReading.{DataFile, HasRecords, IsFileTooLong, OfFound, GivesNone, file_refusal}
use Rattle.statement_exec.specs.Loading.{LoadOf, Yields, InSettings, IsRefusedEarly}
use Rattle.statement_exec.specs.Moment.{beside, IsSettingOf, state_with}
use Rattle.statement_exec.proofs.FileFaults.{some_files}

less : (a b : ℕ) → a < b → nat_lt a b ≡ true
less a b h = elim (leb_tells (suc a) b) [ inl x ↦ x.0 | inr x ↦ absurd (omega arith) ]

not_less : (a b : ℕ) → b ≤ a → nat_lt a b ≡ false
not_less a b h = elim (leb_tells (suc a) b) [ inl x ↦ absurd (omega arith) | inr x ↦ x.0 ]

module _ (setting : Setting) (cs : List Cursor) (d : Database) (load : LoadOf) (r : Relation) (named : relation_named d load.relation ≡ Some r) where
  -- the relation is there
  reached : check_load (state_with cs d) load.relation ≡ None
  reached = rw named refl

  too_long : (bytes : List ℕ) → setting.files load.file ≡ Some bytes → longest_file < length bytes
      → early setting (state_with cs d) (Load load.relation load.file load.header) ≡ Some why.FileTooLong
  too_long bytes there long =
      let l : nat_lt longest_file (length bytes) ≡ true = less longest_file (length bytes) long in
      rw (named, there, l) refl

  bad : (bytes : List ℕ) (row column : ℕ) → setting.files load.file ≡ Some bytes → length bytes ≤ longest_file
      → setting.rows_of bytes r.schema load.header ≡ HasBad row column
      → early setting (state_with cs d) (Load load.relation load.file load.header) ≡ Some (why.BadRecord row column)
  bad bytes row column there short records =
      let l : nat_lt longest_file (length bytes) ≡ false = not_less longest_file (length bytes) short in
      rw (named, there, l, records) refl

  passes : (bytes : List ℕ) (rows : List (List Value)) → setting.files load.file ≡ Some bytes → length bytes ≤ longest_file
      → setting.rows_of bytes r.schema load.header ≡ AreRows rows
      → early setting (state_with cs d) (Load load.relation load.file load.header) ≡ None
  passes bytes rows there short records =
      let l : nat_lt longest_file (length bytes) ≡ false = not_less longest_file (length bytes) short in
      rw (named, there, l, records) refl

  rows_are : (bytes : List ℕ) (rows : List (List Value)) → setting.files load.file ≡ Some bytes
      → setting.rows_of bytes r.schema load.header ≡ AreRows rows → file_rows setting load.file load.header r ≡ rows
  rows_are bytes rows there records = rw (there, records) refl

-- the same setting with other data files
pub setting_with : (setting : Setting) (found : Files) → IsSetting setting → IsSetting (record setting { files = found })
setting_with setting found is = record { gap = is.gap; rows_of = is.rows_of }

-- the file of a load
abbrev pub file_of : LoadOf → RelationView → DataFile
file_of load r = record { name = load.file; schema = r.schema; header = load.header }

module _ (files : Option Files) (catalog : CatalogView) (load : LoadOf) (r : RelationView) (named : (pages : PageMap)
    → relation_named (database_in pages catalog.relations) load.relation ≡ Some (relation_in pages r)) where
  module _ (found : Files) (cs : List Cursor) (pool : PoolState) (shelf : ℕ) (setting : Setting) (s : IsSettingOf (beside cs catalog pool files shelf) setting) where
    -- the setting with the data files that were found
    abbrev own : Setting
    own = record setting { files = found }

    -- its records are those of the file
    records_in : (rows : FileRows) (h : HasRecords (file_of load r) rows found) → own.rows_of h.bytes r.schema load.header ≡ rows
    records_in rows h = ap (λ f. f h.bytes r.schema load.header) s.rows_of ∙ h.records

    -- a file with rows alone gives them
    yields_in : (rows : List (List Value)) → HasRecords (file_of load r) (AreRows rows) found → Yields own (state_with cs (database_in pool.pages catalog.relations)) load rows
    yields_in rows h =
        let d : Database = database_in pool.pages catalog.relations in
        let relation : Relation = relation_in pool.pages r in
        let records : own.rows_of h.bytes r.schema load.header ≡ AreRows rows = records_in (AreRows rows) h in
        record {
          passes = passes own cs d load relation (named pool.pages) h.bytes rows h.there h.short records;
          relation = relation;
          named = named pool.pages;
          rows_are = rows_are own cs d load relation (named pool.pages) h.bytes rows h.there records;
          of_schema = λ k x l. (s.is.rows_of h.bytes r.schema load.header rows records k x l).0;
        }

    -- a file that is too long, or has a bad record, refuses the load
    long_in : IsFileTooLong (file_of load r) found → early own (state_with cs (database_in pool.pages catalog.relations)) (Load load.relation load.file load.header) ≡ Some why.FileTooLong
    long_in h = too_long own cs (database_in pool.pages catalog.relations) load (relation_in pool.pages r) (named pool.pages) h.bytes h.there h.long

    bad_in : (row column : ℕ) → HasRecords (file_of load r) (HasBad row column) found
        → early own (state_with cs (database_in pool.pages catalog.relations)) (Load load.relation load.file load.header) ≡ Some (why.BadRecord row column)
    bad_in row column h =
        bad own cs (database_in pool.pages catalog.relations) load (relation_in pool.pages r) (named pool.pages) h.bytes row column h.there h.short (records_in (HasBad row column) h)

  pub yields : (rows : List (List Value)) → OfFound files (HasRecords (file_of load r) (AreRows rows)) → InSettings catalog files (λ setting state. Yields setting state load rows)
  yields rows (found, told, h) = (found, told, λ cs pool shelf setting s. yields_in found cs pool shelf setting s rows h)

  -- a file that gives none refuses the load
  pub refuses : (fault : LoadFault) → GivesNone files (file_of load r) fault → InSettings catalog files (λ setting state. IsRefusedEarly setting state load (file_refusal fault))
  refuses fault.Memory h = let f = some_files files in (f.0, f.1, λ cs pool shelf setting s. tt)
  refuses fault.File h =
      let f = some_files files in
      (f.0, f.1, λ cs pool shelf setting s. reached (record setting { files = f.0 }) cs (database_in pool.pages catalog.relations) load (relation_in pool.pages r) (named pool.pages))
  refuses fault.FileTooLong (found, told, h) = (found, told, λ cs pool shelf setting s. long_in found cs pool shelf setting s h)
  refuses (fault.BadRecord row column) (found, told, h) = (found, told, λ cs pool shelf setting s. bad_in found cs pool shelf setting s row column h)

-- a relation that isn't there refuses the load
pub unknown : (files : Option Files) (catalog : CatalogView) (load : LoadOf) → ((pages : PageMap) → relation_named (database_in pages catalog.relations) load.relation ≡ None)
    → InSettings catalog files (λ setting state. IsRefusedEarly setting state load why.UnknownRelation)
unknown files catalog load none = let f = some_files files in (f.0, f.1, λ cs pool shelf setting s. rw (none pool.pages) refl)
