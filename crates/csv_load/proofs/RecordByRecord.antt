-- How the records of some bytes are given one by one, and entered as rows.
use Rattle.std.proofs.Common.{◌≡◌, ℕ, zero, suc, ◌+◌, ◌-◌, ◌<◌, ◌≤◌, Bool, true, false, List, [], ◌∷◌, ◌++◌, length, drop, Option, Some, Ok, Err, Bor, refl, sym, ap, ◌∙◌, inl, arith, append_assoc}
use Rattle.std.proofs.lemmas.List.{append-nil}
use Rattle.csv.specs.Reading.{ReadRecord, default_config, records, records_from, strip_bom}
use Rattle.csv.specs.declared.iter.ByteRecordsIntoIter.{ByteRecordsIntoIter}
use Rattle.csv.specs.declared.parser.State.TheVariants as st
use Rattle.csv.proofs.ReadFacts.{rows-more, rows-end}
use Rattle.sand_base.specs.declared.kind.Kind.{Kind}
use Rattle.sand_base.specs.declared.value.Value.{Value}
use Rattle.sand_model.specs.StatementChecks.{AreRows, HasBad}
use Rattle.csv_load.specs.FileRows.{record_row, rows_from, first_row, rows_of_file, TellsColumn, TellsBad}
use Rattle.csv_load.specs.Progress.{HasGivenRecords}
use Rattle.csv_load.specs.declared.fault.LoadFault.{LoadFault}
use Rattle.csv_load.specs.declared.fault.LoadFault.TheVariants as fault
use Rattle.csv_load.proofs.RecordCount.{reached-bound, reached-records, none-left, strip-within}
use Rattle.csv_load.proofs.RowByRow.{length-push, skipped, entered, refused}

-- what a slice has left
abbrev left_of : Bor (List ℕ) → Option (List ℕ)
left_of s = Some s.now

-- one record more was given
pub next-given : (bytes : List ℕ) (given : List (List (List ℕ))) (a b : ByteRecordsIntoIter (Bor (List ℕ))) (fields : List (List ℕ)) → HasGivenRecords bytes given a
    → ReadRecord left_of a.rdr b.rdr true fields → b.rdr.first ≡ true → 0 < b.left → HasGivenRecords bytes (given ++ fields ∷ []) b
next-given bytes given a b fields h r first left =
    let more = rows-more left_of a.rdr b.rdr fields default_config st.StartRecord (strip_bom bytes) h.left given h.config h.source h.reached r in
    record { plain = r.3 ∙ h.plain; ready = inl first; goes_on = left; config = r.2 ∙ h.config; left = more.0; source = more.1; reached = more.2 }

-- there are no more records than bytes, and one
pub given-within : (bytes : List ℕ) (given : List (List (List ℕ))) (a : ByteRecordsIntoIter (Bor (List ℕ))) → HasGivenRecords bytes given a → length given ≤ length bytes + 1
given-within bytes given a h =
    omega (arith, strip-within bytes, reached-bound default_config st.StartRecord (strip_bom bytes) given a.rdr.state h.left h.reached)

-- the records given are the first ones
pub given-first : (bytes : List ℕ) (given : List (List (List ℕ))) (a : ByteRecordsIntoIter (Bor (List ℕ))) → HasGivenRecords bytes given a
    → (left : List (List (List ℕ))) × (records default_config (strip_bom bytes) ≡ given ++ left)
given-first bytes given a h = (
  records_from default_config (length (strip_bom bytes) + 1 - length given) a.rdr.state h.left,
  reached-records default_config (length (strip_bom bytes) + 1) st.StartRecord (strip_bom bytes) given a.rdr.state h.left h.reached
      (reached-bound default_config st.StartRecord (strip_bom bytes) given a.rdr.state h.left h.reached),
)

-- at the end they are all
pub given-all : (bytes : List ℕ) (given : List (List (List ℕ))) (a b : ByteRecordsIntoIter (Bor (List ℕ))) → HasGivenRecords bytes given a
    → ReadRecord left_of a.rdr b.rdr false [] → records default_config (strip_bom bytes) ≡ given
given-all bytes given a b h r =
    let end = rows-end left_of a.rdr b.rdr [] default_config h.left h.config h.source r in
    let none = none-left default_config (length (strip_bom bytes) + 1 - length given) a.rdr.state h.left end in
    reached-records default_config (length (strip_bom bytes) + 1) st.StartRecord (strip_bom bytes) given a.rdr.state h.left h.reached
    (reached-bound default_config st.StartRecord (strip_bom bytes) given a.rdr.state h.left h.reached)
    ∙ ap (λ (rs : List (List (List ℕ))). given ++ rs) none ∙ append-nil given

-- Records were given, so many, and those from the first on were entered as the rows.
pub record HasEntered (bytes : List ℕ) (schema : List (List ℕ × Kind)) (first number : ℕ) (rows : List (List Value)) (it : ByteRecordsIntoIter (Bor (List ℕ))) : Type 0 where
  pub given : List (List (List ℕ))
  pub state : HasGivenRecords bytes given it
  pub counted : number ≡ length given
  pub read : rows_from first schema (drop (first - 1) given) ≡ AreRows rows

none-dropped : {A : Type 0} (n : ℕ) → drop {A = A} n [] ≡ []
none-dropped zero = refl
none-dropped (suc n) = refl

-- none was given yet
pub none-entered : (bytes : List ℕ) (schema : List (List ℕ × Kind)) (first : ℕ) (it : ByteRecordsIntoIter (Bor (List ℕ))) → HasGivenRecords bytes [] it → HasEntered bytes schema first 0 [] it
none-entered bytes schema first it h = record { given = []; state = h; counted = refl; read = ap (rows_from first schema) (none-dropped (first - 1)) }

-- a record too few for the first row was given
pub header-given : (bytes : List ℕ) (schema : List (List ℕ × Kind)) (first number : ℕ) (rows : List (List Value)) (a b : ByteRecordsIntoIter (Bor (List ℕ))) (fields : List (List ℕ))
    → HasEntered bytes schema first number rows a → ReadRecord left_of a.rdr b.rdr true fields → b.rdr.first ≡ true → 0 < b.left → number + 1 < first
    → HasEntered bytes schema first (number + 1) rows b
header-given bytes schema first number rows a b fields h r begun left few = record {
  given = h.given ++ fields ∷ [];
  state = next-given bytes h.given a b fields h.state r begun left;
  counted = omega (arith, h.counted, length-push h.given fields);
  read = skipped schema first h.given rows fields (omega (arith, h.counted, few)) h.read;
}

-- a record was given and entered as a row
pub row-entered : (bytes : List ℕ) (schema : List (List ℕ × Kind)) (first number : ℕ) (rows : List (List Value)) (a b : ByteRecordsIntoIter (Bor (List ℕ))) (fields : List (List ℕ)) (row : List Value)
    → HasEntered bytes schema first number rows a → ReadRecord left_of a.rdr b.rdr true fields → b.rdr.first ≡ true → 0 < b.left → first ≤ number + 1
    → record_row 1 schema fields ≡ Ok row → HasEntered bytes schema first (number + 1) (rows ++ row ∷ []) b
row-entered bytes schema first number rows a b fields row h r begun left many is = record {
  given = h.given ++ fields ∷ [];
  state = next-given bytes h.given a b fields h.state r begun left;
  counted = omega (arith, h.counted, length-push h.given fields);
  read = entered schema first h.given rows fields row (omega (arith, h.counted, many)) h.read is;
}

-- all were given
pub all-entered : (bytes : List ℕ) (schema : List (List ℕ × Kind)) (header : Bool) (first number : ℕ) (rows : List (List Value)) (a b : ByteRecordsIntoIter (Bor (List ℕ)))
    → first ≡ first_row header → HasEntered bytes schema first number rows a → ReadRecord left_of a.rdr b.rdr false [] → rows_of_file bytes schema header ≡ AreRows rows
unfolding rows_of_file
all-entered bytes schema header first number rows a b is h r =
    ap (λ (rs : List (List (List ℕ))). rows_from (first_row header) schema (drop (first_row header - 1) rs)) (given-all bytes h.given a b h.state r)
    ∙ ap (λ n. rows_from n schema (drop (n - 1) h.given)) (sym is)
    ∙ h.read

-- the first row is at least the first record
first-some : (header : Bool) → 1 ≤ first_row header
first-some true = omega arith
first-some false = omega arith

-- one was given that is no row
bad-given : (bytes : List ℕ) (schema : List (List ℕ × Kind)) (header : Bool) (first number : ℕ) (rows : List (List Value)) (a b : ByteRecordsIntoIter (Bor (List ℕ)))
    (fields : List (List ℕ)) (column : ℕ)
    → first ≡ first_row header → HasEntered bytes schema first number rows a → ReadRecord left_of a.rdr b.rdr true fields → b.rdr.first ≡ true → 0 < b.left → first ≤ number + 1
    → record_row 1 schema fields ≡ Err column → rows_of_file bytes schema header ≡ HasBad (number + 1) column
unfolding rows_of_file
bad-given bytes schema header first number rows a b fields column is h r begun left many bad =
    let front = given-first bytes (h.given ++ fields ∷ []) b (next-given bytes h.given a b fields h.state r begun left) in
    let all : records default_config (strip_bom bytes) ≡ h.given ++ fields ∷ front.0 = front.1 ∙ append_assoc h.given (fields ∷ []) front.0 in
    let some = first-some header in
    let same : length h.given + 1 ≡ number + 1 = omega (arith, h.counted) in
    ap (λ (rs : List (List (List ℕ))). rows_from (first_row header) schema (drop (first_row header - 1) rs)) all
    ∙ ap (λ n. rows_from n schema (drop (n - 1) (h.given ++ fields ∷ front.0))) (sym is)
    ∙ refused schema first h.given rows fields column front.0 (omega (arith, is, some)) (omega (arith, h.counted, many)) h.read bad
    ∙ ap (λ n. HasBad n column) same

-- what a fault of that record tells, it tells of the file
pub bad-told : (bytes : List ℕ) (schema : List (List ℕ × Kind)) (header : Bool) (first number : ℕ) (rows : List (List Value)) (a b : ByteRecordsIntoIter (Bor (List ℕ)))
    (fields : List (List ℕ)) (why : LoadFault)
    → first ≡ first_row header → HasEntered bytes schema first number rows a → ReadRecord left_of a.rdr b.rdr true fields → b.rdr.first ≡ true → 0 < b.left → first ≤ number + 1
    → TellsColumn (number + 1) (record_row 1 schema fields) why → TellsBad (rows_of_file bytes schema header) why
bad-told bytes schema header first number rows a b fields fault.Memory is h r begun left many tells = tells
bad-told bytes schema header first number rows a b fields fault.File is h r begun left many tells = tells
bad-told bytes schema header first number rows a b fields fault.FileTooLong is h r begun left many tells = tells
bad-told bytes schema header first number rows a b fields (fault.BadRecord n column) is h r begun left many tells =
    bad-given bytes schema header first number rows a b fields column is h r begun left many tells.1 ∙ ap (λ k. HasBad k column) (sym tells.0)
