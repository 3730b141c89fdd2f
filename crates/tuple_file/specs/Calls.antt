-- What the calls of a tuple file do.
use Rattle.std.specs.Prelude.{◌≡◌, ◌≢◌, ℕ, ◌≤◌, List, [], length, Option, None, Some, is_some, option_map, Bool, MatchOption}
use Rattle.sand_base.specs.declared.kind.Kind.{Kind}
use Rattle.sand_base.specs.declared.value.Value.{Value}
use Rattle.tuple_codec.specs.Decoding.{IsEncodingOf, IsValueIn}
use Rattle.code_btree.specs.Items.{find_item}
use Rattle.code_btree.specs.Tree.{Store, tree_items, times}
use Rattle.code_btree.specs.Calls.{Keeps}
use Rattle.tuple_file.specs.declared.file.TupleFile.{TupleFile}
use Rattle.tuple_file.specs.declared.span.Span.{Span}
use Rattle.tuple_file.specs.Page.{HasRoom}
use Rattle.tuple_file.specs.Rows.{of_id, with_id, without_id}
use Rattle.tuple_file.specs.File.{bytes_of, page_of, IsFile, tuples_of, file_pages}
use Rattle.tuple_file.specs.Spans.{Lies}

-- a new file of no tuples, on pages that weren't live
pub record FilePlanted (m w : Store) (f : TupleFile) : Type 0 where
  pub file : IsFile w f
  pub rows : tuples_of w f ≡ []
  pub keeps : Keeps m w [] (file_pages w f)

-- The list has the id and the bytes. They lie in the newest page, which is that of before where they fit there, and else a new one. No other tuple was moved, and no other page was touched.
pub record Put (m w : Store) (f g : TupleFile) (id : ℕ) (bytes : List ℕ) : Type 0 where
  pub file : IsFile w g
  pub rows : tuples_of w g ≡ with_id id bytes (tuples_of m f)
  pub lies : option_map page_of (find_item id (tree_items w g.tree)) ≡ g.newest
  pub fills : (q : ℕ) → f.newest ≡ Some q → HasRoom (bytes_of (m q)) (length bytes) → g.newest ≡ Some q
  pub begins : (q : ℕ) → ((p : ℕ) → f.newest ≡ Some p → ¬ HasRoom (bytes_of (m p)) (length bytes)) → g.newest ≡ Some q → m q ≡ None
  pub stay : (i : ℕ) (span : Span) → Lies m f i span → Lies w g i span
  pub keeps : Keeps m w (file_pages m f) (file_pages w g)

-- The list lacks the id, the answer says whether it was there, the newest page stays so while it is one of the file, no other tuple was moved, and no other page was touched.
pub record TupleTaken (m w : Store) (f g : TupleFile) (id : ℕ) (was : Bool) : Type 0 where
  pub file : IsFile w g
  pub rows : tuples_of w g ≡ without_id id (tuples_of m f)
  pub found : was ≡ is_some (of_id id (tuples_of m f))
  pub stays : (q : ℕ) → f.newest ≡ Some q → 1 ≤ times q (file_pages w g) → g.newest ≡ Some q
  pub stay : (i : ℕ) (span : Span) → i ≢ id → Lies m f i span → Lies w g i span
  pub keeps : Keeps m w (file_pages m f) (file_pages w g)

-- the row of the schema of which the bytes are the encoding was found, or they are the encoding of none
abbrev pub IsDecoded : List (List ℕ × Kind) → List ℕ → Option (List Value) → Type 0
IsDecoded schema bytes found = MatchOption found ((row : List Value) → IsEncodingOf schema row bytes → ⊥) (λ row. IsEncodingOf schema row bytes)

-- The row of the schema of which the bytes of the id are the encoding was found; or the id isn't there, or its bytes are the encoding of none.
abbrev pub IsRowAt : List (List ℕ × Kind) → List (ℕ × List ℕ) → ℕ → Option (List Value) → Type 0
IsRowAt schema rows id found =
    MatchOption found ((bytes : List ℕ) (row : List Value) → of_id id rows ≡ Some bytes → IsEncodingOf schema row bytes → ⊥)
    (λ row. (bytes : List ℕ) × ((of_id id rows ≡ Some bytes) × IsEncodingOf schema row bytes))

-- The value is the one that the row of the schema of which the bytes of the id are the encoding has in the column; or the id isn't there, and none was found.
abbrev pub IsValueAt : List (List ℕ × Kind) → List (ℕ × List ℕ) → ℕ → ℕ → Option Value → Type 0
IsValueAt schema rows id column value =
    MatchOption (of_id id rows) (value ≡ None) (λ bytes. IsValueIn schema bytes column value)

-- the file is in w what it is in m: its list, its pages, where its tuples lie, and that it is a file
pub record FileUnmoved (m w : Store) (f : TupleFile) : Type 0 where
  pub rows : tuples_of w f ≡ tuples_of m f
  pub pages : file_pages w f ≡ file_pages m f
  pub stay : (i : ℕ) (span : Span) → Lies m f i span → Lies w f i span
  pub file : IsFile m f → IsFile w f
