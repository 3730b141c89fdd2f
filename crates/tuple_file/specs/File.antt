-- A tuple file over pages: its list of (id, bytes), its pages, and what makes pages a file.
use Rattle.std.specs.Prelude.{◌≡◌, ℕ, zero, suc, ◌/◌, ◌%◌, ◌≤◌, List, [], ◌∷◌, ◌++◌, map, Option, None, Some}
use Rattle.code_btree.specs.Node.{Pair}
use Rattle.code_btree.specs.Tree.{Store, IsTree, tree_items, tree_pages, times, live}
use Rattle.tuple_file.specs.declared.file.TupleFile.{TupleFile}
use Rattle.tuple_file.specs.Page.{IsTuples, tuple_at, some}

-- the bytes of a page; a page that isn't live has none
abbrev pub bytes_of : Option (List ℕ) → List ℕ
bytes_of None = []
bytes_of (Some page) = page

-- the page of a place, and its slot there: a place is page * 2 ^ 16 + slot
abbrev pub page_of : ℕ → ℕ
page_of place = place / 65536

-- the slot of a place in its page
abbrev pub slot_of : ℕ → ℕ
slot_of place = place % 65536

-- the tuple at a place
abbrev pub tuple_of : Store → ℕ → List ℕ
tuple_of m place = tuple_at (bytes_of (m (page_of place))) (slot_of place)

-- the places to which the pairs of a tree lead, and the pages of these
abbrev pub tuple_places : List Pair → List ℕ
tuple_places es = map (λ e. e.1) es

-- the pages of the places to which entries lead
abbrev pub homes : List Pair → List ℕ
homes es = map (λ e. page_of e.1) es

-- a number before others, where it stands 0 times among those behind it
abbrev pub first_time : ℕ → ℕ → List ℕ → List ℕ
first_time zero x xs = x ∷ xs
first_time (suc n) x xs = xs

-- each number once
abbrev pub once : List ℕ → List ℕ
once [] = []
once (x ∷ xs) = first_time (times x xs) x (once xs)

-- the tuples to which the pairs of a tree lead, by id
abbrev pub tuples : Store → List Pair → List (ℕ × List ℕ)
tuples m es = map (λ e. (e.0, tuple_of m e.1)) es

-- a file's list of (id, bytes)
abbrev pub tuples_of : Store → TupleFile → List (ℕ × List ℕ)
tuples_of m f = tuples m (tree_items m f.tree)

-- a file's pages: those of its tree, and those to which an id leads, each once
abbrev pub file_pages : Store → TupleFile → List ℕ
file_pages m f = tree_pages m f.tree ++ once (homes (tree_items m f.tree))

-- Every page to which an id leads is a page of tuples, and each of its tuples has one id: none is lost or shared.
pub record IsHoused (m : Store) (es : List Pair) : Type 0 where
  pub sound : (q : ℕ) → 1 ≤ times q (homes es) → IsTuples (bytes_of (m q))
  pub led : (place : ℕ) → 1 ≤ times (page_of place) (homes es) → times place (tuple_places es) ≡ some (tuple_of m place)

-- The tree leads from ids to places. Each page of the file is live and stands there once. The newest page is one of tuples.
pub record IsFile (m : Store) (f : TupleFile) : Type 0 where
  pub tree : IsTree m f.tree
  pub owns : (q : ℕ) → times q (file_pages m f) ≤ live m q
  pub housed : IsHoused m (tree_items m f.tree)
  pub newest : (q : ℕ) → f.newest ≡ Some q → 1 ≤ times q (homes (tree_items m f.tree))
