-- Where tuples lie, and what is known of it: a list of numbers, of which the n-th, counted from 0, tells the span of the tuple of id n + 1, and is 0 where it isn't known.
use Rattle.std.specs.Prelude.{◌≡◌, ℕ, zero, suc, ◌+◌, ◌*◌, ◌/◌, ◌%◌, ◌≤◌, ◌⊎◌, List, [], get_or, set, Some}
use Rattle.code_btree.specs.Items.{find_item}
use Rattle.code_btree.specs.Tree.{Store, tree_items}
use Rattle.tuple_file.specs.declared.file.TupleFile.{TupleFile}
use Rattle.tuple_file.specs.declared.span.Span.{Span}
use Rattle.tuple_file.specs.Page.{HasAt}
use Rattle.tuple_file.specs.File.{bytes_of}

-- The file's tree leads from the id to a slot, and the tuple of this slot lies in the span.
pub record Lies (m : Store) (f : TupleFile) (id : ℕ) (span : Span) : Type 0 where
  pub slot : ℕ
  pub leads : find_item id (tree_items m f.tree) ≡ Some (span.page * 65536 + slot)
  pub has : HasAt (bytes_of (m span.page)) slot span.start span.length

-- the span of a number: page * 2 ^ 32 + start * 2 ^ 16 + length
abbrev pub span_of : ℕ → Span
span_of number = record { page = number / 4294967296; start = number / 65536 % 65536; length = number % 65536 }

-- what is known is true of the file
abbrev pub AreKnown : Store → TupleFile → List ℕ → Type 0
AreKnown m f spans = (n : ℕ) → 1 ≤ get_or spans n 0 → Lies m f (n + 1) (span_of (get_or spans n 0))

-- each span that is known was known before, or is this one of the id
abbrev pub Learnt : List ℕ → ℕ → Span → List ℕ → Type 0
Learnt old id span new = (n : ℕ) → 1 ≤ get_or new n 0 → (get_or new n 0 ≡ get_or old n 0) ⊎ ((n + 1 ≡ id) × (span_of (get_or new n 0) ≡ span))

-- the span of the id is known no more
abbrev pub forgotten : ℕ → List ℕ → List ℕ
forgotten zero spans = spans
forgotten (suc n) spans = set spans n 0

-- the span of the id is known no more, or none is
abbrev pub Forgot : List ℕ → ℕ → List ℕ → Type 0
Forgot old id new = (new ≡ forgotten id old) ⊎ (new ≡ [])
