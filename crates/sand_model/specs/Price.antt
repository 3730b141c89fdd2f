-- Prices in page gets of what a search and an operator do. A height is that of the B-tree concerned.
use Rattle.std.specs.Prelude.{ℕ, ◌+◌, ◌*◌, List, sum_by}

-- to visit a block whose leaf lists so many ids, an inner place none
abbrev pub block_price : ℕ → ℕ → ℕ
block_price height ids = height * (ids + 2)

-- to visit a pair of blocks: the prices of both
abbrev pub pair_price : ℕ → ℕ → ℕ → ℕ → ℕ
pair_price left left_ids right right_ids = block_price left left_ids + block_price right right_ids

-- to fetch the tuple of a row: an object's geometry, a tested, fetched or sorted value
abbrev pub tuple_price : ℕ → ℕ
tuple_price height = height + 1

-- to fetch the geometries of a pair of objects
abbrev pub two_tuples_price : ℕ → ℕ → ℕ
two_tuples_price left right = tuple_price left + tuple_price right

-- to look up a key of an attribute index that so many entries have
abbrev pub lookup_price : ℕ → ℕ → ℕ
lookup_price height entries = (height + 1) * (entries + 1)

-- to look up a text: of each entry the tuple is fetched, since entries keep the beginning of a text
abbrev pub text_lookup_price : ℕ → ℕ → ℕ → ℕ
text_lookup_price height entries rows_height = lookup_price height entries + entries * tuple_price rows_height

-- one step of a scan, that at its end included
abbrev pub scan_price : ℕ → ℕ
scan_price height = height + 1

-- one step of a pick of whole numbers, that at its end included: a look-up with the entries that it passed
abbrev pub pick_price : ℕ → ℕ → ℕ
pick_price height passed = lookup_price height passed

-- one step of a pick of a text
abbrev pub text_pick_price : ℕ → ℕ → ℕ → ℕ
text_pick_price height passed rows_height = text_lookup_price height passed rows_height

-- To handle a row at an operator: a tuple for each place that a filter tests, a fetch adds or a sort compares, each of its own
-- relation. In a call it handles the rows that it takes, and the row that it has held since a call that was refused.
abbrev pub places_price : List ℕ → ℕ
places_price heights = sum_by tuple_price heights

-- To handle a row at a match: its tuple and the look-up of its value, of whole numbers and of texts. In each call it handles
-- the row whose matches it goes on looking for, too.
abbrev pub match_price : ℕ → ℕ → ℕ → ℕ
match_price rows_height height entries = tuple_price rows_height + lookup_price height entries

-- what a match by a text costs: the rows of all entries are read too
abbrev pub text_match_price : ℕ → ℕ → ℕ → ℕ → ℕ
text_match_price rows_height height entries others_height =
    tuple_price rows_height + text_lookup_price height entries others_height
