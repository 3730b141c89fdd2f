-- The two pages of a B+-tree (R. Bayer and E. McCreight, 1972; D. Comer, 1979) as contracts see them: a leaf with its entries, an inner page with its keys and children.
use Rattle.std.specs.Prelude.{◌≡◌, ℕ, suc, ◌+◌, ◌*◌, ◌/◌, ◌≤◌, ◌==◌, ◌&&◌, nat_le, List, [], map, length, take, drop, cond, slice_index}
use Rattle.code_btree.specs.Bytes.{piece, cells, half_of, word_of, number_of}

-- a key with its value
abbrev pub Pair : Type 0
Pair = ℕ × ℕ

-- A leaf has its entries in the order of their keys, and the number of the next leaf, or 0. An inner page has keys and children. Other bytes are blank.
pub data Node : Type 0 where
  leaf : List Pair → ℕ → Node
  inner : List ℕ → List ℕ → Node
  blank : Node

-- the entry in 32 bytes
unfoldable pub entry_of : List ℕ → Pair
entry_of cell = (number_of (take 16 cell), number_of (take 16 (drop 16 cell)))

-- bytes 2 and 3 are the count, of entries or of keys
abbrev pub count_in_page : List ℕ → ℕ
count_in_page page = half_of (piece 2 2 page)

-- bytes 8 to 15 are the next leaf; entry i stands at 32 + 32 * i
unfoldable pub leaf_of : List ℕ → Node
leaf_of page = leaf (map entry_of (cells 32 32 (count_in_page page) page)) (word_of (piece 8 8 page))

-- key i stands at 32 + 16 * i, and child i at 2736 + 8 * i; there is one more child
unfoldable pub inner_of : List ℕ → Node
inner_of page = inner (map number_of (cells 16 32 (count_in_page page) page)) (map word_of (cells 8 2736 (suc (count_in_page page)) page))

-- byte 0 is 1 for a leaf, of at most 127 entries, and 2 for an inner page, of at most 169 keys
unfoldable pub node_of : List ℕ → Node
node_of page =
    cond (slice_index page 0 == 1 && nat_le (count_in_page page) 127) (leaf_of page)
    (cond (slice_index page 0 == 2 && nat_le (count_in_page page) 169) (inner_of page) blank)

-- a leaf's entries
abbrev pub entries_of : Node → List Pair
entries_of (leaf entries next) = entries
entries_of (inner keys children) = []
entries_of blank = []

-- the leaf that follows a leaf
abbrev pub next_of : Node → ℕ
next_of (leaf entries next) = next
next_of (inner keys children) = 0
next_of blank = 0

-- an inner page's keys
abbrev pub keys_of : Node → List ℕ
keys_of (leaf entries next) = []
keys_of (inner keys children) = keys
keys_of blank = []

-- an inner page's children
abbrev pub child_pages : Node → List ℕ
child_pages (leaf entries next) = []
child_pages (inner keys children) = children
child_pages blank = []

-- how much a page holds: a leaf's entries, an inner page's keys
abbrev pub size_of : Node → ℕ
size_of (leaf entries next) = length entries
size_of (inner keys children) = length keys
size_of blank = 0

-- a page that is read as a leaf
abbrev pub IsLeaf : List ℕ → Type 0
IsLeaf page = node_of page ≡ leaf (entries_of (node_of page)) (next_of (node_of page))

-- the entries of a leaf from a place on
abbrev pub entries_on : List ℕ → ℕ → List Pair
entries_on page place = drop place (entries_of (node_of page))

-- a page that is read as a leaf of so many entries
pub record IsLeafOf (page : List ℕ) (count : ℕ) : Type 0 where
  pub is_leaf : node_of page ≡ leaf (entries_of (node_of page)) (next_of (node_of page))
  pub counted : length (entries_of (node_of page)) ≡ count
  pub fits : count ≤ 127

-- a page that is read as an inner page of so many keys and one child more
pub record IsInnerOf (page : List ℕ) (count : ℕ) : Type 0 where
  pub is_inner : node_of page ≡ inner (keys_of (node_of page)) (child_pages (node_of page))
  pub counted : length (keys_of (node_of page)) ≡ count
  pub children : length (child_pages (node_of page)) ≡ count + 1
  pub fits : count ≤ 169

-- the entries, keys and children that stand in bytes
abbrev pub entries_in : List ℕ → List Pair
entries_in bytes = map entry_of (cells 32 0 (length bytes / 32) bytes)

-- the keys in a row of bytes, 16 each
abbrev pub keys_in : List ℕ → List ℕ
keys_in bytes = map number_of (cells 16 0 (length bytes / 16) bytes)

-- the children in a row of bytes, 8 each
abbrev pub children_in : List ℕ → List ℕ
children_in bytes = map word_of (cells 8 0 (length bytes / 8) bytes)

-- the key and the value of entry i, the key i and the child i, as they stand in a page
abbrev pub entry_key : List ℕ → ℕ → ℕ
entry_key page i = number_of (piece 16 (32 + 32 * i) page)

-- the value of entry i of a leaf
abbrev pub entry_value : List ℕ → ℕ → ℕ
entry_value page i = number_of (piece 16 (48 + 32 * i) page)

-- key i of an inner page
abbrev pub key_in : List ℕ → ℕ → ℕ
key_in page i = number_of (piece 16 (32 + 16 * i) page)

-- child i of an inner page
abbrev pub child_in : List ℕ → ℕ → ℕ
child_in page i = word_of (piece 8 (2736 + 8 * i) page)
