-- The pages of a tree byte by byte: a leaf with its members, an inner node with its branches.
use Rattle.std.specs.Prelude.{ℕ, ◌/◌, ◌%◌, ◌^◌, ◌==◌, ◌&&◌, nat_le, cond, Bool, true, false, List, [], map, slice_index, Option, None, Some}
use Rattle.sand_base.specs.declared.point.Point.{Point}
use Rattle.sand_base.specs.declared.rough.Rough.{Rough}
use Rattle.sand_base.specs.declared.rough.Rough.TheVariants as rough
use Rattle.code_btree.specs.Bytes.{piece, cells, half_of, word_of}
use Rattle.r_tree.specs.declared.entry.NodeEntry.{NodeEntry}

-- A node is inner or not, and has entries in no order. Other bytes are no node.
pub data NodeView : Type 0 where
  node : Bool → List NodeEntry → NodeView
  no_node : NodeView

-- The rough shape of a tag and two points: 1 is the first of them, 2 the segment between them, and any other tag the rectangle with these corners.
abbrev pub rough_of_tag : ℕ → Point → Point → Rough
rough_of_tag tag p q = cond (tag == 1) (rough.Point p) (cond (tag == 2) (rough.Segment (record { a = p; b = q })) (rough.Bound (record { low = p; high = q })))

-- two numbers of 4 bytes, read as one of 8: the first is the high half
abbrev pub point_of_halves : ℕ → Point
point_of_halves word = record { x = word / 2 ^ 32; y = word % 2 ^ 32 }

-- the entry of four numbers of 8 bytes: two points, the tag with the id, and the child page
unfoldable pub entry_from : ℕ → ℕ → ℕ → ℕ → NodeEntry
entry_from p q mark child = record { rough = rough_of_tag (mark / 2 ^ 32) (point_of_halves p) (point_of_halves q); id = mark % 2 ^ 32; child = child }

-- An entry in 32 bytes: two points, the tag and the id, each number in 4 bytes, and the child page in 8.
unfoldable pub node_entry : List ℕ → NodeEntry
node_entry cell = entry_from (word_of (piece 8 0 cell)) (word_of (piece 8 8 cell)) (word_of (piece 8 16 cell)) (word_of (piece 8 24 cell))

-- bytes 2 and 3 are the count of entries
abbrev pub entry_count : List ℕ → ℕ
entry_count page = half_of (piece 2 2 page)

-- entry i stands at 32 + 32 * i
abbrev pub page_entries : ℕ → List ℕ → List NodeEntry
page_entries count page = map node_entry (cells 32 32 count page)

-- byte 0 is 4 for a leaf and 5 for an inner node, of at most 126 entries
unfoldable pub rtree_node : List ℕ → NodeView
rtree_node page =
    cond (slice_index page 0 == 4 && nat_le (entry_count page) 126) (node false (page_entries (entry_count page) page))
    (cond (slice_index page 0 == 5 && nat_le (entry_count page) 126) (node true (page_entries (entry_count page) page)) no_node)

-- a node's entries
abbrev pub node_entries : NodeView → List NodeEntry
node_entries (node inner es) = es
node_entries no_node = []

-- what is read at a number: a page that isn't live is no node
abbrev pub rtree_node_in : Option (List ℕ) → NodeView
rtree_node_in None = no_node
rtree_node_in (Some page) = rtree_node page
