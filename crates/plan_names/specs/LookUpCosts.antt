-- What a look-up costs in page gets: one descent of the index for each entry that it passes, with the entry's tuple where the entry doesn't
-- tell the value, and one descent more where it comes to the end.
use Rattle.std.specs.Prelude.{ℕ, ◌+◌, ◌*◌, ◌<◌, ◌≤◌, Bool, true, false, cond, nat_eq, nat_lt, ◌&&◌, List, length, filter, Option, None, Some, Result, Ok, Err}
use Rattle.page_pool.specs.Disk.{PageMap}
use Rattle.page_pool.specs.Pool.{PoolState}
use Rattle.page_pool.specs.declared.fault.PageFault.{PageFault}
use Rattle.pmr_tree.specs.Quadtree.{store_of}
use Rattle.sand_base.specs.declared.kind.Kind.{Kind}
use Rattle.sand_base.specs.declared.kind.Kind.TheVariants as kind
use Rattle.sand_base.specs.declared.value.Value.{Value}
use Rattle.sand_base.specs.declared.value.Value.TheVariants as value
use Rattle.sand_model.specs.Price.{tuple_price}
use Rattle.attr_index.specs.Entries.{Entry}
use Rattle.attr_index.specs.Index.{index_entries}
use Rattle.attr_index.specs.Key.{value_key}
use Rattle.sand_store.specs.Standing.{kind_at}
use Rattle.plan_names.specs.declared.look_up.LookUp.{LookUp}

-- how many entries have the key and an id above this one
abbrev pub key_count : ℕ → ℕ → List Entry → ℕ
key_count key after entries = length (filter (λ e. nat_eq e.0 key && nat_lt after e.1) entries)

-- how many entries of the value's key a look-up above an id has before it
abbrev pub entries_above : PageMap → LookUp → Value → ℕ → ℕ
entries_above pages l v after = key_count (value_key v) after (index_entries (store_of pages) l.index)

-- the kind is that of ints
abbrev pub is_int_kind : Option Kind → Bool
is_int_kind (Some kind.Int) = true
is_int_kind _ = false

-- an entry tells the value: it is an int of a column of ints
abbrev pub tells : LookUp → Value → Bool
tells l (value.Int n) = is_int_kind (kind_at l.spot.relation.value.schema l.spot.column)
tells l v = false

-- one descent of the index
abbrev pub descent_price : LookUp → ℕ
descent_price l = l.index.tree.height + 1

-- the tuple of an entry, where the entry doesn't tell the value
abbrev pub entry_tuple_price : LookUp → Value → ℕ
entry_tuple_price l v = cond (tells l v) 0 (tuple_price l.spot.relation.value.file.tree.height)

-- to pass an entry
abbrev pub entry_price : LookUp → Value → ℕ
entry_price l v = descent_price l + entry_tuple_price l v

-- The gets of a look-up above an id: those of the entries up to the one that is given, and where none is given, or the look-up is refused, at most those of all entries and of the end.
abbrev pub LooksUp : PageMap → LookUp → Value → ℕ → Result (Option ℕ) PageFault → PoolState → PoolState → Type 0
LooksUp pages l v after (Ok (Some id)) old new =
    (entries_above pages l v id < entries_above pages l v after)
    × (new.gets + entries_above pages l v id * entry_price l v ≤ old.gets + entries_above pages l v after * entry_price l v)
LooksUp pages l v after (Ok None) old new = new.gets ≤ old.gets + entries_above pages l v after * entry_price l v + descent_price l
LooksUp pages l v after (Err fault) old new = new.gets ≤ old.gets + entries_above pages l v after * entry_price l v + descent_price l
