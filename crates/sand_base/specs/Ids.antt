-- How the ids of a row are held.
use Rattle.std.specs.Prelude.{ℕ, List}
use Rattle.sand_base.specs.declared.ids.Held.{Held}
use Rattle.sand_base.specs.declared.ids.Held.TheVariants as held

-- a single id in its place, or those of a list
abbrev pub held_ids : Held → List ℕ
held_ids (held.One id) = id
held_ids (held.List ids) = ids.items
