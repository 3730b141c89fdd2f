-- The numbers of the cursor of a name.
use Rattle.std.proofs.Common.{◌≡◌, ℕ, List, get_or, Option, Some, None, refl, sym, subst}
use Rattle.page_pool.specs.Pool.{StampMap}
use Rattle.plan_iterator.specs.Standing.{AreStats}
use Rattle.plan_iterator.specs.declared.stats.Stats.{Stats}
use Rattle.sand_model.specs.Cursor.{Cursor}
use Rattle.sand_model.specs.Database.{same_name}
use Rattle.open_cursors.specs.OpenCursors.{Places, StandAll, HaveOwnNames, NumbersOf, named}
use Rattle.open_cursors.specs.declared.open_cursor.OpenCursor.{OpenCursor}
use Rattle.open_cursors.proofs.NamedCursors.{FirstAt, NonePasses, StandsAt, none_named, at_place}

module _ {S T : Type 0} (At : Places S T) (stamps : StampMap) (xs : List (OpenCursor S T)) (cs : List Cursor) (name : List ℕ) (h : StandAll At stamps xs cs) where
  pub numbers_none : NonePasses (λ x. same_name x.name name) xs → NumbersOf (named cs name) None
  numbers_none n = subst (λ (o : Option Cursor). NumbersOf o None) (sym (none_named At stamps xs cs name h n)) refl

  pub numbers_named : (at : ℕ) (d : OpenCursor S T) (numbers : Stats) → d ≡ get_or xs at d → FirstAt (λ x. same_name x.name name) xs at → HaveOwnNames cs
      → ((c : Cursor) → At d stamps c → AreStats c numbers) → NumbersOf (named cs name) (Some numbers)
  numbers_named at d numbers here f own are =
      let w : StandsAt At stamps xs cs name at = at_place At stamps xs cs name at own h f in
      let stands : At d stamps w.cursor = subst (λ (y : OpenCursor S T). At y stamps w.cursor) (sym here) (w.stands d) in
      subst (λ (o : Option Cursor). NumbersOf o (Some numbers)) (sym w.is) (numbers, refl, are w.cursor stands)
