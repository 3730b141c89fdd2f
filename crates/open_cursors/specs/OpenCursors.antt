-- The open cursors, each under its name, and what the next rows of one of them do.
use Rattle.std.specs.Prelude.{◌≡◌, ◌≢◌, ⊤, ℕ, Bool, true, false, cond, List, [], ◌∷◌, map, find, Option, Some, None, Result, Ok, Err}
use Rattle.std.specs.FinMap as map
use Rattle.std.specs.List.{list_any}
use Rattle.page_pool.specs.Disk.{PageMap}
use Rattle.page_pool.specs.Pool.{Shown, StampMap}
use Rattle.plan_iterator.specs.Standing.{AreStats}
use Rattle.plan_iterator.specs.declared.cursor.RowCursor.{RowCursor}
use Rattle.plan_iterator.specs.declared.stats.Stats.{Stats}
use Rattle.sand_base.specs.Streams.{Stays}
use Rattle.sand_base.specs.declared.refusal.Refusal.{Refusal}
use Rattle.sand_base.specs.declared.refusal.Refusal.TheVariants as why
use Rattle.sand_base.specs.declared.source.Failed.{Failed}
use Rattle.sand_model.specs.Cursor.{Cursor}
use Rattle.sand_model.specs.Database.{same_name}
use Rattle.sand_model.specs.Kept.{has_twice}
use Rattle.sand_model.specs.Outcome.{replaced, closed}
use Rattle.open_cursors.specs.Steps.{StepsOn, AnswersPages}
use Rattle.open_cursors.specs.declared.open_cursor.OpenCursor.{OpenCursor}

-- where a cursor stands over pages, as one of the model
abbrev pub OverPages : Type 0 → Type 0 → Type 1
OverPages S T = RowCursor S T → PageMap → Cursor → Type 0

-- where an open cursor stands, by the maps of the held stamps
abbrev pub Places : Type 0 → Type 0 → Type 1
Places S T = OpenCursor S T → StampMap → Cursor → Type 0

-- over the pages that its stamp holds
abbrev pub AtStamp : {S T : Type 0} → OverPages S T → Places S T
AtStamp At x stamps c = (shown : Shown) × (map.get stamps x.stamp ≡ Some shown) × At x.cursor shown.pages c

-- the open cursors stand where these of the model do, under the same names and in the same order
abbrev pub StandAll : {S T : Type 0} → Places S T → StampMap → List (OpenCursor S T) → List Cursor → Type 0
StandAll At stamps [] [] = ⊤
StandAll At stamps [] (c ∷ cs) = ⊥
StandAll At stamps (x ∷ xs) [] = ⊥
StandAll At stamps (x ∷ xs) (c ∷ cs) = (c.name ≡ x.name) × At x stamps c × StandAll At stamps xs cs

-- the stamp is held
abbrev pub IsHeld : StampMap → ℕ → Type 0
IsHeld stamps stamp = (shown : Shown) × (map.get stamps stamp ≡ Some shown)

-- no open cursor has the stamp
abbrev pub HasNone : {S T : Type 0} → ℕ → List (OpenCursor S T) → Type 0
HasNone stamp [] = ⊤
HasNone stamp (x ∷ xs) = (x.stamp ≢ stamp) × HasNone stamp xs

-- the stamps of the open cursors are held, and no two have one
abbrev pub HaveStamps : {S T : Type 0} → StampMap → List (OpenCursor S T) → Type 0
HaveStamps stamps [] = ⊤
HaveStamps stamps (x ∷ xs) = IsHeld stamps x.stamp × HasNone x.stamp xs × HaveStamps stamps xs

-- each open cursor has a stamp of its own, and no other stamp is held
abbrev pub AreHeld : {S T : Type 0} → StampMap → List (OpenCursor S T) → Type 0
AreHeld stamps xs = HaveStamps stamps xs × ((stamp : ℕ) → HasNone stamp xs → map.get stamps stamp ≡ None)

-- the open cursors have the names of these of the model, in the same order, wherever they stand
abbrev pub AreNamed : {S T : Type 0} → List (OpenCursor S T) → List Cursor → Type 0
AreNamed items cs = map (λ c. c.name) cs ≡ map (λ x. x.name) items

-- an open cursor has the name
abbrev pub is_open : {S T : Type 0} → List (OpenCursor S T) → List ℕ → Bool
is_open items name = list_any (λ x. same_name x.name name) items

-- the open cursors without the first one of the name
abbrev pub cursors_without : {S T : Type 0} → List ℕ → List (OpenCursor S T) → List (OpenCursor S T)
cursors_without name [] = []
cursors_without name (x ∷ xs) = cond (same_name x.name name) xs (x ∷ cursors_without name xs)

-- how `next` is refused: as unknown where no open cursor has the name, and else by want of memory or by a page alone
abbrev pub AnswersNext : Bool → Result (Option Refusal) Failed → Type 0
AnswersNext true result = AnswersPages result
AnswersNext false result = result ≡ Ok (Some why.UnknownCursor)

-- no two of them have one name
abbrev pub HaveOwnNames : List Cursor → Type 0
HaveOwnNames cs = has_twice (map (λ c. c.name) cs) ≡ false

-- the first cursor of a name
abbrev pub named : List Cursor → List ℕ → Option Cursor
named cs name = find (λ c. same_name c.name name) cs

-- the next rows of the cursor of a name: none has it, or it made steps, and all others are as they were
abbrev pub NextOf : Option Cursor → List Cursor → List ℕ → ℕ → (List ℕ → Type 0) → (List ℕ → Type 0) → Result (Option Refusal) Failed → (List Cursor → Type 0) → Type 0
NextOf None cs name count before now result At = (result ≡ Ok (Some why.UnknownCursor)) × Stays before now × At cs
NextOf (Some c) cs name count before now result At = StepsOn c count before now result (λ after. At (replaced name after cs))

-- the cursor of a name is ended: none has it, or it is gone, and all others are as they were
abbrev pub ClosesOf : Option Cursor → List Cursor → List ℕ → Result (Unit {0}) Refusal → (List Cursor → Type 0) → Type 0
ClosesOf None cs name result At = (result ≡ Err why.UnknownCursor) × At cs
ClosesOf (Some c) cs name result At = (result ≡ Ok tt) × At (closed name cs)

-- the numbers of the cursor of a name, or none where no cursor has it
abbrev pub NumbersOf : Option Cursor → Option Stats → Type 0
NumbersOf None result = result ≡ None
NumbersOf (Some c) result = (numbers : Stats) × (result ≡ Some numbers) × AreStats c numbers
