-- The numbers and the words by which refusals are printed.
use Rattle.std.specs.Prelude.{ℕ, List, codes}
use Rattle.sand_base.specs.declared.refusal.Refusal.{Refusal}
use Rattle.sand_base.specs.declared.refusal.Refusal.TheVariants.{Memory, Device, Damaged, File, LineTooLong, Syntax, Range, UnknownRelation, UnknownColumn, WrongKind}
use Rattle.sand_base.specs.declared.refusal.Refusal.TheVariants.{NameTaken, TooManyRelations, NoIndex, IndexThere, NoSuchId, BadRecord, FileTooLong, TupleTooLong}
use Rattle.sand_base.specs.declared.refusal.Refusal.TheVariants.{IdsSpent, IndexFull, UnknownCursor, CursorNameTaken, TooManyCursors, PlanTooDeep}

-- the number of a refusal
abbrev pub refusal_number : Refusal → ℕ
refusal_number Memory = 1
refusal_number Device = 2
refusal_number (Damaged page kept read) = 3
refusal_number File = 4
refusal_number LineTooLong = 5
refusal_number (Syntax column) = 6
refusal_number Range = 7
refusal_number UnknownRelation = 8
refusal_number UnknownColumn = 9
refusal_number WrongKind = 10
refusal_number NameTaken = 11
refusal_number TooManyRelations = 12
refusal_number NoIndex = 13
refusal_number IndexThere = 14
refusal_number NoSuchId = 15
refusal_number (BadRecord row column) = 16
refusal_number FileTooLong = 17
refusal_number TupleTooLong = 18
refusal_number IdsSpent = 19
refusal_number IndexFull = 20
refusal_number UnknownCursor = 21
refusal_number CursorNameTaken = 22
refusal_number TooManyCursors = 23
refusal_number PlanTooDeep = 25

-- the word of a refusal
abbrev pub refusal_word : Refusal → List ℕ
refusal_word Memory = codes "Memory"
refusal_word Device = codes "Device"
refusal_word (Damaged page kept read) = codes "Damaged"
refusal_word File = codes "File"
refusal_word LineTooLong = codes "LineTooLong"
refusal_word (Syntax column) = codes "Syntax"
refusal_word Range = codes "Range"
refusal_word UnknownRelation = codes "UnknownRelation"
refusal_word UnknownColumn = codes "UnknownColumn"
refusal_word WrongKind = codes "WrongKind"
refusal_word NameTaken = codes "NameTaken"
refusal_word TooManyRelations = codes "TooManyRelations"
refusal_word NoIndex = codes "NoIndex"
refusal_word IndexThere = codes "IndexThere"
refusal_word NoSuchId = codes "NoSuchId"
refusal_word (BadRecord row column) = codes "BadRecord"
refusal_word FileTooLong = codes "FileTooLong"
refusal_word TupleTooLong = codes "TupleTooLong"
refusal_word IdsSpent = codes "IdsSpent"
refusal_word IndexFull = codes "IndexFull"
refusal_word UnknownCursor = codes "UnknownCursor"
refusal_word CursorNameTaken = codes "CursorNameTaken"
refusal_word TooManyCursors = codes "TooManyCursors"
refusal_word PlanTooDeep = codes "PlanTooDeep"
