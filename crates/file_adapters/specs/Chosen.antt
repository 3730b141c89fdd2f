-- What a shelf of files tells of the chosen one.
use Rattle.std.specs.Prelude.{ℕ, List, Option, None, Some}

-- the bytes that are left of the chosen file, where there is one and it tells them
abbrev pub bytes_left_of : {F : Type 0} → (F → Option (List ℕ)) → Option F → Option (List ℕ)
bytes_left_of remaining None = None
bytes_left_of remaining (Some file) = remaining file
