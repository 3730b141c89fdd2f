-- What a shelf of data files does where it tells them: a file is chosen by its name, and then read from its beginning.
use Rattle.std.specs.Prelude.{◌≡◌, ℕ, List, Option, Some}

-- the bytes of each file by its name, where there is a file of this name
abbrev pub Files : Type 0
Files = List ℕ → Option (List ℕ)

-- the file of the name is there, and all its bytes are left
pub record IsOpened (files : Files) (name : List ℕ) (left : Option (List ℕ)) : Type 0 where
  pub bytes : List ℕ
  pub there : files name ≡ Some bytes
  pub all_left : left ≡ Some bytes

-- where the shelf tells its files, the one of the name is there, and all its bytes are left
abbrev pub Opens : Option Files → List ℕ → Option (List ℕ) → Type 0
Opens files name left = (told : Files) → files ≡ Some told → IsOpened told name left
