-- How a file is read piece by piece.
use Rattle.std.proofs.Common.{◌≡◌, ℕ, ◌+◌, ◌<◌, ◌≤◌, List, [], ◌++◌, length, Option, Some, None, refl, sym, ap, ◌∙◌, arith, append_assoc, length-append}
use Rattle.std.specs.Io.KnownBytes.{Consumes, IsAtEnd}
use Rattle.std.proofs.lemmas.List.{append-nil, drop_at}
use Rattle.sand_base.specs.Shelf.{Files, Opens}
use Rattle.sand_model.specs.StatementChecks.{longest_file}
use Rattle.csv_load.specs.FileBytes.{IsWholeFile, IsTooLong, IsOfTheOutside, IsTakenTo, TakesBytes, TakesFew, TakesOn}
use Rattle.csv_load.specs.declared.fault.LoadFault.{LoadFault}
use Rattle.csv_load.specs.declared.fault.LoadFault.TheVariants as fault

-- the file of the name has these bytes, and then those that are left
pub record IsRead (files : Files) (name : List ℕ) (left : Option (List ℕ)) (bytes : List ℕ) : Type 0 where
  pub rest : List ℕ
  pub there : files name ≡ Some (bytes ++ rest)
  pub left_is : left ≡ Some rest

-- so it is where the shelf tells its files
abbrev pub HasRead : Option Files → List ℕ → Option (List ℕ) → List ℕ → Type 0
HasRead files name left bytes = (told : Files) → files ≡ Some told → IsRead told name left bytes

-- the count that stands, and what was read
pub record SoFar (first files : Option Files) (name : List ℕ) (left : Option (List ℕ)) (before now : ℕ) (Chosen : Type 0) (bytes : List ℕ) : Type 0 where
  pub same : files ≡ first
  pub chosen : Chosen
  pub counted : now ≡ before
  pub short : length bytes ≤ longest_file
  pub read : HasRead first name left bytes

-- nothing was read yet
pub none-read : (first : Option Files) (name : List ℕ) (left : Option (List ℕ)) → Opens first name left → HasRead first name left []
none-read first name left opens told e =
    let open_file = opens told e in
    record { rest = open_file.bytes; there = open_file.there; left_is = open_file.all_left }

-- some bytes more were
take-more : (files : Files) (name : List ℕ) (old new : Option (List ℕ)) (bytes taken : List ℕ) → IsRead files name old bytes → Consumes old new taken → IsRead files name new (bytes ++ taken)
take-more files name old new bytes taken h c = go new (rw h.left_is at c) where
  go : (after : Option (List ℕ)) → Consumes (Some h.rest) after taken → IsRead files name after (bytes ++ taken)
  go None c = absurd c
  go (Some rest) c = record {
    rest = rest;
    there = h.there ∙ ap (λ (r : List ℕ). Some (bytes ++ r)) c ∙ ap (λ (r : List ℕ). Some r) (sym (append_assoc bytes taken rest));
    left_is = refl;
  }

pub more-read : (first : Option Files) (name : List ℕ) (old new : Option (List ℕ)) (bytes now : List ℕ) (count : ℕ) → HasRead first name old bytes
    → TakesBytes old new bytes now count → HasRead first name new now
more-read first name old new bytes now count h t told e = rw t.behind (take-more told name old new bytes t.taken (h told e) t.consumed)

-- at the end it is the whole file
end-read : (files : Files) (name : List ℕ) (left : Option (List ℕ)) (bytes : List ℕ) → IsRead files name left bytes → IsAtEnd left → files name ≡ Some bytes
end-read files name left bytes h end =
    let none : h.rest ≡ [] = rw h.left_is at end in
    h.there ∙ ap (λ (r : List ℕ). Some (bytes ++ r)) none ∙ ap (λ (r : List ℕ). Some r) (append-nil bytes)

pub whole-read : (first : Option Files) (name : List ℕ) (old new : Option (List ℕ)) (bytes now : List ℕ) (count : ℕ) → HasRead first name old bytes
    → TakesBytes old new bytes now count → count ≡ 0 → IsWholeFile first name now
whole-read first name old new bytes now count h t none told e =
    end-read told name new now (more-read first name old new bytes now count h t told e) (t.end none)

-- with a byte too many it is too long
pub long-read : (first : Option Files) (name : List ℕ) (old new : Option (List ℕ)) (bytes now : List ℕ) (count : ℕ) → HasRead first name old bytes
    → TakesBytes old new bytes now count → longest_file < length now → IsTooLong first name new
long-read first name old new bytes now count h t long told e =
    let read = more-read first name old new bytes now count h t told e in
    let few = t.few in
    let all : length now ≡ longest_file + 1 = omega arith in
    record {
      bytes = now ++ read.rest;
      there = read.there;
      long = omega (arith, length-append now read.rest);
      taken = read.left_is ∙ ap (λ (r : List ℕ). Some r) (sym (drop_at now read.rest (longest_file + 1) all));
    }

-- at any time no more was taken than one byte too many
taken-few : (files : Files) (name : List ℕ) (left : Option (List ℕ)) (bytes : List ℕ) → length bytes ≤ longest_file + 1 → IsRead files name left bytes → IsTakenTo (longest_file + 1) files name left
taken-few files name left bytes few h = record {
  bytes = bytes ++ h.rest;
  there = h.there;
  taken = length bytes;
  few = few;
  rest = h.left_is ∙ ap (λ (r : List ℕ). Some r) (sym (drop_at bytes h.rest (length bytes) refl));
}

pub few-taken : (first : Option Files) (name : List ℕ) (old new : Option (List ℕ)) (bytes : List ℕ) → HasRead first name old bytes → TakesOn old new bytes → TakesFew first name new
few-taken first name old new bytes h t told e =
    taken-few told name new (bytes ++ t.taken) (omega (arith, t.few, length-append bytes t.taken)) (take-more told name old new bytes t.taken (h told e) t.consumed)

-- a fault of the outside is none of length
pub not-long : (why : LoadFault) → IsOfTheOutside why → ¬ (why ≡ fault.FileTooLong)
not-long fault.Memory h e = absurd cc
not-long fault.File h e = absurd cc
not-long fault.FileTooLong h e = h
not-long (fault.BadRecord row column) h e = h
