-- The first file of a name is the one at the place that a search for the name gives.
use Rattle.std.proofs.Common.{◌≡◌, ◌⊎◌, inl, inr, ℕ, ◌<◌, ◌≤◌, Bool, true, false, cond, ltb, nat_eq, List, [], ◌∷◌, length, map, Option, Some, None, option_map, get_or}
use Rattle.std.proofs.Common.{refl, sym, ap, subst, ◌∙◌, arith}
use Rattle.std.specs.Cmp.Lexicographic.{pointwise}
use Rattle.std.specs.Option.{is_some}
use Rattle.std.specs.List.{find, position, position_or_len, slice_get}
use Rattle.std.proofs.lemmas.Bool.{ltb-true, ltb-false}
use Rattle.std.proofs.lemmas.List.Folds.{find_at}
use Rattle.std.proofs.lemmas.Option.{slice_get_past, slice_get-map, slice_get_cases}
use Rattle.sand_base.specs.MemShelf.{FilesState, file_named, bytes_from, has_file, opened}

-- a search among values is a search among what they are the values of
find-map : {X Y : Type 0} (v : X → Y) (q : Y → Bool) (xs : List X) → find q (map v xs) ≡ option_map v (find (λ x. q (v x)) xs)
find-map v q [] = refl
find-map {X} {Y} v q (x ∷ xs) =
    let go : (b : Bool) → cond b (Some (v x)) (find q (map v xs)) ≡ option_map v (cond b (Some x) (find (λ x. q (v x)) xs)) =
    elim [
      | true ↦ refl
      | false ↦ find-map v q xs
    ] in
    go (q (v x))

-- what a search finds stands at the place that it gives
named-at : {X : Type 0} (v : X → List ℕ × List ℕ) (name : List ℕ) (xs : List X)
    → file_named (map v xs) name ≡ option_map (λ file. file.1) (slice_get (map v xs) (position_or_len (λ x. pointwise nat_eq (v x).0 name) xs))
named-at {X} v name xs =
    let p : X → Bool = λ x. pointwise nat_eq (v x).0 name in
    ap (option_map (λ file. file.1))
    (find-map v (λ file. pointwise nat_eq file.0 name) xs ∙ ap (option_map v) (find_at p xs) ∙ sym (slice_get-map v xs (position_or_len p xs)))

-- where there is no place, there is no file
pub named-nowhere : {X : Type 0} (v : X → List ℕ × List ℕ) (name : List ℕ) (xs : List X)
    → position (λ x. pointwise nat_eq (v x).0 name) xs ≡ None → file_named (map v xs) name ≡ None
named-nowhere {X} v name xs h =
    let p : X → Bool = λ x. pointwise nat_eq (v x).0 name in
    let go : (b : Bool) → ltb (position_or_len p xs) (length xs) ≡ b → cond b (Some (position_or_len p xs)) None ≡ None
    → length xs ≤ position_or_len p xs =
    elim [
      | true ↦ λ e k. let clash : ⊥ = cc in absurd clash
      | false ↦ λ e k. ltb-false _ _ e
    ] in
    named-at v name xs ∙ ap (option_map (λ file. file.1)) (slice_get-map v xs (position_or_len p xs) ∙ ap (option_map v) (slice_get_past xs (position_or_len p xs) (go _ refl h)))

-- where there is a place, the file has the bytes at it
pub named-there : {X : Type 0} (v : X → List ℕ × List ℕ) (name : List ℕ) (xs : List X) (at : ℕ)
    → position (λ x. pointwise nat_eq (v x).0 name) xs ≡ Some at → file_named (map v xs) name ≡ Some (bytes_from (map v xs) at 0)
named-there {X} v name xs at h =
    let p : X → Bool = λ x. pointwise nat_eq (v x).0 name in
    let go : (b : Bool) → ltb (position_or_len p xs) (length xs) ≡ b → cond b (Some (position_or_len p xs)) None ≡ Some at
    → (position_or_len p xs ≡ at) × (at < length xs) =
    elim [
      | true ↦ λ e k.
          let same : position_or_len p xs ≡ at = (cc) in
          (same, omega (arith, same, ltb-true _ _ e))
      | false ↦ λ e k. let clash : ⊥ = cc in absurd clash
    ] in
    let place = go _ refl h in
    let there : ((file : List ℕ × List ℕ) × (slice_get (map v xs) at ≡ Some file)) = inside (slice_get_cases xs at).1 place.1 in
    named-at v name xs ∙ ap (λ k. option_map (λ file. file.1) (slice_get (map v xs) k)) place.0 ∙ shown there.0 there.1
  where
    inside : ((x : X) × (at < length xs) × (slice_get xs at ≡ Some x) × (get_or xs at x ≡ x)) ⊎ ((length xs ≤ at) × (slice_get xs at ≡ None)) → at < length xs
        → (file : List ℕ × List ℕ) × (slice_get (map v xs) at ≡ Some file)
    inside (inl (x, below, there, reads)) _ = (v x, slice_get-map v xs at ∙ ap (option_map v) there)
    inside (inr (past, none)) below = absurd (omega (arith, past, below))

    shown : (file : List ℕ × List ℕ) → slice_get (map v xs) at ≡ Some file
        → option_map (λ file. file.1) (slice_get (map v xs) at) ≡ Some (bytes_from (map v xs) at 0)
    shown file e = rw e

-- what an attempt to choose a file says and leaves

pub there-is : (s now : FilesState) (name : List ℕ) (found : Option (List ℕ)) → s ≡ now → file_named s.files name ≡ found → is_some found ≡ has_file now name
there-is s now name found same h = subst (λ (t : FilesState). is_some found ≡ has_file t name) same (ap is_some (sym h))

pub opened-is : (s now : FilesState) (name : List ℕ) (found : Option (List ℕ)) → s ≡ now → file_named s.files name ≡ found
    → record { files = s.files; left = found } ≡ opened now name
opened-is s now name found same h =
    let Is : FilesState → Type 0 = λ t. record { files = s.files; left = found } ≡ opened t name in
    subst Is same (ap (λ l. record { files = s.files; left = l }) (sym h))
