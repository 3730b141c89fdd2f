-- The runs of bytes that names and numbers are made of.
use Rattle.std.proofs.Common.{◌≡◌, ℕ, suc, ◌+◌, ◌<◌, ◌≤◌, Bool, true, false, ◌&&◌, ◌||◌, cond, eqb, ltb, get_or, List, [], ◌∷◌, length, take, drop, refl, ap, ◌∙◌, arith}
use Rattle.std.proofs.Math.Numerals.{one-add}
use Rattle.std.proofs.lemmas.Bool.{and_parts, and_from, lt-ltb, false≢true}
use Rattle.std.proofs.lemmas.Bool.Decides.{nat_tests}
use Rattle.std.proofs.lemmas.List.Folds.{length-prefix_len}
use Rattle.std.proofs.lemmas.Str.Ascii.{IsAscii-nil, IsAscii-cons}
use Rattle.std.specs.Char.{is_ascii_digit}
use Rattle.std.specs.List.{prefix_len, list_all}
use Rattle.std.specs.Str.{IsAscii}
use Rattle.script_text.specs.Lexing.{begins_number}
use Rattle.script_text.specs.Name.{starts_name, continues_name, is_name}
use Rattle.script_text.specs.Token.{is_digits, is_number}

-- every byte of the front that passes a test passes it
pub list_all-prefix : (p : ℕ → Bool) (bytes : List ℕ) → list_all p (take (prefix_len p bytes) bytes) ≡ true
list_all-prefix p [] = refl
list_all-prefix p (b ∷ bytes) =
    let go : (t : Bool) → p b ≡ t → list_all p (take (cond t (1 + prefix_len p bytes) 0) (b ∷ bytes)) ≡ true =
    elim [ true ↦ λ e. rw one-add (and_from _ _ e (list_all-prefix p bytes)) | false ↦ λ e. refl ] in
    go (p b) refl

-- bytes that go on a name are below 128
continues_name-ascii : (b : ℕ) → continues_name b ≡ true → b < 128
continues_name-ascii b h = grind (arith, nat_tests)

-- so are those that begin one
starts_name-ascii : (b : ℕ) → starts_name b ≡ true → b < 128
starts_name-ascii b h = grind (arith, nat_tests)

-- and digits
digit-ascii : (b : ℕ) → is_ascii_digit b ≡ true → b < 128
digit-ascii b h = grind (arith, nat_tests)

-- bytes that each pass a test of bytes below 128 are text
pub IsAscii-list_all : (p : ℕ → Bool) → ((b : ℕ) → p b ≡ true → b < 128) → (bytes : List ℕ) → list_all p bytes ≡ true → IsAscii bytes
IsAscii-list_all p below [] h = IsAscii-nil
IsAscii-list_all p below (b ∷ bytes) h =
    let both = and_parts (p b) (list_all p bytes) h in
    IsAscii-cons b bytes (below b both.0) (IsAscii-list_all p below bytes both.1)

-- a name is text
pub IsAscii-name : (bytes : List ℕ) → is_name bytes ≡ true → IsAscii bytes
IsAscii-name [] h = IsAscii-nil
IsAscii-name (b ∷ bytes) h =
    let both = and_parts (starts_name b) (list_all continues_name bytes) h in
    IsAscii-cons b bytes (starts_name-ascii b both.0) (IsAscii-list_all continues_name continues_name-ascii bytes both.1)

-- the run of a name's bytes after its first is a name
pub is_name-cut : (b : ℕ) (bytes : List ℕ) → starts_name b ≡ true → is_name (take (1 + prefix_len continues_name bytes) (b ∷ bytes)) ≡ true
is_name-cut b bytes h = rw one-add (and_from _ _ h (list_all-prefix continues_name bytes))

-- the bytes of a digit or a minus before digits, and of these, are text
pub IsAscii-number : (bytes : List ℕ) → is_number bytes ≡ true → IsAscii bytes
IsAscii-number [] h = IsAscii-nil
IsAscii-number (b ∷ bytes) h =
    let go : (t : Bool) → eqb b 45 ≡ t → cond t (is_digits bytes) (is_digits (b ∷ bytes)) ≡ true → IsAscii (b ∷ bytes) =
    elim [
      | true ↦ λ e h. IsAscii-cons b bytes (grind (arith, nat_tests)) (IsAscii-list_all is_ascii_digit digit-ascii bytes (and_parts _ _ h).1)
      | false ↦ λ e h. IsAscii-list_all is_ascii_digit digit-ascii (b ∷ bytes) (and_parts _ _ h).1
    ] in
    go _ refl h

-- the digits at the front, where there are any
is_digits-run : (bytes : List ℕ) → ltb 0 (prefix_len is_ascii_digit bytes) ≡ true → is_digits (take (prefix_len is_ascii_digit bytes) bytes) ≡ true
is_digits-run bytes h = and_from _ _ (ap (ltb 0) (length-prefix_len is_ascii_digit bytes) ∙ h) (list_all-prefix is_ascii_digit bytes)

-- a list with a first byte has more than none
le-ltb-suc : (ds : List ℕ) → ltb 0 (suc (length ds)) ≡ true
le-ltb-suc ds = lt-ltb 0 (suc (length ds)) (omega arith)

-- a digit or a minus before digits, and the digits after it, are a number
pub is_number-cut : (b : ℕ) (bytes : List ℕ) → begins_number b (prefix_len is_ascii_digit bytes) ≡ true
    → is_number (take (1 + prefix_len is_ascii_digit bytes) (b ∷ bytes)) ≡ true
is_number-cut b bytes h =
    let ds = take (prefix_len is_ascii_digit bytes) bytes in
    let go : (t u : Bool) → eqb b 45 ≡ t → is_ascii_digit b ≡ u → (u || t && ltb 0 (prefix_len is_ascii_digit bytes)) ≡ true
    → cond t (is_digits ds) (ltb 0 (suc (length ds)) && (u && list_all is_ascii_digit ds)) ≡ true =
    elim [
      | true ↦ elim [ true ↦ λ e d h. absurd (grind (arith, nat_tests)) | false ↦ λ e d h. is_digits-run bytes h ]
      | false ↦ elim [ true ↦ λ e d h. and_from _ _ (le-ltb-suc ds) (list_all-prefix is_ascii_digit bytes) | false ↦ λ e d h. absurd (false≢true h) ]
    ] in
    rw one-add (go _ _ refl refl h)

-- a name at the front of the bytes is text
pub IsAscii-name_cut : (bytes : List ℕ) (n : ℕ) → 1 ≤ length bytes → starts_name (get_or bytes 0 0) ≡ true → n ≡ prefix_len continues_name (drop 1 bytes)
    → IsAscii (take (1 + n) bytes)
IsAscii-name_cut [] n some h e = absurd (omega arith)
IsAscii-name_cut (b ∷ bytes) n some h e = rw e (IsAscii-name _ (is_name-cut b bytes h))

-- a number at the front of the bytes is text
pub IsAscii-number_cut : (bytes : List ℕ) (n : ℕ) → 1 ≤ length bytes
    → begins_number (get_or bytes 0 0) n ≡ true → n ≡ prefix_len is_ascii_digit (drop 1 bytes)
    → IsAscii (take (1 + n) bytes)
IsAscii-number_cut [] n some h e = absurd (omega arith)
IsAscii-number_cut (b ∷ bytes) n some h e = rw e (IsAscii-number _ (is_number-cut b bytes (rw e at h)))
