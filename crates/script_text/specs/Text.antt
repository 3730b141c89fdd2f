-- What stands between the quotes of a text: characters, of which no one is a control character, and each quote doubled.
use Rattle.std.specs.Prelude.{◌≡◌, ℕ, zero, suc, ◌+◌, ◌-◌, Bool, true, false, not, ◌&&◌, ◌==◌, cond, List, [], ◌∷◌, length, take, chars}
use Rattle.std.specs.Str.{is_utf8}
use Rattle.sand_base.specs.InRange.{is_control}

-- one character, and no control character
abbrev pub is_one_plain : List ℕ → Bool
is_one_plain [] = false
is_one_plain (c ∷ []) = not (is_control c)
is_one_plain (c ∷ d ∷ more) = false

-- the bytes spell one character, and no control character
unfoldable pub is_plain_character : List ℕ → Bool
is_plain_character bytes = is_utf8 bytes && is_one_plain (chars bytes)

-- of how many bytes the character at the front is; 0 where none begins there, or a control character does
unfoldable pub plain_len : List ℕ → ℕ
plain_len bytes =
    cond (is_plain_character (take 1 bytes)) 1 (cond (is_plain_character (take 2 bytes)) 2 (cond (is_plain_character (take 3 bytes)) 3 (cond (is_plain_character (take 4 bytes)) 4 0)))

-- the bytes begin with a quote
abbrev pub begins_quote : List ℕ → Bool
begins_quote [] = false
begins_quote (b ∷ bytes) = b == 34

-- of how many bytes the character of a text at the front is, where two quotes are one; 0 where none is there
abbrev pub unit_len : List ℕ → ℕ
unit_len [] = 0
unit_len (b ∷ bytes) = cond (b == 34) (cond (begins_quote bytes) 2 0) (plain_len (b ∷ bytes))

-- how many bytes the characters of a text take from the front, after the first few, which belong to one already
abbrev pub run_after : ℕ → List ℕ → ℕ
run_after n [] = 0
run_after (suc n) (b ∷ bytes) = 1 + run_after n bytes
run_after zero (b ∷ bytes) = cond (unit_len (b ∷ bytes) == 0) 0 (1 + run_after (unit_len (b ∷ bytes) - 1) bytes)

-- how many bytes the characters of a text take from the front
unfoldable pub text_run : List ℕ → ℕ
text_run bytes = run_after 0 bytes

-- the bytes are characters of a text, and nothing else
unfoldable pub IsTextInside : List ℕ → Type 0
IsTextInside bytes = run_after 0 bytes ≡ length bytes

-- the bytes without every second quote, the next of which is one if so told
abbrev pub content_after : Bool → List ℕ → List ℕ
content_after skip [] = []
content_after true (b ∷ bytes) = content_after false bytes
content_after false (b ∷ bytes) = b ∷ content_after (b == 34) bytes

-- what the bytes between the quotes write: two quotes are one
unfoldable pub content : List ℕ → List ℕ
content bytes = content_after false bytes

-- the bytes with each quote doubled
abbrev pub doubled : List ℕ → List ℕ
doubled [] = []
doubled (b ∷ bytes) = cond (b == 34) (34 ∷ 34 ∷ doubled bytes) (b ∷ doubled bytes)
