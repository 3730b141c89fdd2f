-- Characters of a text, one after another, and what they write.
use Rattle.std.proofs.Common.{◌≡◌, ℕ, zero, suc, ◌+◌, ◌-◌, ◌<◌, ◌≤◌, Bool, true, false, not, ◌&&◌, cond, eqb, leb, get_or, List, [], ◌∷◌, ◌++◌, length, take, drop, refl}
use Rattle.std.proofs.Common.{sym, ap, ◌∙◌, arith, length-drop, append_assoc, drop-drop}
use Rattle.std.specs.Prelude.{IsUtf8, chars, Option, Some, None, is_some, MatchOption}
use Rattle.std.proofs.Math.Seq.{take-nil, drop-length}
use Rattle.std.proofs.lemmas.List.{append-nil}
use Rattle.std.proofs.lemmas.Bool.{and_parts, cond-true, cond-false, eq-eqb, ne_eqb, leb-true, leb-false, false≢true}
use Rattle.std.proofs.lemmas.Bool.Decides.{nat_tests}
use Rattle.std.proofs.lemmas.Str.{chars-nil, chars_past_char, IsUtf8-past_char, IsUtf8-nil, IsUtf8-from_is_utf8, is_utf8-from_IsUtf8}
use Rattle.std.specs.Char.{encode_utf8}
use Rattle.std.specs.Char as char
use Rattle.std.specs.Str.{is_utf8}
use Rattle.sand_base.specs.InRange.{is_control}
use Rattle.script_text.specs.Text.{is_one_plain, is_plain_character, plain_len, begins_quote, unit_len, run_after, text_run, content_after, content}

-- a truth value that isn't true is false
not-so : (b : Bool) → (b ≡ true → ⊥) → false ≡ b
not-so true h = absurd (h refl)
not-so false h = refl

-- bytes of one character are UTF-8
pub plain-utf8 : (bytes : List ℕ) → is_plain_character bytes ≡ true → IsUtf8 bytes
unfolding is_plain_character
plain-utf8 bytes h = IsUtf8-from_is_utf8 bytes (and_parts (is_utf8 bytes) (is_one_plain (chars bytes)) h).0

-- bytes that aren't are no character
pub not_utf8 : (bytes : List ℕ) → (IsUtf8 bytes → ⊥) → false ≡ is_plain_character bytes
not_utf8 bytes h = not-so (is_plain_character bytes) (λ k. h (plain-utf8 bytes k))

-- a character is told by the list of characters
pub plain-chars : (bytes cs : List ℕ) → IsUtf8 bytes → chars bytes ≡ cs → is_plain_character bytes ≡ is_one_plain cs
unfolding is_plain_character
plain-chars bytes cs h e = ap (λ b. b && is_one_plain (chars bytes)) (is_utf8-from_IsUtf8 bytes h) ∙ ap is_one_plain e

-- no bytes are no character
pub no_bytes : (bytes : List ℕ) → IsUtf8 bytes → length bytes ≡ 0 → false ≡ is_plain_character bytes
no_bytes [] h e = sym (plain-chars [] [] h chars-nil)
no_bytes (b ∷ bytes) h e = absurd (omega (arith, e))

-- two characters are not one
pub two_chars : (bytes rest after : List ℕ) (c d : ℕ) → IsUtf8 bytes → bytes ≡ encode_utf8 c ++ rest → rest ≡ encode_utf8 d ++ after → false ≡ is_plain_character bytes
two_chars bytes rest after c d h e f =
    sym (plain-chars bytes (c ∷ d ∷ chars after) h
    (chars_past_char bytes rest c h e ∙ ap (λ cs. c ∷ cs) (chars_past_char rest after d (IsUtf8-past_char bytes rest c h e) f)))

-- the control characters are the ones that `is_control` tells
pub control-same : (c : ℕ) → char.is_control c ≡ is_control c
control-same c = grind (arith, nat_tests)

-- one character is one
pub one_char : (bytes rest : List ℕ) (c : ℕ) (told : Bool) → IsUtf8 bytes → bytes ≡ encode_utf8 c ++ rest → length rest ≡ 0 → told ≡ char.is_control c → not told ≡ is_plain_character bytes
one_char bytes [] c told h e n k =
    ap not (k ∙ control-same c) ∙ sym (plain-chars bytes (c ∷ []) h (chars_past_char bytes [] c h e ∙ ap (λ cs. c ∷ cs) chars-nil))
one_char bytes (b ∷ rest) c told h e n k = absurd (omega (arith, n))

-- all bytes where there are fewer
pub take_all : (n : ℕ) (bytes : List ℕ) → length bytes ≤ n → take n bytes ≡ bytes
take_all n [] h = take-nil n
take_all zero (b ∷ bytes) h = absurd (omega (arith, h))
take_all (suc n) (b ∷ bytes) h = ap (λ bs. b ∷ bs) (take_all n bytes (omega (arith, h)))

-- the length of the character at the front, by the first length at which it is one
pub len_1 : (bytes : List ℕ) → is_plain_character (take 1 bytes) ≡ true → plain_len bytes ≡ 1
unfolding plain_len
len_1 bytes h = cond-true _ _ _ h

pub len_2 : (bytes : List ℕ) → is_plain_character (take 1 bytes) ≡ false → is_plain_character (take 2 bytes) ≡ true → plain_len bytes ≡ 2
unfolding plain_len
len_2 bytes h k = cond-false _ _ _ h ∙ cond-true _ _ _ k

pub len_3 : (bytes : List ℕ) → is_plain_character (take 1 bytes) ≡ false → is_plain_character (take 2 bytes) ≡ false → is_plain_character (take 3 bytes) ≡ true → plain_len bytes ≡ 3
unfolding plain_len
len_3 bytes h k l = cond-false _ _ _ h ∙ cond-false _ _ _ k ∙ cond-true _ _ _ l

pub len_4 : (bytes : List ℕ) → is_plain_character (take 1 bytes) ≡ false → is_plain_character (take 2 bytes) ≡ false → is_plain_character (take 3 bytes) ≡ false
    → is_plain_character (take 4 bytes) ≡ true → plain_len bytes ≡ 4
unfolding plain_len
len_4 bytes h k l m = cond-false _ _ _ h ∙ cond-false _ _ _ k ∙ cond-false _ _ _ l ∙ cond-true _ _ _ m

pub len_0 : (bytes : List ℕ) → is_plain_character (take 1 bytes) ≡ false → is_plain_character (take 2 bytes) ≡ false → is_plain_character (take 3 bytes) ≡ false
    → is_plain_character (take 4 bytes) ≡ false → plain_len bytes ≡ 0
unfolding plain_len
len_0 bytes h k l m = cond-false _ _ _ h ∙ cond-false _ _ _ k ∙ cond-false _ _ _ l ∙ cond-false _ _ _ m

-- no bytes are no character
none-plain : (bytes : List ℕ) → is_plain_character (take 0 bytes) ≡ false
none-plain bytes = sym (no_bytes [] IsUtf8-nil refl)

-- two quotes are within the bytes
two-quotes : (b : ℕ) (bytes : List ℕ) → cond (begins_quote bytes) 2 0 ≤ length (b ∷ bytes)
two-quotes b [] = omega arith
two-quotes b (c ∷ bytes) =
    let go : (t : Bool) → cond t 2 0 ≤ length (b ∷ c ∷ bytes) = elim [ true ↦ omega arith | false ↦ omega arith ] in
    go (eqb c 34)

-- the front of one length and of the next are the same where there are no more bytes
short-take : (k : ℕ) (bytes : List ℕ) → length bytes ≤ k → take (suc k) bytes ≡ take k bytes
short-take k bytes h = take_all (suc k) bytes (omega (arith, h)) ∙ sym (take_all k bytes h)

-- where a length is the first at which it is a character, there are so many bytes
enough : (k : ℕ) (bytes : List ℕ) → is_plain_character (take k bytes) ≡ false → is_plain_character (take (suc k) bytes) ≡ true → suc k ≤ length bytes
enough k bytes h l =
    let go : (t : Bool) → leb (suc k) (length bytes) ≡ t → suc k ≤ length bytes =
    elim [
      | true ↦ λ e. leb-true (suc k) (length bytes) e
      | false ↦ λ e. absurd (false≢true (sym h ∙ ap is_plain_character (sym (short-take k bytes (omega (arith, leb-false (suc k) (length bytes) e)))) ∙ l))
    ] in
    go (leb (suc k) (length bytes)) refl

-- what the character at the front is
pub record IsPlainLen (bytes : List ℕ) (n : ℕ) : Type 0 where
  pub within : n ≤ length bytes
  pub plain : 0 < n → is_plain_character (take n bytes) ≡ true

-- it is so
pub plain-is : (bytes : List ℕ) → IsPlainLen bytes (plain_len bytes)
plain-is bytes =
    let go : (a b c d : Bool) → is_plain_character (take 1 bytes) ≡ a → is_plain_character (take 2 bytes) ≡ b → is_plain_character (take 3 bytes) ≡ c
    → is_plain_character (take 4 bytes) ≡ d → IsPlainLen bytes (plain_len bytes) =
    elim [
      | true ↦ λ b c d ha hb hc hd. rw (len_1 bytes ha) (record { within = enough 0 bytes (none-plain bytes) ha; plain = λ some. ha })
      | false ↦ elim [
        | true ↦ λ c d ha hb hc hd. rw (len_2 bytes ha hb) (record { within = enough 1 bytes ha hb; plain = λ some. hb })
        | false ↦ elim [
          | true ↦ λ d ha hb hc hd. rw (len_3 bytes ha hb hc) (record { within = enough 2 bytes hb hc; plain = λ some. hc })
          | false ↦ elim [
            | true ↦ λ ha hb hc hd. rw (len_4 bytes ha hb hc hd) (record { within = enough 3 bytes hc hd; plain = λ some. hd })
            | false ↦ λ ha hb hc hd. rw (len_0 bytes ha hb hc hd) (record { within = omega arith; plain = λ some. absurd (omega (arith, some)) })
          ]
        ]
      ]
    ] in
    go _ _ _ _ refl refl refl refl

pub plain_within : (bytes : List ℕ) → plain_len bytes ≤ length bytes
plain_within bytes = (plain-is bytes).within

pub plain_nil : plain_len [] ≡ 0
plain_nil = let h = plain_within [] in omega (arith, h)

-- a character of a text is within the bytes
pub unit_within : (bytes : List ℕ) → unit_len bytes ≤ length bytes
unit_within [] = omega arith
unit_within (b ∷ bytes) =
    let go : (t : Bool) → cond t (cond (begins_quote bytes) 2 0) (plain_len (b ∷ bytes)) ≤ length (b ∷ bytes) =
    elim [ true ↦ two-quotes b bytes | false ↦ plain_within (b ∷ bytes) ] in
    go (eqb b 34)

-- bytes that belong to a character are passed by
pub run-drop : (n : ℕ) (bytes : List ℕ) → n ≤ length bytes → run_after n bytes ≡ n + run_after 0 (drop n bytes)
run-drop zero bytes h = omega arith
run-drop (suc n) [] h = absurd (omega (arith, h))
run-drop (suc n) (b ∷ bytes) h = let rest = run-drop n bytes (omega (arith, h)) in omega (arith, rest)

-- the characters end where none is
pub run_end : (bytes : List ℕ) → unit_len bytes ≡ 0 → text_run bytes ≡ 0
unfolding text_run
run_end [] h = refl
run_end (b ∷ bytes) h = cond-true (eqb (unit_len (b ∷ bytes)) 0) _ _ (eq-eqb (unit_len (b ∷ bytes)) 0 h)

-- and else go on behind it
pub run_step : (bytes : List ℕ) (n : ℕ) → unit_len bytes ≡ n → 0 < n → text_run bytes ≡ n + text_run (drop n bytes)
unfolding text_run
run_step [] n h some = absurd (omega (arith, h, some))
run_step (b ∷ bytes) zero h some = absurd (omega (arith, some))
run_step (b ∷ bytes) (suc n) h some =
    let within = unit_within (b ∷ bytes) in
    let rest = run-drop n bytes (omega (arith, within, h)) in
    cond-false (eqb (unit_len (b ∷ bytes)) 0) _ _ (ne_eqb (unit_len (b ∷ bytes)) 0 (λ e. omega (arith, e, h)))
    ∙ ap (λ m. 1 + run_after (m - 1) bytes) h ∙ (let e : suc n - 1 ≡ n = omega arith in rw e (omega (arith, rest)))

-- a second character is there
pub some_second : (A : Type 0) (bytes rest after : List ℕ) (c : ℕ) (r : Option ℕ) → IsUtf8 bytes → bytes ≡ encode_utf8 c ++ rest → is_some r ≡ true
    → MatchOption r A (λ d. rest ≡ encode_utf8 d ++ after) → false ≡ is_plain_character bytes
some_second A bytes rest after c None h e k m = absurd (false≢true k)
some_second A bytes rest after c (Some d) h e k m = two_chars bytes rest after c d h e m

-- or isn't
pub none_second : (A : Type 0) (bytes rest after : List ℕ) (c : ℕ) (told : Bool) (r : Option ℕ) → IsUtf8 bytes → bytes ≡ encode_utf8 c ++ rest → is_some r ≡ false
    → MatchOption r ((length rest ≡ 0) × A) (λ d. rest ≡ encode_utf8 d ++ after) → told ≡ char.is_control c → not told ≡ is_plain_character bytes
none_second A bytes rest after c told None h e k m l = one_char bytes rest c told h e m.0 l
none_second A bytes rest after c told (Some d) h e k m l = absurd (false≢true (sym k))

-- the characters so far, and one more
pub run_on : (bytes rest : List ℕ) (at n : ℕ) → at ≤ length bytes → text_run bytes ≡ at + text_run (drop at bytes) → rest ≡ drop at bytes → n ≡ unit_len rest → 0 < n
    → (at + n ≤ length bytes) × (text_run bytes ≡ (at + n) + text_run (drop (at + n) bytes))
run_on bytes rest at n le run e len some =
    let within = unit_within (drop at bytes) in
    let unit : unit_len (drop at bytes) ≡ n = sym (len ∙ ap unit_len e) in
    let step = run_step (drop at bytes) n unit some in
    let further : text_run (drop n (drop at bytes)) ≡ text_run (drop (at + n) bytes) = ap text_run (drop-drop n at bytes) in
    (omega (arith, within, unit, le, length-drop at bytes), omega (arith, run, step, further))

-- the second of two quotes is passed over
pub content_skip : (inside : List ℕ) (i : ℕ) → i < length inside → content_after true (drop i inside) ≡ content_after false (drop (i + 1) inside)
content_skip [] i h = absurd (omega (arith, h))
content_skip (x ∷ xs) zero h = refl
content_skip (x ∷ xs) (suc i) h = let e : suc i + 1 ≡ suc (i + 1) = omega arith in rw e (content_skip xs i (omega (arith, h)))

-- any other byte is kept
pub content_keep : (inside : List ℕ) (i : ℕ) → i < length inside
    → content_after false (drop i inside) ≡ get_or inside i 0 ∷ content_after (eqb (get_or inside i 0) 34) (drop (i + 1) inside)
content_keep [] i h = absurd (omega (arith, h))
content_keep (x ∷ xs) zero h = refl
content_keep (x ∷ xs) (suc i) h = let e : suc i + 1 ≡ suc (i + 1) = omega arith in rw e (content_keep xs i (omega (arith, h)))

-- so it is written, behind what is there
pub content_more : (inside bytes : List ℕ) (i b : ℕ) → i < length inside → get_or inside i 0 ≡ b → content inside ≡ bytes ++ content_after false (drop i inside)
    → content inside ≡ (bytes ++ b ∷ []) ++ content_after (eqb b 34) (drop (i + 1) inside)
content_more inside bytes i b less is h =
    h ∙ ap (λ more. bytes ++ more) (content_keep inside i less)
    ∙ sym (append_assoc bytes (get_or inside i 0 ∷ []) (content_after (eqb (get_or inside i 0) 34) (drop (i + 1) inside)))
    ∙ ap (λ b. (bytes ++ b ∷ []) ++ content_after (eqb b 34) (drop (i + 1) inside)) is

-- a text is written to its end
pub content_end : (inside bytes : List ℕ) (skip : Bool) → content inside ≡ bytes ++ content_after skip (drop (length inside) inside) → bytes ≡ content inside
content_end inside bytes skip h = sym (h ∙ ap (λ xs. bytes ++ content_after skip xs) (drop-length inside) ∙ append-nil bytes)

-- and from its beginning
pub content_start : (inside : List ℕ) → content inside ≡ [] ++ content_after false (drop 0 inside)
unfolding content
content_start inside = refl
