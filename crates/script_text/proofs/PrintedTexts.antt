-- A text in range, with its quotes doubled, is what may stand between quotes, and is read as itself.
use Rattle.std.proofs.Common.{◌≡◌, ◌≢◌, ℕ, suc, ◌+◌, ◌-◌, ◌<◌, ◌≤◌, Bool, true, false, not, cond, eqb, ltb, get_or, List, [], ◌∷◌, ◌++◌, length, take, drop, refl, sym}
use Rattle.std.proofs.Common.{ap, subst, ◌∙◌, arith, length-append}
use Rattle.std.specs.Prelude.{IsUtf8, chars, All}
use Rattle.std.specs.Char.{encode_utf8, len_utf8}
use lib.Utf8.{scalar, scalars}
use Rattle.std.specs.Str.{encode_utf8_all}
use Rattle.std.proofs.Math.Seq.{drop-append_seam}
use Rattle.std.proofs.lemmas.Bool.{and_parts, and_from, cond-false, eqb-true, eqb-false, ne_eqb}
use Rattle.std.proofs.lemmas.List.{append-nil, take_at, take-append-drop, take-append-le, length-drop}
use Rattle.std.proofs.lemmas.List.Elements.{All-head, All-tail}
use Rattle.std.proofs.lemmas.Str.{chars-encodes, encodes-chars, scalars-chars, chars_past_char, IsUtf8-past_char, length-encode, inside_one, encode_ascii}
use Rattle.sand_base.specs.InRange.{is_control, IsTextInRange}
use Rattle.script_text.specs.Text.{is_plain_character, plain_len, unit_len, run_after, content_after, content, doubled, IsTextInside}
use Rattle.script_text.proofs.TextContent.{has-code}
use Rattle.script_text.proofs.TextLemmas.{len_1, len_2, len_3, len_4, plain-chars, plain-is, run-drop}

-- the bytes with each quote doubled write the bytes
written-doubled : (bytes : List ℕ) → content_after false (doubled bytes) ≡ bytes
written-doubled [] = refl
written-doubled (b ∷ bytes) =
    let go : (t : Bool) → eqb b 34 ≡ t → content_after false (cond t (34 ∷ 34 ∷ doubled bytes) (b ∷ doubled bytes)) ≡ b ∷ bytes =
    elim [
      | true ↦ λ e. ap (λ bs. 34 ∷ bs) (written-doubled bytes) ∙ ap (λ b. b ∷ bytes) (sym (eqb-true b 34 e))
      | false ↦ λ e. ap (λ t. b ∷ content_after t (doubled bytes)) e ∙ ap (λ bs. b ∷ bs) (written-doubled bytes)
    ] in
    go (eqb b 34) refl

pub content-doubled : (bytes : List ℕ) → content (doubled bytes) ≡ bytes
unfolding content
content-doubled bytes = written-doubled bytes

-- the character at the front is of no more bytes than a front that is one
record IsAtMost (bytes : List ℕ) (n : ℕ) : Type 0 where
  some : 0 < plain_len bytes
  most : plain_len bytes ≤ n

at-most-1 : (bytes : List ℕ) → is_plain_character (take 1 bytes) ≡ true → IsAtMost bytes 1
at-most-1 bytes h = let e = len_1 bytes h in record { some = omega (arith, e); most = omega (arith, e) }

at-most-2 : (bytes : List ℕ) → is_plain_character (take 2 bytes) ≡ true → IsAtMost bytes 2
at-most-2 bytes h =
    let go : (a : Bool) → is_plain_character (take 1 bytes) ≡ a → IsAtMost bytes 2 =
    elim [
      | true ↦ λ ha. let e = len_1 bytes ha in record { some = omega (arith, e); most = omega (arith, e) }
      | false ↦ λ ha. let e = len_2 bytes ha h in record { some = omega (arith, e); most = omega (arith, e) }
    ] in
    go _ refl

at-most-3 : (bytes : List ℕ) → is_plain_character (take 3 bytes) ≡ true → IsAtMost bytes 3
at-most-3 bytes h =
    let go : (a b : Bool) → is_plain_character (take 1 bytes) ≡ a → is_plain_character (take 2 bytes) ≡ b → IsAtMost bytes 3 =
    elim [
      | true ↦ λ b ha hb. let e = len_1 bytes ha in record { some = omega (arith, e); most = omega (arith, e) }
      | false ↦ elim [
        | true ↦ λ ha hb. let e = len_2 bytes ha hb in record { some = omega (arith, e); most = omega (arith, e) }
        | false ↦ λ ha hb. let e = len_3 bytes ha hb h in record { some = omega (arith, e); most = omega (arith, e) }
      ]
    ] in
    go _ _ refl refl

at-most-4 : (bytes : List ℕ) → is_plain_character (take 4 bytes) ≡ true → IsAtMost bytes 4
at-most-4 bytes h =
    let go : (a b c : Bool) → is_plain_character (take 1 bytes) ≡ a → is_plain_character (take 2 bytes) ≡ b → is_plain_character (take 3 bytes) ≡ c → IsAtMost bytes 4 =
    elim [
      | true ↦ λ b c ha hb hc. let e = len_1 bytes ha in record { some = omega (arith, e); most = omega (arith, e) }
      | false ↦ elim [
        | true ↦ λ c ha hb hc. let e = len_2 bytes ha hb in record { some = omega (arith, e); most = omega (arith, e) }
        | false ↦ elim [
          | true ↦ λ ha hb hc. let e = len_3 bytes ha hb hc in record { some = omega (arith, e); most = omega (arith, e) }
          | false ↦ λ ha hb hc. let e = len_4 bytes ha hb hc h in record { some = omega (arith, e); most = omega (arith, e) }
        ]
      ]
    ] in
    go _ _ _ refl refl refl

-- a character has one to four bytes, so one that begins the bytes bounds the one at their front
front-at-most : (c : ℕ) (bytes : List ℕ) → is_plain_character (take (len_utf8 c) bytes) ≡ true → IsAtMost bytes (len_utf8 c)
front-at-most c bytes =
    let go : (a b d : Bool) → is_plain_character (take (cond a 1 (cond b 2 (cond d 3 4))) bytes) ≡ true → IsAtMost bytes (cond a 1 (cond b 2 (cond d 3 4))) =
    elim [
      | true ↦ λ b d h. at-most-1 bytes h
      | false ↦ elim [
        | true ↦ λ d h. at-most-2 bytes h
        | false ↦ elim [ true ↦ λ h. at-most-3 bytes h | false ↦ λ h. at-most-4 bytes h ]
      ]
    ] in
    go (ltb c 0x80) (ltb c 0x800) (ltb c 0x1_0000)

-- the bytes of one character are UTF-8, and spell it
one-spelled : (c : ℕ) → scalar c ≡ true → IsUtf8 (encode_utf8 c)
one-spelled c h = (c ∷ [], (and_from (scalar c) true h refl, append-nil (encode_utf8 c)))

one-chars : (c : ℕ) → scalar c ≡ true → chars (encode_utf8 c) ≡ c ∷ []
one-chars c h = ap chars (sym (append-nil (encode_utf8 c))) ∙ chars-encodes (c ∷ []) (and_from (scalar c) true h refl)

-- one that is no control character is a character of a text
one-plain : (c : ℕ) → scalar c ≡ true → is_control c ≡ false → is_plain_character (encode_utf8 c) ≡ true
one-plain c h k = plain-chars (encode_utf8 c) (c ∷ []) (one-spelled c h) (one-chars c h) ∙ ap not k

-- no bytes spell no character
none-left : (bytes : List ℕ) → IsUtf8 bytes → chars bytes ≡ [] → length bytes ≡ 0
none-left bytes h e = ap length (sym (encodes-chars bytes h) ∙ ap encode_utf8_all e)

-- the front of a character that is one is all of it
front-whole : (c k : ℕ) → scalar c ≡ true → k ≤ length (encode_utf8 c) → is_plain_character (take k (encode_utf8 c)) ≡ true → length (encode_utf8 c) ≤ k
front-whole c k h le plain =
    let bytes = encode_utf8 c in
    let code = has-code (take k bytes) plain in
    let split : bytes ≡ encode_utf8 code.code ++ drop k bytes =
    sym (take-append-drop k bytes) ∙ ap (λ bs. bs ++ drop k bytes) (code.is ∙ append-nil (encode_utf8 code.code)) in
    let spelled = one-spelled c h in
    let chars_are : c ∷ [] ≡ code.code ∷ chars (drop k bytes) = sym (one-chars c h) ∙ chars_past_char bytes (drop k bytes) code.code spelled split in
    let rest : chars (drop k bytes) ≡ [] = cc in
    let none = none-left (drop k bytes) (IsUtf8-past_char bytes (drop k bytes) code.code spelled split) rest in
    omega (arith, none, length-drop k bytes)

-- a character that begins the bytes is the one at their front
front-len : (c : ℕ) (more : List ℕ) → scalar c ≡ true → is_control c ≡ false → plain_len (encode_utf8 c ++ more) ≡ length (encode_utf8 c)
front-len c more h k =
    let bytes = encode_utf8 c in
    let all : take (len_utf8 c) (bytes ++ more) ≡ bytes = take_at bytes more (len_utf8 c) (length-encode c) in
    let most = front-at-most c (bytes ++ more) (ap is_plain_character all ∙ one-plain c h k) in
    let n = plain_len (bytes ++ more) in
    let within : n ≤ length bytes = omega (arith, most.most, length-encode c) in
    let plain : is_plain_character (take n bytes) ≡ true = ap is_plain_character (sym (take-append-le n bytes more within)) ∙ (plain-is (bytes ++ more)).plain most.some in
    let least = front-whole c n h within plain in
    omega (arith, within, least)

-- bytes without a quote are not doubled
no-doubles : (xs ys : List ℕ) → ((k : ℕ) → k < length xs → get_or xs k 0 ≢ 34) → doubled (xs ++ ys) ≡ xs ++ doubled ys
no-doubles [] ys h = refl
no-doubles (x ∷ xs) ys h =
    cond-false (eqb x 34) _ _ (ne_eqb x 34 (h 0 (omega arith))) ∙ ap (λ zs. x ∷ zs) (no-doubles xs ys (λ k less. h (suc k) (omega (arith, less))))

-- a character that is no quote has no quote among its bytes
no-quote : (c k : ℕ) → eqb c 34 ≡ false → k < length (encode_utf8 c) → get_or (encode_utf8 c) k 0 ≢ 34
no-quote c k h less quote =
    eqb-false c 34 h (inside_one c [] (encode_utf8 c) k (sym (append-nil (encode_utf8 c))) less (omega (arith, quote)) ∙ quote)

-- the characters of a text go on after one that is no quote
run-past : (bytes more : List ℕ) → ((k : ℕ) → k < length bytes → get_or bytes k 0 ≢ 34) → plain_len (bytes ++ more) ≡ length bytes → 0 < length bytes
    → run_after 0 (bytes ++ more) ≡ length bytes + run_after 0 more
run-past [] more h e some = absurd (omega (arith, some))
run-past (b ∷ bytes) more h e some =
    let u = unit_len (b ∷ (bytes ++ more)) in
    let unit : u ≡ suc (length bytes) = cond-false (eqb b 34) _ _ (ne_eqb b 34 (h 0 (omega arith))) ∙ e in
    let not_none : eqb u 0 ≡ false = ne_eqb u 0 (λ z. absurd (omega (arith, unit, z))) in
    let pass = run-drop (length bytes) (bytes ++ more) (omega (arith, length-append bytes more)) in
    let rest : run_after 0 (drop (length bytes) (bytes ++ more)) ≡ run_after 0 more = ap (run_after 0) (drop-append_seam bytes more) in
    let same : u - 1 ≡ length bytes = omega (arith, unit) in
    cond-false (eqb u 0) _ _ not_none ∙ ap (λ n. 1 + run_after n (bytes ++ more)) same ∙ omega (arith, pass, rest)

-- with each quote doubled they are characters of a text
inside-chars : (cs : List ℕ) → scalars cs ≡ true → All (λ c. is_control c ≡ false) cs → run_after 0 (doubled (encode_utf8_all cs)) ≡ length (doubled (encode_utf8_all cs))
inside-chars [] h k = refl
inside-chars (c ∷ cs) h k =
    let two = and_parts (scalar c) (scalars cs) h in
    let rest = inside-chars cs two.1 (All-tail (λ c. is_control c ≡ false) c cs k) in
    let plain = All-head (λ c. is_control c ≡ false) c cs k in
    let go : (t : Bool) → eqb c 34 ≡ t → run_after 0 (doubled (encode_utf8 c ++ encode_utf8_all cs)) ≡ length (doubled (encode_utf8 c ++ encode_utf8_all cs)) =
    elim [
      | true ↦ λ e.
          let quote : encode_utf8 c ≡ 34 ∷ [] = ap encode_utf8 (eqb-true c 34 e) ∙ encode_ascii 34 (omega arith) in
          subst (λ bytes. run_after 0 (doubled (bytes ++ encode_utf8_all cs)) ≡ length (doubled (bytes ++ encode_utf8_all cs))) (sym quote) (omega (arith, rest))
      | false ↦ λ e.
          let bytes = encode_utf8 c in
          let more = doubled (encode_utf8_all cs) in
          let same = no-doubles bytes (encode_utf8_all cs) (λ j less. no-quote c j e less) in
          let some : 0 < length bytes = (let most = front-at-most c (bytes ++ []) (ap is_plain_character (take_at bytes [] (len_utf8 c) (length-encode c)) ∙ one-plain c two.0 plain) in
          omega (arith, most.some, most.most, length-encode c)) in
          let run = run-past bytes more (λ j less. no-quote c j e less) (front-len c more two.0 plain) some in
          ap (run_after 0) same ∙ run ∙ ap (λ n. length bytes + n) rest ∙ sym (length-append bytes more) ∙ ap length (sym same)
    ] in
    go (eqb c 34) refl

-- a text in range, with its quotes doubled, may stand between quotes
pub inside-doubled : (bytes : List ℕ) → IsTextInRange bytes → IsTextInside (doubled bytes)
unfolding IsTextInside
inside-doubled bytes h =
    subst (λ bytes. run_after 0 (doubled bytes) ≡ length (doubled bytes)) (encodes-chars bytes h.spelled) (inside-chars (chars bytes) (scalars-chars bytes h.spelled) h.plain)
