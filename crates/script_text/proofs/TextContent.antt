-- What stands between the quotes of a text writes characters, none of which is a control character.
use Rattle.std.proofs.Common.{◌≡◌, ◌≢◌, ℕ, zero, suc, ◌+◌, ◌-◌, ◌<◌, ◌≤◌, Bool, true, false, not, cond, eqb, get_or, List, [], ◌∷◌, ◌++◌, length, take, drop, refl, sym}
use Rattle.std.proofs.Common.{ap, subst, ◌∙◌, arith, length-drop}
use Rattle.std.specs.Prelude.{IsUtf8, chars, All}
use Rattle.std.specs.Char.{encode_utf8}
use Rattle.std.specs.Str.{is_utf8, encode_utf8_all}
use Rattle.std.proofs.lemmas.Bool.{and_parts, eqb-true, eqb-false, ne_eqb, false≢true}
use Rattle.std.proofs.lemmas.List.{append-nil, take-append-drop}
use Rattle.std.proofs.lemmas.List.Elements.{All-nil, All-cons, All-append}
use Rattle.std.proofs.lemmas.Str.{IsUtf8-nil, IsUtf8-append, chars-nil, chars-append, encodes-chars, inside_one, byte_from_char}
use Rattle.sand_base.specs.InRange.{is_control, IsTextInRange}
use Rattle.script_text.specs.Text.{is_one_plain, is_plain_character, plain_len, begins_quote, unit_len, run_after, content_after, content, IsTextInside}
use Rattle.std.proofs.lemmas.Str.{IsUtf8-from_ascii, chars-IsAscii}
use Rattle.std.proofs.lemmas.Str.Ascii.{IsAscii-nil, IsAscii-cons}
use Rattle.script_text.proofs.TextLemmas.{plain-utf8, plain-chars, plain-is, unit_within, run-drop}

-- characters, none of which is a control character
record IsClean (bytes : List ℕ) : Type 0 where
  spelled : IsUtf8 bytes
  plain : All (λ c. is_control c ≡ false) (chars bytes)

-- a truth value whose denial holds
denied : (b : Bool) → not b ≡ true → b ≡ false
denied true h = absurd (false≢true h)
denied false h = refl

-- one character of such a list
one-plain : (cs : List ℕ) → is_one_plain cs ≡ true → All (λ c. is_control c ≡ false) cs
one-plain [] h = absurd (false≢true h)
one-plain (c ∷ []) h = All-cons (λ c. is_control c ≡ false) c [] (denied (is_control c) h) (All-nil (λ c. is_control c ≡ false))
one-plain (c ∷ d ∷ cs) h = absurd (false≢true h)

-- one character is clean
plain-clean : (bytes : List ℕ) → is_plain_character bytes ≡ true → IsClean bytes
unfolding is_plain_character
plain-clean bytes h = record { spelled = plain-utf8 bytes h; plain = one-plain (chars bytes) (and_parts (is_utf8 bytes) (is_one_plain (chars bytes)) h).1 }

-- nothing is
nil-clean : IsClean []
nil-clean = record { spelled = IsUtf8-nil; plain = subst (All (λ c. is_control c ≡ false)) (sym chars-nil) (All-nil (λ c. is_control c ≡ false)) }

-- one after another are
append-clean : (xs ys : List ℕ) → IsClean xs → IsClean ys → IsClean (xs ++ ys)
append-clean xs ys h k = record {
  spelled = IsUtf8-append xs ys h.spelled k.spelled;
  plain = subst (All (λ c. is_control c ≡ false)) (sym (chars-append xs ys h.spelled)) (All-append (λ c. is_control c ≡ false) (chars xs) (chars ys) h.plain k.plain);
}

-- a quote is a character
quote-plain : is_plain_character (34 ∷ []) ≡ true
quote-plain =
    let ascii = IsAscii-cons 34 [] (omega arith) IsAscii-nil in
    plain-chars (34 ∷ []) (34 ∷ []) (IsUtf8-from_ascii (34 ∷ []) ascii) (chars-IsAscii (34 ∷ []) ascii)

-- bytes without a quote are what they write
no-quotes : (xs ys : List ℕ) → ((k : ℕ) → k < length xs → get_or xs k 0 ≢ 34) → content_after false (xs ++ ys) ≡ xs ++ content_after false ys
no-quotes [] ys h = refl
no-quotes (x ∷ xs) ys h =
    ap (λ t. x ∷ content_after t (xs ++ ys)) (ne_eqb x 34 (h 0 (omega arith))) ∙ ap (λ zs. x ∷ zs) (no-quotes xs ys (λ k less. h (suc k) (omega (arith, less))))

-- one character, by its code
pub record HasCode (bytes : List ℕ) : Type 0 where
  pub code : ℕ
  pub is : bytes ≡ encode_utf8 code ++ []

code-of : (bytes cs : List ℕ) → bytes ≡ encode_utf8_all cs → is_one_plain cs ≡ true → HasCode bytes
code-of bytes [] e h = absurd (false≢true h)
code-of bytes (c ∷ []) e h = record { code = c; is = e }
code-of bytes (c ∷ d ∷ cs) e h = absurd (false≢true h)

pub has-code : (bytes : List ℕ) → is_plain_character bytes ≡ true → HasCode bytes
unfolding is_plain_character
has-code bytes h = code-of bytes (chars bytes) (sym (encodes-chars bytes (plain-utf8 bytes h))) (and_parts (is_utf8 bytes) (is_one_plain (chars bytes)) h).1

-- a character has no quote among its bytes where it isn't one
no-quote : (bytes : List ℕ) → is_plain_character bytes ≡ true → get_or bytes 0 0 ≢ 34 → (k : ℕ) → k < length bytes → get_or bytes k 0 ≢ 34
no-quote bytes h first k less quote =
    let one = has-code bytes h in
    let len : length bytes ≡ length (encode_utf8 one.code) = ap length (one.is ∙ append-nil (encode_utf8 one.code)) in
    let same = inside_one one.code [] bytes k one.is (omega (arith, less, len)) (omega (arith, quote)) in
    first (byte_from_char bytes [] one.code one.is (omega (arith, same, quote)) ∙ same ∙ quote)

-- after two quotes
after-quote : (b : ℕ) (bytes : List ℕ) (u : ℕ) → b ≡ 34 → cond (begins_quote bytes) 2 0 ≡ u → 0 < u → IsClean (content_after false (drop (u - 1) bytes)) → IsClean (content_after false (b ∷ bytes))
after-quote b [] u e k some rest = absurd (omega (arith, k, some))
after-quote b (q ∷ bytes) u e k some rest =
    let go : (t : Bool) → ◌≡◌ {A = ℕ} (cond t 2 0) u → IsClean (content_after false (b ∷ q ∷ bytes)) =
    elim [
      | true ↦ λ k.
          let one : u - 1 ≡ 1 = omega (arith, k) in
          let clean = subst (λ m. IsClean (content_after false (drop m (q ∷ bytes)))) one rest in
          subst (λ b. IsClean (content_after false (b ∷ q ∷ bytes))) (sym e) (append-clean (34 ∷ []) (content_after false bytes) (plain-clean (34 ∷ []) quote-plain) clean)
      | false ↦ λ k. absurd (omega (arith, k, some))
    ] in
    go (eqb q 34) k

-- after another character
after-plain : (b : ℕ) (bytes : List ℕ) (u : ℕ) → eqb b 34 ≡ false → plain_len (b ∷ bytes) ≡ u → 0 < u → IsClean (content_after false (drop (u - 1) bytes)) → IsClean (content_after false (b ∷ bytes))
after-plain b bytes zero h k some rest = absurd (omega (arith, some))
after-plain b bytes (suc m) h k some rest =
    let is = plain-is (b ∷ bytes) in
    let plain : is_plain_character (b ∷ take m bytes) ≡ true = subst (λ n. is_plain_character (take n (b ∷ bytes)) ≡ true) k (is.plain (omega (arith, k))) in
    let same : suc m - 1 ≡ m = omega arith in
    let clean = subst (λ n. IsClean (content_after false (drop n bytes))) same rest in
    subst (λ bs. IsClean (content_after false (b ∷ bs))) (take-append-drop m bytes)
    (subst IsClean (sym (no-quotes (b ∷ take m bytes) (drop m bytes) (no-quote (b ∷ take m bytes) plain (eqb-false b 34 h))))
    (append-clean (b ∷ take m bytes) (content_after false (drop m bytes)) (plain-clean (b ∷ take m bytes) plain) clean))

-- a character of a text, and clean ones after it
after-unit : (b : ℕ) (bytes : List ℕ) (u : ℕ) → unit_len (b ∷ bytes) ≡ u → 0 < u → IsClean (content_after false (drop (u - 1) bytes)) → IsClean (content_after false (b ∷ bytes))
after-unit b bytes u e some rest =
    let go : (t : Bool) → eqb b 34 ≡ t → cond t (cond (begins_quote bytes) 2 0) (plain_len (b ∷ bytes)) ≡ u → IsClean (content_after false (b ∷ bytes)) =
    elim [
      | true ↦ λ h k. after-quote b bytes u (eqb-true b 34 h) k some rest
      | false ↦ λ h k. after-plain b bytes u h k some rest
    ] in
    go (eqb b 34) refl e

-- what characters of a text write is clean
inside-clean : (n : ℕ) (bytes : List ℕ) → length bytes ≤ n → run_after 0 bytes ≡ length bytes → IsClean (content_after false bytes)
inside-clean n [] le e = nil-clean
inside-clean zero (b ∷ bytes) le e = absurd (omega (arith, le))
inside-clean (suc n) (b ∷ bytes) le e =
    let u = unit_len (b ∷ bytes) in
    let within = unit_within (b ∷ bytes) in
    let go : (t : Bool) → eqb u 0 ≡ t → cond t 0 (1 + run_after (u - 1) bytes) ≡ suc (length bytes) → IsClean (content_after false (b ∷ bytes)) =
    elim [
      | true ↦ λ h e. absurd (omega (arith, e))
      | false ↦ λ h e.
          let some : 0 < u = omega (arith, eqb-false u 0 h) in
          let pass = run-drop (u - 1) bytes (omega (arith, within, some)) in
          let fewer = length-drop (u - 1) bytes in
          let rest = inside-clean n (drop (u - 1) bytes) (omega (arith, fewer, le)) (omega (arith, fewer, pass, e)) in
          after-unit b bytes u refl some rest
    ] in
    go (eqb u 0) refl e

-- what stands between the quotes of a text is UTF-8, without control characters
pub content-clean : (bytes : List ℕ) → IsTextInside bytes → IsUtf8 (content bytes) × All (λ c. is_control c ≡ false) (chars (content bytes))
unfolding IsTextInside content
content-clean bytes h = let clean = inside-clean (length bytes) bytes (omega arith) h in (clean.spelled, clean.plain)

-- so it is a text in range where it isn't too long
pub content-in_range : (bytes : List ℕ) → IsTextInside bytes → length (content bytes) ≤ 255 → IsTextInRange (content bytes)
content-in_range bytes h short = let clean = content-clean bytes h in record { short = short; spelled = clean.0; plain = clean.1 }
