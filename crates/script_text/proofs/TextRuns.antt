-- The characters of a text are told by the bytes that they take, and by where they end.
use Rattle.std.proofs.Common.{◌≡◌, ℕ, zero, suc, ◌+◌, ◌-◌, ◌<◌, ◌≤◌, Bool, true, false, cond, eqb, List, [], ◌∷◌, ◌++◌, length, take, drop, refl, sym, ap, ◌∙◌, arith, length-drop}
use Rattle.std.proofs.Math.Numerals.{one-add}
use Rattle.std.proofs.lemmas.Bool.{cond-true, cond-false, eqb-true, eqb-false, eq-eqb, false≢true}
use Rattle.std.proofs.lemmas.List.{take_at, drop_at, drop-drop, take-take, take-append-drop, length-take-le}
use Rattle.std.proofs.Math.Seq.{take-length, drop-nil}
use Rattle.script_text.specs.Text.{is_plain_character, plain_len, begins_quote, unit_len, run_after, text_run, IsTextInside}
use Rattle.script_text.proofs.TextLemmas.{len_1, len_2, len_3, len_4, len_0, unit_within, run-drop}

-- a character at the front is told by its bytes
plain_same : (bytes other : List ℕ) → 0 < plain_len bytes → ((k : ℕ) → k ≤ plain_len bytes → take k other ≡ take k bytes) → plain_len other ≡ plain_len bytes
plain_same bytes other some same =
    let go : (a b c d : Bool) → is_plain_character (take 1 bytes) ≡ a → is_plain_character (take 2 bytes) ≡ b → is_plain_character (take 3 bytes) ≡ c
    → is_plain_character (take 4 bytes) ≡ d → plain_len other ≡ plain_len bytes =
    elim [
      | true ↦ λ b c d ha hb hc hd.
          let e = len_1 bytes ha in
          len_1 other (ap is_plain_character (same 1 (omega (arith, e))) ∙ ha) ∙ sym e
      | false ↦ elim [
        | true ↦ λ c d ha hb hc hd.
            let e = len_2 bytes ha hb in
            len_2 other (ap is_plain_character (same 1 (omega (arith, e))) ∙ ha) (ap is_plain_character (same 2 (omega (arith, e))) ∙ hb) ∙ sym e
        | false ↦ elim [
          | true ↦ λ d ha hb hc hd.
              let e = len_3 bytes ha hb hc in
              len_3 other (ap is_plain_character (same 1 (omega (arith, e))) ∙ ha) (ap is_plain_character (same 2 (omega (arith, e))) ∙ hb)
              (ap is_plain_character (same 3 (omega (arith, e))) ∙ hc) ∙ sym e
          | false ↦ elim [
            | true ↦ λ ha hb hc hd.
                let e = len_4 bytes ha hb hc hd in
                len_4 other (ap is_plain_character (same 1 (omega (arith, e))) ∙ ha) (ap is_plain_character (same 2 (omega (arith, e))) ∙ hb)
                (ap is_plain_character (same 3 (omega (arith, e))) ∙ hc)
                (ap is_plain_character (same 4 (omega (arith, e))) ∙ hd) ∙ sym e
            | false ↦ λ ha hb hc hd. let e = len_0 bytes ha hb hc hd in absurd (omega (arith, e, some))
          ]
        ]
      ]
    ] in
    go _ _ _ _ refl refl refl refl

-- a quote that begins the front begins the bytes
begins-take : (bytes : List ℕ) → begins_quote (take 1 bytes) ≡ begins_quote bytes
begins-take [] = refl
begins-take (b ∷ bytes) = refl

-- where two quotes are one character, the second is there
quotes-same : (bytes other : List ℕ) (b : ℕ) → begins_quote bytes ≡ true → take 2 (b ∷ other) ≡ take 2 (b ∷ bytes) → begins_quote other ≡ true
quotes-same bytes other b h e = sym (begins-take other) ∙ ap (λ bs. begins_quote (drop 1 bs)) e ∙ begins-take bytes ∙ h

-- a character of a text is told by its bytes
unit_same : (b : ℕ) (bytes other : List ℕ) → 0 < unit_len (b ∷ bytes) → ((k : ℕ) → k ≤ unit_len (b ∷ bytes) → take k (b ∷ other) ≡ take k (b ∷ bytes))
    → unit_len (b ∷ other) ≡ unit_len (b ∷ bytes)
unit_same b bytes other some same =
    let go : (t : Bool) → eqb b 34 ≡ t → unit_len (b ∷ other) ≡ unit_len (b ∷ bytes) =
    elim [
      | false ↦ λ h.
          let mine : unit_len (b ∷ bytes) ≡ plain_len (b ∷ bytes) = cond-false (eqb b 34) _ _ h in
          cond-false (eqb b 34) _ _ h ∙ plain_same (b ∷ bytes) (b ∷ other) (omega (arith, mine, some)) (λ k le. same k (omega (arith, mine, le))) ∙ sym mine
      | true ↦ λ h.
          let mine : unit_len (b ∷ bytes) ≡ cond (begins_quote bytes) 2 0 = cond-true (eqb b 34) _ _ h in
          let second : (t : Bool) → begins_quote bytes ≡ t → unit_len (b ∷ other) ≡ unit_len (b ∷ bytes) =
          elim [
            | false ↦ λ q. let none : unit_len (b ∷ bytes) ≡ 0 = mine ∙ cond-false (begins_quote bytes) 2 0 q in absurd (omega (arith, none, some))
            | true ↦ λ q.
                let two : unit_len (b ∷ bytes) ≡ 2 = mine ∙ cond-true (begins_quote bytes) 2 0 q in
                cond-true (eqb b 34) _ _ h ∙ cond-true (begins_quote other) 2 0 (quotes-same bytes other b q (same 2 (omega (arith, two)))) ∙ sym two
          ] in
          second (begins_quote bytes) refl
    ] in
    go (eqb b 34) refl

-- fronts of a length have fronts of a lesser one
take-less : (k m : ℕ) (xs ys : List ℕ) → k ≤ m → take m xs ≡ take m ys → take k xs ≡ take k ys
take-less zero m xs ys le e = refl
take-less (suc k) zero xs ys le e = absurd (omega (arith, le))
take-less (suc k) (suc m) [] [] le e = refl
take-less (suc k) (suc m) [] (y ∷ ys) le e = absurd cc
take-less (suc k) (suc m) (x ∷ xs) [] le e = absurd cc
take-less (suc k) (suc m) (x ∷ xs) (y ∷ ys) le e =
    let first : x ≡ y = cc in
    let later : take m xs ≡ take m ys = cc in
    (λ i. first i ∷ take-less k m xs ys (omega (arith, le)) later i)

-- the characters of other bytes that begin alike, and what follows them
pub run-front : (n m : ℕ) (bytes other : List ℕ) → n ≤ length bytes → run_after n bytes ≡ m → take m other ≡ take m bytes → run_after n other ≡ m + run_after 0 (drop m other)
run-front n (suc m) (b ∷ bytes) [] le e same = absurd cc
run-front zero zero bytes other le e same = omega arith
run-front (suc n) m [] other le e same = absurd (omega (arith, le))
run-front zero (suc m) [] other le e same = absurd (omega (arith, e))
run-front (suc n) zero (b ∷ bytes) other le e same = absurd (omega (arith, e))
run-front (suc n) (suc m) (b ∷ bytes) (o ∷ other) le e same =
    let later : take m other ≡ take m bytes = cc in
    let rest = run-front n m bytes other (omega (arith, le)) (omega (arith, e)) later in
    omega (arith, rest)
run-front zero (suc m) (b ∷ bytes) (o ∷ other) le e same =
    let u = unit_len (b ∷ bytes) in
    let go : (t : Bool) → eqb u 0 ≡ t → cond t 0 (1 + run_after (u - 1) bytes) ≡ suc m → run_after 0 (o ∷ other) ≡ suc m + run_after 0 (drop m other) =
    elim [
      | true ↦ λ h e. absurd (omega (arith, e))
      | false ↦ λ h e.
          let first : o ≡ b = cc in
          let later : take m other ≡ take m bytes = cc in
          let some : 0 < u = omega (arith, eqb-false u 0 h) in
          let within = unit_within (b ∷ bytes) in
          let all = run-drop (u - 1) bytes (omega (arith, within, some)) in
          let unit : unit_len (o ∷ other) ≡ u =
          ap (λ o. unit_len (o ∷ other)) first
          ∙ unit_same b bytes other some (λ k le. take-less k (suc m) (b ∷ other) (b ∷ bytes) (omega (arith, le, e, all, some)) (ap (λ bs. b ∷ bs) later)) in
          let rest = run-front (u - 1) m bytes other (omega (arith, within, some)) (omega (arith, e)) later in
          cond-false (eqb (unit_len (o ∷ other)) 0) _ _ (ap (λ n. eqb n 0) unit ∙ h) ∙ ap (λ n. 1 + run_after (n - 1) other) unit ∙ omega (arith, rest)
    ] in
    go (eqb u 0) refl e

-- the characters end where none is
run-stops : (n : ℕ) (bytes : List ℕ) → n ≤ length bytes → unit_len (drop (run_after n bytes) bytes) ≡ 0
run-stops n [] le = ap unit_len (drop-nil (run_after n []))
run-stops (suc n) (b ∷ bytes) le = ap (λ m. unit_len (drop m (b ∷ bytes))) (one-add (run_after n bytes)) ∙ run-stops n bytes (omega (arith, le))
run-stops zero (b ∷ bytes) le =
    let u = unit_len (b ∷ bytes) in
    let go : (t : Bool) → eqb u 0 ≡ t → unit_len (drop (cond t 0 (1 + run_after (u - 1) bytes)) (b ∷ bytes)) ≡ 0 =
    elim [
      | true ↦ λ h. eqb-true u 0 h
      | false ↦ λ h.
          ap (λ m. unit_len (drop m (b ∷ bytes))) (one-add (run_after (u - 1) bytes))
          ∙ run-stops (u - 1) bytes (omega (arith, unit_within (b ∷ bytes), eqb-false u 0 h))
    ] in
    go (eqb u 0) refl

-- nothing is left of a front behind its length
drop-own : (m : ℕ) (bytes : List ℕ) → drop m (take m bytes) ≡ []
drop-own zero bytes = refl
drop-own (suc m) [] = refl
drop-own (suc m) (b ∷ bytes) = drop-own m bytes

-- the characters take no more bytes than there are
pub run-within : (n : ℕ) (bytes : List ℕ) → run_after n bytes ≤ length bytes
run-within n [] = omega arith
run-within (suc n) (b ∷ bytes) = let rest = run-within n bytes in omega (arith, rest)
run-within zero (b ∷ bytes) =
    let u = unit_len (b ∷ bytes) in
    let go : (t : Bool) → cond t 0 (1 + run_after (u - 1) bytes) ≤ length (b ∷ bytes) =
    elim [ true ↦ omega arith | false ↦ (let rest = run-within (u - 1) bytes in omega (arith, rest)) ] in
    go (eqb u 0)

-- the characters at the front are characters alone
pub inside-run : (bytes : List ℕ) → IsTextInside (take (text_run bytes) bytes)
unfolding text_run IsTextInside
inside-run bytes =
    let m = run_after 0 bytes in
    let front = run-front 0 m bytes (take m bytes) (omega arith) refl (take-take m m bytes (omega arith)) in
    let none : run_after 0 (drop m (take m bytes)) ≡ 0 = ap (run_after 0) (drop-own m bytes) in
    omega (arith, front, none, length-take-le m bytes (run-within 0 bytes))

-- a text at the front has no more characters than are there
pub text-least : (bytes more : List ℕ) → IsTextInside bytes → text_run (bytes ++ more) ≡ length bytes + run_after 0 more
unfolding text_run IsTextInside
text-least bytes more inside =
    run-front 0 (length bytes) bytes (bytes ++ more) (omega arith) inside (take_at bytes more (length bytes) refl ∙ sym (take-length bytes))
    ∙ ap (λ bs. length bytes + run_after 0 bs) (drop_at bytes more (length bytes) refl)

-- so the run of a text that a quote closes is all of it
pub text-front : (bytes left : List ℕ) → IsTextInside bytes → begins_quote left ≡ false → text_run (bytes ++ 34 ∷ left) ≡ length bytes
text-front bytes left inside ends =
    let stop : unit_len (34 ∷ left) ≡ 0 = cond-false (begins_quote left) 2 0 ends in
    let none : run_after 0 (34 ∷ left) ≡ 0 = cond-true (eqb (unit_len (34 ∷ left)) 0) _ _ (eq-eqb (unit_len (34 ∷ left)) 0 stop) in
    omega (arith, text-least bytes (34 ∷ left) inside, none)

-- no quote stands behind the one that closes a text
quote-single : (left : List ℕ) → unit_len (34 ∷ left) ≡ 0 → begins_quote left ≡ false
quote-single left h =
    let go : (t : Bool) → begins_quote left ≡ t → ◌≡◌ {A = ℕ} (cond t 2 0) 0 → t ≡ false = elim [ true ↦ λ e k. absurd (omega (arith, k)) | false ↦ λ e k. refl ] in
    go (begins_quote left) refl h

-- bytes after the run of a text begin with a quote, and it is not doubled
closed-after : (rest : List ℕ) → begins_quote rest ≡ true → unit_len rest ≡ 0 → (left : List ℕ) × (rest ≡ 34 ∷ left) × (begins_quote left ≡ false)
closed-after [] h k = absurd (false≢true h)
closed-after (b ∷ left) h k =
    let e : b ≡ 34 = eqb-true b 34 h in
    (left, ap (λ b. b ∷ left) e, quote-single left (ap (λ b. unit_len (b ∷ left)) (sym e) ∙ k))

-- a text that is cut: its characters, the quote that closes it, and what follows
pub record IsTextCut (bytes : List ℕ) : Type 0 where
  pub left : List ℕ
  pub whole : bytes ≡ take (text_run bytes) bytes ++ 34 ∷ left
  pub single : begins_quote left ≡ false
  pub within : text_run bytes + 1 ≤ length bytes
  pub rest : drop (text_run bytes + 1) bytes ≡ left

pub text-cut : (bytes : List ℕ) → begins_quote (drop (text_run bytes) bytes) ≡ true → IsTextCut bytes
unfolding text_run
text-cut bytes h =
    let m = run_after 0 bytes in
    let closed = closed-after (drop m bytes) h (run-stops 0 bytes (omega arith)) in
    let n : length (drop m bytes) ≡ suc (length closed.0) = ap length closed.1 in
    record {
      left = closed.0;
      whole = sym (take-append-drop m bytes) ∙ ap (λ bs. take m bytes ++ bs) closed.1;
      single = closed.2;
      within = omega (arith, n, length-drop m bytes);
      rest = sym (drop-drop 1 m bytes) ∙ ap (drop 1) closed.1;
    }
