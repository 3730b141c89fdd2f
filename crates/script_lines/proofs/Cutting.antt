-- How the bytes of a script are cut while they come: into the lines given, the line in hand and the bytes ahead of it.
use Rattle.std.proofs.Common.{◌≡◌, ℕ, suc, Bool, true, false, cond, eqb, leb, List, [], ◌∷◌, ◌++◌, length, take, drop, take-append-drop, Option, Some, None, refl, sym}
use Rattle.std.proofs.Common.{ap, ◌∙◌, arith, length-append, append_assoc, append-nil}
use Rattle.std.proofs.lemmas.Bool.{leb-false, lt-leb}
use Rattle.script_text.specs.declared.TheConstants.{LONGEST_LINE}
use Rattle.script_lines.specs.Lines.{cut, onto, clipped, with_byte, lines, ended_lines, last_line, is_no_line, HasNoFeed}
use Rattle.script_lines.specs.Parts.{behind, IsCutSoFar}

-- one byte in front of a cut text
abbrev with_front : ℕ → List (List ℕ) × List ℕ → List (List ℕ) × List ℕ
with_front b w = cond (eqb b 10) ([] ∷ w.0, w.1) (onto b w.0 w.1)

-- a line feed behind bytes without one ends them
pub cut-line : (begun rest : List ℕ) → HasNoFeed begun → cut (begun ++ 10 ∷ rest) ≡ (begun ∷ (cut rest).0, (cut rest).1)
cut-line [] rest h = refl
cut-line (b ∷ begun) rest (other, h) =
    ap (with_front b) (cut-line begun rest h) ∙ ap (λ t. cond t ([] ∷ begun ∷ (cut rest).0, (cut rest).1) ((b ∷ begun) ∷ (cut rest).0, (cut rest).1)) other

-- bytes without a line feed are a piece of one line
pub cut-open : (begun : List ℕ) → HasNoFeed begun → cut begun ≡ ([], begun)
cut-open [] h = refl
cut-open (b ∷ begun) (other, h) =
    ap (with_front b) (cut-open begun h) ∙ ap (λ t. cond t ([] ∷ [], begun) ([], b ∷ begun)) other

-- one more byte that is no line feed
HasNoFeed-byte : (begun : List ℕ) (c : ℕ) → HasNoFeed begun → eqb c 10 ≡ false → HasNoFeed (begun ++ c ∷ [])
HasNoFeed-byte [] c h other = (other, tt)
HasNoFeed-byte (b ∷ begun) c (first, h) other = (first, HasNoFeed-byte begun c h other)

-- one more byte of a line, clipped
clipped-byte : (line : List ℕ) (c : ℕ) → clipped (line ++ c ∷ []) ≡ with_byte c (clipped line)
clipped-byte line c =
    let more : length (line ++ c ∷ []) ≡ suc (length line) = omega (arith, length-append line (c ∷ [])) in
    let go : (b : Bool) → leb (length line) LONGEST_LINE ≡ b
    → clipped (line ++ c ∷ []) ≡ with_byte c (cond b (Some line) None) =
    elim [
      | true ↦ λ e. ap (λ n. cond (leb n LONGEST_LINE) (Some (line ++ c ∷ [])) None) more
      | false ↦ λ e.
          let long : leb (length (line ++ c ∷ [])) LONGEST_LINE ≡ false = lt-leb _ _ (omega (arith, leb-false (length line) LONGEST_LINE e)) in
          ap (λ b. cond b (Some (line ++ c ∷ [])) None) long
    ] in
    go _ refl

-- nothing was read yet
pub IsCutSoFar-begin : IsCutSoFar (Some []) [] [] []
IsCutSoFar-begin = record { begun = []; no_feed = tt; hand_is = refl; leads = λ more. refl }

-- the next byte, which is no line feed, joins the line in hand
pub IsCutSoFar-byte : (hand hand' : Option (List ℕ)) (ahead ahead' bytes : List ℕ) (given : List (List ℕ)) (c : ℕ) → eqb c 10 ≡ false
    → ahead ≡ c ∷ ahead' → hand' ≡ with_byte c hand → IsCutSoFar hand ahead bytes given → IsCutSoFar hand' ahead' bytes given
IsCutSoFar-byte hand hand' ahead ahead' bytes given c other first joined so_far =
    let begun = so_far.begun in
    let same : begun ++ ahead ≡ (begun ++ c ∷ []) ++ ahead' = ap (λ t. begun ++ t) first ∙ sym (append_assoc begun (c ∷ []) ahead') in
    record {
      begun = begun ++ c ∷ [];
      no_feed = HasNoFeed-byte begun c so_far.no_feed other;
      hand_is = joined ∙ ap (with_byte c) so_far.hand_is ∙ sym (clipped-byte begun c);
      leads = λ more. so_far.leads more ∙ ap (λ t. behind given (cut (t ++ more))) same;
    }

-- the next byte is a line feed, which ends the line in hand
pub IsCutSoFar-feed : (hand : Option (List ℕ)) (ahead ahead' bytes : List ℕ) (given : List (List ℕ)) (c : ℕ) → c ≡ 10
    → ahead ≡ c ∷ ahead' → IsCutSoFar hand ahead bytes given
    → (line : List ℕ) × (hand ≡ clipped line) × IsCutSoFar (Some []) ahead' bytes (given ++ line ∷ [])
IsCutSoFar-feed hand ahead ahead' bytes given c feed first so_far =
    let begun = so_far.begun in
    let same : (more : List ℕ) → (begun ++ ahead) ++ more ≡ begun ++ 10 ∷ (ahead' ++ more) =
    λ more. ap (λ t. (begun ++ t) ++ more) (first ∙ ap (λ b. b ∷ ahead') feed) ∙ append_assoc begun (10 ∷ ahead') more in
    let leads : (more : List ℕ) → cut (bytes ++ more) ≡ behind (given ++ begun ∷ []) (cut (ahead' ++ more)) =
    λ more. so_far.leads more ∙ ap (λ t. behind given (cut t)) (same more) ∙ ap (behind given) (cut-line begun (ahead' ++ more) so_far.no_feed)
    ∙ ap (λ (l : List (List ℕ)). (l, (cut (ahead' ++ more)).1)) (sym (append_assoc given (begun ∷ []) (cut (ahead' ++ more)).0)) in
    (begun, so_far.hand_is, record { begun = []; no_feed = tt; hand_is = refl; leads = leads })

-- more bytes were read once none was ahead
pub IsCutSoFar-read : (hand : Option (List ℕ)) (bytes read : List ℕ) (given : List (List ℕ)) → IsCutSoFar hand [] bytes given
    → IsCutSoFar hand read (bytes ++ read) given
IsCutSoFar-read hand bytes read given so_far =
    let begun = so_far.begun in
    let leads : (more : List ℕ) → cut ((bytes ++ read) ++ more) ≡ behind given (cut ((begun ++ read) ++ more)) =
    λ more. ap cut (append_assoc bytes read more) ∙ so_far.leads (read ++ more)
    ∙ ap (λ t. behind given (cut (t ++ (read ++ more)))) (append-nil begun) ∙ ap (λ t. behind given (cut t)) (sym (append_assoc begun read more)) in
    record { begun = begun; no_feed = so_far.no_feed; hand_is = so_far.hand_is; leads = leads }

-- with no byte ahead, the text is cut into the lines given and the line in hand
cut-given : (hand : Option (List ℕ)) (bytes : List ℕ) (given : List (List ℕ)) (so_far : IsCutSoFar hand [] bytes given)
    → cut bytes ≡ (given, so_far.begun)
cut-given hand bytes given so_far =
    ap cut (sym (append-nil bytes)) ∙ so_far.leads []
    ∙ ap (λ t. behind given (cut t)) (append-nil (so_far.begun ++ []) ∙ append-nil so_far.begun)
    ∙ ap (behind given) (cut-open so_far.begun so_far.no_feed) ∙ ap (λ (l : List (List ℕ)). (l, so_far.begun)) (append-nil given)

-- those that a line feed ends are the lines given
pub ended_lines-given : (hand : Option (List ℕ)) (bytes : List ℕ) (given : List (List ℕ)) → IsCutSoFar hand [] bytes given
    → ended_lines bytes ≡ given
ended_lines-given hand bytes given so_far = ap (λ (w : List (List ℕ) × List ℕ). w.0) (cut-given hand bytes given so_far)

-- no byte is in hand, so the last piece is empty
last_line-none : (begun : List ℕ) → is_no_line (clipped begun) ≡ true → last_line begun ≡ []
last_line-none [] h = refl
last_line-none (b ∷ begun) h =
    let go : (t : Bool) → is_no_line (cond t (Some (b ∷ begun)) None) ≡ false = elim [ true ↦ refl | false ↦ refl ] in
    absurd (cc (h, go (leb (length (b ∷ begun)) LONGEST_LINE)))

-- a byte is in hand, so the last piece is a line
last_line-some : (begun : List ℕ) → is_no_line (clipped begun) ≡ false → last_line begun ≡ begun ∷ []
last_line-some [] h = absurd (cc (h))
last_line-some (b ∷ begun) h = refl

-- the lines of the text, by the line in hand
lines-cut : (hand : Option (List ℕ)) (bytes : List ℕ) (given : List (List ℕ)) (so_far : IsCutSoFar hand [] bytes given)
    → lines bytes ≡ given ++ last_line so_far.begun
lines-cut hand bytes given so_far = ap (λ (w : List (List ℕ) × List ℕ). w.0 ++ last_line w.1) (cut-given hand bytes given so_far)

-- with no byte in hand, all lines were given
pub lines-given : (hand : Option (List ℕ)) (bytes : List ℕ) (given : List (List ℕ)) → is_no_line hand ≡ true → IsCutSoFar hand [] bytes given
    → lines bytes ≡ given
lines-given hand bytes given none so_far =
    lines-cut hand bytes given so_far ∙ ap (λ t. given ++ t) (last_line-none so_far.begun (ap is_no_line (sym so_far.hand_is) ∙ none)) ∙ append-nil given

-- a line in hand is the last one
pub lines-last : (hand : Option (List ℕ)) (bytes : List ℕ) (given : List (List ℕ)) → is_no_line hand ≡ false → IsCutSoFar hand [] bytes given
    → (line : List ℕ) × (hand ≡ clipped line) × (lines bytes ≡ given ++ line ∷ [])
lines-last hand bytes given some so_far = (
  so_far.begun,
  so_far.hand_is,
  lines-cut hand bytes given so_far ∙ ap (λ t. given ++ t) (last_line-some so_far.begun (ap is_no_line (sym so_far.hand_is) ∙ some)),
)

-- the lines given are the first of the lines of all bytes
pub lines-first : (hand : Option (List ℕ)) (ahead bytes : List ℕ) (given : List (List ℕ)) (n : ℕ) → IsCutSoFar hand ahead (take n bytes) given
    → (others : List (List ℕ)) × (lines bytes ≡ given ++ others)
lines-first hand ahead bytes given n so_far =
    let w = cut ((so_far.begun ++ ahead) ++ drop n bytes) in
    let same : cut bytes ≡ behind given w = ap cut (sym (take-append-drop n bytes)) ∙ so_far.leads (drop n bytes) in
    (w.0 ++ last_line w.1, ap (λ (v : List (List ℕ) × List ℕ). v.0 ++ last_line v.1) same ∙ append_assoc given w.0 (last_line w.1))
