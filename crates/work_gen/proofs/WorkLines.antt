-- How many lines a workload has, how long they are, and that none has a line feed.
use Rattle.std.proofs.Common.{◌≡◌, ℕ, zero, suc, ◌+◌, ◌*◌, ◌/◌, ◌^◌, ◌<◌, ◌≤◌, Bool, true, false, not, ◌&&◌, eqb, List, [], ◌∷◌, ◌++◌, codes, length, refl, ap, ◌∙◌, arith, length-append, append-nil}
use Rattle.std.proofs.lemmas.Fmt.{decimal_by_steps, length-decimal-le}
use Rattle.std.specs.Fmt.{decimal}
use Rattle.std.proofs.lemmas.Bool.{false≢true, ne_eqb}
use Rattle.std.specs.List.{list_all}
use Rattle.std.specs.Prelude.{⊤}
use Rattle.script_lines.specs.Lines.{HasNoFeed, cut, last_line, lines}
use Rattle.script_lines.specs.declared.TheConstants.{LONGEST_SCRIPT}
use Rattle.script_lines.proofs.Cutting.{cut-line}
use Rattle.work_gen.specs.Script.{IsScriptOf, script_of}
use Rattle.work_gen.specs.Draws.{next_state, state_after, draw}
use Rattle.work_gen.specs.Workload.{spot_text, point_line, stepped, segment_line, rank_line, filter_line, opening_lines, closing_lines, insert_lines, rank_lines, workload}

-- two lines a turn of inserts
length-insert_lines : (turns s : ℕ) → length (insert_lines turns s) ≡ 2 * turns
length-insert_lines zero s = refl
length-insert_lines (suc turns) s = omega (arith, length-insert_lines turns (state_after 7 s))

-- two lines a turn of rankings
length-rank_lines : (turns s : ℕ) → length (rank_lines turns s) ≡ 2 * turns
length-rank_lines zero s = refl
length-rank_lines (suc turns) s = omega (arith, length-rank_lines turns (state_after 5 s))

-- four lines before the inserts and four after the rankings
pub length-workload : (n : ℕ) → length (workload n) ≡ 2 * n + 2 * (n / 10 + 1) + 8
length-workload n =
    let ranks = rank_lines (n / 10 + 1) (state_after (n * 7) n) in
    omega (
      arith,
      length-append (insert_lines n n ++ ranks) closing_lines,
      length-append (insert_lines n n) ranks,
      length-insert_lines n n,
      length-rank_lines (n / 10 + 1) (state_after (n * 7) n),
    )

-- at most so many bytes, none of them a line feed
record IsPlain (most : ℕ) (bytes : List ℕ) : Type 0 where
  short : length bytes ≤ most
  no_feed : HasNoFeed bytes

-- no line feed in either of two, none in both
HasNoFeed-append : (a b : List ℕ) → HasNoFeed a → HasNoFeed b → HasNoFeed (a ++ b)
HasNoFeed-append [] b p q = q
HasNoFeed-append (x ∷ a) b (first, p) q = (first, HasNoFeed-append a b p q)

-- one behind the other
infixl 65 ◌with◌
◌with◌ : {m n : ℕ} {a b : List ℕ} → IsPlain m a → IsPlain n b → IsPlain (m + n) (a ++ b)
◌with◌ {a = a} {b = b} p q = record {
  short = omega (arith, length-append a b, p.short, q.short);
  no_feed = HasNoFeed-append a b p.no_feed q.no_feed;
}

-- no byte is a line feed
abbrev is_plain : List ℕ → Bool
is_plain = list_all (λ b. not (eqb b 10))

-- as the test says
HasNoFeed-is_plain : (bytes : List ℕ) → is_plain bytes ≡ true → HasNoFeed bytes
HasNoFeed-is_plain [] h = tt
HasNoFeed-is_plain (b ∷ bytes) h =
    let go : (t : Bool) → eqb b 10 ≡ t → (not t && is_plain bytes) ≡ true → (t ≡ false) × (is_plain bytes ≡ true) =
    elim [ true ↦ λ e f. absurd (false≢true f) | false ↦ λ e f. (refl, f) ] in
    let both = go (eqb b 10) refl h in
    (both.0, HasNoFeed-is_plain bytes both.1)

-- a text without a line feed
plain_text : (bytes : List ℕ) → is_plain bytes ≡ true → IsPlain (length bytes) bytes
plain_text bytes h = record { short = omega arith; no_feed = HasNoFeed-is_plain bytes h }

-- a digit is no line feed
digit_no_feed : (d : ℕ) → eqb (48 + d) 10 ≡ false
digit_no_feed d = ne_eqb (48 + d) 10 (λ e. omega arith)

-- a number has no line feed
HasNoFeed-decimal : (n : ℕ) → n < 2 ^ 64 → HasNoFeed (decimal n)
HasNoFeed-decimal =
    decimal_by_steps (λ n ds. HasNoFeed ds) (λ n small. (digit_no_feed n, tt))
    (λ n ds big p. HasNoFeed-append ds _ p (digit_no_feed _, tt))

-- a number of 16 bits has at most five digits
plain_number : (n : ℕ) → n < 65536 → IsPlain 5 (decimal n)
plain_number n h = record {
  short = length-decimal-le 5 n (omega arith) (omega arith) (omega arith);
  no_feed = HasNoFeed-decimal n (omega arith);
}

-- a spot
plain_spot : (x y : ℕ) → x < 65536 → y < 65536 → IsPlain 13 (spot_text x y)
plain_spot x y hx hy =
    plain_text (codes "(") refl with plain_number x hx with plain_text (codes " ") refl with plain_number y hy
    with plain_text (codes ")") refl

-- a longer limit serves too
wider : (m n : ℕ) (bytes : List ℕ) → m ≤ n → IsPlain m bytes → IsPlain n bytes
wider m n bytes h p = record { short = omega (arith, p.short); no_feed = p.no_feed }

-- a draw has 16 bits
draw-lt : (k s : ℕ) → draw (suc k) s < 65536
unfolding next_state
draw-lt k s = omega arith

-- a step stays below
stepped-lt : (x e : ℕ) → stepped x e < 65536
stepped-lt x e = omega arith

-- a place with its population
plain_point : (x y pop : ℕ) → x < 65536 → y < 65536 → pop < 65536 → IsPlain 65 (point_line x y pop)
unfolding point_line
plain_point x y pop hx hy hp =
    wider 29 65 _ (omega arith)
    (plain_text (codes "insert p ") refl with plain_spot x y hx hy with plain_text (codes ", ") refl with plain_number pop hp)

-- a short way
plain_segment : (x y e f : ℕ) → x < 65536 → y < 65536 → IsPlain 65 (segment_line x y e f)
unfolding segment_line
plain_segment x y e f hx hy =
    wider 36 65 _ (omega arith)
    (plain_text (codes "insert s ") refl with plain_spot x y hx hy with plain_text (codes "-") refl
    with plain_spot (stepped x e) (stepped y f) (stepped-lt x e) (stepped-lt y f))

-- a ranking
plain_rank : (x y : ℕ) → x < 65536 → y < 65536 → IsPlain 65 (rank_line x y)
unfolding rank_line
plain_rank x y hx hy = wider 36 65 _ (omega arith) (plain_text (codes "show 10 rank p.at from ") refl with plain_spot x y hx hy)

-- a ranking with a filter
plain_filter : (x y pop : ℕ) → x < 65536 → y < 65536 → pop < 65536 → IsPlain 65 (filter_line x y pop)
unfolding filter_line
plain_filter x y pop hx hy hp =
    plain_text (codes "show 3 filter (rank p.at from ") refl with plain_spot x y hx hy with plain_text (codes ") where 1.pop >= ") refl
    with plain_number pop hp

-- each line is plain
abbrev ArePlain : List (List ℕ) → Type 0
ArePlain [] = ⊤
ArePlain (line ∷ lines) = IsPlain 65 line × ArePlain lines

-- those of one list and of another
ArePlain-append : (a b : List (List ℕ)) → ArePlain a → ArePlain b → ArePlain (a ++ b)
ArePlain-append [] b p q = q
ArePlain-append (line ∷ a) b (first, p) q = (first, ArePlain-append a b p q)

-- a text of at most 65 bytes without a line feed
plain_line : (bytes : List ℕ) → length bytes ≤ 65 → is_plain bytes ≡ true → IsPlain 65 bytes
plain_line bytes short h = record { short = short; no_feed = HasNoFeed-is_plain bytes h }

-- the first lines
plain_opening : ArePlain opening_lines
plain_opening = (plain_line _ (omega arith) refl, (plain_line _ (omega arith) refl, (plain_line _ (omega arith) refl, (plain_line _ (omega arith) refl, tt))))

-- the last lines
plain_closing : ArePlain closing_lines
plain_closing = (plain_line _ (omega arith) refl, (plain_line _ (omega arith) refl, (plain_line _ (omega arith) refl, (plain_line _ (omega arith) refl, tt))))

-- so many turns of inserts
plain_inserts : (turns s : ℕ) → ArePlain (insert_lines turns s)
plain_inserts zero s = tt
plain_inserts (suc turns) s = (
  plain_point (draw 1 s) (draw 2 s) (draw 3 s) (draw-lt 0 s) (draw-lt 1 s) (draw-lt 2 s),
  (plain_segment (draw 4 s) (draw 5 s) (draw 6 s) (draw 7 s) (draw-lt 3 s) (draw-lt 4 s), plain_inserts turns (state_after 7 s)),
)

-- so many turns of rankings
plain_ranks : (turns s : ℕ) → ArePlain (rank_lines turns s)
plain_ranks zero s = tt
plain_ranks (suc turns) s = (
  plain_rank (draw 1 s) (draw 2 s) (draw-lt 0 s) (draw-lt 1 s),
  (plain_filter (draw 3 s) (draw 4 s) (draw 5 s) (draw-lt 2 s) (draw-lt 3 s) (draw-lt 4 s), plain_ranks turns (state_after 5 s)),
)

-- the lines of a workload
plain_workload : (n : ℕ) → ArePlain (workload n)
plain_workload n =
    ArePlain-append (opening_lines ++ insert_lines n n ++ rank_lines (n / 10 + 1) (state_after (n * 7) n)) closing_lines
    (ArePlain-append (opening_lines ++ insert_lines n n) (rank_lines (n / 10 + 1) (state_after (n * 7) n))
    (ArePlain-append opening_lines (insert_lines n n) plain_opening (plain_inserts n n)) (plain_ranks (n / 10 + 1) (state_after (n * 7) n)))
    plain_closing

-- at most 66 bytes a line
length-plain : (lines : List (List ℕ)) → ArePlain lines → length (script_of lines) ≤ 66 * length lines
length-plain [] p = omega arith
length-plain (line ∷ lines) (first, p) =
    omega (arith, length-append line (10 ∷ script_of lines), first.short, length-plain lines p)

-- the script of a workload isn't too long
length-script : (n : ℕ) → n ≤ 100000 → length (script_of (workload n)) ≤ LONGEST_SCRIPT
length-script n h = omega (arith, length-plain (workload n) (plain_workload n), length-workload n)

-- plain lines are cut as they are
cut-script : (some : List (List ℕ)) → ArePlain some → cut (script_of some) ≡ (some, [])
cut-script [] p = refl
cut-script (line ∷ some) (first, p) =
    cut-line line (script_of some) first.no_feed ∙ ap (λ (w : List (List ℕ) × List ℕ). (line ∷ w.0, w.1)) (cut-script some p)

-- the lines of the script of a workload are those of the workload
lines-script : (n : ℕ) → lines (script_of (workload n)) ≡ workload n
lines-script n =
    ap (λ (w : List (List ℕ) × List ℕ). w.0 ++ last_line w.1) (cut-script (workload n) (plain_workload n)) ∙ append-nil (workload n)

-- a reader of scripts takes the script of a workload whole
pub IsScriptOf-workload : (n : ℕ) → n ≤ 100000 → IsScriptOf (workload n) (script_of (workload n))
IsScriptOf-workload n h = record { found = lines-script n; short = length-script n h }
