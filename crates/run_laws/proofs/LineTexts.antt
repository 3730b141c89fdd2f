-- What printed lines look like: none has a line feed inside, and those of refusals alone begin with `refused`.
use Rattle.std.proofs.Common.{◌≡◌, ℕ, zero, suc, ◌<◌, ◌≤◌, ◌/◌, ◌%◌, ◌==◌, Bool, true, false, List, [], ◌∷◌, ◌++◌, length, map, Option, Some, None, codes, pos, negsuc}
use Rattle.std.proofs.Common.{refl, sym, ap, subst, ◌∙◌, arith, lt-ltb, ne_eqb, true≢false}
use Rattle.std.specs.Prelude.{⊤, flat_map}
use Rattle.std.specs.List.{list_all}
use Rattle.std.specs.Fmt.{digits, digits_onto, digit_glyph, decimal}
use Rattle.std.proofs.lemmas.Nat.{mod_below}
use Rattle.exact_frac.specs.Printed.{ratio_text}
use Rattle.exact_frac.specs.declared.frac.Frac.{Frac}
use Rattle.sand_base.specs.Refusal.{refusal_number, refusal_word}
use Rattle.sand_base.specs.declared.point.Point.{Point}
use Rattle.sand_base.specs.declared.refusal.Refusal.{Refusal}
use Rattle.sand_base.specs.declared.refusal.Refusal.TheVariants as why
use Rattle.sand_base.specs.declared.shape.Shape.{Shape}
use Rattle.sand_base.specs.declared.shape.Shape.TheVariants as shape
use Rattle.sand_base.specs.declared.value.Value.{Value}
use Rattle.sand_base.specs.declared.value.Value.TheVariants as value
use Rattle.z_code.specs.Block.{square_of}
use Rattle.sand_model.specs.Cursor.{OutputLine, Accepted, Id, Loaded, Row, End, Stats, LeafOf, Refused}
use Rattle.sand_model.specs.Operators.{PlanRow}
use Rattle.sand_model.specs.OutputText.{joined, spaced, tabbed, point_text, shape_text, value_text, PrintsGap, PrintsRow, ids_text, stats_text, detail, refused_text, PrintsLine, is_refused}
use Rattle.sand_model.specs.PlainLines.{has_no_feed, fits_line, IsPlainRow, IsPlainLine}
use Rattle.sand_model.specs.Reach.{Counts}
use Rattle.script_lines.specs.Lines.{HasNoFeed}
use Rattle.run_laws.specs.SeenRefusals.{says_refused}

free_word : (bytes : List ℕ) → has_no_feed bytes ≡ true → HasNoFeed bytes
free_word [] h = tt
free_word (b ∷ bytes) h = go (b == 10) refl (free_word bytes) where
  go : (t : Bool) → (b == 10) ≡ t → (has_no_feed bytes ≡ true → HasNoFeed bytes) → HasNoFeed (b ∷ bytes)
  go true e behind = let none : false ≡ true = rw e at h in absurd (true≢false (sym none))
  go false e behind = let rest : has_no_feed bytes ≡ true = rw e at h in (e, behind rest)

free_both : (xs ys : List ℕ) → HasNoFeed xs → HasNoFeed ys → HasNoFeed (xs ++ ys)
free_both [] ys h k = k
free_both (x ∷ xs) ys h k = (h.0, free_both xs ys h.1 k)

-- texts without line feeds, and those joined by one
abbrev AreFree : List (List ℕ) → Type 0
AreFree [] = ⊤
AreFree (text ∷ texts) = HasNoFeed text × AreFree texts

free_joined : (between : List ℕ) → HasNoFeed between → (texts : List (List ℕ)) → AreFree texts → HasNoFeed (joined between texts)
free_joined between b [] h = tt
free_joined between b (first ∷ []) h = h.0
free_joined between b (first ∷ second ∷ texts) h =
    free_both (first ++ between) (joined between (second ∷ texts)) (free_both first between h.0 b) (free_joined between b (second ∷ texts) h.1)

free_spaced : (texts : List (List ℕ)) → AreFree texts → HasNoFeed (spaced texts)
free_spaced texts h = free_joined (codes " ") (free_word (codes " ") refl) texts h

free_tabbed : (texts : List (List ℕ)) → AreFree texts → HasNoFeed (tabbed texts)
free_tabbed texts h = free_joined (9 ∷ []) (refl, tt) texts h

free_texts : (xs ys : List (List ℕ)) → AreFree xs → AreFree ys → AreFree (xs ++ ys)
free_texts [] ys h k = k
free_texts (x ∷ xs) ys h k = (h.0, free_texts xs ys h.1 k)

free_mapped : {A : Type 0} (f : A → List ℕ) → ((a : A) → HasNoFeed (f a)) → (xs : List A) → AreFree (map f xs)
free_mapped f h [] = tt
free_mapped f h (x ∷ xs) = (h x, free_mapped f h xs)

-- each byte is a digit
abbrev AreDigits : List ℕ → Type 0
AreDigits [] = ⊤
AreDigits (b ∷ bytes) = (48 ≤ b) × (b ≤ 57) × AreDigits bytes

one_digit : (d : ℕ) → d < 10 → (48 ≤ digit_glyph false d) × (digit_glyph false d ≤ 57)
one_digit d h = rw (lt-ltb d 10 h) (omega arith, omega (arith, h))

digits_before : (k n : ℕ) (acc : List ℕ) → AreDigits acc → AreDigits (digits_onto k 10 false n acc)
digits_before zero n acc h = h
digits_before (suc k) n acc h = go (n / 10 == 0) refl (digits_before k (n / 10) (digit_glyph false (n % 10) ∷ acc) (one.0, one.1, h)) where
  one : (48 ≤ digit_glyph false (n % 10)) × (digit_glyph false (n % 10) ≤ 57)
  one = one_digit (n % 10) (mod_below n 10 (omega arith))

  go : (t : Bool) → (n / 10 == 0) ≡ t → AreDigits (digits_onto k 10 false (n / 10) (digit_glyph false (n % 10) ∷ acc)) → AreDigits (digits_onto (suc k) 10 false n acc)
  go true e behind = rw e (one.0, one.1, h)
  go false e behind = rw e behind

more_digits : (k n : ℕ) (acc : List ℕ) → length acc ≤ length (digits_onto k 10 false n acc)
more_digits zero n acc = omega arith
more_digits (suc k) n acc = go (n / 10 == 0) refl (more_digits k (n / 10) (digit_glyph false (n % 10) ∷ acc)) where
  go : (t : Bool) → (n / 10 == 0) ≡ t → suc (length acc) ≤ length (digits_onto k 10 false (n / 10) (digit_glyph false (n % 10) ∷ acc))
      → length acc ≤ length (digits_onto (suc k) 10 false n acc)
  go true e more = rw e (omega arith)
  go false e more = rw e (omega (arith, more))

some_digits : (k n : ℕ) (acc : List ℕ) → 0 < length (digits_onto (suc k) 10 false n acc)
some_digits k n acc = go (n / 10 == 0) refl where
  go : (t : Bool) → (n / 10 == 0) ≡ t → 0 < length (digits_onto (suc k) 10 false n acc)
  go true e = rw e (omega arith)
  go false e = let more = more_digits k (n / 10) (digit_glyph false (n % 10) ∷ acc) in rw e (omega (arith, more))

decimal_digits : (n : ℕ) → AreDigits (decimal n)
unfolding digits
decimal_digits n = digits_before 64 n [] tt

decimal_some : (n : ℕ) → 0 < length (decimal n)
unfolding digits
decimal_some n = some_digits 63 n []

free_digits : (bytes : List ℕ) → AreDigits bytes → HasNoFeed bytes
free_digits [] h = tt
free_digits (b ∷ bytes) h = (ne_eqb b 10 (λ e. absurd (omega (arith, h.0, e))), free_digits bytes h.2)

free_decimal : (n : ℕ) → HasNoFeed (decimal n)
free_decimal n = free_digits (decimal n) (decimal_digits n)

-- the text begins with a digit
abbrev BeginsDigit : List ℕ → Type 0
BeginsDigit [] = ⊥
BeginsDigit (b ∷ bytes) = b ≤ 57

first_digit : (bytes : List ℕ) → AreDigits bytes → 0 < length bytes → BeginsDigit bytes
first_digit [] h some = absurd (omega (arith, some))
first_digit (b ∷ bytes) h some = h.1

digit_decimal : (n : ℕ) → BeginsDigit (decimal n)
digit_decimal n = first_digit (decimal n) (decimal_digits n) (decimal_some n)

digit_both : (xs ys : List ℕ) → BeginsDigit xs → BeginsDigit (xs ++ ys)
digit_both [] ys h = absurd h
digit_both (x ∷ xs) ys h = h

digit_joined : (between text : List ℕ) (texts : List (List ℕ)) → BeginsDigit text → BeginsDigit (joined between (text ∷ texts))
digit_joined between text [] h = h
digit_joined between text (second ∷ texts) h = digit_both (text ++ between) (joined between (second ∷ texts)) (digit_both text between h)

begins_other : (bytes : List ℕ) → BeginsDigit bytes → says_refused bytes ≡ false
begins_other [] h = absurd h
begins_other (b ∷ bytes) h = let other : (114 == b) ≡ false = ne_eqb 114 b (λ e. absurd (omega (arith, e, h))) in rw other refl

-- values
free_point : (p : Point) → HasNoFeed (point_text p)
free_point p =
    free_both (codes "(" ++ spaced (decimal p.x ∷ decimal p.y ∷ [])) (codes ")")
    (free_both (codes "(") (spaced (decimal p.x ∷ decimal p.y ∷ [])) (free_word (codes "(") refl)
    (free_spaced (decimal p.x ∷ decimal p.y ∷ []) (free_decimal p.x, (free_decimal p.y, tt)))) (free_word (codes ")") refl)

free_shape : (s : Shape) → HasNoFeed (shape_text s)
free_shape (shape.Point p) = free_point p
free_shape (shape.Segment s) =
    free_both (point_text s.a ++ codes "-") (point_text s.b) (free_both (point_text s.a) (codes "-") (free_point s.a) (free_word (codes "-") refl)) (free_point s.b)
free_shape (shape.Polygon corners) =
    free_both (codes "(" ++ spaced (map point_text corners)) (codes ")")
    (free_both (codes "(") (spaced (map point_text corners)) (free_word (codes "(") refl)
    (free_spaced (map point_text corners) (free_mapped point_text free_point corners))) (free_word (codes ")") refl)

-- a value that fits its line prints no line feed
free_value : (v : Value) → fits_line v ≡ true → HasNoFeed (value_text v)
free_value (value.Int (pos n)) h = free_decimal n
free_value (value.Int (negsuc n)) h = (refl, free_decimal (suc n))
free_value (value.Text bytes) h = free_word bytes h
free_value (value.Shape s) h = free_shape s

-- a text without a line feed, which begins with `refused` or not
pub record IsSeen (text : List ℕ) (refused : Bool) : Type 0 where
  pub free : HasNoFeed text
  pub begins : says_refused text ≡ refused

seen_as : (text word : List ℕ) (refused : Bool) → text ≡ word → HasNoFeed word → says_refused word ≡ refused → IsSeen text refused
seen_as text word refused e h k = record { free = subst HasNoFeed (sym e) h; begins = ap says_refused e ∙ k }

-- a gap is none, or begins with a digit
ratio_digit : (n d : ℕ) → HasNoFeed (ratio_text n d) × BeginsDigit (ratio_text n d)
ratio_digit n d = go (d == 1) refl where
  go : (t : Bool) → (d == 1) ≡ t → HasNoFeed (ratio_text n d) × BeginsDigit (ratio_text n d)
  go true e = rw e (free_decimal n, digit_decimal n)
  go false e = rw e (
    free_both (decimal n ++ codes "/") (decimal d) (free_both (decimal n) (codes "/") (free_decimal n) (free_word (codes "/") refl)) (free_decimal d),
    digit_both (decimal n ++ codes "/") (decimal d) (digit_both (decimal n) (codes "/") (digit_decimal n)),
  )

free_values : (values : List Value) → list_all fits_line values ≡ true → AreFree (map value_text values)
free_values [] h = tt
free_values (v ∷ values) h = go (fits_line v) refl (free_values values) where
  go : (t : Bool) → fits_line v ≡ t → (list_all fits_line values ≡ true → AreFree (map value_text values)) → AreFree (map value_text (v ∷ values))
  go true e behind = let rest : list_all fits_line values ≡ true = rw e at h in (free_value v e, behind rest)
  go false e behind = let none : false ≡ true = rw e at h in absurd (true≢false (sym none))

-- the parts of a row: without line feeds, and begun by a digit
abbrev BeginWithDigit : List (List ℕ) → Type 0
BeginWithDigit [] = ⊥
BeginWithDigit (text ∷ texts) = BeginsDigit text

parts_begin : (xs ys : List (List ℕ)) → BeginWithDigit xs → BeginWithDigit (xs ++ ys)
parts_begin [] ys h = absurd h
parts_begin (x ∷ xs) ys h = h

gap_part : (gap : Option Frac) (parts ids : List (List ℕ)) → PrintsGap gap parts → AreFree ids → BeginWithDigit ids → AreFree (parts ++ ids) × BeginWithDigit (parts ++ ids)
gap_part None parts ids e h k = rw e (h, k)
gap_part (Some gap) parts ids (text, p, e) h k =
    let ratio = ratio_digit p.n p.d in
    let own : HasNoFeed text = subst HasNoFeed (sym p.written) ratio.0 in
    let first : BeginsDigit text = subst BeginsDigit (sym p.written) ratio.1 in
    rw e ((own, h), first)

id_part : (ids : List ℕ) → 0 < length ids → BeginWithDigit (map decimal ids)
id_part [] some = absurd (omega (arith, some))
id_part (id ∷ ids) some = digit_decimal id

seen_parts : (text : List ℕ) (parts : List (List ℕ)) → text ≡ tabbed parts → AreFree parts → BeginWithDigit parts → IsSeen text false
seen_parts text [] e h k = absurd k
seen_parts text (part ∷ parts) e h k =
    seen_as text (tabbed (part ∷ parts)) false e (free_tabbed (part ∷ parts) h) (begins_other (tabbed (part ∷ parts)) (digit_joined (9 ∷ []) part parts k))

row_seen : (row : PlanRow) (text : List ℕ) → IsPlainRow row → PrintsRow row text → IsSeen text false
row_seen row text h (gap, printed, e) =
    let first = gap_part row.gap gap (map decimal row.ids) printed (free_mapped decimal free_decimal row.ids) (id_part row.ids h.numbered) in
    seen_parts text (gap ++ map decimal row.ids ++ map value_text row.values) e
    (free_texts (gap ++ map decimal row.ids) (map value_text row.values) first.0 (free_values row.values h.one_line))
    (parts_begin (gap ++ map decimal row.ids) (map value_text row.values) first.1)

-- the ids of a leaf
free_ids : (ids : List ℕ) → HasNoFeed (ids_text ids)
free_ids [] = free_word (codes "-") refl
free_ids (id ∷ ids) = free_spaced (map decimal (id ∷ ids)) (free_mapped decimal free_decimal (id ∷ ids))

-- the words of refusals
free_refusal : (refusal : Refusal) → has_no_feed (refusal_word refusal) ≡ true
free_refusal why.Memory = refl
free_refusal why.Device = refl
free_refusal (why.Damaged page kept read) = refl
free_refusal why.File = refl
free_refusal why.LineTooLong = refl
free_refusal (why.Syntax column) = refl
free_refusal why.Range = refl
free_refusal why.UnknownRelation = refl
free_refusal why.UnknownColumn = refl
free_refusal why.WrongKind = refl
free_refusal why.NameTaken = refl
free_refusal why.TooManyRelations = refl
free_refusal why.NoIndex = refl
free_refusal why.IndexThere = refl
free_refusal why.NoSuchId = refl
free_refusal (why.BadRecord row column) = refl
free_refusal why.FileTooLong = refl
free_refusal why.TupleTooLong = refl
free_refusal why.IdsSpent = refl
free_refusal why.IndexFull = refl
free_refusal why.UnknownCursor = refl
free_refusal why.CursorNameTaken = refl
free_refusal why.TooManyCursors = refl
free_refusal why.PlanTooDeep = refl

free_detail : (refusal : Refusal) → AreFree (detail refusal)
free_detail (why.Syntax column) = (free_decimal column, tt)
free_detail (why.Damaged page kept read) = (free_decimal page, tt)
free_detail (why.BadRecord row column) = (free_decimal row, (free_decimal column, tt))
free_detail _ = tt

-- words with numbers behind them
free_counts : (counts : List (List ℕ × ℕ)) → AreFree (map (λ count. count.0) counts) → AreFree (flat_map (λ count. count.0 ∷ decimal count.1 ∷ []) counts)
free_counts [] h = tt
free_counts (count ∷ counts) h = (h.0, (free_decimal count.1, free_counts counts h.1))

free_stats : (seen : Counts) (rows : ℕ) → HasNoFeed (stats_text seen rows)
free_stats seen rows =
    let counts : List (List ℕ × ℕ) = (codes "blocks", seen.blocks) ∷ (codes "pairs", seen.pairs) ∷ (codes "geometries", seen.geometries) ∷ (codes "rows", rows) ∷ [] in
    free_spaced (flat_map (λ count. count.0 ∷ decimal count.1 ∷ []) counts)
    (free_counts counts
    (free_word (codes "blocks") refl, (free_word (codes "pairs") refl, (free_word (codes "geometries") refl, (free_word (codes "rows") refl, tt)))))

-- a printed line
pub line_seen : (line : OutputLine) → IsPlainLine line → (text : List ℕ) → PrintsLine line text → IsSeen text (is_refused line)
line_seen Accepted h text e = seen_as text (codes "ok") false e (free_word (codes "ok") refl) refl
line_seen (Id id) h text e = seen_as text _ false e (free_spaced (codes "id" ∷ decimal id ∷ []) (free_word (codes "id") refl, (free_decimal id, tt))) refl
line_seen (Loaded rows) h text e =
    seen_as text _ false e (free_spaced (codes "loaded" ∷ decimal rows ∷ []) (free_word (codes "loaded") refl, (free_decimal rows, tt))) refl
line_seen (Row row) h text e = row_seen row text h e
line_seen End h text e = seen_as text (codes "end") false e (free_word (codes "end") refl) refl
line_seen (Stats seen rows) h text e = seen_as text (stats_text seen rows) false e (free_stats seen rows) refl
line_seen (LeafOf b ids) h text e =
    seen_parts text (decimal b.level ∷ decimal (square_of b).low.x ∷ decimal (square_of b).low.y ∷ ids_text ids ∷ []) e
    (free_decimal b.level, (free_decimal (square_of b).low.x, (free_decimal (square_of b).low.y, (free_ids ids, tt)))) (digit_decimal b.level)
line_seen (Refused refusal) h text e =
    seen_as text (refused_text refusal) true e
    (free_spaced (codes "refused" ∷ decimal (refusal_number refusal) ∷ refusal_word refusal ∷ detail refusal)
    (free_word (codes "refused") refl, (free_decimal (refusal_number refusal), (free_word (refusal_word refusal) (free_refusal refusal), free_detail refusal)))) refl
