-- Rows that are taken in two parts, and those that a line's `next` prints.
use Rattle.std.proofs.Common.{◌≡◌, ℕ, zero, suc, ◌+◌, ◌≤◌, Bool, true, false, nat_lt, not, ◌&&◌, ◌||◌, List, [], ◌∷◌, ◌++◌, length, take, drop, Some, refl}
use Rattle.std.proofs.Common.{sym, ap, subst, ◌∙◌, inl, inr, arith, length-append, true≢false, lt-ltb, le-ltb, ltb-true, ltb-false}
use Rattle.std.specs.Prelude.{map}
use Rattle.std.specs.List.{list_any}
use Rattle.std.proofs.Math.Seq.{take-length, drop-nil}
use Rattle.std.proofs.lemmas.List.{length-take-le, drop_all, append-nil, take-append-drop}
use Rattle.sand_base.specs.declared.refusal.Refusal.{Refusal}
use Rattle.sand_model.specs.Answer.{answer}
use Rattle.sand_model.specs.Cursor.{State, Cursor, OutputLine, Row, End, Refused}
use Rattle.sand_model.specs.Measure.{Measure}
use Rattle.sand_model.specs.Operators.{PlanRow}
use Rattle.sand_model.specs.OutputText.{is_refused}
use Rattle.sand_model.specs.StatementChecks.{cursor_named}
use Rattle.run_laws.specs.Following.{rows_left, Gave, GoesOnPrinting, rows_among, is_end, HasGiven}
use Rattle.run_laws.proofs.StepsFollow.{gave_on, gave_itself}

-- the rows among lines of rows, and of lines of which the last is none
only_rows : (xs : List PlanRow) → rows_among (map Row xs) ≡ xs
only_rows [] = refl
only_rows (x ∷ xs) = ap (λ rest. x ∷ rest) (only_rows xs)

rows_before : (xs : List PlanRow) (tail : List OutputLine) → rows_among tail ≡ [] → rows_among (map Row xs ++ tail) ≡ xs
rows_before [] tail e = e
rows_before (x ∷ xs) tail e = ap (λ rest. x ∷ rest) (rows_before xs tail e)

-- what isn't true of a row is true of lines of rows where it is of those behind them
any_behind : (p : OutputLine → Bool) → ((row : PlanRow) → p (Row row) ≡ false) → (xs : List PlanRow) (tail : List OutputLine) → list_any p (map Row xs ++ tail) ≡ list_any p tail
any_behind p free [] tail = refl
any_behind p free (x ∷ xs) tail = rw (free x) (any_behind p free xs tail)

any_row : (p : OutputLine → Bool) → ((row : PlanRow) → p (Row row) ≡ false) → (xs : List PlanRow) → list_any p (map Row xs) ≡ false
any_row p free [] = refl
any_row p free (x ∷ xs) = rw (free x) (any_row p free xs)

-- marks of which one isn't set, and of three
or_none : (a : Bool) → a || false ≡ a
or_none true = refl
or_none false = refl

or_set : (a : Bool) → a || true ≡ true
or_set true = refl
or_set false = refl

or_on : (a b c : Bool) → (a || b) || c ≡ a || (b || c)
or_on true b c = refl
or_on false b c = refl

pub and_none : (a : Bool) → a && false ≡ false
and_none true = refl
and_none false = refl

-- nothing of no rows
take_none : (n : ℕ) → take {A = PlanRow} n [] ≡ []
take_none zero = refl
take_none (suc n) = refl

-- where the first rows are all, none are behind them; and the first with all behind them are all
all_first : (m : ℕ) (first behind left : List PlanRow) → first ≡ left → behind ≡ take m (drop (length first) left) → first ++ behind ≡ left
all_first m first behind left e f =
    let short : length left ≤ length first = rw e (omega arith) in
    let none : behind ≡ [] = f ∙ ap (take m) (drop_all (length first) left short) ∙ take_none m in
    rw none (append-nil first ∙ e)

all_behind : (n : ℕ) (first behind left : List PlanRow) → first ≡ take n left → behind ≡ drop n left → first ++ behind ≡ left
all_behind n first behind left e f = rw (e, f) (take-append-drop n left)

-- the first rows, and the first of those behind them
take_on : (n m : ℕ) (xs : List PlanRow) → take n xs ++ take m (drop n xs) ≡ take (n + m) xs
take_on zero m xs = let none : zero + m ≡ m = omega arith in rw none refl
take_on (suc n) m [] =
    let one : suc n + m ≡ suc (n + m) = omega arith in
    rw one (nothing m) where
      nothing : (k : ℕ) → take k (drop {A = PlanRow} (suc n) []) ≡ []
      nothing zero = refl
      nothing (suc k) = refl
take_on (suc n) m (x ∷ xs) =
    let one : suc n + m ≡ suc (n + m) = omega arith in
    rw one (ap (λ rest. x ∷ rest) (take_on n m xs))

drop_on : (n m : ℕ) (xs : List PlanRow) → drop m (drop n xs) ≡ drop (n + m) xs
drop_on zero m xs = let none : zero + m ≡ m = omega arith in rw none refl
drop_on (suc n) m [] = drop-nil m ∙ sym (drop-nil (suc n + m))
drop_on (suc n) m (x ∷ xs) =
    let one : suc n + m ≡ suc (n + m) = omega arith in
    rw one (drop_on n m xs)

module _ (gap : Measure) (name : List ℕ) where
  -- a cursor that stays has given nothing
  pub given_nothing : (state : State) (c : Cursor) → cursor_named state name ≡ Some c → HasGiven gap name c [] false state
  given_nothing state c is = record {
    now = c;
    found = is;
    gave = subst (λ mark. Gave 0 mark c c) (sym (or_none c.is_ended)) (gave_itself c);
    first = refl;
    all = λ set. absurd (true≢false (sym set));
  }

  -- what is left behind rows that were given
  pub left_after : (rows : List PlanRow) (mark : Bool) (c now : Cursor) → Gave (length rows) mark c now → rows_left gap now ≡ drop (length rows) (rows_left gap c)
  left_after rows mark c now g =
      rw (g.database, g.plan, g.given) (sym (drop_on c.given (length rows) (answer gap c.database c.plan)))

  -- rows, and then others
  pub given_on : (c : Cursor) (xs ys : List PlanRow) (a b : Bool) (mid new : State) → (h : HasGiven gap name c xs a mid) → HasGiven gap name h.now ys b new
      → HasGiven gap name c (xs ++ ys) (a || b) new
  given_on c xs ys a b mid new h k =
      let long : length xs + length ys ≡ length (xs ++ ys) = sym (length-append xs ys) in
      let left : rows_left gap h.now ≡ drop (length xs) (rows_left gap c) = left_after xs (c.is_ended || a) c h.now h.gave in
      let behind : ys ≡ take (length ys) (drop (length xs) (rows_left gap c)) = k.first ∙ ap (take (length ys)) left in
      let mark : h.now.is_ended || b ≡ c.is_ended || (a || b) = ap (λ m. m || b) h.gave.mark ∙ or_on c.is_ended a b in
      record {
        now = k.now;
        found = k.found;
        gave = subst (λ m. Gave (length (xs ++ ys)) m c k.now) mark
            (gave_on (length xs) (length ys) (length (xs ++ ys)) (c.is_ended || a) (h.now.is_ended || b) c h.now k.now h.gave k.gave long);
        first = both_first xs ys (rows_left gap c) (length xs) (length ys) h.first behind ∙ ap (λ n. take n (rows_left gap c)) long;
        all = by_mark a refl (λ set. k.all set ∙ left) behind;
      } where
        both_first : (first behind left : List PlanRow) (n m : ℕ) → first ≡ take n left → behind ≡ take m (drop n left) → first ++ behind ≡ take (n + m) left
        both_first first behind left n m e f = rw (e, f) (take_on n m left)

        by_mark : (mark : Bool) → a ≡ mark → (b ≡ true → ys ≡ drop (length xs) (rows_left gap c)) → ys ≡ take (length ys) (drop (length xs) (rows_left gap c))
            → mark || b ≡ true → xs ++ ys ≡ rows_left gap c
        by_mark true is last behind set = all_first (length ys) xs ys (rows_left gap c) (h.all is) behind
        by_mark false is last behind set = all_behind (length xs) xs ys (rows_left gap c) h.first (last set)

  -- so many of the rows that are left
  given_rows : (c now : Cursor) (rows : List PlanRow) (n : ℕ) (mark ended : Bool) (state : State) → cursor_named state name ≡ Some now
      → n ≤ length (rows_left gap c) → rows ≡ take n (rows_left gap c) → Gave n mark c now → mark ≡ c.is_ended || ended → (ended ≡ true → rows ≡ rows_left gap c)
      → HasGiven gap name c rows ended state
  given_rows c now rows n mark ended state is within e g m all =
      let long : length rows ≡ n = ap length e ∙ length-take-le n (rows_left gap c) within in
      record {
        now = now;
        found = is;
        gave = record { name = g.name; plan = g.plan; database = g.database; given = g.given ∙ ap (λ k. c.given + k) (sym long); mark = g.mark ∙ m };
        first = e ∙ ap (λ k. take k (rows_left gap c)) (sym long);
        all = all;
      }

  -- the rows of one `next`
  pub given_by_steps : (may : Refusal → Type 0) (count : ℕ) (c now : Cursor) (lines : List OutputLine) (state : State) → cursor_named state name ≡ Some now
      → GoesOnPrinting may (rows_left gap c) count c lines now → HasGiven gap name c (rows_among lines) (list_any is_end lines) state
  given_by_steps may count c now lines state is (inl (enough, printed, gave)) =
      let unended : list_any is_end lines ≡ false = ap (list_any is_end) printed ∙ any_row is_end (λ row. refl) (take count (rows_left gap c)) in
      given_rows c now (rows_among lines) count c.is_ended (list_any is_end lines) state is enough (ap rows_among printed ∙ only_rows (take count (rows_left gap c))) gave
      (sym (or_none c.is_ended) ∙ ap (λ m. c.is_ended || m) (sym unended)) (λ set. absurd (true≢false (sym set ∙ unended)))
  given_by_steps may count c now lines state is (inr (inl (few, printed, gave))) =
      let all : rows_among lines ≡ rows_left gap c = ap rows_among printed ∙ rows_before (rows_left gap c) (End ∷ []) refl in
      let ended : list_any is_end lines ≡ true = ap (list_any is_end) printed ∙ any_behind is_end (λ row. refl) (rows_left gap c) (End ∷ []) in
      given_rows c now (rows_among lines) (length (rows_left gap c)) true (list_any is_end lines) state is (omega arith) (all ∙ sym (take-length (rows_left gap c))) gave
      (sym (or_set c.is_ended) ∙ ap (λ m. c.is_ended || m) (sym ended)) (λ set. all)
  given_by_steps may count c now lines state is (inr (inr (rows, refusal, m, less, within, printed, gave))) =
      let unended : list_any is_end lines ≡ false = ap (list_any is_end) printed ∙ any_behind is_end (λ row. refl) (take rows (rows_left gap c)) (Refused refusal ∷ []) in
      given_rows c now (rows_among lines) rows c.is_ended (list_any is_end lines) state is within
      (ap rows_among printed ∙ rows_before (take rows (rows_left gap c)) (Refused refusal ∷ []) refl) gave
      (sym (or_none c.is_ended) ∙ ap (λ m. c.is_ended || m) (sym unended)) (λ set. absurd (true≢false (sym set ∙ unended)))

  -- a `next` prints the end where fewer rows are left than it asks for and it isn't refused
  pub ended_by_steps : (may : Refusal → Type 0) (count : ℕ) (c now : Cursor) (lines : List OutputLine) (left : List PlanRow)
      → GoesOnPrinting may left count c lines now → list_any is_end lines ≡ nat_lt (length left) count && not (list_any is_refused lines)
  ended_by_steps may count c now lines left (inl (enough, printed, gave)) =
      let unended : list_any is_end lines ≡ false = ap (list_any is_end) printed ∙ any_row is_end (λ row. refl) (take count left) in
      let plenty : nat_lt (length left) count ≡ false = le-ltb (length left) count enough in
      rw (unended, plenty) refl
  ended_by_steps may count c now lines left (inr (inl (few, printed, gave))) =
      let ended : list_any is_end lines ≡ true = ap (list_any is_end) printed ∙ any_behind is_end (λ row. refl) left (End ∷ []) in
      let passed : list_any is_refused lines ≡ false = ap (list_any is_refused) printed ∙ any_behind is_refused (λ row. refl) left (End ∷ []) in
      let too_few : nat_lt (length left) count ≡ true = lt-ltb (length left) count few in
      rw (ended, passed, too_few) refl
  ended_by_steps may count c now lines left (inr (inr (rows, refusal, m, less, within, printed, gave))) =
      let unended : list_any is_end lines ≡ false = ap (list_any is_end) printed ∙ any_behind is_end (λ row. refl) (take rows left) (Refused refusal ∷ []) in
      let refused : list_any is_refused lines ≡ true = ap (list_any is_refused) printed ∙ any_behind is_refused (λ row. refl) (take rows left) (Refused refusal ∷ []) in
      rw (unended, refused) (sym (and_none (nat_lt (length left) count)))

-- fewer rows are left behind some than are asked for where fewer are in all than both
pub fewer_behind : (left rows all count : ℕ) → left + rows ≡ all → nat_lt left count ≡ nat_lt all (rows + count)
fewer_behind left rows all count e = go (nat_lt left count) refl where
  go : (b : Bool) → nat_lt left count ≡ b → nat_lt left count ≡ nat_lt all (rows + count)
  go true t = let less = ltb-true left count t in t ∙ sym (lt-ltb all (rows + count) (omega (arith, e, less)))
  go false t = let most = ltb-false left count t in t ∙ sym (le-ltb all (rows + count) (omega (arith, e, most)))

-- the first of rows are at most all
pub first_few : (n : ℕ) (xs : List PlanRow) → length (take n xs) ≤ length xs
first_few zero xs = omega arith
first_few (suc n) [] = omega arith
first_few (suc n) (x ∷ xs) = let few = first_few n xs in omega (arith, few)
