-- What the steps of a search farthest first print, one after the other.
use Rattle.std.proofs.Common.{◌≡◌, ◌⊎◌, inl, inr, ℕ, zero, suc, ◌+◌, ◌-◌, ◌<◌, ◌≤◌, Bool, true, false, List, [], ◌∷◌, ◌++◌, map, length, Contains, Option, Some, None}
use Rattle.std.proofs.Common.{option_map, refl, sym, ◌∙◌, ap, subst, arith, true≢false}
use Rattle.std.specs.Prelude.{Result, Ok, Err, IfSome, IsTrue, drop, is_some, is_none, if◌then◌else◌}
use Rattle.std.specs.List.{list_any}
use Rattle.std.proofs.Math.Numerals.{add-one}
use Rattle.std.proofs.lemmas.List.{append-nil, append_assoc, length-map}
use Rattle.sand_base.specs.declared.goal.Goal.TheVariants as figure
use Rattle.sand_base.specs.declared.point.Point.{Point}
use Rattle.sand_base.specs.declared.refusal.Refusal.{Refusal}
use Rattle.sand_base.specs.declared.refusal.Refusal.TheVariants as why
use Rattle.sand_base.specs.declared.shape.Shape.{Shape}
use Rattle.sand_base.specs.declared.source.Failed.{Failed}
use Rattle.z_code.specs.declared.block.Block.{Block}
use Rattle.sand_model.specs.Answer.{single_row}
use Rattle.sand_model.specs.Cursor.{OutputLine, Row, End, Refused}
use Rattle.sand_model.specs.Database.{element}
use Rattle.sand_model.specs.Operators.{PlanRow}
use Rattle.sand_model.specs.Outcome.{first_lines}
use Rattle.sand_model.specs.OutputText.{IsText, is_refused}
use Rattle.sand_model.specs.Sources.{Found, far_cmp, far_rows, spot_figure}
use Rattle.output_text.specs.Writing.{Writes, WritesPrefix}
use Rattle.page_pool.specs.Desk.{DeskState}
use Rattle.page_pool.specs.Disk.{PageMap}
use Rattle.page_pool.specs.declared.fault.PageFault.{PageFault}
use Rattle.sand_store.specs.declared.column.FileShapes.{FileShapes}
use Rattle.best_first.specs.Reach.{IsSameGap}
use Rattle.best_first.specs.declared.hit.Hit.{Hit}
use Rattle.best_first.specs.declared.item.Item.{Item}
use Rattle.best_first.specs.Visits.{told_pages}
use Rattle.best_first.proofs.Gaps.{same_back, same_trans}
use Rattle.far_cursor.specs.FarAnswer.{AreGivenFar}
use Rattle.far_cursor.specs.FarCursor.{shapes_in, FarStands, GivesFarthest}
use Rattle.far_cursor.specs.declared.far_tree.FarTree.{FarTree}
use Rattle.rank_cursor.proofs.Elements.{from_map}
use Rattle.rank_cursor.proofs.SortedRows.{from_sorted, at_is}
use Rattle.rank_cursor.specs.Answers.{RowStandsAt}
use Rattle.plan_sources.specs.Rankings.{by_code}
use Rattle.plan_sources.proofs.Shorter.{element_map}
use Rattle.ring_geom.proofs.Measured.{measured}
use Rattle.plan_iterator.proofs.LowestFractions.{lowest_same, lowest_one}
use Rattle.plan_iterator.proofs.PlanMeasure.{plan_measure_is}
use Rattle.plan_iterator.specs.Lowest.{lowest_of}
use Rattle.plan_iterator.specs.Rows.{plan_measure, row_of}
use Rattle.row_output.proofs.CountedLines.{row_behind}
use Rattle.sand_model.specs.PlainLines.{AreLinesOfRows, IsRowLine}
use Rattle.statement_exec.proofs.CountedRows.{accepted_behind, behind_rows, rows_accepted}
use Rattle.statement_exec.specs.Deciding.{PrintsRowsUpTo}
use Rattle.std.proofs.lemmas.List.Elements.{All-nil}
use Rattle.std.proofs.lemmas.Bool.{cases_lt}
use Rattle.row_output.specs.Stepping.{PrintsStep}
use Rattle.row_output.specs.declared.next.Next.{Next}
use Rattle.row_output.specs.declared.next.Next.TheVariants.{Row as GaveRow, End as AtEnd, Refused as WasRefused}
use Rattle.statement_exec.proofs.Texts.{writes_none, writes_more, breaks_more, writes_then_stays}
use Rattle.open_cursors.specs.FarthestLines.{answer_of, plan_answer, PrintsFarthest, far_found, first_found, WritesFound, BreaksFound, AreWholeOrRefused}

-- ---- lists

-- the lines that are left behind the rows before one that is there
row_left : (k n : ℕ) (rows : List PlanRow) (row : PlanRow) → element rows n ≡ Some row → first_lines (suc k) (drop n rows) ≡ Row row ∷ first_lines k (drop (suc n) rows)
row_left k n [] row e = absurd (true≢false (sym (ap (λ (o : Option PlanRow). is_some o) e)))
row_left k zero (r ∷ rows) row e = let same : r ≡ row = cc in rw same refl
row_left k (suc n) (r ∷ rows) row e = row_left k n rows row e

-- the end is left behind all rows
end_left : (k n : ℕ) (rows : List PlanRow) → n ≡ length rows → first_lines (suc k) (drop n rows) ≡ End ∷ []
end_left k zero [] e = refl
end_left k (suc n) [] e = absurd (omega (arith, e))
end_left k zero (r ∷ rows) e = absurd (omega (arith, e))
end_left k (suc n) (r ∷ rows) e = end_left k n rows (omega (arith, e))

-- ---- rows

-- what holds of the pages that are told
told_is : (t : Bool) (pages : PageMap) (P : PageMap → Type 0) → IfSome (if t then Some pages else None) P → IsTrue t → P pages
told_is true pages P h t = h
told_is false pages P h t = absurd (true≢false (sym t))

-- a row of the list has its gap in lowest terms
lowest_far : (p : Point) (shapes : List (ℕ × Shape)) (found : Found) → Contains (far_rows plan_measure p shapes) found → (hit : Hit) → IsSameGap found.gap hit.gap → found.gap ≡ lowest_of hit.gap
lowest_far p shapes found at hit same =
    let list = map (λ (s : ℕ × Shape). record { gap = plan_measure (spot_figure p) (figure.Shape s.1); left = s.0; right = 0 }) shapes in
    let (row, among, is) = from_map (λ (s : ℕ × Shape). record { gap = plan_measure (spot_figure p) (figure.Shape s.1); left = s.0; right = 0 }) shapes found (from_sorted far_cmp list found at) in
    let g = measured.0 (spot_figure p) (figure.Shape row.1) in
    let gap : lowest_of g ≡ found.gap = ap (λ (f : Found). f.gap) is in
    sym gap ∙ lowest_one g hit.gap (same_trans g (lowest_of g) hit.gap (same_back (lowest_of g) g (lowest_same g)) (subst (λ x. IsSameGap x hit.gap) (sym gap) same))

-- the row that is given stands in the list as it is printed
row_stands : (tree : FarTree FileShapes) (pages : PageMap) (n : ℕ) (hit : Hit) → RowStandsAt (far_found tree pages) n hit
    → element (map single_row (far_found tree pages)) n ≡ Some (row_of (answer_of hit))
row_stands tree pages n hit (found, here, same) =
    let gap : found.gap ≡ lowest_of hit.gap = lowest_far tree.goal (shapes_in tree.shapes pages) found (at_is (far_found tree pages) n found here) hit same.0 in
    let is : single_row found ≡ row_of (answer_of hit) = λ i. record {
      gap = ap (λ g. Some g) gap i;
      ids = ap (λ (id : ℕ). id ∷ []) same.1 i;
      values = [];
    } in
    element_map single_row (far_found tree pages) n ∙ ap (option_map single_row) here ∙ ap (λ x. Some x) is

-- ---- steps

-- So many rows were printed: over pages that are told they are the first of the list, and the lines are followed by those of the others.
pub record SoFar (told : Bool) (pages : PageMap) (tree : FarTree FileShapes) (count n : ℕ) (last : Option Hit) (before now : List ℕ → Type 0) : Type 0 where
  pub lines : List OutputLine
  pub of_rows : AreLinesOfRows n lines
  pub given : IsTrue told → AreGivenFar (far_found tree pages) n last
  pub left : IsTrue told → first_found count (far_found tree pages) ≡ lines ++ first_lines (count - n) (drop n (map single_row (far_found tree pages)))
  pub written : Writes (IsText lines) before now

-- a step by its answer
pub prints_farthest : (told : Option PageMap) (tree : FarTree FileShapes) (old new : Option Hit) (answer is : Result (Option Hit) PageFault) (result : Result Next Failed) (a b : List ℕ → Type 0)
    → answer ≡ is
    → IfSome told (GivesFarthest tree old new answer) → PrintsStep (plan_answer is) result a b → PrintsFarthest told tree old new result a b
prints_farthest told tree old new answer is result a b same gives prints = record {
  answer = is;
  gives = subst (λ (r : Result (Option Hit) PageFault). IfSome told (GivesFarthest tree old new r)) same gives;
  prints = prints;
}

-- nothing was printed
pub none_yet : (told : Bool) (pages : PageMap) (tree : FarTree FileShapes) (count : ℕ) (last : Option Hit) (a : List ℕ → Type 0) → last ≡ None → SoFar told pages tree count 0 last a a
none_yet told pages tree count last a none =
    let whole : count ≡ count - 0 = omega arith in record {
      lines = [];
      of_rows = (All-nil IsRowLine, refl);
      given = λ t. none;
      left = λ t. ap (λ (k : ℕ). first_lines k (map single_row (far_found tree pages))) whole;
      written = writes_none a;
    }

module _ (told : Bool) (pages : PageMap) (tree : FarTree FileShapes) (count n : ℕ) (old new : Option Hit) (a b c : List ℕ → Type 0) (so : SoFar told pages tree count n old a b) where
  abbrev Steps : Result Next Failed → Type 0
  Steps result = PrintsFarthest (if told then Some pages else None) tree old new result b c

  abbrev rest : ℕ → List OutputLine
  rest k = first_lines (count - k) (drop k (map single_row (far_found tree pages)))

  -- the row that is given is the next one
  next_row : (hit : Hit) → n < count → IsTrue told → RowStandsAt (far_found tree pages) n hit
      → first_found count (far_found tree pages) ≡ (so.lines ++ Row (row_of (answer_of hit)) ∷ []) ++ rest (suc n)
  next_row hit less t stands =
      let one : count - n ≡ suc (count - suc n) = omega (arith, less) in
      let here : rest n ≡ Row (row_of (answer_of hit)) ∷ rest (suc n) =
      ap (λ (k : ℕ). first_lines k (drop n (map single_row (far_found tree pages)))) one
      ∙ row_left (count - suc n) n (map single_row (far_found tree pages)) (row_of (answer_of hit)) (row_stands tree pages n hit stands) in
      so.left t ∙ ap (λ (xs : List OutputLine). so.lines ++ xs) here ∙ sym (append_assoc so.lines (Row (row_of (answer_of hit)) ∷ []) (rest (suc n)))

  -- nothing but the end is left
  next_end : n < count → IsTrue told → n ≡ length (far_found tree pages) → first_found count (far_found tree pages) ≡ so.lines ++ End ∷ []
  next_end less t past =
      let one : count - n ≡ suc (count - suc n) = omega (arith, less) in
      let here : rest n ≡ End ∷ [] =
      ap (λ (k : ℕ). first_lines k (drop n (map single_row (far_found tree pages)))) one
      ∙ end_left (count - suc n) n (map single_row (far_found tree pages)) (past ∙ sym (length-map (far_found tree pages) single_row)) in
      so.left t ∙ ap (λ (xs : List OutputLine). so.lines ++ xs) here

  -- one row more
  pub one_row : n < count → Steps (Ok GaveRow) → SoFar told pages tree count (n + 1) new a c
  one_row less s = subst (λ (k : ℕ). SoFar told pages tree count k new a c) (sym (add-one n)) (go s.answer s.gives s.prints) where
    go : (answer : Result (Option Hit) PageFault) → IfSome (if told then Some pages else None) (GivesFarthest tree old new answer)
        → PrintsStep (plan_answer answer) (Ok GaveRow) b c → SoFar told pages tree count (suc n) new a c
    go (Ok (Some hit)) gives prints =
        let at : IsTrue told → RowStandsAt (far_found tree pages) n hit × AreGivenFar (far_found tree pages) (suc n) new =
        λ t. told_is told pages (GivesFarthest tree old new (Ok (Some hit))) gives t plan_measure plan_measure_is n (so.given t) in
        record {
          lines = so.lines ++ Row (row_of (answer_of hit)) ∷ [];
          of_rows = subst (λ (k : ℕ). AreLinesOfRows k (so.lines ++ Row (row_of (answer_of hit)) ∷ [])) (add-one n) (row_behind n so.lines (answer_of hit) so.of_rows);
          given = λ t. (at t).1;
          left = λ t. next_row hit less t (at t).0;
          written = writes_more a b c so.lines (Row (row_of (answer_of hit)) ∷ []) so.written prints;
        }
    go (Ok None) gives prints = absurd prints
    go (Err fault) gives prints = absurd prints

  -- the end
  pub at_end : n < count → Steps (Ok AtEnd) → WritesFound (IsTrue told) count (first_found count (far_found tree pages)) None a c
  at_end less s = go s.answer s.gives s.prints where
    go : (answer : Result (Option Hit) PageFault) → IfSome (if told then Some pages else None) (GivesFarthest tree old new answer) → PrintsStep (plan_answer answer) (Ok AtEnd) b c
        → WritesFound (IsTrue told) count (first_found count (far_found tree pages)) None a c
    go (Ok None) gives prints = record {
      lines = so.lines ++ End ∷ [];
      plain = accepted_behind n so.lines End so.of_rows refl;
      counted = subst (PrintsRowsUpTo (λ refusal. None ≡ Some refusal) count) (sym (append-nil (so.lines ++ End ∷ [])))
          (behind_rows (λ refusal. None ≡ Some refusal) count n so.lines End so.of_rows less tt);
      first = λ t. sym (next_end less t (told_is told pages (GivesFarthest tree old new (Ok None)) gives t plan_measure plan_measure_is n (so.given t)).0);
      written = writes_more a b c so.lines (End ∷ []) so.written prints;
    }
    go (Ok (Some hit)) gives prints = absurd prints
    go (Err fault) gives prints = absurd prints

  -- a refusal
  pub at_refusal : (fault : PageFault) (w : Refusal) → n < count → Steps (Ok (WasRefused fault)) → WritesFound (IsTrue told) count (first_found count (far_found tree pages)) (Some w) a c
  at_refusal fault w less s = go s.answer s.prints where
    go : (answer : Result (Option Hit) PageFault) → PrintsStep (plan_answer answer) (Ok (WasRefused fault)) b c
        → WritesFound (IsTrue told) count (first_found count (far_found tree pages)) (Some w) a c
    go (Err other) prints = record {
      lines = so.lines;
      plain = rows_accepted n so.lines so.of_rows;
      counted = behind_rows (λ refusal. Some w ≡ Some refusal) count n so.lines (Refused w) so.of_rows less refl;
      first = λ t. (rest n, so.left t);
      written = writes_then_stays a b c (IsText so.lines) so.written prints.1;
    }
    go (Ok (Some hit)) prints = absurd prints
    go (Ok None) prints = absurd prints

  -- with one row more they are all, or memory may be refused behind them
  row_counted : (hit : Hit) → n < count → (IsTrue told → RowStandsAt (far_found tree pages) n hit)
      → AreWholeOrRefused (IsTrue told) count (first_found count (far_found tree pages)) (so.lines ++ Row (row_of (answer_of hit)) ∷ [])
  row_counted hit less stands = by_count (cases_lt (suc n) count) where
    of_rows : AreLinesOfRows (suc n) (so.lines ++ Row (row_of (answer_of hit)) ∷ [])
    of_rows = subst (λ (k : ℕ). AreLinesOfRows k (so.lines ++ Row (row_of (answer_of hit)) ∷ [])) (add-one n) (row_behind n so.lines (answer_of hit) so.of_rows)

    by_count : (suc n < count) ⊎ (count ≤ suc n) → AreWholeOrRefused (IsTrue told) count (first_found count (far_found tree pages)) (so.lines ++ Row (row_of (answer_of hit)) ∷ [])
    by_count (inl few) = inr (behind_rows (λ refusal. refusal ≡ why.Memory) count (suc n) (so.lines ++ Row (row_of (answer_of hit)) ∷ []) (Refused why.Memory) of_rows few refl)
    by_count (inr past) =
        let none : count - suc n ≡ 0 = omega (arith, past) in
        let all : suc n ≡ count = omega (arith, less, past) in
        inl (
          λ t.
              sym (next_row hit less t (stands t) ∙ ap (λ (k : ℕ). (so.lines ++ Row (row_of (answer_of hit)) ∷ []) ++ first_lines k (drop (suc n) (map single_row (far_found tree pages)))) none
              ∙ append-nil (so.lines ++ Row (row_of (answer_of hit)) ∷ [])),
          inl (subst (λ (k : ℕ). AreLinesOfRows k (so.lines ++ Row (row_of (answer_of hit)) ∷ [])) all of_rows),
        )

  -- the sink failed in a line
  pub at_break : (failed : Failed) → n < count → Steps (Err failed) → BreaksFound (IsTrue told) count (first_found count (far_found tree pages)) a c
  at_break failed less s = go s.answer s.gives s.prints where
    go : (answer : Result (Option Hit) PageFault) → IfSome (if told then Some pages else None) (GivesFarthest tree old new answer) → PrintsStep (plan_answer answer) (Err failed) b c
        → BreaksFound (IsTrue told) count (first_found count (far_found tree pages)) a c
    go (Ok (Some hit)) gives prints = record {
      lines = so.lines ++ Row (row_of (answer_of hit)) ∷ [];
      plain = accepted_behind n so.lines (Row (row_of (answer_of hit))) so.of_rows refl;
      counted = row_counted hit less (λ t. (told_is told pages (GivesFarthest tree old new (Ok (Some hit))) gives t plan_measure plan_measure_is n (so.given t)).0);
      first = λ t. (rest (suc n), next_row hit less t (told_is told pages (GivesFarthest tree old new (Ok (Some hit))) gives t plan_measure plan_measure_is n (so.given t)).0);
      broken = breaks_more a b c so.lines (Row (row_of (answer_of hit)) ∷ []) so.written prints;
    }
    go (Ok None) gives prints = record {
      lines = so.lines ++ End ∷ [];
      plain = accepted_behind n so.lines End so.of_rows refl;
      counted = inl (
        λ t. sym (next_end less t (told_is told pages (GivesFarthest tree old new (Ok None)) gives t plan_measure plan_measure_is n (so.given t)).0),
        behind_rows (λ refusal. ⊥) count n so.lines End so.of_rows less tt,
      );
      first = λ t. ([], next_end less t (told_is told pages (GivesFarthest tree old new (Ok None)) gives t plan_measure plan_measure_is n (so.given t)).0 ∙ sym (append-nil (so.lines ++ End ∷ [])));
      broken = breaks_more a b c so.lines (End ∷ []) so.written prints;
    }
    go (Err fault) gives prints = absurd prints

-- what the pages tell now is what they told at the beginning
pub as_before : (first now : DeskState) (tree tree' : FarTree FileShapes) (old new : Option Hit) (result : Result Next Failed) (b c : List ℕ → Type 0)
    → told_pages now ≡ told_pages first → tree' ≡ tree
    → PrintsFarthest (told_pages now) tree' old new result b c → PrintsFarthest (told_pages first) tree old new result b c
as_before first now tree tree' old new result b c told same h =
    subst (λ (t : FarTree FileShapes). PrintsFarthest (told_pages first) t old new result b c) same (subst (λ (p : Option PageMap). PrintsFarthest p tree' old new result b c) told h)

-- where the search stood over the pages it stands
pub stands_on : (old new : DeskState) (tree tree' : FarTree FileShapes) (held : List (Item Block)) (last : Option Hit) → told_pages new ≡ told_pages old → tree' ≡ tree
    → IfSome (told_pages old) (FarStands by_code tree held last) → IfSome (told_pages new) (FarStands by_code tree' held last)
stands_on old new tree tree' held last told same h =
    subst (λ (p : Option PageMap). IfSome p (FarStands by_code tree' held last)) (sym told) (subst (λ (t : FarTree FileShapes). IfSome (told_pages old) (FarStands by_code t held last)) (sym same) h)

-- as many rows as are asked
pub all_asked : (told : Bool) (pages : PageMap) (tree : FarTree FileShapes) (count n : ℕ) (last : Option Hit) (a b : List ℕ → Type 0) → n ≡ count → SoFar told pages tree count n last a b
    → WritesFound (IsTrue told) count (first_found count (far_found tree pages)) None a b
all_asked told pages tree count n last a b all so =
    let none : count - n ≡ 0 = omega (arith, all) in record {
      lines = so.lines;
      plain = rows_accepted n so.lines so.of_rows;
      counted = subst (PrintsRowsUpTo (λ refusal. None ≡ Some refusal) count) (sym (append-nil so.lines)) (inl (subst (λ (k : ℕ). AreLinesOfRows k so.lines) all so.of_rows));
      first = λ t.
          sym (so.left t ∙ ap (λ (k : ℕ). so.lines ++ first_lines k (drop n (map single_row (far_found tree pages)))) none ∙ append-nil so.lines);
      written = so.written;
    }
