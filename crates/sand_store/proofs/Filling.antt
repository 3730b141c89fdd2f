-- A new index takes the rows of a file one after another: those that it has, and those still to be entered, make up all.
-- the first row from an id on, by its encoding
use Rattle.std.proofs.Common.{◌≡◌, ℕ, ◌+◌, ◌≤◌, true, List, ◌∷◌, Option, Some, None, refl, sym, ◌∙◌, ap, subst, arith}
use Rattle.std.specs.Prelude.{nat_le, IfSome, IsSome, Err}
use Rattle.std.specs.List.{find}
use Rattle.code_btree.specs.Tree.{times, live}
use Rattle.code_btree.proofs.Lists.{live_small}
use Rattle.page_pool.specs.Causes.{failures_of}
use Rattle.page_pool.specs.Disk.{PageMap}
use Rattle.page_pool.specs.Pool.{PoolState, IsTold, IsLive, IsOpen}
use Rattle.page_pool.specs.Reads.{IsRead}
use Rattle.page_pool.specs.Steps.{InCommand, InCommand-refl, InCommand-trans, InCommand-read}
use Rattle.pmr_tree.specs.Quadtree.{store_of, pages_at}
use Rattle.pmr_tree.specs.declared.quadtree.Pmr.{Pmr}
use Rattle.pmr_tree.proofs.OwnPages.{is_live}
use Rattle.sand_base.specs.declared.kind.Kind.{Kind}
use Rattle.sand_base.specs.declared.limits.Limits.{Limits}
use Rattle.sand_base.specs.declared.refusal.Refusal.{Refusal}
use Rattle.sand_base.specs.declared.value.Value.{Value}
use Rattle.sand_model.specs.Database.{Index}
use Rattle.sand_model.specs.Measure.{Measure, IsMeasure}
use Rattle.sand_model.specs.StatementChecks.{is_overfull}
use Rattle.tuple_file.specs.declared.file.TupleFile.{TupleFile}
use Rattle.tuple_file.specs.Calls.{IsRowAt}
use Rattle.tuple_file.specs.File.{IsFile, file_pages, tuples_of}
use Rattle.tuple_file.specs.Rows.{least_id_from}
use Rattle.sand_store.specs.declared.path.AccessPath.{AccessPath}
use Rattle.sand_store.specs.declared.path.AccessPath.TheVariants.{Quadtree}
use Rattle.sand_store.specs.Building.{index_after, CanTake, PathTook, CanFill, Fills}
use Rattle.sand_store.specs.Calls.{HasStoreCause, store_failures_at}
use Rattle.sand_store.specs.Catalog.{IsPathOf}
use Rattle.sand_store.specs.Contents.{rows_at, index_in}
use Rattle.sand_store.specs.Standing.{TableStands}
use Rattle.sand_store.proofs.RowLists.{Rows}
use Rattle.sand_store.proofs.HalfFilled.{row_is_first, none_is_first, half_start, half_begins, half_can, half_next, half_end, Filling}

pub filling_start : (pool : PoolState) (limits : Limits) (schema : List (List ℕ × Kind)) (file : TupleFile) (column : ℕ) (a : AccessPath) → Filling pool pool limits schema file column a a 1
filling_start pool limits schema file column a = record {
  within = InCommand-refl pool;
  counted = refl;
  begun = omega arith;
  of = λ h. h;
  midway = λ told h. half_start pool.pages limits schema file column a h;
}

-- the file stands
pub filling_table : (first now : PoolState) (limits : Limits) (schema : List (List ℕ × Kind)) (file : TupleFile) (column : ℕ) (a b : AccessPath) (from : ℕ)
    → Filling first now limits schema file column a b from → (IsTold first → CanFill first.pages limits schema file (column, a)) → IsTold now → TableStands now.pages schema file
filling_table first now limits schema file column a b from k can told = (let t : IsTold first = sym k.within.told ∙ told in (k.midway t (can t)).table)

-- the next row can be taken
can_at : (first now : PoolState) (limits : Limits) (schema : List (List ℕ × Kind)) (file : TupleFile) (column : ℕ) (a b : AccessPath) (from id : ℕ) (row : List Value)
    → (k : Filling first now limits schema file column a b from) → (t : IsTold first) → (h : CanFill first.pages limits schema file (column, a))
    → Some (id, row) ≡ find (λ r. nat_le from r.0) (rows_at now.pages schema file) → CanTake now.pages limits schema file id row (column, b)
can_at first now limits schema file column a b from id row k t h e =
    let mid = k.midway t h in
    half_can first.pages now.pages limits schema file column a b from id row mid (half_begins first.pages now.pages limits schema file column a b from id row mid e)

pub filling_can : (first now read : PoolState) (limits : Limits) (schema : List (List ℕ × Kind)) (file : TupleFile) (column : ℕ) (a b : AccessPath) (from id : ℕ) (row : List Value)
    → Filling first now limits schema file column a b from → (IsTold first → CanFill first.pages limits schema file (column, a)) → IsRead now read
    → (IsTold now → Some (id, row) ≡ find (λ r. nat_le from r.0) (rows_at now.pages schema file)) → IsTold read → CanTake read.pages limits schema file id row (column, b)
filling_can first now read limits schema file column a b from id row k can r e told =
    let n : IsTold now = sym r.told ∙ told in
    let t : IsTold first = sym k.within.told ∙ n in
    let P : PageMap → Type 0 = λ m. CanTake m limits schema file id row (column, b) in
    subst P (sym r.pages) (can_at first now limits schema file column a b from id row k t (can t) (e n))

-- a step of the loop
pub filling_next : (first now read next : PoolState) (limits : Limits) (schema : List (List ℕ × Kind)) (file : TupleFile) (column : ℕ) (a b c : AccessPath) (from id : ℕ) (row : List Value)
    → Filling first now limits schema file column a b from → IsRead now read → failures_of read ≡ failures_of now
    → (IsTold now → Some (id, row) ≡ find (λ r. nat_le from r.0) (rows_at now.pages schema file)) → InCommand read next → failures_of next ≡ failures_of read
    → (IsPathOf schema (column, b) → IsPathOf schema (column, c))
    → (IsTold read → (h : CanTake read.pages limits schema file id row (column, b)) → PathTook read.pages next.pages limits schema (rows_at read.pages schema file) h.before id row column b c)
    → Filling first next limits schema file column a c (id + 1)
unfolding half_can
filling_next first now read next limits schema file column a b c from id row k r faults e within counted of took = record {
  within = InCommand-trans first read next (InCommand-trans first now read k.within (InCommand-read now read r)) within;
  counted = counted ∙ (faults ∙ k.counted);
  begun = omega arith;
  of = λ h. of (k.of h);
  midway = λ t h.
      let n : IsTold now = k.within.told ∙ t in
      let mid = k.midway t h in
      let g = half_begins first.pages now.pages limits schema file column a b from id row mid (e n) in
      let P : PageMap → Type 0 = λ m. (x : CanTake m limits schema file id row (column, b)) → PathTook m next.pages limits schema (rows_at m schema file) x.before id row column b c in
      half_next first.pages now.pages next.pages limits schema file column a b c from id row k.begun mid g
      (subst P r.pages (took (r.told ∙ n)) (half_can first.pages now.pages limits schema file column a b from id row mid g));
}

-- an index that would be too full is so with all rows
pub filling_full : (first now read : PoolState) (limits : Limits) (schema : List (List ℕ × Kind)) (file : TupleFile) (column : ℕ) (a b : AccessPath) (from id : ℕ) (row : List Value)
    → Filling first now limits schema file column a b from → (IsTold first → CanFill first.pages limits schema file (column, a)) → IsRead now read
    → (IsTold now → Some (id, row) ≡ find (λ r. nat_le from r.0) (rows_at now.pages schema file)) → (gap : Measure) → IsMeasure gap
    → (IsTold read → (h : CanTake read.pages limits schema file id row (column, b))
    → is_overfull limits (column, index_after gap (rows_at read.pages schema file) column ((id, row) ∷ h.rest) (index_in read.pages b)) ≡ true)
    → IsTold first → is_overfull limits (column, index_after gap (rows_at first.pages schema file) column (rows_at first.pages schema file) (index_in first.pages a)) ≡ true
unfolding half_can
filling_full first now read limits schema file column a b from id row k can r e gap is full t =
    let n : IsTold now = k.within.told ∙ t in
    let mid = k.midway t (can t) in
    let g = half_begins first.pages now.pages limits schema file column a b from id row mid (e n) in
    let h = half_can first.pages now.pages limits schema file column a b from id row mid g in
    let P : PageMap → Type 0 = λ m. (x : CanTake m limits schema file id row (column, b))
    → is_overfull limits (column, index_after gap (rows_at m schema file) column ((id, row) ∷ x.rest) (index_in m b)) ≡ true in
    let over : is_overfull limits (column, index_after gap (rows_at now.pages schema file) column ((id, row) ∷ g.more) (index_in now.pages b)) ≡ true = subst P r.pages (full (r.told ∙ n)) h in
    let all : Rows = rows_at first.pages schema file in
    ap (λ (i : Index). is_overfull limits (column, i)) (sym (mid.means gap is))
    ∙ (ap (λ (xs : Rows). is_overfull limits (column, index_after gap all column xs (index_in now.pages b))) g.is
    ∙ (ap (λ (xs : Rows). is_overfull limits (column, index_after gap xs column ((id, row) ∷ g.more) (index_in now.pages b))) (sym mid.same) ∙ over))

-- all rows are entered
pub filling_end : (first now read : PoolState) (limits : Limits) (schema : List (List ℕ × Kind)) (file : TupleFile) (column : ℕ) (a b : AccessPath) (from : ℕ)
    → Filling first now limits schema file column a b from → (IsTold first → CanFill first.pages limits schema file (column, a)) → IsRead now read
    → (IsTold now → None ≡ find (λ (r : ℕ × List Value). nat_le from r.0) (rows_at now.pages schema file)) → IsTold first
    → Fills first.pages read.pages limits schema (rows_at first.pages schema file) column a b
filling_end first now read limits schema file column a b from k can r e t =
    let P : PageMap → Type 0 = λ m. Fills first.pages m limits schema (rows_at first.pages schema file) column a b in
    subst P (sym r.pages) (half_end first.pages now.pages limits schema file column a b from (k.midway t (can t)) (e (k.within.told ∙ t)))

-- a quadtree that can take a row shares no page with the file
pub take_apart : (s : PoolState) (limits : Limits) (schema : List (List ℕ × Kind)) (file : TupleFile) (id column : ℕ) (row : List Value) (t : Pmr)
    → CanTake s.pages limits schema file id row (column, Quadtree t) → (q : ℕ) → 1 ≤ times q (file_pages (store_of s.pages) file) → IsLive s q × (times q (pages_at s.pages t) ≡ 0)
take_apart s limits schema file id column row t h q l =
    let o : times q (pages_at s.pages t) + times q (file_pages (store_of s.pages) file) ≤ live (store_of s.pages) q = h.apart q in
    (is_live s q (omega (arith, o, l, live_small (store_of s.pages) q)), omega (arith, o, l, live_small (store_of s.pages) q))

-- A scan and a fetch of a file that stands give its first row from an id on.

pub scan_none : (m : PageMap) (schema : List (List ℕ × Kind)) (file : TupleFile) (from : ℕ) (found : Option ℕ) → TableStands m schema file → found ≡ least_id_from from (tuples_of (store_of m) file)
    → found ≡ None → None ≡ find (λ (r : ℕ × List Value). nat_le from r.0) (rows_at m schema file)
scan_none m schema file from found h e none =
    none_is_first (rows_at m schema file) from (sym none ∙ (e ∙ ap (λ (ts : List (ℕ × List ℕ)). least_id_from from ts) h.tuples))

pub file_read : (s t : PoolState) (schema : List (List ℕ × Kind)) (file : TupleFile) → (IsTold s → TableStands s.pages schema file) → IsRead s t → IsTold t → IsFile (store_of t.pages) file
file_read s t schema file h r told =
    let P : PageMap → Type 0 = λ m. IsFile (store_of m) file in
    subst P (sym r.pages) (h (sym r.told ∙ told)).file

pub row_found : (s t : PoolState) (schema : List (List ℕ × Kind)) (file : TupleFile) (from id : ℕ) (row : List Value) (first : Option ℕ) (found : Option (List Value))
    → (IsTold s → TableStands s.pages schema file)
    → IsRead s t → (IsTold s → first ≡ least_id_from from (tuples_of (store_of s.pages) file)) → first ≡ Some id
    → (IsTold t → IsRowAt schema (tuples_of (store_of t.pages) file) id found) → found ≡ Some row
    → IsTold s → Some (id, row) ≡ find (λ r. nat_le from r.0) (rows_at s.pages schema file)
row_found s t schema file from id row first found h r least is at row_is told =
    let table = h told in
    let P : PageMap → Type 0 = λ m. IsRowAt schema (tuples_of (store_of m) file) id (Some row) in
    let Q : List (ℕ × List ℕ) → Type 0 = λ ts. IsRowAt schema ts id (Some row) in
    let R : Option (List Value) → Type 0 = λ o. IsRowAt schema (tuples_of (store_of t.pages) file) id o in
    row_is_first schema (rows_at s.pages schema file) from id row table.rows
    (sym is ∙ (least told ∙ ap (λ (ts : List (ℕ × List ℕ)). least_id_from from ts) table.tuples))
    (subst Q table.tuples (subst P r.pages (subst R row_is (at (r.told ∙ told)))))

-- What every way out of the loop keeps.

pub filling_within : (first now read : PoolState) (limits : Limits) (schema : List (List ℕ × Kind)) (file : TupleFile) (column : ℕ) (a b : AccessPath) (from : ℕ)
    → Filling first now limits schema file column a b from → IsRead now read → InCommand first read
filling_within first now read limits schema file column a b from k r = InCommand-trans first now read k.within (InCommand-read now read r)

pub filling_open : (first now read : PoolState) (limits : Limits) (schema : List (List ℕ × Kind)) (file : TupleFile) (column : ℕ) (a b : AccessPath) (from : ℕ)
    → Filling first now limits schema file column a b from → IsRead now read → IsOpen first → IsOpen read
filling_open first now read limits schema file column a b from k r opened =
    let P : Option PageMap → Type 0 = λ o. IsSome o in
    subst P (sym (r.beginning ∙ k.within.beginning)) opened

pub cause_passed : {T U : Type 0} (first now next : PoolState) (w : Refusal) → failures_of now ≡ failures_of first → HasStoreCause {T = T} now next (Err w) → HasStoreCause {T = U} first next (Err w)
cause_passed first now next w same h = record { counted = h.counted ∙ ap (λ (n : ℕ × ℕ). store_failures_at n w) same; damaged = h.damaged }

pub row_least : (from : ℕ) (first : Option (ℕ × List Value)) (r : ℕ × List Value) → IfSome first (λ row. from ≤ row.0) → first ≡ Some r → from ≤ r.0
row_least from first r h e = (let P : Option (ℕ × List Value) → Type 0 = λ o. IfSome o (λ row. from ≤ row.0) in subst P e h)

-- A step of an access path, as that of the kind that it is.

pub took_as : (m w : PageMap) (limits : Limits) (schema : List (List ℕ × Kind)) (file : TupleFile) (id : ℕ) (row : List Value) (column : ℕ) (a x b : AccessPath) → a ≡ x
    → ((h : CanTake m limits schema file id row (column, x)) → PathTook m w limits schema (rows_at m schema file) h.before id row column x b)
    → (h : CanTake m limits schema file id row (column, a)) → PathTook m w limits schema (rows_at m schema file) h.before id row column a b
took_as m w limits schema file id row column a x b is took =
    let P : AccessPath → Type 0 = λ y. (h : CanTake m limits schema file id row (column, y)) → PathTook m w limits schema (rows_at m schema file) h.before id row column y b in
    subst P (sym is) took

pub full_as : (m : PageMap) (limits : Limits) (schema : List (List ℕ × Kind)) (file : TupleFile) (id : ℕ) (row : List Value) (column : ℕ) (a x : AccessPath) → a ≡ x
    → ((h : CanTake m limits schema file id row (column, x)) → (gap : Measure) → IsMeasure gap
    → is_overfull limits (column, index_after gap (rows_at m schema file) column ((id, row) ∷ h.rest) (index_in m x)) ≡ true)
    → (h : CanTake m limits schema file id row (column, a)) → (gap : Measure) → IsMeasure gap
    → is_overfull limits (column, index_after gap (rows_at m schema file) column ((id, row) ∷ h.rest) (index_in m a)) ≡ true
full_as m limits schema file id row column a x is full =
    let P : AccessPath → Type 0 = λ y. (h : CanTake m limits schema file id row (column, y)) → (gap : Measure) → IsMeasure gap
    → is_overfull limits (column, index_after gap (rows_at m schema file) column ((id, row) ∷ h.rest) (index_in m y)) ≡ true in
    subst P (sym is) full
