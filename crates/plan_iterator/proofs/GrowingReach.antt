-- What a source was asked for grows: the reach, the visits within it and their counts, the more of it was taken.
use Rattle.std.proofs.Common.{◌≡◌, ◌+◌, ◌≤◌, Bool, true, false, cond, not, ◌&&◌, nat_lt, true≢false, take, length, refl, sym, arith, le_refl, le_trans}
use Rattle.std.proofs.lemmas.Bool.{ltb-true}
use Rattle.sand_base.specs.declared.visit.Visit.{Visit}
use Rattle.page_pool.specs.Disk.{PageMap}
use Rattle.sand_model.specs.Answer.{source}
use Rattle.sand_model.specs.Database.{Database}
use Rattle.sand_model.specs.Measure.{Measure}
use Rattle.statements.specs.Plan.{Plan}
use Rattle.sand_model.specs.Reach.{Reach, Ceiling, reach, reach_of_last, counts_at, innermost, ceiling_of, is_saturated}
use Rattle.sand_model.specs.Taken.{Taken}
use Rattle.plan_iterator.specs.Needed.{AreAtMost}
use Rattle.plan_iterator.specs.Rows.{plan_measure}
use Rattle.plan_iterator.specs.SourceSteps.{next_taken}
use Rattle.plan_iterator.specs.Visited.{LiesWithin}
use Rattle.plan_iterator.proofs.FartherReaches.{IsPartOf, part_itself, counts_more, visit_more}
use Rattle.plan_iterator.proofs.RisingRows.{source_nearest, more_reach, rows_within}

-- no more was taken than later: no more rows, and the end only where it was taken later too
abbrev pub IsBefore : Taken → Taken → Type 0
IsBefore t later = (t.rows ≤ later.rows) × (t.is_ended ≡ true → later.is_ended ≡ true)

pub before_itself : (t : Taken) → IsBefore t t
before_itself t = (le_refl t.rows, λ h. h)

pub before_trans : (a b c : Taken) → IsBefore a b → IsBefore b c → IsBefore a c
before_trans a b c h k = (le_trans h.0 k.0, λ e. k.1 (h.1 e))

-- What was taken later reaches farther: it takes in each gap and each visit that was within reach before, and counts no less.
pub record Grows (gap : Measure) (d : Database) (p : Plan) (t later : Taken) : Type 0 where
  pub part : IsPartOf (reach gap d p t) (reach gap d p later)
  pub visits : (pages : PageMap) (v : Visit) → LiesWithin gap pages d p (reach gap d p t) v → LiesWithin gap pages d p (reach gap d p later) v
  pub counts : AreAtMost (counts_at gap d (innermost p) (reach gap d p t)) (counts_at gap d (innermost p) (reach gap d p later))

-- the last rows, or the ceiling once the end was taken and not all had a row
farther : (ended later_ended saturated : Bool) (ceiling last later : Reach) → (ended ≡ true → later_ended ≡ true) → IsPartOf last later → IsPartOf last ceiling
    → IsPartOf (cond (ended && not saturated) ceiling last) (cond (later_ended && not saturated) ceiling later)
farther true true true ceiling last later h more within = more
farther true true false ceiling last later h more within = part_itself ceiling
farther true false saturated ceiling last later h more within = absurd (true≢false (sym (h refl)))
farther false true true ceiling last later h more within = more
farther false true false ceiling last later h more within = within
farther false false saturated ceiling last later h more within = more

pub reach_grows : (gap : Measure) (d : Database) (p : Plan) (t later : Taken) → IsBefore t later → IsPartOf (reach gap d p t) (reach gap d p later)
reach_grows gap d p t later h =
    let rows = source gap d p in
    let nearest = source_nearest gap d p in
    farther t.is_ended later.is_ended (is_saturated d (innermost p) rows) (Ceiling (ceiling_of (innermost p))) (reach_of_last (take t.rows rows))
    (reach_of_last (take later.rows rows)) h.1 (more_reach rows nearest.rise t.rows later.rows h.0) (rows_within (Ceiling (ceiling_of (innermost p))) rows nearest.within t.rows)

pub grows : (gap : Measure) (d : Database) (p : Plan) (t later : Taken) → IsBefore t later → Grows gap d p t later
grows gap d p t later h =
    let part = reach_grows gap d p t later h in record {
      part = part;
      visits = λ pages v is. visit_more (reach gap d p t) (reach gap d p later) part gap pages d (innermost p) v is;
      counts = counts_more (reach gap d p t) (reach gap d p later) part gap d (innermost p);
    }

-- a call of a source takes no less, where its end comes behind all its rows
pub next_later : (d : Database) (p : Plan) (t : Taken) → (t.is_ended ≡ true → t.rows ≡ length (source plan_measure d p)) → IsBefore t (next_taken d p t)
next_later d p t end = go (nat_lt t.rows (length (source plan_measure d p))) refl
  where
    go : (b : Bool) → nat_lt t.rows (length (source plan_measure d p)) ≡ b
        → IsBefore t (cond b (record { rows = t.rows + 1; is_ended = false }) (record { rows = t.rows; is_ended = true }))
    go true e =
        (omega arith, λ h. let less = ltb-true t.rows (length (source plan_measure d p)) e in let all = end h in absurd (omega (arith, less, all)))
    go false e = (le_refl t.rows, λ h. refl)
