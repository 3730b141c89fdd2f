-- What is paid from one moment to the next, and from there on, is paid from the first to the last.
use Rattle.std.proofs.Common.{◌∙◌, ℕ, ◌+◌, ◌≤◌, Bool, Option, Result, refl, arith}
use Rattle.page_pool.specs.Desk.{DeskState}
use Rattle.page_pool.specs.Disk.{PageMap}
use Rattle.page_pool.specs.declared.fault.PageFault.{PageFault}
use Rattle.sand_model.specs.Cursor.{Cursor}
use Rattle.sand_model.specs.Reach.{Counts}
use Rattle.plan_iterator.specs.declared.answer.Answer.{Answer}
use Rattle.plan_iterator.specs.Following.{Taking}
use Rattle.plan_iterator.specs.Paying.{Prices, HasSamePrices}
use Rattle.plan_iterator.specs.Stages.{Standing}
use Rattle.plan_iterator.specs.declared.operator.Operator.{Operator}
use Rattle.plan_iterator.specs.CursorStep.{CursorStep}
use Rattle.plan_iterator.specs.PaidCalls.{left_at, paid_so_far, Pays, IsAtPaid}
use Rattle.plan_iterator.specs.Standing.{KeepsRows, IsAt}
use Rattle.plan_iterator.specs.declared.cursor.RowCursor.{RowCursor}

-- the prices stay
pub same_both : {S T : Type 0} (q : Prices S T) (a b c : Operator S T) → HasSamePrices q a b → HasSamePrices q b c → HasSamePrices q a c
same_both q a b c first second = record {
  heights = second.heights ∙ first.heights;
  step = second.step ∙ first.step;
  rows = second.rows ∙ first.rows;
}

-- gets and prices add up
pub most_both : (old mid new before between left first at now : ℕ) → mid + between + first ≤ old + before + at → new + left + at ≤ mid + between + now
    → new + left + first ≤ old + before + now
most_both old mid new before between left first at now one two = omega (arith, one, two)

module _ {S T : Type 0} (At : S → Taking) (Stands : T → Standing) (closed : T → Bool) (q : Prices S T) (seen : S → Counts) (pages : PageMap) where
  -- nothing was paid yet
  pub pays_none : (o : Operator S T) (c : Cursor) (k : KeepsRows At Stands closed seen o pages c) (desk : DeskState)
      → Pays At Stands closed q seen o o pages c c k k desk desk (left_at closed q o pages c)
  pays_none o c k desk = record { same = record { heights = refl; step = refl; rows = refl }; most = omega arith }

  -- one payment after the other
  pub pays_both : (o o' o'' : Operator S T) (c mid_c after : Cursor) (k : KeepsRows At Stands closed seen o pages c) (k' : KeepsRows At Stands closed seen o' pages mid_c)
      (k'' : KeepsRows At Stands closed seen o'' pages after)
      → (old mid new : DeskState) (left : ℕ) → Pays At Stands closed q seen o o' pages c mid_c k k' old mid (left_at closed q o' pages mid_c)
      → Pays At Stands closed q seen o' o'' pages mid_c after k' k'' mid new left → Pays At Stands closed q seen o o'' pages c after k k'' old new left
  pays_both o o' o'' c mid_c after k k' k'' old mid new left first second = record {
    same = same_both q o o' o'' first.same second.same;
    most =
        most_both old.pool.gets mid.pool.gets new.pool.gets (left_at closed q o pages c) (left_at closed q o' pages mid_c) left (paid_so_far At Stands closed q seen o pages c k old.visits)
        (paid_so_far At Stands closed q seen o' pages mid_c k' mid.visits) (paid_so_far At Stands closed q seen o'' pages after k'' new.visits) first.most second.most;
  }

  -- the same of a cursor
  pub at_none : (cursor : RowCursor S T) (c : Cursor) (at : IsAt At Stands closed seen cursor pages c) (desk : DeskState)
      → IsAtPaid At Stands closed q seen cursor cursor pages c at desk desk (left_at closed q cursor.operator pages) c
  at_none cursor c at desk = record { stands = at; pays = pays_none cursor.operator c at.keeps desk }

  pub at_both : (first second third : RowCursor S T) (c mid_c after : Cursor) (at : IsAt At Stands closed seen first pages c) (old mid new : DeskState) (left : Cursor → ℕ)
      → (one : IsAtPaid At Stands closed q seen first second pages c at old mid (left_at closed q second.operator pages) mid_c)
      → IsAtPaid At Stands closed q seen second third pages mid_c one.stands mid new left after → IsAtPaid At Stands closed q seen first third pages c at old new left after
  at_both first second third c mid_c after at old mid new left one two = record {
    stands = two.stands;
    pays =
        pays_both first.operator second.operator third.operator c mid_c after at.keeps one.stands.keeps two.stands.keeps old mid new (left after) one.pays two.pays;
  }

-- what is left to pay may be said lower
pub at_less : {S T : Type 0} (At : S → Taking) (Stands : T → Standing) (closed : T → Bool) (q : Prices S T) (seen : S → Counts) (pages : PageMap) (cursor cursor' : RowCursor S T)
    → (c after : Cursor) (at : IsAt At Stands closed seen cursor pages c) (old new : DeskState) (left lower : Cursor → ℕ) → lower after ≤ left after
    → IsAtPaid At Stands closed q seen cursor cursor' pages c at old new left after → IsAtPaid At Stands closed q seen cursor cursor' pages c at old new lower after
at_less At Stands closed q seen pages cursor cursor' c after at old new left lower less paid_it = record {
  stands = paid_it.stands;
  pays = record {
    same = paid_it.pays.same;
    most =
        most_less old.pool.gets new.pool.gets (left_at closed q cursor.operator pages c) (left after) (lower after) (paid_so_far At Stands closed q seen cursor.operator pages c at.keeps old.visits)
        (paid_so_far At Stands closed q seen cursor'.operator pages after paid_it.stands.keeps new.visits) less paid_it.pays.most;
  };
}
  where
    most_less : (old new before left lower first now : ℕ) → lower ≤ left → new + left + first ≤ old + before + now → new + lower + first ≤ old + before + now
    most_less old new before left lower first now less most = omega (arith, less, most)

-- what a step says of where the cursor stands
pub step_then : (pages : PageMap) (c : Cursor) (old new : DeskState) (result : Result (Option Answer) PageFault) (At Then : Cursor → Type 0) → ((after : Cursor) → At after → Then after)
    → CursorStep pages c old new result At → CursorStep pages c old new result Then
step_then pages c old new result At Then so s = record { after = s.after; gives = s.gives; at = so s.after s.at; visits = s.visits }
