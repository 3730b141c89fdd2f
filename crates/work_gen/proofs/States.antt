-- Steps of the generator in a row, and the lines of the turn that comes next.
use Rattle.std.proofs.Common.{◌≡◌, ℕ, zero, suc, ◌+◌, ◌*◌, ◌∷◌, arith, refl, ap, add-one}
use Rattle.work_gen.specs.Draws.{next_state, state_after, draw}
use Rattle.work_gen.specs.Workload.{point_line}
use Rattle.work_gen.specs.Progress.{lines_at}
use Rattle.work_gen.specs.declared.script.Stage.TheVariants.{Point, Segment}

-- steps after steps
pub state_after-add : (a b s : ℕ) → state_after (a + b) s ≡ state_after a (state_after b s)
state_after-add zero b s = let e : zero + b ≡ b = omega arith in rw e refl
state_after-add (suc a) b s =
    let e : suc a + b ≡ suc (a + b) = omega arith in rw e (ap next_state (state_after-add a b s))

-- seven draws a turn
pub state_after-turn : (turns s : ℕ) → state_after ((turns + 1) * 7) s ≡ state_after (turns * 7) (state_after 7 s)
state_after-turn turns s =
    let e : (turns + 1) * 7 ≡ turns * 7 + 7 = omega arith in rw e (state_after-add (turns * 7) 7 s)

-- where a turn of inserts begins, its two lines come and then those of the turns after it
pub lines_at-point : (later n s : ℕ)
    → lines_at (Point later) n s ≡ point_line (draw 1 s) (draw 2 s) (draw 3 s) ∷ lines_at (Segment later) n (state_after 3 s)
lines_at-point later n s = rw (state_after-turn later s, add-one) refl
