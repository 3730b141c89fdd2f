-- Numbers drawn from a linear congruential generator.
-- After D. H. Lehmer (1951); the multiplier and the increment are those of the C standard's example of rand.
use Rattle.std.specs.Prelude.{ℕ, zero, suc, ◌+◌, ◌*◌, ◌/◌, ◌%◌, ◌^◌}

-- the state that follows this one
unfoldable pub next_state : ℕ → ℕ
next_state s = (1103515245 * s + 12345) % 2 ^ 31

-- the state after so many steps
abbrev pub state_after : ℕ → ℕ → ℕ
state_after zero s = s
state_after (suc k) s = next_state (state_after k s)

-- the number that a step to this state draws, from 0 to 65,535: its high 16 bits
abbrev pub drawn : ℕ → ℕ
drawn s = s / 2 ^ 15

-- the k-th draw from this state on
abbrev pub draw : ℕ → ℕ → ℕ
draw k s = drawn (state_after k s)
