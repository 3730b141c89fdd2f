-- Room that was taken for all pairs of two lists lasts until the last one is added.
use Rattle.std.proofs.Common.{◌≡◌, ℕ, ◌+◌, ◌*◌, ◌<◌, ◌≤◌, arith}
use Rattle.std.proofs.Math.Nat.{mul-le-mul_right}

-- at first for all of them
pub room_for_all : (len cap m n : ℕ) → len + m * n ≤ cap → len + m * n ≤ cap + 0 * n
room_for_all len cap m n room = omega arith

-- for those of the next left one
pub room_for_one : (len cap m n i : ℕ) → len + m * n ≤ cap + i * n → i < m → len + n ≤ cap
room_for_one len cap m n i room below =
    let rows : (i + 1) * n ≤ m * n = mul-le-mul_right n (omega arith) in
    omega arith

-- and then for those of the others
pub room_for_others : (len cap new same m n i : ℕ) → len + m * n ≤ cap + i * n → new ≤ len + n → same ≡ cap → new + m * n ≤ same + (i + 1) * n
room_for_others len cap new same m n i room added kept = omega arith
