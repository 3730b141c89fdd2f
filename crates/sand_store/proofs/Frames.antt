-- Pages that a change doesn't touch stay, and no page becomes one of two structures.
use Rattle.std.proofs.Common.{◌≡◌, ℕ, ◌+◌, ◌≤◌, List, arith}
use Rattle.code_btree.specs.Tree.{Store, times, live}
use Rattle.code_btree.specs.Calls.{Keeps}
use Rattle.code_btree.proofs.Lists.{live_small}

-- other pages of the same pool stay
pub untouched : (m w : Store) (a b r : List ℕ) → Keeps m w a b → ((q : ℕ) → times q a + times q r ≤ live m q) → (q : ℕ) → 1 ≤ times q r → w q ≡ m q
untouched m w a b r k owns q l = k.others q (omega (arith, owns q, live_small m q, l)) (omega (arith, owns q, live_small m q, l))

-- and the changed ones are none of them
pub owns_after : (m w : Store) (a b r : List ℕ) → Keeps m w a b → ((q : ℕ) → times q a + times q r ≤ live m q) → (q : ℕ) → times q b + times q r ≤ live w q
owns_after m w a b r k owns q = omega (arith, owns q, k.moved q)

-- a change is one of these pages among others that stay
pub keeps_with : (m w : Store) (a b r before after : List ℕ) → Keeps m w a b → ((q : ℕ) → times q before ≡ times q a + times q r)
    → ((q : ℕ) → times q after ≡ times q b + times q r) → Keeps m w before after
keeps_with m w a b r before after k f g = record {
  others = λ q l e. k.others q l (omega (arith, f q, e));
  gained = λ q l e. k.gained q (omega (arith, f q, g q, l, e)) (omega (arith, f q, e));
  lost = λ q l e. k.lost q (omega (arith, f q, g q, l, e)) (omega (arith, g q, e));
  moved = λ q. omega (arith, k.moved q, f q, g q);
}
