-- Gets that add up.
use Rattle.std.proofs.Common.{◌≡◌, ℕ, ◌+◌, ◌≤◌, refl, subst, arith}
use Rattle.std.specs.Prelude.{Result, Ok, Err, OnOk}
use Rattle.sand_base.specs.Faults.{next_count}
use Rattle.page_pool.specs.declared.fault.PageFault.{PageFault}
use Rattle.page_pool.specs.declared.fault.PageFault.TheVariants.{Memory}
use Rattle.page_pool.specs.Pool.{PoolState}
use Rattle.page_pool.specs.Reads.{Gets}
use Rattle.page_pool.specs.Steps.{IsRead-refl, IsRead-trans, HasPageCause-before, HasPageCause-passed, HasPageCause-memory, HasPageCause-done}
use Rattle.code_btree.specs.Calls.{Looks, Peeks}

pub next_small : (n : ℕ) → next_count n ≤ n + 1
next_small n = omega arith

pub next_mono : (a b : ℕ) → a ≤ b → next_count a ≤ next_count b
next_mono a b h = omega arith

-- a refusal before any get
pub looks_refused : {T : Type 0} (a : PoolState) (k : ℕ) → Looks {T = T} a a k (Err Memory)
looks_refused a k = record { read = IsRead-refl a; within = omega arith; up = omega arith; some = tt; cause = HasPageCause-memory a a refl }

-- one get, accepted
pub looked : {T U : Type 0} (a b : PoolState) (n : ℕ) (x : T) (y : U) → Gets a b n (Ok x) → Looks a b 1 (Ok y)
looked a b n x y g = record {
  read = g.read;
  within = omega (arith, g.gets, next_small a.gets);
  up = omega (arith, g.gets);
  some = omega (arith, g.gets);
  cause = HasPageCause-done a b y g.cause.counted;
}

-- one get, refused
pub looks_failed : {T U : Type 0} (a b : PoolState) (n : ℕ) (why : PageFault) → Gets {T = T} a b n (Err why) → Looks {T = U} a b 1 (Err why)
looks_failed {T = T} {U = U} a b n why g = record {
  read = g.read;
  within = omega (arith, g.gets, next_small a.gets);
  up = omega (arith, g.gets);
  some = tt;
  cause = HasPageCause-passed {T = T} {U = U} a b why g.cause;
}

-- fewer gets than allowed
pub looks_more : {T : Type 0} (a b : PoolState) (k l : ℕ) (r : Result T PageFault) → k ≤ l → Looks a b k r → Looks a b l r
looks_more a b k l r h g = record { read = g.read; within = omega (arith, g.within); up = g.up; some = g.some; cause = g.cause }

-- a refusal passed on
pub looks_passed : {T U : Type 0} (a b : PoolState) (k : ℕ) (why : PageFault) → Looks {T = T} a b k (Err why) → Looks {T = U} a b k (Err why)
looks_passed {T = T} {U = U} a b k why g = record { read = g.read; within = g.within; up = g.up; some = tt; cause = HasPageCause-passed {T = T} {U = U} a b why g.cause }

-- one answer for another
pub looks_given : {T U : Type 0} (a b : PoolState) (k : ℕ) (x : T) (y : U) → Looks a b k (Ok x) → Looks a b k (Ok y)
looks_given a b k x y g = record { read = g.read; within = g.within; up = g.up; some = g.some; cause = HasPageCause-done a b y g.cause.counted }

-- gets after gets
pub looks_then : {T U : Type 0} (a b c : PoolState) (k l : ℕ) (x : T) (r : Result U PageFault) → Looks a b k (Ok x) → Looks b c l r → OnOk r (next_count a.gets ≤ c.gets) → Looks a c (k + l) r
looks_then a b c k l x r g h some = record {
  read = IsRead-trans a b c g.read h.read;
  within = omega (arith, g.within, h.within);
  up = omega (arith, g.up, h.up);
  some = some;
  cause = HasPageCause-before a b c r g.cause.counted h.cause;
}

-- gets, and then further ones or none
pub looks_peek : {T U : Type 0} (a b c : PoolState) (k l : ℕ) (x : T) (y : U) → Looks a b k (Ok x) → Peeks b c l (Ok y) → Looks a c (k + l) (Ok y)
looks_peek a b c k l x y g h = record {
  read = IsRead-trans a b c g.read h.read;
  within = omega (arith, g.within, h.within);
  up = omega (arith, g.up, h.up);
  some = omega (arith, g.some, h.up);
  cause = HasPageCause-before a b c (Ok y) g.cause.counted h.cause;
}

-- no get at all
pub peeks_none : {T : Type 0} (a : PoolState) (k : ℕ) (x : T) → Peeks a a k (Ok x)
peeks_none a k x = record { read = IsRead-refl a; within = omega arith; up = omega arith; cause = HasPageCause-done a a x refl }

pub looks_peeks : {T : Type 0} (a b : PoolState) (k : ℕ) (r : Result T PageFault) → Looks a b k r → Peeks a b k r
looks_peeks a b k (Ok x) g = record { read = g.read; within = g.within; up = g.up; cause = g.cause }
looks_peeks a b k (Err e) g = record { read = g.read; within = g.within; up = g.up; cause = g.cause }

-- one get, whose answer was this
pub peeked : {T U : Type 0} (a b : PoolState) (n : ℕ) (x : T) (y : U) (r : Result T PageFault) → r ≡ Ok x → Gets a b n r → Peeks a b 1 (Ok y)
peeked {T = T} a b n x y r e g =
    let G : Result T PageFault → Type 0 = λ q. Gets a b n q in
    looks_peeks a b 1 (Ok y) (looked a b n x y (subst G e g))
