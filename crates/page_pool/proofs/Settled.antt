-- Maps of stamps after writings: the same ones, and writings that add up.
use Rattle.std.proofs.Common.{◌≡◌, Bool, true, false, refl, sym, ap, subst, ◌∙◌, Some, is_some}
use mathlib.Core.Bool.{true≢false}
use Rattle.std.specs.FinMap as map
use Rattle.std.specs.FinSet as set
use Rattle.sha2.specs.Sha256.{sha256}
use Rattle.page_pool.specs.Pool.{PoolState, Shown}
use Rattle.page_pool.specs.Commands.{Settles, SettlesStamps}
use Rattle.page_pool.proofs.Whole.{some_is}
use Rattle.page_pool.proofs.Seen.{some_one}

-- a test is true or false
pub by_test : (b : Bool) (P : Type 0) → (b ≡ true → P) → (b ≡ false → P) → P
by_test true P at_true at_false = at_true refl
by_test false P at_true at_false = at_false refl

-- a map of which nothing was written
pub Settles-refl : (told : Bool) (m : Shown) → Settles told m m
Settles-refl told m = record {
  pages = λ _. refl;
  lives = λ q. refl;
  dirty = λ q d. d;
  written = λ q bytes there d clean. absurd (true≢false (sym d ∙ clean));
  waiting = λ q d. refl;
  clean = λ q live clean. (refl, refl);
}

-- two writings of a map are one
pub Settles-trans : (told : Bool) (a b c : Shown) → Settles told a b → Settles told b c → Settles told a c
Settles-trans told a b c h k = record {
  pages = λ tells. k.pages tells ∙ h.pages tells;
  lives = λ q. k.lives q ∙ h.lives q;
  dirty = λ q d. h.dirty q (k.dirty q d);
  written = λ q bytes there d clean. by_test (set.contains b.dirty q) (map.get c.kept q ≡ Some (sha256 bytes))
      (λ still. k.written q bytes (h.waiting q still ∙ there) still clean)
      (λ done. (k.clean q (h.lives q ∙ ap is_some there) done).1 ∙ h.written q bytes there d done);
  waiting = λ q d. k.waiting q d ∙ h.waiting q (k.dirty q d);
  clean = λ q live clean. by_test (set.contains b.dirty q) ((map.get c.pages q ≡ map.get a.pages q) × (map.get c.kept q ≡ map.get a.kept q))
      (λ still. absurd (true≢false (sym (h.dirty q still) ∙ clean)))
      (λ done. let later = k.clean q (h.lives q ∙ live) done in let before = h.clean q live clean in (later.0 ∙ before.0, later.1 ∙ before.1));
}

-- the same maps of the same stamps
pub stamps_same : (old new : PoolState) → new.stamps ≡ old.stamps → SettlesStamps old new
stamps_same old new is = record {
  held = λ id. ap (λ m. map.contains_key m id) is;
  settles = λ id a b before after. subst (Settles old.disk.told a) (some_one a b (sym before ∙ sym (ap (λ m. map.get m id) is) ∙ after)) (Settles-refl old.disk.told a);
}

-- two writings of the stamps' maps are one
pub stamps_both : (a b c : PoolState) → b.disk.told ≡ a.disk.told → SettlesStamps a b → SettlesStamps b c → SettlesStamps a c
stamps_both a b c same h k = record {
  held = λ id. k.held id ∙ h.held id;
  settles = λ id x z before after.
      let mid = some_is (map.get b.stamps id) (h.held id ∙ ap is_some before) in
      Settles-trans a.disk.told x mid.0 z (h.settles id x mid.0 before mid.1) (subst (λ t. Settles t mid.0 z) same (k.settles id mid.0 z mid.1 after));
}
