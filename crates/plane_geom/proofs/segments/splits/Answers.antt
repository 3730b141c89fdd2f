-- The ends lie on the two sides where their cross products are opposed.
use Rattle.std.proofs.Common.{◌≡◌, ℤ, subst, lit<}
use Rattle.exact_frac.specs.declared.TheConstants.{MAX_DEN}
use Rattle.plane_geom.specs.Crossing.{AreOpposed}
use Rattle.plane_geom.proofs.segments.splits.Goals as goal
use Rattle.plane_geom.proofs.SignedWords.{word_is}

-- equal integers are opposed alike
alike : {P : Type 0} (x y d f : ℤ) → x ≡ d → y ≡ f → (P → AreOpposed x y) × (AreOpposed x y → P) → (P → AreOpposed d f) × (AreOpposed d f → P)
alike {P} x y d f e g h =
    subst (λ t. (P → AreOpposed d t) × (AreOpposed d t → P)) g (subst (λ t. (P → AreOpposed t y) × (AreOpposed t y → P)) e h)

-- the two words are the cross products
pub returns : goal.returns
returns c =
    alike _ _ _ _
    (word_is _ _ MAX_DEN c.cross.ensures.value c.cross.ensures.short (lit< tt))
    (word_is _ _ MAX_DEN c.cross-2.ensures.value c.cross-2.ensures.short (lit< tt))
    c.are_opposed.ensures
