-- Checks one after another.
use Rattle.std.proofs.Common.{◌≡◌, [], ◌∷◌, Option, Some, None, refl, sym, ◌∙◌, ap}
use Rattle.std.specs.Prelude.{Result, Ok, Err}
use Rattle.std.specs.Result.{result_err}
use Rattle.sand_base.specs.declared.refusal.Refusal.{Refusal}
use Rattle.sand_model.specs.Checks.{first_refusal}

-- one check alone
pub alone : (a : Option Refusal) → first_refusal (a ∷ []) ≡ a
alone None = refl
alone (Some w) = refl

-- the first of two fails
pub first_fails : (w : Refusal) (a b : Option Refusal) → Some w ≡ a → Some w ≡ first_refusal (a ∷ b ∷ [])
first_fails w a b e = ap (λ (o : Option Refusal). first_refusal (o ∷ b ∷ [])) e

-- the first of two passes, so the second decides
pub first_passes : (a b c : Option Refusal) → None ≡ a → c ≡ b → c ≡ first_refusal (a ∷ b ∷ [])
first_passes a b c e f = f ∙ (sym (alone b) ∙ ap (λ (o : Option Refusal). first_refusal (o ∷ b ∷ [])) e)

-- the last two of three as one
pub last_two : (a b c : Option Refusal) → first_refusal (a ∷ first_refusal (b ∷ c ∷ []) ∷ []) ≡ first_refusal (a ∷ b ∷ c ∷ [])
last_two (Some w) b c = refl
last_two None b c = alone (first_refusal (b ∷ c ∷ []))

-- the first of two stops with its refusal, which `?` hands on
pub first_stops : (r s : Result (Unit {0}) Refusal) (v w : Refusal) (a b : Option Refusal) → r ≡ Err w → s ≡ Err v → v ≡ w → result_err r ≡ a → result_err s ≡ first_refusal (a ∷ b ∷ [])
first_stops r s v w a b first stops same means =
    let kept : result_err s ≡ a = ap result_err stops ∙ (ap (λ (x : Refusal). Some x) same ∙ (sym (ap result_err first) ∙ means)) in
    kept ∙ (sym (sym (ap result_err first) ∙ means) ∙ first_fails w a b (sym (ap result_err first) ∙ means))

-- the first of two goes on, so the second decides
pub second_decides : (r s : Result (Unit {0}) Refusal) (u : Unit {0}) (a b : Option Refusal) → r ≡ Ok u → result_err r ≡ a → result_err s ≡ b → result_err s ≡ first_refusal (a ∷ b ∷ [])
second_decides r s u a b first means next = first_passes a b (result_err s) (sym (ap result_err first) ∙ means) next
