-- How a call ends that passes on the refusal of another one.
use Rattle.std.proofs.Common.{◌≡◌, Option, Some, Result, Ok, Err, IsErr, IsErrAnd, sym, ap, subst}
use Rattle.pmr_tree.specs.Leaves.{fault_of}

-- a call that passes on a refusal ends as the call that was refused
pub passed_on : {T E : Type 0} (r : Result T E) (e : E) (Ends : Option E → Type 0) → IsErr r × IsErrAnd r (λ f. f ≡ e) → Ends (Some e) → Ends (fault_of r)
passed_on (Ok x) e Ends h end = absurd h.1
passed_on (Err f) e Ends h end = subst Ends (ap Some (sym h.1)) end

-- the same where it is known which refusal it was
pub passed_as : {T E : Type 0} (r : Result T E) (e why : E) (Ends : Option E → Type 0) → IsErr r × IsErrAnd r (λ f. f ≡ e) → e ≡ why → Ends (Some why) → Ends (fault_of r)
passed_as r e why Ends h is end = passed_on r e Ends h (subst (λ f. Ends (Some f)) (sym is) end)
