-- A step of a run, as its contract says it.
use Rattle.std.proofs.Common.{◌≡◌, ℕ, ◌+◌, ◌<◌, ◌≤◌, Bool, true, false, cond, ◌∷◌, sym, ◌∙◌, ap, subst, arith}
use Rattle.std.specs.Prelude.{Option, None, Some, Result, Ok, Err}
use Rattle.sand_base.specs.Faults.{next_count}
use Rattle.page_pool.specs.declared.fault.PageFault.{PageFault}
use Rattle.page_pool.specs.Pool.{PoolState}
use Rattle.page_pool.specs.Causes.{HasPageCause}
use Rattle.page_pool.specs.Steps.{HasPageCause-done}
use Rattle.code_btree.specs.declared.steps.Spot.{Spot}
use Rattle.code_btree.specs.Node.{Pair}
use Rattle.code_btree.specs.Tree.{Store, pages_in}
use Rattle.code_btree.specs.Calls.{Peeks}
use Rattle.code_btree.specs.Run.{pairs_to_come, least_left, StandsAt, RunsOn, step_gets, keys_left}
use Rattle.code_btree.specs.Chain.{IsGiven, IsStep}
use Rattle.code_btree.proofs.Stores.{same_store}

least_begun : (s : Spot) (k : ℕ) → s.begun ≡ true → s.from ≡ k → least_left s ≡ k + 1
least_begun s k b f = ap (λ (x : Bool). cond x (s.from + 1) s.from) b ∙ ap (λ (x : ℕ). x + 1) f

pub given_by : (old : PoolState) (s : Spot) (r : Option (Pair × Spot)) (e : Pair) (after : Spot) → r ≡ Some (e, after) → IsStep old s r → IsGiven old s (e, after)
given_by old s r e after i h = let P : Option (Pair × Spot) → Type 0 = λ x. IsStep old s x in subst P i h

-- a pair came
pub run_gave : {T : Type 0} (old new : PoolState) (s after : Spot) (e : Pair) (o : Result Bool PageFault) (x : T) → o ≡ Ok false → IsGiven old s (e, after)
    → Peeks old new (step_gets s) (Ok x) → (s.begun ≡ false → next_count old.gets ≤ new.gets)
    → RunsOn (record { pool = old; spot = s; outcome = o }) (Some e) (record { pool = new; spot = after; outcome = o })
run_gave old new s after e o x ok h p some =
    let same : pages_in new ≡ pages_in old = same_store new old p.read.pages in
    let H : Result Bool PageFault → Type 0 = λ y. HasPageCause old new y in
    let S : Store → Type 0 = λ m. StandsAt m after in
    record {
      steps = λ z. record {
        given = λ told. (h.told told).0 ∙ ap (λ (m : Store). e ∷ pairs_to_come m after) (sym same);
        rises = (h.least, least_begun after e.0 h.begun h.from);
        goes_on = (ok, h.begun);
        ended = λ n. absurd (cc);
        exhausted = λ t. absurd (let f : Ok true ≡ Ok false = sym t ∙ ok in cc);
        tree = h.tree;
        read = p.read;
        gets = p.within;
        up = p.up;
        some = λ b. let Q : Result Bool PageFault → Type 0 = λ y. Rattle.std.specs.Prelude.OnOk y (next_count old.gets ≤ new.gets) in subst Q (sym ok) (some b);
        cause = subst H (sym ok) (HasPageCause-done old new false p.cause.counted);
        can = λ told _. subst S (sym same) (h.told (sym p.read.told ∙ told)).1;
      };
      rests = λ z. absurd (z ok);
    }

-- each pair lessens the keys that are left
pub fewer_left : (old : PoolState) (s after : Spot) (e : Pair) → IsGiven old s (e, after) → keys_left after < keys_left s
fewer_left old s after e h = omega (arith, h.least, h.small, least_begun after e.0 h.begun h.from)
