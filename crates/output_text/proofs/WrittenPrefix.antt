-- A text that is written piece by piece.
use Rattle.std.proofs.Common.{◌≡◌, ℕ, ◌+◌, ◌-◌, ◌≤◌, List, ◌++◌, length, take, drop, subst, sym, ap, ◌∙◌, append_assoc, arith, length-drop, take-append-drop}
use Rattle.std.proofs.Math.Seq.{take-add}
use Rattle.std.proofs.lemmas.List.{take_rest}
use Rattle.sand_base.specs.Streams.{Adds, Stays}
use Rattle.output_text.specs.Writing.{AddsPrefix}

-- the prefix of the text up to a place was taken, and no write failed
pub record WrittenPrefix (at : ℕ) (text : List ℕ) (before now : List ℕ → Type 0) (faults faults' : ℕ) : Type 0 where
  pub within : at ≤ length text
  pub taken : Adds before now (take at text)
  pub no_fault : faults' ≡ faults

-- two texts that were added one after the other
pub Adds-trans : (before mid now : List ℕ → Type 0) (a b : List ℕ) → Adds before mid a → Adds mid now b → Adds before now (a ++ b)
Adds-trans before mid now a b first second =
    λ bytes taken. subst now (append_assoc bytes a b) (second (bytes ++ a) (first bytes taken))

-- a write takes some of the rest of the text, so that the prefix grows by it
pub WrittenPrefix-grows : (at n : ℕ) (text : List ℕ) (before mid now : List ℕ → Type 0) (f f' f'' : ℕ)
    → WrittenPrefix at text before mid f f' → n ≤ length (take (length text - at) (drop at text))
    → Adds mid now (take n (take (length text - at) (drop at text))) → f'' ≡ f' → WrittenPrefix (at + n) text before now f f''
WrittenPrefix-grows at n text before mid now f f' f'' prefix fits added same =
    let rest = take_rest text at in
    let within : at + n ≤ length text = omega (arith, ap length rest, length-drop at text, prefix.within, fits) in
    let added' : Adds mid now (take n (drop at text)) = subst (λ (r : List ℕ). Adds mid now (take n r)) rest added in
    record {
      within = within;
      taken = subst (Adds before now) (sym (take-add at n text)) (Adds-trans before mid now _ _ prefix.taken added');
      no_fault = same ∙ prefix.no_fault;
    }

-- the prefix that was taken stays when a write fails
pub AddsPrefix-stop : (at : ℕ) (text : List ℕ) (before mid now : List ℕ → Type 0) → Adds before mid (take at text) → Stays mid now
    → AddsPrefix before now text
AddsPrefix-stop at text before mid now added stays = record {
  prefix = take at text;
  rest = drop at text;
  same = sym (take-append-drop at text);
  written = λ bytes taken. stays (bytes ++ take at text) (added bytes taken);
}
