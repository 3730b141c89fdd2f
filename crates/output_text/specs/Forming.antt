-- A text that is formed part by part behind what a buffer holds: some of it is written, and the buffer holds the rest.
use Rattle.std.specs.Prelude.{◌≡◌, ℕ, List, ◌++◌}
use Rattle.sand_base.specs.Streams.{Adds}
use Rattle.output_text.specs.Writing.{AddsPrefix}

-- of the bytes that were held and the text behind them, all were written but those that are held now
pub record Forms (before now : List ℕ → Type 0) (old new text : List ℕ) : Type 0 where
  pub out : List ℕ
  pub same : old ++ text ≡ out ++ new
  pub written : Adds before now out

-- a text of which P holds was formed
pub record FormsSome (P before now : List ℕ → Type 0) (old new : List ℕ) : Type 0 where
  pub text : List ℕ
  pub holds : P text
  pub formed : Forms before now old new text

-- a prefix of the bytes that were held and of a text of which P holds was written
pub record BreaksSome (P before now : List ℕ → Type 0) (old : List ℕ) : Type 0 where
  pub text : List ℕ
  pub holds : P text
  pub prefix : AddsPrefix before now (old ++ text)
