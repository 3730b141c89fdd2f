-- Steps of a cursor of the model under a weaker rule of what may be refused.
use Rattle.std.proofs.Common.{inl, inr, ℕ, zero, suc, List}
use Rattle.sand_base.specs.declared.refusal.Refusal.{Refusal}
use Rattle.sand_model.specs.Cursor.{Cursor, OutputLine, Steps}
use Rattle.sand_model.specs.Measure.{Measure}

pub steps_allowed : (gap : Measure) (may more : Refusal → Type 0) → ((refusal : Refusal) → may refusal → more refusal) → (n : ℕ) (c : Cursor) (lines : List OutputLine) (after : Cursor)
    → Steps gap may n c lines after → Steps gap more n c lines after
steps_allowed gap may more h zero c lines after steps = steps
steps_allowed gap may more h (suc n) c lines after (inl row) =
    inl (row.0, row.1, row.2, row.3, row.4, steps_allowed gap may more h n row.1 row.2 after row.5)
steps_allowed gap may more h (suc n) c lines after (inr (inl end)) = inr (inl end)
steps_allowed gap may more h (suc n) c lines after (inr (inr refused)) = inr (inr (refused.0, h refused.0 refused.1, refused.2, refused.3))
