use Rattle.std.proofs.Common.{sym, ap, ◌∙◌}
use Rattle.std.specs.FinMap as map
use Rattle.std.specs.Option.{option_copied}
use Rattle.page_pool.specs.Images.{is_shown}
use Rattle.page_pool.proofs.past.Replaced.is_shown.Goals as goal

-- the ordered map has what lies in the place
pub returns-in-Some : goal.returns-in-Some
returns-in-Some c = λ is.
    ap (is_shown c.args.n c.args.at) (sym (ap (λ m. map.get m c.args.place) c.self.view_is) ∙ c.self.invariant c.args.place _ (sym (sym (ap option_copied c.in-Some.is) ∙ c.get.ensures)))
    ∙ sym c.is_shown.ensures ∙ is
