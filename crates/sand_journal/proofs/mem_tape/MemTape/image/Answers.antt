use Rattle.std.proofs.Common.{◌≡◌, ◌-◌, ℕ, List, length, sym, subst, rules}
use Rattle.sand_journal.specs.MemTape.{held_by, image_of, IsLeft}
use Rattle.sand_journal.proofs.Tapes.{fewer_is_torn}
use Rattle.sand_journal.proofs.mem_tape.MemTape.image.Goals as goal

-- a write that isn't carried out is one that a crash cut short
pub returns-clause-left : goal.returns-clause-left
returns-clause-left c =
    let is : c.in_ok-image.image.items ≡ image_of (held_by c.args.self.now) c.args.writes = search rules in
    subst (λ (l : List ℕ). IsLeft (held_by c.args.self.now) l) (sym is)
    (fewer_is_torn (held_by c.args.self.now).base (held_by c.args.self.now).writes (length (held_by c.args.self.now).writes - c.args.writes))
