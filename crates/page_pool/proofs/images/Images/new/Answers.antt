use Rattle.std.proofs.Common.{sym, subst}
use Rattle.page_pool.specs.Images.{images_of, IsImages}
use Rattle.page_pool.proofs.Moves.{empty_images}
use Rattle.page_pool.proofs.images.Images.new.Goals as goal

pub invariant_of-result : goal.invariant_of-result
invariant_of-result c = subst IsImages (λ i. images_of (sym c.new.ensures i) (sym c.new-2.ensures i) (sym c.new-3.ensures i) 0 0 0) empty_images
