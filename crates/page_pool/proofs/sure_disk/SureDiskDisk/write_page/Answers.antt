use Rattle.std.proofs.Common.{◌≡◌, Some, refl, ap, ◌∙◌}
use Rattle.std.specs.FinMap as map
use Rattle.page_pool.proofs.Maps.{of_entries, inserted, get-insert_same, get-insert_other}
use Rattle.page_pool.proofs.sure_disk.SureDiskDisk.write_page.Goals as goal

pub returns : goal.returns
returns c =
    let pages = inserted c.self.inside.pages c.insert.new.self c.args.n c.in_ok-copy.copy c.in_ok-insert.ensures.updates in
    let old_pages : of_entries c.self.inside.pages.entries ≡ c.args.self.now.pages = ap (λ s. s.pages) c.self.view_is in
    record {
      written = λ told. ap (λ m. map.get m c.args.n) pages ∙ get-insert_same _ c.args.n _ ∙ ap (λ page. Some page) c.in_ok-copy.ensures;
      others = λ told q apart. ap (λ m. map.get m q) pages ∙ get-insert_other _ c.args.n _ q apart ∙ ap (λ m. map.get m q) old_pages;
      told = refl;
      given = ap (λ s. s.given) c.self.view_is;
      counted = refl;
    }
