use Rattle.std.proofs.Common.{true, Some, sym, ap, ◌∙◌}
use Rattle.std.specs.FinMap as map
use Rattle.page_pool.proofs.Maps.{get-from_entries}
use Rattle.page_pool.proofs.sure_disk.SureDiskDisk.read_page.Goals as goal

pub returns : goal.returns
returns c = record {
  value = λ told. ap (λ s. map.get s.pages c.args.n) (sym c.self.view_is) ∙ get-from_entries c.args.n _ ∙ sym c.in-Some.ensures.value ∙ ap (λ page. Some page) (sym c.bytes.ensures);
  after = λ i. record { told = true; pages = (c.self.view_is i).pages; given = (c.bytes-2.ensures ∙ sym c.bytes.ensures) i; faults = 0 };
}
