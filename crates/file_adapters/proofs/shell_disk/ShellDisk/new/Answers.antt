use Rattle.std.proofs.Common.{true}
use Rattle.page_pool.specs.Pool.{zero_page}
use Rattle.file_adapters.proofs.shell_disk.ShellDisk.new.Goals as goal

-- the page given at first is a page of zeros
pub returns : goal.returns
unfolding zero_page
returns g c = λ i. record { told = true; pages = (c.new.ensures i).pages; given = zero_page; faults = 0 }
