-- How a disk is seen that keeps its pages in memory or in a file, and what its calls are refused for.
use Rattle.std.specs.Prelude.{ℕ, List, Bool, true, false}
use Rattle.std.specs.FinMap as map
use Rattle.page_pool.specs.Disk.{DiskView}
use Rattle.page_pool.specs.declared.disk.DiskFault.{DiskFault}
use Rattle.page_pool.specs.declared.disk.DiskFault.TheVariants as fault
use Rattle.file_adapters.specs.declared.kept.Kept.{Kept}
use Rattle.file_adapters.specs.declared.kept.Kept.TheVariants.{Memory, File}

-- the disk that last gave this page, after so many faults: in memory it tells its pages, in a file none
abbrev pub seen_as : {F : Type 0} → Kept F → List ℕ → ℕ → DiskView
seen_as (Memory disk) given faults = record { told = true; pages = disk.pages; given = given; faults = faults }
seen_as (File file) given faults = record { told = false; pages = map.empty; given = given; faults = faults }

-- the disk with no page, which tells its pages from now on or doesn't
abbrev pub emptied : Bool → DiskView → DiskView
emptied told disk = record disk { told = told; pages = map.empty }

-- what a page's reading or writing can be refused for: memory where the disk tells its pages, and else a fault of the file
abbrev pub fault_where : Bool → DiskFault
fault_where true = fault.Memory
fault_where false = fault.Failed
