use Rattle.std.proofs.Common.{List}
use Rattle.elf_image.specs.File.{granule_of}
use Rattle.run_record.specs.declared.entry.Entry.{Entry}
use Rattle.run_laws.specs.Moments.{moments, items}
use Rattle.offline_audit.specs.Orders.{IsOrderOf}
use Rattle.offline_audit.specs.Pairs.{AreRisingPairs}
use Rattle.offline_audit.specs.Groups.{AreChains, AreFound}
use Rattle.offline_audit.proofs.races.compare_all.Given as goal

-- the pairs of the groups so far are found
abbrev pub invariant-loop-n : goal.invariant-loop-n
invariant-loop-n l =
    AreRisingPairs l.found.items
    × ((entries : List Entry) → IsOrderOf entries l.order → AreChains (items (moments entries)) entries l.groups → AreFound (granule_of l.image) entries l.groups l.n l.found.items)
