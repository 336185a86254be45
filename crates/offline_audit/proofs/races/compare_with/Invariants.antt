use Rattle.std.proofs.Common.{List}
use Rattle.elf_image.specs.File.{granule_of}
use Rattle.run_record.specs.declared.entry.Entry.{Entry}
use Rattle.run_laws.specs.Moments.{moments, items}
use Rattle.offline_audit.specs.Orders.{IsOrderOf}
use Rattle.offline_audit.specs.Pairs.{AreRisingPairs}
use Rattle.offline_audit.specs.Chains.{IsChain}
use Rattle.offline_audit.specs.Groups.{AreChains, AreCompared}
use Rattle.offline_audit.proofs.races.compare_with.Given as goal

-- the groups so far are compared
abbrev pub invariant-loop-other : goal.invariant-loop-other
invariant-loop-other l =
    AreRisingPairs l.found.items
    × ((entries : List Entry) → IsOrderOf entries l.order → IsChain (items (moments entries)) entries l.one.names → AreChains (items (moments entries)) entries l.later →
    AreCompared (granule_of l.image) entries l.one l.later l.other-index l.initial.found.items l.found.items)
