-- The parts of an access that are left on a walk over its blocks of eight bytes.
use Rattle.std.specs.Prelude.{ℕ, ◌-◌, false, List, map, filter_map}
use Rattle.elf_image.specs.File.{granule_of}
use Rattle.run_laws.specs.Numbers.{up_from}
use Rattle.run_laws.specs.Accesses.{part_in}
use Rattle.race_core.specs.Walk.{pair_of, access}
use Rattle.race_core.specs.declared.parts.Parts.{Parts}

abbrev pub left_of : Parts → List (ℕ × ℕ)
left_of p = map pair_of (filter_map (part_in (granule_of p.image.now) (access 0 p.addr p.size false false)) (up_from p.next (p.end - p.next)))
