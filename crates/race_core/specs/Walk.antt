-- The parts of an access as pairs of a granule and a mask.
use Rattle.std.specs.Prelude.{ℕ, Bool, List, map}
use Rattle.elf_image.specs.File.{granule_of}
use Rattle.run_laws.specs.Accesses.{Access, Part, parts_of}

abbrev pub pair_of : Part → ℕ × ℕ
pair_of p = (p.granule, p.mask)

-- all parts of the access in the image of this file, by rising address
abbrev pub planned : List ℕ → Access → List (ℕ × ℕ)
planned file a = map pair_of (parts_of (granule_of file) a)

abbrev pub access : ℕ → ℕ → ℕ → Bool → Bool → Access
access place addr size read atomic = record { place = place; addr = addr; size = size; read = read; atomic = atomic }
