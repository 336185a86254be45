-- The numbers of the guest's faults.
use Rattle.std.specs.Prelude.{ℕ}
use Rattle.rv_exec.specs.declared.fault.GuestFault.{GuestFault}
use Rattle.rv_exec.specs.declared.fault.GuestFault.TheVariants.{Illegal, FetchOutside, Outside, ReadOnly, Misaligned, Break, UnknownCall, StackDeep}

abbrev pub number_of : GuestFault → ℕ
number_of Illegal = 1
number_of FetchOutside = 2
number_of Outside = 3
number_of ReadOnly = 4
number_of Misaligned = 5
number_of Break = 6
number_of UnknownCall = 7
number_of StackDeep = 8
