-- The status of a run.
use Rattle.std.specs.Prelude.{ℕ, ◌==◌, nat_lt, if◌then◌else◌, length}
use Rattle.run_record.specs.declared.finished.Finished.{Finished}
use Rattle.run_record.specs.declared.finished.GuestEnd.{GuestEnd}
use Rattle.run_record.specs.declared.finished.GuestEnd.TheVariants.{Exit, Fault, AllEnded, Budget}

-- of a run without reports
abbrev pub end_status : GuestEnd → ℕ
end_status (Exit n) = if n == 0 then 0 else 1
end_status (Fault k pc tid) = 9
end_status AllEnded = 0
end_status Budget = 8

abbrev pub status_of : Finished → ℕ
status_of f = if nat_lt 0 (length f.reports) then 66 else end_status f.last.end
