use Rattle.std.proofs.Common.{◌≡◌, ◌*◌, ◌^◌, ◌≤◌, take}
use Rattle.std.specs.List.{sum_by}
use Rattle.elf_image.specs.File.{writable_bytes, other_bytes}
use Rattle.elf_image.proofs.loading.needs_too_much.Given as goal

abbrev pub invariant-loop-segment : goal.invariant-loop-segment
invariant-loop-segment l = record {
  writable : l.writable ≡ sum_by writable_bytes (take l.segment-index l.segments);
  other : l.other ≡ sum_by other_bytes (take l.segment-index l.segments);
  writable_fits : l.writable ≤ l.segment-index * 2 ^ 41;
  other_fits : l.other ≤ l.segment-index * 2 ^ 41;
}
