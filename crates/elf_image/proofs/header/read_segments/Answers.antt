use Rattle.std.proofs.Common.{arith}
use Rattle.std.proofs.lemmas.Grind.{common_steps}
use Rattle.std.proofs.lemmas.List.FromFn.{filter_of_map_range_with_len_more}
use Rattle.elf_image.specs.File.{header}
use Rattle.elf_image.specs.Headers.{takes_memory}
use Rattle.elf_image.proofs.header.read_segments.Goals as goal
use Rattle.elf_image.proofs.header.read_segments.Goals.{then-takes_memory+in_ok-push, else-takes_memory}

pub loop-index-preserved : goal.loop-index-preserved
loop-index-preserved c =
    let more = filter_of_map_range_with_len_more takes_memory (header c.args.bytes.now) 0 c.loop-index.index c.loop-index.index (omega arith) in
    elim c.if-takes_memory.branch [ then-takes_memory+in_ok-push w ↦ grind (arith, common_steps, more) | else-takes_memory w ↦ grind (arith, common_steps, more) ]
