use Rattle.std.proofs.Common.{◌∙◌, ap, length}
use Rattle.std.proofs.lemmas.List.FromFn.{length-map-range_with_len}
use Rattle.elf_image.specs.File.{initial_word, granules_of}
use Rattle.bare_machine.specs.Memory.{GuestMemory}
use Rattle.bare_machine.proofs.machine.Machine.new.Goals as goal

pub returns-clause-memory : goal.returns-clause-memory
returns-clause-memory c =
    ap (λ (m : GuestMemory). length m.words) c.in_ok-new.ensures ∙ length-map-range_with_len (initial_word c.args.image.now) 0 (granules_of c.args.image.now)
