use Rattle.std.proofs.Common.{◌∙◌, inr}
use Rattle.elf_image.proofs.Loaded.{refused_header, refused_segments}
use Rattle.elf_image.proofs.loading.load.Goals as goal

pub returns-in-Some-clause-refused : goal.returns-in-Some-clause-refused
returns-in-Some-clause-refused c = inr (refused_header c.args.bytes.now c.in-Some.fault c.in-Some.ensures.value)

pub returns-in-Some-segment_fault-clause-refused : goal.returns-in-Some-segment_fault-clause-refused
returns-in-Some-segment_fault-clause-refused c =
    inr (refused_segments c.args.bytes.now c.as_slice.result.now c.in-Some-segment_fault.fault
    c.in_default.ensures.value (c.as_slice.ensures.value ∙ c.in_ok-segments.ensures.items) c.in-Some-segment_fault.ensures.value)
