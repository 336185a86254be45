use Rattle.std.proofs.Common.{sym, ◌∙◌}
use Rattle.elf_image.specs.Sections.{section_header, section_headers, is_section}
use Rattle.elf_image.proofs.Finding.{find_here, find_later, find_none}
use Rattle.elf_image.proofs.section.named_section.Goals as goal

pub loop-number-preserved : goal.loop-number-preserved
loop-number-preserved c =
    let file = c.args.file.now in
    let later = find_later (is_section file c.args.name.now) (section_header file) c.loop-number.number c.u16_at-count.result c.loop-number-test.true
    (rw (← c.section_header-header.ensures) (sym c.is_section.ensures ∙ c.if-is_section.false)) in
    sym later ∙ c.loop-number.invariant

pub returns-then-is_section : goal.returns-then-is_section
unfolding section_headers
returns-then-is_section c =
    let file = c.args.file.now in
    let here = find_here (is_section file c.args.name.now) (section_header file) c.loop-number.number c.u16_at-count.result c.loop-number-test.true
    (rw (← c.section_header-header.ensures) (sym c.is_section.ensures ∙ c.if-is_section.true)) in
    rw (c.requires.sound, c.section_header-header.ensures, ← c.u16_at-count.ensures) (sym here ∙ c.loop-number.invariant)

pub returns : goal.returns
unfolding section_headers
returns c =
    let file = c.args.file.now in
    let none = find_none (is_section file c.args.name.now) (section_header file) c.loop-number.number c.u16_at-count.result c.loop-number-test.false in
    rw (c.requires.sound, ← c.u16_at-count.ensures) (sym none ∙ c.loop-number.invariant)
