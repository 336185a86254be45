use Rattle.std.proofs.Common.{◌≡◌, false, sym, ◌∙◌, arith}
use Rattle.std.proofs.lemmas.Bool.Decides.{nat_tests}
use Rattle.elf_image.specs.Sections.{section_header, is_symbol_table}
use Rattle.elf_image.proofs.Finding.{find_later}
use Rattle.elf_image.proofs.section.symbol_section.Goals as goal
use Rattle.elf_image.proofs.section.symbol_section.Goals.{else-is_readable-via-then-is_readable+else-header-eq-SHT_SYMTAB, else-is_readable-via-else-is_readable}

pub loop-number-preserved : goal.loop-number-preserved
loop-number-preserved c =
    let file = c.args.file.now in
    let no : is_symbol_table file c.section_header-header.result ≡ false = elim c.else-is_readable.branch [
      | else-is_readable-via-then-is_readable+else-header-eq-SHT_SYMTAB w ↦ grind (arith, nat_tests, w.if-is_readable.true, w.if-header-eq-SHT_SYMTAB.false, c.is_readable.ensures)
      | else-is_readable-via-else-is_readable w ↦ grind (arith, nat_tests, w.if-is_readable.false, c.is_readable.ensures)
    ] in
    let later = find_later (is_symbol_table file) (section_header file) c.loop-number.number c.u16_at-count.result c.loop-number-test.true
    (rw (← c.section_header-header.ensures) no) in
    sym later ∙ c.loop-number.invariant
