use Rattle.std.proofs.Common.{◌≡◌, ◌%◌, ◌&&◌, eqb, List, map, true, false, sym, ◌∙◌, subst, inr}
use Rattle.elf_image.specs.declared.header.ProgramHeader.{ProgramHeader}
use Rattle.elf_image.specs.declared.region.Region.{Region}
use Rattle.elf_image.specs.Headers.{region, IsLow}
use Rattle.std.specs.List.{All}
use Rattle.elf_image.specs.Regions.{AreApart, FirstGranules, is_code_in}
use Rattle.elf_image.specs.File.{needs_too_much}
use Rattle.elf_image.proofs.Loaded.{IsLaid, read_low, sorted_low, touched_refused, too_much_refused, entry_refused, laid_accepted, laid_blocks, laid_few, laid_kept}
use Rattle.elf_image.proofs.loading.lay_out.Goals as goal

pub needs_too_much-too_much-requires-clause-low : goal.needs_too_much-too_much-requires-clause-low
needs_too_much-too_much-requires-clause-low c =
    subst (λ (hs : List ProgramHeader). All IsLow hs) (sym c.as_slice.ensures.value) (read_low c.args.bytes.now c.args.segments.items c.requires)

pub regions_of-requires : goal.regions_of-requires
regions_of-requires c =
    subst (λ (hs : List ProgramHeader). All IsLow hs) (sym c.as_slice-2.ensures.value)
    (sorted_low c.args.bytes.now c.args.segments.items c.in_ok-segments.segments.items c.requires c.in_ok-segments.ensures.moved)

pub returns-then-has_touched-clause-refused : goal.returns-then-has_touched-clause-refused
returns-then-has_touched-clause-refused c =
    let are : c.as_slice-3.result.now ≡ map region c.in_ok-segments.segments.items = cc (c.as_slice-3.ensures.value, c.in_ok-regions.ensures, c.as_slice-2.ensures.value) in
    let laid : IsLaid c.args.bytes.now c.args.segments.items c.in_ok-segments.segments.items c.as_slice-3.result.now =
    record { ready = c.requires; moved = c.in_ok-segments.ensures.moved; rising = c.in_ok-segments.ensures.rising; regions_are = are } in
    inr (touched_refused _ _ _ _ laid c.if-has_touched.ensures.touched)

pub returns-then-too_much-clause-refused : goal.returns-then-too_much-clause-refused
returns-then-too_much-clause-refused c =
    let are : c.as_slice-3.result.now ≡ map region c.in_ok-segments.segments.items = cc (c.as_slice-3.ensures.value, c.in_ok-regions.ensures, c.as_slice-2.ensures.value) in
    let laid : IsLaid c.args.bytes.now c.args.segments.items c.in_ok-segments.segments.items c.as_slice-3.result.now =
    record { ready = c.requires; moved = c.in_ok-segments.ensures.moved; rising = c.in_ok-segments.ensures.rising; regions_are = are } in
    let apart : AreApart c.as_slice-3.result.now = c.if-has_touched.ensures.apart in
    let much : needs_too_much c.args.segments.items ≡ true = subst (λ (hs : List ProgramHeader). needs_too_much hs ≡ true) c.as_slice.ensures.value (sym c.if-too_much.ensures) in
    inr (too_much_refused _ _ _ _ laid apart much)

pub returns-then-not-is_code-clause-refused : goal.returns-then-not-is_code-clause-refused
returns-then-not-is_code-clause-refused c =
    let are : c.as_slice-4.result.now ≡ map region c.in_ok-segments.segments.items = cc (c.as_slice-4.ensures.value, c.in_ok-regions.ensures, c.as_slice-2.ensures.value) in
    let laid : IsLaid c.args.bytes.now c.args.segments.items c.in_ok-segments.segments.items c.as_slice-4.result.now =
    record { ready = c.requires; moved = c.in_ok-segments.ensures.moved; rising = c.in_ok-segments.ensures.rising; regions_are = are } in
    let apart : AreApart c.as_slice-4.result.now = subst AreApart (c.as_slice-3.ensures.value ∙ sym c.as_slice-4.ensures.value) c.if-has_touched.ensures.apart in
    let little : needs_too_much c.args.segments.items ≡ false = subst (λ (hs : List ProgramHeader). needs_too_much hs ≡ false) c.as_slice.ensures.value (sym c.if-too_much.ensures) in
    inr (entry_refused _ _ _ _ _ laid apart little c.u64_at-entry.ensures (sym c.if-not-is_code.ensures))

pub first_granules-requires-clause-blocks : goal.first_granules-requires-clause-blocks
first_granules-requires-clause-blocks c =
    let are : c.as_slice-5.result.now ≡ map region c.in_ok-segments.segments.items = cc (c.as_slice-5.ensures.value, c.in_ok-regions.ensures, c.as_slice-2.ensures.value) in
    let laid : IsLaid c.args.bytes.now c.args.segments.items c.in_ok-segments.segments.items c.as_slice-5.result.now =
    record { ready = c.requires; moved = c.in_ok-segments.ensures.moved; rising = c.in_ok-segments.ensures.rising; regions_are = are } in
    let apart : AreApart c.as_slice-5.result.now = subst AreApart (c.as_slice-3.ensures.value ∙ sym c.as_slice-5.ensures.value) c.if-has_touched.ensures.apart in
    laid_blocks _ _ _ _ laid apart

pub first_granules-requires-clause-few : goal.first_granules-requires-clause-few
first_granules-requires-clause-few c =
    let are : c.as_slice-5.result.now ≡ map region c.in_ok-segments.segments.items = cc (c.as_slice-5.ensures.value, c.in_ok-regions.ensures, c.as_slice-2.ensures.value) in
    let laid : IsLaid c.args.bytes.now c.args.segments.items c.in_ok-segments.segments.items c.as_slice-5.result.now =
    record { ready = c.requires; moved = c.in_ok-segments.ensures.moved; rising = c.in_ok-segments.ensures.rising; regions_are = are } in
    let apart : AreApart c.as_slice-5.result.now = subst AreApart (c.as_slice-3.ensures.value ∙ sym c.as_slice-5.ensures.value) c.if-has_touched.ensures.apart in
    let little : needs_too_much c.args.segments.items ≡ false = subst (λ (hs : List ProgramHeader). needs_too_much hs ≡ false) c.as_slice.ensures.value (sym c.if-too_much.ensures) in
    laid_few _ _ _ _ laid little

pub invariant_of-result : goal.invariant_of-result
invariant_of-result c =
    let start = c.u64_at-entry.result in
    let rs = c.in_ok-regions.regions.items in
    let firsts = c.in_ok-first_granules.first_granules.items in
    let are : rs ≡ map region c.in_ok-segments.segments.items = cc (c.in_ok-regions.ensures, c.as_slice-2.ensures.value) in
    let laid : IsLaid c.args.bytes.now c.args.segments.items c.in_ok-segments.segments.items rs =
    record { ready = c.requires; moved = c.in_ok-segments.ensures.moved; rising = c.in_ok-segments.ensures.rising; regions_are = are } in
    let apart = subst AreApart c.as_slice-3.ensures.value c.if-has_touched.ensures.apart in
    let little : needs_too_much c.args.segments.items ≡ false = subst (λ (hs : List ProgramHeader). needs_too_much hs ≡ false) c.as_slice.ensures.value (sym c.if-too_much.ensures) in
    let inside = subst (λ (r : List Region). (eqb (start % 4) 0 && is_code_in r start) ≡ true) c.as_slice-4.ensures.value (sym c.if-not-is_code.ensures) in
    let numbered = subst (λ (r : List Region). FirstGranules r firsts) c.as_slice-5.ensures.value c.in_ok-first_granules.ensures in
    laid_kept _ _ _ _ _ _ laid apart little c.u64_at-entry.ensures inside numbered

pub returns-clause-accepted : goal.returns-clause-accepted
returns-clause-accepted c =
    let are : c.as_slice-4.result.now ≡ map region c.in_ok-segments.segments.items = cc (c.as_slice-4.ensures.value, c.in_ok-regions.ensures, c.as_slice-2.ensures.value) in
    let laid : IsLaid c.args.bytes.now c.args.segments.items c.in_ok-segments.segments.items c.as_slice-4.result.now =
    record { ready = c.requires; moved = c.in_ok-segments.ensures.moved; rising = c.in_ok-segments.ensures.rising; regions_are = are } in
    let apart : AreApart c.as_slice-4.result.now = subst AreApart (c.as_slice-3.ensures.value ∙ sym c.as_slice-4.ensures.value) c.if-has_touched.ensures.apart in
    let little : needs_too_much c.args.segments.items ≡ false = subst (λ (hs : List ProgramHeader). needs_too_much hs ≡ false) c.as_slice.ensures.value (sym c.if-too_much.ensures) in
    laid_accepted _ _ _ _ _ laid apart little c.u64_at-entry.ensures (sym c.if-not-is_code.ensures)
