use Rattle.std.proofs.Common.{rules, arith, refl, sym, ap, ◌∙◌, subst, ◌≡◌, ℕ, ◌+◌, ◌*◌, ◌<◌, List, length, get_or, replicate}
use lib.ListN.{get_elem?}
use Rattle.elf_image.proofs.MemoryLaws.{few_granules}
use Rattle.shared_table.specs.declared.view.Layout.{Layout}
use Rattle.shared_table.specs.Layouts.{objects_of, cells_of, IsLaidOut}
use Rattle.shared_table.specs.Plans.{layout_of}
use Rattle.shared_table.specs.Opening.{words_in, slot_at, spread}
use Rattle.shared_table.specs.Past.{Slot}
use Rattle.shared_table.specs.Rule.{slot_place}
use Rattle.shared_table.proofs.Keeps.{begins}
use Rattle.shared_table.proofs.Dealing.{few_words, laid_out, firsts_sound, spread_at, spread_long, zero_at, zeros_long}
use Rattle.shared_table.proofs.shared.Shared.new.Goals as goal

pub sizes_of-requires : goal.sizes_of-requires
sizes_of-requires c =
    let stripes : List Slot = c.in_ok-dealt.dealt.stripes.items in
    subst (λ (z : List Slot). (k : ℕ) → k < length z → length (words_in (slot_at z k)) < 4294967296) (sym c.as_slice.ensures.value)
    (few_words c.args.image.now c.args.limits.now stripes c.in_ok-dealt.dealt.places.items (few_granules c.args.image.now c.accepted.ensures) c.in_ok-dealt.ensures)

pub new-requires : goal.new-requires
new-requires c =
    let image = c.args.image.now in
    let limits = c.args.limits.now in
    let stripes : List Slot = c.in_ok-dealt.dealt.stripes.items in
    let lay : Layout = layout_of record { firsts = c.of.result; sizes = c.of-2.result; granules = c.granules-granules.result; limits = limits } in
    let sizes : (k : ℕ) → k < length stripes → get_or c.in_ok-sizes.sizes.items k 0 ≡ length (words_in (slot_at stripes k)) =
    subst (λ (z : List Slot). (k : ℕ) → k < length z → get_or c.in_ok-sizes.sizes.items k 0 ≡ length (words_in (slot_at z k))) c.as_slice.ensures.value c.in_ok-sizes.ensures in
    let firsts : lay.firsts ≡ c.in_ok-firsts.firsts.items = ap (λ v. v.items) c.of.ensures in
    let laid : IsLaidOut image limits lay = laid_out image limits lay stripes c.in_ok-dealt.dealt.places.items c.in_ok-dealt.ensures c.in_ok-firsts.ensures.0 c.in_ok-firsts.ensures.1 (firsts ∙ c.in_ok-firsts.ensures.2) refl c.granules-granules.ensures
    (λ k l. ap (λ v. get_or v.items k 0) c.of-2.ensures ∙ sizes k l) in
    let count : ℕ = 520 + 4 * c.granules-granules.result in
    let ws : c.as_slice-2.result.now ≡ replicate count 0 = c.as_slice-2.ensures.value ∙ c.in_ok-words.ensures in
    let objects = laid.objects in
    let wide : length c.as_slice-2.result.now ≡ 8 * objects_of lay + cells_of lay = ap (λ (l : List ℕ). length l) ws ∙ (zeros_long count ∙ omega arith) in
    let slots : c.in_ok-slots.slots.items ≡ spread lay.firsts = c.in_ok-slots.ensures ∙ ap spread (sym firsts) in
    begins lay c.as_slice-2.result.now c.in_ok-slots.slots.items wide (λ i. ap (λ (l : List ℕ). get_or l i 0) ws ∙ zero_at count i) (firsts_sound image limits lay laid)
    (λ k l. ap (λ (z : List Slot). get_elem? z (slot_place k)) slots ∙ spread_at lay.firsts k l)

pub invariant_of-result : goal.invariant_of-result
invariant_of-result c =
    let image = c.args.image.now in
    let limits = c.args.limits.now in
    let stripes : List Slot = c.in_ok-dealt.dealt.stripes.items in
    let lay : Layout = layout_of record { firsts = c.of.result; sizes = c.of-2.result; granules = c.granules-granules.result; limits = limits } in
    let sizes : (k : ℕ) → k < length stripes → get_or c.in_ok-sizes.sizes.items k 0 ≡ length (words_in (slot_at stripes k)) =
    subst (λ (z : List Slot). (k : ℕ) → k < length z → get_or c.in_ok-sizes.sizes.items k 0 ≡ length (words_in (slot_at z k))) c.as_slice.ensures.value c.in_ok-sizes.ensures in
    let firsts : lay.firsts ≡ c.in_ok-firsts.firsts.items = ap (λ v. v.items) c.of.ensures in
    let laid : IsLaidOut image limits lay = laid_out image limits lay stripes c.in_ok-dealt.dealt.places.items c.in_ok-dealt.ensures c.in_ok-firsts.ensures.0 c.in_ok-firsts.ensures.1 (firsts ∙ c.in_ok-firsts.ensures.2) refl c.granules-granules.ensures
    (λ k l. ap (λ v. get_or v.items k 0) c.of-2.ensures ∙ sizes k l) in
    let made = c.in-Ok.ensures.ok in
    let key : lay ≡ layout_of c.in-Ok.table.shared.key = ap layout_of (sym made.5) in
    let count : ℕ = 520 + 4 * c.granules-granules.result in
    let words : length c.as_slice-2.result.now ≡ count = ap (λ (l : List ℕ). length l) (c.as_slice-2.ensures.value ∙ c.in_ok-words.ensures) ∙ zeros_long count in
    let objects : objects_of lay ≡ 65 = laid.objects in
    let slots : length c.in_ok-slots.slots.items ≡ 260 = ap (λ (l : List Slot). length l) (c.in_ok-slots.ensures ∙ ap spread (sym firsts)) ∙ (spread_long lay.firsts ∙ omega arith) in (
      record {
        objects = ap objects_of (sym key) ∙ objects;
        same_granules = ap (λ (l : Layout). l.granules) (sym key);
        few = let e = c.granules-granules.ensures in let f = few_granules image c.accepted.ensures in omega arith;
        words = made.0 ∙ words;
        slots = made.1 ∙ slots;
        all_places = c.in_ok-dealt.ensures.all_places ∙ sym c.granules-granules.ensures;
      },
      search rules,
      search rules,
      search rules,
      search rules,
    )

pub returns-in-Ok-clause-table : goal.returns-in-Ok-clause-table
returns-in-Ok-clause-table c =
    let image = c.args.image.now in
    let limits = c.args.limits.now in
    let stripes : List Slot = c.in_ok-dealt.dealt.stripes.items in
    let lay : Layout = layout_of record { firsts = c.of.result; sizes = c.of-2.result; granules = c.granules-granules.result; limits = limits } in
    let sizes : (k : ℕ) → k < length stripes → get_or c.in_ok-sizes.sizes.items k 0 ≡ length (words_in (slot_at stripes k)) =
    subst (λ (z : List Slot). (k : ℕ) → k < length z → get_or c.in_ok-sizes.sizes.items k 0 ≡ length (words_in (slot_at z k))) c.as_slice.ensures.value c.in_ok-sizes.ensures in
    let firsts : lay.firsts ≡ c.in_ok-firsts.firsts.items = ap (λ v. v.items) c.of.ensures in
    let laid : IsLaidOut image limits lay = laid_out image limits lay stripes c.in_ok-dealt.dealt.places.items c.in_ok-dealt.ensures c.in_ok-firsts.ensures.0 c.in_ok-firsts.ensures.1 (firsts ∙ c.in_ok-firsts.ensures.2) refl c.granules-granules.ensures
    (λ k l. ap (λ v. get_or v.items k 0) c.of-2.ensures ∙ sizes k l) in
    let made = c.in-Ok.ensures.ok in
    let key : lay ≡ layout_of c.in-Ok.table.shared.key = ap layout_of (sym made.5) in
    record { laid_out = subst (IsLaidOut image limits) key laid; places = c.in_ok-dealt.ensures.placed }
