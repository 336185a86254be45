use Rattle.std.proofs.Common.{rules, arith, ◌≡◌, ℕ, ◌+◌, ◌%◌, ◌/◌, ◌<◌, List, [], ◌∷◌, ◌++◌, length, set, None, sym, ap, ◌∙◌, subst}
use Rattle.elf_image.specs.File.{granules_of, initial_word}
use Rattle.shared_table.specs.Past.{Slot}
use Rattle.shared_table.specs.Layouts.{stripe_at}
use Rattle.shared_table.specs.Opening.{AreDealt, IsBlank, words_in, slot_at}
use Rattle.shared_table.proofs.Rows.{read_at}
use Rattle.shared_table.proofs.Dealing.{dealt_more, count_few}
use Rattle.shared_table.proofs.opening.deal.Goals as goal

pub word_count-requires : goal.word_count-requires
word_count-requires c =
    let image = c.args.image.now in
    let n : ℕ = c.loop-granule.granule in
    let inv = c.loop-granule.invariant in
    let at : c.granule_address.result / 8 % 64 ≡ stripe_at image n = search rules in
    let low : stripe_at image n < 64 = search rules in
    let long = inv.all_stripes in
    let is : c.index.result.now ≡ slot_at c.loop-granule.stripes.items (c.granule_address.result / 8 % 64) = read_at c.loop-granule.stripes.items (c.granule_address.result / 8 % 64) c.index.result.now None (omega arith) c.index.ensures in
    let size = ap (λ (z : Slot). length (words_in z)) (is ∙ ap (slot_at c.loop-granule.stripes.items) at) ∙ inv.sizes (stripe_at image n) low in
    let few = count_few (stripe_at image) (stripe_at image n) n in
    let small : n < 4294967296 = search rules in
    omega arith

pub loop-granule-preserved : goal.loop-granule-preserved
loop-granule-preserved c =
    let image = c.args.image.now in
    let limits = c.args.limits.now in
    let n : ℕ = c.loop-granule.granule in
    let inv = c.loop-granule.invariant in
    let stripes : List Slot = c.loop-granule.stripes.items in
    let i : ℕ = c.granule_address.result / 8 % 64 in
    let at : i ≡ stripe_at image n = search rules in
    let low : stripe_at image n < 64 = search rules in
    let long = inv.all_stripes in
    let is : c.index_mut.result.now ≡ slot_at stripes (stripe_at image n) = read_at stripes i c.index_mut.result.now None (omega arith) c.index_mut.ensures.value ∙ ap (slot_at stripes) at in
    let was : c.index.result.now ≡ slot_at stripes (stripe_at image n) = read_at stripes i c.index.result.now None (omega arith) c.index.ensures ∙ ap (slot_at stripes) at in
    let blank : IsBlank limits c.index_mut.result.now = subst (IsBlank limits) (sym is) (inv.blank (stripe_at image n) low) in
    let more : words_in c.append.new.slot ≡ words_in (slot_at stripes (stripe_at image n)) ++ initial_word image n ∷ [] =
    c.in_ok-append.ensures.words limits blank ∙ (λ j. words_in (is j) ++ (let e : c.initial_word.result ≡ initial_word image n = c.initial_word.ensures in e) j ∷ []) in
    let got = dealt_more image limits n stripes c.loop-granule.places.items c.append.new.slot inv low (c.append.ensures.blank limits blank) more in
    let pushed : c.push.new.self.items ≡ c.loop-granule.places.items ++ length (words_in (slot_at stripes (stripe_at image n))) ∷ [] =
    c.in_ok-push.ensures.items ∙ ap (λ (z : ℕ). c.loop-granule.places.items ++ z ∷ []) (c.word_count.ensures ∙ ap (λ (z : Slot). length (words_in z)) was) in
    subst (λ (z : ℕ × List ℕ). AreDealt image limits (n + 1) (set stripes z.0 c.append.new.slot) z.1) (λ j. (sym at j, sym pushed j)) got

pub returns : goal.returns
returns c =
    let end : c.loop-granule.granule ≡ granules_of c.args.image.now = search rules in
    subst (λ (n : ℕ). AreDealt c.args.image.now c.args.limits.now n c.loop-granule.stripes.items c.loop-granule.places.items) end c.loop-granule.invariant
