use Rattle.std.proofs.Common.{◌≡◌, ℕ, List, cond, replicate, length, sym, ◌∙◌, ap, eq-eqb}
use Rattle.std.proofs.lemmas.Bool.{ne_eqb}
use Rattle.vector_clock.specs.Clocks.{joined}
use Rattle.vector_clock.proofs.ClockLaws.{length-joined}
use Rattle.sync_slab.specs.Objects.{SyncObjects}
use Rattle.sync_slab.proofs.SetLemmas.{clock_in-there, clock_in-absent, joined_nothing}
use Rattle.sync_slab.proofs.set.SyncSet.acquire.Goals as goal

pub returns-then-object-era-clause-joins : goal.returns-then-object-era-clause-joins
returns-then-object-era-clause-joins c =
    let s = c.self.inside in
    let o = c.index-object.result.now in
    let this_era = eq-eqb o.era c.args.era c.if-object-era.true in
    let found = clock_in-there c.args.self.now s.slots _ c.args.era s.objects s.index _ c.in-Some.at o c.self.view_is (sym c.find.ensures ∙ c.in-Some.is) c.index-object.ensures in
    c.join.ensures.whole ∙ ap (joined c.args.clock.now) (sym (found ∙ ap (λ b. cond b o.clock (replicate s.slots 0)) this_era))

pub returns-else-object-era-clause-joins : goal.returns-else-object-era-clause-joins
returns-else-object-era-clause-joins c =
    let s = c.self.inside in
    let o = c.index-object.result.now in
    let other_era = ne_eqb o.era c.args.era c.if-object-era.false in
    let found = clock_in-there c.args.self.now s.slots _ c.args.era s.objects s.index _ c.in-Some.at o c.self.view_is (sym c.find.ensures ∙ c.in-Some.is) c.index-object.ensures in
    let slots = ap (λ (v : SyncObjects). v.slots) c.self.view_is in
    sym (ap (joined c.args.clock.now) (found ∙ ap (λ b. cond b o.clock (replicate s.slots 0)) other_era) ∙ joined_nothing s.slots c.args.clock.now (c.requires ∙ sym slots))

pub returns-in_default-clause-joins : goal.returns-in_default-clause-joins
returns-in_default-clause-joins c =
    let s = c.self.inside in
    let nothing = clock_in-absent c.args.self.now s.slots _ c.args.era s.objects s.index _ c.self.view_is (sym c.find.ensures ∙ c.in_default.is) in
    sym (ap (joined c.args.clock.now) nothing ∙ joined_nothing c.args.self.now.slots c.args.clock.now c.requires)

pub returns-then-object-era-clause-slots : goal.returns-then-object-era-clause-slots
returns-then-object-era-clause-slots c =
    let s = c.self.inside in
    let o = c.index-object.result.now in
    let slots = ap (λ (v : SyncObjects). v.slots) c.self.view_is in
    let same : length c.args.clock.now ≡ length o.clock = c.requires ∙ (sym slots ∙ sym (c.self.invariant.long c.in-Some.at o c.index-object.ensures)) in
    ap (λ (k : List ℕ). length k) c.join.ensures.whole ∙ (length-joined c.args.clock.now o.clock same ∙ c.requires)
