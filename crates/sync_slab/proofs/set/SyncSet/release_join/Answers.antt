use Rattle.std.proofs.Common.{ℕ, List, length, sym, ◌∙◌, ap, subst}
use Rattle.slab.specs.Slab.{with_value}
use Rattle.vector_clock.specs.Clocks.{joined}
use Rattle.sync_slab.specs.declared.object.Object.{Object}
use Rattle.sync_slab.specs.Objects.{SyncObjects, Puts}
use Rattle.sync_slab.proofs.SetLemmas.{sound_objects, object_at-absent, written_puts, written_sound, released_long, released_clock, clock_in-there, clock_in-absent, nothing_joined}
use Rattle.sync_slab.proofs.set.SyncSet.release_join.Goals as goal

pub invariant_of-self : goal.invariant_of-self
invariant_of-self c =
    let s = c.self.inside in
    let was = c.index_mut.result.now in
    let also = c.requires.slots ∙ sym (ap (λ (v : SyncObjects). v.slots) c.self.view_is) in
    let long = released_long s.slots c.args.era was c.args.clock.now (c.self.invariant.long c.in-Some.at was c.index_mut.ensures.value) also in
    written_sound s.slots s.objects s.index s.kept_clock s.has_spare c.in-Some.at was c.join.new.object c.self.invariant c.index_mut.ensures.value (ap (λ (o : Object). length o.clock) c.join.ensures ∙ long)

pub add-requires-clause-absent : goal.add-requires-clause-absent
add-requires-clause-absent c =
    let s = c.self.inside in
    object_at-absent c.args.self.now s.slots s.objects s.index _ _ c.self.view_is (sym c.find.ensures ∙ c.in-None.is)

pub returns-in-Some-clause-puts : goal.returns-in-Some-clause-puts
returns-in-Some-clause-puts c =
    let s = c.self.inside in
    let was = c.index_mut.result.now in
    let placed = sym c.find.ensures ∙ c.in-Some.is in
    let clock = clock_in-there c.args.self.now s.slots _ c.args.era s.objects s.index _ c.in-Some.at was c.self.view_is placed c.index_mut.ensures.value in
    let long = c.requires.slots ∙ sym (ap (λ (v : SyncObjects). v.slots) c.self.view_is) in
    let released = released_clock s.slots c.args.era was (record { addr = c.args.addr; part = c.args.part }) c.args.clock.now long ∙ ap (λ (k : List ℕ). joined k c.args.clock.now) (sym clock) in
    written_puts c.args.self.now s.slots _ _ s.objects s.index s.kept_clock s.has_spare _ c.in-Some.at was c.join.new.object _ c.self.invariant c.self.view_is placed c.index_mut.ensures.value (c.join.ensures ∙ ap (λ (k : List ℕ). record { era = c.args.era; clock = k }) released)

pub returns-in-Some-clause-objects : goal.returns-in-Some-clause-objects
returns-in-Some-clause-objects c =
    let s = c.self.inside in
    sound_objects s.slots (with_value s.objects c.in-Some.at c.join.new.object) s.index s.kept_clock s.has_spare _ (invariant_of-self c)

pub returns-in-None-clause-puts : goal.returns-in-None-clause-puts
returns-in-None-clause-puts c =
    let s = c.self.inside in
    let nothing = clock_in-absent c.args.self.now s.slots _ c.args.era s.objects s.index _ c.self.view_is (sym c.find.ensures ∙ c.in-None.is) in
    let same = ap (λ (k : List ℕ). joined k c.args.clock.now) nothing ∙ nothing_joined c.args.self.now.slots c.args.clock.now c.requires.slots in
    subst (λ (k : List ℕ). Puts c.args.self.now c.add.new.self (record { addr = c.args.addr; part = c.args.part; era = c.args.era; clock = k })) (sym same) c.add.ensures.puts
