use Rattle.std.proofs.Common.{length, sym, ◌∙◌, ap}
use Rattle.slab.specs.Slab.{with_value}
use Rattle.sync_slab.specs.declared.object.Object.{Object}
use Rattle.sync_slab.specs.Objects.{SyncObjects}
use Rattle.sync_slab.proofs.SetLemmas.{sound_objects, object_at-absent, written_puts, written_sound}
use Rattle.sync_slab.proofs.set.SyncSet.release_store.Goals as goal

pub add-requires-clause-absent : goal.add-requires-clause-absent
add-requires-clause-absent c =
    let s = c.self.inside in
    object_at-absent c.args.self.now s.slots s.objects s.index _ _ c.self.view_is (sym c.find.ensures ∙ c.in-None.is)

pub returns-in-Some-clause-puts : goal.returns-in-Some-clause-puts
returns-in-Some-clause-puts c =
    let s = c.self.inside in
    written_puts c.args.self.now s.slots _ _ s.objects s.index s.kept_clock s.has_spare _ c.in-Some.at c.index_mut.result.now c.replace.new.object _ c.self.invariant c.self.view_is (sym c.find.ensures ∙ c.in-Some.is) c.index_mut.ensures.value c.replace.ensures

pub returns-in-Some-clause-objects : goal.returns-in-Some-clause-objects
returns-in-Some-clause-objects c =
    let s = c.self.inside in
    let long = ap (λ (o : Object). length o.clock) c.replace.ensures ∙ (c.requires.slots ∙ sym (ap (λ (v : SyncObjects). v.slots) c.self.view_is)) in
    sound_objects s.slots (with_value s.objects c.in-Some.at c.replace.new.object) s.index s.kept_clock s.has_spare _
    (written_sound s.slots s.objects s.index s.kept_clock s.has_spare c.in-Some.at c.index_mut.result.now c.replace.new.object c.self.invariant c.index_mut.ensures.value long)
