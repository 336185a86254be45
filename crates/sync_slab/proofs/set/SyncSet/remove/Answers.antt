use Rattle.std.proofs.Common.{◌≡◌, sym, arith}
use Rattle.indexmap.specs.IndexMap.{index_map_len}
use Rattle.sync_slab.proofs.SetLemmas.{sound_objects, absent_sound, absent_removes, removed_sound, removed_removes}
use Rattle.sync_slab.proofs.set.SyncSet.remove.Goals as goal

pub invariant_of-self : goal.invariant_of-self
invariant_of-self c =
    let s = c.self.inside in
    removed_sound s.slots s.objects s.index c.remove.new.index s.kept_clock s.has_spare c.args.id c.self.invariant c.remove.ensures.unique c.remove.ensures.gone c.remove.ensures.room c.remove-object.new.self c.in-Some.at c.remove-object.result (sym c.in-Some.ensures.place) c.remove-object.ensures.value c.remove-object.ensures.updates c.keep.new.kept c.remove-object.ensures.len c.in-Some.ensures.len c.remove-object.ensures.capacity c.keep.ensures

pub returns-in-Some-clause-removes : goal.returns-in-Some-clause-removes
returns-in-Some-clause-removes c =
    let s = c.self.inside in
    removed_removes s.slots s.objects s.index c.remove.new.index s.kept_clock s.has_spare c.args.id c.self.invariant c.remove.ensures.unique c.remove.ensures.gone c.remove.ensures.room c.remove-object.new.self c.in-Some.at c.remove-object.result (sym c.in-Some.ensures.place) c.remove-object.ensures.value c.remove-object.ensures.updates c.args.self.now _ _ c.self.view_is

pub returns-in-Some-clause-objects : goal.returns-in-Some-clause-objects
returns-in-Some-clause-objects c =
    let s = c.self.inside in
    sound_objects s.slots c.remove-object.new.self c.remove.new.index c.keep.new.kept s.has_spare _ (invariant_of-self c)

pub returns-in_default-clause-removes : goal.returns-in_default-clause-removes
returns-in_default-clause-removes c =
    let s = c.self.inside in
    absent_removes s.slots s.objects s.index c.remove.new.index s.kept_clock s.has_spare c.args.id c.self.invariant c.remove.ensures.unique c.remove.ensures.gone c.remove.ensures.room c.args.self.now _ _ c.self.view_is

pub returns-in_default-clause-objects : goal.returns-in_default-clause-objects
returns-in_default-clause-objects c =
    let s = c.self.inside in
    let len : index_map_len c.remove.new.index ≡ index_map_len s.index = let less = c.in_default.ensures.len in omega arith in
    sound_objects s.slots s.objects c.remove.new.index s.kept_clock s.has_spare _
    (absent_sound s.slots s.objects s.index c.remove.new.index s.kept_clock s.has_spare c.args.id c.self.invariant c.remove.ensures.unique c.remove.ensures.gone c.remove.ensures.room len)
