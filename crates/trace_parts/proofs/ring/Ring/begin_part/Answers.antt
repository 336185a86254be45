use Rattle.std.proofs.Common.{◌≡◌, ◌≤◌, ◌∷◌, List, ap, sym, ◌∙◌, refl, vec_len, vec_capacity, arith}
use Rattle.trace_parts.specs.declared.ring.Part.{Part}
use Rattle.trace_parts.specs.declared.standing.Standing.{Standing}
use Rattle.trace_parts.specs.Part.{snapshot_of, NextIsReady}
use Rattle.trace_parts.proofs.RingLaws.{take-cons, on_ok}
use Rattle.trace_parts.proofs.ring.Ring.begin_part.Goals as goal

pub returns : goal.returns
returns c =
    let old = c.args.self.now in
    let recycled = c.recycled-buffers.ensures in
    let ready : NextIsReady old.spare old = c.requires.sound.next_room c.requires.full in
    let begun : c.replace-begun.result.before ≡ old.next.before = ap (λ (part : Part). part.before) c.replace-begun.ensures.value ∙ recycled.before in
    let frames : vec_len c.recycled-buffers.new.self.standing.frames ≤ vec_capacity c.replace-begun.result.before.frames = omega (arith, ready.frames, ap (λ (s : Standing). vec_len s.frames) recycled.now, ap (λ (s : Standing). vec_capacity s.frames) begun) in
    let locks : vec_len c.recycled-buffers.new.self.standing.locks ≤ vec_capacity c.replace-begun.result.before.locks = omega (arith, ready.locks, ap (λ (s : Standing). vec_len s.locks) recycled.now, ap (λ (s : Standing). vec_capacity s.locks) begun) in
    record {
      part_words = recycled.part_words;
      parts = recycled.parts;
      spare = recycled.spare;
      now = recycled.now;
      words = ap (λ (part : Part). part.words.items) c.replace-ended.ensures.after ∙ c.clear.ensures.items;
      room = omega (arith, recycled.words, ap (λ (part : Part). vec_capacity part.words) c.replace-begun.ensures.value, c.clear.ensures.capacity, ap (λ (part : Part). vec_capacity part.words) c.replace-ended.ensures.after);
      before = ap (λ (part : Part). snapshot_of part.before) c.replace-ended.ensures.after ∙ on_ok c.copy_from-copied.result (c.copy_from-copied.ensures.succeeds frames locks) c.copy_from-copied.ensures.ok ∙ ap snapshot_of recycled.now;
      older = c.push_front_reserved.ensures.items ∙ ap (λ (part : Part). part ∷ c.recycled-buffers.new.self.older.items) (c.replace-ended.ensures.value ∙ recycled.current) ∙ ap (λ (older : List Part). old.current ∷ older) recycled.older ∙ sym (take-cons old.parts old.current old.older.items c.requires.sound.least_parts);
      older_room = omega (arith, c.push_front_reserved.ensures.capacity, recycled.older_room);
      previous = refl;
    }
