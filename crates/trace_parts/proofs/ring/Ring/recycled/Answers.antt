use Rattle.std.proofs.Common.{subst, ap, vec_capacity, arith}
use Rattle.trace_parts.specs.Part.{ArePartsOf}
use Rattle.trace_parts.proofs.RingLaws.{ArePartsOf-last}
use Rattle.trace_parts.proofs.ring.Ring.recycled.Goals as goal

pub returns-clause-words : goal.returns-clause-words
returns-clause-words c =
    let size = c.args.self.now.part_words in
    let oldest = ArePartsOf-last size c.pop_back.new.self.items c.in-Some.oldest (subst (ArePartsOf size) c.in-Some.ensures.items c.requires.sound.older) in
    omega (arith, oldest.room, ap vec_capacity c.swap.ensures.y_after)
