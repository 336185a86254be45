use Rattle.std.proofs.Common.{◌+◌, ◌≤◌, List, ℕ, ap, sym, subst, refl, length, vec_len, arith}
use Rattle.trace_parts.specs.Spelling.{spelling}
use Rattle.trace_parts.specs.Part.{Appends}
use Rattle.trace_parts.proofs.WordLaws.{length-spelling, words_of-bounds}
use Rattle.trace_parts.proofs.RingLaws.{appended_ring, appended_held, appended_begins, begun_ring, begun_held}
use Rattle.trace_parts.proofs.ring.Ring.push.Goals as goal
use Rattle.trace_parts.proofs.ring.Ring.push.Goals.{After-append, After-append-else-len-from}

-- the event goes into the current part
here : (c : After-append) → Appends c.args.event.now (spelling c.args.self.now.previous c.args.event.now) c.args.self.now c.append.new.self
here c = subst (λ (ws : List ℕ). Appends c.args.event.now ws c.args.self.now c.append.new.self) c.encode-words.ensures.words c.append.ensures

fits : (c : After-append) → vec_len c.args.self.now.current.words + length (spelling c.args.self.now.previous c.args.event.now) ≤ c.args.self.now.part_words
fits c = omega (arith, c.if-len-from.true, c.len.ensures, c.from.ensures, c.count.ensures, ap length c.encode-words.ensures.words)

pub returns-then-len-from-clause-sound : goal.returns-then-len-from-clause-sound
returns-then-len-from-clause-sound c = appended_ring c.args.event.now c.args.self.now c.append.new.self c.requires.sound (here c) c.encode-words.ensures.traceable (fits c)

pub returns-then-len-from-clause-held : goal.returns-then-len-from-clause-held
returns-then-len-from-clause-held c =
    appended_held c.args.event.now c.args.self.now c.append.new.self c.args.self.now.current.words.items refl c.requires.sound c.requires.begins (here c) c.encode-words.ensures.traceable (fits c)

-- the event goes into a new part
there : (c : After-append-else-len-from) → Appends c.args.event.now (spelling 0 c.args.event.now) c.begin_part.new.self c.append-else-len-from.new.self
there c = subst (λ (ws : List ℕ). Appends c.args.event.now ws c.begin_part.new.self c.append-else-len-from.new.self) c.encode.ensures.words c.append-else-len-from.ensures

pub returns-else-len-from-clause-sound : goal.returns-else-len-from-clause-sound
returns-else-len-from-clause-sound c =
    let e = c.args.event.now in
    let mid = c.begin_part.new.self in
    let ring = begun_ring c.args.self.now mid c.requires.sound c.begin_part.ensures in
    let first : Appends e (spelling mid.previous e) mid c.append-else-len-from.new.self = subst (λ (q : ℕ). Appends e (spelling q e) mid c.append-else-len-from.new.self) (sym c.begin_part.ensures.previous) (there c) in
    appended_ring e mid c.append-else-len-from.new.self ring first c.encode-words.ensures.traceable
    (omega (arith, ring.least_words, mid.current.words.ok.0, ap length c.begin_part.ensures.words, length-spelling mid.previous e, (words_of-bounds mid.previous e).1))

pub returns-else-len-from-clause-held : goal.returns-else-len-from-clause-held
returns-else-len-from-clause-held c =
    begun_held c.args.event.now c.args.self.now c.begin_part.new.self c.append-else-len-from.new.self c.requires.sound c.begin_part.ensures (there c) c.encode-words.ensures.traceable
    (omega (arith, c.if-len-from.false, c.len.ensures, c.from.ensures, c.count.ensures, ap length c.encode-words.ensures.words))

pub returns-else-len-from-clause-begins : goal.returns-else-len-from-clause-begins
returns-else-len-from-clause-begins c =
    appended_begins c.args.event.now c.begin_part.new.self c.append-else-len-from.new.self (spelling 0 c.args.event.now) (there c) (omega (arith, length-spelling 0 c.args.event.now, (words_of-bounds 0 c.args.event.now).0))
