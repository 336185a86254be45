use Rattle.std.proofs.Common.{◌≡◌, ◌+◌, map, length, ap, ◌∙◌, refl, arith}
use Rattle.std.proofs.Math.ListN.{length-replicate, length-map}
use Rattle.run_laws.specs.Numbers.{up_from}
use Rattle.slot_desk.specs.Desks.{fresh_slot}
use Rattle.slot_desk.specs.Steps.{after_reset}
use Rattle.slot_desk.specs.Threads.{untold}
use Rattle.slot_desk.proofs.KeptLaws.{kept_reset, kept_later, kept_untold, forgotten_later, forgotten_untold}
use Rattle.slot_desk.proofs.SeenLaws.{seen_reset}
use Rattle.slot_desk.proofs.desk.Desk.reset.Goals as goal
use Rattle.slot_desk.proofs.desk.Desk.reset.Goals.{in-Some, in-None}

pub invariant_of-self : goal.invariant_of-self
invariant_of-self c =
    let d = c.self.inside in
    let n = length d.slots.items in
    let k = c.self.invariant.0 in
    elim c.match-checked_add.branch [
      | in-Some w ↦
          rw w.self-inside-is
          (let slots = rw w.self-inside-is at c.reset_slots.ensures in
          let all : c.len.result ≡ n = c.len.ensures ∙ (c.reset_slots.new.slots.ok.0 ∙ (ap length slots ∙ length-replicate n (fresh_slot n))) in
          let queue = c.refill.ensures.items ∙ ap (up_from 0) all in
          let wide = rw w.self-inside-is at c.refill.ensures.capacity in
          let fits = c.self.invariant.1 in
          rw (slots, queue, w.in-Some.ensures.1) (
            kept_reset d.harts d.greatest d.made d.live d.era (d.era + 1) d.threads.items d.threads.items d.slots.items d.queue.items k refl (kept_later n d.era d.threads.items k.told) (forgotten_later d.era n d.threads.items k.told),
            rw length-replicate (omega arith),
          ))
      | in-None w ↦
          rw w.self-inside-is
          (let slots = rw w.self-inside-is at c.reset_slots.ensures in
          let all : c.len.result ≡ n = c.len.ensures ∙ (c.reset_slots.new.slots.ok.0 ∙ (ap length slots ∙ length-replicate n (fresh_slot n))) in
          let queue = c.refill.ensures.items ∙ ap (up_from 0) all in
          let wide = rw w.self-inside-is at c.refill.ensures.capacity in
          let fits = c.self.invariant.1 in
          rw (slots, queue, w.untell.ensures) (
            kept_reset d.harts d.greatest d.made d.live d.era 1 d.threads.items (map untold d.threads.items) d.slots.items d.queue.items k (rw length-map refl) (kept_untold n d.era d.threads.items k.told) (forgotten_untold d.era d.threads.items),
            rw length-replicate (omega arith),
          ))
    ]

pub returns : goal.returns
returns c =
    let d = c.self.inside in
    let n = length d.slots.items in
    let k = c.self.invariant.0 in
    elim c.match-checked_add.branch [
      | in-Some w ↦
          rw w.self-inside-is
          (let slots = rw w.self-inside-is at c.reset_slots.ensures in
          let all : c.len.result ≡ n = c.len.ensures ∙ (c.reset_slots.new.slots.ok.0 ∙ (ap length slots ∙ length-replicate n (fresh_slot n))) in
          let queue = c.refill.ensures.items ∙ ap (up_from 0) all in
          let same = rw (← w.in-Some.ensures.1) at (forgotten_later d.era n d.threads.items k.told) in
          seen_reset d.harts d.greatest d.made d.era w.in-Some.era d.threads.items d.threads.items d.slots.items c.reset_slots.new.slots.items d.queue.items c.refill.new.queue.items same slots queue ∙ ap after_reset c.self.view_is)
      | in-None w ↦
          rw w.self-inside-is
          (let slots = rw w.self-inside-is at c.reset_slots.ensures in
          let all : c.len.result ≡ n = c.len.ensures ∙ (c.reset_slots.new.slots.ok.0 ∙ (ap length slots ∙ length-replicate n (fresh_slot n))) in
          let queue = c.refill.ensures.items ∙ ap (up_from 0) all in
          let same = rw (← w.untell.ensures) at (forgotten_untold d.era d.threads.items) in
          seen_reset d.harts d.greatest d.made d.era 1 d.threads.items w.untell.new.threads.items d.slots.items c.reset_slots.new.slots.items d.queue.items c.refill.new.queue.items same slots queue ∙ ap after_reset c.self.view_is)
    ]
