use Rattle.std.proofs.Common.{◌≡◌, ◌+◌, Bool, ◌∙◌, ap, sym, subst, arith, refl}
use Rattle.std.specs.Prelude.{is_some}
use Rattle.bare_machine.specs.World.{HasMemory}
use Rattle.bare_machine.specs.Step.{Step}
use Rattle.thread_turns.specs.declared.part.Part.{Part}
use Rattle.thread_turns.proofs.InstructionLaws.{MakesNext, can_hear_all, makes_labelled, makes_quiet, ready_of, tries_of, step_made}
use Rattle.thread_turns.proofs.watched.WatchedMachine.instruction.Goals as goal
use Rattle.thread_turns.proofs.watched.WatchedMachine.instruction.Goals.{then-labelled+in_ok-hear_all, else-labelled+in_ok-extend_from_slice}

pub hear_all-requires : goal.hear_all-requires
hear_all-requires c =
    let made = step_made _ _ _ _ _ _ _ _ c.in-Made.object c.requires.code c.in-Made.is c.in_ok-object.ensures.ok in
    let labelled = c.is_some-labelled.ensures ∙ ap is_some c.label.ensures in
    record { can = can_hear_all _ _ _ _ _ (ready_of _ _ _ _ _ c.requires.next c.requires.unused labelled made.needless) c.requires.unused (c.as_slice-events.ensures ∙ sym (ap (λ (x : Step). x.events) made.step_is)) (sym labelled ∙ c.if-labelled.true) }

pub overflow_add-part : goal.overflow_add-part
overflow_add-part c = elim c.if-labelled.branch [
  | then-labelled+in_ok-hear_all w ↦
      let made = step_made _ _ _ _ _ _ _ _ c.in-Made.object c.requires.code c.in-Made.is c.in_ok-object.ensures.ok in
      let labelled = c.is_some-labelled.ensures ∙ ap is_some c.label.ensures in
      let ready = ready_of _ _ _ _ _ c.requires.next c.requires.unused labelled made.needless in
      let n = ready.next in
      let r = w.hear_all.new.part in
      let makes = makes_labelled _ _ _ r (record r { steps = r.steps + 1; used = is_some c.in-Made.object }) _ c.step.new.self _ c.in-Made.object _ c.requires.unused
      (record { world = sym (ap (λ (x : Step). x.world) made.step_is); events = c.as_slice-events.ensures ∙ sym (ap (λ (x : Step). x.events) made.step_is); object_is = sym (ap (λ (x : Step). x.object) made.step_is); memory = subst (λ f. HasMemory f c.step.new.self) c.requires.code c.in_ok-object.ensures.memory })
      (sym labelled ∙ w.if-labelled.true) w.in_ok-hear_all.ensures refl in
      let more : r.steps + 1 ≡ c.args.part.now.steps + 1 = (makes n.setting n.file_is n.tid_is n.going_on ready.can n.room).1 in
      let same = ap (λ (x : Part). x.steps) w.part-is in
      let room = c.requires.next.room in
      omega arith
  | else-labelled+in_ok-extend_from_slice w ↦
      let same = ap (λ (x : Part). x.steps) w.part-is in
      let room = c.requires.next.room in
      omega arith
]

pub returns : goal.returns
returns c =
    let made = step_made _ _ _ _ _ _ _ _ c.in-Made.object c.requires.code c.in-Made.is c.in_ok-object.ensures.ok in
    let labelled = c.is_some-labelled.ensures ∙ ap is_some c.label.ensures in
    let memory = subst (λ f. HasMemory f c.step.new.self) c.requires.code c.in_ok-object.ensures.memory in
    tries_of _ _ _ _ _ _ _ c.requires.unused labelled made.needless (elim c.if-labelled.branch [
      | then-labelled+in_ok-hear_all w ↦
          let r = w.hear_all.new.part in
          subst (MakesNext _ _ _ _ _) (sym w.self-is)
          (makes_labelled _ _ _ r _ _ c.step.new.self _ c.in-Made.object _ c.requires.unused
          (record { world = sym (ap (λ (x : Step). x.world) made.step_is); events = c.as_slice-events.ensures ∙ sym (ap (λ (x : Step). x.events) made.step_is); object_is = sym (ap (λ (x : Step). x.object) made.step_is); memory = memory })
          (sym labelled ∙ w.if-labelled.true) w.in_ok-hear_all.ensures
          (ap (λ (x : Part). record x { steps = x.steps + 1; used = c.is_some-part.result }) w.part-is ∙ ap (λ (b : Bool). record r { steps = r.steps + 1; used = b }) c.is_some-part.ensures))
      | else-labelled+in_ok-extend_from_slice w ↦
          let p = c.args.part.now in
          subst (MakesNext _ _ _ _ _) (sym w.self-is)
          (makes_quiet _ _ p _ _ c.step.new.self _ c.in-Made.object c.requires.unused
          (record { world = sym (ap (λ (x : Step). x.world) made.step_is); events = c.as_slice-events.ensures ∙ sym (ap (λ (x : Step). x.events) made.step_is); object_is = sym (ap (λ (x : Step). x.object) made.step_is); memory = memory })
          (sym labelled ∙ w.if-labelled.false)
          (ap (λ (x : Part). record x { steps = x.steps + 1; used = c.is_some-part.result }) w.part-is ∙ (ap (λ (b : Bool). record p { events = w.extend_from_slice.new.self; steps = p.steps + 1; used = b }) c.is_some-part.ensures ∙ ap (λ (es : _). record p { events = es; steps = p.steps + 1; used = is_some c.in-Made.object }) w.in_ok-extend_from_slice.ensures.ok)))
    ])
