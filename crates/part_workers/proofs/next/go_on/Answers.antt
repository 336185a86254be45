use Rattle.std.proofs.Common.{◌≡◌, ℕ, List, Some, ap, sym, subst, ◌∙◌}
use Rattle.bare_machine.specs.Asked.{IsShallow}
use Rattle.bare_machine.specs.Preview.{thread_needs}
use Rattle.hart_steps.specs.declared.hart.Hart.{Hart}
use Rattle.hart_steps.specs.Asked.{Asks}
use Rattle.hart_turns.specs.Serves.{HasAsked}
use Rattle.part_workers.proofs.NextTurn.{went_on, slot_same}
use Rattle.part_workers.proofs.next.go_on.Goals as goal

pub make-requires-clause-asked : goal.make-requires-clause-asked
make-requires-clause-asked g c =
    let has = let z = c.if-not-branch.false in c.in_ok-with_slot.ensures.has (cc) in
    let same = slot_same c.args.limits.now c.args.post.now c.ask-request.result.1 c.ask-request.new.hart c.in-Some-hart.hart c.args.state.now.watcher
    c.args.part.now c.with_slot.new.part c.args.seat.now.me.0.log c.with_slot.new.seat.me.0.log c.with_slot.new.state c.with_slot.new.given has
    (c.in-Some-hart.is ∙ ap Some c.in-Some-hart.hart-is) in
    subst (λ (h : Hart). HasAsked c.args.image.now c.args.post.now.tid h c.ask-request.result.0) (sym same)
    (record {
      found = c.in-Some.hart;
      asks = subst (λ (file : List ℕ). Asks file c.args.post.now.tid c.in-Some.hart c.ask-request.new.hart c.ask-request.result.0)
          c.requires.code c.ask-request.ensures.asks;
    })

pub make-requires-clause-shallow : goal.make-requires-clause-shallow
make-requires-clause-shallow g c =
    let has = let z = c.if-not-branch.false in c.in_ok-with_slot.ensures.has (cc) in
    let same = slot_same c.args.limits.now c.args.post.now c.ask-request.result.1 c.ask-request.new.hart c.in-Some-hart.hart c.args.state.now.watcher
    c.args.part.now c.with_slot.new.part c.args.seat.now.me.0.log c.with_slot.new.seat.me.0.log c.with_slot.new.state c.with_slot.new.given has
    (c.in-Some-hart.is ∙ ap Some c.in-Some-hart.hart-is) in
    subst (λ (h : Hart). IsShallow c.ask-request.result.0 h.thread.depth) (sym same) c.ask-request.ensures.shallow

pub returns-clause-goes : goal.returns-clause-goes
returns-clause-goes g c =
    let has = let z = c.if-not-branch.false in c.in_ok-with_slot.ensures.has (cc) in
    let undone = let z = c.if-not-is_undone.false in c.is_undone.ensures (cc) in
    λ e. went_on c.args.image.now c.args.limits.now c.args.post.now c.ask-request.new.hart c.make.new.hart c.in-Some.hart c.args.state.now
    c.with_slot.new.state c.make.new.watcher c.ask-request.result.0 c.ask-request.result.1 c.args.part.now c.with_slot.new.part c.make.new.part
    c.args.seat.now.me.0.log c.with_slot.new.seat.me.0.log c.make.new.seat.me.0.log c.with_slot.new.given c.in-Some-hart.hart
    (c.in-Some.is ∙ ap Some c.in-Some.hart-is)
    (subst (λ (file : List ℕ). Asks file c.args.post.now.tid c.in-Some.hart c.ask-request.new.hart c.ask-request.result.0) c.requires.code
    c.ask-request.ensures.asks)
    (subst (λ (file : List ℕ). c.ask-request.result.1 ≡ thread_needs file c.args.post.now.tid (Some c.in-Some.hart.thread)) c.requires.code
    c.ask-request.ensures.needs) undone has (c.in-Some-hart.is ∙ ap Some c.in-Some-hart.hart-is)
    (λ l q. c.label-label.ensures.label l (c.label-label.ensures.value ∙ q)) c.in_ok-make.ensures.made
