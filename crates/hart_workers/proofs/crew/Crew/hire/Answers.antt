use Rattle.std.proofs.Common.{rules, ◌≡◌, ◌+◌, ◌∷◌, [], ◌++◌, ℕ, List, get_or, take, subst, sym}
use Rattle.std.specs.Prelude.{Option}
use Rattle.std.proofs.lemmas.List.{take_more}
use Rattle.run_record.specs.declared.limits.Limits.{Limits}
use Rattle.hart_turns.specs.declared.slots.ThreadState.{ThreadState}
use Rattle.part_workers.specs.declared.worker.HartWorker.{HartWorker}
use Rattle.hart_workers.specs.declared.crew.Due.{Due}
use Rattle.hart_workers.specs.Crews.{Hires}
use Rattle.hart_workers.proofs.Hiring.{hired_more}
use Rattle.hart_workers.proofs.crew.Crew.hire.Goals as goal

as_far : {G : Type 0} (file : List ℕ) (limits : Limits) (due : Due) (old new : List (Option ThreadState)) (early late : List ℕ)
    (ws vs : List (HartWorker G)) → late ≡ early → vs ≡ ws → Hires file limits due old early new ws → Hires file limits due old late new vs
as_far file limits due old new early late ws vs e q h =
    subst (λ (z : List ℕ). Hires file limits due old z new vs) (sym e) (subst (λ (z : List (HartWorker _)). Hires file limits due old early new z) (sym q) h)

pub loop-tid-preserved : goal.loop-tid-preserved
loop-tid-preserved g c =
    let h = hired_more c.args.new.now.image.now c.args.new.now.limits.now c.args.due c.args.self.now.states.items (take c.loop-tid.tid-index c.args.live.now)
    c.loop-tid.self.states.items c.lend.new.self.states.items c.loop-tid.workers.items (get_or c.args.live.now c.loop-tid.tid-index 0) c.in_ok-state.state
    c.worker.result c.loop-tid.invariant c.in_ok-state.ensures.was c.in_ok-state.ensures.gone c.worker.ensures in
    as_far c.args.new.now.image.now c.args.new.now.limits.now c.args.due c.args.self.now.states.items c.lend.new.self.states.items
    (take c.loop-tid.tid-index c.args.live.now ++ get_or c.args.live.now c.loop-tid.tid-index 0 ∷ []) (take (c.loop-tid.tid-index + 1) c.args.live.now)
    (c.loop-tid.workers.items ++ c.worker.result ∷ []) c.push.new.self.items
    (take_more c.args.live.now c.loop-tid.tid-index 0 (search rules)) c.in_ok-push.ensures.items h
