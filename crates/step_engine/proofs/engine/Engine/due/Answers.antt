use Rattle.std.proofs.Common.{sym, ◌∙◌, arith, ◌≡◌, Some}
use Rattle.bare_machine.specs.World.{lives}
use Rattle.run_laws.specs.Rounds.{next_live}
use Rattle.step_engine.proofs.LiveLaws.{next-lives}
use Rattle.step_engine.proofs.engine.Engine.due.Goals as goal

pub returns-clause-can : goal.returns-clause-can
returns-clause-can c =
    let found : next_live c.args.live.now c.args.self.now.last ≡ Some c.in_ok-tid.tid = sym c.next_live.ensures ∙ c.in_ok-tid.was in
    record {
      lives_now = next-lives (lives c.args.self.now.watched.machine) _ _ _ (rw c.requires.live at found);
      within = omega arith;
    }
