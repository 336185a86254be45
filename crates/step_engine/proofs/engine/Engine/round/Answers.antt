use Rattle.std.proofs.Common.{◌≤◌, ◌+◌, ◌++◌, length}
use Rattle.report_text.specs.Offers.{offers}
use Rattle.thread_turns.specs.Follows.{moments_by}
use Rattle.step_engine.proofs.RoundLaws.{can_tell, few_offers}
use Rattle.step_engine.proofs.EngineLaws.{offers_fit, round-starved, round-whole, round_told}
use Rattle.step_engine.proofs.engine.Engine.round.Goals as goal

pub tell-requires-clause-can : goal.tell-requires-clause-can
tell-requires-clause-can g c = can_tell _ _ _ _ _ _ _ c.accepted.ensures c.in_ok-end.ensures.at_end

pub tell-requires-clause-room : goal.tell-requires-clause-room
tell-requires-clause-room g c =
    let t = c.in_ok-end.ensures in
    let old = c.args.self.now in
    let a : offers c.args.reporter.now.kept + length c.turns.new.self.watched.detector.waiting ≤ length (moments_by old.round (old.entries ++ t.part) c.turns.new.self.watched) = few_offers _ _ _ _ _ _ _ _ _ c.requires.told t.at_end in
    offers_fit _ _ _ _ _ _ _ _ c.requires.ready c.requires.can t a

pub returns-then-end-clause-made : goal.returns-then-end-clause-made
returns-then-end-clause-made g c = round-starved _ _ _ _ _ _ _ _ _ _ _ c.requires.can c.requires.some c.requires.ready c.in_ok-end.ensures c.in_ok-tell.ensures.told c.era-self.ensures _ c.if-end.true c.next_era.ensures

pub returns-then-end-clause-told : goal.returns-then-end-clause-told
returns-then-end-clause-told g c = round_told _ _ _ _ _ _ _ _ _ _ _ c.requires.can c.requires.some c.requires.ready c.in_ok-end.ensures c.in_ok-tell.ensures.told c.era-self.ensures c.accepted.ensures c.requires.told

pub returns-else-end-clause-made : goal.returns-else-end-clause-made
returns-else-end-clause-made g c = round-whole _ _ _ _ _ _ _ _ _ _ _ c.requires.can c.requires.some c.requires.ready c.in_ok-end.ensures c.in_ok-tell.ensures.told c.era-self.ensures c.if-end.false

pub returns-else-end-clause-told : goal.returns-else-end-clause-told
returns-else-end-clause-told g c = round_told _ _ _ _ _ _ _ _ _ _ _ c.requires.can c.requires.some c.requires.ready c.in_ok-end.ensures c.in_ok-tell.ensures.told c.era-self.ensures c.accepted.ensures c.requires.told
