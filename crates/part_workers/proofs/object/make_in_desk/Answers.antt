use Rattle.std.proofs.Common.{subst}
use Rattle.shared_table.specs.declared.view.Layout.{Layout}
use Rattle.shared_table.specs.Past.{IsSound}
use Rattle.shared_table.proofs.Turns.{took_holds}
use Rattle.part_workers.proofs.AtDesk.{ok_map}
use Rattle.part_workers.proofs.AtObjects.{stamped_sound, holds_with, made_desk, gave_free, gave_number, heard_of}
use Rattle.part_workers.proofs.object.make_in_desk.Goals as goal

pub make_at_desk-hearing-requires-clause-place : goal.make_at_desk-hearing-requires-clause-place
make_at_desk-hearing-requires-clause-place g c =
    subst (λ (l : Layout). IsSound l 64 c.take.result) c.requires.own.layout c.take.ensures.took.sound

pub give_back-requires-clause-holds : goal.give_back-requires-clause-holds
give_back-requires-clause-holds g c =
    holds_with 64 c.take.new.seat.me c.make_at_desk-hearing.new.seat.me c.make_at_desk-hearing.ensures.seat.items
    c.make_at_desk-hearing.ensures.seat.steps (took_holds 64 c.args.seat.now.me c.take.result c.take.new.seat.me c.take.ensures.took)

pub give_back-requires-clause-sound : goal.give_back-requires-clause-sound
give_back-requires-clause-sound g c =
    stamped_sound c.args.shared.now.layout 64 c.make_at_desk-hearing.new.place c.tell_turn-told.new.place c.tell_turn-told.ensures.place
    c.make_at_desk-hearing.ensures.sound

pub returns-clause-free : goal.returns-clause-free
returns-clause-free g c =
    gave_free 64 c.args.seat.now.me c.take.new.seat.me c.make_at_desk-hearing.new.seat.me c.give_back.new.seat.me c.take.result
    c.make_at_desk-hearing.ensures.seat.items c.take.ensures.took c.make_at_desk-hearing.ensures.seat.steps c.tell_turn-told.new.place c.give_back.ensures.gave

pub returns-clause-number : goal.returns-clause-number
returns-clause-number g c =
    gave_number 64 c.args.seat.now.me c.take.new.seat.me c.make_at_desk-hearing.new.seat.me c.give_back.new.seat.me c.take.result
    c.make_at_desk-hearing.ensures.seat.items c.take.ensures.took c.make_at_desk-hearing.ensures.seat.steps c.tell_turn-told.new.place c.give_back.ensures.gave

pub returns-clause-made : goal.returns-clause-made
returns-clause-made g c =
    ok_map _ _ c.tell_turn-told.result (λ spent told. made_desk c.args.image.now c.args.limits.now c.args.shared.now.layout c.args.post.now
    c.args.given.now c.args.request.now c.args.hart.now c.make_at_desk-hearing.new.hart c.args.watcher.now c.make_at_desk-hearing.new.watcher
    c.args.part.now c.tell_turn-told.new.part c.make_at_desk-hearing.new.findings c.make_at_desk-hearing.new.events spent
    c.args.seat.now.me c.take.new.seat.me c.make_at_desk-hearing.new.seat.me c.give_back.new.seat.me
    c.in_ok-base.base c.in_ok-base.ensures c.take.result c.make_at_desk-hearing.new.place c.tell_turn-told.new.place c.make_at_desk-hearing.result c.take.ensures.took
    (heard_of _ c.make_at_desk-hearing.result spent told.heard c.make_at_desk-hearing.ensures.made) told c.give_back.ensures.gave) c.tell_turn-told.ensures.told
