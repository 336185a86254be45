use Rattle.std.proofs.Common.{lit<}
use Rattle.command_words.proofs.NumberLaws.{has_all, if_none, lacks_number, limits_are}
use Rattle.command_words.specs.Command.{rows_read}
use Rattle.command_words.proofs.numbers.numbers_in.Goals as goal

pub returns-in_err-harts-clause-none : goal.returns-in_err-harts-clause-none
returns-in_err-harts-clause-none c = if_none _ _ (lacks_number (rows_read c.args.matches.now) 0 (lit< tt) c.in_err-harts.ensures.value)

pub returns-in_err-slots-clause-none : goal.returns-in_err-slots-clause-none
returns-in_err-slots-clause-none c = if_none _ _ (lacks_number (rows_read c.args.matches.now) 1 (lit< tt) c.in_err-slots.ensures.value)

pub returns-in_err-epochs-clause-none : goal.returns-in_err-epochs-clause-none
returns-in_err-epochs-clause-none c = if_none _ _ (lacks_number (rows_read c.args.matches.now) 2 (lit< tt) c.in_err-epochs.ensures.value)

pub returns-in_err-steps-clause-none : goal.returns-in_err-steps-clause-none
returns-in_err-steps-clause-none c = if_none _ _ (lacks_number (rows_read c.args.matches.now) 3 (lit< tt) c.in_err-steps.ensures.value)

pub returns-in_err-quantum-clause-none : goal.returns-in_err-quantum-clause-none
returns-in_err-quantum-clause-none c = if_none _ _ (lacks_number (rows_read c.args.matches.now) 4 (lit< tt) c.in_err-quantum.ensures.value)

pub returns-in_err-parts-clause-none : goal.returns-in_err-parts-clause-none
returns-in_err-parts-clause-none c = if_none _ _ (lacks_number (rows_read c.args.matches.now) 5 (lit< tt) c.in_err-parts.ensures.value)

pub returns-in_err-part_words-clause-none : goal.returns-in_err-part_words-clause-none
returns-in_err-part_words-clause-none c = if_none _ _ (lacks_number (rows_read c.args.matches.now) 6 (lit< tt) c.in_err-part_words.ensures.value)

pub returns-in_err-seed-clause-none : goal.returns-in_err-seed-clause-none
returns-in_err-seed-clause-none c = if_none _ _ (lacks_number (rows_read c.args.matches.now) 7 (lit< tt) c.in_err-seed.ensures.value)

pub returns-in_err-size-clause-none : goal.returns-in_err-size-clause-none
returns-in_err-size-clause-none c = if_none _ _ (lacks_number (rows_read c.args.matches.now) 8 (lit< tt) c.in_err-size.ensures.value)

pub returns-clause-some : goal.returns-clause-some
returns-clause-some c =
    has_all (rows_read c.args.matches.now)
    (record { harts = c.in_ok-harts.harts; slots = c.in_ok-slots.slots; epochs = c.in_ok-epochs.epochs; steps = c.in_ok-steps.steps; quantum = c.in_ok-quantum.quantum; parts = c.in_ok-parts.parts; part_words = c.in_ok-part_words.part_words })
    c.in_ok-seed.seed c.in_ok-size.size
    (record { harts_is = c.in_ok-harts.ensures.value; slots_is = c.in_ok-slots.ensures.value; epochs_is = c.in_ok-epochs.ensures.value; steps_is = c.in_ok-steps.ensures.value; quantum_is = c.in_ok-quantum.ensures.value; parts_is = c.in_ok-parts.ensures.value; part_words_is = c.in_ok-part_words.ensures.value; seed_is = c.in_ok-seed.ensures.value; size_is = c.in_ok-size.ensures.value })

pub returns-clause-limits : goal.returns-clause-limits
returns-clause-limits c =
    limits_are (rows_read c.args.matches.now)
    (record { harts = c.in_ok-harts.harts; slots = c.in_ok-slots.slots; epochs = c.in_ok-epochs.epochs; steps = c.in_ok-steps.steps; quantum = c.in_ok-quantum.quantum; parts = c.in_ok-parts.parts; part_words = c.in_ok-part_words.part_words })
    c.in_ok-seed.seed c.in_ok-size.size
    (record { harts_is = c.in_ok-harts.ensures.value; slots_is = c.in_ok-slots.ensures.value; epochs_is = c.in_ok-epochs.ensures.value; steps_is = c.in_ok-steps.ensures.value; quantum_is = c.in_ok-quantum.ensures.value; parts_is = c.in_ok-parts.ensures.value; part_words_is = c.in_ok-part_words.ensures.value; seed_is = c.in_ok-seed.ensures.value; size_is = c.in_ok-size.ensures.value })
