use Rattle.std.proofs.Common.{◌≡◌, ◌∙◌, slice_index, arith, if◌then◌else◌, None, Some, rules}
use Rattle.std.specs.Prelude.{position}
use Rattle.std.specs.List.{list_any}
use Rattle.shadow_word.specs.Cells.{word_in}
use Rattle.shadow_word.specs.Decisions.{races, repeats, place_for}
use Rattle.shadow_word.proofs.CellLaws.{Tells, Tells-word_in, races-Tells, place_for-Tells}
use Rattle.shadow_word.proofs.decision.decide.Goals as goal

pub returns-clause-race_of_word : goal.returns-clause-race_of_word
returns-clause-race_of_word c = λ small.
    let by_cell : c.map-race.result ≡ position (races (slice_index c.args.clock.now) c.args.current) c.args.words = search rules in
    let tells : Tells (word_in c.args.current) c.args.current = Tells-word_in c.args.current (omega arith) (omega arith) small in
    by_cell ∙ races-Tells (word_in c.args.current) c.args.current tells (slice_index c.args.clock.now) c.args.words

pub returns-clause-store_of_word : goal.returns-clause-store_of_word
returns-clause-store_of_word c = λ small.
    let by_cell :
    c.place_unless-store.result ≡
    (if list_any (repeats c.args.current) c.args.words then None else Some (place_for c.args.current c.args.words c.args.turn)) =
    rw c.any_repeat-repeat.ensures at c.place_unless-store.ensures in
    let tells : Tells (word_in c.args.current) c.args.current = Tells-word_in c.args.current (omega arith) (omega arith) small in
    by_cell ∙ place_for-Tells (word_in c.args.current) c.args.current tells c.args.words c.args.turn
