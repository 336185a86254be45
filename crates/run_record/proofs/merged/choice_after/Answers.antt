use Rattle.std.proofs.Common.{◌≡◌, ◌∙◌, sym, ap}
use Rattle.std.specs.Prelude.{slice_get, Some, None}
use Rattle.std.specs.Option.{option_copied}
use Rattle.run_record.proofs.MergeLaws.{chosen_skip, first_at_index, none_at_index}
use Rattle.run_record.proofs.merged.choice_after.Goals as goal

pub returns-in-Some : goal.returns-in-Some
returns-in-Some c = λ rests was at.
    let first : slice_get c.args.rest.now.rows.now 0 ≡ Some c.in-Some.row.now =
    sym c.first.ensures.value ∙ ap option_copied c.in-Some.is in
    c.choice_with.ensures rests was (first_at_index rests c.args.index c.args.rest.now c.in-Some.row.now at first)

pub returns-in-None : goal.returns-in-None
returns-in-None c = λ rests was at.
    let none : slice_get c.args.rest.now.rows.now 0 ≡ None = sym c.first.ensures.value ∙ ap option_copied c.in-None.is in
    chosen_skip rests c.args.index c.args.choice (none_at_index rests c.args.index c.args.rest.now at none) was
