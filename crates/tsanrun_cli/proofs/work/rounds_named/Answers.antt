use Rattle.std.proofs.Common.{List, subst}
use Rattle.std.specs.Prelude.{IfOk}
use Rattle.symbol_lines.specs.Frames.{Tables, frame_in}
use Rattle.suppress_rules.specs.Stacks.{first_met, places_of}
use Rattle.report_text.specs.Offers.{is_met}
use Rattle.run_record.specs.declared.plan.Turn.{Turn}
use Rattle.run_laws.specs.Faithful.{AtOnce}
use Rattle.whole_runs.specs.Run.{IsRun}
use Rattle.tsanrun_cli.proofs.Made.{of_plan}
use Rattle.tsanrun_cli.proofs.work.rounds_named.Goals as goal

pub returns : goal.returns
returns g c =
    subst (λ (t : Tables). IfOk c.run_rounds.result (IsRun AtOnce c.args.image.now c.args.request.now.limits c.args.request.now.plan
    (is_met (λ mine previous. first_met c.args.rules.now (frame_in t) (places_of mine) (places_of previous)))))
    c.requires.names
    (of_plan (λ (plan : List Turn). IsRun AtOnce c.args.image.now c.args.request.now.limits plan
    (is_met (λ mine previous. first_met c.args.rules.now (frame_in c.args.names.now) (places_of mine) (places_of previous))))
    c.args.request.now.plan c.run_rounds.result c.run_rounds.ensures)
