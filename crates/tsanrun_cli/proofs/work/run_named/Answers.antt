use Rattle.std.proofs.Common.{subst}
use Rattle.std.specs.Prelude.{IfOk}
use Rattle.symbol_lines.specs.Frames.{Tables, frame_in}
use Rattle.suppress_rules.specs.Stacks.{first_met, places_of}
use Rattle.report_text.specs.Offers.{is_met}
use Rattle.run_laws.specs.Faithful.{OneByOne}
use Rattle.whole_runs.specs.Run.{IsRun}
use Rattle.tsanrun_cli.proofs.work.run_named.Goals as goal

pub returns : goal.returns
returns c =
    subst (λ (t : Tables). IfOk c.run_plan.result (IsRun OneByOne c.args.image.now c.args.request.now.limits c.args.request.now.plan
    (is_met (λ mine previous. first_met c.args.rules.now (frame_in t) (places_of mine) (places_of previous)))))
    c.requires.names c.run_plan.ensures
