use Rattle.tsanrun_cli.specs.Work.{call_of}
use Rattle.tsanrun_cli.proofs.top_call.tool_step.Goals as goal

pub returns-clause-complete : goal.returns-clause-complete
returns-clause-complete g c = λ told end is to reads out err.
    c.answer.ensures.complete (call_of c.args.words.now (g.F.Files.contents c.args.files.now) (g.F.Files.faults c.args.files.now)
    (g.F.Files.faults c.work-worked.new.files) (g.F.Files.failed c.work-worked.new.files)) c.work-worked.ensures.run told end is to reads out err
