use Rattle.tsanrun_cli.specs.Work.{whole_call_of}
use Rattle.tsanrun_cli.proofs.top_call.tool.Goals as goal

pub returns-clause-complete : goal.returns-clause-complete
returns-clause-complete g c = λ told end is to reads out err.
    c.answer.ensures.complete (whole_call_of c.args.words.now (g.F.Files.contents c.args.files.now) (g.F.Files.faults c.args.files.now)
    (g.F.Files.faults c.whole_work-worked.new.files) (g.F.Files.failed c.whole_work-worked.new.files)) c.whole_work-worked.ensures.run told end is to reads out err
