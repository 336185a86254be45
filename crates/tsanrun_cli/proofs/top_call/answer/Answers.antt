use Rattle.std.specs.List.{flat_map}
use Rattle.tsanrun_cli.specs.Work.{bytes_of}
use Rattle.tsanrun_cli.proofs.Complete.{complete_from, refused_complete, run_worked, refusal_worked, out_is, err_is}
use Rattle.tsanrun_cli.proofs.top_call.answer.Goals as goal

pub returns-in-Err-clause-complete : goal.returns-in-Err-clause-complete
returns-in-Err-clause-complete g c = λ call worked told end is to reads out err.
    refused_complete call told _ _ _ _ c.in-Err.end c.refuse.result.end end is c.refuse.ensures.end (refusal_worked call _ c.in-Err.end c.in-Err.is worked) to reads out err

pub returns-in-Ok-write-clause-complete : goal.returns-in-Ok-write-clause-complete
returns-in-Ok-write-clause-complete g c = λ call worked told end is to reads out err.
    let run = run_worked call _ c.in-Ok.told c.in-Ok.is worked in
    complete_from call told is _ _ _ _ _ end (record { request = run.request; bytes = run.bytes; rules = run.run.rules; serves = run.run.serves }) to reads out err

pub returns-in-Err-write-clause-cut : goal.returns-in-Err-write-clause-cut
returns-in-Err-write-clause-cut g c = λ call worked e.
    let run = run_worked call _ c.in-Ok.told c.in-Ok.is worked in
    record {
      request = run.request;
      bytes = run.bytes;
      finished = c.in-Ok.told.finished;
      run = run.run;
      told = flat_map bytes_of c.in-Ok.told.texts.items;
      status = c.in-Ok.told.status;
      tells = run.tells;
      written = rw (out_is _ _ run, err_is _ _ run) at c.in-Err-write.ensures.cut;
    }
