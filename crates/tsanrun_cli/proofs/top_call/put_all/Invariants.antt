use Rattle.std.proofs.Common.{◌≤◌, take}
use Rattle.std.specs.List.{flat_map}
use Rattle.tool_ports.specs.Ports.{Appends}
use Rattle.tsanrun_cli.specs.Work.{bytes_of}
use Rattle.tsanrun_cli.proofs.top_call.put_all.Given as goal

-- the pieces so far were put, and the count of faults didn't fall
abbrev pub invariant-loop-piece : goal.invariant-loop-piece
invariant-loop-piece g l =
    record {
      put : Appends (g.O.Sink.contents l.initial.out) (g.O.Sink.contents l.out) (flat_map bytes_of (take l.piece-index l.pieces));
      later : g.O.Sink.faults l.initial.out ≤ g.O.Sink.faults l.out;
    }
