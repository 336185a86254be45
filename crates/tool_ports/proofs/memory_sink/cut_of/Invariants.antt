use Rattle.std.proofs.Common.{◌≡◌, drop}
use Rattle.tool_ports.specs.Memory.{cut_at}
use Rattle.tool_ports.proofs.memory_sink.cut_of.Given as goal

abbrev pub invariant-loop-fail : goal.invariant-loop-fail
invariant-loop-fail l = cut_at l.number (drop l.fail-index l.fails) ≡ cut_at l.number l.fails
