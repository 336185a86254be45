use Rattle.std.proofs.Common.{◌≡◌, fold, map, take}
use Rattle.clap.specs.Words.{app_of}
use Rattle.command_words.specs.Command.{with_option}
use Rattle.command_words.proofs.command.with_options.Given as goal

abbrev pub invariant-loop-name : goal.invariant-loop-name
invariant-loop-name l = app_of l.command ≡ fold with_option (app_of l.fn.command) (map (λ s. s.now) (take l.name-index l.names))
