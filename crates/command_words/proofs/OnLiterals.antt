-- What a proof unfolds to compute `request_of` at words that are written out.
use Rattle.std.specs.Prelude.{⊤}
use Rattle.clap.proofs.OnLiterals.{clap_on_literals}
use Rattle.command_words.specs.Command.{is_taken, matches, tool_app}
use Rattle.command_words.specs.Numbers.{has_numbers, limits_in, number_in, number_of}
use Rattle.command_words.specs.Plans.{is_plan, turn_of, turns_of}
use Rattle.command_words.specs.Requests.{fault_in, has_plan, plan_in, request_from, request_of, task_with}

unfoldable pub words_on_literals : ⊤
unfolding clap_on_literals is_taken matches tool_app has_numbers limits_in number_in number_of is_plan turn_of turns_of fault_in has_plan plan_in request_from request_of task_with
words_on_literals = tt
