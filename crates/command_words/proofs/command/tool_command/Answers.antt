use Rattle.std.proofs.Common.{rules, ap₂, refl, fold, map, codes, ◌≡◌, ◌∙◌}
use Rattle.std.proofs.lemmas.Result.{IfOk-weaker}
use Rattle.clap.specs.Words.{app_of, rule_of}
use Rattle.clap.specs.Simple.{App, new_rule, with_rule}
use Rattle.command_words.specs.Command.{tool_app, command_rule, bare_app, with_option, option_names}
use Rattle.command_words.proofs.command.tool_command.Goals as goal

-- the command before it has options
abbrev without_options : App
without_options = with_rule (with_rule bare_app command_rule) (new_rule (codes "file"))

tool_app_is : fold with_option without_options option_names ≡ tool_app
unfolding tool_app
tool_app_is = refl

pub returns : goal.returns
returns c =
    let command_is : rule_of c.required-command.result ≡ command_rule = search rules in
    let file_is : rule_of c.new-file.result ≡ new_rule (codes "file") = search rules in
    let tool_is : app_of c.in_ok-tool.tool ≡ without_options = c.in_ok-tool.ensures.shape (search rules)
    ∙ ap₂ with_rule (c.in_ok-arg.ensures.shape (search rules) ∙ ap₂ with_rule c.bare_command.ensures command_is) file_is in
    let names_are : map (λ s. s.now) c.as_slice.result.now ≡ option_names = search rules in
    IfOk-weaker c.with_options.result _ _ (λ m h. h ∙ ap₂ (fold with_option) tool_is names_are ∙ tool_app_is) c.with_options.ensures
