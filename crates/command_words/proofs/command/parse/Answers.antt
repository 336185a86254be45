use Rattle.std.proofs.Common.{◌∙◌, inr, refl}
use Rattle.command_words.proofs.Taken.{matched, not_taken, taken}
use Rattle.command_words.proofs.command.parse.Goals as goal

pub returns-in-Ok-clause-ok : goal.returns-in-Ok-clause-ok
returns-in-Ok-clause-ok c =
    (taken _ _ c.in_ok-command.ensures c.in-Ok.ensures.kinds, matched _ _ _ c.in_ok-command.ensures c.in-Ok.ensures.matches)

pub returns : goal.returns
returns c = record {
  ok = tt;
  err = inr (refl, not_taken _ _ c.in-Err.error c.in_ok-command.ensures c.in-Err.ensures.kinds (λ none. c.in_default.not-OutOfMemory (c.kind.ensures ∙ none)));
}
