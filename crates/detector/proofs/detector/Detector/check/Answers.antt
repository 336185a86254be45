use Rattle.std.proofs.Common.{ℕ, ap, ◌∙◌, refl}
use Rattle.std.specs.Prelude.{option_map}
use Rattle.race_core.specs.Watched.{Watched}
use Rattle.detector.proofs.detector.Detector.check.Goals as goal

pub returns-clause-check : goal.returns-clause-check
returns-clause-check c = λ a l is_access labelled. record {
  event = refl;
  granule = refl;
  word = c.check_part-word.ensures.word a l is_access (ap (λ (w : Watched). w.label) c.watcher.ensures ∙ labelled);
  turn_is = refl;
  cells = c.words_of-cells.ensures;
  stored = c.stored_word-stored.ensures ∙ ap (option_map {U = ℕ × ℕ} (λ (i : ℕ). (i, c.check_part-word.result.0))) c.check_part-word.ensures.store;
}
