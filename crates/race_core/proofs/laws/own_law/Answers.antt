use Rattle.std.proofs.Common.{sym, ◌∙◌}
use Rattle.run_laws.specs.Moments.{items}
use Rattle.run_laws.proofs.LabelLaw.{label_parts}
use Rattle.std.proofs.Common.{length}
use Rattle.race_core.proofs.OwnLaws.{known_at}
use Rattle.race_core.proofs.laws.own_law.Goals as goal

pub returns : goal.returns
returns c = λ limits h t w label at present is.
    let p = label_parts limits.epochs (items h) (length h) t label (sym (at.label present) ∙ is) in
    at.clock present label.sid ∙ (known_at limits.epochs (items h) (length h)).own t label.sid p.0 ∙ p.1
