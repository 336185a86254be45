use Rattle.std.proofs.Common.{◌<◌, ◌≡◌, arith}
use Rattle.std.proofs.lemmas.Bool.{lt-ltb, eqb-true}
use Rattle.offline_audit.proofs.NamePlaces.{later_entry, names_stand}
use Rattle.offline_audit.proofs.earliest.is_earlier.Goals as goal

pub returns-then-first-second : goal.returns-then-first-second
returns-then-first-second c = λ h entries a b. (
  λ t. later_entry entries h c.args.first c.args.second a b c.if-first-second.true,
  λ l. lt-ltb c.args.first.entry c.args.second.entry c.if-first-second.true,
)

pub returns-else-first-second-2 : goal.returns-else-first-second-2
returns-else-first-second-2 c = λ h entries a b. (
  λ t. absurd (c.if-first-second-2.false (eqb-true c.args.first.entry c.args.second.entry t)),
  λ l.
      let f = c.if-first-second.false in
      let n = c.if-first-second-2.false in
      let m : c.args.second.entry < c.args.first.entry = omega arith in
      let g = later_entry entries h c.args.second c.args.first b a m in
      absurd (omega arith),
)
