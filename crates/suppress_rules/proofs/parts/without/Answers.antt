use Rattle.suppress_rules.proofs.PartLaws.{without_parts}
use Rattle.suppress_rules.proofs.parts.without.Goals as goal

pub returns : goal.returns
returns c =
    without_parts _ _ _ _ _ _ _ _ _ c.part_without-count.ensures.rest c.part_without-count.ensures.left c.part_without-count-2.ensures.rest c.part_without-count-2.ensures.left c.part_without.ensures.rest
