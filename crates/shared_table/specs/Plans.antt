-- The layout that a table's rule is told.
use Rattle.shared_table.specs.declared.view.Layout.{Layout}
use Rattle.shared_table.specs.declared.plays.Plan.{Plan}

abbrev pub layout_of : Plan → Layout
layout_of plan = record { firsts = plan.firsts.value.items; sizes = plan.sizes.value.items; granules = plan.granules; limits = plan.limits }
