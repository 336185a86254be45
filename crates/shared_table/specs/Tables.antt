-- What holds of a table's own memory.
use Rattle.std.specs.Prelude.{◌≡◌, ℕ, ◌+◌, ◌*◌, ◌≤◌, List, length}
use Rattle.atomic_table.specs.Seated.{TableId}
use Rattle.shared_table.specs.declared.view.Layout.{Layout}
use Rattle.shared_table.specs.Layouts.{objects_of}

-- There are 65 objects, whose words and slots stand apart, and behind their words four cells for each granule. There is a place for each granule.
pub record IsTable (id : TableId) (lay : Layout) (granules : ℕ) (places : List ℕ) : Type 0 where
  pub objects : objects_of lay ≡ 65
  pub same_granules : lay.granules ≡ granules
  pub few : granules ≤ 532480
  pub words : id.words ≡ 520 + 4 * granules
  pub slots : id.slots ≡ 260
  pub all_places : length places ≡ granules
