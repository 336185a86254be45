use Rattle.std.proofs.Common.{◌∙◌, ap, is_some, if◌then◌else◌, ◌+◌}
use Rattle.sync_slab.proofs.index.add.Goals as goal

pub returns-clause-there : goal.returns-clause-there
returns-clause-there c = (rw c.unwrap.ensures at c.insert.ensures.updates).0

pub returns-clause-len : goal.returns-clause-len
returns-clause-len c =
    let absent = (rw c.unwrap.ensures at c.insert.ensures.old) ∙ c.requires.absent in
    (rw c.unwrap.ensures at c.insert.ensures.len) ∙ ap (λ o. Rattle.indexmap.specs.IndexMap.index_map_len c.args.index.now + (if is_some o then 0 else 1)) absent
