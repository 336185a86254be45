use Rattle.std.proofs.Common.{List, subst}
use Rattle.run_record.specs.declared.entry.Entry.{Entry}
use Rattle.elf_image.specs.File.{granule_of}
use Rattle.run_laws.specs.Moments.{moments}
use Rattle.run_laws.specs.Checks.{AreAllChecks, AllStoreRightly}
use Rattle.run_laws.specs.Faithful.{AtOnce, IsFaithful}
use Rattle.machine_laws.specs.Machine.{bare_of}
use Rattle.turn_histories.specs.Rounds.{all_entries}
use Rattle.turn_histories.proofs.Faithful.{faithful}
use Rattle.turn_histories.proofs.Checked.{all_checks, all_stores}
use Rattle.deed_histories.specs.Rounds.{listed_entries}
use Rattle.deed_histories.proofs.Histories.{from_first}
use Rattle.table_deeds.specs.Objects.{held_at}
use Rattle.table_deeds.proofs.First.{first_kept}
use Rattle.table_deeds.proofs.Rounds.{all_rounds}
use Rattle.table_deeds.proofs.history_law.Goals as goal

pub returns-clause-faithful : goal.returns-clause-faithful
returns-clause-faithful c file limits lay m rs ranges first ok all =
    let k = all_rounds file limits lay rs 0 0 0 m all in
    let f = from_first file limits ranges (held_at file limits m) (first_kept file limits m first) k.rounds ok k.are in
    subst (λ (es : List (List Entry)). IsFaithful AtOnce (bare_of file limits.harts) (all_entries es)) k.entries
    (faithful file limits.harts limits.epochs limits.slots ok f.rounds (listed_entries k.rounds) f.follow f.told)

pub returns-clause-checks : goal.returns-clause-checks
returns-clause-checks c file limits lay m rs ranges first ok all =
    let k = all_rounds file limits lay rs 0 0 0 m all in
    let f = from_first file limits ranges (held_at file limits m) (first_kept file limits m first) k.rounds ok k.are in
    subst (λ (es : List (List Entry)). AreAllChecks limits.epochs (granule_of file) (all_entries es) (moments (all_entries es))) k.entries
    (all_checks file limits.harts limits.epochs limits.slots ok f.rounds (listed_entries k.rounds) f.follow f.told)

pub returns-clause-stores : goal.returns-clause-stores
returns-clause-stores c file limits lay m rs ranges first ok all =
    let k = all_rounds file limits lay rs 0 0 0 m all in
    let f = from_first file limits ranges (held_at file limits m) (first_kept file limits m first) k.rounds ok k.are in
    subst (λ (es : List (List Entry)). AllStoreRightly (moments (all_entries es))) k.entries
    (all_stores file limits.harts limits.epochs limits.slots ok f.rounds (listed_entries k.rounds) f.follow f.told)
