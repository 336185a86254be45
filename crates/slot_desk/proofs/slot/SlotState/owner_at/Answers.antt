use Rattle.std.proofs.Common.{◌-◌, leb, arith, rules, sym, ap, ◌∙◌, Some}
use Rattle.std.proofs.lemmas.List.Sorted.{IsPartitionPoint-from_clause, IsPartitionedBy-leb}
use Rattle.slot_desk.specs.declared.slot.Attachment.{Attachment}
use Rattle.slot_desk.proofs.JournalLaws.{owner_at-none, owner_at-some}
use Rattle.slot_desk.proofs.slot.SlotState.owner_at.Goals as goal

pub returns-then-after-eq0 : goal.returns-then-after-eq0
returns-then-after-eq0 c =
    let xs = c.self.inside.journal.items in
    let n = c.partition_point-after.result in
    let e = c.args.epoch in
    let clause = rw c.deref.ensures.value at c.partition_point-after.ensures.partitioned in
    let parted = IsPartitionPoint-from_clause (λ (a : Attachment). leb a.epoch e) xs n clause (IsPartitionedBy-leb (λ (a : Attachment). a.epoch) xs e c.self.invariant.0.rising) (λ x r q k. search rules) in
    rw (← c.self.view_is) (sym (owner_at-none xs e (λ k d l. parted.1 k d (omega arith) l)))

pub returns-else-after-eq0 : goal.returns-else-after-eq0
returns-else-after-eq0 c =
    let xs = c.self.inside.journal.items in
    let n = c.partition_point-after.result in
    let e = c.args.epoch in
    let clause = rw c.deref.ensures.value at c.partition_point-after.ensures.partitioned in
    let parted = IsPartitionPoint-from_clause (λ (a : Attachment). leb a.epoch e) xs n clause (IsPartitionedBy-leb (λ (a : Attachment). a.epoch) xs e c.self.invariant.0.rising) (λ x r q k. search rules) in
    let bound = rw c.deref.ensures.value at c.partition_point-after.ensures.bound in
    rw (← c.self.view_is)
    (ap (λ (a : Attachment). Some a.tid) c.index.ensures ∙ sym (owner_at-some xs e (n - 1) c.index.result.now (omega arith) (parted.0 (n - 1) c.index.result.now (omega arith) (omega arith)) (λ k d l m. parted.1 k d (omega arith) m)))
