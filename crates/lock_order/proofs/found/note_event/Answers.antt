use Rattle.std.proofs.Common.{ap, ◌∙◌, ℕ}
use Rattle.std.specs.BTreeMap.{BTreeMap}
use Rattle.kept_locks.specs.Held.{locks_by}
use Rattle.lock_order.specs.Found.{first_by}
use Rattle.lock_order.proofs.EdgeLaws.{no_lock}
use Rattle.lock_order.proofs.found.note_event.Goals as goal
use Rattle.lock_order.proofs.found.note_event.Goals.{in-Lock+in_ok-add_edges, in_default}

pub returns-clause-edges : goal.returns-clause-edges
returns-clause-edges c = λ x y. elim c.match-event.branch [
  | in-Lock+in_ok-add_edges w ↦
      ap (λ (f : BTreeMap (ℕ × ℕ) ℕ). first_by f x y) w.found-is ∙ rw (w.in-Lock.is, ← w.deref.ensures.value) (w.in_ok-add_edges.ensures x y w.in-Lock.read)
  | in_default w ↦
      ap (λ (f : BTreeMap (ℕ × ℕ) ℕ). first_by f x y) w.found-is
      ∙ no_lock (first_by c.args.found.now x y) c.args.tid x y (locks_by c.args.held.now.items c.args.tid) c.args.event.now w.in_default.not-Lock
]
