-- The entries of a turn, as the history is given them.
use Rattle.std.proofs.Common.{◌≡◌, ℕ, ◌+◌, List, ◌∷◌, ◌++◌, length, ap, arith}
use Rattle.run_record.specs.declared.entry.Entry.{Entry}
use Rattle.run_record.specs.declared.flat.Head.{Head}
use Rattle.run_record.specs.Between.{entries_between}
use Rattle.turn_laws.specs.Turns.{Turn, entries_of, attach_entries, instructions_entry, leave_entry}
use Rattle.std.specs.Prelude.{option_map, option_to_list}

-- the head of the first of them, after n entries
abbrev pub first_head : ℕ → Turn → Head
first_head n t = record { round = t.round; era = t.era; stamp = n + 1; tid = t.tid; steps = t.steps }

-- the entries from that of the instructions on, which has that stamp
abbrev from_instructions : Turn → ℕ → List Entry
from_instructions t stamp = instructions_entry stamp t ∷ option_to_list (option_map (leave_entry (stamp + 1) t) t.left)

pub pushed_are : (n : ℕ) (t : Turn) → entries_between (first_head n t) t.attached t.events t.checks t.left ≡ entries_of n t
pushed_are n t =
    let m = length (attach_entries n t) in
    let stamp : n + 1 + m ≡ n + m + 1 = omega arith in
    ap (λ (s : ℕ). attach_entries n t ++ from_instructions t s) stamp
