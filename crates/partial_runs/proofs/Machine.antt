-- The machine of a file leaves labels, in each world that it comes to.
use Rattle.std.proofs.Common.{◌≡◌, ℕ, ◌≤◌, true, List, [], ◌∷◌}
use Rattle.std.specs.Prelude.{All}
use Rattle.std.specs.List.{list_all}
use Rattle.std.proofs.lemmas.Bool.{and_parts}
use Rattle.std.proofs.lemmas.List.Elements.{All-nil, All-cons}
use Rattle.run_record.specs.declared.event.Event.{Event}
use Rattle.bare_machine.specs.World.{World}
use Rattle.bare_machine.specs.Step.{step}
use Rattle.machine_laws.specs.Machine.{bare_of}
use Rattle.machine_laws.specs.Threads.{threads_in, AreThreads}
use Rattle.machine_laws.specs.Events.{is_local}
use Rattle.machine_laws.proofs.StepLaw.{step_is}
use Rattle.machine_laws.proofs.ThreadLaw.{kept, local_raises, local_ends, start_threads}
use Rattle.one_history.specs.Reached.{ComesTo, Begins, Goes, LeavesLabel, LeaveLabels}

threads_always : (file : List ℕ) (harts : ℕ) → 1 ≤ harts → (w : World) → ComesTo (bare_of file harts) w → AreThreads w.harts (threads_in w)
threads_always file harts some _ Begins = start_threads file harts some
threads_always file harts some _ (Goes w t comes alive) = kept file w t alive (threads_always file harts some w comes)

local_all : (es : List Event) → list_all is_local es ≡ true → All LeavesLabel es
local_all [] q = All-nil LeavesLabel
local_all (e ∷ es) q =
    let p = and_parts (is_local e) (list_all is_local es) q in
    All-cons LeavesLabel e es (local_raises e p.0, local_ends e p.0) (local_all es p.1)

pub leave_labels : (file : List ℕ) (harts : ℕ) → 1 ≤ harts → LeaveLabels (bare_of file harts)
leave_labels file harts some w t comes alive none =
    local_all (step file w t).events ((step_is file w t alive (threads_always file harts some w comes)).without_object none)
