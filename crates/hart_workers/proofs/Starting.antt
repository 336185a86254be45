-- Before the first round.
use Rattle.std.proofs.Common.{◌≡◌, ℕ, Bool, List, [], refl, arith}
use Rattle.std.specs.Prelude.{Option, Ok}
use Rattle.run_record.specs.declared.limits.Limits.{Limits}
use Rattle.elf_image.specs.File.{image_of, entry}
use Rattle.run_laws.specs.Reports.{Kept}
use Rattle.machine_desk.specs.Desks.{first_desk}
use Rattle.slot_desk.specs.Steps.{new_desk, AreDeskLimits}
use Rattle.race_core.specs.Watched.{AreWatcherLimits}
use Rattle.shared_table.specs.declared.object.DeskState.{DeskState}
use Rattle.shared_table.specs.declared.object.Object.{Object}
use Rattle.shared_table.specs.declared.view.Layout.{Layout}
use Rattle.shared_table.specs.Layouts.{IsLaidOut}
use Rattle.shared_table.specs.Rule.{opener}
use Rattle.thread_turns.specs.Ranges.{AreLimits}
use Rattle.part_runs.specs.Runs.{AreRoundLimits}
use Rattle.made_rounds.specs.Made.{first_stand}
use Rattle.made_rounds.proofs.Desk.{first_there}
use Rattle.hart_workers.specs.Crews.{IsIdle}
use Rattle.hart_workers.specs.declared.rounds.Rounds.{Rounds}
use Rattle.hart_workers.specs.Reading.{HasRead}
use Rattle.hart_workers.specs.Standing.{SoFar, IsBetween}

-- ---- limits

pub watcher_limits : (limits : Limits) → AreLimits limits → AreWatcherLimits limits
watcher_limits limits l =
    let harts = l.some_harts in
    let slots = l.harts_have_slots in
    record {
      some_slots = omega (arith, harts, slots);
      few_slots = l.few_slots;
      few_epochs = l.few_epochs;
      least_parts = l.least_parts;
      most_parts = l.most_parts;
      least_words = l.least_words;
      most_words = l.most_words;
    }

pub desk_limits : (limits : Limits) → AreLimits limits → AreDeskLimits limits
desk_limits limits l = record {
  some_harts = l.some_harts;
  few_harts = l.few_harts;
  harts_have_slots = l.harts_have_slots;
  few_slots = l.few_slots;
  some_epochs = l.some_epochs;
  few_epochs = l.few_epochs;
}

pub round_limits : (limits : Limits) → AreLimits limits → AreRoundLimits limits
round_limits limits l =
    let epochs = l.some_epochs in
    record { watcher = watcher_limits limits l; some_epochs = omega (arith, epochs); some_harts = l.some_harts }

-- ---- the start

-- nothing was reported
abbrev pub nothing_kept : Kept
nothing_kept = record { reports = []; suppressed = 0; equal = 0 }

-- the desk as it begins
abbrev pub desk_first : List ℕ → Limits → DeskState
desk_first file limits = record { desk = new_desk limits; machine = first_desk (entry file); last = 0 }

-- the numbers before the first round
pub record IsFresh (limits : Limits) (r : Rounds) : Type 0 where
  pub round : r.round ≡ 0
  pub era : r.era ≡ 0
  pub last_era : r.last_era ≡ 0
  pub base : r.base ≡ 0
  pub remaining : r.remaining ≡ limits.steps
  pub entries : r.entries ≡ []

pub starts : (meets : Option (List ℕ) → Option (List ℕ) → Bool) (file : List ℕ) (limits : Limits) (lay : Layout) (r : Rounds) →
    AreLimits limits → image_of file ≡ Ok file → IsLaidOut file limits lay → IsFresh limits r →
    ((first : Object) → IsIdle limits (first_stand limits first) r.crew.states.items) →
    HasRead limits limits.steps (desk_first file limits) r.reading → IsBetween meets file limits lay (opener lay) r nothing_kept
starts meets file limits lay r are accepted laid fresh idle read =
    let there = first_there file limits lay laid in
    let first : Object = there.0 in
    let x : SoFar = record { first = first; rounds = []; keys = []; told = [] } in
    record {
      so_far = x;
      known = record {
        set_up = record { limits_are = round_limits limits are; accepted = accepted; laid_out = laid; first_desk = there.1 };
        made = tt;
        races = tt;
        told = tt;
      };
      logs = record { own_is = refl; parts = tt; count = refl };
      kept_is = refl;
      stands = record {
        round = fresh.round;
        era = fresh.era;
        last_era = fresh.last_era;
        base = fresh.base;
        remaining = fresh.remaining;
        entries = fresh.entries;
      };
      idle = idle first;
      reading = record { desk_state = desk_first file limits; at_desk = there.2; read = read };
    }
