-- An entry of a note alone may follow, and is right.
use Rattle.std.proofs.Common.{◌≡◌, ◌≢◌, ℕ, zero, suc, ◌+◌, ◌-◌, ◌≤◌, Option, List, [], ◌++◌, length, refl, sym, ap, ◌∙◌, arith}
use Rattle.std.specs.Prelude.{Contains}
use Rattle.run_record.specs.declared.event.Event.{Event}
use Rattle.run_record.specs.declared.entry.DeskNote.{DeskNote}
use Rattle.run_record.specs.declared.entry.DeskNote.TheVariants.{Nothing}
use Rattle.run_record.specs.declared.entry.Check.{Check}
use Rattle.run_record.specs.declared.entry.Entry.{Entry}
use Rattle.run_laws.specs.Moments.{Does, Moment, moment_at, entry_moments}
use Rattle.run_laws.specs.Checks.{IsGrouped}
use Rattle.run_laws.specs.Faithful.{Bare}
use Rattle.turn_laws.specs.Going.{AreRightFrom}
use Rattle.turn_laws.specs.Turns.{Turn, note_entry}
use Rattle.turn_laws.proofs.Shape.{at_right}
use Rattle.turn_laws.proofs.Growth.{MayFollow}

-- past the old moments there is the note's, or none
note_or_past : (h : List Moment) (i stamp : ℕ) (turn : Turn) (note : DeskNote) (n : ℕ) → length h ≤ n → ((moment_at (h ++ entry_moments i (note_entry stamp turn note)) n).checks ≡ []) × ((t : ℕ) (e : Event) → (moment_at (h ++ entry_moments i (note_entry stamp turn note)) n).item ≡ Does t e → ⊥)
note_or_past h i stamp turn note n l = go (n - length h) (at_right h (entry_moments i (note_entry stamp turn note)) n l)
  where
    go :
        (k : ℕ) → moment_at (h ++ entry_moments i (note_entry stamp turn note)) n ≡ moment_at (entry_moments i (note_entry stamp turn note)) k →
        ((moment_at (h ++ entry_moments i (note_entry stamp turn note)) n).checks ≡ []) × ((t : ℕ) (e : Event) → (moment_at (h ++ entry_moments i (note_entry stamp turn note)) n).item ≡ Does t e → ⊥)
    go zero q = (ap (λ (m : Moment). m.checks) q, λ t e r. let y = sym (ap (λ (m : Moment). m.item) q) ∙ r in cc)
    go (suc k) q = (ap (λ (m : Moment). m.checks) q, λ t e r. let y = sym (ap (λ (m : Moment). m.item) q) ∙ r in cc)

pub note_right : (g : ℕ) (granule_of : ℕ → Option ℕ) (h : List Moment) (i stamp : ℕ) (turn : Turn) (note : DeskNote) → AreRightFrom g granule_of (h ++ entry_moments i (note_entry stamp turn note)) (length h)
note_right g granule_of h i stamp turn note =
    record {
      checks = λ n t e l q. absurd ((note_or_past h i stamp turn note n l).1 t e q);
      stores = λ n c l b. absurd (none n c l b);
      loads = λ n c l b cell word q. absurd (none n c l b);
    }
  where
    none : (n : ℕ) (c : Check) → length h ≤ n → Contains (moment_at (h ++ entry_moments i (note_entry stamp turn note)) n).checks c → ⊥
    none n c l b = let y = b.1 in let z = ap length (note_or_past h i stamp turn note n l).0 in omega arith

pub note_grouped : (stamp : ℕ) (turn : Turn) (note : DeskNote) → IsGrouped (note_entry stamp turn note)
note_grouped stamp turn note = refl

pub note_follows : {S : Type 0} (bare : Bare S) (xs : List Entry) (stamp : ℕ) (turn : Turn) (note : DeskNote) → note ≢ Nothing → stamp ≡ length xs + 1 → MayFollow bare xs (note_entry stamp turn note)
note_follows bare xs stamp turn note some numbered = record {
  made = record { alive = λ k l. absurd (omega arith); events_are = refl };
  apart = λ k l. absurd (omega arith);
  noted = λ z. (some, refl, refl);
  unnoted = λ l. absurd (omega arith);
  numbered = numbered;
  goes_on = λ l. absurd (omega arith);
}
