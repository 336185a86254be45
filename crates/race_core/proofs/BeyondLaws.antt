-- Slots that nobody takes are known of nowhere.
use Rattle.std.proofs.Common.{◌≡◌, ◌<◌, ◌≤◌, ◌+◌, ◌==◌, ◌⊎◌, max, ℕ, Bool, true, false, if◌then◌else◌, Option, Some, None, List, [], ◌∷◌, ◌++◌, refl, inl, inr, arith, eq-eqb, ne_eqb}
use Rattle.std.proofs.lemmas.Bool.{cases_eq}
use Rattle.run_record.specs.declared.event.Event.{Event}
use Rattle.run_record.specs.declared.entry.DeskNote.TheVariants.{Nothing, Attach, Leave}
use Rattle.run_laws.specs.Moments.{Item, Does, Notes, NewEra, Past, Moment}
use Rattle.run_laws.specs.Labels.{Labels, labels, raised, slot_after, can_attach, event_labels, attach_labels, new_era, next_labels}
use Rattle.run_laws.specs.Clocks.{Clocks, Place, Spot, Of, Left, clocks, clock_at, taken_from, empties, leaves, event_clocks, attach_clocks, no_clocks, next_clocks}
use Rattle.run_laws.specs.Present.{labels_now, clocks_now}
use Rattle.run_laws.proofs.PresentLaw.{labels_now-push, clocks_now-push}
use Rattle.race_core.specs.History.{IsWithin, AttachesWithin}
use Rattle.race_core.proofs.OwnLaws.{kept_slot, not_raised}

place_unknown : (n : ℕ) (l : Labels) (k : Clocks) (r : ℕ) → IsWithin n l k → n ≤ r → (o : Option Place) → clock_at k o r ≡ 0
place_unknown n l k r b beyond None = refl
place_unknown n l k r b beyond (Some y) = b.spot (Of y) r beyond

raises_within : (g n : ℕ) (l : Labels) (k : Clocks) (t : ℕ) (e : Event) (r : ℕ) → IsWithin n l k → n ≤ r → raised g l t e r ≡ 0
raises_within g n l k t e r b beyond = not_raised g l t e r (λ f. let z = b.held t r f in absurd (omega arith))

within_event : (g n : ℕ) (l : Labels) (k : Clocks) (t : ℕ) (e : Event) → IsWithin n l k → IsWithin n (event_labels g l t e) (event_clocks g l k t e)
within_event g n l k t e b =
    record {
      held = λ u s. held u s (cases_eq u t);
      thread = λ u r beyond. thread u r beyond (cases_eq u t);
      spot = λ y r beyond. spot y r beyond (empties l t e y) (leaves l t e y);
    }
  where
    held : (u s : ℕ) → (u ≡ t) ⊎ (u ≡ t → ⊥) → (if u == t then slot_after g l.epoch (l.slot_of t) e else l.slot_of u) ≡ Some s → s < n
    held u s (inl q) = rw (eq-eqb u t q) (λ f. b.held t s (kept_slot g l.epoch (l.slot_of t) e s f))
    held u s (inr d) = rw (ne_eqb u t d) (b.held u s)

    thread : (u r : ℕ) → n ≤ r → (u ≡ t) ⊎ (u ≡ t → ⊥) → (event_clocks g l k t e).thread u r ≡ 0
    thread u r beyond (inl q) = rw (eq-eqb u t q) (let x = b.thread t r beyond in let y = place_unknown n l k r b beyond (taken_from t e) in let z = raises_within g n l k t e r b beyond in omega arith)
    thread u r beyond (inr d) = rw (ne_eqb u t d) (b.thread u r beyond)

    spot : (y : Spot) (r : ℕ) → n ≤ r → (c d : Bool) → max (if c then 0 else k.spot y r) (if d then k.thread t r else 0) ≡ 0
    spot y r beyond true true = let q = b.thread t r beyond in omega arith
    spot y r beyond true false = refl
    spot y r beyond false true = let p = b.spot y r beyond in let q = b.thread t r beyond in omega arith
    spot y r beyond false false = let p = b.spot y r beyond in omega arith

within_attach : (n : ℕ) (l : Labels) (k : Clocks) (t s : ℕ) → s < n → IsWithin n l k → IsWithin n (attach_labels l t s) (attach_clocks l k t s)
within_attach n l k t s within b =
    record {
      held = λ u r. held u r (cases_eq u t);
      thread = λ u r beyond. thread u r beyond (cases_eq u t);
      spot = b.spot;
    }
  where
    held : (u r : ℕ) → (u ≡ t) ⊎ (u ≡ t → ⊥) → (if u == t then Some s else l.slot_of u) ≡ Some r → r < n
    held u r (inl q) = rw (eq-eqb u t q) (λ f. let z : s ≡ r = cc in omega arith)
    held u r (inr d) = rw (ne_eqb u t d) (b.held u r)

    thread : (u r : ℕ) → n ≤ r → (u ≡ t) ⊎ (u ≡ t → ⊥) → (attach_clocks l k t s).thread u r ≡ 0
    thread u r beyond (inl q) = rw (eq-eqb u t q, ne_eqb r s (λ z. absurd (omega arith))) (let x = b.thread t r beyond in let y = b.spot (Left s) r beyond in omega arith)
    thread u r beyond (inr d) = rw (ne_eqb u t d) (b.thread u r beyond)

pub within_none : (n era : ℕ) → IsWithin n (new_era era) no_clocks
within_none n era = record { held = λ t s f. absurd (cc); thread = λ t r beyond. refl; spot = λ y r beyond. refl }

pub within_next : (g n : ℕ) (l : Labels) (k : Clocks) (item : Item) → IsWithin n l k → AttachesWithin n item → IsWithin n (next_labels g l item) (next_clocks g l k item)
within_next g n l k (Does t e) b a = within_event g n l k t e b
within_next g n l k (Notes t (Attach m)) b a = go (can_attach l t m.sid)
  where
    go : (c : Bool) → IsWithin n (if c then attach_labels l t m.sid else l) (if c then attach_clocks l k t m.sid else k)
    go true = within_attach n l k t m.sid a b
    go false = b
within_next g n l k (Notes t Nothing) b a = b
within_next g n l k (Notes t (Leave m)) b a = b
within_next g n l k NewEra b a = within_none n (l.era + 1)
within_next g n l k Past b a = b

pub within_first : (g n : ℕ) → IsWithin n (labels_now g []) (clocks_now g [])
unfolding labels clocks
within_first g n = within_none n 0

pub within_push : (g n : ℕ) (h : List Moment) (m : Moment) → IsWithin n (labels_now g h) (clocks_now g h) → AttachesWithin n m.item → IsWithin n (labels_now g (h ++ m ∷ [])) (clocks_now g (h ++ m ∷ []))
within_push g n h m b a = rw (labels_now-push g h m, clocks_now-push g h m) (within_next g n (labels_now g h) (clocks_now g h) m.item b a)
