-- The kept locks, as a history goes on.
use Rattle.std.proofs.Common.{◌≡◌, ℕ, suc, ◌==◌, Bool, true, false, cond, if◌then◌else◌, List, [], ◌∷◌, ◌++◌, length, Option, Some, None, refl, sym, ap, ◌∙◌, inl, inr, arith, append-nil, take}
use Rattle.std.specs.Prelude.{filter_map, fold}
use Rattle.std.specs.List.{cons_option}
use Rattle.std.proofs.lemmas.Bool.{cases_lt}
use Rattle.std.proofs.lemmas.List.{take_all}
use Rattle.std.proofs.lemmas.List.Sums.{fold-append}
use Rattle.std.proofs.lemmas.List.Elements.{filter_map-append}
use Rattle.std.proofs.Math.ListN.{get_or-eq_default}
use Rattle.std.proofs.Math.Seq.{take-suc}
use Rattle.run_record.specs.declared.event.Event.{Event}
use Rattle.run_record.specs.declared.report.KeptLock.{KeptLock}
use Rattle.run_laws.specs.Moments.{Item, Does, Past, Moment, moment_at, items}
use Rattle.run_laws.specs.Stacks.{kept_locks, locks_after, event_by, events_before}
use Rattle.kept_locks.specs.declared.held.Held.{Held}
use Rattle.kept_locks.specs.Held.{locks_by, GoOnBy, AreKept}

abbrev past : Moment
past = record { entry = 0; round = 0; item = Past; checks = [] }

events_next : (h : List Moment) (n t : ℕ) → events_before h (suc n) t ≡ events_before h n t ++ cons_option (event_by t (items h n)) []
events_next h n t = elim (cases_lt n (length h)) [
  | inl l ↦
      ap (λ (ms : List Moment). filter_map (λ (m : Moment). event_by t m.item) ms) (take-suc h n past l)
      ∙ filter_map-append (λ (m : Moment). event_by t m.item) (take n h) (moment_at h n ∷ [])
  | inr l ↦
      let here = take_all n h l in
      let next = take_all (suc n) h (omega arith) in
      let none : event_by t (items h n) ≡ None = ap (λ (m : Moment). event_by t m.item) (get_or-eq_default h past l) in
      ap (λ (ms : List Moment). filter_map (λ (m : Moment). event_by t m.item) ms) (next ∙ sym here)
      ∙ (sym (append-nil (events_before h n t)) ∙ ap (λ (o : Option Event). events_before h n t ++ cons_option o []) (sym none))
]

-- the locks after the item at position n
pub kept_next : (h : List Moment) (n t : ℕ) → kept_locks h (suc n) t ≡ fold locks_after (kept_locks h n t) (cons_option (event_by t (items h n)) [])
kept_next h n t =
    ap (fold locks_after []) (events_next h n t) ∙ fold-append locks_after [] (events_before h n t) (cons_option (event_by t (items h n)) [])

one_event : (b : Bool) (e : Event) (ls : List KeptLock) → cond b (locks_after ls e) ls ≡ fold locks_after ls (cons_option (cond b (Some e) None) [])
one_event true e ls = refl
one_event false e ls = refl

-- a thread's locks go on by its own events alone
pub event_locks : (t u : ℕ) (e : Event) (ls : List KeptLock) →
    (if t == u then locks_after ls e else ls) ≡ fold locks_after ls (filter_map (λ (k : Item). event_by u k) (Does t e ∷ []))
event_locks t u e ls = one_event (t == u) e ls

-- one more event of a thread
pub kept-event : (h : List Moment) (n t : ℕ) (e : Event) (held now : List Held) → items h n ≡ Does t e → GoOnBy t e held now →
    AreKept h n held → AreKept h (suc n) now
kept-event h n t e held now is on kept = λ u.
    on u ∙ (event_locks t u e (locks_by held u)
    ∙ (ap (λ (ls : List KeptLock). fold locks_after ls (cons_option (event_by u (Does t e)) [])) (kept u)
    ∙ (ap (λ (it : Item). fold locks_after (kept_locks h n u) (cons_option (event_by u it) [])) (sym is) ∙ sym (kept_next h n u))))

-- a position at which no thread makes an event
pub kept-quiet : (h : List Moment) (n : ℕ) (held : List Held) → ((u : ℕ) → event_by u (items h n) ≡ None) → AreKept h n held → AreKept h (suc n) held
kept-quiet h n held quiet kept = λ u.
    kept u ∙ (ap (λ (o : Option Event). fold locks_after (kept_locks h n u) (cons_option o [])) (sym (quiet u)) ∙ sym (kept_next h n u))

-- nothing happened yet
pub kept-nothing : (h : List Moment) (held : List Held) → held ≡ [] → AreKept h 0 held
kept-nothing h held none = λ t. ap (λ (ks : List Held). locks_by ks t) none
