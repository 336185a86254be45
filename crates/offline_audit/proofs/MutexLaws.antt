-- What stands where the events of mutexes are left out.
use Rattle.std.proofs.Common.{◌≡◌, ℕ, suc, ◌-◌, ◌==◌, max, Bool, true, false, nat_lt, if◌then◌else◌, [], sym, ap, ◌∙◌, inl, inr, arith}
use Rattle.std.specs.BTreeMap.{BTreeMap}
use Rattle.std.proofs.lemmas.Bool.{cases_Bool}
use Rattle.run_record.specs.declared.event.Event.{Event}
use Rattle.run_laws.specs.Moments.{Item, Does, Past}
use Rattle.offline_audit.specs.declared.known.Known.{Known}
use Rattle.offline_audit.specs.Heard.{known_of}
use Rattle.offline_audit.specs.Known.{AreNumbers, Stands, GoesOn, Passes}
use Rattle.offline_audit.specs.Mutexes.{mutex_events, awaited_after, awaited, is_mutex_item, is_mutex_event, without_mutexes, AreAwaited}
use Rattle.offline_audit.proofs.StandsLaw.{event_stands, quiet_stands}
use Rattle.offline_audit.proofs.MomentPlaces.{awaited-next, awaited-start}

pick_out : (b : Bool) (it : Item) (t : ℕ) (v : Event) → (if b then Past else it) ≡ Does t v → it ≡ Does t v
pick_out true it t v e = absurd (cc)
pick_out false it t v e = e

-- what is not left out is there
pub still_made : (h : ℕ → Item) (n t : ℕ) (v : Event) → without_mutexes h n ≡ Does t v → h n ≡ Does t v
still_made h n t v e = pick_out (is_mutex_event h n) (h n) t v e

numbers : (h : ℕ → Item) (number : ℕ → ℕ) → AreNumbers h number → AreNumbers (without_mutexes h) number
numbers h number nums = record { rise = λ n t e f. nums.rise n t e (still_made h n t e f); never_fall = nums.never_fall }

left_out : (h : ℕ → Item) (n : ℕ) (b : Bool) → is_mutex_event h n ≡ b → without_mutexes h n ≡ (if b then Past else h n)
left_out h n b e = ap (λ (x : Bool). if x then Past else h n) e

-- an event that belongs to no mutex is there
pub kept : (h : ℕ → Item) (n t : ℕ) (v : Event) → is_mutex_event h n ≡ false → h n ≡ Does t v → without_mutexes h n ≡ Does t v
kept h n t v e f = left_out h n false e ∙ f

no_past : (t : ℕ) (v : Event) → Past ≡ Does t v → ⊥
no_past t v e = cc

module _ (h : ℕ → Item) (n t : ℕ) (w : Event) (made : h n ≡ Does t w) (left new_left : BTreeMap ℕ ℕ) (await : AreAwaited h n left) where
  is_left : (b : Bool) → nat_lt 0 (known_of left t) ≡ b → is_mutex_event h n ≡ b
  is_left b e = ap (is_mutex_item (awaited h n)) made ∙ (ap (λ (x : ℕ). nat_lt 0 x) (sym (await t)) ∙ e)

  pub awaited_next : ((u : ℕ) → known_of new_left u ≡ (if t == u then max (mutex_events w) (known_of left u - 1) else known_of left u)) → AreAwaited h (suc n) new_left
  awaited_next step = λ u.
      step u ∙ (ap (λ (x : ℕ). awaited_after u (Does t w) x) (await u)
      ∙ (ap (λ (x : Item). awaited_after u x (awaited h n u)) (sym made) ∙ sym (awaited-next h n u)))

  -- one more event, which may be left out
  pub without_stands : (number : ℕ → ℕ) → AreNumbers h number → (k new : Known) → (nat_lt 0 (known_of left t) ≡ true → Passes k new) →
      (nat_lt 0 (known_of left t) ≡ false → GoesOn t w k new) → Stands (without_mutexes h) number n k → Stands (without_mutexes h) number (suc n) new
  without_stands number nums k new pass go st = elim (cases_Bool (nat_lt 0 (known_of left t))) [
    | inl e ↦
        let p = pass e in
        let gone : without_mutexes h n ≡ Past = left_out h n true (is_left true e) in
        quiet_stands (without_mutexes h) number (numbers h number nums) n k new (λ u v q. no_past u v (sym gone ∙ q))
        (let a = p.count in let b = st.count in let c = nums.rise n t w made in omega arith) p.steps p.places st
    | inr e ↦
        event_stands (without_mutexes h) number (numbers h number nums) n t w (left_out h n false (is_left false e) ∙ made) k new st (go e)
  ]

-- at first no thread has to make such an event
pub none_awaited : (h : ℕ → Item) (left : BTreeMap ℕ ℕ) → left.entries ≡ [] → AreAwaited h 0 left
none_awaited h left empty = λ t. rw empty (sym (awaited-start h t))
