-- A thread's label and its clock after an event of its own.
use Rattle.std.proofs.Common.{◌≡◌, ◌≢◌, ◌<◌, ◌≤◌, ◌+◌, ◌&&◌, max, ℕ, Bool, true, false, if◌then◌else◌, nat_lt, Option, Some, None, List, [], ◌∷◌, ◌++◌, refl, sym, ap, ap₂, ◌∙◌, arith, eq-eqb}
use Rattle.std.specs.Prelude.{option_map}
use Rattle.std.proofs.lemmas.Bool.{lt-ltb, le-ltb}
use Rattle.run_record.specs.declared.event.Event.{Event}
use Rattle.run_record.specs.declared.event.Event.TheVariants.{Begin, Create, End, Join, Enter, Leave, Lock, Unlock, Acquire, Release, Destroy, Clear, Access, Put}
use Rattle.run_record.specs.declared.entry.Label.{Label}
use Rattle.run_laws.specs.Moments.{Item, Moment}
use Rattle.run_laws.specs.Labels.{Labels, holds, is_end, raises, raised, slot_after, event_labels, next_labels}
use Rattle.run_laws.specs.Clocks.{Clocks, Place, clock_at, taken_from, event_clocks, next_clocks}
use Rattle.run_laws.specs.Window.{is_traced}
use Rattle.run_laws.specs.Present.{labels_now, label_now, clocks_now}
use Rattle.run_laws.proofs.PresentLaw.{labels_now-push, clocks_now-push}
use Rattle.race_core.proofs.OwnLaws.{not_raised}

abbrev pub slot_label : Labels → ℕ → Label
slot_label l s = record { sid = s; epoch = l.epoch s; era = l.era }

abbrev pub label_by : Labels → ℕ → Option Label
label_by l t = option_map (slot_label l) (l.slot_of t)

pub label_push : (g : ℕ) (h : List Moment) (m : Moment) (t : ℕ) (item : Item) → m.item ≡ item → label_now g (h ++ m ∷ []) t ≡ label_by (next_labels g (labels_now g h) item) t
label_push g h m t item is = ap (λ (l : Labels). label_by l t) (labels_now-push g h m) ∙ ap (λ (i : Item). label_by (next_labels g (labels_now g h) i) t) is

pub clock_push : (g : ℕ) (h : List Moment) (m : Moment) (t r : ℕ) (item : Item) → m.item ≡ item → (clocks_now g (h ++ m ∷ [])).thread t r ≡ (next_clocks g (labels_now g h) (clocks_now g h) item).thread t r
clock_push g h m t r item is = ap (λ (k : Clocks). k.thread t r) (clocks_now-push g h m) ∙ ap (λ (i : Item). (next_clocks g (labels_now g h) (clocks_now g h) i).thread t r) is

own_slot : (g : ℕ) (l : Labels) (t : ℕ) (e : Event) → (event_labels g l t e).slot_of t ≡ slot_after g l.epoch (l.slot_of t) e
own_slot g l t e = rw (eq-eqb t t refl) refl

own_clock : (g : ℕ) (l : Labels) (k : Clocks) (t : ℕ) (e : Event) (r : ℕ) → (event_clocks g l k t e).thread t r ≡ max (k.thread t r) (clock_at k (taken_from t e) r) + raised g l t e r
own_clock g l k t e r = rw (eq-eqb t t refl) refl

-- an event that raises nothing
raised_quiet : (g : ℕ) (l : Labels) (t : ℕ) (e : Event) (s : ℕ) → raises e ≡ 0 → raised g l t e s ≡ 0
raised_quiet g l t e s quiet = go (holds (l.slot_of t) s && nat_lt (l.epoch s) g)
  where
    go : (b : Bool) → (if b then raises e else 0) ≡ 0
    go true = quiet
    go false = refl

pub label_quiet : (g : ℕ) (l : Labels) (t : ℕ) (e : Event) → raises e ≡ 0 → is_end e ≡ false → label_by (event_labels g l t e) t ≡ label_by l t
label_quiet g l t e quiet goes_on = ap (option_map (slot_label (event_labels g l t e))) (own_slot g l t e) ∙ go (l.slot_of t)
  where
    kept : (s : ℕ) → slot_after g l.epoch (Some s) e ≡ Some s
    kept s = rw (goes_on, quiet) refl

    same : (s : ℕ) → slot_label (event_labels g l t e) s ≡ slot_label l s
    same s = let z = raised_quiet g l t e s quiet in let n : l.epoch s + raised g l t e s ≡ l.epoch s = omega arith in ap (λ (x : ℕ). let y : Label = record { sid = s; epoch = x; era = l.era } in y) n

    go : (o : Option ℕ) → option_map (slot_label (event_labels g l t e)) (slot_after g l.epoch o e) ≡ option_map (slot_label l) o
    go None = refl
    go (Some s) = ap (option_map (slot_label (event_labels g l t e))) (kept s) ∙ ap (λ (x : Label). Some x) (same s)

pub label_end : (g : ℕ) (l : Labels) (t : ℕ) → label_by (event_labels g l t End) t ≡ None
label_end g l t = ap (option_map (slot_label (event_labels g l t End))) (own_slot g l t End) ∙ go (l.slot_of t)
  where
    go : (o : Option ℕ) → option_map (slot_label (event_labels g l t End)) (slot_after g l.epoch o End) ≡ None
    go None = refl
    go (Some s) = refl

-- one that takes no clock in
pub clock_by : (g : ℕ) (l : Labels) (k : Clocks) (t : ℕ) (e : Event) (r : ℕ) → taken_from t e ≡ None → (event_clocks g l k t e).thread t r ≡ k.thread t r + raised g l t e r
clock_by g l k t e r none =
    let z : clock_at k (taken_from t e) r ≡ 0 = ap (λ (o : Option Place). clock_at k o r) none in
    own_clock g l k t e r ∙ (let w : max (k.thread t r) (clock_at k (taken_from t e) r) + raised g l t e r ≡ k.thread t r + raised g l t e r = omega arith in w)

pub clock_quiet : (g : ℕ) (l : Labels) (k : Clocks) (t : ℕ) (e : Event) (r : ℕ) → taken_from t e ≡ None → raises e ≡ 0 → (event_clocks g l k t e).thread t r ≡ k.thread t r
clock_quiet g l k t e r none quiet = let z = raised_quiet g l t e r quiet in clock_by g l k t e r none ∙ omega arith

-- What is known of an event that raises the epoch.
pub record Raises (t : ℕ) (e : Event) : Type 0 where
  pub untraced : is_traced e ≡ false
  pub goes_on : is_end e ≡ false
  pub takes_none : taken_from t e ≡ None

pub raising : (t : ℕ) (e : Event) → raises e ≡ 1 → Raises t e
raising t (Create child) one = record { untraced = refl; goes_on = refl; takes_none = refl }
raising t (Release addr part replaces) one = record { untraced = refl; goes_on = refl; takes_none = refl }
raising t Begin one = absurd (cc)
raising t End one = absurd (cc)
raising t (Join child) one = absurd (cc)
raising t (Enter frame) one = absurd (cc)
raising t Leave one = absurd (cc)
raising t (Lock addr read) one = absurd (cc)
raising t (Unlock addr read) one = absurd (cc)
raising t (Acquire addr part) one = absurd (cc)
raising t (Destroy addr) one = absurd (cc)
raising t (Clear addr) one = absurd (cc)
raising t (Access place addr size read atomic) one = absurd (cc)
raising t (Put value count) one = absurd (cc)

holds_own : (l : Labels) (t s : ℕ) → l.slot_of t ≡ Some s → holds (l.slot_of t) s ≡ true
holds_own l t s is = ap (λ (o : Option ℕ). holds o s) is ∙ eq-eqb s s refl

pub raised_one : (g : ℕ) (l : Labels) (t : ℕ) (e : Event) (s : ℕ) → l.slot_of t ≡ Some s → raises e ≡ 1 → l.epoch s < g → raised g l t e s ≡ 1
raised_one g l t e s is one below = ap₂ (λ (a b : Bool). if a && b then raises e else 0) (holds_own l t s is) (lt-ltb (l.epoch s) g below) ∙ one

pub raised_spent : (g : ℕ) (l : Labels) (t : ℕ) (e : Event) (s : ℕ) → l.slot_of t ≡ Some s → g ≤ l.epoch s → raised g l t e s ≡ 0
raised_spent g l t e s is spent = ap₂ (λ (a b : Bool). if a && b then raises e else 0) (holds_own l t s is) (le-ltb (l.epoch s) g spent)

pub raised_elsewhere : (g : ℕ) (l : Labels) (t : ℕ) (e : Event) (s r : ℕ) → l.slot_of t ≡ Some s → r ≢ s → raised g l t e r ≡ 0
raised_elsewhere g l t e s r is d = not_raised g l t e r (λ f. let z : Some s ≡ Some r = sym is ∙ f in let y : s ≡ r = cc in d (sym y))

abbrev pub label_made : ℕ → ℕ → ℕ → Label
label_made sid epoch era = record { sid = sid; epoch = epoch; era = era }

pub label_raised : (g : ℕ) (l : Labels) (t : ℕ) (e : Event) (s : ℕ) → l.slot_of t ≡ Some s → raises e ≡ 1 → is_end e ≡ false → l.epoch s < g →
    (epoch era : ℕ) → epoch ≡ l.epoch s + 1 → era ≡ l.era → label_by (event_labels g l t e) t ≡ Some (label_made s epoch era)
label_raised g l t e s is one goes_on below epoch era next this =
    ap (option_map (slot_label (event_labels g l t e))) (own_slot g l t e ∙ ap (λ (o : Option ℕ). slot_after g l.epoch o e) is ∙ kept) ∙ ap (λ (x : Label). Some x) same
  where
    kept : slot_after g l.epoch (Some s) e ≡ Some s
    kept = rw (goes_on, one, lt-ltb (l.epoch s) g below) refl

    same : slot_label (event_labels g l t e) s ≡ label_made s epoch era
    same =
        let z = raised_one g l t e s is one below in
        let n : l.epoch s + raised g l t e s ≡ epoch = omega arith in
        ap₂ (label_made s) n (sym this)

pub label_spent : (g : ℕ) (l : Labels) (t : ℕ) (e : Event) (s : ℕ) → l.slot_of t ≡ Some s → raises e ≡ 1 → is_end e ≡ false → g ≤ l.epoch s → label_by (event_labels g l t e) t ≡ None
label_spent g l t e s is one goes_on spent =
    ap (option_map (slot_label (event_labels g l t e))) (own_slot g l t e ∙ ap (λ (o : Option ℕ). slot_after g l.epoch o e) is ∙ lost)
  where
    lost : slot_after g l.epoch (Some s) e ≡ None
    lost = rw (goes_on, one, le-ltb (l.epoch s) g spent) refl
