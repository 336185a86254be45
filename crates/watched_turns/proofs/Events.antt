-- Events of one instruction, and the beginnings of entries, in a history.
use Rattle.std.proofs.Common.{◌≡◌, ◌≢◌, ℕ, ◌+◌, suc, Bool, cond, List, [], ◌∷◌, ◌++◌, length, Option, Some, None, refl, sym, ap, ap₂, subst, ◌∙◌, arith, eq-eqb, ne_eqb}
use Rattle.std.specs.Prelude.{map, fold, ◌==◌, ◌%◌, option_map, option_to_list}
use mathlib.Core.Path.{fun_ext}
use Rattle.run_record.specs.declared.event.Event.{Event}
use Rattle.run_record.specs.declared.entry.Label.{Label}
use Rattle.run_record.specs.declared.entry.DeskNote.{DeskNote}
use Rattle.run_record.specs.declared.entry.DeskNote.TheVariants.{Nothing, Attach, Leave}
use Rattle.run_laws.specs.Moments.{Item, Does, Notes, NewEra, Moment, items}
use Rattle.run_laws.specs.Accesses.{access_of}
use Rattle.run_laws.specs.Clocks.{clocks}
use Rattle.run_laws.specs.Labels.{raises, label_of}
use Rattle.run_laws.specs.Stacks.{event_by, frames_after, locks_after}
use Rattle.run_laws.specs.Window.{TraceEvent, Labelled, Traced, is_traced, trace_before, traced_by}
use Rattle.turn_orders.specs.Machine.{Call, State, but, next, single, singles}
use Rattle.turn_orders.proofs.Functions.{but_here, but_each, but_same, but_twice}
use Rattle.place_clocks.specs.Places.{Own, Value}
use Rattle.place_clocks.specs.Turns.{does, label_after, own_after, value_after, clock_turn}
use Rattle.place_clocks.specs.Holds.{HasClocks, AllMay, whole_at}
use Rattle.place_clocks.proofs.Along.{turns_hold}
use Rattle.watched_turns.specs.Watch.{Watch, traced, watch_after, watch_noted, watch_along}
use Rattle.watched_turns.specs.Checking.{Loads}
use Rattle.watched_turns.specs.Turns.{Told, unchecked, event_told, events_told, AreLabelled}
use Rattle.watched_turns.specs.Along.{StandFrom, AreRight, HasWatch}
use Rattle.watched_turns.proofs.Histories.{append_nil, frames_next, locks_next}
use Rattle.watched_turns.proofs.Checks.{checks_right, stores_right, raced_right}

module _ (g : ℕ) (h : List Moment) (n : ℕ) where
  -- one item more, of which no more comes than this
  watch_next : (u : ℕ) (w : Watch) (item : Item) (more : List TraceEvent) → items h n ≡ item → traced_by g (items h) n u item ≡ more → HasWatch g h n u w
      → HasWatch g h (suc n) u (record { frames = fold frames_after w.frames (option_to_list (event_by u item)); locks = fold locks_after w.locks (option_to_list (event_by u item)); trace = w.trace ++ more })
  watch_next u w item more is comes k = record {
    frames = ap₂ (λ (fs : List ℕ) (i : Item). fold frames_after fs (option_to_list (event_by u i))) k.frames (sym is) ∙ sym (frames_next h n u);
    locks = ap₂ (λ ls (i : Item). fold locks_after ls (option_to_list (event_by u i))) k.locks (sym is) ∙ sym (locks_next h n u);
    trace = ap₂ (λ (xs ys : List TraceEvent). xs ++ ys) k.trace (sym comes ∙ ap (traced_by g (items h) n u) (sym is));
  }

  -- an item that is no event, and of which the trace is told nothing
  watch_stays : (u : ℕ) (w : Watch) (item : Item) → items h n ≡ item → event_by u item ≡ None → traced_by g (items h) n u item ≡ [] → HasWatch g h n u w → HasWatch g h (suc n) u w
  watch_stays u w item is none nothing k =
      subst (λ (ts : List TraceEvent). HasWatch g h (suc n) u (record { frames = w.frames; locks = w.locks; trace = ts })) (append_nil w.trace)
      (subst (λ o. HasWatch g h (suc n) u (record { frames = fold frames_after w.frames (option_to_list o); locks = fold locks_after w.locks (option_to_list o); trace = w.trace ++ [] })) none
      (watch_next u w item [] is nothing k))

  -- an event of a thread with this label
  module _ (t : ℕ) (e : Event) (is : items h n ≡ Does t e) (o : Option Label) (after : label_of g (items h) (suc n) t ≡ label_after g o e) where
    own_watch : (w : Watch) → HasWatch g h n t w → HasWatch g h (suc n) t (watch_after g o w e)
    own_watch w k =
        subst (λ x. HasWatch g h (suc n) t (record { frames = fold frames_after w.frames (option_to_list x); locks = fold locks_after w.locks (option_to_list x); trace = w.trace ++ traced g o e }))
        (ap (λ (b : Bool). cond b (Some e) None) (eq-eqb t t refl))
        (watch_next t w (Does t e) (traced g o e) is own_traced k)
      where
        own_traced : traced_by g (items h) n t (Does t e) ≡ traced g o e
        own_traced =
            ap (λ (b : Bool). cond b ((cond (is_traced e) (Traced e ∷ []) []) ++ (cond (raises e == 1) (option_to_list (option_map Labelled (label_of g (items h) (suc n) t))) [])) []) (eq-eqb t t refl)
            ∙ ap (λ (l : Option Label). (cond (is_traced e) (Traced e ∷ []) []) ++ (cond (raises e == 1) (option_to_list (option_map Labelled l)) [])) after

    others_watch : (u : ℕ) → u ≢ t → (w : Watch) → HasWatch g h n u w → HasWatch g h (suc n) u w
    others_watch u ne w k = watch_stays u w (Does t e) is
        (ap (λ (b : Bool). cond b (Some e) None) (ne_eqb t u (λ q. ne (sym q))))
        (ap (λ (b : Bool). cond b ((cond (is_traced e) (Traced e ∷ []) []) ++ (cond (raises e == 1) (option_to_list (option_map Labelled (label_of g (items h) (suc n) u))) [])) []) (ne_eqb t u (λ q. ne (sym q))))
        k

    pub event_watches : (watch : ℕ → Watch) → ((u : ℕ) → HasWatch g h n u (watch u)) → (u : ℕ) → HasWatch g h (suc n) u (but watch t (watch_after g o (watch t) e) u)
    event_watches watch k u = but_each (λ (v : ℕ) (w : Watch). HasWatch g h (suc n) v w) watch t (watch_after g o (watch t) e) (own_watch (watch t) (k t)) (λ v ne. others_watch v ne (watch v) (k v)) u

  -- an entry of thread t begins
  module _ (t : ℕ) (note : DeskNote) (is : items h n ≡ Notes t note) where
    own_noted : (x : DeskNote) → items h n ≡ Notes t x → (w : Watch) → HasWatch g h n t w → HasWatch g h (suc n) t (watch_noted w (Notes t x))
    own_noted Nothing q w k = watch_stays t w (Notes t Nothing) q refl refl k
    own_noted (Leave l) q w k = watch_stays t w (Notes t (Leave l)) q refl refl k
    own_noted (Attach l) q w k = watch_next t w (Notes t (Attach l)) (Labelled l ∷ []) q (ap (λ (b : Bool). cond b (Labelled l ∷ []) []) (eq-eqb t t refl)) k

    others_traced : (x : DeskNote) (u : ℕ) → u ≢ t → traced_by g (items h) n u (Notes t x) ≡ []
    others_traced Nothing u ne = refl
    others_traced (Leave l) u ne = refl
    others_traced (Attach l) u ne = ap (λ (b : Bool). cond b (Labelled l ∷ []) []) (ne_eqb t u (λ q. ne (sym q)))

    pub note_watches : (watch : ℕ → Watch) → ((u : ℕ) → HasWatch g h n u (watch u)) → (u : ℕ) → HasWatch g h (suc n) u (but watch t (watch_noted (watch t) (Notes t note)) u)
    note_watches watch k u =
        but_each (λ (v : ℕ) (w : Watch). HasWatch g h (suc n) v w) watch t (watch_noted (watch t) (Notes t note)) (own_noted note is (watch t) (k t))
        (λ v ne. watch_stays v (watch v) (Notes t note) is refl (others_traced note v ne) (k v)) u

  pub era_watches : items h n ≡ NewEra → (u : ℕ) (w : Watch) → HasWatch g h n u w → HasWatch g h (suc n) u w
  era_watches is u w k = watch_stays u w NewEra is refl refl k

-- the items are beginnings of entries of the thread
abbrev pub AreNotes : ℕ → List Item → Type 0
AreNotes t [] = Unit {0}
AreNotes t (i ∷ is) = ((note : DeskNote) × (i ≡ Notes t note)) × AreNotes t is

-- What was told from position n on is right, and the watches are those after it, where the thread's is the one given.
pub record Made (file : List ℕ) (g : ℕ) (h : List Moment) (n t : ℕ) (watch : ℕ → Watch) (told : List Told) (last : Watch) : Type 0 where
  pub right : AreRight file g h n told
  pub watches : (u : ℕ) → HasWatch g h (n + length told) u (but watch t last u)

module _ (file : List ℕ) (g slots : ℕ) (h : List Moment) (t : ℕ) where
  none_made : (n : ℕ) (watch : ℕ → Watch) (w : Watch) → watch t ≡ w → ((u : ℕ) → HasWatch g h n u (watch u)) → Made file g h n t watch [] w
  none_made n watch w is k = record {
    right = tt;
    watches = λ u.
        let e : n ≡ n + 0 = omega arith in
        subst (λ (i : ℕ). HasWatch g h i u (but watch t w u)) e
        (subst (λ (f : ℕ → Watch). HasWatch g h n u (f u)) (sym (but_same watch t) ∙ ap (but watch t) is) (k u));
  }

  more_made : (n : ℕ) (watch : ℕ → Watch) (x : Told) (xs : List Told) (one last : Watch) → AreRight file g h n (x ∷ []) → Made file g h (suc n) t (but watch t one) xs last → Made file g h n t watch (x ∷ xs) last
  more_made n watch x xs one last right rest = record {
    right = (right.0, rest.right);
    watches = λ u.
        let e : suc n + length xs ≡ n + suc (length xs) = omega arith in
        subst (λ (i : ℕ). HasWatch g h i u (but watch t last u)) e
        (subst (λ (f : ℕ → Watch). HasWatch g h (suc n + length xs) u (f u)) (but_twice watch t one last) (rest.watches u));
  }

  -- ---- events

  module _ (k : ℕ) (loads : Loads) where
    pub events_made : (n : ℕ) (m : State Own Value) (watch : ℕ → Watch) (i : ℕ) (o : Own) (v : Value) (w : Watch) (es : List Event) → m.local t ≡ o → m.value k ≡ v → watch t ≡ w
        → HasClocks (whole_at g slots (items h) n) m → AllMay g m (singles t k (map does es)) → ((u : ℕ) → HasWatch g h n u (watch u)) → AreLabelled g o.label es
        → StandFrom h n (events_told file g t loads i o v w es) → Made file g h n t watch (events_told file g t loads i o v w es) (watch_along g t o v w es)
    events_made n m watch i o v w [] mo mv mw clk may kept labelled stand = none_made n watch w mw kept
    events_made n m watch i o v w (e ∷ es) mo mv mw clk may kept labelled stand =
        let c : Call Rattle.place_clocks.specs.Turns.Act = single t k (does e) in
        let later = turns_hold g slots (items h) n m (c ∷ []) clk (may.0, tt) (stand.0.item, tt) in
        let q : n + 1 ≡ suc n = omega arith in
        let after : HasClocks (whole_at g slots (items h) (suc n)) (next (clock_turn g) m c) = subst (λ (j : ℕ). HasClocks (whole_at g slots (items h) j) (next (clock_turn g) m c)) q later in
        let own : (next (clock_turn g) m c).local t ≡ own_after g e o v = but_here m.local t t (own_after g e (m.local t) (m.value k)) refl ∙ ap₂ (own_after g e) mo mv in
        let its : (next (clock_turn g) m c).value k ≡ value_after g t e o v = but_here m.value k k (value_after g t e (m.local t) (m.value k)) refl ∙ ap₂ (value_after g t e) mo mv in
        let label : label_of g (items h) n t ≡ o.label = sym (clk.own.label t) ∙ ap (λ (x : Own). x.label) mo in
        let label_then : label_of g (items h) (suc n) t ≡ label_after g o.label e = sym (after.own.label t) ∙ ap (λ (x : Own). x.label) own in
        let clock : o.clock ≡ (clocks g (items h) n).thread t = ap (λ (x : Own). x.clock) (sym mo) ∙ fun_ext (clk.own.clock t) in
        let turn : length w.trace % 4 ≡ length (trace_before g (items h) n t) % 4 = ap (λ (x : Watch). length x.trace % 4) (sym mw) ∙ ap (λ (xs : List TraceEvent). length xs % 4) (kept t).trace in
        let one : Watch = watch_after g o.label w e in
        let step = event_watches g h n t e stand.0.item o.label label_then watch kept in
        let same : but watch t (watch_after g o.label (watch t) e) ≡ but watch t one = ap (λ (x : Watch). but watch t (watch_after g o.label x e)) mw in
        more_made n watch (event_told file t (loads i) o w e) (events_told file g t loads (i + 1) (own_after g e o v) (value_after g t e o v) one es) one
        (watch_along g t (own_after g e o v) (value_after g t e o v) one es) (
          record {
            checks = checks_right file g h n t (length w.trace % 4) turn (loads i) o.label (access_of e) label labelled.0 stand.0.checks;
            stores = stores_right file g h n t (length w.trace % 4) turn (loads i) o.label (access_of e) label stand.0.checks;
            race_is = raced_right g h n t w o.clock (event_told file t (loads i) o w e).checks (subst (HasWatch g h n t) mw (kept t)) clock stand.0.checks;
          },
          tt,
        )
        (events_made (suc n) (next (clock_turn g) m c) (but watch t one) (i + 1) (own_after g e o v) (value_after g t e o v) one es own its (but_here watch t t one refl)
        after may.1 (λ u. subst (λ (f : ℕ → Watch). HasWatch g h (suc n) u (f u)) same (step u)) labelled.1 stand.1)

  -- ---- beginnings of entries

  pub notes_made : (n : ℕ) (watch : ℕ → Watch) (w : Watch) (is : List Item) → watch t ≡ w → AreNotes t is → ((u : ℕ) → HasWatch g h n u (watch u)) → StandFrom h n (map unchecked is)
      → Made file g h n t watch (map unchecked is) (fold watch_noted w is)
  notes_made n watch w [] mw notes kept stand = none_made n watch w mw kept
  notes_made n watch w (i ∷ is) mw notes kept stand =
      let one : Watch = watch_noted w i in
      let at : items h n ≡ Notes t notes.0.0 = stand.0.item ∙ notes.0.1 in
      let step = note_watches g h n t notes.0.0 at watch kept in
      let same : but watch t (watch_noted (watch t) (Notes t notes.0.0)) ≡ but watch t one = ap₂ (λ (x : Watch) (j : Item). but watch t (watch_noted x j)) mw (sym notes.0.1) in
      more_made n watch (unchecked i) (map unchecked is) one (fold watch_noted one is) (subst (λ (j : Item). AreRight file g h n (unchecked j ∷ [])) (sym notes.0.1) (tt, tt))
      (notes_made (suc n) (but watch t one) one is (but_here watch t t one refl) notes.1 (λ u. subst (λ (f : ℕ → Watch). HasWatch g h (suc n) u (f u)) same (step u)) stand.1)
