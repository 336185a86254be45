-- A worker's part with an instruction that was made.
use Rattle.std.proofs.Common.{◌≡◌, ◌≤◌, ◌⊎◌, inl, inr, ℕ, Bool, List, [], ◌∷◌, ◌++◌, Option, Some, None, append_assoc, refl, ap, sym, subst, ◌∙◌}
use Rattle.std.specs.Prelude.{map}
use Rattle.std.proofs.lemmas.List.{map-append}
use Rattle.run_record.specs.declared.entry.Label.{Label}
use Rattle.run_record.specs.declared.event.Event.{Event}
use Rattle.run_record.specs.declared.limits.Limits.{Limits}
use Rattle.bare_machine.specs.declared.request.Request.{Request}
use Rattle.bare_machine.specs.Step.{desk}
use Rattle.turn_orders.specs.Lists.{Each}
use Rattle.turn_orders.specs.LineUp.{Stamped}
use Rattle.place_turns.specs.Places.{Local, Value, of_nobody}
use Rattle.place_turns.specs.Turns.{Turned, steps, bare_turn}
use Rattle.race_core.specs.Watched.{Watched}
use Rattle.slot_desk.specs.Steps.{new_desk}
use Rattle.detector.specs.Stands.{awaited}
use Rattle.shared_table.specs.Past.{Log}
use Rattle.shared_table.specs.Steps.{Mine}
use Rattle.turn_histories.specs.Entries.{IsPlaceOf}
use Rattle.turn_histories.specs.Rounds.{IsIn}
use Rattle.placed_detector.specs.Standing.{Hand, Held}
use Rattle.hart_steps.specs.declared.hart.Hart.{Hart}
use Rattle.hart_steps.specs.Asked.{Asks}
use Rattle.part_races.specs.Awaits.{AwaitsInstruction}
use Rattle.part_races.specs.Rounds.{Tagged}
use Rattle.hart_parts.specs.Parts.{all_touches}
use Rattle.part_growth.specs.Growth.{checks_in, Gathered, MakesLocal, gathered_with, SoFar, Owing, nothing, needy, leave_of, IsPaidBy, IsOwedBy, owing_of, spent_by, place_in}
use Rattle.part_growth.proofs.Growing.{local_grows, object_grows}
use Rattle.part_growth.proofs.Alone.{told_local}
use Rattle.part_growth.proofs.Order.{quiet_before}
use Rattle.part_growth.proofs.Spending.{none_owed, spent_owed}
use Rattle.hart_turns.specs.Hearing.{at_rest}
use Rattle.hart_turns.specs.Instructions.{KeepsLabel, SpendsLast}
use Rattle.hart_turns.specs.Makes.{hand_at, made_of}
use Rattle.part_workers.specs.declared.part.Post.{Post}
use Rattle.part_workers.specs.declared.part.PartSoFar.{PartSoFar}
use Rattle.part_workers.specs.Begin.{BeginsFirst}
use Rattle.part_workers.specs.Parts.{gathered_in, keyed_in}
use Rattle.part_workers.specs.Makes.{GathersAlone, MakesAtObject}
use Rattle.part_workers.specs.Standing.{Stands, IsPaidFor, MayMake}
use Rattle.part_workers.proofs.Given.{are_given, none_given}
use Rattle.part_workers.proofs.Keeping.{keep_more}

-- ---- what is owed

paid_by : (file : List ℕ) (t : ℕ) (now : Hand) (owed : Owing) → IsPaidFor file t now owed → IsPaidBy file t now owed nothing
paid_by file t now nothing p = refl
paid_by file t now needy p = inr (refl, p)
paid_by file t now (leave_of l) p = absurd p

unspent : (file : List ℕ) (t : ℕ) (now : Hand) (owed : Owing) → IsPaidFor file t now owed → (l : Label) → owed ≡ leave_of l → ⊥
unspent file t now nothing p l e = absurd (let r : nothing ≡ leave_of l = e in cc)
unspent file t now needy p l e = absurd (let r : needy ≡ leave_of l = e in cc)
unspent file t now (leave_of m) p l e = absurd p

-- the events before the last one of an instruction keep the label
keep_before : (file : List ℕ) (harts t : ℕ) (found : Local) (v : Value) (left : Turned) → bare_turn file harts t steps found v ≡ left →
    (done more : List Event) (e : Event) → left.told ≡ done ++ (more ++ e ∷ []) → Each KeepsLabel more
keep_before file harts t found v left turned done [] e told = tt
keep_before file harts t found v left turned done (x ∷ []) e told =
    let q = quiet_before file harts t found v left done [] x e turned told in
    (record { raises_none = q.0; goes_on = q.1 }, tt)
keep_before file harts t found v left turned done (x ∷ (y ∷ more)) e told =
    let q = quiet_before file harts t found v left done (more ++ e ∷ []) x y turned told in (
      record { raises_none = q.0; goes_on = q.1 },
      keep_before file harts t found v left turned (done ++ x ∷ []) (y ∷ more) e (told ∙ sym (append_assoc done (x ∷ []) (y ∷ (more ++ e ∷ [])))),
    )

-- a list is empty or has a last element
ends : (es : List Event) → (es ≡ []) ⊎ ((before : List Event) × ((e : Event) × (es ≡ before ++ e ∷ [])))
ends [] = inl refl
ends (x ∷ es) = elim (ends es) [
  | inl q ↦ inr ([], (x, ap (λ (l : List Event). x ∷ l) q))
  | inr q ↦ inr (x ∷ q.0, (q.1.0, ap (λ (l : List Event). x ∷ l) q.1.1))
]

-- what is owed after the instruction
owed_then : (limits : Limits) (file : List ℕ) (harts t : ℕ) (found : Local) (v : Value) (left : Turned) (w : Watched) (es : List Event) (spent : Option Label) →
    bare_turn file harts t steps found v ≡ left → left.told ≡ es → w.greatest ≡ limits.epochs → ((l : Label) → w.label ≡ Some l → l.epoch ≤ limits.epochs) →
    SpendsLast w es spent → IsOwedBy limits (at_rest w) es (owing_of spent)
owed_then limits file harts t found v left w es spent turned told greatest epochs s = elim (ends es) [
  | inl q ↦ subst (λ (o : Option Label). IsOwedBy limits (at_rest w) es (owing_of o)) (sym (s.none q))
      (subst (λ (xs : List Event). IsOwedBy limits (at_rest w) xs nothing) (sym q) (none_owed limits (at_rest w)))
  | inr q ↦
      let keeps = keep_before file harts t found v left turned [] q.0 q.1.0 (told ∙ q.1.1) in
      subst (λ (o : Option Label). IsOwedBy limits (at_rest w) es (owing_of o)) (sym (s.last q.0 q.1.0 q.1.1 keeps))
      (subst (λ (xs : List Event). IsOwedBy limits (at_rest w) xs (owing_of (spent_by q.1.0 (at_rest w)))) (sym q.1.1)
      (spent_owed limits (at_rest w) (at_rest w) q.0 q.1.0 refl greatest epochs))
]

-- ---- without an object

same_gathered : (a b : Gathered) → a.steps ≡ b.steps → a.events ≡ b.events → a.checks ≡ b.checks → a.awaits ≡ b.awaits → a ≡ b
same_gathered a b q r s t = λ i. record { steps = q i; events = r i; checks = s i; awaits = t i }

-- a place of nobody
abbrev nowhere_held : Limits → Held
nowhere_held limits = record { bare = of_nobody; sync = record { slots = limits.slots; objects = []; spare = 0 }; desk = new_desk limits }

module _ (file : List ℕ) (limits : Limits) (post : Post) (before : Stamped Hand) where
  module _ (log log' : Log) (h asked left : Hart) (w w' : Watched) (given : Option (Option (List ℕ))) (clock : List ℕ) (r : Request) (p p' : PartSoFar)
      (owed : Owing) (spent : Option Label) (a : Stands file limits post before log (hand_at h w given) p owed) (asks : Asks file post.tid h asked r)
      (may : MayMake file limits post h w clock given) (paid : IsPaidFor file post.tid (hand_at h w given) owed) where
    began : asked.thread.began ≡ h.thread.began
    began = ap (λ (x : Hart). x.thread.began) asks.hart

    -- at an object
    pub made_at : (k : ℕ) → k ≤ desk → (x : MakesAtObject file limits post k clock r asked left w w' p p' log log' spent) →
        Stands file limits post before log' (hand_at left w' None) p' (owing_of spent)
    made_at k below x =
        let begins = subst (λ (b : Bool). BeginsFirst b x.events) began x.begins in
        let given_as = are_given limits h.thread.began given clock x.events begins may.given_to may.given_in in
        let none = none_given h.thread.began given x.events begins may.given_to in
        let m = subst (λ (g : Option (Option (List ℕ))). AwaitsInstruction file limits.harts w.era post.tid k (made_of x.events x.added) (hand_at h w given)
        (hand_at left w' g) (place_in file limits k x.found_object) (place_in file limits k x.left_object) x.awaits) none (x.makes h asks given given_as) in
        let made = subst (λ (n : ℕ). AwaitsInstruction file limits.harts n post.tid k (made_of x.events x.added) (hand_at h w given)
        (hand_at left w' None) (place_in file limits k x.found_object) (place_in file limits k x.left_object) x.awaits) may.era m in
        let tagged : Tagged = record { entry = x.tells.entry; awaited = (gathered_in p).awaits ++ x.awaits } in
        let grown = object_grows file limits post.era post.tid before log log' a.told a.found (hand_at h w given) (hand_at left w' None) p.last (gathered_in p)
        owed (owing_of spent) k (made_of x.events x.added).loads x.events x.added x.awaits x.found_object x.left_object x.tells.entry p'.last x.number
        a.so_far made (record { thread = h.thread; arrived = refl; lives = may.lives })
        (subst (IsPlaceOf k post.tid) (sym (x.object h asks)) (refl, below)) below x.numbered x.turn x.tells.entry_is may.label
        (unspent file post.tid (hand_at h w given) owed paid) (paid_by file post.tid (hand_at h w given) owed paid)
        (owed_then limits file limits.harts post.tid (hand_at h w given).bare (place_in file limits k x.found_object).bare _ w x.events spent
        made.makes.stepped refl may.greatest may.epochs (x.spends given given_as)) in
        record {
          told = a.told ++ tagged ∷ [];
          found = hand_at left w' None;
          so_far = subst (λ (g : Gathered). SoFar file limits post.era post.tid before log' (a.told ++ tagged ∷ []) (hand_at left w' None) (hand_at left w' None)
              p'.last g (owing_of spent)) (sym x.tells.gathered) grown;
          keeps = keep_more post a.told p p' tagged a.keeps x.tells.entries x.tells.waiting x.tells.inside;
        }

    -- without an object
    pub made_alone : (old new : Mine) → old.0.log ≡ log → new.0.log ≡ log' → GathersAlone file limits post.tid clock r asked left w w' p p' old new spent →
        Stands file limits post before log' (hand_at left w' None) p' nothing
    made_alone old new old_is new_is x =
        let es = x.events in
        let hears = x.made.hears in
        let begins = subst (λ (b : Bool). BeginsFirst b es) began x.begins in
        let given_as = are_given limits h.thread.began given clock es begins may.given_to may.given_in in
        let none = none_given h.thread.began given es begins may.given_to in
        let later = map awaited hears.found in
        let made : (k : ℕ) (held : Held) → AwaitsInstruction file limits.harts post.era post.tid k (made_of es hears.added) (hand_at h w given) (hand_at left w' None) held held later
        = λ k held. subst (λ (n : ℕ). AwaitsInstruction file limits.harts n post.tid k (made_of es hears.added) (hand_at h w given) (hand_at left w' None) held held later)
        may.era (subst (λ (g : Option (Option (List ℕ))). AwaitsInstruction file limits.harts w.era post.tid k (made_of es hears.added) (hand_at h w given)
        (hand_at left w' g) held held later) none (x.made.makes h asks limits.harts k held given given_as)) in
        let local : MakesLocal file limits.harts post.era post.tid (made_of es hears.added) (hand_at h w given) (hand_at left w' None) = record {
          instruction = λ k held. (made k held).makes;
          alive = record { thread = h.thread; arrived = refl; lives = may.lives };
          without_object = x.made.without_object h asks;
          local_events = told_local file limits.harts post.tid (hand_at h w given).bare (hand_at left w' None).bare of_nobody es (x.made.without_object h asks)
              (made desk (nowhere_held limits)).makes.stepped;
        } in
        let grown = local_grows file limits post.era post.tid before log log' a.told a.found (hand_at h w given) (hand_at left w' None) p.last (gathered_in p)
        owed nothing (made_of es hears.added) later a.so_far local made hears.numbered
        (sym new_is ∙ (ap (λ (m : Mine). m.0.log) hears.steps ∙ ap (λ (l : Log). l ++ all_touches (checks_in hears.added)) old_is)) may.label
        (unspent file post.tid (hand_at h w given) owed paid) (paid_by file post.tid (hand_at h w given) owed paid) in
        let same = same_gathered (gathered_in p') (gathered_with (gathered_in p) es hears.added later) x.steps x.events_are hears.checks_are
        (ap (map awaited) hears.waiting_is ∙ map-append awaited p.found.waiting.items hears.found) in
        record {
          told = a.told;
          found = a.found;
          so_far = subst (λ (g : Gathered). SoFar file limits post.era post.tid before log' a.told a.found (hand_at left w' None) p'.last g nothing) (sym same)
              (subst (λ (n : ℕ). SoFar file limits post.era post.tid before log' a.told a.found (hand_at left w' None) n
              (gathered_with (gathered_in p) es hears.added later) nothing) (sym x.last) grown);
          keeps = record {
            entries = x.entries ∙ a.keeps.entries;
            waiting = ap (map (keyed_in post.tid)) x.waiting ∙ a.keeps.waiting;
            inside = subst (Each (IsIn post.round post.era)) (sym x.entries) a.keeps.inside;
          };
        }
