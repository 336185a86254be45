-- The events of an instruction so far, and one more.
use Rattle.std.proofs.Common.{◌≡◌, ◌≤◌, ◌<◌, ◌+◌, ℕ, suc, Option, Some, None, List, [], ◌∷◌, ◌++◌, length, get_or, flat_map, map, cond, ◌==◌, append-nil, append_assoc, length-append, refl, ap, ap₂, sym, subst, ◌∙◌, arith}
use Rattle.std.specs.List.{AllZip}
use Rattle.std.proofs.lemmas.Grind.{flat_map-append}
use Rattle.std.proofs.lemmas.List.{flat_map_more, map-append}
use Rattle.run_record.specs.declared.entry.Check.{Check}
use Rattle.run_record.specs.declared.entry.Label.{Label}
use Rattle.run_record.specs.declared.event.Event.{Event}
use Rattle.run_record.specs.declared.event.Event.TheVariants as events
use Rattle.run_record.specs.declared.limits.Limits.{Limits}
use Rattle.run_laws.specs.Accesses.{Access, Part, access_of, parts_of}
use Rattle.run_laws.specs.Checks.{StoresRightly}
use Rattle.run_laws.specs.Labels.{raises}
use Rattle.elf_image.specs.File.{granule_of}
use Rattle.turn_orders.specs.Lists.{Each}
use Rattle.turn_orders.proofs.Members.{each_append, each_parts}
use Rattle.slot_desk.specs.Desks.{DeskContents}
use Rattle.slot_desk.specs.Steps.{new_desk}
use Rattle.sync_slab.specs.Objects.{SyncObjects}
use Rattle.race_core.specs.Watched.{Watched, next_label, raised_to}
use Rattle.race_core.specs.declared.watcher.Candidate.{Candidate}
use Rattle.report_laws.specs.Awaited.{Awaited}
use Rattle.detector.specs.Stands.{awaited}
use Rattle.thread_events.specs.Heard.{watcher_after, raised_or_lost_to, lost_label_to}
use Rattle.watched_turns.specs.Checking.{Loads, four}
use Rattle.watched_turns.specs.Right.{AreLoaded}
use Rattle.shared_table.specs.declared.object.Object.{Object}
use Rattle.shared_table.specs.declared.object.Object.TheVariants.{Stripe, Desk}
use Rattle.shared_table.specs.Steps.{Mine}
use Rattle.placed_detector.specs.Instructions.{Beside, HearsEvent, HearsEvents, ChecksAccess, ChecksPart, told_in, given_after}
use Rattle.deed_histories.specs.Deeds.{AreNumbered}
use Rattle.hart_events.specs.Events.{lost_after}
use Rattle.hart_parts.specs.Parts.{touches_of, all_touches}
use Rattle.part_races.specs.Awaits.{awaits_at, AwaitsEvents}
use Rattle.part_races.proofs.Growing.{one_more_event}
use Rattle.hart_turns.specs.Checks.{with_items}
use Rattle.hart_turns.specs.Hearing.{at_rest}
use Rattle.hart_turns.specs.Places.{beside_at, IsGivenAs, SameBare, HearsOne}
use Rattle.hart_turns.specs.Instructions.{words_of, loads_of, given_after_all, AreGivenAs, KeepsLabel, SpendsLast, HearsAll}
use Rattle.hart_turns.proofs.Checking.{no_items, more_items}
use Rattle.hart_turns.proofs.OneEvent.{same_bare}

-- ---- lists

same_ends : {X : Type 0} (xs ys : List X) (x y : X) → xs ++ x ∷ [] ≡ ys ++ y ∷ [] → (xs ≡ ys) × (x ≡ y)
same_ends [] [] x y q = let r : x ∷ [] ≡ y ∷ [] = q in (refl, cc)
same_ends [] (b ∷ []) x y q = absurd (let r : x ∷ [] ≡ b ∷ (y ∷ []) = q in cc)
same_ends [] (b ∷ (c ∷ ys)) x y q = absurd (let r : x ∷ [] ≡ b ∷ (c ∷ (ys ++ y ∷ [])) = q in cc)
same_ends (a ∷ []) [] x y q = absurd (let r : a ∷ (x ∷ []) ≡ y ∷ [] = q in cc)
same_ends (a ∷ (c ∷ xs)) [] x y q = absurd (let r : a ∷ (c ∷ (xs ++ x ∷ [])) ≡ y ∷ [] = q in cc)
same_ends {X} (a ∷ xs) (b ∷ ys) x y q =
    let r : a ∷ (xs ++ x ∷ []) ≡ b ∷ (ys ++ y ∷ []) = q in
    let s = same_ends xs ys x y (cc) in
    let h : a ≡ b = cc in
    (ap₂ (λ (z : X) (zs : List X). z ∷ zs) h s.0, s.1)

-- ---- what checks loaded

abbrev pub HasFour : Check → Type 0
HasFour c = length c.cells ≡ 4

four_of : (cells : List ℕ) → length cells ≡ 4 → four (λ (n : ℕ). get_or cells n 0) ≡ cells
four_of (a ∷ (b ∷ (c ∷ (d ∷ [])))) long = refl
four_of [] long = absurd (omega arith)
four_of (a ∷ []) long = absurd (omega arith)
four_of (a ∷ (b ∷ [])) long = absurd (omega arith)
four_of (a ∷ (b ∷ (c ∷ []))) long = absurd (omega arith)
four_of (a ∷ (b ∷ (c ∷ (d ∷ (e ∷ rest))))) long = absurd (omega arith)

-- words that the first check of a list didn't load
loaded_past : (c : Check) (cs xs : List Check) (p : ℕ) → AreLoaded (words_of cs) p xs → AreLoaded (words_of (c ∷ cs)) (suc p) xs
loaded_past c cs [] p l = tt
loaded_past c cs (x ∷ xs) p l = (l.0, subst (λ (n : ℕ). AreLoaded (words_of (c ∷ cs)) n xs) (let z : suc (p + 1) ≡ suc p + 1 = omega arith in z) (loaded_past c cs xs (p + 1) l.1))

words_loaded : (cs : List Check) → Each HasFour cs → AreLoaded (words_of cs) 0 cs
words_loaded [] h = tt
words_loaded (c ∷ cs) h = (four_of c.cells h.0, loaded_past c cs cs 0 (words_loaded cs h.1))

-- the words that each event's checks loaded
abbrev pub AreAllLoaded : Loads → ℕ → List (List Check) → Type 0
AreAllLoaded loads i [] = Unit {0}
AreAllLoaded loads i (cs ∷ css) = AreLoaded (loads i) 0 cs × AreAllLoaded loads (i + 1) css

all_past : (cs : List Check) (css xss : List (List Check)) (i : ℕ) → AreAllLoaded (loads_of css) i xss → AreAllLoaded (loads_of (cs ∷ css)) (suc i) xss
all_past cs css [] i l = tt
all_past cs css (xs ∷ xss) i l = (l.0, subst (λ (n : ℕ). AreAllLoaded (loads_of (cs ∷ css)) n xss) (let z : suc (i + 1) ≡ suc i + 1 = omega arith in z) (all_past cs css xss (i + 1) l.1))

loads_loaded : (css : List (List Check)) → Each (λ (cs : List Check). Each HasFour cs) css → AreAllLoaded (loads_of css) 0 css
loads_loaded [] h = tt
loads_loaded (cs ∷ css) h = (words_loaded cs h.0, all_past cs css css 0 (loads_loaded css h.1))

all_parts : (loads : Loads) (i : ℕ) (css : List (List Check)) (cs : List Check) → AreAllLoaded loads i (css ++ cs ∷ []) →
    AreAllLoaded loads i css × AreLoaded (loads (i + length css)) 0 cs
all_parts loads i [] cs l = (tt, subst (λ (n : ℕ). AreLoaded (loads n) 0 cs) (let z : i ≡ i + 0 = omega arith in z) l.0)
all_parts loads i (ds ∷ css) cs l =
    let r = all_parts loads (i + 1) css cs l.1 in
    ((l.0, r.0), subst (λ (n : ℕ). AreLoaded (loads n) 0 cs) (let z : i + 1 + length css ≡ i + suc (length css) = omega arith in z) r.1)

zip_four : (w : Watched) (label : _) (a : Access) (ps : List Part) (cs : List Check) → AllZip (ChecksPart w label a) ps cs → Each HasFour cs
zip_four w label a [] [] z = tt
zip_four w label a [] (c ∷ cs) z = absurd z
zip_four w label a (p ∷ ps) [] z = absurd z
zip_four w label a (p ∷ ps) (c ∷ cs) z = (z.0.four, zip_four w label a ps cs z.1)

access_four : (file : List ℕ) (w : Watched) (o : Option Access) (cs : List Check) → ChecksAccess file w o cs → Each HasFour cs
access_four file w None cs none = subst (λ (xs : List Check). Each HasFour xs) (sym none) tt
access_four file w (Some a) cs c = zip_four w c.0 a (parts_of (granule_of file) a) cs c.2

-- ---- a watcher at rest

zip_rest : (w : Watched) (label : Label) (a : Access) (ps : List Part) (cs : List Check) → AllZip (ChecksPart w label a) ps cs → AllZip (ChecksPart (at_rest w) label a) ps cs
zip_rest w label a [] [] z = tt
zip_rest w label a [] (c ∷ cs) z = absurd z
zip_rest w label a (p ∷ ps) [] z = absurd z
zip_rest w label a (p ∷ ps) (c ∷ cs) z = (record { granule = z.0.granule; word = z.0.word; turn = z.0.turn; four = z.0.four }, zip_rest w label a ps cs z.1)

-- an access is checked by the label and the count of the trace, whatever room that has
access_rest : (file : List ℕ) (w : Watched) (o : Option Access) (cs : List Check) → ChecksAccess file w o cs → ChecksAccess file (at_rest w) o cs
access_rest file w None cs none = none
access_rest file w (Some a) cs c = (c.0, c.1, zip_rest w c.0 a (parts_of (granule_of file) a) cs c.2)

-- an access awaits by the label, the stack, the locks and the clock
awaits_rest : (w : Watched) (o : Option Access) (cs : List Check) → awaits_at (at_rest w) o cs ≡ awaits_at w o cs
awaits_rest w None cs = refl
awaits_rest w (Some a) cs = refl

-- ---- what an event leaves of a watcher

raised_kept : (w : Watched) (o : Option Label) → ((raised_to w o).era ≡ w.era) × ((raised_to w o).greatest ≡ w.greatest)
raised_kept w None = (refl, refl)
raised_kept w (Some l) = (refl, refl)

lost_kept : (w : Watched) (o : Option Label) → ((raised_or_lost_to w o).era ≡ w.era) × ((raised_or_lost_to w o).greatest ≡ w.greatest)
lost_kept w None = (refl, refl)
lost_kept w (Some l) = raised_kept w (next_label w.greatest w.label)

after_kept : (told : Option (List ℕ)) (set : SyncObjects) (d : DeskContents) (e : Event) (w : Watched) →
    ((watcher_after told set d e w).era ≡ w.era) × ((watcher_after told set d e w).greatest ≡ w.greatest)
after_kept told set d (events.Release addr part replaces) w = lost_kept w (next_label w.greatest w.label)
after_kept told set d (events.Create child) w = lost_kept w (next_label w.greatest w.label)
after_kept told set d _ w = (refl, refl)

one_is_zero : (n : ℕ) → n ≡ 1 → n ≡ 0 → ⊥
one_is_zero n p q = omega arith

label_kept : (told : Option (List ℕ)) (set : SyncObjects) (d : DeskContents) (e : Event) (w : Watched) → KeepsLabel e → (watcher_after told set d e w).label ≡ w.label
label_kept told set d (events.Release addr part replaces) w k = absurd (one_is_zero 1 refl k.raises_none)
label_kept told set d (events.Create child) w k = absurd (one_is_zero 1 refl k.raises_none)
label_kept told set d events.End w k = absurd (let z = k.goes_on in cc)
label_kept told set d _ w k = refl

-- what the events so far leave of it
pub record Keeps (w w' : Watched) (es : List Event) : Type 0 where
  pub era : w'.era ≡ w.era
  pub greatest : w'.greatest ≡ w.greatest
  pub label : Each KeepsLabel es → w'.label ≡ w.label

keeps_none : (w : Watched) → Keeps w w []
keeps_none w = record { era = refl; greatest = refl; label = λ k. refl }

keeps_more : (w w' w'' : Watched) (es : List Event) (e : Event) (k t : ℕ) (sync sync' : SyncObjects) (d d' : DeskContents) (given given' : Option (Option (List ℕ))) →
    Keeps w w' es → HearsEvent k t e (record { watched = at_rest w'; given = given; sync = sync; desk = d }) (record { watched = at_rest w''; given = given'; sync = sync'; desk = d' }) →
    Keeps w w'' (es ++ e ∷ [])
keeps_more w w' w'' es e k t sync sync' d d' given given' was h =
    let kept = after_kept (told_in given) sync d e (at_rest w') in
    record {
      era = ap (λ (x : Watched). x.era) h.watched ∙ (kept.0 ∙ was.era);
      greatest = ap (λ (x : Watched). x.greatest) h.watched ∙ (kept.1 ∙ was.greatest);
      label = λ each.
          let z = each_parts KeepsLabel es (e ∷ []) each in
          ap (λ (x : Watched). x.label) h.watched ∙ (label_kept (told_in given) sync d e (at_rest w') z.1.0 ∙ was.label z.0);
    }

-- what an event spends depends on the label and the greatest epoch
lost_same : (e : Event) (w w' : Watched) → w'.greatest ≡ w.greatest → w'.label ≡ w.label → lost_after e w' ≡ lost_after e w
lost_same e w w' g l =
    ap₂ (λ (greatest : ℕ) (label : Option Label). cond (raises e == 1) (lost_label_to (next_label greatest label) label) None) g l

spends_more : (w w' : Watched) (es : List Event) (e : Event) (spent : Option Label) → Keeps w w' es → spent ≡ lost_after e w' → SpendsLast w (es ++ e ∷ []) spent
spends_more w w' es e spent keeps is = record {
  none = λ q. absurd (ends es q);
  last = λ before f q each.
      let same = same_ends es before e f q in
      is ∙ (lost_same e w w' keeps.greatest (keeps.label (subst (λ (xs : List Event). Each KeepsLabel xs) (sym same.0) each)) ∙ ap (λ (x : Event). lost_after x w) same.1);
}
  where
    ends : (xs : List Event) → xs ++ e ∷ [] ≡ [] → ⊥
    ends [] q = (let r : e ∷ [] ≡ [] = q in cc)
    ends (x ∷ xs) q = (let r : x ∷ (xs ++ e ∷ []) ≡ [] = q in cc)

-- ---- one more event

heard_more : (file : List ℕ) (k t : ℕ) (loads : Loads) (i : ℕ) (es : List Event) (css : List (List Check)) (e : Event) (cs : List Check) (old mid new : Beside) →
    HearsEvents file k t loads i es css old mid → HearsEvent k t e mid new → ChecksAccess file mid.watched (access_of e) cs → Each StoresRightly cs →
    AreLoaded (loads (i + length css)) 0 cs → HearsEvents file k t loads i (es ++ e ∷ []) (css ++ cs ∷ []) old new
heard_more file k t loads i [] [] e cs old mid new h one checked stores loaded =
    let first : HearsEvent k t e old new = subst (λ (b : Beside). HearsEvent k t e b new) (sym h) one in
    let checks : ChecksAccess file old.watched (access_of e) cs = subst (λ (b : Beside). ChecksAccess file b.watched (access_of e) cs) (sym h) checked in
    (new, first, checks, stores, subst (λ (n : ℕ). AreLoaded (loads n) 0 cs) (let z : i + 0 ≡ i = omega arith in z) loaded, refl)
heard_more file k t loads i [] (ds ∷ css) e cs old mid new h one checked stores loaded = absurd h
heard_more file k t loads i (f ∷ es) [] e cs old mid new h one checked stores loaded = absurd h
heard_more file k t loads i (f ∷ es) (ds ∷ css) e cs old mid new h one checked stores loaded = (
  h.0,
  h.1,
  h.2,
  h.3,
  h.4,
  heard_more file k t loads (i + 1) es css e cs h.0 mid new h.5 one checked stores
      (subst (λ (n : ℕ). AreLoaded (loads n) 0 cs) (let z : i + suc (length css) ≡ i + 1 + length css = omega arith in z) loaded),
)

given_more : (given : Option (Option (List ℕ))) (es : List Event) (e : Event) → given_after_all given (es ++ e ∷ []) ≡ given_after e (given_after_all given es)
given_more given [] e = refl
given_more given (f ∷ es) e = given_more (given_after f given) es e

given_parts : (slots : ℕ) (given : Option (Option (List ℕ))) (clock : List ℕ) (es : List Event) (e : Event) → AreGivenAs slots given clock (es ++ e ∷ []) →
    AreGivenAs slots given clock es × IsGivenAs slots (given_after_all given es) clock e
given_parts slots given clock [] e g = (tt, g.0)
given_parts slots given clock (f ∷ es) e g = let r = given_parts slots (given_after f given) clock es e g.1 in ((g.0, r.0), r.1)

numbered_more : (n : ℕ) (css : List (List Check)) (cs : List Check) → AreNumbered n css → Each (λ (c : Check). c.event ≡ n + length css) cs → AreNumbered n (css ++ cs ∷ [])
numbered_more n [] cs a e = (subst (λ (m : ℕ). Each (λ (c : Check). c.event ≡ m) cs) (let z : n + 0 ≡ n = omega arith in z) e, tt)
numbered_more n (ds ∷ css) cs a e =
    (a.0, numbered_more (n + 1) css cs a.1 (subst (λ (m : ℕ). Each (λ (c : Check). c.event ≡ m) cs) (let z : n + suc (length css) ≡ n + 1 + length css = omega arith in z) e))

pub bare_trans : (x y z : Option Object) → SameBare x y → SameBare y z → SameBare x z
bare_trans None None None a b = tt
bare_trans (Some (Stripe s)) (Some (Stripe r)) (Some (Stripe q)) a b = (b.0 ∙ a.0, b.1 ∙ a.1, b.2 ∙ a.2)
bare_trans (Some (Desk d)) (Some (Desk e)) (Some (Desk f)) a b = (b.0 ∙ a.0, b.1 ∙ a.1)
bare_trans None (Some y) z a b = absurd a
bare_trans (Some (Stripe s)) None z a b = absurd a
bare_trans (Some (Desk d)) None z a b = absurd a
bare_trans None None (Some z) a b = absurd b
bare_trans (Some (Stripe s)) (Some (Desk e)) z a b = absurd a
bare_trans (Some (Desk d)) (Some (Stripe r)) z a b = absurd a
bare_trans (Some (Stripe s)) (Some (Stripe r)) None a b = absurd b
bare_trans (Some (Stripe s)) (Some (Stripe r)) (Some (Desk f)) a b = absurd b
bare_trans (Some (Desk d)) (Some (Desk e)) None a b = absurd b
bare_trans (Some (Desk d)) (Some (Desk e)) (Some (Stripe q)) a b = absurd b

-- ---- so far

abbrev pub flat : List (List Check) → List Check
flat css = flat_map (λ (cs : List Check). cs) css

abbrev no_sync : SyncObjects
no_sync = record { slots = 0; objects = []; spare = 0 }

module _ (file : List ℕ) (limits : Limits) (k t : ℕ) (clock : List ℕ) (base : ℕ) where
  -- these events were heard
  pub record HeardSo (done : List Event) (w w' : Watched) (place place' : Option Object) (before after : List Check) (waited waiting : List Candidate)
      (old new : Mine) (spent : Option Label) : Type 0 where
    pub added : List (List Check)
    pub found : List Candidate
    pub long : length added ≡ length done
    pub checks_are : after ≡ before ++ flat added
    pub waiting_is : waiting ≡ waited ++ found
    pub numbered : AreNumbered base added
    pub fours : Each (λ (cs : List Check). Each HasFour cs) added
    pub steps : new ≡ with_items (all_touches (flat added)) old
    pub heard :
        (sync : SyncObjects) (desk : DeskContents) (given : Option (Option (List ℕ))) → AreGivenAs limits.slots given clock done → (loads : Loads) → AreAllLoaded loads 0 added →
        HearsEvents file k t loads 0 done added (beside_at limits sync desk place w given) (beside_at limits sync desk place' w' (given_after_all given done))
    pub awaits :
        (sync : SyncObjects) (desk : DeskContents) (given : Option (Option (List ℕ))) → AreGivenAs limits.slots given clock done →
        AwaitsEvents k t done added (beside_at limits sync desk place w given) (beside_at limits sync desk place' w' (given_after_all given done))
        (map awaited found)
    pub keeps : (given : Option (Option (List ℕ))) → AreGivenAs limits.slots given clock done → Keeps w w' done
    pub spends : (given : Option (Option (List ℕ))) → AreGivenAs limits.slots given clock done → SpendsLast w done spent
    pub bare : SameBare place place'

  pub heard_none : (w : Watched) (place : Option Object) (checks : List Check) (waiting : List Candidate) (me : Mine) →
      HeardSo [] w w place place checks checks waiting waiting me me None
  heard_none w place checks waiting me = record {
    added = [];
    found = [];
    long = refl;
    checks_are = sym (append-nil checks);
    waiting_is = sym (append-nil waiting);
    numbered = tt;
    fours = tt;
    steps = sym (no_items me);
    heard = λ sync desk given g loads l. refl;
    awaits = λ sync desk given g. (refl, refl);
    keeps = λ given g. keeps_none w;
    spends = λ given g. record { none = λ q. refl; last = λ before e q each. absurd (none_ends before e q) };
    bare = same_bare place;
  }
    where
      none_ends : (xs : List Event) (x : Event) → [] ≡ xs ++ x ∷ [] → ⊥
      none_ends [] x q = (let r : [] ≡ x ∷ [] = q in cc)
      none_ends (a ∷ xs) x q = (let r : [] ≡ a ∷ (xs ++ x ∷ []) = q in cc)

  pub heard_next :
      (done : List Event) (e : Event) (at : ℕ) (w w' w'' : Watched) (place place' place'' : Option Object) (before mid after : List Check)
      (waited waits waiting : List Candidate) (old now new : Mine) (was spent : Option Label) →
      HeardSo done w w' place place' before mid waited waits old now was → at ≡ base + length done →
      HearsOne file limits k t clock e at w' w'' place' place'' mid after waits waiting now new spent →
      HeardSo (done ++ e ∷ []) w w'' place place'' before after waited waiting old new spent
  heard_next done e at w w' w'' place place' place'' before mid after waited waits waiting old now new was spent so is one = record {
    added = so.added ++ one.added ∷ [];
    found = so.found ++ one.found;
    long = omega (arith, so.long, length-append so.added (one.added ∷ []), length-append done (e ∷ []));
    checks_are = one.checks_are ∙ (ap (λ (xs : List Check). xs ++ one.added) so.checks_are ∙ flat_map_more (λ (cs : List Check). cs) before so.added one.added);
    waiting_is = one.waiting_is ∙ (ap (λ (xs : List Candidate). xs ++ one.found) so.waiting_is ∙ append_assoc waited so.found one.found);
    numbered = numbered_more base so.added one.added so.numbered (subst (λ (n : ℕ). Each (λ (c : Check). c.event ≡ n) one.added) (is ∙ ap (λ (n : ℕ). base + n) (sym so.long)) one.of_event);
    fours = each_append (λ (cs : List Check). Each HasFour cs) so.added (one.added ∷ []) so.fours (access_four file w' (access_of e) one.added one.of_access, tt);
    steps = one.steps ∙ (ap (with_items (all_touches one.added)) so.steps ∙ (more_items (all_touches (flat so.added)) (all_touches one.added) old
        ∙ ap (λ (items : _). with_items items old) (sym (flat_map-append touches_of (flat so.added) one.added)
        ∙ ap all_touches (flat_map_more (λ (cs : List Check). cs) [] so.added one.added))));
    heard = λ sync desk given g loads l.
        let gs = given_parts limits.slots given clock done e g in
        let ls = all_parts loads 0 so.added one.added l in
        subst (λ (x : Option (Option (List ℕ))). HearsEvents file k t loads 0 (done ++ e ∷ []) (so.added ++ one.added ∷ []) (beside_at limits sync desk place w given)
        (beside_at limits sync desk place'' w'' x)) (sym (given_more given done e))
        (heard_more file k t loads 0 done so.added e one.added (beside_at limits sync desk place w given) (beside_at limits sync desk place' w' (given_after_all given done))
        (beside_at limits sync desk place'' w'' (given_after e (given_after_all given done)))
        (so.heard sync desk given gs.0 loads ls.0) (one.heard sync desk (given_after_all given done) gs.1) (access_rest file w' (access_of e) one.added one.of_access)
        one.stores ls.1);
    awaits = λ sync desk given g.
        let gs = given_parts limits.slots given clock done e g in
        let old = beside_at limits sync desk place w given in
        let mid = beside_at limits sync desk place' w' (given_after_all given done) in
        let new = beside_at limits sync desk place'' w'' (given_after e (given_after_all given done)) in
        subst (λ (x : Option (Option (List ℕ))). AwaitsEvents k t (done ++ e ∷ []) (so.added ++ one.added ∷ []) old (beside_at limits sync desk place'' w'' x)
        (map awaited (so.found ++ one.found))) (sym (given_more given done e))
        (subst (λ (ws : List Awaited). AwaitsEvents k t (done ++ e ∷ []) (so.added ++ one.added ∷ []) old new ws)
        (ap (λ (ws : List Awaited). map awaited so.found ++ ws) (awaits_rest w' (access_of e) one.added ∙ sym one.awaits)
        ∙ sym (map-append awaited so.found one.found))
        (one_more_event k t done so.added old mid new (map awaited so.found) e one.added (so.awaits sync desk given gs.0)
        (one.heard sync desk (given_after_all given done) gs.1)));
    keeps = λ given g.
        let gs = given_parts limits.slots given clock done e g in
        keeps_more w w' w'' done e k t _ _ _ _ _ _ (so.keeps given gs.0) (one.heard no_sync (new_desk limits) (given_after_all given done) gs.1);
    spends = λ given g.
        let gs = given_parts limits.slots given clock done e g in
        spends_more w w' done e spent (so.keeps given gs.0) one.spent_is;
    bare = bare_trans place place' place'' so.bare one.bare;
  }

  -- the first i events were heard, and these are left
  pub record Sofar (i : ℕ) (es : List Event) (w w' : Watched) (place place' : Option Object) (before after : List Check) (waited waiting : List Candidate)
      (old new : Mine) (spent : Option Label) : Type 0 where
    pub done : List Event
    pub rest : List Event
    pub split : es ≡ done ++ rest
    pub count : length done ≡ i
    pub heard : HeardSo done w w' place place' before after waited waiting old new spent

  pub sofar_start : (es : List Event) (w : Watched) (place : Option Object) (checks : List Check) (waiting : List Candidate) (me : Mine) →
      Sofar 0 es w w place place checks checks waiting waiting me me None
  sofar_start es w place checks waiting me =
      record { done = []; rest = es; split = refl; count = refl; heard = heard_none w place checks waiting me }

  pub sofar_next :
      (i : ℕ) (es : List Event) (x : Event) (at : ℕ) (w w' w'' : Watched) (place place' place'' : Option Object) (before mid after : List Check)
      (waited waits waiting : List Candidate) (old now new : Mine) (was spent : Option Label) →
      Sofar i es w w' place place' before mid waited waits old now was → i < length es → at ≡ base + i →
      HearsOne file limits k t clock (get_or es i x) at w' w'' place' place'' mid after waits waiting now new spent →
      Sofar (i + 1) es w w'' place place'' before after waited waiting old new spent
  sofar_next i es x at w w' w'' place place' place'' before mid after waited waits waiting old now new was spent so within is one = go so.rest so.split
    where
      seam : (xs : List Event) (y : Event) (ys : List Event) → get_or (xs ++ y ∷ ys) (length xs) x ≡ y
      seam [] y ys = refl
      seam (z ∷ xs) y ys = seam xs y ys

      go : (rest : List Event) → es ≡ so.done ++ rest → Sofar (i + 1) es w w'' place place'' before after waited waiting old new spent
      go [] split = absurd (omega (arith, so.count, ap length split, length-append so.done []))
      go (f ∷ rest) split =
          let same : get_or es i x ≡ f = ap (λ (ys : List Event). get_or ys i x) split ∙ (ap (λ (n : ℕ). get_or (so.done ++ f ∷ rest) n x) (sym so.count) ∙ seam so.done f rest) in
          record {
            done = so.done ++ f ∷ [];
            rest = rest;
            split = split ∙ sym (append_assoc so.done (f ∷ []) rest);
            count = omega (arith, so.count, length-append so.done (f ∷ []));
            heard = heard_next so.done f at w w' w'' place place' place'' before mid after waited waits waiting old now new was spent so.heard (is ∙ ap (λ (n : ℕ). base + n) (sym so.count))
                (subst (λ (y : Event). HearsOne file limits k t clock y at w' w'' place' place'' mid after waits waiting now new spent) same one);
          }

  pub sofar_end : (i : ℕ) (es : List Event) (w w' : Watched) (place place' : Option Object) (before after : List Check)
      (waited waiting : List Candidate) (old new : Mine) (spent : Option Label) →
      Sofar i es w w' place place' before after waited waiting old new spent → length es ≤ i →
      HearsAll file limits k t clock es base w w' place place' before after waited waiting old new spent
  sofar_end i es w w' place place' before after waited waiting old new spent so all =
      let none : so.rest ≡ [] = empty so.rest (omega (arith, so.count, ap length so.split, length-append so.done so.rest)) in
      subst (λ (xs : List Event). HearsAll file limits k t clock xs base w w' place place' before after waited waiting old new spent)
      (sym (so.split ∙ (ap (λ (xs : List Event). so.done ++ xs) none ∙ append-nil so.done))) (whole so.done so.heard)
    where
      empty : (xs : List Event) → length xs ≡ 0 → xs ≡ []
      empty [] z = refl
      empty (x ∷ xs) z = absurd (omega arith)

      whole : (done : List Event) → HeardSo done w w' place place' before after waited waiting old new spent →
          HearsAll file limits k t clock done base w w' place place' before after waited waiting old new spent
      whole done h = record {
        added = h.added;
        found = h.found;
        checks_are = h.checks_are;
        waiting_is = h.waiting_is;
        numbered = h.numbered;
        steps = h.steps;
        heard = λ sync desk given g. h.heard sync desk given g (loads_of h.added) (loads_loaded h.added h.fours);
        awaits = h.awaits;
        era = λ given g. (h.keeps given g).era;
        spends = h.spends;
        bare = h.bare;
      }
