-- The parts that workers made of a round.
use Rattle.std.proofs.Common.{◌≡◌, ◌<◌, ◌+◌, ℕ, zero, suc, false, List, [], ◌∷◌, ◌++◌, length, Some, refl, sym, ap, subst, ◌∙◌, arith}
use Rattle.std.specs.Prelude.{Option, map, slice_get, slice_index_or, is_some}
use Rattle.std.specs.List.{AllZip, flat_map}
use Rattle.std.proofs.lemmas.List.{length-map}
use Rattle.std.proofs.lemmas.List.Concat.{flat_map-append}
use mathlib.Core.Option.{some}
use lib.ListN.{get_elem?}
use Rattle.run_record.specs.declared.entry.Entry.{Entry}
use Rattle.run_record.specs.declared.limits.Limits.{Limits}
use Rattle.run_record.specs.Order.{entries_in}
use Rattle.turn_orders.specs.Lists.{Each}
use Rattle.turn_orders.proofs.Members.{each_append}
use Rattle.turn_histories.specs.Rounds.{IsIn}
use Rattle.shared_table.specs.declared.view.View.{View}
use Rattle.shared_table.specs.Layouts.{SharedTable}
use Rattle.shared_table.specs.Past.{Log}
use Rattle.shared_table.specs.Rounds.{HasRound}
use Rattle.hart_parts.specs.Parts.{Part, left_in, part_entries, IsPart}
use Rattle.part_races.specs.Rounds.{Tagged, TellsRaces}
use Rattle.part_races.specs.Sorting.{Keyed, keyed_of, all_keyed}
use Rattle.part_races.specs.Telling.{TellsPart}
use Rattle.hart_turns.specs.declared.slots.ThreadState.{ThreadState}
use Rattle.part_workers.specs.declared.part.Post.{Post}
use Rattle.part_workers.specs.declared.worker.HartWorker.{HartWorker}
use Rattle.part_workers.specs.Parts.{keyed_in}
use Rattle.part_workers.specs.Works.{begins, leaves_with, IsKept, Makes, Works}
use Rattle.made_rounds.specs.Made.{Stand}
use Rattle.hart_workers.specs.declared.crew.Due.{Due}
use Rattle.hart_workers.specs.Crews.{StandsFor, IsIdle, IsHired, logs_from, waiting_from}
use Rattle.hart_workers.specs.Parts.{IsDueAt, ArePartsOf}

-- a worker before the round and after it, the part that it made, and what it told
pub record One (G : Type 0) (file : List ℕ) (limits : Limits) (s : Stand) (share : ℕ) : Type 0 where
  pub before : HartWorker G
  pub after : HartWorker G
  pub part : Part
  pub told : List Tagged
  pub is_part : IsPart file limits s.era part
  pub thread : part.thread ≡ before.post.tid
  pub same : after.post.tid ≡ before.post.tid
  pub before_is : part.before ≡ s.locals part.thread
  pub given : part.given ≡ share
  pub starved : is_some part.tried ≡ after.starved
  pub left : left_in part ≡ leaves_with after.state after.part.last
  pub entries : part_entries file limits part ≡ after.part.entries
  pub inside : Each (IsIn s.round s.era) after.part.entries
  pub races : TellsRaces file limits s.era part told
  pub waits : all_keyed told ≡ map (keyed_in after.post.tid) after.part.waiting.items
  pub kept : IsKept limits after.state × (after.state.watcher.era ≡ s.era)

-- ---- one worker

module _ {G : Type 0} (file : List ℕ) (limits : Limits) (s : Stand) (due : Due) (states : List (Option ThreadState)) (at : IsDueAt s due)
    (idle : IsIdle limits s states) (table : SharedTable) where
  module _ (t : ℕ) (x y : HartWorker G) (l : Log) (h : IsHired file limits due states t x) (worked : Works table x l y) (m : Makes x l y) where
    era_is : x.post.era ≡ s.era
    era_is = ap (λ (p : Post). p.era) h.post ∙ at.era

    round_is : x.post.round ≡ s.round
    round_is = ap (λ (p : Post). p.round) h.post ∙ at.round

    tid_is : x.post.tid ≡ t
    tid_is = ap (λ (p : Post). p.tid) h.post

    stood : StandsFor limits s t (Some x.state)
    stood = subst (StandsFor limits s t) h.state (idle.each t)

    abbrev Tells : List ℕ → Limits → ℕ → ℕ → ℕ → Type 0
    Tells f ls era share last =
        TellsPart f ls era x.post.tid share (begins era x.state last) l m.told y.starved (leaves_with y.state y.part.last)

    tells : Tells file limits s.era due.share s.base
    tells =
        let a : Tells file x.limits.now x.post.era x.share x.part.last = subst (λ (f : List ℕ). Tells f x.limits.now x.post.era x.share x.part.last) h.image m.part in
        let b : Tells file limits x.post.era x.share x.part.last = subst (λ (ls : Limits). Tells file ls x.post.era x.share x.part.last) h.limits_are a in
        let c : Tells file limits s.era x.share x.part.last = subst (λ (e : ℕ). Tells file limits e x.share x.part.last) era_is b in
        let d : Tells file limits s.era due.share x.part.last = subst (λ (n : ℕ). Tells file limits s.era n x.part.last) h.share c in
        subst (λ (n : ℕ). Tells file limits s.era due.share n) (h.last ∙ at.base) d

    one : One G file limits s due.share
    one = record {
      before = x;
      after = y;
      part = tells.part;
      told = m.told;
      is_part = tells.is_part;
      thread = tells.thread;
      same = ap (λ (p : Post). p.tid) worked.post;
      before_is = tells.before_is ∙ (sym stood.2 ∙ ap s.locals (sym (tells.thread ∙ tid_is)));
      given = tells.given_is;
      starved = tells.tried_is;
      left = tells.left_is;
      entries = tells.entries_are ∙ sym m.keeps.entries;
      inside = subst (λ (r : ℕ). Each (IsIn r s.era) y.part.entries) round_is
          (subst (λ (e : ℕ). Each (IsIn x.post.round e) y.part.entries) era_is m.keeps.inside);
      races = tells.races;
      waits = sym m.keeps.waiting ∙ ap (λ (p : Post). map (keyed_in p.tid) y.part.waiting.items) (sym worked.post);
      kept = (subst (λ (ls : Limits). IsKept ls y.state) h.limits_are m.kept, m.era ∙ era_is);
    }

    one_is : (o : One G file limits s due.share) × (o.before ≡ x) × (o.after ≡ y) × (o.part.log ≡ l)
    unfolding one
    one_is = (one, refl, refl, tells.log_is)

-- ---- all of them

module _ {G : Type 0} (file : List ℕ) (limits : Limits) (s : Stand) (share : ℕ) where
  abbrev befores : List (One G file limits s share) → List (HartWorker G)
  befores ms = map (λ (m : One G file limits s share). m.before) ms

  abbrev afters : List (One G file limits s share) → List (HartWorker G)
  afters ms = map (λ (m : One G file limits s share). m.after) ms

  abbrev parts_in : List (One G file limits s share) → List Part
  parts_in ms = map (λ (m : One G file limits s share). m.part) ms

  abbrev told_in : List (One G file limits s share) → List (List Tagged)
  told_in ms = map (λ (m : One G file limits s share). m.told) ms

  -- from that number on they have the logs of the parts
  abbrev HaveLogsFrom : List (Option Log) → ℕ → List (One G file limits s share) → Type 0
  HaveLogsFrom logs n [] = Unit {0}
  HaveLogsFrom logs n (m ∷ ms) = (get_elem? logs n ≡ some (Some m.part.log)) × HaveLogsFrom logs (n + 1) ms

  logs_at : (logs : List (Option Log)) (n : ℕ) (ms : List (One G file limits s share)) → HaveLogsFrom logs n ms → (i : ℕ) (p : Part) →
      slice_get (parts_in ms) i ≡ Some p → get_elem? logs (n + i) ≡ some (Some p.log)
  logs_at logs n [] h i p e = absurd (cc)
  logs_at logs n (m ∷ ms) h zero p e =
      let same : m.part ≡ p = cc in
      let z : n ≡ n + 0 = omega arith in
      subst (λ (k : ℕ). get_elem? logs k ≡ some (Some p.log)) z (h.0 ∙ ap (λ (q : Part). some (Some q.log)) same)
  logs_at logs n (m ∷ ms) h (suc i) p e =
      let z : n + 1 + i ≡ n + suc i = omega arith in
      subst (λ (k : ℕ). get_elem? logs k ≡ some (Some p.log)) z (logs_at logs (n + 1) ms h.1 i p e)

  all_parts : (ms : List (One G file limits s share)) → Each (IsPart file limits s.era) (parts_in ms)
  all_parts [] = tt
  all_parts (m ∷ ms) = (m.is_part, all_parts ms)

  all_threads : (ms : List (One G file limits s share)) →
      map (λ (p : Part). p.thread) (parts_in ms) ≡ map (λ (x : HartWorker G). x.post.tid) (befores ms)
  all_threads [] = refl
  all_threads (m ∷ ms) = let e = m.thread in let r = all_threads ms in cc

  all_same : (ms : List (One G file limits s share)) →
      map (λ (x : HartWorker G). x.post.tid) (afters ms) ≡ map (λ (x : HartWorker G). x.post.tid) (befores ms)
  all_same [] = refl
  all_same (m ∷ ms) = let e = m.same in let r = all_same ms in cc

  all_before : (ms : List (One G file limits s share)) → Each (λ (p : Part). p.before ≡ s.locals p.thread) (parts_in ms)
  all_before [] = tt
  all_before (m ∷ ms) = (m.before_is, all_before ms)

  all_given : (ms : List (One G file limits s share)) → Each (λ (p : Part). p.given ≡ share) (parts_in ms)
  all_given [] = tt
  all_given (m ∷ ms) = (m.given, all_given ms)

  all_starved : (ms : List (One G file limits s share)) →
      map (λ (p : Part). is_some p.tried) (parts_in ms) ≡ map (λ (x : HartWorker G). x.starved) (afters ms)
  all_starved [] = refl
  all_starved (m ∷ ms) = let e = m.starved in let r = all_starved ms in cc

  all_left : (ms : List (One G file limits s share)) →
      AllZip (λ (p : Part) (x : HartWorker G). left_in p ≡ leaves_with x.state x.part.last) (parts_in ms) (afters ms)
  all_left [] = tt
  all_left (m ∷ ms) = (m.left, all_left ms)

  all_entries : (ms : List (One G file limits s share)) → map (part_entries file limits) (parts_in ms) ≡ logs_from (afters ms)
  all_entries [] = refl
  all_entries (m ∷ ms) =
      ap (λ (z : List Entry). z ∷ map (part_entries file limits) (parts_in ms)) m.entries
      ∙ ap (λ (z : List (List Entry)). m.after.part.entries ∷ z) (all_entries ms)

  all_inside : (ms : List (One G file limits s share)) → Each (IsIn s.round s.era) (entries_in (logs_from (afters ms)))
  all_inside [] = tt
  all_inside (m ∷ ms) = each_append (IsIn s.round s.era) m.after.part.entries (entries_in (logs_from (afters ms))) m.inside (all_inside ms)

  all_races : (ms : List (One G file limits s share)) → AllZip (TellsRaces file limits s.era) (parts_in ms) (told_in ms)
  all_races [] = tt
  all_races (m ∷ ms) = (m.races, all_races ms)

  all_waits : (ms : List (One G file limits s share)) →
      all_keyed (flat_map (λ (ts : List Tagged). ts) (told_in ms)) ≡ waiting_from (afters ms)
  all_waits [] = refl
  all_waits (m ∷ ms) =
      flat_map-append keyed_of m.told (flat_map (λ (ts : List Tagged). ts) (told_in ms))
      ∙ (ap (λ (z : List Keyed). z ++ all_keyed (flat_map (λ (ts : List Tagged). ts) (told_in ms))) m.waits
      ∙ ap (λ (z : List Keyed). map (keyed_in m.after.post.tid) m.after.part.waiting.items ++ z) (all_waits ms))

  all_kept : (ms : List (One G file limits s share)) →
      Each (λ (x : HartWorker G). IsKept limits x.state × (x.state.watcher.era ≡ s.era)) (afters ms)
  all_kept [] = tt
  all_kept (m ∷ ms) = (m.kept, all_kept ms)

  parts_are : (v w : View) (ms : List (One G file limits s share)) → HaveLogsFrom w.logs (length v.logs) ms →
      ArePartsOf file limits s share v w (befores ms) (afters ms) (parts_in ms)
  parts_are v w ms logs = record {
    count = length-map ms (λ (m : One G file limits s share). m.part) ∙ sym (length-map ms (λ (m : One G file limits s share). m.before));
    are_parts = all_parts ms;
    threads = all_threads ms;
    same = all_same ms;
    before_are = all_before ms;
    shares = all_given ms;
    logs = logs_at w.logs (length v.logs) ms logs;
    starved = all_starved ms;
    left = all_left ms;
    entries = all_entries ms;
    inside = all_inside ms;
    told = told_in ms;
    races = all_races ms;
    waits = all_waits ms;
    kept = all_kept ms;
  }

module _ {G : Type 0} (file : List ℕ) (limits : Limits) (s : Stand) (due : Due) (states : List (Option ThreadState)) (at : IsDueAt s due)
    (idle : IsIdle limits s states) (table : SharedTable) where
  abbrev Worked : List (Option Log) → ℕ → List (HartWorker G) → List (HartWorker G) → Type 0
  Worked logs n xs ys =
      (i : ℕ) (d : HartWorker G) → i < length xs →
      (l : Log) × (get_elem? logs (n + i) ≡ some (Some l)) × Works table (slice_index_or xs i d) l (slice_index_or ys i d)

  later : (logs : List (Option Log)) (n : ℕ) (x y : HartWorker G) (xs ys : List (HartWorker G)) → Worked logs n (x ∷ xs) (y ∷ ys) →
      Worked logs (n + 1) xs ys
  later logs n x y xs ys h i d l =
      let z : n + suc i ≡ n + 1 + i = omega arith in
      let long : length (x ∷ xs) ≡ suc (length xs) = refl in
      let r = h (suc i) d (omega (arith, l, long)) in
      (r.0, subst (λ (k : ℕ). get_elem? logs k ≡ some (Some r.0)) z r.1, r.2)

  -- a list of workers with their parts
  abbrev Listed : List (Option Log) → ℕ → List (HartWorker G) → List (HartWorker G) → Type 0
  Listed logs n xs ys =
      (ms : List (One G file limits s due.share))
      × (befores file limits s due.share ms ≡ xs)
      × (afters file limits s due.share ms ≡ ys)
      × HaveLogsFrom file limits s due.share logs n ms

  listed : (logs : List (Option Log)) (n : ℕ) (live : List ℕ) (xs ys : List (HartWorker G)) → AllZip (IsHired file limits due states) live xs →
      length ys ≡ length xs → Worked logs n xs ys → Each (λ (w : HartWorker G). w.failed ≡ false) ys → Listed logs n xs ys
  listed logs n [] [] [] hired long worked fine = ([], refl, refl, tt)
  listed logs n [] [] (y ∷ ys) hired long worked fine = absurd (let z : suc (length ys) ≡ 0 = long in omega (arith, z))
  listed logs n [] (x ∷ xs) ys hired long worked fine = absurd hired
  listed logs n (t ∷ live) [] ys hired long worked fine = absurd hired
  listed logs n (t ∷ live) (x ∷ xs) [] hired long worked fine = absurd (let z : 0 ≡ suc (length xs) = long in omega (arith, z))
  listed logs n (t ∷ live) (x ∷ xs) (y ∷ ys) hired long worked fine =
      let z : suc (length ys) ≡ suc (length xs) = long in
      let r = listed logs (n + 1) live xs ys hired.1 (omega (arith, z)) (later logs n x y xs ys worked) fine.1 in
      let some_first : 0 < length (x ∷ xs) = let q : length (x ∷ xs) ≡ suc (length xs) = refl in omega (arith, q) in
      let w = worked 0 x some_first in
      let o = one_is file limits s due states at idle table t x y w.0 hired.0 w.2 (w.2.makes fine.0) in
      let here : n + 0 ≡ n = omega arith in (
        o.0 ∷ r.0,
        ap (λ (a : HartWorker G). a ∷ befores file limits s due.share r.0) o.1 ∙ ap (λ (a : List (HartWorker G)). x ∷ a) r.1,
        ap (λ (a : HartWorker G). a ∷ afters file limits s due.share r.0) o.2 ∙ ap (λ (a : List (HartWorker G)). y ∷ a) r.2,
        (
          subst (λ (k : ℕ). get_elem? logs k ≡ some (Some o.0.part.log)) here (w.1 ∙ ap (λ (a : Log). some (Some a)) (sym o.3)),
          r.3,
        ),
      )

  -- there are parts that the workers made
  pub made_parts : (live : List ℕ) (v w : View) (before after : List (HartWorker G)) → AllZip (IsHired file limits due states) live before →
      HasRound Works table v w before after → Each (λ (x : HartWorker G). x.failed ≡ false) after →
      (parts : List Part) × ArePartsOf file limits s due.share v w before after parts
  made_parts live v w before after hired round fine =
      let l = listed w.logs (length v.logs) live before after hired round.same_count round.worked fine in
      let parts = parts_in file limits s due.share l.0 in (
        parts,
        subst (λ (xs : List (HartWorker G)). ArePartsOf file limits s due.share v w xs after parts) l.1
            (subst (λ (ys : List (HartWorker G)). ArePartsOf file limits s due.share v w (befores file limits s due.share l.0) ys parts) l.2
            (parts_are file limits s due.share v w l.0 l.3)),
      )
