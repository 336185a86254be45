-- What is told of the accesses that wait, one after another.
use Rattle.std.proofs.Common.{◌≡◌, ℕ, ◌<◌, Bool, Option, Some, List, [], ◌∷◌, ◌++◌, length, get_or, refl, ap, sym, subst, ◌∙◌, append_assoc, append-nil}
use Rattle.std.specs.Prelude.{All, map, fold, slice_get}
use Rattle.std.specs.List.{AllZip}
use Rattle.std.proofs.lemmas.List.{map-append}
use Rattle.std.proofs.lemmas.List.Elements.{All-from_recursion, recursion_from_All}
use Rattle.std.proofs.lemmas.List.Sums.{fold-append}
use Rattle.std.proofs.lemmas.Option.{slice_get_read}
use Rattle.run_record.specs.declared.limits.Limits.{Limits}
use Rattle.run_record.specs.declared.report.Report.{Report}
use Rattle.run_record.specs.declared.report.Side.{Side}
use Rattle.elf_image.specs.File.{granule_address}
use Rattle.run_laws.specs.Moments.{Moment}
use Rattle.run_laws.specs.Reports.{Kept, kept_after}
use Rattle.trace_parts.specs.Held.{HeldTrace, with_spare}
use Rattle.turn_orders.specs.Machine.{State}
use Rattle.turn_orders.specs.LineUp.{Stamped}
use Rattle.slot_desk.specs.Desks.{DeskContents}
use Rattle.report_laws.specs.Awaited.{Awaited, IsToldBy}
use Rattle.shared_table.specs.declared.object.Object.{Object}
use Rattle.placed_detector.specs.Standing.{Hand}
use Rattle.detector.specs.Stands.{awaited}
use Rattle.detector.specs.Told.{IsOwnedBy, HasOwnerAt, CanBeSought, side_in}
use Rattle.part_runs.specs.Ends.{IsTellable, trace_of}
use Rattle.part_races.specs.Sorting.{awaited_in}
use Rattle.hart_turns.specs.declared.slots.ThreadState.{ThreadState}
use Rattle.hart_workers.specs.declared.pending.Pending.{Pending}
use Rattle.hart_workers.specs.Tells.{keyed_of_pending, HaveTraces, CanTell, TellsReports}
use Rattle.hart_workers.specs.Sides.{TellsSide}

abbrev pub awaited_of_pending : Pending → Awaited
awaited_of_pending p = awaited p.waiting.candidate

pub awaited_in_pending : (ps : List Pending) → awaited_in (map keyed_of_pending ps) ≡ map awaited_of_pending ps
awaited_in_pending [] = refl
awaited_in_pending (p ∷ ps) = ap (λ (l : List Awaited). awaited_of_pending p ∷ l) (awaited_in_pending ps)

-- ---- one of them

head_of : {X : Type 0} (P : X → Type 0) (x : X) (xs : List X) → All P (x ∷ xs) → P x
head_of P x xs all = (recursion_from_All P (x ∷ xs) all).0

-- of a list, that what stands behind others has
at_seam : {X : Type 0} (P : X → Type 0) (before : List X) (x : X) (after : List X) → All P (before ++ x ∷ after) → P x
at_seam P [] x after all = head_of P x after all
at_seam P (y ∷ before) x after all =
    at_seam P before x after (All-from_recursion P (before ++ x ∷ after) (recursion_from_All P (y ∷ (before ++ x ∷ after)) all).1)

alone : {X : Type 0} (P : X → Type 0) (x : X) → P x → All P (x ∷ [])
alone P x h = All-from_recursion P (x ∷ []) (h, tt)

-- what a trace tells doesn't depend on its room
sought_so : (file : List ℕ) (x y : HeldTrace) (granule word : ℕ) → with_spare 0 x ≡ y → CanBeSought file y granule word → CanBeSought file x granule word
sought_so file x y granule word same can =
    let s = subst (λ (z : HeldTrace). CanBeSought file z granule word) (sym same) can in
    record { block = s.block; granule_is = s.granule_is; cell = s.cell; stands = s.stands }

side_so : (file : List ℕ) (x y : HeldTrace) (granule word t : ℕ) (side : Side) → with_spare 0 x ≡ y → side ≡ side_in file x granule word t → side ≡ side_in file y granule word t
side_so file x y granule word t side same is = subst (λ (z : HeldTrace). side ≡ side_in file z granule word t) same is

-- what is read from a list of states stands there
pub there_so : (states : List (Option ThreadState)) (i : ℕ) (read : Option ThreadState) (x : ThreadState) → i < length states → read ≡ get_or states i read →
    read ≡ Some x → slice_get states i ≡ Some (Some x)
there_so states i read x within found is = slice_get_read states (length states) i read refl within found ∙ ap Some is

module _ (file : List ℕ) (states : List (Option ThreadState)) (d : DeskContents) where
  module _ (one : Awaited) (can : CanTell file states d (one ∷ [])) where
    tellable_now : IsTellable file can.limits can.h can.ends d one
    tellable_now = head_of (IsTellable file can.limits can.h can.ends d) one [] can.tellable

    pub owner_there : HasOwnerAt d one.word
    owner_there = tellable_now.owner

    pub can_seek : (t : ℕ) (x : ThreadState) → IsOwnedBy d one.word t → slice_get states t ≡ Some (Some x) → CanBeSought file x.watcher.trace one.granule one.word
    can_seek t x owned there =
        sought_so file x.watcher.trace (trace_of can.ends t) one.granule one.word (can.traces t x there) (tellable_now.sought t owned)

  -- the side that a state tells makes the report, wherever that can be told
  told_by : (limits : Limits) (h : List Moment) (ends : State (Stamped Hand) Object) (one : Awaited) (side : Side) → HaveTraces ends states →
      IsTellable file limits h ends d one → TellsSide file states d one side →
      IsToldBy limits (granule_address file) h one (record { mine = one.mine; previous = side })
  told_by limits h ends one side traces can tells =
      can.tells tells.tid side tells.owned (side_so file tells.state.watcher.trace (trace_of ends tells.tid) one.granule one.word tells.tid side
      (traces tells.tid tells.state tells.there) tells.side_is)

-- ---- all of them

zip_more : {X Y : Type 0} (R : X → Y → Type 0) (xs : List X) (ys : List Y) (x : X) (y : Y) → AllZip R xs ys → R x y → AllZip R (xs ++ x ∷ []) (ys ++ y ∷ [])
zip_more R [] [] x y z r = (r, tt)
zip_more R [] (y ∷ ys) x z none r = absurd none
zip_more R (x ∷ xs) [] z y none r = absurd none
zip_more R (a ∷ xs) (b ∷ ys) x y z r = (z.0, zip_more R xs ys x y z.1 r)

-- Of what waits, these have been told, and the others are left.
pub record Telling (meets : Option (List ℕ) → Option (List ℕ) → Bool) (file : List ℕ) (states : List (Option ThreadState)) (d : DeskContents)
    (all : List Awaited) (before after : Kept) (done left : List Pending) : Type 0 where
  pub told : List Report
  pub all_are : all ≡ map awaited_of_pending done ++ map awaited_of_pending left
  pub tells :
      (limits : Limits) (h : List Moment) (ends : State (Stamped Hand) Object) → HaveTraces ends states → All (IsTellable file limits h ends d) all →
      AllZip (IsToldBy limits (granule_address file) h) (map awaited_of_pending done) told
  pub kept : after ≡ fold (kept_after meets) before told

module _ (meets : Option (List ℕ) → Option (List ℕ) → Bool) (file : List ℕ) (states : List (Option ThreadState)) (d : DeskContents) where
  pub telling_start : (before : Kept) (ps : List Pending) → Telling meets file states d (awaited_in (map keyed_of_pending ps)) before before [] ps
  telling_start before ps = record { told = []; all_are = awaited_in_pending ps; tells = λ limits h ends traces each. tt; kept = refl }

  module _ (all : List Awaited) (before after : Kept) (done : List Pending) (p : Pending) (left : List Pending)
      (t : Telling meets file states d all before after done (p ∷ left)) where
    abbrev one : Awaited
    one = awaited_of_pending p

    at_this : (P : Awaited → Type 0) → All P all → P one
    at_this P each = at_seam P (map awaited_of_pending done) one (map awaited_of_pending left) (subst (All P) t.all_are each)

    pub next_can : CanTell file states d all → CanTell file states d (one ∷ [])
    next_can can =
        let P = IsTellable file can.limits can.h can.ends d in
        record { limits = can.limits; h = can.h; ends = can.ends; traces = can.traces; tellable = alone P one (at_this P can.tellable) }

    pub telling_step : (side : Side) (next : Kept) → TellsSide file states d one side →
        next ≡ kept_after meets after (record { mine = one.mine; previous = side }) → Telling meets file states d all before next (done ++ p ∷ []) left
    telling_step side next tells_side next_is =
        let report : Report = record { mine = one.mine; previous = side } in
        record {
          told = t.told ++ report ∷ [];
          all_are = t.all_are ∙ (sym (append_assoc (map awaited_of_pending done) (one ∷ []) (map awaited_of_pending left))
              ∙ ap (λ (l : List Awaited). l ++ map awaited_of_pending left) (sym (map-append awaited_of_pending done (p ∷ []))));
          tells = λ limits h ends traces each.
              subst (λ (l : List Awaited). AllZip (IsToldBy limits (granule_address file) h) l (t.told ++ report ∷ []))
              (sym (map-append awaited_of_pending done (p ∷ [])))
              (zip_more (IsToldBy limits (granule_address file) h) (map awaited_of_pending done) t.told one report (t.tells limits h ends traces each)
              (told_by file states d limits h ends one side traces (at_this (IsTellable file limits h ends d) each) tells_side));
          kept = next_is ∙ (ap (λ (k : Kept). kept_after meets k report) t.kept ∙ sym (fold-append (kept_after meets) before t.told (report ∷ [])));
        }

  pub telling_end : (all : List Awaited) (before after : Kept) (done : List Pending) → Telling meets file states d all before after done [] →
      TellsReports meets file states d all before after
  telling_end all before after done t =
      let same : map awaited_of_pending done ≡ all = sym (t.all_are ∙ append-nil (map awaited_of_pending done)) in
      record {
        told = t.told;
        tells = λ limits h ends traces each.
            subst (λ (l : List Awaited). AllZip (IsToldBy limits (granule_address file) h) l t.told) same (t.tells limits h ends traces each);
        kept = t.kept;
      }
