-- From a take of an object to its give.
use Rattle.std.specs.Global.{Box}
use Rattle.std.specs.Box.{with_value}
use Rattle.std.proofs.Common.{◌≡◌, ◌+◌, ◌<◌, ℕ, List, [], ◌∷◌, ◌++◌, Some, refl, ap, sym, subst, ◌∙◌, append_assoc, append-nil, arith}
use Rattle.std.specs.Prelude.{IfOk, OnOk, Result, Ok, Err}
use Rattle.run_record.specs.declared.entry.Label.{Label}
use Rattle.run_record.specs.declared.entry.DeskNote.TheVariants.{Attach, Leave}
use Rattle.run_record.specs.declared.limits.Limits.{Limits}
use Rattle.bare_machine.specs.Step.{desk}
use Rattle.race_core.specs.Watched.{Watched}
use Rattle.shared_table.specs.declared.object.DeskState.{DeskState}
use Rattle.shared_table.specs.declared.object.Object.{Object}
use Rattle.shared_table.specs.declared.object.Object.TheVariants.{Stripe, Desk}
use Rattle.shared_table.specs.declared.view.Item.TheVariants.{Take, Give}
use Rattle.shared_table.specs.declared.view.Layout.{Layout}
use Rattle.shared_table.specs.Past.{Log, IsSound, IsDeskOf}
use Rattle.shared_table.specs.Steps.{Mine, holding}
use Rattle.shared_table.specs.Seats.{IsFree, Took, Gave}
use Rattle.table_deeds.specs.Objects.{slots_in}
use Rattle.hart_turns.specs.declared.slots.ThreadState.{ThreadState}
use Rattle.hart_turns.specs.Slots.{LeftAt}
use Rattle.hart_turns.specs.Checks.{with_items}
use Rattle.part_workers.specs.declared.part.Post.{Post}
use Rattle.part_workers.specs.declared.part.PartSoFar.{PartSoFar}
use Rattle.part_workers.specs.Turns.{IsDeskIn, with_note, stamp_after, LeavesOf, FindsNone, TakesIn, FindsNoneIn, TakesAtDesk, TriesAtDesk, LeavesIn, LeavesAtDesk}

-- what a call tells, where it tells something
pub ok_map : {T E : Type 0} (P Q : T → Type 0) (r : Result T E) → ((x : T) → P x → Q x) → IfOk r P → IfOk r Q
ok_map P Q (Ok x) f h = f x h
ok_map P Q (Err e) f h = tt

pub on_map : {T E : Type 0} (P Q : Type 0) (r : Result T E) → (P → Q) → OnOk r P → IfOk r (λ (x : T). Q)
on_map P Q (Ok x) f h = f h
on_map P Q (Err e) f h = tt

-- ---- sound objects

pub desk_in : (limits : Limits) (lay : Layout) (x : Object) → lay.limits ≡ limits → IsSound lay 64 x → IsDeskIn limits x
desk_in limits lay (Stripe s) e h = absurd (let l : 64 < 64 = h.0 in omega (arith, l))
desk_in limits lay (Desk d) e h = (subst (λ (l : Limits). IsDeskOf l d.value.desk) e h.1, h.2)

pub sound_desk : (limits : Limits) (lay : Layout) (x : Object) → lay.limits ≡ limits → IsDeskIn limits x → IsSound lay 64 x
sound_desk limits lay (Stripe s) e h = absurd h
sound_desk limits lay (Desk d) e h = (refl, subst (λ (l : Limits). IsDeskOf l d.value.desk) (sym e) h.0, h.1)

-- ---- a turn, with steps at cells within it

module _ (k : ℕ) (me me1 me2 me3 : Mine) (x y : Object) (items : Log) (t : Took k me x me1) (within : me2 ≡ with_items items me1) (g : Gave me2 y me3) where
  held : me2.0.held ≡ Some (holding k t.done x)
  held = ap (λ (m : Mine). m.0.held) within ∙ ap (λ (m : Mine). m.0.held) t.log

  pub turn_log : me3.0.log ≡ me.0.log ++ Take k (t.done + 1) ∷ (items ++ Give k (t.done + 1) x y ∷ [])
  turn_log =
      ap (λ (m : Mine). m.0.log) (g (holding k t.done x) held)
      ∙ (ap (λ (l : Log). l ++ Give k (t.done + 1) x y ∷ [])
      (ap (λ (m : Mine). m.0.log) within ∙ ap (λ (l : Log). l ++ items) (ap (λ (m : Mine). m.0.log) t.log))
      ∙ (append_assoc (me.0.log ++ Take k (t.done + 1) ∷ []) items (Give k (t.done + 1) x y ∷ [])
      ∙ append_assoc me.0.log (Take k (t.done + 1) ∷ []) (items ++ Give k (t.done + 1) x y ∷ [])))

  pub turn_free : IsFree me3
  turn_free = let e = g (holding k t.done x) held in (ap (λ (m : Mine). m.0.held) e, ap (λ (m : Mine). m.1) e)

  pub turn_number : me3.0.number ≡ me.0.number
  turn_number = ap (λ (m : Mine). m.0.number) (g (holding k t.done x) held)
      ∙ (ap (λ (m : Mine). m.0.number) within ∙ ap (λ (m : Mine). m.0.number) t.log)

-- no steps at cells
pub no_items : (me : Mine) → me ≡ with_items [] me
no_items me = ap (λ (l : Log). (record me.0 { log = l }, me.1)) (sym (append-nil me.0.log))

-- ---- turns of the desk

-- a slot that was left, as it is told
pub leaves_told : (limits : Limits) (post : Post) (label : Label) (w : Watched) (d e : DeskState) (stamp : ℕ) (before after : PartSoFar) →
    LeftAt limits post.tid label w d e → e.last ≡ d.last → stamp ≡ stamp_after before e.last → after ≡ with_note post (Leave label) stamp before →
    LeavesOf limits post label w d (record e { last = stamp }) before after
leaves_told limits post label w d e stamp before after left same is told =
    let next = is ∙ ap (stamp_after before) same in
    record { leaves = left.leaves; told = told ∙ ap (λ (n : ℕ). with_note post (Leave label) n before) next; left_there = next }

-- an object that is the desk, and found no free slot
pub none_in : (limits : Limits) (old new : ThreadState) (x : Object) (b : Box DeskState) (d e : DeskState) (before after : PartSoFar) → x ≡ Desk b →
    d ≡ b.value → FindsNone old new d e before after → FindsNoneIn limits old new x (Desk (with_value b e)) before after
none_in limits old new x b d e before after is value h = record {
  none_free = ap (λ (o : Object). (slots_in limits o).queue) is ∙ (ap (λ (s : DeskState). s.desk.queue) (sym value) ∙ h.none_free);
  hand = h.hand;
  object = ap (λ (s : DeskState). Desk (with_value b s)) (h.desk ∙ value) ∙ sym is;
  told = h.told;
}

module _ (limits : Limits) (post : Post) (before after : PartSoFar) (me me1 me2 : Mine) where
  pub took_desk : (old new : ThreadState) (x y : Object) (clock : List ℕ) → TakesIn limits post old new x y before after clock → Took desk me x me1 → Gave me1 y me2 →
      TakesAtDesk limits post old new before after clock me.0.log me2.0.log
  took_desk old new (Desk d) (Desk e) clock h t g =
      let last = ap (λ (q : PartSoFar). q.last) h.told in
      record {
        label = h.label;
        given = h.given;
        found = Desk d;
        left = Desk e;
        number = t.done + 1;
        turn = record {
          log = turn_log desk me me1 me1 me2 (Desk d) (Desk e) [] t (no_items me1) g;
          stamp_is = last;
          left_there = h.left_there ∙ sym last;
        };
        takes = λ file. h.takes;
        given_in = h.given_in;
        given_first = h.given_first;
        told = h.told ∙ ap (λ (n : ℕ). with_note post (Attach h.label) n before) (sym last);
      }
  took_desk old new (Desk d) (Stripe s) clock h t g = absurd h
  took_desk old new (Stripe s) y clock h t g = absurd h

  pub left_desk : (label : Label) (w : Watched) (x y : Object) → LeavesIn limits post label w x y before after → Took desk me x me1 → Gave me1 y me2 →
      LeavesAtDesk limits post label w before after me.0.log me2.0.log
  left_desk label w (Desk d) (Desk e) h t g =
      let last = ap (λ (q : PartSoFar). q.last) h.told in
      record {
        found = Desk d;
        left = Desk e;
        number = t.done + 1;
        turn = record {
          log = turn_log desk me me1 me1 me2 (Desk d) (Desk e) [] t (no_items me1) g;
          stamp_is = last;
          left_there = h.left_there ∙ sym last;
        };
        leaves = λ file. h.leaves;
        told = h.told ∙ ap (λ (n : ℕ). with_note post (Leave label) n before) (sym last);
      }
  left_desk label w (Desk d) (Stripe s) h t g = absurd h
  left_desk label w (Stripe s) y h t g = absurd h

  pub tried_desk : (old new : ThreadState) (x y : Object) → FindsNoneIn limits old new x y before after → Took desk me x me1 → Gave me1 y me2 →
      TriesAtDesk limits old new before after me.0.log me2.0.log
  tried_desk old new x y h t g = record {
    tried = record { number = t.done + 1; found = x };
    log_is = turn_log desk me me1 me1 me2 x x [] t (no_items me1) (subst (λ (z : Object). Gave me1 z me2) h.object g);
    none_free = h.none_free;
    hand = h.hand;
    told = h.told;
  }
