-- Where deeds are paid, notes stand where they should.
use Rattle.std.proofs.Common.{◌≡◌, ◌≢◌, ℕ, Option, Some, None, List, [], ◌∷◌, refl, sym, subst, ap, ◌∙◌}
use Rattle.run_record.specs.declared.limits.Limits.{Limits}
use Rattle.run_record.specs.declared.entry.Entry.{Entry}
use Rattle.run_record.specs.declared.entry.Label.{Label}
use Rattle.run_record.specs.declared.entry.DeskNote.TheVariants.{Nothing, Attach, Leave}
use Rattle.turn_orders.specs.Lists.{Each}
use Rattle.watched_turns.specs.Turns.{Act}
use Rattle.placed_detector.specs.Standing.{Hand, Held}
use Rattle.deed_histories.specs.Deeds.{IsDeed, Takes, Leaves, Makes}
use Rattle.deed_histories.specs.Lines.{IsHandDeed}
use Rattle.table_deeds.specs.Objects.{ObjectDeed, hand_deed}
use Rattle.hart_parts.specs.Parts.{IsNeedy, SpendsIn, IsFollowedBy, AreNoted, BeginsUnspent}
use Rattle.part_growth.specs.Growth.{Owing, nothing, needy, leave_of, Owes, ArePaid}
use Rattle.part_growth.proofs.Slots.{none_spent, none_needy}

-- an entry that takes a slot has no events, and one that leaves a slot no instructions
pub record IsPlain (e : Entry) : Type 0 where
  pub attach : (l : Label) → e.note ≡ Attach l → e.events ≡ []
  pub leave : (l : Label) → e.note ≡ Leave l → e.steps ≡ 0

pub plain_made : (e : Entry) → e.note ≡ Nothing → IsPlain e
plain_made e none = record { attach = λ l q. absurd (cc); leave = λ l q. absurd (cc) }

plain_deed : (file : List ℕ) (limits : Limits) (era t k : ℕ) (found left : Hand) (place_found place_left : Held) (e : Entry) (acts : List Act) →
    IsDeed file limits era t k found left place_found place_left e acts → IsPlain e
plain_deed file limits era t k found left pf pl e _ (Takes label at takes tells) =
    record { attach = λ l q. tells.events; leave = λ l q. absurd (let r = tells.note_is in cc) }
plain_deed file limits era t k found left pf pl e _ (Leaves label at leaves same tells) =
    record { attach = λ l q. absurd (let r = tells.note_is in cc); leave = λ l q. tells.steps }
plain_deed file limits era t k found left pf pl e _ (Makes xs made tells) = plain_made e tells.note

pub all_plain : (file : List ℕ) (limits : Limits) (era : ℕ) (ds : List ObjectDeed) →
    Each (λ (d : ObjectDeed). IsHandDeed file limits era (hand_deed file limits d)) ds → Each (λ (d : ObjectDeed). IsPlain d.told.entry) ds
all_plain file limits era [] h = tt
all_plain file limits era (d ∷ ds) h = (plain_deed file limits era _ _ _ _ _ _ d.told.entry d.told.acts h.0.deed, all_plain file limits era ds h.1)

module _ (file : List ℕ) (limits : Limits) where
  -- the first of two lists that are one
  same_first : (d e : ObjectDeed) (ds es : List ObjectDeed) → d ∷ ds ≡ e ∷ es → d ≡ e
  same_first d e ds es q = cc

  none_first : (e : ObjectDeed) (es : List ObjectDeed) → [] ≡ e ∷ es → ⊥
  none_first e es q = absurd (cc)

  nothing_follows : (d : ObjectDeed) (ds : List ObjectDeed) → Owes limits d nothing → (IsNeedy file limits d → d.local_found.state.watched.label ≢ None) →
      ArePaid file limits nothing ds nothing → IsFollowedBy file limits d ds
  nothing_follows d [] o l p = record {
    needed = λ m q. absurd (o.0 m q);
    left = λ m s. absurd (o.1 m s);
    left_only = λ e es m q note. absurd (none_first e es q);
    labelled = l;
  }
  nothing_follows d (f ∷ fs) o l p = record {
    needed = λ m q. absurd (o.0 m q);
    left = λ m s. absurd (o.1 m s);
    left_only = λ e es m q note. absurd (p.1 m (ap (λ (x : ObjectDeed). x.told.entry.note) (same_first f e fs es q) ∙ note));
    labelled = l;
  }

  needy_follows : (d : ObjectDeed) (ds : List ObjectDeed) → IsPlain d.told.entry → Each (λ (x : ObjectDeed). IsPlain x.told.entry) ds →
      Owes limits d needy → (IsNeedy file limits d → d.local_found.state.watched.label ≢ None) → ArePaid file limits needy ds nothing →
      IsFollowedBy file limits d ds
  needy_follows d [] n ns o l p = absurd (let r : needy ≡ nothing = p in cc)
  needy_follows d (f ∷ fs) n ns o l p = record {
    needed = λ m q. p.1;
    left = λ m s. absurd (none_spent limits d m (n.attach o.0 o.1) s);
    left_only = λ e es m q note.
        absurd (none_needy file limits f (ns.0.leave m (ap (λ (x : ObjectDeed). x.told.entry.note) (same_first f e fs es q) ∙ note)) p.1);
    labelled = l;
  }

  leave_follows : (d : ObjectDeed) (ds : List ObjectDeed) (m : Label) → IsPlain d.told.entry → Owes limits d (leave_of m) →
      (IsNeedy file limits d → d.local_found.state.watched.label ≢ None) → ArePaid file limits (leave_of m) ds nothing → IsFollowedBy file limits d ds
  leave_follows d [] m n o l p = absurd (let r : leave_of m ≡ nothing = p in cc)
  leave_follows d (f ∷ fs) m n o l p = record {
    needed = λ k q. absurd (none_spent limits d m (n.attach k q) o);
    left = λ k s. p.1 ∙ ap Leave (same (Some m) (Some k) refl refl (sym o.label ∙ s.label));
    left_only = λ e es k q note.
        subst (SpendsIn limits d) (left_same m k (sym p.1 ∙ (ap (λ (x : ObjectDeed). x.told.entry.note) (same_first f e fs es q) ∙ note))) o;
    labelled = l;
  }
    where
      same : (a b : Option Label) {x y : Label} → a ≡ Some x → b ≡ Some y → a ≡ b → x ≡ y
      same a b p q r = cc

      left_same : (x y : Label) → Leave x ≡ Leave y → x ≡ y
      left_same x y q = cc

  pub noted : (owed : Owing) (ds : List ObjectDeed) → Each (λ (d : ObjectDeed). IsPlain d.told.entry) ds → ArePaid file limits owed ds nothing →
      AreNoted file limits ds
  noted owed [] n p = tt
  noted owed (d ∷ ds) n p = (by p.0 p.2 p.4, noted p.0 ds n.1 p.4)
    where
      by : (next : Owing) → Owes limits d next → ArePaid file limits next ds nothing → IsFollowedBy file limits d ds
      by nothing o r = nothing_follows d ds o p.3 r
      by needy o r = needy_follows d ds n.0 n.1 o p.3 r
      by (leave_of m) o r = leave_follows d ds m n.0 o p.3 r

  -- a part doesn't begin with a leave
  pub unspent_first : (ds : List ObjectDeed) (owing : Owing) → ArePaid file limits nothing ds owing → BeginsUnspent ds
  unspent_first [] owing p = tt
  unspent_first (d ∷ ds) owing p = p.1
