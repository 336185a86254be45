-- A history with one more moment.
use Rattle.std.proofs.Common.{◌≡◌, ℕ, suc, ◌<◌, Bool, true, false, cond, List, [], ◌∷◌, ◌++◌, length, length-append, refl, ap, sym, ◌∙◌, arith}
use Rattle.std.proofs.Math.ListN.{get_or-append}
use Rattle.std.proofs.Math.Seq.{get_or-append_seam}
use Rattle.run_record.specs.declared.entry.DeskNote.TheVariants.{Nothing, Attach, Leave}
use Rattle.run_laws.specs.Moments.{Item, Does, Notes, NewEra, Past, Moment, moment_at, items, IsBy}
use Rattle.run_laws.specs.Labels.{Labels, labels, next_labels, can_attach, attach_labels}
use Rattle.run_laws.specs.Clocks.{clocks}
use Rattle.run_laws.specs.Present.{labels_now, clocks_now}
use Rattle.run_laws.proofs.PresentLaw.{labels_now-push, labels_stay, clocks_stay}
use Rattle.slot_desk.specs.Desks.{DeskContents}
use Rattle.slot_desk.specs.History.{IsDeskAt}
use Rattle.slot_desk.proofs.HistoryLaw.{at_agrees}
use Rattle.race_core.specs.History.{era_now}

-- a moment stays where it is
pub moment-append : (xs ys : List Moment) (n : ℕ) → n < length xs → moment_at (xs ++ ys) n ≡ moment_at xs n
moment-append xs ys n l = get_or-append xs ys (record { entry = 0; round = 0; item = Past; checks = [] }) n l

pub moment-seam : (xs : List Moment) (m : Moment) → moment_at (xs ++ m ∷ []) (length xs) ≡ m
moment-seam xs m = get_or-append_seam xs m [] (record { entry = 0; round = 0; item = Past; checks = [] })

pub length-push : (h : List Moment) (m : Moment) → length (h ++ m ∷ []) ≡ suc (length h)
length-push h m = omega (arith, length-append h (m ∷ []))

pub item-append : (h : List Moment) (m : Moment) (i : ℕ) → i < length h → items h i ≡ items (h ++ m ∷ []) i
item-append h m i l = sym (ap (λ (x : Moment). x.item) (moment-append h (m ∷ []) i l))

pub item-seam : (h : List Moment) (m : Moment) → items (h ++ m ∷ []) (length h) ≡ m.item
item-seam h m = ap (λ (x : Moment). x.item) (moment-seam h m)

-- the desk before the next moment, in the longer history
pub desk_before : (g n : ℕ) (h : List Moment) (m : Moment) (d : DeskContents) → IsDeskAt g n (items h) (length h) d → IsDeskAt g n (items (h ++ m ∷ [])) (length h) d
desk_before g n h m d at = at_agrees g n (items h) (items (h ++ m ∷ [])) (length h) d (λ j l. item-append h m j l) at

-- and after it
pub desk_now : (g n : ℕ) (h : List Moment) (m : Moment) (d : DeskContents) → IsDeskAt g n (items (h ++ m ∷ [])) (suc (length h)) d → IsDeskAt g n (items (h ++ m ∷ [])) (length (h ++ m ∷ [])) d
desk_now g n h m d at = rw (length-push h m) at

-- labels and clocks before the next moment are those of the longer history there
pub labels_before : (g : ℕ) (h : List Moment) (m : Moment) → labels g (items (h ++ m ∷ [])) (length h) ≡ labels_now g h
labels_before g h m = labels_stay g h (m ∷ []) (length h) (omega arith)

pub clocks_before : (g : ℕ) (h : List Moment) (m : Moment) → clocks g (items (h ++ m ∷ [])) (length h) ≡ clocks_now g h
clocks_before g h m = clocks_stay g h (m ∷ []) (length h) (omega arith)

-- only a new era has another number
same_era : (g : ℕ) (l : Labels) (item : Item) → (item ≡ NewEra → ⊥) → (next_labels g l item).era ≡ l.era
same_era g l (Does t e) other = refl
same_era g l (Notes t Nothing) other = refl
same_era g l (Notes t (Leave a)) other = refl
same_era g l (Notes t (Attach a)) other = go (can_attach l t a.sid)
  where
    go : (b : Bool) → (cond b (attach_labels l t a.sid) l).era ≡ l.era
    go true = refl
    go false = refl
same_era g l NewEra other = absurd (other refl)
same_era g l Past other = refl

pub era_stays : (g : ℕ) (h : List Moment) (m : Moment) → (m.item ≡ NewEra → ⊥) → era_now g (h ++ m ∷ []) ≡ era_now g h
era_stays g h m other = ap (λ (l : Labels). l.era) (labels_now-push g h m) ∙ same_era g (labels_now g h) m.item other

-- a moment of one thread is none of another
pub by_one : (t u : ℕ) (item : Item) → IsBy t item → (u ≡ t → ⊥) → IsBy u item → ⊥
by_one t u (Does v e) by other too = other (sym too ∙ by)
by_one t u (Notes v note) by other too = other (sym too ∙ by)
by_one t u NewEra by other too = by
by_one t u Past by other too = by

pub no_era : (t : ℕ) (item : Item) → IsBy t item → item ≡ NewEra → ⊥
no_era t (Does v e) by same = cc
no_era t (Notes v note) by same = cc
no_era t NewEra by same = by
no_era t Past by same = by
