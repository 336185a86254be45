-- What an item leaves as it is: the clocks of other threads, and at other places.
use Rattle.std.proofs.Common.{if◌then◌else◌, ◌≡◌, ℕ, zero, suc, ◌<◌, ◌≤◌, Bool, true, false, Option, Some, None, is_none, refl, sym, ap, inl, inr, ◌∙◌, arith}
use Rattle.std.proofs.lemmas.Bool.{cases_eq, cases_Bool, and_parts}
use Rattle.std.specs.Prelude.{option_map}
use Rattle.run_record.specs.declared.entry.Label.{Label}
use Rattle.run_record.specs.declared.entry.DeskNote.TheVariants.{Nothing, Attach, Leave}
use Rattle.run_laws.specs.Moments.{Item, Does, Notes, NewEra, Past}
use Rattle.run_laws.specs.Labels.{Labels, can_attach, attach_labels, next_labels, labels, event_labels, label_of}
use Rattle.run_laws.specs.Clocks.{Clocks, Spot, leaves, empties, attach_clocks, event_clocks, next_clocks, clocks, ChangesThread, ChangesSpot}
use Rattle.run_laws.proofs.SlotSteps.{thread_other, attach_thread_other, attach_epoch_other, raised_other, slot_other, attach_slot_other}
use Rattle.run_laws.proofs.SlotLaw.{not_free_at, one_owner_at}

same_thread : (g : ℕ) (l : Labels) (k : Clocks) (it : Item) (u s : ℕ) → (ChangesThread u it → ⊥) → (next_clocks g l k it).thread u s ≡ k.thread u s
same_thread g l k (Does t w) u s d = thread_other g l k t w u s d
same_thread g l k (Notes t (Attach r)) u s d =
    elim (can_attach l t r.sid) as (λ b. (if b then attach_clocks l k t r.sid else k).thread u s ≡ k.thread u s) [
      | true ↦ attach_thread_other l k t r.sid u s d
      | false ↦ refl
    ]
same_thread g l k NewEra u s d = absurd (d tt)
same_thread g l k (Notes z Nothing) u s d = refl
same_thread g l k (Notes z (Leave b)) u s d = refl
same_thread g l k Past u s d = refl

-- a thread's clock stays while there is no item of its own
pub thread_frame : (g : ℕ) (h : ℕ → Item) (i n u s : ℕ) → i ≤ n → ((k : ℕ) → i ≤ k → k < n → ChangesThread u (h k) → ⊥) → (clocks g h n).thread u s ≡ (clocks g h i).thread u s
unfolding clocks
thread_frame g h i zero u s l d = let e : i ≡ 0 = omega arith in rw e refl
thread_frame g h i (suc n) u s l d =
    elim (cases_eq i (suc n)) [
      | inl e ↦ rw e refl
      | inr c ↦ same_thread g (labels g h n) (clocks g h n) (h n) u s (d n (omega arith) (omega arith)) ∙ thread_frame g h i n u s (omega arith) (λ k a b. d k a (omega arith))
    ]

same_spot : (g : ℕ) (l : Labels) (k : Clocks) (it : Item) (y : Spot) (s : ℕ) → (ChangesSpot l y it → ⊥) → (next_clocks g l k it).spot y s ≡ k.spot y s
same_spot g l k (Does t w) y s d = go (leaves l t w y) (empties l t w y) refl refl
  where
    go : (a b : Bool) → leaves l t w y ≡ a → empties l t w y ≡ b → (event_clocks g l k t w).spot y s ≡ k.spot y s
    go true b e f = absurd (d (inl e))
    go false true e f = absurd (d (inr f))
    go false false e f = rw (e, f) (omega arith)
same_spot g l k (Notes t (Attach r)) y s d =
    elim (can_attach l t r.sid) as (λ b. (if b then attach_clocks l k t r.sid else k).spot y s ≡ k.spot y s) [ true ↦ refl | false ↦ refl ]
same_spot g l k NewEra y s d = absurd (d tt)
same_spot g l k (Notes z Nothing) y s d = refl
same_spot g l k (Notes z (Leave b)) y s d = refl
same_spot g l k Past y s d = refl

-- a spot's clock stays while no item writes it
pub spot_frame : (g : ℕ) (h : ℕ → Item) (i n : ℕ) (y : Spot) (s : ℕ) → i ≤ n → ((k : ℕ) → i ≤ k → k < n → ChangesSpot (labels g h k) y (h k) → ⊥) → (clocks g h n).spot y s ≡ (clocks g h i).spot y s
unfolding clocks
spot_frame g h i zero y s l d = let e : i ≡ 0 = omega arith in rw e refl
spot_frame g h i (suc n) y s l d =
    elim (cases_eq i (suc n)) [
      | inl e ↦ rw e refl
      | inr c ↦ same_spot g (labels g h n) (clocks g h n) (h n) y s (d n (omega arith) (omega arith)) ∙ spot_frame g h i n y s (omega arith) (λ k a b. d k a (omega arith))
    ]

-- what the label of a thread is made of
label_in : Labels → ℕ → Option Label
label_in l u = option_map (λ (s : ℕ). record { sid = s; epoch = l.epoch s; era = l.era }) (l.slot_of u)

some_same : (s : ℕ) {e f r q : ℕ} → e ≡ f → r ≡ q → ◌≡◌ {A = Option Label} (Some (record { sid = s; epoch = e; era = r })) (Some (record { sid = s; epoch = f; era = q }))
some_same s a b = rw (a, b) refl

same_label : (l k : Labels) (u : ℕ) → k.slot_of u ≡ l.slot_of u → k.era ≡ l.era → ((s : ℕ) → l.slot_of u ≡ Some s → k.epoch s ≡ l.epoch s) → label_in k u ≡ label_in l u
unfolding label_in
same_label l k u slot era epoch = rw slot (go (l.slot_of u) refl)
  where
    go : (o : Option ℕ) → l.slot_of u ≡ o → option_map {U = Label} (λ (s : ℕ). record { sid = s; epoch = k.epoch s; era = k.era }) o ≡ option_map (λ (s : ℕ). record { sid = s; epoch = l.epoch s; era = l.era }) o
    go None q = refl
    go (Some s) q = some_same s (epoch s q) era

-- an item that isn't u's leaves u's label
keeps_label : (g : ℕ) (l : Labels) (it : Item) (u : ℕ) → ((t v s : ℕ) → l.slot_of t ≡ Some s → l.slot_of v ≡ Some s → t ≡ v) → ((s : ℕ) → l.slot_of u ≡ Some s → l.free s ≡ false) → (ChangesThread u it → ⊥) → label_in (next_labels g l it) u ≡ label_in l u
keeps_label g l (Does t w) u one owned d = same_label l (event_labels g l t w) u (slot_other g l t w u d) refl (λ s q. let e = raised_other g l t w s (λ r. d (one u t s q r)) in rw e (omega arith))
keeps_label g l (Notes t (Attach r)) u one owned d = elim (cases_Bool (can_attach l t r.sid)) [
  | inl c ↦
      let free = (and_parts (is_none (l.slot_of t)) (l.free r.sid) c).1 in
      rw c (same_label l (attach_labels l t r.sid) u (attach_slot_other l t r.sid u d) refl (λ s q. attach_epoch_other l t r.sid s (λ e. let z = sym (owned s q) ∙ (ap l.free e ∙ free) in cc)))
  | inr c ↦ rw c refl
]
keeps_label g l NewEra u one owned d = absurd (d tt)
keeps_label g l (Notes z Nothing) u one owned d = refl
keeps_label g l (Notes z (Leave b)) u one owned d = refl
keeps_label g l Past u one owned d = refl

-- a thread's label stays while there is no item of its own
pub label_frame : (g : ℕ) (h : ℕ → Item) (i n u : ℕ) → i ≤ n → ((k : ℕ) → i ≤ k → k < n → ChangesThread u (h k) → ⊥) → label_of g h n u ≡ label_of g h i u
unfolding labels label_in
label_frame g h i zero u l d = let e : i ≡ 0 = omega arith in rw e refl
label_frame g h i (suc n) u l d =
    elim (cases_eq i (suc n)) [
      | inl e ↦ rw e refl
      | inr c ↦ keeps_label g (labels g h n) (h n) u (one_owner_at g h n) (not_free_at g h n u) (d n (omega arith) (omega arith)) ∙ label_frame g h i n u (omega arith) (λ k a b. d k a (omega arith))
    ]
