-- What a closed table leaves.
use Rattle.std.proofs.Common.{◌≡◌, ◌↔◌, ℕ, ◌+◌, ◌*◌, ◌%◌, ◌<◌, true, List, length, get_or, Option, None, Some, IsSome, refl, sym, ap, ◌∙◌, subst, ◌⊎◌, inl, inr, ⊎_elim, arith}
use mathlib.Core.Option.{Option as Maybe, some, none, some-injective, some-ne-none}
use lib.ListN.{get_elem?}
use Rattle.atomic_table.specs.Table.{Final, Seen}
use Rattle.shared_table.specs.declared.object.Object.TheVariants.{Stripe as AStripe, Desk as ADesk}
use Rattle.shared_table.specs.declared.object.Stripe.{Stripe}
use Rattle.shared_table.specs.declared.object.DeskState.{DeskState}
use Rattle.shared_table.specs.declared.view.Layout.{Layout}
use Rattle.shared_table.specs.declared.view.View.{View}
use Rattle.shared_table.specs.Layouts.{objects_of, cells_of}
use Rattle.shared_table.specs.Past.{Slot, IsSoundSlot, Turns, turns_of, word_by, word_of, log_of}
use Rattle.shared_table.specs.Rule.{word_place, slot_place, home_by, home_of, Kept}
use Rattle.shared_table.specs.Ends.{ends_as, left_by, left_of, stripe_in, desk_in, EndsAs}
use Rattle.shared_table.proofs.Pasts.{if_here, if_else, sound_stays}
use Rattle.shared_table.proofs.Rows.{some_at}

left_as : (st : Turns) (n : ℕ) (y : Slot) → n ≡ word_of st → (home_of st ≡ some y) ⊎ (home_of st ≡ none) → ends_as n y ≡ left_of st
left_as st n y word home = by_case st.by (word ∙ refl) home
  where
    by_case : (b : Option ℕ) → n ≡ word_by st.done b → (home_by st.value b ≡ some y) ⊎ (home_by st.value b ≡ none) → ends_as n y ≡ left_by st.value b
    by_case None w h = ⊎_elim (λ e. if_here (n % 2) 0 y None (omega arith) ∙ sym (some-injective st.value y e)) (λ e. absurd (some-ne-none st.value e)) h
    by_case (Some m) w h = if_else (n % 2) 0 y None (λ z. omega arith)

home_cases : (m : Maybe Slot) → ((y : Slot) × (m ≡ some y)) ⊎ (m ≡ none)
home_cases (some y) = inl (y, refl)
home_cases none = inr refl

stripe_there : (lay : Layout) (k : ℕ) (x : Slot) (b : Option ℕ) → k < 64 → IsSoundSlot lay k x → IsSome (stripe_in (left_by x b)) ↔ (b ≡ None)
stripe_there lay k None b l ok = absurd ok
stripe_there lay k (Some (ADesk d)) b l ok = absurd (let e = ok.0 in omega arith)
stripe_there lay k (Some (AStripe s)) None l ok = (λ _. refl, λ _. refl)
stripe_there lay k (Some (AStripe s)) (Some n) l ok = (λ e. absurd (cc), λ e. absurd (cc))

desk_there : (lay : Layout) (x : Slot) (b : Option ℕ) → IsSoundSlot lay 64 x → IsSome (desk_in (left_by x b)) ↔ (b ≡ None)
desk_there lay None b ok = absurd ok
desk_there lay (Some (AStripe s)) b ok = absurd (let e = ok.0 in omega arith)
desk_there lay (Some (ADesk d)) None ok = (λ _. refl, λ _. refl)
desk_there lay (Some (ADesk d)) (Some n) ok = (λ e. absurd (cc), λ e. absurd (cc))

module _ (id : ℕ) (v : View) (ws : List ℕ) (xs : List Slot) (stripes : List (Option Stripe)) (desk : Option DeskState) (words : List ℕ) where
  abbrev Stripes : Type 0
  Stripes = (k : ℕ) (y : Slot) → k < 64 → get_elem? xs (slot_place k) ≡ some y → get_or stripes k None ≡ stripe_in (ends_as (get_or ws (word_place k) 0) y)

  abbrev ADeskThere : Type 0
  ADeskThere = (y : Slot) → get_elem? xs (slot_place 64) ≡ some y → desk ≡ desk_in (ends_as (get_or ws (word_place 64) 0) y)

  closes_at : v.live ≡ true → v.number ≡ 0 → objects_of v.layout ≡ 65 → length xs ≡ 260 → Final (Seen (Kept v.layout) id v) ws xs → Stripes → ADeskThere
      → ((c : ℕ) → c < cells_of v.layout → get_or words c 0 ≡ get_or ws (520 + c) 0) → EndsAs v stripes desk words
  closes_at live opening objects long final vs d cs =
      let s = final.0 in
      let r = final.1.0 in
      let same = final.2 in
      let know = r.seats id v final.1.1 live in
      let found : (k : ℕ) → k < 65 → (y : Slot) × (get_elem? xs (slot_place k) ≡ some y) × (ends_as (get_or ws (word_place k) 0) y ≡ left_of (turns_of v.layout k r.past)) = λ k l.
      let st : Turns = turns_of v.layout k r.past in
      let word : get_or ws (word_place k) 0 ≡ word_of st = ap (λ (z : List ℕ). get_or z (word_place k) 0) (sym same) ∙ r.words k (omega arith) in
      let home = r.homes k (omega arith) in
      let y = some_at xs (slot_place k) (omega arith) in
      ⊎_elim
      (λ (t : (z : Slot) × (home_of st ≡ some z)).
      let there = final.4 (slot_place k) t.0 (home ∙ ap some t.1) in
      (t.0, there, left_as st (get_or ws (word_place k) 0) t.0 word (inl t.1)))
      (λ none_there. (y.0, y.1, left_as st (get_or ws (word_place k) 0) y.0 word (inr none_there)))
      (home_cases (home_of st)) in
      let stripe_left : (k : ℕ) → k < 64 → get_or stripes k None ≡ stripe_in (left_of (turns_of v.layout k r.past)) = λ k l. let f = found k (omega arith) in vs k f.0 l f.1 ∙ ap stripe_in f.2 in
      let desk_left : desk ≡ desk_in (left_of (turns_of v.layout 64 r.past)) = let f = found 64 (omega arith) in d f.0 f.1 ∙ ap desk_in f.2 in
      let sound : (k : ℕ) → k < 65 → IsSoundSlot v.layout k (turns_of v.layout k r.past).value = λ k l. sound_stays v.layout r.past k (r.sound k (omega arith)) r.lawful in
      record {
        past = r.past;
        lawful = r.lawful;
        logs = know.logs opening;
        log = know.log ∙ ap (λ n. log_of n r.past) opening;
        stripe_left = stripe_left;
        stripe_there = λ k l. let st : Turns = turns_of v.layout k r.past in subst (λ (x : Option Stripe). IsSome x ↔ (st.by ≡ None)) (sym (stripe_left k l)) (stripe_there v.layout k st.value st.by l (sound k (omega arith)));
        desk_left = desk_left;
        desk_there = let st : Turns = turns_of v.layout 64 r.past in subst (λ (x : Option DeskState). IsSome x ↔ (st.by ≡ None)) (sym desk_left) (desk_there v.layout st.value st.by (sound 64 (omega arith)));
        words = λ c l. cs c l ∙ (ap (λ (z : ℕ). get_or ws (z + c) 0) (let e = objects in omega arith) ∙ (ap (λ (z : List ℕ). get_or z (8 * objects_of v.layout + c) 0) (sym same) ∙ r.stores c l));
      }

  pub closes : (lay : Layout) → v.live ≡ true → v.number ≡ 0 → objects_of lay ≡ 65 → length xs ≡ 260 → Final (Seen (Kept lay) id v) ws xs → Stripes → ADeskThere
      → ((c : ℕ) → c < cells_of lay → get_or words c 0 ≡ get_or ws (520 + c) 0) → EndsAs v stripes desk words
  closes lay live opening objects long final vs d cs =
      let know = final.1.0.seats id v final.1.1 live in
      let same : lay ≡ v.layout = sym know.same_layout in
      closes_at live opening (sym (ap objects_of same) ∙ objects) long (subst (λ (l : Layout). Final (Seen (Kept l) id v) ws xs) same final) vs d
      (subst (λ (l : Layout). (c : ℕ) → c < cells_of l → get_or words c 0 ≡ get_or ws (520 + c) 0) same cs)
