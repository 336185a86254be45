-- Memory by stripes: a granule that is reserved or written.
use Rattle.std.proofs.Common.{◌≡◌, ◌<◌, ℕ, Bool, true, false, eqb, eqb-true, List, slice_set, Option, Some, None, refl, sym, ap, subst, ◌∙◌}
use Rattle.std.specs.Prelude.{◌&&◌, slice_index}
use Rattle.std.proofs.lemmas.List.{length-set}
use mathlib.Core.Logic.{dite}
use native.Mathlib.Decide.{ℕ_discrete}
use Rattle.rv_exec.specs.declared.exec.Effect.{Effect}
use Rattle.rv_exec.specs.declared.exec.Effect.TheVariants as effects
use Rattle.elf_image.specs.File.{granules_of}
use Rattle.guest_memory.specs.Reservations.{stands}
use Rattle.bare_machine.specs.Memory.{GuestMemory, reserved, written}
use Rattle.turn_orders.specs.Machine.{but}
use Rattle.turn_orders.proofs.Functions.{but_each, but_else, but_here, but_same}
use Rattle.place_turns.specs.Places.{Stripe, stripe_at, reserves}
use Rattle.place_turns.specs.Turns.{reserved_after, stripe_reserved, stripe_written}
use Rattle.place_turns.specs.Wholes.{HasMemory}
use Rattle.place_turns.proofs.Lists.{index_set_same, index_set_other}
use Rattle.place_turns.proofs.Reservations as stand

-- what one stripe tells alike after a change tells alike of all
stripe_alike : {X : Type 0} (f : Stripe → X) (stripes : ℕ → Stripe) (k j : ℕ) (s : Stripe) → f s ≡ f (stripes k) → f (but stripes k s j) ≡ f (stripes j)
stripe_alike f stripes k j s e = dite (ℕ_discrete j k)
    (λ q. ap f (but_here stripes k j s q) ∙ (e ∙ ap (λ (i : ℕ). f (stripes i)) (sym q)))
    (λ ne. ap f (but_else stripes k j s ne))

module _ (file : List ℕ) {m : GuestMemory} {last : ℕ → Option ℕ} {stripes : ℕ → Stripe} (h : HasMemory file m last stripes) where
  -- only the stripes of granules count
  pub stripes_alike : (others : ℕ → Stripe) → ((n : ℕ) → others (stripe_at file n) ≡ stripes (stripe_at file n)) → HasMemory file m last others
  stripes_alike others same = record {
    granules = h.granules;
    words = λ n l. ap (λ (s : Stripe). s.words n) (same n) ∙ h.words n l;
    reservations = λ u n l. h.reservations u n l ∙ ap (λ (s : Stripe). reserves (last u) n && stands s.reservations u n) (sym (same n));
  }

  nothing_reserved : (t k : ℕ) → HasMemory file m (but last t (last t)) (but stripes k (stripes k))
  nothing_reserved t k = subst (λ (l : ℕ → Option ℕ). HasMemory file m l (but stripes k (stripes k))) (sym (but_same last t)) (subst (HasMemory file m last) (sym (but_same stripes k)) h)

  -- LR
  granule_reserved : (t g a size : ℕ) →
      HasMemory file (reserved m t g (effects.Reserve a size)) (but last t (Some g)) (but stripes (stripe_at file g) (stripe_reserved (stripes (stripe_at file g)) t g (effects.Reserve a size)))
  granule_reserved t g a size = record {
    granules = h.granules;
    words = λ n l. stripe_alike (λ s. s.words n) stripes (stripe_at file g) (stripe_at file n) (stripe_reserved (stripes (stripe_at file g)) t g (effects.Reserve a size)) refl ∙ h.words n l;
    reservations = λ u n l. but_each
        (λ v o. stands (reserved m t g (effects.Reserve a size)).reservations v n ≡ (reserves o n && stands (but stripes (stripe_at file g) (stripe_reserved (stripes (stripe_at file g)) t g (effects.Reserve a size)) (stripe_at file n)).reservations v n)) last t (Some g)
        (stand.own_reserved m.reservations t g n ∙ own n (eqb g n) refl)
        (λ v ne. stand.others_reserved m.reservations t g v n ne ∙ (h.reservations v n l
        ∙ ap (λ (b : Bool). reserves (last v) n && b) (sym (stripe_alike (λ s. stands s.reservations v n) stripes (stripe_at file g) (stripe_at file n) (stripe_reserved (stripes (stripe_at file g)) t g (effects.Reserve a size))
        (stand.others_reserved (stripes (stripe_at file g)).reservations t g v n ne))))) u;
  }
    where
      own : (n : ℕ) (b : Bool) → eqb g n ≡ b → eqb g n ≡ (eqb g n && stands (but stripes (stripe_at file g) (stripe_reserved (stripes (stripe_at file g)) t g (effects.Reserve a size)) (stripe_at file n)).reservations t n)
      own n false e = e ∙ ap (λ (c : Bool). c && stands (but stripes (stripe_at file g) (stripe_reserved (stripes (stripe_at file g)) t g (effects.Reserve a size)) (stripe_at file n)).reservations t n) (sym e)
      own n true e =
          let q : stripe_at file n ≡ stripe_at file g = ap (stripe_at file) (sym (eqb-true g n e)) in
          let at = ap (λ (s : Stripe). stands s.reservations t n) (but_here stripes (stripe_at file g) (stripe_at file n) (stripe_reserved (stripes (stripe_at file g)) t g (effects.Reserve a size)) q) in
          let all : stands (but stripes (stripe_at file g) (stripe_reserved (stripes (stripe_at file g)) t g (effects.Reserve a size)) (stripe_at file n)).reservations t n ≡ true = at ∙ (stand.own_reserved (stripes (stripe_at file g)).reservations t g n ∙ e) in
          e ∙ (sym all ∙ ap (λ (c : Bool). c && stands (but stripes (stripe_at file g) (stripe_reserved (stripes (stripe_at file g)) t g (effects.Reserve a size)) (stripe_at file n)).reservations t n) (sym e))

  -- SC
  own_ended : (t g a size v : ℕ) →
      HasMemory file (reserved m t g (effects.Conditional a size v)) (but last t None) (but stripes (stripe_at file g) (stripe_reserved (stripes (stripe_at file g)) t g (effects.Conditional a size v)))
  own_ended t g a size v = record {
    granules = h.granules;
    words = λ n l. stripe_alike (λ s. s.words n) stripes (stripe_at file g) (stripe_at file n) (stripe_reserved (stripes (stripe_at file g)) t g (effects.Conditional a size v)) refl ∙ h.words n l;
    reservations = λ u n l. but_each
        (λ w o. stands (reserved m t g (effects.Conditional a size v)).reservations w n ≡ (reserves o n && stands (but stripes (stripe_at file g) (stripe_reserved (stripes (stripe_at file g)) t g (effects.Conditional a size v)) (stripe_at file n)).reservations w n)) last t None
        (stand.none_without m.reservations t n)
        (λ w ne. stand.others_without m.reservations t w n ne ∙ (h.reservations w n l
        ∙ ap (λ (b : Bool). reserves (last w) n && b) (sym (stripe_alike (λ s. stands s.reservations w n) stripes (stripe_at file g) (stripe_at file n) (stripe_reserved (stripes (stripe_at file g)) t g (effects.Conditional a size v))
        (stand.others_without (stripes (stripe_at file g)).reservations t w n ne))))) u;
  }

  pub reserved_by : (t g : ℕ) (e : Effect) → HasMemory file (reserved m t g e) (but last t (reserved_after (last t) g e)) (but stripes (stripe_at file g) (stripe_reserved (stripes (stripe_at file g)) t g e))
  reserved_by t g (effects.Reserve a size) = granule_reserved t g a size
  reserved_by t g (effects.Conditional a size v) = own_ended t g a size v
  reserved_by t g (effects.Load a size) = nothing_reserved t (stripe_at file g)
  reserved_by t g (effects.Store a size v) = nothing_reserved t (stripe_at file g)
  reserved_by t g (effects.Amo a size arg) = nothing_reserved t (stripe_at file g)
  reserved_by t g effects.Local = nothing_reserved t (stripe_at file g)
  reserved_by t g effects.Call = nothing_reserved t (stripe_at file g)
  reserved_by t g (effects.Fault fault) = nothing_reserved t (stripe_at file g)

  word_written : (g word : ℕ) → g < granules_of file → HasMemory file (written m g (Some word)) last (but stripes (stripe_at file g) (stripe_written (stripes (stripe_at file g)) g (Some word)))
  word_written g word inside = record {
    granules = length-set m.words g word ∙ h.granules;
    words = λ n l. dite (ℕ_discrete n g)
        (λ q. ap (λ (s : Stripe). s.words n) (but_here stripes (stripe_at file g) (stripe_at file n) new (ap (stripe_at file) q))
        ∙ (but_here (stripes (stripe_at file g)).words g n word q ∙ (sym (index_set_same m.words g word (subst (λ (k : ℕ). g < k) (sym h.granules) inside)) ∙ ap (slice_index (slice_set m.words g word)) (sym q))))
        (λ ne. stripe_alike (λ s. s.words n) stripes (stripe_at file g) (stripe_at file n) new (but_else (stripes (stripe_at file g)).words g n word ne) ∙ (h.words n l ∙ sym (index_set_other m.words g n word ne)));
    reservations = λ u n l. dite (ℕ_discrete n g)
        (λ q.
        let gone = λ (s : Stripe). stands s.reservations u n in
        let none : stands new.reservations u n ≡ false = subst (λ (k : ℕ). stands new.reservations u k ≡ false) (sym q) (stand.none_ungranted (stripes (stripe_at file g)).reservations u g) in
        let after : stands (but stripes (stripe_at file g) new (stripe_at file n)).reservations u n ≡ false = ap gone (but_here stripes (stripe_at file g) (stripe_at file n) new (ap (stripe_at file) q)) ∙ none in
        subst (λ (k : ℕ). stands (written m g (Some word)).reservations u k ≡ false) (sym q) (stand.none_ungranted m.reservations u g)
        ∙ (sym (stand.and_false (reserves (last u) n)) ∙ ap (λ (b : Bool). reserves (last u) n && b) (sym after)))
        (λ ne. stand.others_ungranted m.reservations u g n ne ∙ (h.reservations u n l
        ∙ ap (λ (b : Bool). reserves (last u) n && b) (sym (stripe_alike (λ s. stands s.reservations u n) stripes (stripe_at file g) (stripe_at file n) new (stand.others_ungranted (stripes (stripe_at file g)).reservations u g n ne)))));
  }
    where
      new : Stripe
      new = stripe_written (stripes (stripe_at file g)) g (Some word)

  pub written_by : (g : ℕ) (o : Option ℕ) → g < granules_of file → HasMemory file (written m g o) last (but stripes (stripe_at file g) (stripe_written (stripes (stripe_at file g)) g o))
  written_by g None inside = subst (HasMemory file m last) (sym (but_same stripes (stripe_at file g))) h
  written_by g (Some word) inside = word_written g word inside
