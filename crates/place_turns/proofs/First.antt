-- The first state is that of the first world.
use Rattle.std.proofs.Common.{◌≡◌, ◌≢◌, ◌<◌, ℕ, Bool, cond, ltb, List, refl, sym, ap, ◌∙◌, arith, ne_eqb, zero-add}
use Rattle.std.proofs.lemmas.Bool.{lt-ltb}
use Rattle.std.proofs.lemmas.List.FromFn.{length-map-range_with_len, get_or-map-range_with_len}
use Rattle.elf_image.specs.File.{granules_of, initial_word}
use Rattle.bare_machine.specs.Step.{desk}
use Rattle.place_turns.specs.Places.{Value, of_desk, of_stripe, of_nobody, stripe_in, stripe_at}
use Rattle.place_turns.specs.Wholes.{IsStateOf, first_whole, first_state, first_value, first_stripe, first_desk}

-- a stripe is one of the first places
first_at : (file : List ℕ) (k : ℕ) → k < desk → first_value file k ≡ of_stripe (first_stripe file)
first_at file k l =
    let other : k ≢ desk = λ q. omega arith in
    ap (λ (b : Bool). cond b (of_desk (first_desk file)) (cond (ltb k desk) (of_stripe (first_stripe file)) of_nobody)) (ne_eqb k desk other)
    ∙ ap (λ (b : Bool). cond b (of_stripe (first_stripe file)) of_nobody) (lt-ltb k desk l)

pub first_is : (file : List ℕ) (harts : ℕ) → IsStateOf file harts (first_whole file harts) (first_state file)
first_is file harts = record {
  threads = record { here = λ t e. absurd (cc); absent = λ t e. refl; waiting = λ t e. refl; inside = λ t e. absurd (cc); count = refl; living = refl };
  memory = record {
    granules = length-map-range_with_len (initial_word file) 0 (granules_of file);
    words = λ n l.
        let below : stripe_at file n < desk = omega arith in
        ap (λ (v : Value). (stripe_in v).words n) (first_at file (stripe_at file n) below) ∙ sym (get_or-map-range_with_len (initial_word file) 0 (granules_of file) n n 0 l (zero-add n));
    reservations = λ t n l. refl;
  };
  harts_are = refl;
  output = refl;
  ended = refl;
}
