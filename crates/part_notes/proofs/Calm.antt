-- The events of an entry that tells what the bare machine does: all but the last neither raise an epoch nor end their thread.
use Rattle.std.proofs.Common.{◌≡◌, ◌<◌, ◌⊎◌, ◌==◌, ℕ, zero, suc, Bool, true, false, List, [], ◌∷◌, ◌++◌, length, length-append, inl, inr, refl, sym, ap, subst, ◌∙◌, arith, eqb-true, eq-eqb}
use Rattle.std.specs.Prelude.{◌||◌}
use Rattle.std.specs.List.{list_all}
use Rattle.std.proofs.lemmas.Bool.{cases_Bool, and_parts}
use Rattle.run_record.specs.declared.event.Event.{Event}
use Rattle.run_record.specs.declared.entry.Entry.{Entry}
use Rattle.run_laws.specs.Labels.{raises, is_end}
use Rattle.run_laws.specs.Faithful.{after, events_made}
use Rattle.run_laws.proofs.SlotSteps.{raises_one}
use Rattle.bare_machine.specs.World.{World, lives}
use Rattle.bare_machine.specs.Step.{step}
use Rattle.machine_laws.specs.Machine.{bare_of}
use Rattle.machine_laws.specs.Threads.{Threads, threads_in, threads_after, AreThreads}
use Rattle.machine_laws.specs.Events.{AreAllowed, is_last, is_local}
use Rattle.machine_laws.proofs.StepLaw.{step_is}
use Rattle.machine_laws.proofs.ThreadLaw.{kept, local_raises, local_ends}
use Rattle.turn_orders.specs.Lists.{Each}
use Rattle.turn_orders.proofs.Members.{each_append}
use Rattle.watched_turns.specs.Along.{StampedDeed}
use Rattle.turn_histories.proofs.Made.{Facts}
use Rattle.turn_histories.proofs.Along.{world_over, AllFacts}
use Rattle.part_notes.proofs.Notes.{IsCalm}

-- each event is calm, or is the last
abbrev IsCalmBut : List Event → Type 0
IsCalmBut [] = Unit {0}
IsCalmBut (x ∷ xs) = (IsCalm x ⊎ (xs ≡ [])) × IsCalmBut xs

calm_before : (xs first others : List Event) (event : Event) → IsCalmBut xs → xs ≡ first ++ event ∷ others → Each IsCalm first
calm_before xs [] others event c e = tt
calm_before [] (x ∷ first) others event c e = absurd (let z = ap (λ (ys : List Event). length ys) e in omega (arith, z))
calm_before (y ∷ xs) (x ∷ first) others event c e =
    let rest : xs ≡ first ++ event ∷ others = cc in
    let head : y ≡ x = cc in
    (subst IsCalm head (here c.0 rest), calm_before xs first others event c.1 rest)
  where
    here : (IsCalm y ⊎ (xs ≡ [])) → xs ≡ first ++ event ∷ others → IsCalm y
    here (inl calm) q = calm
    here (inr none) q = absurd (let z = ap (λ (ys : List Event). length ys) (sym none ∙ q) in omega (arith, z, length-append first (event ∷ others)))

calm_then : (xs ys : List Event) → Each IsCalm xs → IsCalmBut ys → IsCalmBut (xs ++ ys)
calm_then [] ys c d = d
calm_then (x ∷ xs) ys c d = (inl c.0, calm_then xs ys c.1 d)

raises_or : (e : Event) → is_last e ≡ false → IsCalm e
raises_or e q = go (raises e == 1) (is_end e) refl refl q
  where
    go : (a b : Bool) → (raises e == 1) ≡ a → is_end e ≡ b → (a || b) ≡ false → IsCalm e
    go true b x y z = absurd (cc)
    go false true x y z = absurd (cc)
    go false false x y z = (none e x, y)
      where
        none : (v : Event) → (raises v == 1) ≡ false → raises v ≡ 0
        none v r = elim (cases_Bool (raises v == 0)) [
          | inl s ↦ eqb-true (raises v) 0 s
          | inr s ↦ absurd (let one = raises_one v s in let t = eq-eqb (raises v) 1 one in cc)
        ]

allowed_calm : (harts : ℕ) (threads : Threads) (t : ℕ) (es : List Event) → AreAllowed harts threads t es → IsCalmBut es
allowed_calm harts threads t [] a = tt
allowed_calm harts threads t (e ∷ es) a = (
  elim (cases_Bool (is_last e)) [ inl q ↦ inr (a.0.last q) | inr q ↦ inl (raises_or e q) ],
  allowed_calm harts (threads_after t threads e) t es a.1,
)

local_calm : (es : List Event) → list_all is_local es ≡ true → Each IsCalm es
local_calm [] q = tt
local_calm (e ∷ es) q =
    let parts = and_parts (is_local e) (list_all is_local es) q in
    ((local_raises e parts.0, local_ends e parts.0), local_calm es parts.1)

module _ (file : List ℕ) (harts : ℕ) where
  -- what holds of threads at all times, after so many instructions
  abbrev pub HasThreads : World → Type 0
  HasThreads w = AreThreads w.harts (threads_in w)

  threads_then : (w : World) (t n : ℕ) → ((j : ℕ) → j < n → lives (after (bare_of file harts) w t j) t ≡ true) → HasThreads w →
      HasThreads (after (bare_of file harts) w t n)
  threads_then w t zero alive h = h
  threads_then w t (suc n) alive h =
      kept file (after (bare_of file harts) w t n) t (alive n (omega arith)) (threads_then w t n (λ j l. alive j (omega (arith, l))) h)

  -- and after entries
  pub threads_over : (w : World) (ds : List StampedDeed) (es : List Entry) → AllFacts file harts w ds es → HasThreads w →
      HasThreads (world_over file harts w es)
  threads_over w [] [] f h = h
  threads_over w [] (e ∷ es) f h = absurd f
  threads_over w (d ∷ ds) [] f h = absurd f
  threads_over w (d ∷ ds) (e ∷ es) f h =
      threads_over (after (bare_of file harts) w e.tid e.steps) ds es f.1 (threads_then w e.tid e.steps f.0.alive h)

  module _ (w : World) (e : Entry) (k : ℕ) (facts : Facts file harts w e e.tid k) (h : HasThreads w) where
    abbrev at : ℕ → World
    at n = after (bare_of file harts) w e.tid n

    apart_calm : (n : ℕ) → n < e.steps → Each IsCalm (events_made (bare_of file harts) w e.tid n)
    apart_calm zero l = tt
    apart_calm (suc n) l =
        let alive = facts.alive n (omega (arith, l)) in
        let threads = threads_then w e.tid n (λ j m. facts.alive j (omega (arith, l, m))) h in
        each_append IsCalm (events_made (bare_of file harts) w e.tid n) (step file (at n) e.tid).events (apart_calm n (omega (arith, l)))
        (local_calm (step file (at n) e.tid).events ((step_is file (at n) e.tid alive threads).without_object (facts.apart n (omega (arith, l)))))

    all_calm : (n : ℕ) → e.steps ≡ n → IsCalmBut (events_made (bare_of file harts) w e.tid n)
    all_calm zero q = tt
    all_calm (suc n) q =
        let alive = facts.alive n (omega (arith, q)) in
        let threads = threads_then w e.tid n (λ j m. facts.alive j (omega (arith, q, m))) h in
        calm_then (events_made (bare_of file harts) w e.tid n) (step file (at n) e.tid).events (apart_calm n (omega (arith, q)))
        (allowed_calm (at n).harts (threads_in (at n)) e.tid (step file (at n) e.tid).events (step_is file (at n) e.tid alive threads).allowed)

    pub entry_calm : (first others : List Event) (event : Event) → e.events ≡ first ++ event ∷ others → Each IsCalm first
    entry_calm first others event is =
        calm_before e.events first others event (subst IsCalmBut (sym facts.events_are) (all_calm e.steps refl)) is
