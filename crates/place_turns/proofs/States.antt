-- The state after a turn, from what its thread and its place are then.
use Rattle.std.proofs.Common.{◌≡◌, ◌≢◌, ℕ, List, Option, sym, ap, subst, ◌∙◌, arith}
use Rattle.bare_machine.specs.declared.thread.Thread.{Thread}
use Rattle.bare_machine.specs.Requests.{Request, object_of}
use Rattle.bare_machine.specs.Step.{Step, desk, serve}
use Rattle.turn_orders.specs.Machine.{State, but}
use Rattle.turn_orders.proofs.Functions.{but_else, but_map, but_same}
use Rattle.place_turns.specs.Places.{Local, Stripe, Desk, Value, of_stripe, of_desk, stripe_in, desk_in, IsAt, stripe_at}
use Rattle.place_turns.specs.Turns.{Turned, served}
use Rattle.place_turns.specs.Wholes.{Whole, HasThreads, HasMemory, IsStateOf, desk_of}
use Rattle.place_turns.proofs.Memory.{stripes_alike}

-- the threads that are with themselves, the granule that each reserved last, and the stripes
abbrev pub own : State Local Value → ℕ → Option Thread
own m = λ t. (m.local t).thread

abbrev pub last : State Local Value → ℕ → Option ℕ
last m = λ t. (m.local t).reserved

abbrev pub stripes : State Local Value → ℕ → Stripe
stripes m = λ k. stripe_in (m.value k)

module _ (file : List ℕ) (harts : ℕ) (g : Whole) (m : State Local Value) (t : ℕ) (l : Local) where
  -- the value of the place stays
  pub at_any : (k : ℕ) → HasThreads g.world.threads g.arrived (but (own m) t l.thread) (desk_of m).made (desk_of m).lives → HasMemory file g.world.memory (but (last m) t l.reserved) (stripes m)
      → g.world.harts ≡ harts → (desk_of m).output ≡ g.world.output → (desk_of m).ended ≡ g.world.ended
      → IsStateOf file harts g (record { local = but m.local t l; value = but m.value k (m.value k) })
  at_any k threads memory harts_are output ended =
      let s : IsStateOf file harts g (record { local = but m.local t l; value = m.value }) = record {
        threads = subst (λ (o : ℕ → Option Thread). HasThreads g.world.threads g.arrived o (desk_of m).made (desk_of m).lives) (sym (but_map (λ (x : Local). x.thread) m.local t l)) threads;
        memory = subst (λ (r : ℕ → Option ℕ). HasMemory file g.world.memory r (stripes m)) (sym (but_map (λ (x : Local). x.reserved) m.local t l)) memory;
        harts_are = harts_are;
        output = output;
        ended = ended;
      } in
      subst (λ (v : ℕ → Value). IsStateOf file harts g (record { local = but m.local t l; value = v })) (sym (but_same m.value k)) s

  -- a stripe is another
  pub at_stripe : (k : ℕ) (s : Stripe) → k ≢ desk → HasThreads g.world.threads g.arrived (but (own m) t l.thread) (desk_of m).made (desk_of m).lives
      → HasMemory file g.world.memory (but (last m) t l.reserved) (but (stripes m) k s)
      → g.world.harts ≡ harts → (desk_of m).output ≡ g.world.output → (desk_of m).ended ≡ g.world.ended
      → IsStateOf file harts g (record { local = but m.local t l; value = but m.value k (of_stripe s) })
  at_stripe k s other threads memory harts_are output ended =
      let same : desk_in (but m.value k (of_stripe s) desk) ≡ desk_of m = ap desk_in (but_else m.value k desk (of_stripe s) (λ q. other (sym q))) in
      record {
        threads = subst (λ (o : ℕ → Option Thread). HasThreads g.world.threads g.arrived o (desk_in (but m.value k (of_stripe s) desk)).made (desk_in (but m.value k (of_stripe s) desk)).lives)
            (sym (but_map (λ (x : Local). x.thread) m.local t l))
            (subst (λ (d : Desk). HasThreads g.world.threads g.arrived (but (own m) t l.thread) d.made d.lives) (sym same) threads);
        memory = subst (λ (r : ℕ → Option ℕ). HasMemory file g.world.memory r (λ (j : ℕ). stripe_in (but m.value k (of_stripe s) j))) (sym (but_map (λ (x : Local). x.reserved) m.local t l))
            (subst (HasMemory file g.world.memory (but (last m) t l.reserved)) (sym (but_map stripe_in m.value k (of_stripe s))) memory);
        harts_are = harts_are;
        output = ap (λ (d : Desk). d.output) same ∙ output;
        ended = ap (λ (d : Desk). d.ended) same ∙ ended;
      }

  -- the desk is another
  pub at_desk : (d : Desk) → HasThreads g.world.threads g.arrived (but (own m) t l.thread) d.made d.lives → HasMemory file g.world.memory (but (last m) t l.reserved) (stripes m)
      → g.world.harts ≡ harts → d.output ≡ g.world.output → d.ended ≡ g.world.ended
      → IsStateOf file harts g (record { local = but m.local t l; value = but m.value desk (of_desk d) })
  at_desk d threads memory harts_are output ended = record {
    threads = subst (λ (o : ℕ → Option Thread). HasThreads g.world.threads g.arrived o d.made d.lives) (sym (but_map (λ (x : Local). x.thread) m.local t l)) threads;
    memory = subst (λ (r : ℕ → Option ℕ). HasMemory file g.world.memory r (λ (j : ℕ). stripe_in (but m.value desk (of_desk d) j))) (sym (but_map (λ (x : Local). x.reserved) m.local t l))
        (stripes_alike file memory (λ (j : ℕ). stripe_in (but m.value desk (of_desk d) j)) (λ n. ap stripe_in (but_else m.value desk (stripe_at file n) (of_desk d) (λ q. omega arith))));
    harts_are = harts_are;
    output = output;
    ended = ended;
  }

-- The step's world has the state after the turn, and the step has the events that the turn tells.
pub record Meets (file : List ℕ) (harts : ℕ) (g : Whole) (m : State Local Value) (t k : ℕ) (s : Step) (o : Turned) : Type 0 where
  pub state : IsStateOf file harts (record g { world = s.world }) (record { local = but m.local t o.local; value = but m.value k o.value })
  pub told : s.events ≡ o.told

-- At the place of its object the request that is served comes to what the world makes of it.
pub record Serves (file : List ℕ) (harts : ℕ) (g : Whole) (m : State Local Value) (t : ℕ) (x : Thread) (r : Request) : Type 0 where
  pub object : (serve g.world t x r).object ≡ object_of r
  pub meets : (k : ℕ) → IsAt k (object_of r) → Meets file harts g m t k (serve g.world t x r) (served harts t (m.local t) (m.value k) x r)
