-- What the events of each call make of the threads.
use Rattle.std.proofs.Common.{not, ◌≡◌, ◌<◌, ℕ, Bool, true, false, if◌then◌else◌, [], ◌∷◌, ◌++◌, Option, Some, None, refl, arith}
use Rattle.run_record.specs.declared.event.Event.TheVariants as events
use Rattle.run_record.specs.declared.event.Part.{Part}
use Rattle.run_record.specs.declared.event.Part.TheVariants.{Main, Readers}
use Rattle.entry_calls.specs.declared.call.AtomicOp.{AtomicOp}
use Rattle.entry_calls.specs.declared.call.AtomicOp.TheVariants as ops
use Rattle.entry_calls.specs.Effects.{only_if, acquires, releases, changing, atomic_events}
use Rattle.machine_laws.specs.Threads.{Threads, threads_after}
use Rattle.machine_laws.specs.Events.{IsCreation, IsJoining, IsSize}
use Rattle.machine_laws.proofs.Made.{Makes}

module _ (harts : ℕ) (threads : Threads) (t : ℕ) (alive : threads.lives t ≡ true) (first : false ≡ not (threads.began t)) where
  pub no_event : (object : Option ℕ) → Makes harts threads t [] object 3 threads
  no_event object = record { allowed = tt; after_is = refl; few = omega arith; few_pushed = omega arith; without_object = λ e. refl }

  pub put_makes : (value count desk : ℕ) → Makes harts threads t (events.Put value count ∷ []) (Some desk) 3 threads
  put_makes value count desk = record { allowed = (record { alive = alive; first = first; may = tt; last = λ e. absurd (cc) }, tt); after_is = refl; few = omega arith; few_pushed = omega arith; without_object = λ e. absurd (cc) }

  pub create_makes : (n desk : ℕ) → IsCreation harts threads n → Makes harts threads t (events.Create n ∷ []) (Some desk) 3 (threads_after t threads (events.Create n))
  create_makes n desk may = record { allowed = (record { alive = alive; first = first; may = may; last = λ e. refl }, tt); after_is = refl; few = omega arith; few_pushed = omega arith; without_object = λ e. absurd (cc) }

  pub join_makes : (n desk : ℕ) → IsJoining threads n → Makes harts threads t (events.Join n ∷ []) (Some desk) 3 threads
  join_makes n desk may = record { allowed = (record { alive = alive; first = first; may = may; last = λ e. absurd (cc) }, tt); after_is = refl; few = omega arith; few_pushed = omega arith; without_object = λ e. absurd (cc) }

  pub access_makes : (place addr size : ℕ) (read : Bool) → IsSize size → Makes harts threads t (events.Access place addr size read false ∷ []) None 3 threads
  access_makes place addr size read may = record { allowed = (record { alive = alive; first = first; may = may; last = λ e. absurd (cc) }, tt); after_is = refl; few = omega arith; few_pushed = omega arith; without_object = λ e. refl }

  pub enter_makes : (frame : ℕ) → threads.depth t < 4096 → Makes harts threads t (events.Enter frame ∷ []) None 3 (threads_after t threads (events.Enter frame))
  enter_makes frame may = record { allowed = (record { alive = alive; first = first; may = may; last = λ e. absurd (cc) }, tt); after_is = refl; few = omega arith; few_pushed = omega arith; without_object = λ e. refl }

  pub leave_makes : Makes harts threads t (events.Leave ∷ []) None 3 (threads_after t threads events.Leave)
  leave_makes = record { allowed = (record { alive = alive; first = first; may = tt; last = λ e. absurd (cc) }, tt); after_is = refl; few = omega arith; few_pushed = omega arith; without_object = λ e. refl }

  pub acquire_makes : (addr : ℕ) (part : Part) (o : ℕ) → Makes harts threads t (events.Acquire addr part ∷ []) (Some o) 3 threads
  acquire_makes addr part o = record { allowed = (record { alive = alive; first = first; may = tt; last = λ e. absurd (cc) }, tt); after_is = refl; few = omega arith; few_pushed = omega arith; without_object = λ e. absurd (cc) }

  pub release_makes : (addr : ℕ) (part : Part) (replaces : Bool) (o : ℕ) → Makes harts threads t (events.Release addr part replaces ∷ []) (Some o) 3 threads
  release_makes addr part replaces o = record { allowed = (record { alive = alive; first = first; may = tt; last = λ e. refl }, tt); after_is = refl; few = omega arith; few_pushed = omega arith; without_object = λ e. absurd (cc) }

  pub destroy_makes : (addr o : ℕ) → Makes harts threads t (events.Destroy addr ∷ []) (Some o) 3 threads
  destroy_makes addr o = record { allowed = (record { alive = alive; first = first; may = tt; last = λ e. absurd (cc) }, tt); after_is = refl; few = omega arith; few_pushed = omega arith; without_object = λ e. absurd (cc) }

  pub lock_makes : (addr o : ℕ) (read : Bool) → Makes harts threads t (events.Lock addr read ∷ events.Acquire addr Main ∷ []) (Some o) 3 threads
  lock_makes addr o read =
      record {
        allowed = (record { alive = alive; first = first; may = tt; last = λ e. absurd (cc) }, (record { alive = alive; first = first; may = tt; last = λ e. absurd (cc) }, tt));
        after_is = refl;
        few = omega arith;
        few_pushed = omega arith;
        without_object = λ e. absurd (cc);
      }

  pub write_lock_makes : (addr o : ℕ) → Makes harts threads t (events.Lock addr false ∷ events.Acquire addr Main ∷ events.Acquire addr Readers ∷ []) (Some o) 3 threads
  write_lock_makes addr o =
      record {
        allowed = (record { alive = alive; first = first; may = tt; last = λ e. absurd (cc) }, (record { alive = alive; first = first; may = tt; last = λ e. absurd (cc) }, (record { alive = alive; first = first; may = tt; last = λ e. absurd (cc) }, tt)));
        after_is = refl;
        few = omega arith;
        few_pushed = omega arith;
        without_object = λ e. absurd (cc);
      }

  pub unlock_makes : (addr o : ℕ) (read : Bool) (part : Part) (replaces : Bool) → Makes harts threads t (events.Unlock addr read ∷ events.Release addr part replaces ∷ []) (Some o) 3 threads
  unlock_makes addr o read part replaces =
      record {
        allowed = (record { alive = alive; first = first; may = tt; last = λ e. absurd (cc) }, (record { alive = alive; first = first; may = tt; last = λ e. refl }, tt));
        after_is = refl;
        few = omega arith;
        few_pushed = omega arith;
        without_object = λ e. absurd (cc);
      }

  -- ---- atomic operations

  acquire_access : (b : Bool) (place addr size : ℕ) (o : ℕ) → IsSize size → Makes harts threads t (only_if b (events.Acquire addr Main) ++ events.Access place addr size true true ∷ []) (Some o) 3 threads
  acquire_access true place addr size o may =
      record {
        allowed = (record { alive = alive; first = first; may = tt; last = λ e. absurd (cc) }, (record { alive = alive; first = first; may = may; last = λ e. absurd (cc) }, tt));
        after_is = refl;
        few = omega arith;
        few_pushed = omega arith;
        without_object = λ e. absurd (cc);
      }
  acquire_access false place addr size o may =
      record { allowed = (record { alive = alive; first = first; may = may; last = λ e. absurd (cc) }, tt); after_is = refl; few = omega arith; few_pushed = omega arith; without_object = λ e. absurd (cc) }

  access_channel : (b : Bool) (place addr size : ℕ) (o : ℕ) → IsSize size →
      Makes harts threads t (events.Access place addr size false true ∷ (if b then events.Release addr Main true else events.Clear addr) ∷ []) (Some o) 3 threads
  access_channel true place addr size o may =
      record {
        allowed = (record { alive = alive; first = first; may = may; last = λ e. absurd (cc) }, (record { alive = alive; first = first; may = tt; last = λ e. refl }, tt));
        after_is = refl;
        few = omega arith;
        few_pushed = omega arith;
        without_object = λ e. absurd (cc);
      }
  access_channel false place addr size o may =
      record {
        allowed = (record { alive = alive; first = first; may = may; last = λ e. absurd (cc) }, (record { alive = alive; first = first; may = tt; last = λ e. absurd (cc) }, tt));
        after_is = refl;
        few = omega arith;
        few_pushed = omega arith;
        without_object = λ e. absurd (cc);
      }

  access_both : (b d : Bool) (place addr size : ℕ) (o : ℕ) → IsSize size →
      Makes harts threads t (events.Access place addr size false true ∷ [] ++ only_if b (events.Acquire addr Main) ++ only_if d (events.Release addr Main false)) (Some o) 3 threads
  access_both true true place addr size o may =
      record {
        allowed = (record { alive = alive; first = first; may = may; last = λ e. absurd (cc) }, (record { alive = alive; first = first; may = tt; last = λ e. absurd (cc) }, (record { alive = alive; first = first; may = tt; last = λ e. refl }, tt)));
        after_is = refl;
        few = omega arith;
        few_pushed = omega arith;
        without_object = λ e. absurd (cc);
      }
  access_both true false place addr size o may =
      record {
        allowed = (record { alive = alive; first = first; may = may; last = λ e. absurd (cc) }, (record { alive = alive; first = first; may = tt; last = λ e. absurd (cc) }, tt));
        after_is = refl;
        few = omega arith;
        few_pushed = omega arith;
        without_object = λ e. absurd (cc);
      }
  access_both false true place addr size o may =
      record {
        allowed = (record { alive = alive; first = first; may = may; last = λ e. absurd (cc) }, (record { alive = alive; first = first; may = tt; last = λ e. refl }, tt));
        after_is = refl;
        few = omega arith;
        few_pushed = omega arith;
        without_object = λ e. absurd (cc);
      }
  access_both false false place addr size o may =
      record { allowed = (record { alive = alive; first = first; may = may; last = λ e. absurd (cc) }, tt); after_is = refl; few = omega arith; few_pushed = omega arith; without_object = λ e. absurd (cc) }

  changing_makes : (place addr size order o : ℕ) → IsSize size → Makes harts threads t (changing place addr size order) (Some o) 3 threads
  changing_makes place addr size order o may = access_both (acquires order) (releases order) place addr size o may

  pub atomic_makes : (op : AtomicOp) (wrote : Bool) (place addr size order fail_order o : ℕ) → IsSize size → Makes harts threads t (atomic_events op wrote place addr size order fail_order) (Some o) 3 threads
  atomic_makes ops.Load wrote place addr size order fail_order o may = acquire_access (acquires order) place addr size o may
  atomic_makes ops.Store wrote place addr size order fail_order o may = access_channel (releases order) place addr size o may
  atomic_makes ops.Compare true place addr size order fail_order o may = changing_makes place addr size order o may
  atomic_makes ops.Compare false place addr size order fail_order o may = acquire_access (acquires fail_order) place addr size o may
  atomic_makes _ wrote place addr size order fail_order o may = changing_makes place addr size order o may
