-- An instruction that uses no object is made at whatever place.
use Rattle.std.proofs.Common.{◌≡◌, ◌+◌, ℕ, Option, Some, None, List, [], ◌∷◌, map, refl, ap, sym, subst, ◌∙◌, arith}
use Rattle.run_record.specs.declared.entry.Check.{Check}
use Rattle.run_record.specs.declared.entry.Label.{Label}
use Rattle.run_record.specs.declared.event.Event.{Event}
use Rattle.run_record.specs.declared.event.Event.TheVariants as events
use Rattle.run_record.specs.declared.limits.Limits.{Limits}
use Rattle.bare_machine.specs.declared.request.Request.{Request}
use Rattle.bare_machine.specs.declared.request.Request.TheVariants as kinds
use Rattle.bare_machine.specs.Asked.{asked}
use Rattle.bare_machine.specs.Memory.{stripe}
use Rattle.bare_machine.specs.Requests.{object_of, request}
use Rattle.rv_exec.specs.Registers.{Registers}
use Rattle.place_turns.specs.Places.{Value, IsAt}
use Rattle.race_core.specs.Watched.{Watched}
use Rattle.race_core.specs.declared.watcher.Candidate.{Candidate}
use Rattle.report_laws.specs.Awaited.{Awaited}
use Rattle.detector.specs.Stands.{awaited}
use Rattle.shared_table.specs.declared.object.Object.{Object}
use Rattle.shared_table.specs.Steps.{Mine}
use Rattle.watched_turns.specs.Checking.{Loads}
use Rattle.hart_steps.specs.declared.hart.Hart.{Hart}
use Rattle.hart_steps.specs.Asked.{Asks, IsAlone}
use Rattle.hart_steps.specs.Harts.{turn, leaves}
use Rattle.placed_detector.specs.Instructions.{Beside, HearsEvent, HearsEvents}
use Rattle.part_races.specs.Awaits.{AwaitsEvents}
use Rattle.hart_turns.specs.Places.{SameBare}
use Rattle.hart_turns.specs.Instructions.{loads_of, HearsAll}
use Rattle.hart_turns.specs.Makes.{nowhere, UsesNothing, MakesAlone}

-- ---- events at no object

at_no_stripe : (addr : ℕ) → nowhere ≡ stripe addr → ⊥
at_no_stripe addr q = omega arith

-- an event that was heard at no object is heard at whatever place
anywhere : (t k : ℕ) (e : Event) (old new : Beside) → HearsEvent nowhere t e old new → HearsEvent k t e old new
anywhere t k (events.Acquire addr part) old new h = absurd (at_no_stripe addr h.keeper)
anywhere t k (events.Release addr part replaces) old new h = absurd (at_no_stripe addr h.keeper)
anywhere t k (events.Destroy addr) old new h = absurd (at_no_stripe addr h.keeper)
anywhere t k (events.Clear addr) old new h = absurd (at_no_stripe addr h.keeper)
anywhere t k (events.Create child) old new h = absurd (let z = h.at_desk in omega arith)
anywhere t k events.End old new h = absurd (let z = h.at_desk in omega arith)
anywhere t k (events.Join of) old new h = absurd (let z = h.at_desk in omega arith)
anywhere t k events.Begin old new h = record { label = h.label; keeper = tt; at_desk = tt; granted = tt; has_given = h.has_given; watched = h.watched; given = h.given; objects = h.objects; desk_is = h.desk_is }
anywhere t k (events.Access place addr size read atomic) old new h = record { label = h.label; keeper = tt; at_desk = tt; granted = tt; has_given = tt; watched = h.watched; given = h.given; objects = h.objects; desk_is = h.desk_is }
anywhere t k (events.Enter frame) old new h = record { label = h.label; keeper = tt; at_desk = tt; granted = tt; has_given = tt; watched = h.watched; given = h.given; objects = h.objects; desk_is = h.desk_is }
anywhere t k events.Leave old new h = record { label = h.label; keeper = tt; at_desk = tt; granted = tt; has_given = tt; watched = h.watched; given = h.given; objects = h.objects; desk_is = h.desk_is }
anywhere t k (events.Lock addr read) old new h = record { label = h.label; keeper = tt; at_desk = tt; granted = tt; has_given = tt; watched = h.watched; given = h.given; objects = h.objects; desk_is = h.desk_is }
anywhere t k (events.Unlock addr read) old new h = record { label = h.label; keeper = tt; at_desk = tt; granted = tt; has_given = tt; watched = h.watched; given = h.given; objects = h.objects; desk_is = h.desk_is }
anywhere t k (events.Put value count) old new h = record { label = tt; keeper = tt; at_desk = tt; granted = tt; has_given = tt; watched = h.watched; given = h.given; objects = h.objects; desk_is = h.desk_is }

all_anywhere : (file : List ℕ) (t k : ℕ) (loads : Loads) (i : ℕ) (es : List Event) (css : List (List Check)) (old new : Beside) →
    HearsEvents file nowhere t loads i es css old new → HearsEvents file k t loads i es css old new
all_anywhere file t k loads i [] [] old new h = h
all_anywhere file t k loads i [] (cs ∷ css) old new h = absurd h
all_anywhere file t k loads i (e ∷ es) [] old new h = absurd h
all_anywhere file t k loads i (e ∷ es) (cs ∷ css) old new h =
    (h.0, anywhere t k e old h.0 h.1, h.2, h.3, h.4, all_anywhere file t k loads (i + 1) es css h.0 new h.5)

-- and what of them awaits is the same
awaits_anywhere : (t k : ℕ) (es : List Event) (css : List (List Check)) (old new : Beside) (ws : List Awaited) →
    AwaitsEvents nowhere t es css old new ws → AwaitsEvents k t es css old new ws
awaits_anywhere t k [] [] old new ws a = a
awaits_anywhere t k [] (cs ∷ css) old new ws a = absurd a
awaits_anywhere t k (e ∷ es) [] old new ws a = absurd a
awaits_anywhere t k (e ∷ es) (cs ∷ css) old new ws a =
    (a.0, a.1, anywhere t k e old a.0 a.2, awaits_anywhere t k es css a.0 new a.1 a.3, a.4)

-- ---- the object of a request

alone_of : (r : Request) → UsesNothing r → IsAlone r
alone_of kinds.Done u = tt
alone_of (kinds.Return r) u = tt
alone_of _ u = absurd u

pub is_alone : (r : Request) → UsesNothing r → IsAlone r
is_alone = alone_of

asks_none : (regs : Registers) (r : Request) → UsesNothing r → object_of (asked regs r) ≡ None
asks_none regs kinds.Done u = refl
asks_none regs (kinds.Return r) u = u
asks_none regs _ u = absurd u

pub unplaced : (o : Option Object) → SameBare None o → o ≡ None
unplaced None s = refl
unplaced (Some x) s = absurd s

-- ---- the instruction

pub made_alone : (file : List ℕ) (limits : Limits) (t : ℕ) (clock : List ℕ) (base : ℕ) (r : Request) (h left : Hart) (w w' : Watched) (es : List Event)
    (place : Option Object) (before after : List Check) (waited waiting : List Candidate) (old new : Mine) (spent : Option Label) → UsesNothing r →
    ((file : List ℕ) (harts tid : ℕ) (v : Value) (found : Hart) → Asks file tid found h r → turn file harts tid found v ≡ leaves left v es) →
    HearsAll file limits nowhere t clock es base w w' None place before after waited waiting old new spent →
    MakesAlone file limits t clock base r h left w w' es before after waited waiting old new spent
made_alone file limits t clock base r h left w w' es place before after waited waiting old new spent alone served heard =
    whole (subst (λ (o : Option Object). HearsAll file limits nowhere t clock es base w w' None o before after waited waiting old new spent) (unplaced place heard.bare) heard)
  where
    none : (found : Hart) → Asks file t found h r → object_of (request file t found.thread) ≡ None
    none found asks = ap object_of (sym asks.value) ∙ asks_none h.thread.regs r alone

    whole : HearsAll file limits nowhere t clock es base w w' None None before after waited waiting old new spent → MakesAlone file limits t clock base r h left w w' es before after waited waiting old new spent
    whole all = record {
      hears = all;
      makes = λ found asks harts k held given g. record {
        makes = record {
          present = refl;
          at = record { thread = found.thread; arrived = refl; place = subst (IsAt k) (sym (none found asks)) tt };
          stepped = served file harts t held.bare found asks;
          heard = all_anywhere file t k (loads_of all.added) 0 es all.added _ _ (all.heard held.sync held.desk given g);
        };
        awaits = awaits_anywhere t k es all.added _ _ (map awaited all.found) (all.awaits held.sync held.desk given g);
      };
      without_object = none;
    }
