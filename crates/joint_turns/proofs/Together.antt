-- One act of a thread, with its labels and clocks.
use Rattle.std.proofs.Common.{◌≡◌, ◌<◌, ◌+◌, ℕ, Bool, true, false, List, [], ◌∷◌, ◌++◌, ◌⊎◌, inl, inr, length, Option, Some, None, refl, sym, ap, subst, ◌∙◌, arith}
use Rattle.std.specs.Prelude.{map, is_some, Ok}
use Rattle.std.proofs.lemmas.Bool.{cases_Bool}
use mathlib.Core.Path.{fun_ext}
use mathlib.Core.Logic.{dite}
use native.Mathlib.Decide.{ℕ_discrete}
use Rattle.run_record.specs.declared.event.Event.{Event}
use Rattle.run_record.specs.declared.entry.DeskNote.TheVariants.{Nothing, Leave}
use Rattle.elf_image.specs.File.{image_of}
use Rattle.run_laws.specs.Moments.{Item, Does, Notes}
use Rattle.bare_machine.specs.declared.thread.Thread.{Thread}
use Rattle.bare_machine.specs.World.{World}
use Rattle.bare_machine.specs.Requests.{object_of, request}
use Rattle.bare_machine.specs.Step.{step, desk}
use Rattle.turn_orders.specs.Machine.{Outcome, Call, State, but, after, single, singles}
use Rattle.turn_orders.specs.Splits.{AllMay}
use Rattle.turn_orders.proofs.Functions.{but_here, but_else, but_map, but_same}
use Rattle.turn_orders.proofs.Many.{many_next}
use Rattle.place_turns.specs.Places as machine
use Rattle.place_turns.specs.Turns as turns
use Rattle.place_turns.specs.Wholes as wholes
use Rattle.place_turns.specs.Wholes.{Whole, IsStateOf}
use Rattle.place_turns.proofs.Calls.{state_along, told_along, may_along}
use Rattle.place_clocks.specs.Places as clocks
use Rattle.place_clocks.specs.Turns as events
use Rattle.place_clocks.specs.Holds.{HasClocks, StandFrom, whole_at}
use Rattle.place_clocks.specs.Holds as holds
use Rattle.place_clocks.proofs.Along.{turns_hold}
use Rattle.joint_turns.specs.Joint.{Local, Value, Turned, Act, attaches, steps, begins, leaves, attach_turn, joint_turn, IsPlaced, bare_of, clocks_of}
use Rattle.joint_turns.specs.Along.{IsJoint, Tells, world_after, whole_of}
use Rattle.joint_turns.proofs.Suits.{AllSuit, turn_suits}
use Rattle.joint_turns.proofs.Making.{Taken, all_may, taken_after, told_events}

-- the state after a turn
abbrev pub left_by : State Local Value → ℕ → ℕ → Turned → State Local Value
left_by m t k r = record { local = but m.local t r.local; value = but m.value k r.value }

bare_left : (m : State Local Value) (t k : ℕ) (r : Turned) → bare_of (left_by m t k r) ≡ record { local = but (bare_of m).local t r.local.bare; value = but (bare_of m).value k r.value.bare }
bare_left m t k r = λ i. record { local = but_map (λ (l : Local). l.bare) m.local t r.local i; value = but_map (λ (v : Value). v.bare) m.value k r.value i }

clocks_left : (m : State Local Value) (t k : ℕ) (r : Turned) → clocks_of (left_by m t k r) ≡ record { local = but (clocks_of m).local t r.local.own; value = but (clocks_of m).value k r.value.clocks }
clocks_left m t k r = λ i. record { local = but_map (λ (l : Local). l.own) m.local t r.local i; value = but_map (λ (v : Value). v.clocks) m.value k r.value i }

nothing_left : (m : State Local Value) (t k : ℕ) (items : List Item) → left_by m t k (record { local = m.local t; value = m.value k; told = items }) ≡ m
nothing_left m t k items = λ i. record { local = but_same m.local t i; value = but_same m.value k i }

append_nil : {X : Type 0} (xs : List X) → xs ++ [] ≡ xs
append_nil [] = refl
append_nil (x ∷ xs) = ap (λ ys. x ∷ ys) (append_nil xs)

module _ (file : List ℕ) (harts g slots : ℕ) (ok : image_of file ≡ Ok file) (w : World) (h : ℕ → Item) (n : ℕ) (m : State Local Value) (j : IsJoint file harts g slots w h n m) (t : ℕ) where
  abbrev turned : ℕ → Act → Turned
  turned k a = joint_turn file harts g t a (m.local t) (m.value k)

  -- the turn comes to this
  pub record Comes (k : ℕ) (a : Act) (r : Turned) : Type 0 where
    pub joint : StandFrom h n r.told → IsJoint file harts g slots (world_after file w t a) h (n + length r.told) (left_by m t k r)
    pub told : Tells file w t a r.told

  abbrev arrived : ℕ → Bool
  arrived = λ u. is_some (m.local u).own.given

  -- ---- an instruction

  module _ (k : ℕ) (p : wholes.IsAtPlace file (m.local t).bare t k) where
    abbrev b : Outcome machine.Local machine.Value (List Event)
    b = turns.bare_turn file harts t turns.steps (m.local t).bare (m.value k).bare

    abbrev call : Call turns.Act
    call = single t k turns.steps

    may : AllMay (wholes.whole_next file) (wholes.May file) (whole_of w m) (call ∷ [])
    may = may_along file harts ok (whole_of w m) (bare_of m) (call ∷ []) j.bare (p, tt)

    bare_is : IsStateOf file harts (record { world = (step file w t).world; arrived = arrived }) (record { local = but (bare_of m).local t b.local; value = but (bare_of m).value k b.value })
    bare_is = state_along file harts ok (whole_of w m) (bare_of m) (call ∷ []) j.bare may

    told_is : b.told ≡ (step file w t).events
    told_is = let e : b.told ∷ [] ≡ (step file w t).events ∷ [] = told_along file harts ok (whole_of w m) (bare_of m) (call ∷ []) j.bare may in cc

    here_by : (arrived t ≡ true) ⊎ (arrived t ≡ false) → arrived t ≡ true
    here_by (inl e) = e
    here_by (inr e) = let q : Some p.thread ≡ None = sym p.arrived ∙ j.bare.threads.absent t e in absurd (cc)

    abbrev made : ℕ
    made = length (machine.desk_in (m.value k).bare).made

    fresh_by : k ≡ desk → (arrived made ≡ true) ⊎ (arrived made ≡ false) → arrived made ≡ false
    fresh_by q (inl e) =
        let l = j.bare.threads.inside made e in
        let c : length (machine.desk_in (m.value desk).bare).made ≡ length w.threads = j.bare.threads.count in
        let same : made ≡ length (machine.desk_in (m.value desk).bare).made = ap (λ (x : ℕ). length (machine.desk_in (m.value x).bare).made) q in
        absurd (omega arith)
    fresh_by q (inr e) = e

    suits : AllSuit (object_of (request file t p.thread)) made b.told
    suits = subst (λ (o : Option Thread). AllSuit (object_of (request file t p.thread)) made (turns.stepped file harts t (m.local t).bare (m.value k).bare o).told) (sym p.arrived)
        (turn_suits file harts t (m.local t).bare (m.value k).bare p.thread)

    abbrev acts : List events.Act
    acts = map events.does b.told

    made_so : Taken (after (events.clock_turn g) (clocks_of m) (singles t k acts)) arrived
    made_so = taken_after g t k made (object_of (request file t p.thread)) arrived (here_by (cases_Bool (arrived t))) p.place (λ q. fresh_by q (cases_Bool (arrived made))) (clocks_of m) (λ u. refl) b.told

    clocks_is : clocks_of (left_by m t k (turned k steps)) ≡ after (events.clock_turn g) (clocks_of m) (singles t k acts)
    clocks_is = clocks_left m t k (turned k steps) ∙ many_next (events.clock_turn g) (clocks_of m) t k acts

    -- the events may be made one after another
    pub steps_may : holds.AllMay g (clocks_of m) (singles t k acts)
    steps_may = all_may g t k made (object_of (request file t p.thread)) arrived (here_by (cases_Bool (arrived t))) p.place (λ q. fresh_by q (cases_Bool (arrived made))) (clocks_of m) (λ u. refl) b.told suits

    steps_come : Comes k steps (turned k steps)
    steps_come = record {
      joint = λ stand. record {
        bare = subst (λ (a : ℕ → Bool). IsStateOf file harts (record { world = (step file w t).world; arrived = a }) (bare_of (left_by m t k (turned k steps))))
            (sym (fun_ext (subst (λ (c : State clocks.Own clocks.Value). Taken c arrived) (sym clocks_is) made_so)))
            (subst (IsStateOf file harts (record { world = (step file w t).world; arrived = arrived })) (sym (bare_left m t k (turned k steps))) bare_is);
        clocks = subst (HasClocks (whole_at g slots h (n + length (map (Does t) b.told)))) (sym clocks_is)
            (subst (λ (items : List Item). HasClocks (whole_at g slots h (n + length items)) (after (events.clock_turn g) (clocks_of m) (singles t k acts))) (told_events g t k (clocks_of m) b.told)
            (turns_hold g slots h n (clocks_of m) (singles t k acts) j.clocks steps_may
            (subst (StandFrom h n) (sym (told_events g t k (clocks_of m) b.told)) stand)));
      };
      told = ap (map (Does t)) told_is;
    }

  -- ---- a slot

  module _ (none : (m.local t).own.label ≡ None) (inside : t < length (machine.desk_in (m.value desk).bare).made) where
    abbrev arrival : Call turns.Act
    arrival = single t desk turns.arrives

    abbrev taking : Call events.Act
    taking = single t desk events.attaches

    abbrev c : Outcome clocks.Own clocks.Value (List Item)
    c = events.clock_turn g t events.attaches (m.local t).own (m.value desk).clocks

    abbrev r : Turned
    r = record {
      local = record { bare = (turns.bare_turn file harts t turns.arrives (m.local t).bare (m.value desk).bare).local; own = c.local };
      value = record { bare = (turns.bare_turn file harts t turns.arrives (m.local t).bare (m.value desk).bare).value; clocks = c.value };
      told = c.told;
    }

    some_given : (o : Option clocks.Clock) (d : clocks.Desk) → is_some (events.given_after t o d) ≡ true
    some_given None d = refl
    some_given (Some x) d = refl

    given_is : (s : ℕ) (rest : List ℕ) → (clocks.desk_of (clocks_of m)).queue ≡ s ∷ rest → is_some c.local.given ≡ true
    given_is s rest e =
        ap (λ (q : List ℕ). is_some (events.attached t (m.local t).own (clocks.desk_of (clocks_of m)) q (m.value desk).clocks).local.given) e ∙ some_given (m.local t).own.given (clocks.desk_of (clocks_of m))

    arrived_is : is_some c.local.given ≡ true → (λ (u : ℕ). is_some (but m.local t r.local u).own.given) ≡ but arrived t true
    arrived_is e = fun_ext (λ u. dite (ℕ_discrete u t)
        (λ q. ap (λ (l : Local). is_some l.own.given) (but_here m.local t u r.local q) ∙ (e ∙ sym (but_here arrived t u true q)))
        (λ ne. ap (λ (l : Local). is_some l.own.given) (but_else m.local t u r.local ne) ∙ sym (but_else arrived t u true ne)))

    attach_joint : is_some c.local.given ≡ true → StandFrom h n c.told → IsJoint file harts g slots w h (n + length c.told) (left_by m t desk r)
    attach_joint e stand = record {
      bare = subst (λ (a : ℕ → Bool). IsStateOf file harts (record { world = w; arrived = a }) (bare_of (left_by m t desk r))) (sym (arrived_is e))
          (subst (IsStateOf file harts (record { world = w; arrived = but arrived t true })) (sym (bare_left m t desk r))
          (state_along file harts ok (whole_of w m) (bare_of m) (arrival ∷ []) j.bare (may_along file harts ok (whole_of w m) (bare_of m) (arrival ∷ []) j.bare ((refl, inside), tt))));
      clocks = subst (HasClocks (whole_at g slots h (n + length c.told))) (sym (clocks_left m t desk r))
          (subst (λ (items : List Item). HasClocks (whole_at g slots h (n + length items)) (after (events.clock_turn g) (clocks_of m) (taking ∷ []))) (append_nil c.told)
          (turns_hold g slots h n (clocks_of m) (taking ∷ []) j.clocks ((refl, none), tt) (subst (StandFrom h n) (sym (append_nil c.told)) stand)));
    }

    attach_by : (queue : List ℕ) → (clocks.desk_of (clocks_of m)).queue ≡ queue → Comes desk attaches (attach_turn file harts g t (m.local t) (m.value desk) queue)
    attach_by [] e = record {
      joint = λ stand. subst (λ (s : State Local Value). IsJoint file harts g slots w h (n + 0) s) (sym (nothing_left m t desk []))
          (let q : n ≡ n + 0 = omega arith in subst (λ (i : ℕ). IsJoint file harts g slots w h i m) q j);
      told = tt;
    }
    attach_by (s ∷ rest) e = record { joint = attach_joint (given_is s rest e); told = tt }

  -- ---- an entry's beginning

  -- the machine's part stays as it is
  noted : (k : ℕ) (items : List Item) (i : ℕ) → HasClocks (whole_at g slots h i) (record { local = but (clocks_of m).local t (m.local t).own; value = but (clocks_of m).value k (m.value k).clocks })
      → IsJoint file harts g slots w h i (left_by m t k (record { local = m.local t; value = m.value k; told = items }))
  noted k items i held = record {
    bare = subst (λ (s : State Local Value). IsStateOf file harts (whole_of w s) (bare_of s)) (sym (nothing_left m t k items)) j.bare;
    clocks = subst (HasClocks (whole_at g slots h i)) (sym (clocks_left m t k (record { local = m.local t; value = m.value k; told = items }))) held;
  }

  pub comes : (k : ℕ) (a : Act) → IsPlaced file (m.local t) (m.value k) t k a → Comes k a (turned k a)
  comes k attaches p = subst (λ (x : ℕ). Comes x attaches (turned x attaches)) (sym p.0) (attach_by p.1 (subst (λ (x : ℕ). t < length (machine.desk_in (m.value x).bare).made) p.0 p.2) (clocks.desk_of (clocks_of m)).queue refl)
  comes k steps p = steps_come k p
  comes k begins p = record {
    joint = λ stand. noted k (Notes t Nothing ∷ []) (n + 1) (turns_hold g slots h n (clocks_of m) (single t k events.begins ∷ []) j.clocks (tt, tt) stand);
    told = refl;
  }
  comes k (leaves label) p = record {
    joint = λ stand. noted k (Notes t (Leave label) ∷ []) (n + 1) (turns_hold g slots h n (clocks_of m) (single t k (events.leaves label) ∷ []) j.clocks (tt, tt) stand);
    told = refl;
  }
