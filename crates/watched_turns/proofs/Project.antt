-- The joint machine within the watched one.
use Rattle.std.proofs.Common.{◌≡◌, ℕ, suc, ◌+◌, List, [], ◌∷◌, ◌++◌, refl, ap, ap₂, subst, ◌∙◌}
use Rattle.std.specs.Prelude.{map}
use Rattle.std.proofs.lemmas.List.{map-append}
use Rattle.run_record.specs.declared.event.Event.{Event}
use Rattle.run_laws.specs.Moments.{Item, Does, Moment, items}
use Rattle.turn_orders.specs.Machine.{Call, State, next, after, outcome, tells}
use Rattle.turn_orders.proofs.Functions.{but_map}
use Rattle.place_clocks.specs.Places.{Own}
use Rattle.place_clocks.specs.Places as clocks
use Rattle.place_clocks.specs.Turns.{own_after, value_after}
use Rattle.place_clocks.specs.Holds as holds
use Rattle.joint_turns.specs.Joint.{Value, joint_turn}
use Rattle.joint_turns.specs.Joint as joint
use Rattle.joint_turns.specs.Along as along
use Rattle.watched_turns.specs.Watch.{Watch, watch_after}
use Rattle.watched_turns.specs.Checking.{Loads}
use Rattle.watched_turns.specs.Turns.{Local, Act, attaches, steps, begins, leaves, joint_act, Told, unchecked, events_told, events_of, watched_turn, joint_of, joint_call}
use Rattle.watched_turns.specs.Along.{StandFrom, ArePlaced, all_of, items_told}

abbrev pub item_of : Told → Item
item_of x = x.item

unchecked_items : (is : List Item) → map item_of (map unchecked is) ≡ is
unchecked_items [] = refl
unchecked_items (i ∷ is) = ap (λ (xs : List Item). i ∷ xs) (unchecked_items is)

events_items : (file : List ℕ) (g t : ℕ) (loads : Loads) (i : ℕ) (o : Own) (v : clocks.Value) (w : Watch) (es : List Event) → map item_of (events_told file g t loads i o v w es) ≡ map (Does t) es
events_items file g t loads i o v w [] = refl
events_items file g t loads i o v w (e ∷ es) = ap (λ (xs : List Item). Does t e ∷ xs) (events_items file g t loads (i + 1) (own_after g e o v) (value_after g t e o v) (watch_after g o.label w e) es)

-- all items that were told
pub all_items : (told : List (List Told)) → map item_of (all_of told) ≡ along.items_of (items_told told)
all_items [] = refl
all_items (xs ∷ told) = map-append item_of xs (all_of told) ∙ ap (λ (is : List Item). map item_of xs ++ is) (all_items told)

pub items_stand : (h : List Moment) (n : ℕ) (xs : List Told) → StandFrom h n xs → holds.StandFrom (items h) n (map item_of xs)
items_stand h n [] s = tt
items_stand h n (x ∷ xs) s = (s.0.item, items_stand h (suc n) xs s.1)

module _ (file : List ℕ) (harts g : ℕ) where
  turn_local : (t : ℕ) (a : Act) (l : Local) (v : Value) → (watched_turn file harts g t a l v).local.joint ≡ (joint_turn file harts g t (joint_act a) l.joint v).local
  turn_local t attaches l v = refl
  turn_local t (steps loads) l v = refl
  turn_local t begins l v = refl
  turn_local t (leaves label) l v = refl

  turn_value : (t : ℕ) (a : Act) (l : Local) (v : Value) → (watched_turn file harts g t a l v).value ≡ (joint_turn file harts g t (joint_act a) l.joint v).value
  turn_value t attaches l v = refl
  turn_value t (steps loads) l v = refl
  turn_value t begins l v = refl
  turn_value t (leaves label) l v = refl

  pub turn_items : (t : ℕ) (a : Act) (l : Local) (v : Value) → map item_of (watched_turn file harts g t a l v).told ≡ (joint_turn file harts g t (joint_act a) l.joint v).told
  turn_items t attaches l v = unchecked_items (joint_turn file harts g t joint.attaches l.joint v).told
  turn_items t (steps loads) l v = events_items file g t loads 0 l.joint.own v.clocks l.watch (events_of file harts t l.joint v)
  turn_items t begins l v = unchecked_items (joint_turn file harts g t joint.begins l.joint v).told
  turn_items t (leaves label) l v = unchecked_items (joint_turn file harts g t (joint.leaves label) l.joint v).told

  pub joint_next : (m : State Local Value) (c : Call Act) → joint_of (next (watched_turn file harts g) m c) ≡ next (joint_turn file harts g) (joint_of m) (joint_call c)
  joint_next m c = λ i. record {
    local = (but_map (λ (l : Local). l.joint) m.local c.thread (outcome (watched_turn file harts g) m c).local
        ∙ ap (Rattle.turn_orders.specs.Machine.but (joint_of m).local c.thread) (turn_local c.thread c.act (m.local c.thread) (m.value c.place))) i;
    value = ap (Rattle.turn_orders.specs.Machine.but m.value c.place) (turn_value c.thread c.act (m.local c.thread) (m.value c.place)) i;
  }

  pub joint_after : (m : State Local Value) (cs : List (Call Act)) → joint_of (after (watched_turn file harts g) m cs) ≡ after (joint_turn file harts g) (joint_of m) (map joint_call cs)
  joint_after m [] = refl
  joint_after m (c ∷ cs) = joint_after (next (watched_turn file harts g) m c) cs ∙ ap (λ (z : State joint.Local Value). after (joint_turn file harts g) z (map joint_call cs)) (joint_next m c)

  pub joint_tells : (m : State Local Value) (cs : List (Call Act)) → items_told (tells (watched_turn file harts g) m cs) ≡ tells (joint_turn file harts g) (joint_of m) (map joint_call cs)
  joint_tells m [] = refl
  joint_tells m (c ∷ cs) = ap₂ (λ (x : List Item) (xs : List (List Item)). x ∷ xs) (turn_items c.thread c.act (m.local c.thread) (m.value c.place))
      (joint_tells (next (watched_turn file harts g) m c) cs ∙ ap (λ (z : State joint.Local Value). tells (joint_turn file harts g) z (map joint_call cs)) (joint_next m c))

  pub joint_placed : (m : State Local Value) (cs : List (Call Act)) → ArePlaced file harts g m cs → along.ArePlaced file harts g (joint_of m) (map joint_call cs)
  joint_placed m [] p = tt
  joint_placed m (c ∷ cs) p = (p.0.0, subst (λ (z : State joint.Local Value). along.ArePlaced file harts g z (map joint_call cs)) (joint_next m c) (joint_placed (next (watched_turn file harts g) m c) cs p.1))
