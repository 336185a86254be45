-- When a state by threads and places has the labels, the clocks and the queue of a history.
use Rattle.std.specs.Prelude.{◌≡◌, ◌≢◌, ℕ, ◌+◌, suc, true, List, [], ◌∷◌, Option, Some, None, option_map}
use Rattle.run_record.specs.declared.event.Event.{Event}
use Rattle.run_record.specs.declared.event.Event.TheVariants.{Begin, Create, End, Join, Acquire, Release, Destroy, Clear}
use Rattle.run_record.specs.declared.event.Part.{Part}
use Rattle.run_record.specs.declared.entry.Label.{Label}
use Rattle.run_record.specs.declared.entry.DeskNote.TheVariants.{Attach}
use Rattle.run_laws.specs.Moments.{Item, Notes}
use Rattle.run_laws.specs.Labels.{Labels, labels, queue, next_labels, next_queue}
use Rattle.run_laws.specs.Clocks.{Clocks, clocks, next_clocks, Of, Left, Channel, Given, Ended}
use Rattle.bare_machine.specs.Memory.{stripe}
use Rattle.bare_machine.specs.Step.{desk}
use Rattle.turn_orders.specs.Lists.{In, InOrder}
use Rattle.turn_orders.specs.Machine.{Call, State, next}
use Rattle.place_clocks.specs.Places.{Clock, Own, Stripe, Desk, Value, stripe_in, desk_of}
use Rattle.place_clocks.specs.Turns.{Act, does, attaches, begins, leaves, clock_turn}

-- the labels, the clocks and the queue of a history at a position
pub record Whole : Type 0 where
  pub labels : Labels
  pub clocks : Clocks
  pub queue : List ℕ

abbrev pub whole_at : ℕ → ℕ → (ℕ → Item) → ℕ → Whole
whole_at g slots h n = record { labels = labels g h n; clocks = clocks g h n; queue = queue g slots h n }

abbrev pub whole_next : ℕ → ℕ → Whole → Item → Whole
whole_next g slots w item = record { labels = next_labels g w.labels item; clocks = next_clocks g w.labels w.clocks item; queue = next_queue g slots w.labels item w.queue }

-- the items stand in the history from position n on
abbrev pub StandFrom : (ℕ → Item) → ℕ → List Item → Type 0
StandFrom h n [] = Unit {0}
StandFrom h n (i ∷ is) = (h n ≡ i) × StandFrom h (suc n) is

-- the label of the slot that a thread holds
abbrev pub label_with : Labels → ℕ → Label
label_with l s = record { sid = s; epoch = l.epoch s; era = l.era }

abbrev pub label_in : Labels → ℕ → Option Label
label_in l t = option_map (label_with l) (l.slot_of t)

-- Each thread has its label and its clock, and where it has taken what its creator left, that clock.
pub record HasOwn (w : Whole) (own : ℕ → Own) : Type 0 where
  pub label : (t : ℕ) → (own t).label ≡ label_in w.labels t
  pub clock : (t s : ℕ) → (own t).clock s ≡ w.clocks.thread t s
  pub given : (t : ℕ) (c : Clock) → (own t).given ≡ Some c → (s : ℕ) → c s ≡ w.clocks.spot (Of (Given t)) s

-- each channel's clock is at the stripe of its address
abbrev pub HasChannels : Whole → (ℕ → Stripe) → Type 0
HasChannels w stripes = (a : ℕ) (p : Part) (s : ℕ) → (stripes (stripe a)).channel a p s ≡ w.clocks.spot (Of (Channel a p)) s

-- The desk has the era, the queue with each slot's last epoch, and what is left for other owners and threads.
pub record HasDesk (w : Whole) (d : Desk) : Type 0 where
  pub era : d.era ≡ w.labels.era
  pub queue : d.queue ≡ w.queue
  pub last : (s : ℕ) → In s w.queue → d.last s ≡ w.labels.epoch s
  pub left : (s r : ℕ) → d.left s r ≡ w.clocks.spot (Left s) r
  pub given : (t r : ℕ) → d.given t r ≡ w.clocks.spot (Of (Given t)) r
  pub ended : (t r : ℕ) → d.ended t r ≡ w.clocks.spot (Of (Ended t)) r

-- Each slot has one owner at most. The slots of the queue are free, each stands there once, and nobody owns them.
pub record IsSound (w : Whole) : Type 0 where
  pub one_owner : (t u s : ℕ) → w.labels.slot_of t ≡ Some s → w.labels.slot_of u ≡ Some s → t ≡ u
  pub unowned : (t s : ℕ) → w.labels.slot_of t ≡ Some s → In s w.queue → ⊥
  pub free : (s : ℕ) → In s w.queue → w.labels.free s ≡ true
  pub once : InOrder (λ (a b : ℕ). a ≢ b) w.queue

pub record HasClocks (w : Whole) (m : State Own Value) : Type 0 where
  pub own : HasOwn w m.local
  pub channels : HasChannels w (λ k. stripe_in (m.value k))
  pub at_desk : HasDesk w (desk_of m)
  pub sound : IsSound w

-- A thread that has taken what its creator left.
pub record HasTaken (o : Own) : Type 0 where
  pub clock : Clock
  pub is : o.given ≡ Some clock

-- An event of a channel is at the stripe of its address; a Create, an End and a Join are at the desk. A thread begins once it
-- has taken what its creator left, and is created before.
abbrev pub MayDo : State Own Value → ℕ → ℕ → Event → Type 0
MayDo m t k (Acquire addr part) = k ≡ stripe addr
MayDo m t k (Release addr part replaces) = k ≡ stripe addr
MayDo m t k (Destroy addr) = k ≡ stripe addr
MayDo m t k (Clear addr) = k ≡ stripe addr
MayDo m t k (Create child) = (k ≡ desk) × ((m.local child).given ≡ None)
MayDo m t k End = k ≡ desk
MayDo m t k (Join child) = k ≡ desk
MayDo m t k Begin = HasTaken (m.local t)
MayDo m t k _ = Unit {0}

-- a thread without a label takes a slot at the desk
abbrev pub MayAct : State Own Value → ℕ → ℕ → Act → Type 0
MayAct m t k (does e) = MayDo m t k e
MayAct m t k attaches = (k ≡ desk) × ((m.local t).label ≡ None)
MayAct m t k begins = Unit {0}
MayAct m t k (leaves l) = Unit {0}

-- each call may be made in the state that the calls before it left
abbrev pub AllMay : ℕ → State Own Value → List (Call Act) → Type 0
AllMay g m [] = Unit {0}
AllMay g m (c ∷ cs) = MayAct m c.thread c.place c.act × AllMay g (next (clock_turn g) m c) cs

-- The thread, which had no label, attached as histories ask for: it took the slot at the queue's front, of the present era,
-- one epoch after the slot's last.
pub record IsAttachment (g slots : ℕ) (h : ℕ → Item) (n t : ℕ) (told : List Item) : Type 0 where
  pub label : Label
  pub rest : List ℕ
  pub tells : told ≡ Notes t (Attach label) ∷ []
  pub unlabelled : (labels g h n).slot_of t ≡ None
  pub front : queue g slots h n ≡ label.sid ∷ rest
  pub new_epoch : label.epoch ≡ (labels g h n).epoch label.sid + 1
  pub present_era : label.era ≡ (labels g h n).era

-- where the queue is empty nothing is told
pub record FindsNone (g slots : ℕ) (h : ℕ → Item) (n : ℕ) (told : List Item) : Type 0 where
  pub empty : queue g slots h n ≡ []
  pub nothing : told ≡ []
