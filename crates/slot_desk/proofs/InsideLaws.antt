-- What holds of a desk's fields.
use Rattle.std.proofs.Common.{◌≡◌, ◌<◌, ◌≤◌, ℕ, true, false, Some, List, ◌∷◌, length, get_or, set, map, ap, ◌∙◌, arith, deque_len, deque_capacity}
use Rattle.std.proofs.lemmas.List.{map-set}
use Rattle.slot_desk.specs.declared.desk.Desk.TheInside.{Inside}
use Rattle.slot_desk.specs.declared.slot.Attachment.{Attachment}
use Rattle.slot_desk.specs.declared.thread.ThreadState.{ThreadState}
use Rattle.slot_desk.specs.contracts.desk.Desk.{the_view, the_invariant}
use Rattle.slot_desk.specs.Desks.{ThreadContents, is_free, no_slot, thread_of, held_of}
use Rattle.slot_desk.specs.Threads.{shown}
use Rattle.slot_desk.proofs.DeskLists.{count_by_less, times}
use Rattle.slot_desk.proofs.Holders.{held_of-some}
use Rattle.slot_desk.proofs.KeptLaws.{IsFront, kept_front, made_alive, owned_alone}

pub front_of : (d : Inside) (sid : ℕ) (rest : List ℕ) → the_invariant d → d.queue.items ≡ sid ∷ rest → IsFront d.greatest d.slots.items sid rest
front_of d sid rest k q = kept_front d.harts d.greatest d.made d.live d.era d.threads.items d.slots.items d.queue.items rest sid k.0 q

-- What is known of the slot that a thread holds.
pub record IsHeld (d : Inside) (tid sid since : ℕ) : Type 0 where
  pub within : sid < length d.slots.items
  pub owner : Attachment
  pub owned : (get_or d.slots.items sid no_slot).owner ≡ Some owner
  pub since_is : owner.epoch ≡ since
  pub owned_slot : is_free (get_or d.slots.items sid no_slot) ≡ false
  pub alone : times sid d.queue.items ≡ 0
  pub room : deque_len d.queue < deque_capacity d.queue

pub held_at : (d : Inside) (tid sid since : ℕ) → the_invariant d → held_of (the_view d) tid ≡ Some (sid, since) → IsHeld d tid sid since
held_at d tid sid since k e =
    let held = held_of-some d.slots.items tid sid since e in
    let alone = owned_alone d.harts d.greatest d.made d.live d.era d.threads.items d.slots.items d.queue.items sid held.1.0 k.0 held.1.1 in
    let long = k.0.queue_long in
    let less = count_by_less is_free d.slots.items sid no_slot held.0 alone.0 in
    let ok = d.queue.ok.0 in
    let wide = k.1 in
    record { within = held.0; owner = held.1.0; owned = held.1.1; since_is = held.1.3; owned_slot = alone.0; alone = alone.1; room = omega arith }

-- a slot's clock is of as many slots as the desk has
pub long_left : (d : Inside) (sid : ℕ) → the_invariant d → sid < length d.slots.items → length (get_or d.slots.items sid no_slot).left ≡ length d.slots.items
long_left d sid k l = k.0.left sid no_slot l

pub alive_at : (d : Inside) (tid : ℕ) → the_invariant d → (thread_of (the_view d) tid).lives ≡ true → (tid < d.made) × (tid < length d.threads.items) × (1 ≤ d.live)
alive_at d tid k e = made_alive d.harts d.greatest d.made d.live d.era d.threads.items d.slots.items d.queue.items tid k.0 e

-- what is seen of the threads where one was told something
pub shown_set : (era : ℕ) (threads : List ThreadState) (tid : ℕ) (t : ThreadState) (x : ThreadContents) → shown era t ≡ x → map (shown era) (set threads tid t) ≡ set (map (shown era) threads) tid x
shown_set era threads tid t x e = map-set (shown era) threads tid t ∙ ap (λ y. set (map (shown era) threads) tid y) e
