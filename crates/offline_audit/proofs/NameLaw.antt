-- The names of a history's events, and the accesses that they are.
use Rattle.std.proofs.Common.{◌≡◌, ℕ, zero, suc, ◌+◌, ◌-◌, ◌^◌, ◌<◌, ◌≤◌, min, List, length, take, Option, Some, None, refl, sym, ap, ◌∙◌, subst, inl, inr, arith, eq-eqb, ne_eqb}
use Rattle.std.specs.Prelude.{slice_get, slice_index_or}
use Rattle.std.proofs.lemmas.Bool.{cases_eq, cases_lt}
use Rattle.std.proofs.lemmas.List.{take_all}
use Rattle.std.proofs.lemmas.Option.{slice_get-get_or, slice_get_within, slice_get_cases, get_or_from_slice_get}
use Rattle.run_record.specs.declared.event.Event.{Event}
use Rattle.run_record.specs.declared.event.Event.TheVariants as events
use Rattle.run_record.specs.declared.entry.Entry.{Entry}
use Rattle.run_laws.specs.Moments.{Item, Does, NewEra, Notes, moments, items, last_era}
use Rattle.run_laws.specs.Accesses.{Access, end_of}
use Rattle.run_laws.specs.Reports.{MakesAccess}
use Rattle.offline_audit.specs.declared.order.EventName.{EventName}
use Rattle.offline_audit.specs.declared.access.Kind.{Kind}
use Rattle.offline_audit.specs.declared.access.Made.{Made}
use Rattle.offline_audit.specs.Orders.{IsAt, start_of}
use Rattle.offline_audit.specs.Chains.{position_of, IsEvent}
use Rattle.offline_audit.specs.Kinds.{kind_of, IsMade}
use Rattle.offline_audit.proofs.MomentPlaces.{makes, next_start, length_eras, at_era, at_note, within}

-- The event at a position has a name.
pub record IsNamed (entries : List Entry) (n t : ℕ) (v : Event) : Type 0 where
  pub name : EventName
  pub at : IsAt entries name n
  pub tid : at.entry.tid ≡ t
  pub event : slice_get at.entry.events name.event ≡ Some v

does_tid : (t u : ℕ) (v w : Event) → Does t v ≡ Does u w → t ≡ u
does_tid t u v w e = cc

does_event : (t u : ℕ) (v w : Event) → Does t v ≡ Does u w → v ≡ w
does_event t u v w e = cc

no_era : (t : ℕ) (v : Event) → NewEra ≡ Does t v → ⊥
no_era t v e = cc

no_note : (it : Item) (u t : ℕ) (note : _) (v : Event) → it ≡ Notes u note → it ≡ Does t v → ⊥
no_note it u t note v e f = cc

module _ (entries : List Entry) (n t : ℕ) (v : Event) (made : items (moments entries) n ≡ Does t v) where
  named_here : (k : ℕ) (e : Entry) (x : ℕ) → k < length entries → slice_get entries k ≡ Some e → x < length e.events → n ≡ start_of entries k e + x → IsNamed entries n t v
  named_here k e x l is m place =
      let here = sym made ∙ (ap (items (moments entries)) place ∙ makes entries k e l is x events.Begin m) in
      record {
        name = record { entry = k; event = x };
        at = record { entry = e; listed = is; within = m; place = place };
        tid = sym (does_tid t e.tid v (slice_index_or e.events x events.Begin) here);
        event = slice_get-get_or e.events x events.Begin m ∙ ap (λ (w : Event). Some w) (sym (does_event t e.tid v (slice_index_or e.events x events.Begin) here));
      }

  named_in : (k : ℕ) → k ≤ length entries → n < length (moments (take k entries)) → IsNamed entries n t v
  named_in zero b l = absurd (omega arith)
  named_in (suc k) b l = elim (slice_get_cases entries k).1 [
    | inl (e, w, is, _) ↦ elim (cases_lt n (length (moments (take k entries)))) [
      | inl before ↦ named_in k (omega arith) before
      | inr after ↦
          let eras = e.era - last_era (take k entries) in
          let len = length_eras entries k e w is in
          let next = next_start entries k e w is in
          elim (cases_lt n (length (moments (take k entries)) + eras)) [
            | inl s ↦
                let q : n ≡ length (moments (take k entries)) + (n - length (moments (take k entries))) = omega arith in
                let a = at_era entries k e w is (n - length (moments (take k entries))) (omega arith) in
                absurd (no_era t v (sym a ∙ (sym (ap (items (moments entries)) q) ∙ made)))
            | inr s ↦ elim (cases_eq n (length (moments (take k entries)) + eras)) [
              | inl q ↦
                  absurd (no_note (items (moments entries) n) e.tid t e.note v (ap (items (moments entries)) q ∙ at_note entries k e w is) made)
              | inr d ↦ named_here k e (n - start_of entries k e) w is (omega arith) (omega arith)
            ]
          ]
    ]
    | inr s ↦ absurd (let u = s.0 in omega arith)
  ]

  -- each event has its name
  pub named : IsNamed entries n t v
  named =
      let whole : take (length entries) entries ≡ entries = take_all (length entries) entries (omega arith) in
      let l = within entries n t v made in
      named_in (length entries) (omega arith) (subst (λ (es : List Entry). n < length (moments es)) (sym whole) l)

pub position : (entries : List Entry) (name : EventName) (e : Entry) → slice_get entries name.entry ≡ Some e → position_of entries name ≡ start_of entries name.entry e + name.event
position entries name e is = ap (λ (o : Option Entry). elim o [ None ↦ 0 | Some d ↦ start_of entries name.entry d + name.event ]) is

-- The kind is that of the access.
pub record HasKind (a : Access) (tid : ℕ) (kind : Kind) : Type 0 where
  pub tid_is : kind.tid ≡ tid
  pub place : kind.place ≡ a.place
  pub addr : kind.addr ≡ a.addr
  pub read : kind.read ≡ a.read
  pub atomic : kind.atomic ≡ a.atomic
  pub last : kind.last + 1 ≡ end_of a

abbrev kind_from : ℕ → Access → Kind
kind_from tid a = record { tid = tid; place = a.place; addr = a.addr; last = min (a.addr + (a.size - 1)) (2 ^ 64 - 1); read = a.read; atomic = a.atomic }

abbrev event_from : Access → Event
event_from a = events.Access a.place a.addr a.size a.read a.atomic

has_kind : (tid : ℕ) (a : Access) → 0 < a.size → HasKind a tid (kind_from tid a)
has_kind tid a l = record { tid_is = refl; place = refl; addr = refl; read = refl; atomic = refl; last = omega arith }

-- an access of a byte has its kind
pub kind_some : (tid : ℕ) (a : Access) → 0 < a.size → kind_of tid (event_from a) ≡ Some (kind_from tid a)
kind_some tid a l = let n : a.size ≡ 0 → ⊥ = λ q. absurd (omega arith) in let b = ne_eqb a.size 0 n in rw b refl

kind_none : (tid : ℕ) (a : Access) → a.size ≡ 0 → kind_of tid (event_from a) ≡ None
kind_none tid a q = let b = eq-eqb a.size 0 q in rw b refl

some_is : (x y : Kind) → Some x ≡ Some y → x ≡ y
some_is x y e = cc

no_some : (x : Kind) → None ≡ Some x → ⊥
no_some x e = cc

with_kind : (tid : ℕ) (a : Access) (kind : Kind) → kind_of tid (event_from a) ≡ Some kind → HasKind a tid kind
with_kind tid a kind is = elim (cases_eq a.size 0) [
  | inl q ↦ absurd (no_some kind (sym (kind_none tid a q) ∙ is))
  | inr n ↦ let l : 0 < a.size = omega arith in subst (λ (k : Kind). HasKind a tid k) (some_is (kind_from tid a) kind (sym (kind_some tid a l) ∙ is)) (has_kind tid a l)
]

-- an event with a kind is an access
pub kind_access : (tid : ℕ) (v : Event) (kind : Kind) → kind_of tid v ≡ Some kind → (a : Access) × (v ≡ event_from a) × HasKind a tid kind
kind_access tid (events.Access place addr size read atomic) kind is =
    let a : Access = record { place = place; addr = addr; size = size; read = read; atomic = atomic } in
    (a, refl, with_kind tid a kind is)
kind_access tid _ kind is = absurd (no_some kind is)

-- The access of the history stands at the position of its name.
pub record StandsAt (entries : List Entry) (m : Made) : Type 0 where
  pub event : IsEvent (items (moments entries)) entries m.name
  pub tid : ℕ
  pub access : Access
  pub made : MakesAccess (moments entries) (position_of entries m.name) tid access
  pub kind : HasKind access tid m.kind

pub stands_at : (entries : List Entry) (m : Made) → IsMade entries m → StandsAt entries m
stands_at entries m im =
    let e = im.entry in
    let k = m.name.entry in
    let x = m.name.event in
    let l = slice_get_within entries k e im.listed in
    let w = slice_get_within e.events x im.made.event im.made.is in
    let place = position entries m.name e im.listed in
    let (a, is, kind) = kind_access e.tid im.made.event m.kind im.made.kind in
    let read : slice_index_or e.events x im.made.event ≡ event_from a = get_or_from_slice_get e.events x im.made.event im.made.event im.made.is ∙ is in
    record {
      event = record {
        at = record { entry = e; listed = im.listed; within = w; place = place };
        event = slice_index_or e.events x im.made.event;
        made = ap (items (moments entries)) place ∙ makes entries k e l im.listed x im.made.event w;
      };
      tid = e.tid;
      access = a;
      made = ap (items (moments entries)) place ∙ (makes entries k e l im.listed x im.made.event w ∙ ap (λ (v : Event). Does e.tid v) read);
      kind = kind;
    }

-- An access of the moments is one of the history, at its name.
pub record IsOneOf (entries : List Entry) (n t : ℕ) (a : Access) : Type 0 where
  pub m : Made
  pub made : IsMade entries m
  pub kind : HasKind a t m.kind
  pub place : position_of entries m.name ≡ n

pub one_of : (entries : List Entry) (n t : ℕ) (a : Access) → MakesAccess (moments entries) n t a → 0 < a.size → IsOneOf entries n t a
one_of entries n t a made l =
    let nm = named entries n t (event_from a) made in
    let e = nm.at.entry in
    record {
      m = record { kind = kind_from t a; name = nm.name };
      made = record {
        entry = e;
        listed = nm.at.listed;
        made = record {
          numbered = refl;
          event = event_from a;
          is = nm.event;
          kind = subst (λ (u : ℕ). kind_of u (event_from a) ≡ Some (kind_from t a)) (sym nm.tid) (kind_some t a l);
        };
      };
      kind = has_kind t a l;
      place = position entries nm.name e nm.at.listed ∙ sym nm.at.place;
    }
