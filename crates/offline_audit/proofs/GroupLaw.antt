-- Accesses in groups: one more of them.
use Rattle.std.proofs.Common.{◌≡◌, ℕ, zero, suc, ◌+◌, ◌-◌, ◌<◌, ◌≤◌, ◌⊎◌, ◌↔◌, List, [], ◌∷◌, ◌++◌, length, get_or, take, Some, refl, sym, ap, ◌∙◌, subst, inl, inr, arith, All, Contains}
use Rattle.std.specs.Prelude.{slice_index_or, slice_get}
use Rattle.std.specs.List.Sorted.{IsNonDecreasing, IsNonDecreasingBy}
use Rattle.std.proofs.lemmas.Bool.{cases_eq}
use Rattle.std.proofs.lemmas.List.{get_or_default, map-append}
use Rattle.std.proofs.lemmas.Option.{slice_get_within, get_or_from_slice_get}
use Rattle.std.proofs.lemmas.List.Sorted.{IsNonDecreasingBy-push}
use Rattle.std.proofs.lemmas.List.Quantifiers.{all_pairs_push}
use Rattle.std.proofs.lemmas.List.Elements.{All-push, All-pop, Contains-push, Contains-push_cases, Contains-append_left, Contains-get_or}
use Rattle.std.proofs.Math.Seq.{take-suc}
use Rattle.run_record.specs.declared.entry.Entry.{Entry}
use Rattle.run_laws.specs.HappensBefore.{Then}
use Rattle.offline_audit.specs.declared.order.EventName.{EventName}
use Rattle.offline_audit.specs.declared.order.Order.{Order}
use Rattle.offline_audit.specs.declared.access.Kind.{Kind}
use Rattle.offline_audit.specs.declared.access.Made.{Made}
use Rattle.offline_audit.specs.declared.group.Group.{Group}
use Rattle.run_laws.specs.Moments.{Item}
use Rattle.offline_audit.specs.Orders.{TellsOrder}
use Rattle.offline_audit.specs.Chains.{IsEvent, ComesBefore, IsChain}
use Rattle.offline_audit.specs.Groups.{IsIn, addresses, AreChains, AreWithOne}

-- one more event after a chain's last one
pub chain_push : (h : ℕ → Item) (entries : List Entry) (names : List EventName) (name : EventName) (d : EventName) → IsEvent h entries name →
    (0 < length names → ComesBefore h entries (get_or names (length names - 1) d) name) → IsChain h entries names → IsChain h entries (names ++ name ∷ [])
chain_push h entries names name d event last chain = record {
  events = All-push (IsEvent h entries) names name chain.events event;
  follow = all_pairs_push (ComesBefore h entries) names name chain.follow (λ k e l.
      let end : ComesBefore h entries (get_or names (length names - 1) e) name =
      subst (λ (x : EventName). ComesBefore h entries x name) (get_or_default names (length names - 1) d e (omega arith)) (last (omega arith)) in
      elim (cases_eq k (length names - 1)) [
        | inl q ↦ rw q end
        | inr n ↦ Then (chain.follow k (length names - 1) e (omega arith) (omega arith)) end
      ]);
}

-- an event after the last one, which the chain gives
pub chain_on : (h : ℕ → Item) (entries : List Entry) (names : List EventName) (last name : EventName) → Some last ≡ slice_get names (length names - 1) →
    (IsEvent h entries last → ComesBefore h entries last name) → IsEvent h entries name → IsChain h entries names → IsChain h entries (names ++ name ∷ [])
chain_on h entries names last name is before event chain =
    let within = slice_get_within names (length names - 1) last (sym is) in
    let at : get_or names (length names - 1) last ≡ last = get_or_from_slice_get names (length names - 1) last last (sym is) in
    let known : IsEvent h entries last = subst (IsEvent h entries) at (chain.events (length names - 1) last within) in
    chain_push h entries names name last event (λ l. subst (λ (x : EventName). ComesBefore h entries x name) (sym at) (before known)) chain

pub chain_one : (h : ℕ → Item) (entries : List Entry) (name : EventName) → IsEvent h entries name → IsChain h entries (name ∷ [])
chain_one h entries name event = record {
  events = λ k d l. let z : k ≡ 0 = omega arith in rw z event;
  follow = λ i j d l m. absurd (omega arith);
}

is_in_push : (xs : List Group) (g : Group) (m : Made) → IsIn (xs ++ g ∷ []) m ↔ (IsIn xs m ⊎ ((g.kind ≡ m.kind) × Contains g.names m.name))
is_in_push xs g m = (
  λ p. elim (Contains-push_cases xs g p.0 p.1) [
    | inl o ↦ inl (p.0, o, p.2, p.3)
    | inr e ↦ inr (subst (λ (x : Group). (x.kind ≡ m.kind) × Contains x.names m.name) (sym e) (p.2, p.3))
  ],
  λ c. elim c [
    | inl p ↦ (p.0, Contains-append_left xs (g ∷ []) p.0 p.1, p.2, p.3)
    | inr q ↦ (g, Contains-push xs g, q.0, q.1)
  ],
)

abbrev of_two : Kind → EventName → Made
of_two kind name = record { kind = kind; name = name }

same_made : (x m : Made) → m.kind ≡ x.kind → m.name ≡ x.name → x ≡ m
same_made x m k n = ap (λ (z : Kind). of_two z x.name) (sym k) ∙ ap (λ (z : EventName). of_two m.kind z) (sym n)

addresses-push : (xs : List Group) (g : Group) → addresses (xs ++ g ∷ []) ≡ addresses xs ++ g.kind.addr ∷ []
addresses-push xs g = map-append (λ (x : Group). x.kind.addr) xs (g ∷ [])

module _ (order : Order) (m : Made) where
  -- one more access in the last group
  pub with_joined : (rest : List Group) (g : Group) → g.kind ≡ m.kind →
      ((h : ℕ → Item) (entries : List Entry) → TellsOrder h entries order → IsEvent h entries m.name → IsChain h entries g.names → IsChain h entries (g.names ++ m.name ∷ [])) →
      AreWithOne order m (rest ++ g ∷ []) (rest ++ record { kind = g.kind; names = g.names ++ m.name ∷ [] } ∷ [])
  with_joined rest g kind chain =
      let h : Group = record { kind = g.kind; names = g.names ++ m.name ∷ [] } in
      record {
        all = λ x. (
          λ p. elim ((is_in_push rest h x).0 p) [
            | inl o ↦ inl ((is_in_push rest g x).1 (inl o))
            | inr q ↦ elim (Contains-push_cases g.names m.name x.name q.1) [
              | inl o ↦ inl ((is_in_push rest g x).1 (inr (q.0, o)))
              | inr e ↦ inr (same_made x m (sym kind ∙ q.0) e)
            ]
          ],
          λ c. elim c [
            | inl p ↦ elim ((is_in_push rest g x).0 p) [
              | inl o ↦ (is_in_push rest h x).1 (inl o)
              | inr q ↦ (is_in_push rest h x).1 (inr (q.0, Contains-append_left g.names (m.name ∷ []) x.name q.1))
            ]
            | inr e ↦
                let k : h.kind ≡ x.kind = kind ∙ ap (λ (z : Made). z.kind) (sym e) in
                let n : Contains (g.names ++ m.name ∷ []) x.name = subst (λ (z : Made). Contains (g.names ++ m.name ∷ []) z.name) (sym e) (Contains-push g.names m.name) in
                (is_in_push rest h x).1 (inr (k, n))
          ],
        );
        chains = λ its entries is event old.
            let split = All-pop (λ (z : Group). IsChain its entries z.names) (rest ++ g ∷ []) rest (Some g) refl old in
            All-push (λ (z : Group). IsChain its entries z.names) rest h split.0 (chain its entries is event split.1);
        addrs = inl (addresses-push rest h ∙ sym (addresses-push rest g));
      }

  -- one more access in a group of its own
  pub with_own : (old : List Group) → AreWithOne order m old (old ++ record { kind = m.kind; names = m.name ∷ [] } ∷ [])
  with_own old =
      let h : Group = record { kind = m.kind; names = m.name ∷ [] } in
      record {
        all = λ x. (
          λ p. elim ((is_in_push old h x).0 p) [
            | inl o ↦ inl o
            | inr q ↦ inr (same_made x m q.0 (only m.name x.name q.1))
          ],
          λ c. elim c [
            | inl p ↦ (is_in_push old h x).1 (inl p)
            | inr e ↦
                (is_in_push old h x).1 (inr (
                  ap (λ (z : Made). z.kind) (sym e),
                  subst (λ (z : Made). Contains (m.name ∷ []) z.name) (sym e) (0, omega arith, refl),
                ))
          ],
        );
        chains = λ its entries is event chains. All-push (λ (z : Group). IsChain its entries z.names) old h chains (chain_one its entries m.name event);
        addrs = inr (addresses-push old h);
      }
    where
      only : (a b : EventName) → Contains (a ∷ []) b → a ≡ b
      only a b (zero, l, e) = e
      only a b (suc k, l, e) = absurd (omega arith)

-- The groups are those of the first n accesses.
pub record AreGrouped (order : Order) (made : List Made) (n : ℕ) (groups : List Group) : Type 0 where
  pub all : (x : Made) → IsIn groups x ↔ Contains (take n made) x
  pub chains : (h : ℕ → Item) (entries : List Entry) → TellsOrder h entries order → ((x : Made) → Contains made x → IsEvent h entries x.name) → AreChains h entries groups
  pub rising : IsNonDecreasing (addresses groups)
  pub below : (k : ℕ) (d : Made) → n ≤ k → k < length made → All (λ (a : ℕ). a ≤ (slice_index_or made k d).kind.addr) (addresses groups)

pub none_grouped : (order : Order) (made : List Made) (groups : List Group) → groups ≡ [] → AreGrouped order made 0 groups
none_grouped order made groups empty = rw empty (record {
  all = λ x. (λ p. absurd (let l = p.1.1 in omega arith), λ p. absurd (let l = p.1 in omega arith));
  chains = λ h entries is events k d l. absurd (omega arith);
  rising = λ i j d l m. absurd (omega arith);
  below = λ k d l m i e b. absurd (omega arith);
})

last_address : (xs : List ℕ) (a : ℕ) → All (λ (x : ℕ). x ≤ a) xs → (d : ℕ) → 0 < length xs → get_or xs (length xs - 1) d ≤ a
last_address xs a all d l = all (length xs - 1) d (omega arith)

pub group_more : (order : Order) (made : List Made) (n : ℕ) (d : Made) (old new : List Group) → IsNonDecreasingBy (λ (m : Made). m.kind.addr) made → n < length made →
    AreWithOne order (get_or made n d) old new → AreGrouped order made n old → AreGrouped order made (n + 1) new
group_more order made n d old new by_addr l one so =
    let m : Made = get_or made n d in
    let taken : take (n + 1) made ≡ take n made ++ m ∷ [] = ap (λ (k : ℕ). take k made) (next n) ∙ take-suc made n d l in
    let here : All (λ (a : ℕ). a ≤ m.kind.addr) (addresses old) = so.below n d (omega arith) l in
    record {
      all = λ x. (
        λ p. elim ((one.all x).0 p) [
          | inl o ↦ rw taken (Contains-append_left (take n made) (m ∷ []) x ((so.all x).0 o))
          | inr e ↦ rw taken (subst (λ (z : Made). Contains (take n made ++ m ∷ []) z) (sym e) (Contains-push (take n made) m))
        ],
        λ p. elim (Contains-push_cases (take n made) m x (subst (λ (ms : List Made). Contains ms x) taken p)) [
          | inl o ↦ (one.all x).1 (inl ((so.all x).1 o))
          | inr e ↦ (one.all x).1 (inr (sym e))
        ],
      );
      chains = λ h entries is events. one.chains h entries is (events m (Contains-get_or made n d l)) (so.chains h entries is events);
      rising = elim one.addrs [
        | inl e ↦ subst IsNonDecreasing (sym e) so.rising
        | inr e ↦ subst IsNonDecreasing (sym e) (IsNonDecreasingBy-push (λ (x : ℕ). x) (addresses old) m.kind.addr so.rising (last_address (addresses old) m.kind.addr here))
      ];
      below = λ k d' b w.
          let more : m.kind.addr ≤ (slice_index_or made k d').kind.addr =
          subst (λ (z : Made). z.kind.addr ≤ (slice_index_or made k d').kind.addr) (get_or_default made n d' d l) (by_addr n k d' (omega arith) w) in
          let still = so.below k d' (omega arith) w in
          elim one.addrs [
            | inl e ↦ subst (λ (all : List ℕ). All (λ (a : ℕ). a ≤ (slice_index_or made k d').kind.addr) all) (sym e) still
            | inr e ↦
                subst (λ (all : List ℕ). All (λ (a : ℕ). a ≤ (slice_index_or made k d').kind.addr) all) (sym e)
                (All-push (λ (a : ℕ). a ≤ (slice_index_or made k d').kind.addr) (addresses old) m.kind.addr still more)
          ];
    }
  where
    next : (k : ℕ) → k + 1 ≡ suc k
    next k = omega arith
