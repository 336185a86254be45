-- Workers that are taken back one after another.
use Rattle.std.proofs.Common.{◌≡◌, ℕ, Bool, true, false, List, [], ◌∷◌, ◌++◌, None, Some, refl, sym, ap, subst, ◌∙◌, append_assoc, length-set}
use Rattle.std.specs.Prelude.{Option, slice_set, map, ◌||◌}
use Rattle.std.specs.List.{list_any}
use Rattle.std.proofs.lemmas.List.{map-append}
use Rattle.std.proofs.lemmas.List.Concat.{flat_map-append}
use Rattle.std.proofs.lemmas.List.Folds.{list_any-append}
use Rattle.run_record.specs.declared.entry.Entry.{Entry}
use Rattle.turn_orders.specs.Lists.{Each, In}
use Rattle.turn_orders.proofs.Members.{each_append}
use Rattle.part_races.specs.Sorting.{Keyed}
use Rattle.hart_turns.specs.declared.slots.ThreadState.{ThreadState}
use Rattle.part_workers.specs.declared.worker.HartWorker.{HartWorker}
use Rattle.part_workers.specs.Parts.{keyed_in}
use Rattle.hart_workers.specs.Crews.{state_at, logs_from, waiting_from, TakesBack}
use Rattle.hart_workers.specs.Taking.{TakesOne}
use Rattle.hart_workers.proofs.Kept.{state_here, state_else, not_both, in_first, in_last}

or_last : (a b : Bool) → (a || (b || false)) ≡ (a || b)
or_last true b = refl
or_last false true = refl
or_last false false = refl

no_more : {X : Type 0} (xs : List X) → xs ++ [] ≡ xs
no_more [] = refl
no_more (x ∷ xs) = ap (λ (z : List _). x ∷ z) (no_more xs)

module _ {G : Type 0} where
  abbrev pub tids : List (HartWorker G) → List ℕ
  tids ws = map (λ (w : HartWorker G). w.post.tid) ws

  abbrev pub IsBack : List (Option ThreadState) → HartWorker G → Type 0
  IsBack states w = state_at states w.post.tid ≡ Some w.state

  pub taken_none : (old : List (Option ThreadState)) (ws : List (HartWorker G)) (logs : List (List Entry)) (pending : List Keyed) → ws ≡ [] →
      TakesBack old old ws logs logs pending pending false
  taken_none old ws logs pending e = subst (λ (z : List (HartWorker G)). TakesBack old old z logs logs pending pending false) (sym e)
      (record {
        fine = tt;
        back = tt;
        others = λ t out. refl;
        count = refl;
        logs_are = sym (no_more logs);
        pending_are = sym (no_more pending);
        starved_is = refl;
      })

  -- what is back stays, where a place is filled that was empty
  still_back : (cur : List (Option ThreadState)) (t : ℕ) (x : ThreadState) (ws : List (HartWorker G)) → state_at cur t ≡ None → Each (IsBack cur) ws →
      Each (IsBack (slice_set cur t (Some x))) ws
  still_back cur t x [] none h = tt
  still_back cur t x (w ∷ ws) none h = (
    state_else cur t w.post.tid (Some x) (λ e. not_both (state_at cur t) w.state (ap (state_at cur) (sym e) ∙ h.0) none) ∙ h.0,
    still_back cur t x ws none h.1,
  )

  module _ (old cur : List (Option ThreadState)) (ws : List (HartWorker G)) (w : HartWorker G) (logs logs' logs'' : List (List Entry))
      (pending pending' pending'' : List Keyed) (starved one : Bool) (before : TakesBack old cur ws logs logs' pending pending' starved) where
    tids_more : tids (ws ++ w ∷ []) ≡ tids ws ++ w.post.tid ∷ []
    tids_more = map-append (λ (x : HartWorker G). x.post.tid) ws (w ∷ [])

    logs_more : logs'' ≡ logs' ++ w.part.entries ∷ [] → logs'' ≡ logs ++ logs_from (ws ++ w ∷ [])
    logs_more e =
        let all : logs_from (ws ++ w ∷ []) ≡ logs_from ws ++ w.part.entries ∷ [] = map-append (λ (x : HartWorker G). x.part.entries) ws (w ∷ []) in
        e ∙ (ap (λ (z : List (List Entry)). z ++ w.part.entries ∷ []) before.logs_are
        ∙ (append_assoc logs (logs_from ws) (w.part.entries ∷ []) ∙ ap (λ (z : List (List Entry)). logs ++ z) (sym all)))

    abbrev keys : List Keyed
    keys = map (keyed_in w.post.tid) w.part.waiting.items

    pending_more : pending'' ≡ pending' ++ keys → pending'' ≡ pending ++ waiting_from (ws ++ w ∷ [])
    pending_more e =
        let all : waiting_from (ws ++ w ∷ []) ≡ waiting_from ws ++ keys =
        flat_map-append (λ (x : HartWorker G). map (keyed_in x.post.tid) x.part.waiting.items) ws (w ∷ [])
        ∙ ap (λ (z : List Keyed). waiting_from ws ++ z) (no_more keys) in
        e ∙ (ap (λ (z : List Keyed). z ++ keys) before.pending_are
        ∙ (append_assoc pending (waiting_from ws) keys ∙ ap (λ (z : List Keyed). pending ++ z) (sym all)))

    starved_more : one ≡ w.starved → (starved || one) ≡ list_any (λ (x : HartWorker G). x.starved) (ws ++ w ∷ [])
    starved_more e =
        ap (λ (z : Bool). z || one) before.starved_is
        ∙ (ap (λ (z : Bool). list_any (λ (x : HartWorker G). x.starved) ws || z) e
        ∙ (sym (or_last (list_any (λ (x : HartWorker G). x.starved) ws) w.starved)
        ∙ sym (list_any-append (λ (x : HartWorker G). x.starved) ws (w ∷ []))))

    pub taken_more : (new : List (Option ThreadState)) → TakesOne cur new w logs' logs'' pending' pending'' one →
        TakesBack old new (ws ++ w ∷ []) logs logs'' pending pending'' (starved || one)
    taken_more new h =
        subst (λ (z : List (Option ThreadState)). TakesBack old z (ws ++ w ∷ []) logs logs'' pending pending'' (starved || one)) (sym h.kept)
        (record {
          fine = each_append (λ (x : HartWorker G). x.failed ≡ false) ws (w ∷ []) before.fine (h.fine, tt);
          back = each_append (IsBack (slice_set cur w.post.tid (Some w.state))) ws (w ∷ [])
              (still_back cur w.post.tid w.state ws h.empty before.back) (state_here cur w.post.tid (Some w.state) h.within, tt);
          others = λ u out.
              let out' : In u (tids ws ++ w.post.tid ∷ []) → ⊥ = λ i. out (subst (λ (z : List ℕ). In u z) (sym tids_more) i) in
              state_else cur w.post.tid u (Some w.state)
              (λ e. out' (subst (λ (v : ℕ). In v (tids ws ++ w.post.tid ∷ [])) (sym e) (in_last w.post.tid (tids ws))))
              ∙ before.others u (λ i. out' (in_first u (tids ws) (w.post.tid ∷ []) i));
          count = length-set cur w.post.tid (Some w.state) ∙ before.count;
          logs_are = logs_more h.logs_are;
          pending_are = pending_more h.pending_are;
          starved_is = starved_more h.starved_is;
        })
