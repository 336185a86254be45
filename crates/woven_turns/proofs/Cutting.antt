-- Cutting a past.
use Rattle.std.proofs.Common.{◌≡◌, ℕ, ◌+◌, ◌≤◌, [], ◌∷◌, ◌++◌, length, None, Some, inl, inr, refl, sym, ap, ◌∙◌, subst, arith, append_assoc, append-nil, length-append}
use mathlib.Core.Logic.{dite}
use native.Mathlib.Decide.{ℕ_discrete}
use Rattle.std.proofs.lemmas.Bool.{cases_eq}
use Rattle.atomic_table.proofs.Lists.{set_here}
use Rattle.shared_table.specs.declared.view.Item.{Item}
use Rattle.shared_table.specs.declared.view.Item.TheVariants.{Split, Join, Take, Give, Load, Store}
use Rattle.shared_table.specs.declared.view.Layout.{Layout}
use Rattle.shared_table.specs.Past.{Log, Past, log_of, logs_of, Allowed, Lawful}
use Rattle.shared_table.proofs.Pasts.{if_here, if_else, some_below, log_else, fresh_log}
use Rattle.shared_table.proofs.PastLaws.{IsJoined, join_last, earlier}
use Rattle.turn_orders.specs.Lists.{In}
use Rattle.woven_turns.specs.Cuts.{CutAt}
use Rattle.woven_turns.proofs.Weaving.{in_parts}

pub log_append : (n : ℕ) (late early : Past) → log_of n (late ++ early) ≡ log_of n early ++ log_of n late
log_append n [] early = sym (append-nil (log_of n early))
log_append n ((m, x) ∷ late) early = dite (ℕ_discrete m n)
    (λ e. if_here m n (log_of n (late ++ early) ++ x ∷ []) (log_of n (late ++ early)) e
    ∙ (ap (λ (z : Log). z ++ x ∷ []) (log_append n late early) ∙ (append_assoc (log_of n early) (log_of n late) (x ∷ [])
    ∙ ap (λ (z : Log). log_of n early ++ z) (sym (if_here m n (log_of n late ++ x ∷ []) (log_of n late) e)))))
    (λ o. log_else (late ++ early) m n x o ∙ (log_append n late early ∙ ap (λ (z : Log). log_of n early ++ z) (sym (log_else late m n x o))))

module _ (lay : Layout) where
  joined_stays : (past : Past) (m n : ℕ) (x : Item) (l : Log) → Lawful lay ((m, x) ∷ past) → IsJoined lay past n l → IsJoined lay ((m, x) ∷ past) n l
  joined_stays past m n x l h j = (join_last lay ((m, x) ∷ []) past n l h j).1

  -- a join in the opening seat's log has joined
  joined_of : (past : Past) (n : ℕ) → Lawful lay past → In (Join n) (log_of 0 past) → (l : Log) × IsJoined lay past n l
  joined_of [] n h i = absurd i
  joined_of ((m, x) ∷ past) n h i = dite (ℕ_discrete m 0)
      (λ e. elim (in_parts (Join n) (log_of 0 past) (x ∷ []) (subst (In (Join n)) (if_here m 0 (log_of 0 past ++ x ∷ []) (log_of 0 past) e) i)) [
        | inl j ↦ let r = joined_of past n h.2 j in (r.0, joined_stays past m n x r.0 h r.1)
        | inr j ↦ elim j [
          | inl q ↦ now x q h.1
          | inr z ↦ absurd z
        ]
      ])
      (λ o. let r = joined_of past n h.2 (subst (In (Join n)) (log_else past m 0 x o) i) in (r.0, joined_stays past m n x r.0 h r.1))
    where
      now : (x : Item) → Join n ≡ x → Allowed lay past m x → (l : Log) × IsJoined lay ((m, x) ∷ past) n l
      now (Join j) q a = let e : n ≡ j = cc in (log_of j past, subst (λ (z : ℕ). IsJoined lay ((m, Join j) ∷ past) z (log_of j past)) (sym e) (set_here (logs_of past) j (Some (log_of j past)) (some_below (logs_of past) j None a.2)))
      now (Split j) q a = absurd (cc)
      now (Take j i) q a = absurd (cc)
      now (Give j i f l) q a = absurd (cc)
      now (Load c w) q a = absurd (cc)
      now (Store c w) q a = absurd (cc)

  one_more : (x : ℕ × Item) (past : Past) → length (log_of 0 (x ∷ past)) ≤ length (log_of 0 past) + 1
  one_more x past = dite (ℕ_discrete x.0 0)
      (λ e. let q = ap length (if_here x.0 0 (log_of 0 past ++ x.1 ∷ []) (log_of 0 past) e) in omega (arith, length-append (log_of 0 past) (x.1 ∷ [])))
      (λ o. let q = ap length (if_else x.0 0 (log_of 0 past ++ x.1 ∷ []) (log_of 0 past) o) in omega arith)

  pub cut_at : (past : Past) (m : ℕ) → m ≤ length (log_of 0 past) → (late : Past) × (early : Past) × (past ≡ late ++ early) × (length (log_of 0 early) ≡ m)
  cut_at [] m le = ([], [], refl, omega arith)
  cut_at (x ∷ past) m le = elim (cases_eq m (length (log_of 0 (x ∷ past)))) [
    | inl e ↦ ([], x ∷ past, refl, sym e)
    | inr ne ↦
        let l = one_more x past in
        let r = cut_at past m (omega arith) in
        (x ∷ r.0, r.1, ap (λ (z : Past). x ∷ z) r.2, r.3)
  ]

  pub cut : (past : Past) (m : ℕ) → Lawful lay past → m ≤ length (log_of 0 past) → CutAt past m
  cut past m h le =
      let c = cut_at past m le in
      let law = subst (Lawful lay) c.2 h in
      let part = earlier lay c.0 c.1 law in
      record {
        early = c.1;
        late = c.0;
        whole = c.2;
        items = c.3;
        logs = λ n. ap (log_of n) c.2 ∙ log_append n c.0 c.1;
        over = λ n i. let j = joined_of c.1 n part i in (join_last lay c.0 c.1 n j.0 law j.1).0;
        fresh = λ n le. fresh_log lay c.1 n part le;
      }
