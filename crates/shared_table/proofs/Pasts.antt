-- What holds of a lawful past.
use Rattle.std.proofs.Common.{◌≡◌, ◌≢◌, ℕ, zero, suc, ◌+◌, ◌<◌, ◌≤◌, Bool, cond, List, [], ◌∷◌, ◌++◌, length, None, Some, refl, sym, ap, ◌∙◌, subst, arith, eq-eqb, ne_eqb, length-append, length-set}
use Rattle.std.specs.Prelude.{◌==◌, if◌then◌else◌}
use mathlib.Core.Logic.{dite}
use mathlib.Core.Option.{some, some-ne-none}
use native.Mathlib.Decide.{ℕ_discrete}
use lib.ListN.{get_elem?}
use Rattle.atomic_table.proofs.Lists.{set_else, at_longer}
use Rattle.shared_table.specs.declared.view.Layout.{Layout}
use Rattle.shared_table.specs.declared.view.Item.{Item}
use Rattle.shared_table.specs.declared.view.Item.TheVariants.{Split, Join, Take, Give, Load, Store}
use Rattle.shared_table.specs.Layouts.{first_of}
use Rattle.shared_table.specs.Past.{Slot, Past, IsSoundSlot, Turns, turns_at, turns_after, turns_of, cell_after, cell_of, log_of, logs_after, logs_of, IsOut, Allowed, Lawful, IsCellWord}

module _ {A : Type 0} where
  pub if_here : (j k : ℕ) (a b : A) → j ≡ k → (if j == k then a else b) ≡ a
  if_here j k a b e = ap (λ (t : Bool). cond t a b) (eq-eqb j k e)

  pub if_else : (j k : ℕ) (a b : A) → j ≢ k → (if j == k then a else b) ≡ b
  if_else j k a b ne = ap (λ (t : Bool). cond t a b) (ne_eqb j k ne)

  pub some_below : (l : List A) (i : ℕ) (a : A) → get_elem? l i ≡ some a → i < length l
  some_below [] i a e = absurd (some-ne-none a (sym e))
  some_below (x ∷ xs) zero a e = omega arith
  some_below (x ∷ xs) (suc i) a e = let h = some_below xs i a e in omega arith

-- the step ends the seat m
abbrev pub Ends : ℕ → Item → Type 0
Ends m (Join j) = m ≡ j
Ends m (Split j) = ⊥
Ends m (Take j t) = ⊥
Ends m (Give j t found left) = ⊥
Ends m (Load c w) = ⊥
Ends m (Store c w) = ⊥

pub logs_grow : (past : Past) (x : Item) → length (logs_of past) ≤ length (logs_after past x (logs_of past))
logs_grow past (Split m) = omega (arith, length-append (logs_of past) (None ∷ []))
logs_grow past (Join m) = omega (arith, length-set (logs_of past) m (Some (log_of m past)))
logs_grow past (Take j t) = omega arith
logs_grow past (Give j t found left) = omega arith
logs_grow past (Load c w) = omega arith
logs_grow past (Store c w) = omega arith

-- a seat that was not made yet has made no step
pub fresh_log : (lay : Layout) (past : Past) (m : ℕ) → Lawful lay past → length (logs_of past) ≤ m → log_of m past ≡ []
fresh_log lay [] m h le = refl
fresh_log lay (x ∷ past) m h le =
    let grow = logs_grow past x.1 in
    let below = some_below (logs_of past) x.0 None h.0 in
    let ne : x.0 ≢ m = λ e. omega arith in
    if_else x.0 m (log_of m past ++ x.1 ∷ []) (log_of m past) ne ∙ fresh_log lay past m h.2 (omega arith)

pub out_stays : (past : Past) (n m : ℕ) (x : Item) → ¬ Ends m x → IsOut past m → IsOut ((n, x) ∷ past) m
out_stays past n m (Split j) ne out = at_longer (logs_of past) (None ∷ []) m None out
out_stays past n m (Join j) ne out = set_else (logs_of past) j m (Some (log_of j past)) ne ∙ out
out_stays past n m (Take j t) ne out = out
out_stays past n m (Give j t found left) ne out = out
out_stays past n m (Load c w) ne out = out
out_stays past n m (Store c w) ne out = out

pub log_mine : (past : Past) (n : ℕ) (x : Item) → log_of n ((n, x) ∷ past) ≡ log_of n past ++ x ∷ []
log_mine past n x = if_here n n (log_of n past ++ x ∷ []) (log_of n past) refl

pub log_else : (past : Past) (n m : ℕ) (x : Item) → n ≢ m → log_of m ((n, x) ∷ past) ≡ log_of m past
log_else past n m x ne = if_else n m (log_of m past ++ x ∷ []) (log_of m past) ne

-- the open turn of another seat stays
pub turn_stays : (lay : Layout) (past : Past) (n m k done : ℕ) (y : Slot) (x : Item) → n ≢ m → Allowed lay past n x → turns_of lay k past ≡ turns_at done y (Some m)
    → turns_of lay k ((n, x) ∷ past) ≡ turns_at done y (Some m)
turn_stays lay past n m k done y (Split j) ne ok t = t
turn_stays lay past n m k done y (Join j) ne ok t = t
turn_stays lay past n m k done y (Load c w) ne ok t = t
turn_stays lay past n m k done y (Store c w) ne ok t = t
turn_stays lay past n m k done y (Take j i) ne ok t = dite (ℕ_discrete j k)
    (λ e. absurd (let a : (turns_of lay k past).by ≡ None = subst (λ (z : ℕ). (turns_of lay z past).by ≡ None) e ok.1 in let b = ap (λ (s : Turns). s.by) t in cc))
    (λ other. if_else j k _ (turns_of lay k past) other ∙ t)
turn_stays lay past n m k done y (Give j i found left) ne ok t = dite (ℕ_discrete j k)
    (λ e. absurd (let a : (turns_of lay k past).by ≡ Some n = subst (λ (z : ℕ). (turns_of lay z past).by ≡ Some n) e ok.1 in let b = ap (λ (s : Turns). s.by) t in ne (cc)))
    (λ other. if_else j k _ (turns_of lay k past) other ∙ t)

-- the values of the objects stay sound
pub sound_stays : (lay : Layout) (past : Past) (k : ℕ) → IsSoundSlot lay k (first_of lay k) → Lawful lay past → IsSoundSlot lay k (turns_of lay k past).value
sound_stays lay [] k ok h = ok
sound_stays lay (x ∷ past) k ok h = sound_after x.0 x.1 h.1 (sound_stays lay past k ok h.2)
  where
    sound_after : (n : ℕ) (x : Item) → Allowed lay past n x → IsSoundSlot lay k (turns_of lay k past).value → IsSoundSlot lay k (turns_after k n x (turns_of lay k past)).value
    sound_after n (Split j) a s = s
    sound_after n (Join j) a s = s
    sound_after n (Load c w) a s = s
    sound_after n (Store c w) a s = s
    sound_after n (Take j i) a s = dite (ℕ_discrete j k)
        (λ e. subst (λ (z : Turns). IsSoundSlot lay k z.value) (sym (if_here j k (turns_at (turns_of lay k past).done (turns_of lay k past).value (Some n)) (turns_of lay k past) e)) s)
        (λ o. subst (λ (z : Turns). IsSoundSlot lay k z.value) (sym (if_else j k (turns_at (turns_of lay k past).done (turns_of lay k past).value (Some n)) (turns_of lay k past) o)) s)
    sound_after n (Give j i found left) a s = dite (ℕ_discrete j k)
        (λ e. subst (λ (z : Turns). IsSoundSlot lay k z.value) (sym (if_here j k (turns_at ((turns_of lay k past).done + 1) (Some left) None) (turns_of lay k past) e)) (subst (λ (z : ℕ). IsSoundSlot lay z (Some left)) e a.4))
        (λ o. subst (λ (z : Turns). IsSoundSlot lay k z.value) (sym (if_else j k (turns_at ((turns_of lay k past).done + 1) (Some left) None) (turns_of lay k past) o)) s)

-- each word in a cell is 0 or one that may be stored
pub cell_word : (lay : Layout) (past : Past) (c : ℕ) → Lawful lay past → cell_of c past ≢ 0 → IsCellWord lay (cell_of c past)
cell_word lay [] c h ne = absurd (ne refl)
cell_word lay (x ∷ past) c h ne = word_after x.0 x.1 h.1 (cell_word lay past c h.2) ne
  where
    word_after : (n : ℕ) (x : Item) → Allowed lay past n x → (cell_of c past ≢ 0 → IsCellWord lay (cell_of c past)) → cell_after c x (cell_of c past) ≢ 0 → IsCellWord lay (cell_after c x (cell_of c past))
    word_after n (Split m) a old ne = old ne
    word_after n (Join m) a old ne = old ne
    word_after n (Take j t) a old ne = old ne
    word_after n (Give j t found left) a old ne = old ne
    word_after n (Load j w) a old ne = old ne
    word_after n (Store j w) a old ne = dite (ℕ_discrete j c)
        (λ e. subst (IsCellWord lay) (sym (if_here j c w (cell_of c past) e)) a.1)
        (λ o. let same = if_else j c w (cell_of c past) o in subst (IsCellWord lay) (sym same) (old (λ z. ne (same ∙ z))))

-- a step of another seat gives this one no turn
pub by_stays : (lay : Layout) (past : Past) (n m k : ℕ) (x : Item) → n ≢ m → (turns_of lay k ((n, x) ∷ past)).by ≡ Some m → (turns_of lay k past).by ≡ Some m
by_stays lay past n m k (Split j) ne e = e
by_stays lay past n m k (Join j) ne e = e
by_stays lay past n m k (Load c w) ne e = e
by_stays lay past n m k (Store c w) ne e = e
by_stays lay past n m k (Take j i) ne e = let st = turns_of lay k past in dite (ℕ_discrete j k)
    (λ q. absurd (let f = ap (λ (z : Turns). z.by) (if_here j k (turns_at st.done st.value (Some n)) st q) in let g : Some n ≡ Some m = sym f ∙ e in ne (cc)))
    (λ o. ap (λ (z : Turns). z.by) (sym (if_else j k (turns_at st.done st.value (Some n)) st o)) ∙ e)
by_stays lay past n m k (Give j i found left) ne e = let st = turns_of lay k past in dite (ℕ_discrete j k)
    (λ q. absurd (let f = ap (λ (z : Turns). z.by) (if_here j k (turns_at (st.done + 1) (Some left) None) st q) in let g : None ≡ Some m = sym f ∙ e in cc))
    (λ o. ap (λ (z : Turns). z.by) (sym (if_else j k (turns_at (st.done + 1) (Some left) None) st o)) ∙ e)

-- who has an open turn is out
pub holder_out : (lay : Layout) (past : Past) (k m : ℕ) → Lawful lay past → (turns_of lay k past).by ≡ Some m → IsOut past m
holder_out lay [] k m h e = absurd (cc)
holder_out lay (x ∷ past) k m h e = dite (ℕ_discrete x.0 m)
    (λ same. subst (IsOut (x ∷ past)) same (out_stays past x.0 x.0 x.1 (not_mine x.0 x.1 h.1 same) h.0))
    (λ o. let was = by_stays lay past x.0 m k x.1 o e in out_stays past x.0 m x.1 (not_ends x.0 x.1 h.1 was) (holder_out lay past k m h.2 was))
  where
    not_mine : (n : ℕ) (y : Item) → Allowed lay past n y → n ≡ m → ¬ Ends n y
    not_mine n (Join j) a s q = a.1 (sym q ∙ a.0)
    not_mine n (Split j) a s q = q
    not_mine n (Take j i) a s q = q
    not_mine n (Give j i f l) a s q = q
    not_mine n (Load c w) a s q = q
    not_mine n (Store c w) a s q = q

    not_ends : (n : ℕ) (y : Item) → Allowed lay past n y → (turns_of lay k past).by ≡ Some m → ¬ Ends m y
    not_ends n (Join j) a b q = a.3 k (b ∙ ap Some q)
    not_ends n (Split j) a b q = q
    not_ends n (Take j i) a b q = q
    not_ends n (Give j i f l) a b q = q
    not_ends n (Load c w) a b q = q
    not_ends n (Store c w) a b q = q
