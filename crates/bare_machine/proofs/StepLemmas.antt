-- A step by the request that its thread has made.
use Rattle.std.proofs.Common.{◌≡◌, ℕ, zero, suc, ◌<◌, length, true, false, Bool, not, arith, List, [], ◌∷◌, Option, Some, None, Result, Ok, Err, slice_get, slice_set, refl, ap, sym, ◌∙◌, IfOk}
use Rattle.std.specs.Prelude.{◌||◌}
use Rattle.std.specs.Result.{OnOk}
use Rattle.rv_exec.specs.Registers.{Registers}
use Rattle.bare_machine.specs.declared.thread.Thread.{Thread}
use Rattle.bare_machine.specs.declared.request.Request.{Request}
use Rattle.bare_machine.specs.declared.request.Request.TheVariants as kinds
use Rattle.bare_machine.specs.World.{World, lives}
use Rattle.bare_machine.specs.Step.{step, serve, goes_on, thread_step, with_registers}
use Rattle.bare_machine.specs.Requests.{needs, request}
use Rattle.bare_machine.specs.Preview.{thread_needs, needs_slot}
use Rattle.bare_machine.specs.Asked.{asked, Keeps, IsUndone, Asks}

-- a number that lives is that of a thread
pub record Lives (w : World) (tid : ℕ) : Type 0 where
  pub thread : Thread
  pub is : slice_get w.threads tid ≡ Some thread

living_by : (w : World) (tid : ℕ) (o : Option Thread) → slice_get w.threads tid ≡ o → lives w tid ≡ true → Lives w tid
living_by w tid None e h = let f : false ≡ true = (rw e at h) in absurd (cc)
living_by w tid (Some t) e h = record { thread = t; is = e }

pub living : (w : World) (tid : ℕ) → lives w tid ≡ true → Lives w tid
living w tid h = living_by w tid (slice_get w.threads tid) refl h

pub within : {X : Type 0} (xs : List X) (i : ℕ) (x : X) → slice_get xs i ≡ Some x → i < length xs
within [] i x e = absurd (cc)
within (y ∷ ys) zero x e = omega arith
within (y ∷ ys) (suc i) x e = let h = within ys i x e in omega arith

pub get_set : {X : Type 0} (xs : List X) (i : ℕ) (x : X) → i < length xs → slice_get (slice_set xs i x) i ≡ Some x
get_set [] i x h = absurd (omega arith)
get_set (y ∷ ys) zero x h = refl
get_set (y ∷ ys) (suc i) x h = get_set ys i x (omega arith)

pub set_set : {X : Type 0} (xs : List X) (i : ℕ) (x y : X) → slice_set (slice_set xs i x) i y ≡ slice_set xs i y
set_set [] i x y = refl
set_set (z ∷ xs) zero x y = refl
set_set (z ∷ xs) (suc i) x y = ap (λ rest. z ∷ rest) (set_set xs i x y)

pub set_same : {X : Type 0} (xs : List X) (i : ℕ) (x : X) → slice_get xs i ≡ Some x → slice_set xs i x ≡ xs
set_same [] i x e = refl
set_same (z ∷ xs) zero x e = (let f : z ≡ x = cc in ap (λ y. y ∷ xs) (sym f))
set_same (z ∷ xs) (suc i) x e = ap (λ rest. z ∷ rest) (set_same xs i x e)

pub on_ok : {T E : Type 0} (r : Result T E) (P Q : Type 0) → (P → Q) → OnOk r P → OnOk r Q
on_ok (Ok v) P Q f h = f h
on_ok (Err e) P Q f h = h

pub if_ok : {T E : Type 0} (r : Result T E) (P Q : T → Type 0) → ((v : T) → P v → Q v) → IfOk r P → IfOk r Q
if_ok (Ok v) P Q f h = f v h
if_ok (Err e) P Q f h = h

-- ---- a thread that has asked

module _ (old new : World) (tid : ℕ) (t u : Thread) (is : slice_get old.threads tid ≡ Some t) (so : u ≡ with_registers t u.regs) (made : new ≡ record old { threads = slice_set old.threads tid u }) where
  -- it goes on from the old world as from the new one
  done_asked : goes_on old tid (with_registers t u.regs) [] None ≡ goes_on new tid u [] None
  done_asked =
      ap (λ (y : Thread). goes_on old tid y [] None) (sym so)
      ∙ (ap (λ (ts : List Thread). record (goes_on old tid u [] None) { world = record old { threads = ts } }) (sym (set_set old.threads tid u (record u { began = true })))
      ∙ ap (λ (w : World). goes_on w tid u [] None) (sym made))

  kept_asked : (q : Request) → u ≡ t → serve old tid t (asked u.regs q) ≡ serve new tid u (asked u.regs q)
  kept_asked q e =
      let same : new ≡ old = made ∙ (ap (λ (y : Thread). record old { threads = slice_set old.threads tid y }) e ∙ ap (λ (ts : List Thread). record old { threads = ts }) (set_same old.threads tid t is)) in
      ap (λ (w : World). serve w tid t (asked u.regs q)) (sym same) ∙ ap (λ (y : Thread). serve new tid y (asked u.regs q)) (sym e)

  serve_asked : (q : Request) → Keeps q t u → serve old tid t (asked u.regs q) ≡ serve new tid u (asked u.regs q)
  serve_asked kinds.Done k = done_asked
  serve_asked (kinds.Return r) k = kept_asked (kinds.Return r) k
  serve_asked (kinds.Touch r) k = kept_asked (kinds.Touch r) k
  serve_asked (kinds.Operate r) k = kept_asked (kinds.Operate r) k
  serve_asked (kinds.Put word count) k = kept_asked (kinds.Put word count) k
  serve_asked (kinds.Create pc argument stack) k = kept_asked (kinds.Create pc argument stack) k
  serve_asked (kinds.Join of) k = kept_asked (kinds.Join of) k
  serve_asked (kinds.Stop end) k = kept_asked (kinds.Stop end) k

-- the step is what the new world makes of the request
pub step_asked : (file : List ℕ) (old new : World) (tid : ℕ) (t : Thread) (q : Request) → slice_get old.threads tid ≡ Some t → (a : Asks file old new tid t q) → step file old tid ≡ serve new tid a.thread (asked a.thread.regs q)
step_asked file old new tid t q is a =
    ap (thread_step file old tid) is ∙ (ap (serve old tid t) (sym a.value) ∙ serve_asked old new tid t a.thread is a.is a.world q a.kept)

pub asked_found : (file : List ℕ) (old new : World) (tid : ℕ) (t : Thread) (q : Request) → slice_get old.threads tid ≡ Some t → (a : Asks file old new tid t q) → slice_get new.threads tid ≡ Some a.thread
asked_found file old new tid t q is a = ap (λ (w : World). slice_get w.threads tid) a.world ∙ get_set old.threads tid a.thread (within old.threads tid t is)

-- ---- a thread that may have no slot

-- what needs a slot isn't done
pub undone : (r : Registers) (q : Request) → needs (asked r q) ≡ true → IsUndone q
undone r kinds.Done is = absurd (cc)
undone r (kinds.Return q) is = tt
undone r (kinds.Touch q) is = tt
undone r (kinds.Operate q) is = tt
undone r (kinds.Put word count) is = tt
undone r (kinds.Create pc argument stack) is = tt
undone r (kinds.Join of) is = tt
undone r (kinds.Stop end) is = tt

pub first_needs : (file : List ℕ) (w : World) (tid : ℕ) (t : Thread) → slice_get w.threads tid ≡ Some t → t.began ≡ false → needs_slot file w tid ≡ true
first_needs file w tid t is began = ap (thread_needs file tid) is ∙ ap (λ (b : Bool). not b || needs (request file tid t)) began

pub needs_asked : (file : List ℕ) (old new : World) (tid : ℕ) (t : Thread) (q : Request) (b : Bool) → slice_get old.threads tid ≡ Some t → (a : Asks file old new tid t q) → t.began ≡ true → b ≡ needs (asked a.thread.regs q) → needs_slot file old tid ≡ b
needs_asked file old new tid t q b is a began needs_is =
    ap (thread_needs file tid) is ∙ (ap (λ (x : Bool). not x || needs (request file tid t)) began ∙ (ap needs (sym a.value) ∙ sym needs_is))
