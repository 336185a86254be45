-- From what was read in the words to a request.
use Rattle.std.proofs.Common.{◌≡◌, ℕ, ◌≤◌, ◌<◌, ◌∙◌, inl, inr, Bool, true, false, List, [], Option, Some, None, Result, Ok, Err, ap, codes, lit<, lit≤, lt-ltb, le-ltb, ltb-false, if◌then◌else◌, not, nat_lt, refl, subst, sym, IfOk}
use Rattle.clap.specs.Walk.{Row, Text}
use Rattle.run_record.specs.declared.limits.Limits.{Limits}
use Rattle.run_record.specs.declared.plan.Turn.{Turn}
use Rattle.command_words.specs.Numbers.{given, harts, has_numbers, limits_in, number, seed, size, slots}
use Rattle.command_words.specs.Plans.{is_plan, turns_of}
use Rattle.command_words.specs.Command.{is_taken, matches}
use Rattle.command_words.proofs.NumberLaws.{number_range}
use Rattle.command_words.proofs.PlanLaws.{are_turns, no_turns}
use Rattle.std.specs.Option.{option_map_or}
use Rattle.command_words.specs.declared.request.Request.{Request}
use Rattle.command_words.specs.declared.request.Search.{Search}
use Rattle.std.specs.Prelude.{unwrap_or}
use Rattle.command_words.specs.Requests.{AreLimits, AreTurns, IsTask, run, step, search, generate, is_command, search_in, file_in, task_text, RequestText, TaskText, task_with, request_of, request_text, Tells, fault_in, has_command, has_plan, has_right_file, ok_unless, plan_in, request_from, request_in}
use Rattle.command_words.specs.Parts.{IsRefusal, work_fault}
use Rattle.command_words.specs.declared.request.Refusal.{Refusal}
use Rattle.command_words.specs.declared.request.UsageFault.{UsageFault}
use Rattle.command_words.specs.declared.request.UsageFault.TheVariants as fault

pub plan_given : (rows : List Row) (text : Text) → Some text ≡ given rows (codes "plan") → (is_plan text ≡ has_plan rows) × (turns_of text ≡ plan_in rows)
unfolding has_plan plan_in
plan_given rows text is = (rw (← is) refl, rw (← is) refl)

pub no_plan_given : (rows : List Row) → None ≡ given rows (codes "plan") → (has_plan rows ≡ true) × ([] ≡ plan_in rows)
unfolding has_plan plan_in
no_plan_given rows is = (rw (← is) refl, rw (← is) refl)

-- ---- limits

pub are_limits : (rows : List Row) → has_numbers rows ≡ true → nat_lt (number rows slots) (number rows harts) ≡ false → AreLimits (limits_in rows)
unfolding limits_in
are_limits rows numbers enough =
    let of = number_range rows numbers in
    record {
      some_harts = (of 0 (lit< tt) (lit≤ tt) (lit≤ tt)).0;
      few_harts = (of 0 (lit< tt) (lit≤ tt) (lit≤ tt)).1;
      harts_have_slots = ltb-false (number rows slots) (number rows harts) enough;
      few_slots = (of 1 (lit< tt) (lit≤ tt) (lit≤ tt)).1;
      some_epochs = (of 2 (lit< tt) (lit≤ tt) (lit≤ tt)).0;
      few_epochs = (of 2 (lit< tt) (lit≤ tt) (lit≤ tt)).1;
      some_steps = (of 3 (lit< tt) (lit≤ tt) (lit≤ tt)).0;
      few_steps = (of 3 (lit< tt) (lit≤ tt) (lit≤ tt)).1;
      some_quantum = (of 4 (lit< tt) (lit≤ tt) (lit≤ tt)).0;
      few_quantum = (of 4 (lit< tt) (lit≤ tt) (lit≤ tt)).1;
      least_parts = (of 5 (lit< tt) (lit≤ tt) (lit≤ tt)).0;
      most_parts = (of 5 (lit< tt) (lit≤ tt) (lit≤ tt)).1;
      least_words = (of 6 (lit< tt) (lit≤ tt) (lit≤ tt)).0;
      most_words = (of 6 (lit< tt) (lit≤ tt) (lit≤ tt)).1;
    }

-- ---- the first fault

-- the first test that fails
abbrev first_fault : Bool → Bool → Bool → Bool → Bool → Option UsageFault
first_fault command file numbers plan slots =
    if not command then Some fault.Command
    else (if not file then Some fault.File
    else (if not numbers then Some fault.Number
    else (if not plan then Some fault.Plan
    else (if slots then Some fault.FewSlots
    else None))))

abbrev first_of_two : Bool → Bool → Option UsageFault
first_of_two command file = if not command then Some fault.Command else (if not file then Some fault.File else None)

abbrev has_few_slots : List Row → Bool
has_few_slots rows = nat_lt (number rows slots) (number rows harts)

fault_is : (rows : List Row) → fault_in rows ≡ first_fault (has_command rows) (has_right_file rows) (has_numbers rows) (has_plan rows) (has_few_slots rows)
unfolding fault_in
fault_is rows = refl

work_fault_is : (rows : List Row) → work_fault rows ≡ first_of_two (has_command rows) (has_right_file rows)
unfolding work_fault
work_fault_is rows = refl

two_first : (a b c d e : Bool) (f : UsageFault) → first_of_two a b ≡ Some f → first_fault a b c d e ≡ Some f
two_first false b c d e f h = h
two_first true false c d e f h = h
two_first true true c d e f h = cc

two_pass : (a b : Bool) → first_of_two a b ≡ None → (a ≡ true) × (b ≡ true)
two_pass false b h = cc
two_pass true false h = cc
two_pass true true h = (refl, refl)

-- the words that were read have this fault
pub has_fault : (rows : List Row) (f : UsageFault) → fault_in rows ≡ Some f → request_from rows ≡ Err f
unfolding request_from
has_fault rows f h = ap (λ (o : Option UsageFault). ok_unless o (request_in rows)) h

pub has_work_fault : (rows : List Row) (f : UsageFault) → work_fault rows ≡ Some f → request_from rows ≡ Err f
has_work_fault rows f h = has_fault rows f (fault_is rows ∙ two_first _ _ _ _ _ f (sym (work_fault_is rows) ∙ h))

third : (a b c d e : Bool) → a ≡ true → b ≡ true → c ≡ false → first_fault a b c d e ≡ Some fault.Number
third a b c d e p q r = rw (p, q, r) refl

fourth : (a b c d e : Bool) → a ≡ true → b ≡ true → c ≡ true → d ≡ false → first_fault a b c d e ≡ Some fault.Plan
fourth a b c d e p q r s = rw (p, q, r, s) refl

fifth : (a b c d e : Bool) → a ≡ true → b ≡ true → c ≡ true → d ≡ true → e ≡ true → first_fault a b c d e ≡ Some fault.FewSlots
fifth a b c d e p q r s t = rw (p, q, r, s, t) refl

none_of_five : (a b c d e : Bool) → a ≡ true → b ≡ true → c ≡ true → d ≡ true → e ≡ false → first_fault a b c d e ≡ None
none_of_five a b c d e p q r s t = rw (p, q, r, s, t) refl

both_pass : (rows : List Row) → work_fault rows ≡ None → (has_command rows ≡ true) × (has_right_file rows ≡ true)
both_pass rows work = two_pass _ _ (sym (work_fault_is rows) ∙ work)

pub lacks_numbers : (rows : List Row) → work_fault rows ≡ None → has_numbers rows ≡ false → request_from rows ≡ Err fault.Number
lacks_numbers rows work numbers =
    let known = both_pass rows work in
    has_fault rows fault.Number (fault_is rows ∙ third _ _ _ _ _ known.0 known.1 numbers)

pub lacks_plan : (rows : List Row) → work_fault rows ≡ None → has_numbers rows ≡ true → has_plan rows ≡ false → request_from rows ≡ Err fault.Plan
lacks_plan rows work numbers plan =
    let known = both_pass rows work in
    has_fault rows fault.Plan (fault_is rows ∙ fourth _ _ _ _ _ known.0 known.1 numbers plan)

pub few_slots : (rows : List Row) → work_fault rows ≡ None → has_numbers rows ≡ true → has_plan rows ≡ true → has_few_slots rows ≡ true → request_from rows ≡ Err fault.FewSlots
few_slots rows work numbers plan few =
    let known = both_pass rows work in
    has_fault rows fault.FewSlots (fault_is rows ∙ fifth _ _ _ _ _ known.0 known.1 numbers plan few)

pub no_fault : (rows : List Row) → work_fault rows ≡ None → has_numbers rows ≡ true → has_plan rows ≡ true → has_few_slots rows ≡ false → request_from rows ≡ Ok (request_in rows)
unfolding request_from
no_fault rows work numbers plan enough =
    let known = both_pass rows work in
    ap (λ (o : Option UsageFault). ok_unless o (request_in rows)) (fault_is rows ∙ none_of_five _ _ _ _ _ known.0 known.1 numbers plan enough)

same_slots : (rows : List Row) (n : Limits) → n ≡ limits_in rows → (n.slots ≡ number rows slots) × (n.harts ≡ number rows harts)
unfolding limits_in
same_slots rows n is = (ap (λ (l : Limits). l.slots) is, ap (λ (l : Limits). l.harts) is)

pub fewer_slots : (rows : List Row) (n : Limits) → n ≡ limits_in rows → n.slots < n.harts → has_few_slots rows ≡ true
fewer_slots rows n is few =
    let same = same_slots rows n is in
    lt-ltb _ _ (rw (← same.0, ← same.1) few)

pub enough_slots : (rows : List Row) (n : Limits) → n ≡ limits_in rows → n.harts ≤ n.slots → has_few_slots rows ≡ false
enough_slots rows n is enough =
    let same = same_slots rows n is in
    le-ltb _ _ (rw (← same.0, ← same.1) enough)

-- ---- answers

-- the request that was put together is the one that is wanted
pub request_told : (rows : List Row) (t : TaskText) (n : Limits) (p : List Turn) (s : Option Text) → request_from rows ≡ Ok (request_in rows)
    → t ≡ task_with rows (number rows seed) (number rows size) → n ≡ limits_in rows → p ≡ plan_in rows → s ≡ given rows (codes "suppressions")
    → request_from rows ≡ Ok (record { task = t; limits = n; plan = p; suppressions = s })
request_told rows t n p s from task limits plan suppressions =
    let same : ◌≡◌ {A = RequestText} (record { task = t; limits = n; plan = p; suppressions = s }) (request_in rows) =
    λ i. record { task = task i; limits = limits i; plan = plan i; suppressions = suppressions i } in
    from ∙ ap Ok (sym same)

-- a refusal is the answer that is wanted
pub tells_refusal : (wanted : Result RequestText UsageFault) (f : UsageFault) (test : Bool) (refusal : Refusal) → IsRefusal f test refusal
    → (test ≡ false → wanted ≡ Err f) → Tells wanted (Err refusal)
tells_refusal wanted f test refusal (inl e) fails = subst (λ (r : Refusal). Tells wanted (Err r)) (sym e) tt
tells_refusal wanted f test refusal (inr p) fails = subst (λ (r : Refusal). Tells wanted (Err r)) (sym p.0) (fails p.1)

pub words_refused : (words : List Text) → is_taken words ≡ false → request_of words ≡ Err fault.Words
unfolding request_of
words_refused words h = rw h refl

pub words_taken : (words : List Text) (rows : List Row) → is_taken words ≡ true → rows ≡ matches words → request_from rows ≡ request_of words
unfolding request_of
words_taken words rows h is = rw (h, is) refl

-- ---- limits

taken_only : (test : Bool) (from : Result RequestText UsageFault) (request : RequestText) → (if test then from else Err fault.Words) ≡ Ok request → from ≡ Ok request
taken_only true from request h = h
taken_only false from request h = cc

faultless : (o : Option UsageFault) (value request : RequestText) → ok_unless o value ≡ Ok request → (o ≡ None) × (value ≡ request)
faultless None value request h = (refl, cc)
faultless (Some f) value request h = cc

all_pass : (a b c d e : Bool) → first_fault a b c d e ≡ None → (c ≡ true) × (d ≡ true) × (e ≡ false)
all_pass true true true true false h = (refl, refl, refl)
all_pass true true true true true h = cc
all_pass true true true false e h = cc
all_pass true true false d e h = cc
all_pass true false c d e h = cc
all_pass false b c d e h = cc

turns_read : (rows : List Row) → has_plan rows ≡ true → AreTurns (plan_in rows)
unfolding has_plan plan_in
turns_read rows h = chosen (given rows (codes "plan")) h
  where
    chosen : (o : Option Text) → option_map_or is_plan o true ≡ true → AreTurns (option_map_or turns_of o [])
    chosen None e = no_turns
    chosen (Some text) e = are_turns text e

either_task : (runs steps : Bool) (what : Option Search) (file : Text) (s z : ℕ) → z ≤ 10000 →
    IsTask (if runs then run file else (if steps then step file else option_map_or (λ w. search w file) what (generate s z)))
either_task true steps what file s z few = tt
either_task false true what file s z few = tt
either_task false false (Some w) file s z few = tt
either_task false false None file s z few = few

is_task : (rows : List Row) → has_numbers rows ≡ true → IsTask (request_in rows).task
unfolding task_with
is_task rows numbers =
    either_task (is_command rows (codes "run")) (is_command rows (codes "step")) (search_in rows) (unwrap_or (file_in rows) []) (number rows seed) (number rows size)
    (number_range rows numbers 8 (lit< tt) (lit≤ tt) (lit≤ tt)).1

-- an accepted request's numbers are in their ranges
pub accepted : (words : List Text) (request : RequestText) → request_of words ≡ Ok request → AreLimits request.limits × AreTurns request.plan × IsTask request.task
unfolding request_of request_from
accepted words request h =
    let rows = matches words in
    let parts = faultless (fault_in rows) (request_in rows) request (taken_only (is_taken words) (request_from rows) request h) in
    let known = all_pass _ _ _ _ _ (sym (fault_is rows) ∙ parts.0) in
    (subst (λ (r : RequestText). AreLimits r.limits) parts.1 (are_limits rows known.0 known.2), subst (λ (r : RequestText). AreTurns r.plan) parts.1 (turns_read rows known.1), subst (λ (r : RequestText). IsTask r.task) parts.1 (is_task rows known.0))

pub limits_told : (words : List Text) (result : Result Request Refusal) → Tells (request_of words) result → IfOk result (λ request. AreLimits request.limits)
limits_told words (Ok request) h = (accepted words (request_text request) h).0
limits_told words (Err refusal) h = tt

pub plan_told : (words : List Text) (result : Result Request Refusal) → Tells (request_of words) result → IfOk result (λ request. AreTurns request.plan)
plan_told words (Ok request) h = (accepted words (request_text request) h).1
plan_told words (Err refusal) h = tt

pub task_told : (words : List Text) (result : Result Request Refusal) → Tells (request_of words) result → IfOk result (λ request. IsTask (task_text request.task))
task_told words (Ok request) h = (accepted words (request_text request) h).2
task_told words (Err refusal) h = tt
