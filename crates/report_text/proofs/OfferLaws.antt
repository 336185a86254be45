-- What is found among the pairs of stacks is what is found among the reports.
use Rattle.std.proofs.Common.{◌≡◌, ℕ, suc, ◌+◌, nat_lt, not, Bool, true, false, ◌||◌, cond, List, [], ◌∷◌, ◌++◌, length, map, position, Option, Some, None, is_some, refl, ap, sym, ◌∙◌, arith, lt-ltb, length-append}
use Rattle.std.proofs.lemmas.Bool.Decides.{nat_tests}
use Rattle.std.specs.List.{list_any, prefix_len, position_or_len}
use Rattle.std.specs.Option.{option_map, option_map_or}
use Rattle.run_record.specs.declared.report.Report.{Report}
use Rattle.run_laws.specs.Reports.{Kept, is_equal, kept_after}
use Rattle.report_text.specs.declared.reporter.Offered.TheVariants.{Reported, Suppressed, Equal}
use Rattle.report_text.specs.Pairs.{stacks_of, same_stacks}
use Rattle.report_text.specs.Offers.{offered, is_met}

prefix_len-map : {A B : Type 0} (f : A → B) (p : B → Bool) (xs : List A) → prefix_len p (map f xs) ≡ prefix_len (λ x. p (f x)) xs
prefix_len-map f p [] = refl
prefix_len-map f p (x ∷ xs) = ap (λ n. cond (p (f x)) (1 + n) 0) (prefix_len-map f p xs)

long : {A B : Type 0} (f : A → B) (xs : List A) → length (map f xs) ≡ length xs
long f [] = refl
long f (x ∷ xs) = ap suc (long f xs)

-- the first pair that is the same is the pair of the first equal report
pub position_stacks : (r : Report) (kept : List Report) → position (same_stacks (stacks_of r)) (map stacks_of kept) ≡ position (is_equal r) kept
position_stacks r kept =
    let first = prefix_len-map stacks_of (λ q. not (same_stacks (stacks_of r) q)) kept in
    let last = long stacks_of kept in
    λ i. cond (nat_lt (first i) (last i)) (Some (first i)) None

next_lt : (n m : ℕ) → nat_lt (1 + n) (suc m) ≡ nat_lt n m
next_lt n m = grind (arith, nat_tests)

next_stop : (b : Bool) (n m : ℕ) (rest : Bool) → nat_lt n m ≡ rest → nat_lt (cond (not b) (1 + n) 0) (suc m) ≡ (b || rest)
next_stop true n m rest e = lt-ltb 0 (suc m) (omega arith)
next_stop false n m rest e = next_lt n m ∙ e

some_stops : {X : Type 0} (p : X → Bool) (xs : List X) → nat_lt (position_or_len p xs) (length xs) ≡ list_any p xs
some_stops p [] = refl
some_stops p (x ∷ xs) = next_stop (p x) (position_or_len p xs) (length xs) (list_any p xs) (some_stops p xs)

is_some_cond : {X : Type 0} (b : Bool) (x : X) → is_some (cond b (Some x) None) ≡ b
is_some_cond true x = refl
is_some_cond false x = refl

pub is_some_position : {X : Type 0} (p : X → Bool) (xs : List X) → is_some (position p xs) ≡ list_any p xs
is_some_position p xs = is_some_cond (nat_lt (position_or_len p xs) (length xs)) (position_or_len p xs) ∙ some_stops p xs

module _ (rule_of : Option (List ℕ) → Option (List ℕ) → Option ℕ) (kept : Kept) (r : Report) where
  abbrev met : Option ℕ
  met = rule_of r.mine.stack r.previous.stack

  -- the stacks meet a rule
  pub offered-met : (rule : ℕ) → met ≡ Some rule → Suppressed rule ≡ offered kept met r
  offered-met rule is = rw is refl

  pub kept_after-met : (rule : ℕ) → met ≡ Some rule → record kept { suppressed = kept.suppressed + 1 } ≡ kept_after (is_met rule_of) kept r
  kept_after-met rule is = rw is refl

  module _ (none : met ≡ None) where
    equal_is : position (same_stacks (stacks_of r)) (map stacks_of kept.reports) ≡ position (is_equal r) kept.reports
    equal_is = position_stacks r kept.reports

    unmet : is_met rule_of r.mine.stack r.previous.stack ≡ false
    unmet = ap is_some none

    -- a report has the same stacks
    module _ (number : ℕ) (told : option_map (λ at. at + 1) (position (same_stacks (stacks_of r)) (map stacks_of kept.reports)) ≡ Some number) where
      pub offered-equal : Equal number ≡ offered kept met r
      offered-equal = rw none (by (position (is_equal r) kept.reports) (ap (option_map (λ at. at + 1)) (sym equal_is) ∙ told))
        where
          by : (o : Option ℕ) → option_map (λ at. at + 1) o ≡ Some number → Equal number ≡ option_map_or (λ at. Equal (at + 1)) o (Reported (length kept.reports + 1))
          by None e = absurd cc
          by (Some at) e = (let n : at + 1 ≡ number = cc in ap Equal (sym n))

      pub kept_after-equal : record kept { equal = kept.equal + 1 } ≡ kept_after (is_met rule_of) kept r
      kept_after-equal =
          let some : is_some (position (is_equal r) kept.reports) ≡ true = by (position (is_equal r) kept.reports) (ap (option_map (λ at. at + 1)) (sym equal_is) ∙ told) in
          let any : list_any (is_equal r) kept.reports ≡ true = sym (is_some_position (is_equal r) kept.reports) ∙ some in
          rw (unmet, any) refl
        where
          by : (o : Option ℕ) → option_map (λ at. at + 1) o ≡ Some number → is_some o ≡ true
          by None e = absurd cc
          by (Some at) e = refl

    -- no report has them
    module _ (absent : position (same_stacks (stacks_of r)) (map stacks_of kept.reports) ≡ None) where
      pub offered-new : Reported (length kept.reports + 1) ≡ offered kept met r
      offered-new = rw (none, sym equal_is ∙ absent) refl

      pub kept_after-new : record kept { reports = kept.reports ++ r ∷ [] } ≡ kept_after (is_met rule_of) kept r
      kept_after-new =
          let no : list_any (is_equal r) kept.reports ≡ false = sym (is_some_position (is_equal r) kept.reports) ∙ ap is_some (sym equal_is ∙ absent) in
          rw (unmet, no) refl

pub map-push : {A B : Type 0} (f : A → B) (xs : List A) (x : A) → map f (xs ++ x ∷ []) ≡ map f xs ++ f x ∷ []
map-push f [] x = refl
map-push f (y ∷ ys) x = ap (λ rest. f y ∷ rest) (map-push f ys x)

-- a report whose stacks are put back
pub whole : (r : Report) (m n : Option (List ℕ)) → m ≡ r.mine.stack → n ≡ r.previous.stack → ◌≡◌ {A = Report} (record { mine = record { tid = r.mine.tid; read = r.mine.read; atomic = r.mine.atomic; addr = r.mine.addr; size = r.mine.size; stack = m; locks = r.mine.locks }; previous = record { tid = r.previous.tid; read = r.previous.read; atomic = r.previous.atomic; addr = r.previous.addr; size = r.previous.size; stack = n; locks = r.previous.locks } }) r
whole r m n e f = λ i. record { mine = record r.mine { stack = e i }; previous = record r.previous { stack = f i } }

pub length-push : {A : Type 0} (xs : List A) (x : A) → length (xs ++ x ∷ []) ≡ length xs + 1
length-push xs x = length-append xs (x ∷ [])
