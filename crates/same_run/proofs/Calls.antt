-- Two calls with the same words over the same files write the same.
use Rattle.std.proofs.Common.{◌≡◌, ℕ, ◌≤◌, List, ◌++◌, Option, Some, None, Result, Ok, Err, refl, sym, ap, ap₂, subst, ◌∙◌}
use Rattle.std.specs.Prelude.{map, string_bytes, nat_lt, if◌then◌else◌}
use Rattle.std.specs.declared.string.String.{String}
use Rattle.std.specs.declared.alloc.Global.{Global}
use Rattle.std.specs.Option.{option_map}
use Rattle.run_record.specs.declared.finished.Finished.{Finished}
use Rattle.run_laws.specs.Faithful.{Mode, OneByOne}
use Rattle.command_words.specs.declared.request.UsageFault.{UsageFault}
use Rattle.command_words.specs.Requests.{RequestText, TaskText, run, step, search, generate, request_of}
use Rattle.suppress_rules.specs.declared.rule.Rule.{Rule}
use Rattle.suppress_rules.specs.RuleFile.{rules_of}
use Rattle.report_text.specs.Status.{end_status}
use Rattle.run_laws.specs.Moments.{moments}
use Rattle.elf_image.specs.File.{granule_of}
use Rattle.symbol_lines.specs.Frames.{tables_of, frame_in}
use Rattle.command_words.specs.declared.request.Search.{Search}
use Rattle.command_words.specs.declared.request.Search.TheVariants.{Locks, Pairs}
use Rattle.lock_order.proofs.SameText.{same_text}
use Rattle.offline_audit.proofs.SamePairs.{same_text as same_pair_text}
use Rattle.whole_runs.specs.Run.{IsRun}
use Rattle.tsanrun_cli.specs.Ends.{served, one_by_one, mode_of, IsExecutable, AreRules, rules_file, suppressed_by, IsDone}
use Rattle.tsanrun_cli.specs.Texts.{Tells, IsFound, out_text, err_text}
use Rattle.tsanrun_cli.specs.Work.{call_of}
use Rattle.same_run.proofs.Runs.{same_run}
use Rattle.same_run.proofs.Words.{some_harts}

-- what is served was asked for
was_asked : (asked : Result RequestText UsageFault) (request : RequestText) → served asked ≡ Ok request → asked ≡ Ok request
was_asked (Err fault) request q = absurd cc
was_asked (Ok r) request q = by_task r.task refl
  where
    by_task : (task : TaskText) → r.task ≡ task → ◌≡◌ {A = Result RequestText UsageFault} (Ok r) (Ok request)
    by_task (run file) t = absurd (let z = sym (ap (one_by_one r) t) ∙ q in cc)
    by_task (step file) t = sym (ap (one_by_one r) t) ∙ q
    by_task (search what file) t = sym (ap (one_by_one r) t) ∙ q
    by_task (generate seed size) t = sym (ap (one_by_one r) t) ∙ q

-- and its threads are stepped one at a time
stepped : (asked : Result RequestText UsageFault) (request : RequestText) → served asked ≡ Ok request → mode_of request.task ≡ OneByOne
stepped asked request q = by_task request.task refl
  where
    by_task : (task : TaskText) → request.task ≡ task → mode_of request.task ≡ OneByOne
    by_task (run file) t =
        absurd (let z = sym (ap (one_by_one request) t) ∙ (sym (ap served (was_asked asked request q)) ∙ q) in cc)
    by_task (step file) t = ap mode_of t
    by_task (search what file) t = ap mode_of t
    by_task (generate seed size) t = ap mode_of t

same_executable : (files : List (List ℕ × List ℕ)) (task : TaskText) (bytes other : List ℕ) → IsExecutable (Some files) task bytes → IsExecutable (Some files) task other → bytes ≡ other
same_executable files (run file) bytes other a b = let z = sym a.has ∙ b.has in cc
same_executable files (step file) bytes other a b = let z = sym a.has ∙ b.has in cc
same_executable files (search what file) bytes other a b = let z = sym a.has ∙ b.has in cc
same_executable files (generate seed size) bytes other a b = a ∙ sym b

same_rules : (files : List (List ℕ × List ℕ)) (name : Option (List ℕ)) (rules other : List Rule) → AreRules (Some files) name rules → AreRules (Some files) name other → rules ≡ other
same_rules files None rules other a b = a ∙ sym b
same_rules files (Some name) rules other a b =
    let text : ◌≡◌ {A = Option (List ℕ)} (Some a.0) (Some b.0) = sym a.1.has ∙ b.1.has in
    let same : a.0 ≡ b.0 = cc in
    let z = sym a.2 ∙ (ap rules_of same ∙ b.2) in
    cc

-- one text tells what was found in a run, and so much it is
one_found : (what : Search) (bytes : List ℕ) (f : Finished) (m n : ℕ) (text other : List ℕ) → IsFound what bytes f m text → IsFound what bytes f n other
    → (m ≡ n) × (text ≡ other)
one_found Locks bytes f m n text other a b = same_text (moments f.history.entries) m n text other a b
one_found Pairs bytes f m n text other a b =
    same_pair_text (granule_of bytes) (frame_in (tables_of bytes)) f.history.entries m n text other a b

-- one text and one status tell of a run
one_telling : (task : TaskText) (bytes : List ℕ) (f : Finished) (text other : List ℕ) (status code : ℕ) → Tells task bytes f text status → Tells task bytes f other code
    → (text ≡ other) × (status ≡ code)
one_telling (run file) bytes f text other status code a b = (a.text_is ∙ sym b.text_is, a.status_is ∙ sym b.status_is)
one_telling (step file) bytes f text other status code a b = (a.text_is ∙ sym b.text_is, a.status_is ∙ sym b.status_is)
one_telling (search what file) bytes f text other status code a b =
    let same = one_found what bytes f a.count b.count text other a.found b.found in
    (same.1, a.status_is ∙ (ap (λ (n : ℕ). if nat_lt 0 n then 66 else end_status f.last.end) same.0 ∙ sym b.status_is))
one_telling (generate seed size) bytes f text other status code a b = (a.text_is ∙ sym b.text_is, a.status_is ∙ sym b.status_is)

abbrev appended : Option (List ℕ) → List ℕ → Option (List ℕ)
appended old bytes = option_map (λ (o : List ℕ). o ++ bytes) old

module _ (words : List (String Global)) (before after reads more : ℕ) (failed missed : List ℕ) (out_old out_new out_other err_old err_new err_other : Option (List ℕ)) (status code : ℕ) (f other : Finished) where
  same_request : (told known : Option (List (List ℕ × List ℕ))) (a : IsDone (call_of words told before after failed) out_old out_new err_old err_new status f) (b : IsDone (call_of words known reads more missed) out_old out_other err_old err_other code other) → a.request ≡ b.request
  same_request told known a b = let z = sym a.run.serves.asked ∙ b.run.serves.asked in cc

  pub same_call :
      (told known : Option (List (List ℕ × List ℕ))) (a : IsDone (call_of words told before after failed) out_old out_new err_old err_new status f) (b : IsDone (call_of words known reads more missed) out_old out_other err_old err_other code other) →
      a.bytes ≡ b.bytes → a.run.rules ≡ b.run.rules → (f ≡ other) × (out_new ≡ out_other) × (err_new ≡ err_other) × (status ≡ code)
  same_call told known a b bytes rules = (
    finished,
    a.output ∙ (ap (appended out_old) outputs ∙ sym b.output),
    a.text ∙ (ap (appended err_old) texts ∙ sym b.text),
    tellings.1,
  )
    where
      request : a.request ≡ b.request
      request = same_request told known a b

      some : 1 ≤ a.request.limits.harts
      some = some_harts (map string_bytes words) a.request (was_asked (request_of (map string_bytes words)) a.request a.run.serves.asked)

      one_at_a_time : mode_of a.request.task ≡ OneByOne
      one_at_a_time = stepped (request_of (map string_bytes words)) a.request a.run.serves.asked

      others_run : IsRun (mode_of a.request.task) a.bytes a.request.limits a.request.plan (suppressed_by a.run.rules a.bytes) other
      others_run =
          subst (λ (r : RequestText). IsRun (mode_of r.task) a.bytes r.limits r.plan (suppressed_by a.run.rules a.bytes) other) (sym request)
          (subst (λ (bs : List ℕ). IsRun (mode_of b.request.task) bs b.request.limits b.request.plan (suppressed_by a.run.rules bs) other) (sym bytes)
          (subst (λ (rs : List Rule). IsRun (mode_of b.request.task) b.bytes b.request.limits b.request.plan (suppressed_by rs b.bytes) other)
          (sym rules) b.run.is_run))

      finished : f ≡ other
      finished =
          same_run a.bytes a.request.limits a.request.plan (suppressed_by a.run.rules a.bytes) f other some
          (subst (λ (m : Mode). IsRun m a.bytes a.request.limits a.request.plan (suppressed_by a.run.rules a.bytes) f) one_at_a_time a.run.is_run)
          (subst (λ (m : Mode). IsRun m a.bytes a.request.limits a.request.plan (suppressed_by a.run.rules a.bytes) other) one_at_a_time others_run)

      others_tell : Tells a.request.task a.bytes f b.told code
      others_tell =
          subst (λ (r : RequestText). Tells r.task a.bytes f b.told code) (sym request)
          (subst (λ (bs : List ℕ). Tells b.request.task bs f b.told code) (sym bytes)
          (subst (λ (g : Finished). Tells b.request.task b.bytes g b.told code) (sym finished) b.tells))

      tellings : (a.told ≡ b.told) × (status ≡ code)
      tellings = one_telling a.request.task a.bytes f a.told b.told status code a.tells others_tell

      outputs : out_text a.request.task a.told f ≡ out_text b.request.task b.told other
      outputs =
          ap (λ (r : RequestText). out_text r.task a.told f) request
          ∙ ap₂ (λ (t : List ℕ) (g : Finished). out_text b.request.task t g) tellings.0 finished

      texts : err_text a.request.task a.told ≡ err_text b.request.task b.told
      texts = ap (λ (r : RequestText). err_text r.task a.told) request ∙ ap (err_text b.request.task) tellings.0

  pub same_over_files : (files : List (List ℕ × List ℕ)) → IsDone (call_of words (Some files) before after failed) out_old out_new err_old err_new status f → IsDone (call_of words (Some files) reads more missed) out_old out_other err_old err_other code other →
      (f ≡ other) × (out_new ≡ out_other) × (err_new ≡ err_other) × (status ≡ code)
  same_over_files files a b =
      let request = same_request (Some files) (Some files) a b in
      same_call (Some files) (Some files) a b
      (same_executable files a.request.task a.bytes b.bytes a.run.serves.executable (subst (λ (r : RequestText). IsExecutable (Some files) r.task b.bytes) (sym request) b.run.serves.executable))
      (same_rules files (rules_file a.request.task a.request.suppressions) a.run.rules b.run.rules a.run.serves.rules_are (subst (λ (r : RequestText). AreRules (Some files) (rules_file r.task r.suppressions) b.run.rules) (sym request) b.run.serves.rules_are))
