-- The runs of a file's executable and of a made program.
use Rattle.std.proofs.Common.{◌≡◌, ◌⊎◌, ℕ, [], List, Option, Some, Result, Ok, Err, inl, inr, refl, sym, ap, subst, ◌∙◌}
use Rattle.elf_image.specs.File.{image_of}
use Rattle.command_words.specs.Requests.{RequestText, TaskText, run, step, search, generate}
use Rattle.command_words.specs.declared.request.Search.{Search}
use Rattle.gen_program.specs.Program.{program}
use Rattle.suppress_rules.specs.declared.rule.Rule.{Rule}
use Rattle.symbol_lines.specs.Frames.{Tables, tables_of, frame_in}
use Rattle.report_text.specs.Texts.{report_text, summary_of}
use Rattle.run_record.specs.declared.finished.Finished.{Finished}
use Rattle.run_record.specs.declared.plan.Turn.{Turn}
use Rattle.run_laws.specs.Faithful.{OneByOne, AtOnce}
use Rattle.tool_ports.specs.Ports.{Rose}
use Rattle.tsanrun_cli.specs.declared.ended.End.{End}
use Rattle.tsanrun_cli.specs.declared.ended.End.TheVariants.{Done, Usage, Elf, Rules, FileTooLong, ReadFault, WriteFault, NoMemory}
use Rattle.tsanrun_cli.specs.declared.work.Told.{Told}
use Rattle.std.specs.Prelude.{true, false, ◌++◌, IfOk, nat_lt, if◌then◌else◌}
use Rattle.std.specs.List.{flat_map}
use Rattle.report_text.specs.Status.{end_status}
use Rattle.whole_runs.specs.Run.{IsRun}
use Rattle.tsanrun_cli.specs.Texts.{Tells, TellsReports, IsFound, text_of, is_alone}
use Rattle.tsanrun_cli.specs.Ends.{suppressed_by, HasShortFile, ExecutesAccepted, Refuses, named_executable, mode_of, IsExecutable, AreRules, rules_file}
use Rattle.tsanrun_cli.specs.Work.{HasRun, IsTold, AreReportsTold, AreRulesRead, asking, bytes_of}

-- a call whose words ask for a made program runs it without rules
pub made_run : (request : RequestText) (told : Option (List (List ℕ × List ℕ))) (before after : ℕ) (failed : List ℕ) (seed size : ℕ) (t : Told)
    → request.task ≡ generate seed size → IsTold request (program seed size) [] t × (image_of (program seed size) ≡ Ok (program seed size))
    → HasRun (asking request told before after failed) t
made_run request files before after failed seed size t task told = record {
  request = request;
  bytes = program seed size;
  run = record {
    rules = [];
    serves = record {
      asked = refl;
      executable = subst (λ (k : TaskText). IsExecutable files k (program seed size)) (sym task) refl;
      accepted = told.1;
      rules_are = subst (λ (k : TaskText). AreRules files (rules_file k request.suppressions) []) (sym task) refl;
    };
    is_run = told.0.run;
  };
  tells = told.0.tells;
  alone_is = told.0.alone_is;
}

-- the run and the text of what was found in it are what a search tells
pub found_told : (request : RequestText) (bytes : List ℕ) (rules : List Rule) (t : Told) (what : Search) (file : List ℕ) (count : ℕ)
    → request.task ≡ search what file → IsRun OneByOne bytes request.limits request.plan (suppressed_by rules bytes) t.finished
    → IsFound what bytes t.finished count (flat_map bytes_of t.texts.items)
    → t.status ≡ (if nat_lt 0 count then 66 else end_status t.finished.last.end) → t.alone ≡ true → IsTold request bytes rules t
found_told request bytes rules t what file count e is_run text status alone = record {
  run = subst (λ (k : TaskText). IsRun (mode_of k) bytes request.limits request.plan (suppressed_by rules bytes) t.finished) (sym e) is_run;
  tells = subst (λ (k : TaskText). Tells k bytes t.finished (flat_map bytes_of t.texts.items) t.status) (sym e)
      (record { count = count; found = text; status_is = status });
  alone_is = alone ∙ ap is_alone (sym e);
}

-- a run that tells its reports
module _ (request : RequestText) (bytes : List ℕ) (rules : List Rule) (tables : Tables) (file : List ℕ) (is : tables ≡ tables_of bytes) where
  texts_told : (task : TaskText) (f : Finished) (t : Told) → request.task ≡ task → is_alone task ≡ false
      → text_of task bytes f ≡ flat_map (report_text (frame_in (tables_of bytes))) f.reports ++ summary_of f
      → ((text : List ℕ) (status : ℕ) → TellsReports task bytes f text status → Tells task bytes f text status)
      → IsRun (mode_of task) bytes request.limits request.plan (suppressed_by rules bytes) f → AreReportsTold tables f t → IsTold request bytes rules t
  texts_told task f t e alone whole tells is_run told = record {
    run = subst (λ (k : TaskText). IsRun (mode_of k) bytes request.limits request.plan (suppressed_by rules bytes) t.finished) (sym e)
        (subst (λ (x : Finished). IsRun (mode_of task) bytes request.limits request.plan (suppressed_by rules bytes) x) (sym told.finished_is) is_run);
    tells = subst (λ (k : TaskText). Tells k bytes t.finished (flat_map bytes_of t.texts.items) t.status) (sym e)
        (subst (λ (x : Finished). Tells task bytes x (flat_map bytes_of t.texts.items) t.status) (sym told.finished_is)
        (tells (flat_map bytes_of t.texts.items) t.status (record {
          text_is = told.text_is ∙ (ap (λ (n : Tables). flat_map (report_text (frame_in n)) f.reports ++ summary_of f) is ∙ sym whole);
          status_is = told.status_is;
        })));
    alone_is = told.alone_is ∙ (sym alone ∙ ap is_alone (sym e));
  }

  pub stepped : {E : Type 0} (f : Finished) (r : Result Told E) → request.task ≡ step file
      → IsRun OneByOne bytes request.limits request.plan (suppressed_by rules bytes) f → IfOk r (AreReportsTold tables f) → IfOk r (IsTold request bytes rules)
  stepped f (Ok t) e is_run told = texts_told (step file) f t e refl refl (λ text status h. h) is_run told
  stepped f (Err x) e is_run told = tt

  pub went_at_once : {E : Type 0} (f : Finished) (r : Result Told E) → request.task ≡ run file
      → IsRun AtOnce bytes request.limits request.plan (suppressed_by rules bytes) f → IfOk r (AreReportsTold tables f) → IfOk r (IsTold request bytes rules)
  went_at_once f (Ok t) e is_run told = texts_told (run file) f t e refl refl (λ text status h. h) is_run told
  went_at_once f (Err x) e is_run told = tt

-- what holds of every plan holds of one
pub of_plan : {E : Type 0} (P : List Turn → Finished → Type 0) (plan : List Turn) (r : Result Finished E) → IfOk r (λ f. (every : List Turn) → P every f) → IfOk r (P plan)
of_plan P plan (Ok f) h = h plan
of_plan P plan (Err x) h = tt

-- the task looks for something in a run of that file
abbrev pub SearchesFile : TaskText → List ℕ → Type 0
SearchesFile task file = (what : Search) × (task ≡ search what file)

-- the task runs that file
abbrev pub RunsFile : TaskText → List ℕ → Type 0
RunsFile task file = (task ≡ run file) ⊎ ((task ≡ step file) ⊎ SearchesFile task file)

-- a task that names an executable runs it
pub which : (task : TaskText) (file : List ℕ) → named_executable task ≡ Some file → RunsFile task file
which (run name) file e = inl (let same : name ≡ file = cc in ap run same)
which (step name) file e = inr (inl (let same : name ≡ file = cc in ap step same))
which (search what name) file e = inr (inr (what, (let same : name ≡ file = cc in ap (search what) same)))
which (generate seed size) file e = absurd cc

-- one whose threads go one at a time is `step` or a search, and one whose threads go at once is `run`
pub which_steps : (task : TaskText) (file : List ℕ) → RunsFile task file → mode_of task ≡ OneByOne → (task ≡ step file) ⊎ SearchesFile task file
which_steps task file (inl e) mode = absurd cc
which_steps task file (inr e) mode = e

pub which_rounds : (task : TaskText) (file : List ℕ) → RunsFile task file → mode_of task ≡ AtOnce → task ≡ run file
which_rounds task file (inl e) mode = e
which_rounds task file (inr (inl e)) mode = absurd cc
which_rounds task file (inr (inr e)) mode = absurd (let is = e.1 in cc)

executable_of : (told : Option (List (List ℕ × List ℕ))) (task : TaskText) (file bytes : List ℕ) → RunsFile task file
    → HasShortFile told file bytes → IsExecutable told task bytes
executable_of told task file bytes (inl e) h = subst (λ (k : TaskText). IsExecutable told k bytes) (sym e) h
executable_of told task file bytes (inr (inl e)) h = subst (λ (k : TaskText). IsExecutable told k bytes) (sym e) h
executable_of told task file bytes (inr (inr e)) h = subst (λ (k : TaskText). IsExecutable told k bytes) (sym e.1) h

rules_read : (told : Option (List (List ℕ × List ℕ))) (task : TaskText) (file : List ℕ) (name : Option (List ℕ)) (rules : List Rule)
    → RunsFile task file → AreRules told name rules → AreRules told (rules_file task name) rules
rules_read told task file name rules (inl e) h = subst (λ (k : TaskText). AreRules told (rules_file k name) rules) (sym e) h
rules_read told task file name rules (inr (inl e)) h = subst (λ (k : TaskText). AreRules told (rules_file k name) rules) (sym e) h
rules_read told task file name rules (inr (inr e)) h = subst (λ (k : TaskText). AreRules told (rules_file k name) rules) (sym e.1) h

-- a call whose words ask for a file's run has it, once the file and its rules are read
pub file_run : (request : RequestText) (told : Option (List (List ℕ × List ℕ))) (before after : ℕ) (failed file bytes : List ℕ) (rules : List Rule) (t : Told)
    → RunsFile request.task file → HasShortFile told file bytes → image_of bytes ≡ Ok bytes → AreRules told request.suppressions rules
    → IsTold request bytes rules t → HasRun (asking request told before after failed) t
file_run request told before after failed file bytes rules t kind short accepted are is = record {
  request = request;
  bytes = bytes;
  run = record {
    rules = rules;
    serves = record {
      asked = refl;
      executable = executable_of told request.task file bytes kind short;
      accepted = accepted;
      rules_are = rules_read told request.task file request.suppressions rules kind are;
    };
    is_run = is.run;
  };
  tells = is.tells;
  alone_is = is.alone_is;
}

-- the same, of the bytes that were read and loaded
pub file_read : (request : RequestText) (told : Option (List (List ℕ × List ℕ))) (before after : ℕ) (failed file bytes slice image : List ℕ) (rules : List Rule) (t : Told)
    → RunsFile request.task file → slice ≡ bytes → HasShortFile told file bytes → image ≡ slice → image_of slice ≡ Ok slice → AreRules told request.suppressions rules
    → IsTold request image rules t → HasRun (asking request told before after failed) t
file_read request told before after failed file bytes slice image rules t runs same short is accepted are told_is =
    file_run request told before after failed file image rules t runs
    (subst (λ (bs : List ℕ). HasShortFile told file bs) (sym (is ∙ same)) short)
    (subst (λ (bs : List ℕ). image_of bs ≡ Ok bs) (sym is) accepted) are told_is

-- why a call is refused whose executable is accepted and whose rules aren't read
module _
    (request : RequestText) (told : Option (List (List ℕ × List ℕ))) (before middle after : ℕ) (old failed file bytes : List ℕ)
    (names : named_executable request.task ≡ Some file) (short : HasShortFile told file bytes) (accepted : image_of bytes ≡ Ok bytes) (stays : middle ≡ before) where
  executes : ExecutesAccepted (asking request told before after failed) request file bytes
  executes = record { asks = record { asked = refl; names = names }; executable = short; accepted = accepted }

  pub rules_refused : (end : End) → AreRulesRead told request.suppressions middle after old failed (Err end) → Refuses (asking request told before after failed) end
  rules_refused (Rules fault) r = record { request = request; file = file; bytes = bytes; executes = executes; name = r.0; named = r.1; text = r.2.0; rules = r.2.1; refused = r.2.2 }
  rules_refused FileTooLong r = inr (record { request = request; file = file; bytes = bytes; executes = executes; name = r.0; named = r.1; long = r.2 })
  rules_refused ReadFault r =
      record {
        rose = subst (λ (count : ℕ). Rose count after) stays r.0;
        unread = inr (record { request = request; file = file; bytes = bytes; executes = executes; named = r.1 });
      }
  rules_refused NoMemory r = tt
  rules_refused Done r = absurd r
  rules_refused (Usage fault) r = absurd r
  rules_refused (Elf fault) r = absurd r
  rules_refused WriteFault r = absurd r
