-- What is put of a partial run is the first of what the whole run puts.
use Rattle.std.proofs.Common.{◌≡◌, ℕ, suc, ◌+◌, ◌-◌, ◌^◌, ◌≤◌, min, Option, Some, None, Result, Ok, Err, List, [], ◌∷◌, ◌++◌, append_assoc, take, refl, sym, ap, subst, ◌∙◌, arith, inl, inr}
use Rattle.std.proofs.Math.Nat.{min-le_left, min-le_right, le-min}
use Rattle.std.specs.Option.{option_map}
use Rattle.std.proofs.lemmas.List.{append-nil}
use Rattle.std.proofs.lemmas.Grind.{flat_map-append}
use Rattle.run_record.specs.declared.report.Report.{Report}
use Rattle.run_record.specs.declared.finished.Finished.{Finished}
use Rattle.run_laws.specs.Faithful.{Mode, OneByOne}
use Rattle.report_text.specs.Texts.{report_text, summary_of}
use Rattle.tool_ports.specs.Ports.{Rose, Appends, AppendsPart}
use Rattle.whole_runs.specs.Run.{IsRun}
use Rattle.partial_runs.specs.declared.partial.Partial.{Partial}
use Rattle.partial_runs.specs.declared.partial.RunFault.{RunFault}
use Rattle.partial_runs.specs.declared.partial.RunFault.TheVariants.{Write, NoMemory}
use Rattle.partial_runs.specs.Starts.{BeginsWith, GoesOnByRound}
use Rattle.partial_runs.specs.Partials.{IsPartial, IsBeginning, all_rounds}
use Rattle.partial_runs.specs.Puts.{Job, IsRunOf, IsPartialOf, Sinks, texts_of, run_text, IsTextOf, IsPut, IsPutSoFar, IsPartPut, IsCutShort, IsStopped, LeavesRun}
use Rattle.partial_runs.proofs.Lists.{begins_twice, begins_push, first_of_longer}
use Rattle.partial_runs.proofs.PartialLaw.{whole_is_partial, same_run, begins, round_reports}

-- ---- pieces, one after another

pub appends_nothing : (old : Option (List ℕ)) → Appends old old []
appends_nothing None = refl
appends_nothing (Some o) = ap Some (sym (append-nil o))

appended : (old : Option (List ℕ)) (x y : List ℕ) →
    option_map (λ (o : List ℕ). o ++ y) (option_map (λ (o : List ℕ). o ++ x) old) ≡ option_map (λ (o : List ℕ). o ++ (x ++ y)) old
appended None x y = refl
appended (Some o) x y = ap Some (append_assoc o x y)

pub appends_twice : (old mid new : Option (List ℕ)) (x y : List ℕ) → Appends old mid x → Appends mid new y → Appends old new (x ++ y)
appends_twice old mid new x y a b = b ∙ (ap (option_map (λ (o : List ℕ). o ++ y)) a ∙ appended old x y)

-- all of the first bytes is the first bytes of all
whole_first : (xs ys : List ℕ) (n : ℕ) → (m : ℕ) × (take m (xs ++ ys) ≡ xs ++ take n ys)
whole_first [] ys n = (n, refl)
whole_first (x ∷ xs) ys n = let r = whole_first xs ys n in (suc r.0, ap (λ us. x ∷ us) r.1)

pub appends_then_part : (old mid new : Option (List ℕ)) (x y : List ℕ) → Appends old mid x → AppendsPart mid new y → AppendsPart old new (x ++ y)
appends_then_part old mid new x y a b =
    let r = whole_first x y b.0 in
    (r.0, subst (Appends old new) (sym r.1) (appends_twice old mid new x (take b.0 y) a b.1))

-- where the bytes go on, their first part stays one
pub part_of_longer : (old new : Option (List ℕ)) (bytes longer : List ℕ) → BeginsWith longer bytes → AppendsPart old new bytes → AppendsPart old new longer
part_of_longer old new bytes longer on part =
    let r = first_of_longer part.0 bytes on.rest in
    (r.0, subst (Appends old new) (sym (ap (take r.0) on.whole_is ∙ r.1)) part.1)

-- all of the bytes is a first part of them
pub part_of_all : (old new : Option (List ℕ)) (bytes : List ℕ) → Appends old new bytes → AppendsPart old new bytes
part_of_all old new bytes all =
    subst (AppendsPart old new) (append-nil bytes) (appends_then_part old new new bytes [] all (0, appends_nothing new))

-- ---- a partial run's texts

texts_begin : (job : Job) (whole start : List Report) → BeginsWith whole start → BeginsWith (texts_of job whole) (texts_of job start)
texts_begin job whole start on = record {
  rest = texts_of job on.rest;
  whole_is = ap (texts_of job) on.whole_is ∙ flat_map-append (report_text job.frame_of) start on.rest;
}

module _ (job : Job) (p : Partial) (f : Finished) (one : job.mode ≡ OneByOne) (some : 1 ≤ job.limits.harts) (run : IsRunOf job f)
    (partial : IsPartialOf job p) where
  abbrev by_one : Finished → Type 0
  by_one g = IsRun OneByOne job.file job.limits job.plan job.meets g

  stepped : (g : Finished) → IsRunOf job g → by_one g
  stepped g run = subst (λ (mode : Mode). IsRun mode job.file job.limits job.plan job.meets g) one run

  beginning : IsBeginning p f
  beginning =
      begins job.file job.limits job.plan job.meets p f (stepped f run)
      (subst (λ (mode : Mode). IsPartial mode job.file job.limits job.plan job.meets p) one partial) some

  text_begins : (text : List ℕ) → IsTextOf job p text → BeginsWith (run_text job f) text
  text_begins text (inl is) =
      subst (BeginsWith (run_text job f)) (sym is)
      (begins_twice (begins_push (texts_of job f.reports) (summary_of f)) (texts_begin job f.reports p.reports beginning.reports))
  text_begins text (inr all) =
      let same = same_run job.file job.limits job.plan job.meets all.0 f some (stepped all.0 all.1) (stepped f run) in
      record { rest = []; whole_is = ap (run_text job) (sym same) ∙ (sym all.3 ∙ sym (append-nil text)) }

  pub part_put : (before now : Sinks) → IsPartPut job p before now → AppendsPart before.out now.out f.output × AppendsPart before.err now.err (run_text job f)
  part_put before now put = (
    part_of_longer before.out now.out p.output f.output beginning.output put.out,
    part_of_longer before.err now.err put.text (run_text job f) (text_begins put.text put.text_of) put.err,
  )

-- ---- rounds that are put

-- the pieces are put one after another
module _ (job : Job) (p : Partial) (before mid : Sinks) where
  pub put_output : IsPutSoFar job p before mid → (out : Option (List ℕ)) (count : ℕ) (output : List ℕ) → Appends mid.out out output → mid.out_faults ≤ count
      → IsPutSoFar job (record p { output = p.output ++ output }) before (record mid { out = out; out_faults = count })
  put_output so out count output all later = record {
    out = appends_twice before.out mid.out out p.output output so.out all;
    err = so.err;
    out_count = let l = so.out_count in omega arith;
    err_count = so.err_count;
  }

  told_more : (told : List Report) (report : Report) → texts_of job (told ++ report ∷ []) ≡ texts_of job told ++ report_text job.frame_of report
  told_more told report =
      flat_map-append (report_text job.frame_of) told (report ∷ []) ∙ ap (λ (text : List ℕ). texts_of job told ++ text)
      (append-nil (report_text job.frame_of report))

  pub put_report : IsPutSoFar job p before mid → (err : Option (List ℕ)) (count : ℕ) (report : Report) →
      Appends mid.err err (report_text job.frame_of report) → mid.err_faults ≤ count
      → IsPutSoFar job (record p { reports = p.reports ++ report ∷ [] }) before (record mid { err = err; err_faults = count })
  put_report so err count report all later = record {
    out = so.out;
    err = subst (Appends before.err err) (sym (told_more p.reports report))
        (appends_twice before.err mid.err err (texts_of job p.reports) (report_text job.frame_of report) so.err all);
    out_count = so.out_count;
    err_count = let l = so.err_count in omega arith;
  }

pub put_nothing : (job : Job) (p : Partial) (before : Sinks) → p.reports ≡ [] → p.output ≡ [] → IsPutSoFar job p before before
put_nothing job p before none silent = record {
  out = subst (Appends before.out before.out) (sym silent) (appends_nothing before.out);
  err = subst (λ (reports : List Report). Appends before.err before.err (texts_of job reports)) (sym none) (appends_nothing before.err);
  out_count = omega arith;
  err_count = omega arith;
}

pub put_summary : (job : Job) (f : Finished) (before mid : Sinks) → IsPutSoFar job (all_rounds f) before mid → (err : Option (List ℕ)) (count : ℕ) →
    Appends mid.err err (summary_of f)
    → IsPut job f before (record mid { err = err; err_faults = count })
put_summary job f before mid so err count all =
    record { out = so.out; err = appends_twice before.err mid.err err (texts_of job f.reports) (summary_of f) so.err all }

-- ---- puts that fail

rose_by : (most before mid now : ℕ) → before ≤ mid → min (mid + 1) most ≤ now → min (before + 1) most ≤ now
rose_by most before mid now l r =
    let a = min-le_left (before + 1) most in
    let b : min (before + 1) most ≤ min (mid + 1) most = le-min (omega arith) (min-le_right (before + 1) most) in
    omega arith

rose_from : (before mid now : ℕ) → before ≤ mid → Rose mid now → Rose before now
rose_from before mid now l r = rose_by (2 ^ 64 - 1) before mid now l r

module _ (job : Job) where
  pub cut_in_output : (earlier p : Partial) (before mid : Sinks) (out : Option (List ℕ)) (count : ℕ) (output : List ℕ) → IsPartialOf job earlier →
      IsPartialOf job p →
      GoesOnByRound earlier.history.entries p.history.entries → p.output ≡ earlier.output ++ output →
      IsPutSoFar job earlier before mid → AppendsPart mid.out out output → Rose mid.out_faults count →
      IsCutShort job p before (record mid { out = out; out_faults = count })
  cut_in_output earlier p before mid out count output a b round is so part rose = record {
    partial = b;
    put = inl (record {
      earlier = earlier;
      earlier_is = a;
      last_round = round;
      output = output;
      output_is = is;
      taken = part.0;
      out = appends_twice before.out mid.out out earlier.output (take part.0 output) so.out part.1;
      err = so.err;
      rose = rose_from before.out_faults mid.out_faults count so.out_count rose;
    });
  }

  pub cut_in_report : (p : Partial) (before mid : Sinks) (err : Option (List ℕ)) (count : ℕ) (told : List Report) (report : Report) → IsPartialOf job p →
      BeginsWith p.reports (told ++ report ∷ []) →
      IsPutSoFar job (record p { reports = told }) before mid → AppendsPart mid.err err (report_text job.frame_of report) → Rose mid.err_faults count →
      IsCutShort job p before (record mid { err = err; err_faults = count })
  cut_in_report p before mid err count told report a first so part rose = record {
    partial = a;
    put = inr (record {
      out = so.out;
      text = texts_of job p.reports;
      text_of = inl refl;
      err = part_of_longer before.err err (texts_of job (told ++ report ∷ [])) (texts_of job p.reports) (texts_begin job p.reports (told ++ report ∷ []) first)
          (subst (AppendsPart before.err err) (sym (told_more job p before mid told report))
          (appends_then_part before.err mid.err err (texts_of job told) (report_text job.frame_of report) so.err part));
      rose = rose_from before.err_faults mid.err_faults count so.err_count rose;
    });
  }

  pub cut_in_summary : (f : Finished) (before mid : Sinks) (err : Option (List ℕ)) (count : ℕ) → IsRunOf job f → IsPutSoFar job (all_rounds f) before mid →
      AppendsPart mid.err err (summary_of f) → Rose mid.err_faults count →
      IsCutShort job (all_rounds f) before (record mid { err = err; err_faults = count })
  cut_in_summary f before mid err count run so part rose = record {
    partial = whole_is_partial job.file job.limits job.plan job.meets job.mode f run;
    put = inr (record {
      out = so.out;
      text = run_text job f;
      text_of = inr (f, run, refl, refl);
      err = appends_then_part before.err mid.err err (texts_of job f.reports) (summary_of f) so.err part;
      rose = rose_from before.err_faults mid.err_faults count so.err_count rose;
    });
  }

  pub stops : (p : Partial) (before now : Sinks) (told : List Report) → IsPartialOf job p → BeginsWith p.reports told →
      IsPutSoFar job (record p { reports = told }) before now → IsStopped job p before now
  stops p before now told partial first so = record { partial = partial; out = so.out; told = told; told_first = first; err = so.err }

  -- what was put is a first part of the partial run, on each sink
  pub cut_part : (p : Partial) (before now : Sinks) → IsCutShort job p before now → IsPartPut job p before now
  cut_part p before now cut = elim cut.put [
    | inl o ↦ record {
      out = subst (AppendsPart before.out now.out) (sym o.output_is)
          (appends_then_part before.out _ now.out o.earlier.output o.output refl
          (o.taken, o.out ∙ sym (appended before.out o.earlier.output (take o.taken o.output))));
      text = texts_of job p.reports;
      text_of = inl refl;
      err = part_of_longer before.err now.err (texts_of job o.earlier.reports) (texts_of job p.reports)
          (texts_begin job p.reports o.earlier.reports
          (round_reports job.file job.limits job.plan job.meets job.mode o.earlier p o.earlier_is cut.partial o.last_round))
          (part_of_all before.err now.err (texts_of job o.earlier.reports) o.err);
    }
    | inr t ↦ record { out = part_of_all before.out now.out p.output t.out; text = t.text; text_of = t.text_of; err = t.err }
  ]

  pub stopped_part : (p : Partial) (before now : Sinks) → IsStopped job p before now → IsPartPut job p before now
  stopped_part p before now stopped = record {
    out = part_of_all before.out now.out p.output stopped.out;
    text = texts_of job p.reports;
    text_of = inl refl;
    err = part_of_longer before.err now.err (texts_of job stopped.told) (texts_of job p.reports) (texts_begin job p.reports stopped.told stopped.told_first)
        (part_of_all before.err now.err (texts_of job stopped.told) stopped.err);
  }

-- whatever the answer, what was put is a first part of what each run of the same puts
pub answer_put : (job : Job) (f : Finished) (before now : Sinks) (answer : Result Finished RunFault) → job.mode ≡ OneByOne → 1 ≤ job.limits.harts →
    IsRunOf job f → LeavesRun job before now answer →
    AppendsPart before.out now.out f.output × AppendsPart before.err now.err (run_text job f)
answer_put job f before now (Ok other) one some run done =
    let same = same_run job.file job.limits job.plan job.meets other f some
    (subst (λ (mode : Mode). IsRun mode job.file job.limits job.plan job.meets other) one done.0)
    (subst (λ (mode : Mode). IsRun mode job.file job.limits job.plan job.meets f) one run) in (
      part_of_all before.out now.out f.output (subst (λ (g : Finished). Appends before.out now.out g.output) same done.1.out),
      part_of_all before.err now.err (run_text job f) (subst (λ (g : Finished). Appends before.err now.err (run_text job g)) same done.1.err),
    )
answer_put job f before now (Err (Write p)) one some run cut = part_put job p f one some run cut.partial before now (cut_part job p before now cut)
answer_put job f before now (Err (NoMemory p)) one some run stopped = part_put job p f one some run stopped.partial before now
    (stopped_part job p before now stopped)
