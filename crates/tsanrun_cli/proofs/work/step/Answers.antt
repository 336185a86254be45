use Rattle.std.proofs.Common.{◌≡◌, inl, inr, subst, List, Option, ℕ, Ok, Err}
use Rattle.std.proofs.lemmas.Result.{err_from_is_err_and}
use Rattle.elf_image.specs.File.{image_of}
use Rattle.command_words.specs.Requests.{request_text}
use Rattle.tsanrun_cli.specs.Ends.{AreRules}
use Rattle.tsanrun_cli.specs.Work.{IsTold, AreRulesRead}
use Rattle.tsanrun_cli.proofs.Made.{which, which_steps, file_read, rules_refused}
use Rattle.tsanrun_cli.proofs.work.step.Goals as goal

pub returns-in-Ok-clause-run : goal.returns-in-Ok-clause-run
returns-in-Ok-clause-run g c =
    let request = request_text c.args.request.now in
    let runs = which request.task c.args.file.now c.requires.names in
    let told : IsTold request c.in_ok-image.image c.in_ok-rules.rules c.in-Ok.told = elim (which_steps request.task c.args.file.now runs c.requires.mode) [
      | inl e ↦ c.in-Ok.ensures.reports c.args.file.now e
      | inr e ↦ c.in-Ok.ensures.found e.0 c.args.file.now e.1
    ] in
    file_read request _ _ _ _ c.args.file.now c.in_ok-bytes.bytes.items c.as_slice.result.now c.in_ok-image.image _ _ runs c.as_slice.ensures.value
    c.in_ok-bytes.ensures.read.0 c.in_ok-image.ensures.image c.in_ok-image.ensures.accepted
    (subst (λ (contents : Option (List (List ℕ × List ℕ))). AreRules contents request.suppressions c.in_ok-rules.rules) c.in_ok-bytes.ensures.same c.in_ok-rules.ensures.read.0) told

pub returns-in_err-rules-clause-run : goal.returns-in_err-rules-clause-run
returns-in_err-rules-clause-run g c =
    let request = request_text c.args.request.now in
    let bytes = c.in_ok-bytes.bytes.items in
    let p = err_from_is_err_and c.from_residual-in_err-rules.result c.from_residual-in_err-rules.ensures.1 in
    let accepted : image_of bytes ≡ Ok bytes = subst (λ (bs : List ℕ). image_of bs ≡ Ok bs) c.as_slice.ensures.value c.in_ok-image.ensures.accepted in
    let read : AreRulesRead (g.F.Files.contents c.args.files.now) request.suppressions (g.F.Files.faults c.read.new.files) (g.F.Files.faults c.read_rules.new.files) (g.F.Files.failed c.read.new.files) (g.F.Files.failed c.read_rules.new.files) (Err c.in_err-rules.field-0.0) =
    subst (λ (contents : Option (List (List ℕ × List ℕ))). AreRulesRead contents request.suppressions (g.F.Files.faults c.read.new.files) (g.F.Files.faults c.read_rules.new.files) (g.F.Files.failed c.read.new.files) (g.F.Files.failed c.read_rules.new.files) (Err c.in_err-rules.field-0.0))
    c.in_ok-bytes.ensures.same c.in_err-rules.ensures.read in
    rw (p.1, p.2) (rules_refused request (g.F.Files.contents c.args.files.now) (g.F.Files.faults c.args.files.now) (g.F.Files.faults c.read.new.files) (g.F.Files.faults c.read_rules.new.files)
    (g.F.Files.failed c.read.new.files) (g.F.Files.failed c.read_rules.new.files) c.args.file.now bytes c.requires.names c.in_ok-bytes.ensures.read.0 accepted c.in_ok-bytes.ensures.read.1.0 c.in_err-rules.field-0.0 read)
