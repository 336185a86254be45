use Rattle.std.proofs.Common.{◌≡◌, ℕ, ◌++◌, List, length, subst, sym, ap, ◌∙◌}
use Rattle.run_record.specs.declared.flat.Mark.{Mark}
use Rattle.run_record.specs.Marks.{word_marks, AreUsed}
use Rattle.run_record.specs.Flat.{checks_of}
use Rattle.run_record.proofs.FlatLaws.{word_marks-of, put_check-used, put_check-checks}
use Rattle.run_record.proofs.flat.put_check.Goals as goal
use Rattle.run_record.proofs.flat.put_check.Goals.{After-put}

-- the word is marked by the check's number
marked : (c : After-put) → c.put_word.new.words.items ≡ c.args.words.now.items ++ word_marks
    (length c.args.checks.now.items) c.args.check.now.word c.args.check.now.stored
marked c =
    c.put_word.ensures.items
    ∙ ap (λ (n : ℕ). c.args.words.now.items ++ word_marks n c.args.check.now.word c.args.check.now.stored) (c.len.ensures ∙ c.args.checks.now.ok.0)

pub returns-clause-used : goal.returns-clause-used
returns-clause-used c =
    let n = length c.args.checks.now.items in
    let check = c.args.check.now in
    subst (λ (words : List (Mark ℕ)). AreUsed 0 (length c.put.new.items.items) words) (sym (marked c))
    (put_check-used c.args.checks.now.items c.put.new.items.items c.kept_check.result c.args.words.now.items
    (word_marks n check.word check.stored) c.put.ensures.items c.requires.used (word_marks-of n check.word check.stored))

pub returns-clause-checks : goal.returns-clause-checks
returns-clause-checks c =
    let n = length c.args.checks.now.items in
    let check = c.args.check.now in
    ap (checks_of 0 c.put.new.items.items) (marked c)
    ∙ put_check-checks c.args.checks.now.items c.put.new.items.items c.kept_check.result check c.args.words.now.items
    (word_marks n check.word check.stored) c.put.ensures.items c.requires.used
    (λ i. word_marks n check.word check.stored) c.kept_check.ensures.word c.kept_check.ensures.check
