use Rattle.std.proofs.Common.{rules, ◌≡◌, ℕ, ◌+◌, List, length, get_or, sym, ap, ◌∙◌}
use Rattle.shared_table.proofs.Rows.{each_more, at_get}
use Rattle.shared_table.proofs.closing.copy_words.Goals as goal

pub loop-i-preserved : goal.loop-i-preserved
loop-i-preserved c =
    let inv = c.loop-i.invariant in
    let pushed = c.push_reserved.ensures in
    let P : ℕ → ℕ → Type 0 = λ k x. x ≡ get_or c.args.table.now.words.items (520 + k) 0 in
    let len : length c.loop-i.room.items ≡ c.loop-i.i = search rules in
    let word = sym (at_get c.args.table.now.words.items (520 + c.loop-i.i) c.word.result 0 c.word.ensures) in
    let all = each_more P c.loop-i.room.items c.word.result 0 c.loop-i.i len inv.values word in record {
      len = search rules;
      room = search rules;
      values = λ k l. ap (λ (z : List ℕ). get_or z k 0) pushed.items ∙ all k l;
    }
