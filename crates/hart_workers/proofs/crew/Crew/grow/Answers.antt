use Rattle.std.proofs.Common.{rules, ◌≡◌, ◌+◌, length, arith, ap, ◌∙◌, length-append}
use Rattle.hart_workers.proofs.Resting.{one_new}
use Rattle.hart_workers.proofs.crew.Crew.grow.Goals as goal

pub loop-alloc-preserved : goal.loop-alloc-preserved
loop-alloc-preserved c =
    let more = c.in_ok-add.ensures in
    let count : length c.add.new.self.states.items ≡ length c.loop-alloc.self.states.items + 1 =
    ap length more ∙ length-append c.loop-alloc.self.states.items _ in
    record {
      idle = λ s was. one_new c.args.limits.now s c.loop-alloc.self.states.items c.add.new.self.states.items c.len-tid.result (search rules) more
          (c.loop-alloc.invariant.idle s was);
      count = let was = c.loop-alloc.invariant.count in let low = c.loop-alloc-test.true in let is = c.len.ensures in omega (arith, count, was);
    }
