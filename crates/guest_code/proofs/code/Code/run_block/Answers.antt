use Rattle.std.proofs.Common.{◌≡◌, ◌∙◌, ◌+◌, ◌≤◌, ap, sym, refl, arith}
use Rattle.guest_code.proofs.LocalLemmas.{one_more}
use Rattle.guest_code.proofs.code.Code.run_block.Goals as goal

pub steps-preserved : goal.steps-preserved
steps-preserved c =
    (omega arith, one_more c.args.self.now c.args.start c.pc-pc.result _ c.steps.made c.args.instrs.now _ c.args.regs.now c.steps.regs c.begin.new.regs c.requires c.pc-pc.ensures c.if-pc-start.false c.if-pc-start-2.false refl c.if-at-instrs.false c.in-Local.ensures.value c.steps.invariant.1)
