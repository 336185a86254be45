use Rattle.std.proofs.Common.{◌≡◌, ℕ, suc, true, false, List, drop, arith, ◌-◌, sym, ◌∙◌, subst}
use Rattle.std.specs.List.{list_any}
use Rattle.kept_locks.specs.declared.held.Held.{Held}
use Rattle.kept_locks.specs.Held.{is_held, GoOnBy}
use Rattle.run_record.specs.declared.event.Event.TheVariants.{Unlock}
use Rattle.kept_locks.proofs.HeldLaws.{given_back, none_given}
use Rattle.kept_locks.proofs.held.give_back.Goals as goal

pub returns-then-is_it : goal.returns-then-is_it
returns-then-is_it c =
    let after : suc (c.loop-i.i - 1) ≡ c.loop-i.i = omega arith in
    subst (λ (old : List Held). GoOnBy c.args.tid (Unlock c.args.addr c.args.read) old c.remove.new.self.items) c.loop-i.invariant.1
    (given_back c.args.tid c.args.addr c.args.read c.loop-i.held.items c.remove.new.self.items (c.loop-i.i - 1) c.index.result.now (omega arith)
    (subst (λ (h : Held). is_held c.args.tid c.args.addr c.args.read h ≡ true) c.index.ensures (sym c.is_it.ensures ∙ c.if-is_it.true))
    (rw after c.loop-i.invariant.0) c.remove.ensures.items)

pub returns : goal.returns
returns c =
    let none : c.loop-i.i ≡ 0 = omega arith in
    none_given c.args.tid c.args.addr c.args.read c.args.held.now.items c.loop-i.held.items
    (subst (λ (old : List Held). list_any (is_held c.args.tid c.args.addr c.args.read) old ≡ false) c.loop-i.invariant.1
    (subst (λ (i : ℕ). list_any (is_held c.args.tid c.args.addr c.args.read) (drop i c.loop-i.held.items) ≡ false) none c.loop-i.invariant.0))
    c.loop-i.invariant.1
