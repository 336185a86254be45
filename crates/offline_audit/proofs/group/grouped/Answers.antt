use Rattle.std.proofs.Common.{◌≡◌, ◌↔◌, take, List, subst, false, Contains}
use Rattle.std.proofs.lemmas.List.{take_all}
use Rattle.offline_audit.specs.declared.access.Made.{Made}
use Rattle.offline_audit.specs.declared.group.Group.{Group}
use Rattle.offline_audit.specs.Groups.{IsIn}
use Rattle.offline_audit.proofs.GroupLaw.{none_grouped, group_more}
use Rattle.offline_audit.proofs.group.grouped.Goals as goal

abbrev none : Made
none = record { kind = record { tid = 0; place = 0; addr = 0; last = 0; read = false; atomic = false }; name = record { entry = 0; event = 0 } }

pub loop-one-init : goal.loop-one-init
loop-one-init c = none_grouped c.args.order.now c.args.made.now c.new-groups.result.items c.new-groups.ensures.items

pub loop-one-preserved : goal.loop-one-preserved
loop-one-preserved c =
    group_more c.args.order.now c.args.made.now c.loop-one.one-index none c.loop-one.groups.items c.add_access.new.groups.items
    c.requires c.loop-one-test.true c.in_ok-add_access.ensures c.loop-one.invariant

pub returns : goal.returns
returns c =
    let made : List Made = c.args.made.now in
    let groups : List Group = c.loop-one.groups.items in
    let all : take c.loop-one.one-index made ≡ made = take_all c.loop-one.one-index made c.loop-one-test.false in
    record {
      all = λ m. subst (λ (ms : List Made). IsIn groups m ↔ Contains ms m) all (c.loop-one.invariant.all m);
      chains = c.loop-one.invariant.chains;
      rising = c.loop-one.invariant.rising;
    }
