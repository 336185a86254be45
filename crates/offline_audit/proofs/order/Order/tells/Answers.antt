use Rattle.std.proofs.Common.{arith}
use Rattle.offline_audit.proofs.OrderLaws.{one_told, two_told, none_told}
use Rattle.offline_audit.proofs.order.Order.tells.Goals as goal

pub returns-then-tid-other : goal.returns-then-tid-other
returns-then-tid-other c = λ h entries i j v w tells a isI b isJ.
    let first = rw c.deref.ensures.value at c.in-Some-Some.ensures in
    let second = rw c.deref-2.ensures.value at c.in-Some-Some.ensures' in
    one_told h entries c.args.self.now tells i j a.entry.tid b.entry.tid v w isI isJ c.in-Some-Some.tid c.in-Some-Some.number c.in-Some-Some.other c.in-Some-Some.at
    (first tells.number entries i tells.rows a) (second tells.number entries j tells.rows b) (grind arith)

pub returns-else-tid-other : goal.returns-else-tid-other
returns-else-tid-other c = λ h entries i j v w tells a isI b isJ.
    let first = rw c.deref.ensures.value at c.in-Some-Some.ensures in
    let second = rw c.deref-2.ensures.value at c.in-Some-Some.ensures' in
    two_told h entries c.args.self.now tells i j a.entry.tid b.entry.tid v w isI isJ c.in-Some-Some.tid c.in-Some-Some.number c.in-Some-Some.other c.in-Some-Some.at
    c.heard_of.result (first tells.number entries i tells.rows a) (second tells.number entries j tells.rows b) (grind arith) c.heard_of.ensures

pub returns-in_default : goal.returns-in_default
returns-in_default c = λ h entries i j v w tells a isI b isJ.
    let second = rw c.deref-2.ensures.value at c.find-2.ensures in
    none_told h entries c.args.self.now tells i j a.entry.tid b.entry.tid v w isI isJ c.find-2.result _ (second tells.number entries j tells.rows b) c.in_default.is-1

pub returns-in_default-2 : goal.returns-in_default-2
returns-in_default-2 c = λ h entries i j v w tells a isI b isJ.
    let first = rw c.deref.ensures.value at c.find.ensures in
    none_told h entries c.args.self.now tells i j a.entry.tid b.entry.tid v w isI isJ c.find.result _ (first tells.number entries i tells.rows a) c.in_default.is-0
