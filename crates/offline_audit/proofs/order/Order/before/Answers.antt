use Rattle.run_laws.specs.Moments.{moments, items}
use Rattle.offline_audit.specs.Mutexes.{without_mutexes}
use Rattle.offline_audit.proofs.MomentPlaces.{made_at}
use Rattle.offline_audit.proofs.MutexLaws.{kept}
use Rattle.offline_audit.proofs.order.Order.before.Goals as goal

pub returns-clause-all : goal.returns-clause-all
returns-clause-all c = λ entries i j order a b.
    let x = made_at entries c.args.first i a in
    let y = made_at entries c.args.second j b in
    c.tells.ensures (items (moments entries)) entries i j x.0 y.0 order a x.1 b y.1

pub returns-clause-without_mutexes : goal.returns-clause-without_mutexes
returns-clause-without_mutexes c = λ entries i j order a e b f.
    let x = made_at entries c.args.first i a in
    let y = made_at entries c.args.second j b in
    let h = items (moments entries) in
    c.tells.ensures (without_mutexes h) entries i j x.0 y.0 order a (kept h i a.entry.tid x.0 e x.1) b (kept h j b.entry.tid y.0 f y.1)
