use Rattle.std.proofs.Common.{◌↔◌, List, Contains, sym, subst}
use Rattle.elf_image.specs.File.{granule_of}
use Rattle.report_text.specs.declared.pair.Pair.{Pair}
use Rattle.offline_audit.specs.Pairs.{IsRacingPair}
use Rattle.offline_audit.proofs.FoundLaw.{exact}
use Rattle.offline_audit.proofs.races.pairs.Goals as goal

pub returns-clause-exact : goal.returns-clause-exact
returns-clause-exact c = λ p q.
    subst (λ (xs : List Pair). Contains xs (record { low = p; high = q }) ↔ IsRacingPair (granule_of c.args.image.now) c.args.history.now.entries p q) (sym c.from_vec.ensures)
    (exact (granule_of c.args.image.now) c.args.history.now.entries c.args.order.now c.in_ok-made.made.items c.as_slice.result.now c.in_ok-groups.groups.items
    c.as_slice-2.result.now c.in_ok-found.found.items c.requires c.as_slice.ensures.value c.as_slice-2.ensures.value c.in_ok-made.ensures.all
    c.in_ok-groups.ensures.all c.in_ok-groups.ensures.chains c.in_ok-found.ensures.found p q)
