use Rattle.report_laws.proofs.NextRound.{round_owners, round_restorable, round_found}
use Rattle.report_laws.proofs.rounds.next_round_law.Goals as goal

pub returns-clause-owners : goal.returns-clause-owners
returns-clause-owners c = round_owners

pub returns-clause-found : goal.returns-clause-found
returns-clause-found c = λ limits granule_of address_of needs_slot entries last round era rest sound addresses before now cut. round_found limits granule_of needs_slot entries last round era rest sound cut address_of addresses before now

pub returns-clause-restorable : goal.returns-clause-restorable
returns-clause-restorable c = λ limits granule_of address_of needs_slot entries last round era rest sound addresses cut. round_restorable limits granule_of needs_slot entries last round era rest sound cut address_of addresses
