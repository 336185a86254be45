use Rattle.std.proofs.Common.{◌<◌, ◌^◌}
use Rattle.detector.proofs.ToldLaws.{sought_cell, granule_there, address_room, side_found, side_lost}
use Rattle.detector.proofs.previous.tell_previous.Goals as goal

pub unreachable-requires : goal.unreachable-requires
unreachable-requires c = let e = c.requires.cell in let f = c.unpack.ensures.value in let i = c.in_default.is in cc

pub granule_address-address-requires : goal.granule_address-address-requires
granule_address-address-requires c = granule_there _ _ _ _ c.requires c.accepted.ensures

pub lost_side-requires-clause-room : goal.lost_side-requires-clause-room
lost_side-requires-clause-room c =
    let e = c.granule_address-address.ensures in
    let fits : c.granule_address-address.result < 2 ^ 64 = c.granule_address-address.type_inv in
    rw e (address_room _ _ _ _ c.requires c.accepted.ensures (rw e at fits))

pub returns-in-Found : goal.returns-in-Found
returns-in-Found c =
    let same = sought_cell _ _ _ _ c.requires c.in-Some.cell c.unpack.result c.unpack.ensures.value c.in-Some.is in
    side_found _ _ _ _ c.requires c.in-Some.cell c.granule_address-address.result _ c.in_ok-addr.field-0 same
    c.granule_address-address.ensures c.in_ok-addr.ensures.found
    c.in-Found.place c.in-Found.addr c.in-Found.size c.in-Found.stack c.in-Found.locks c.in-Found.is

pub returns-in-Lost : goal.returns-in-Lost
returns-in-Lost c =
    let same = sought_cell _ _ _ _ c.requires c.in-Some.cell c.unpack.result c.unpack.ensures.value c.in-Some.is in
    side_lost _ _ _ _ c.requires c.in-Some.cell c.granule_address-address.result _ c.in_ok-addr.field-0 same
    c.granule_address-address.ensures c.in_ok-addr.ensures.found
    c.lost_side.result c.in-Lost.is c.lost_side.ensures
