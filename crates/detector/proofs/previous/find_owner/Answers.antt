use Rattle.detector.proofs.ToldLaws.{owner_cell, owner_named}
use Rattle.detector.proofs.previous.find_owner.Goals as goal

pub unreachable-requires : goal.unreachable-requires
unreachable-requires c = let e = c.requires.cell in let f = c.unpack.ensures.value in let i = c.in_default.is in cc

pub returns : goal.returns
returns c =
    let same = owner_cell c.args.desk.now c.args.candidate.now.word c.requires c.in-Some.cell c.unpack.result c.unpack.ensures.value c.in-Some.is in
    owner_named c.args.desk.now c.args.candidate.now.word c.in-Some-owner_of.owner c.in-Some.cell c.owner_of.result same
    c.owner_of.ensures c.in-Some-owner_of.is
