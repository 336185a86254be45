-- The first row that matches is the only one, since the rows are apart.
use Rattle.rv_decode.specs.Table.{table, instr_of}
use Rattle.rv_decode.proofs.Rows.{table_apart, never_both, found_matches, matches_found}
use Rattle.rv_decode.proofs.laws.one_row.Goals as goal

pub returns-clause-exactly : goal.returns-clause-exactly
unfolding instr_of
returns-clause-exactly c = λ w i. (found_matches w table i, matches_found w table i table_apart)

pub returns-clause-alone : goal.returns-clause-alone
returns-clause-alone c = λ w. never_both w table table_apart
