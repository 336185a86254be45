use Rattle.shared_table.proofs.Pasts.{cell_word}
use Rattle.shared_table.proofs.PastLaws.{kept_log, split_first, join_last, load_last}
use Rattle.shared_table.proofs.laws.order_law.Goals as goal

pub returns-clause-logs : goal.returns-clause-logs
returns-clause-logs c lay past m l h e = kept_log lay past m l h e

pub returns-clause-splits : goal.returns-clause-splits
returns-clause-splits c lay late past n m h = split_first lay late past n m h

pub returns-clause-joins : goal.returns-clause-joins
returns-clause-joins c lay late past m l h e = (join_last lay late past m l h e).0

pub returns-clause-loads : goal.returns-clause-loads
returns-clause-loads c lay late past n cell w h = load_last lay late past n cell w h

pub returns-clause-words : goal.returns-clause-words
returns-clause-words c lay past cell h some_word = cell_word lay past cell h some_word
