use Rattle.shared_table.proofs.PastLaws.{odd_held, held_word, one_holder}
use Rattle.shared_table.proofs.laws.words_law.Goals as goal

pub returns-clause-odd : goal.returns-clause-odd
returns-clause-odd c lay s k r l odd = odd_held lay s r k l odd

pub returns-clause-held : goal.returns-clause-held
returns-clause-held c lay s j v h r at live held = held_word lay s r j v h at live held

pub returns-clause-one : goal.returns-clause-one
returns-clause-one c lay s i j v w h g r at there live alive mine theirs same = one_holder lay s r i j v w h g at there live alive mine theirs same
