use Rattle.std.proofs.Common.{refl}
use Rattle.rv_decode.specs.Table.{instr_of}
use Rattle.gen_program.specs.Words.{jal_next, ecall}
use Rattle.gen_program.proofs.Decoding.{instr_of-lui, instr_of-addi}
use Rattle.gen_program.proofs.laws.word_law.Goals as goal

pub returns-clause-lui : goal.returns-clause-lui
returns-clause-lui c = instr_of-lui

pub returns-clause-addi : goal.returns-clause-addi
returns-clause-addi c = instr_of-addi

pub returns-clause-jal : goal.returns-clause-jal
unfolding instr_of jal_next
returns-clause-jal c = refl

pub returns-clause-ecall : goal.returns-clause-ecall
unfolding instr_of ecall
returns-clause-ecall c = refl
