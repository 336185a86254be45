use Rattle.std.proofs.lemmas.List.Elements.{All-weaker}
use Rattle.std.specs.Prelude.{IsSome}
use Rattle.rv_decode.specs.Table.{instr_of}
use Rattle.gen_program.specs.Program.{code}
use Rattle.gen_program.proofs.Instructions.{IsWord, code_words}
use Rattle.gen_program.proofs.laws.code_law.Goals as goal

pub returns : goal.returns
returns c = λ seed size small. All-weaker IsWord (λ w. IsSome (instr_of w)) (λ w word. word.instruction) (code seed size) (code_words seed size small)
