use Rattle.std.proofs.Common.{refl, arith, length, ◌*◌}
use Rattle.gen_program.specs.Program.{code, program}
use Rattle.gen_program.specs.Executable.{executable}
use Rattle.gen_program.proofs.Lengths.{length-code}
use Rattle.gen_program.proofs.Instructions.{code_words}
use Rattle.gen_program.proofs.Fetching.{word_at-headers}
use Rattle.gen_program.proofs.laws.fetch_law.Goals as goal

pub returns : goal.returns
unfolding program executable
returns c =
    λ seed size k small inside. word_at-headers (4 * length (code seed size)) (code seed size) k refl (omega (arith, length-code seed size)) inside (code_words seed size small k 0 inside).fits
