use Rattle.std.proofs.Common.{◌≡◌, ℕ, List, length, arith, ap, sym, ◌∙◌, subst}
use Rattle.std.specs.Prelude.{Ok}
use Rattle.elf_image.specs.File.{image_of}
use Rattle.gen_program.specs.Program.{program, main_of}
use Rattle.gen_program.specs.Executable.{executable}
use Rattle.gen_program.proofs.Lengths.{length-main_of}
use Rattle.gen_program.proofs.Making.{longer, Threads, code_is, program_loads}
use Rattle.gen_program.proofs.generator.make.Goals as goal
use Rattle.gen_program.proofs.generator.make.Goals.{After-drop-threads-2}

pub main_code-requires-clause-second : goal.main_code-requires-clause-second
main_code-requires-clause-second c =
    let none = ap length c.new-threads.ensures.items in
    let one = longer _ _ _ _ c.in_ok-thread.ensures.code in
    omega (arith, none, one, c.thread.new.code.ok.0)

pub main_code-requires-clause-third : goal.main_code-requires-clause-third
main_code-requires-clause-third c =
    let none = ap length c.new-threads.ensures.items in
    let one = longer _ _ _ _ c.in_ok-thread.ensures.code in
    let two = longer _ _ _ _ c.in_ok-thread-2.ensures.code in
    omega (arith, none, one, two, c.thread-2.new.code.ok.0)

pub executable-requires : goal.executable-requires
executable-requires c =
    let none = ap length c.new-threads.ensures.items in
    let one = longer _ _ _ _ c.in_ok-thread.ensures.code in
    let two = longer _ _ _ _ c.in_ok-thread-2.ensures.code in
    let three = longer _ _ _ _ c.in_ok-thread-3.ensures.code in
    let main : length c.in_ok-main.main.items ≡ 14 = ap length c.in_ok-main.ensures ∙ length-main_of _ _ in
    omega (arith, none, one, two, three, main, ap length c.as_slice.ensures.value, ap length c.as_slice-2.ensures.value)

made : (c : After-drop-threads-2) → c.in_ok-file.file.items ≡ program c.args.seed c.args.size
unfolding program
made c =
    let second : c.len-second.result ≡ length c.thread.new.code.items = c.len-second.ensures ∙ c.thread.new.code.ok.0 in
    let third : c.len-third.result ≡ length c.thread-2.new.code.items = c.len-third.ensures ∙ c.thread-2.new.code.ok.0 in
    let main : c.as_slice.result.now ≡ main_of (length c.thread.new.code.items) (length c.thread-2.new.code.items) =
    c.as_slice.ensures.value
    ∙ c.in_ok-main.ensures
    ∙ ap (λ n. main_of n c.len-third.result) second
    ∙ ap (main_of (length c.thread.new.code.items)) third in
    let threads : Threads
    c.args.seed
    c.args.size
    c.new-draws.result.state
    c.thread.new.draws.state
    c.thread-2.new.draws.state
    c.new-threads.result.items
    c.thread.new.code.items
    c.thread-2.new.code.items
    c.as_slice-2.result.now = record {
      seeded = c.new-draws.ensures;
      second = c.in_ok-thread.ensures.draws;
      third = c.in_ok-thread-2.ensures.draws;
      none = c.new-threads.ensures.items;
      one = c.in_ok-thread.ensures.code;
      two = c.in_ok-thread-2.ensures.code;
      three = c.as_slice-2.ensures.value ∙ c.in_ok-thread-3.ensures.code;
    } in
    c.in_ok-file.ensures ∙ ap executable (code_is threads c.as_slice.result.now main)

pub returns-clause-bytes : goal.returns-clause-bytes
returns-clause-bytes c = made c

pub returns-clause-loads : goal.returns-clause-loads
returns-clause-loads c =
    let Loads : List ℕ → Type 0 = λ file. image_of file ≡ Ok file in
    subst Loads (sym (made c)) (program_loads c.args.seed c.args.size c.requires)
