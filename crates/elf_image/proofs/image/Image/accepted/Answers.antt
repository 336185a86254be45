use Rattle.std.proofs.Common.{◌≡◌, ℕ, List, Ok, subst}
use Rattle.elf_image.specs.File.{image_of}
use Rattle.elf_image.proofs.image.Image.accepted.Goals as goal

pub returns : goal.returns
returns c = let P : List ℕ → Type 0 = λ file. image_of file ≡ Ok file in subst P c.self.view_is c.self.invariant.accepted
