-- The tables of a file's instructions.
use Rattle.std.specs.Prelude.{ℕ, ◌<◌, List, length, slice_index_or}
use Rattle.guest_code.specs.declared.block.Block.{Block}
use Rattle.guest_code.specs.Decoded.{AreDecoded}

-- each block has the file's instructions
abbrev pub AreBlocks : List ℕ → List Block → Type 0
AreBlocks file blocks = (k : ℕ) (d : Block) → k < length blocks → let b = slice_index_or blocks k d in AreDecoded file b.start b.instrs.items
