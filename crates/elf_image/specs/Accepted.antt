-- What is kept of an accepted file.
use Rattle.std.specs.Prelude.{◌≡◌, ℕ, ◌^◌, ◌<◌, ◌≤◌, List, length, None, Ok}
use Rattle.elf_image.specs.declared.header.ProgramHeader.{ProgramHeader}
use Rattle.elf_image.specs.declared.region.Region.{Region}
use Rattle.elf_image.specs.Regions.{FirstGranules}
use Rattle.elf_image.specs.File.{image_of, HasTable, header_fault, segment_fault, segments, entry, segments_of, regions_of}

pub record IsAccepted (file : List ℕ) (start : ℕ) (segments : List ProgramHeader) (regions : List Region) (firsts : List ℕ) : Type 0 where
  pub accepted : image_of file ≡ Ok file
  pub start_is : start ≡ entry file
  pub segments_are : segments ≡ segments_of file
  pub regions_are : regions ≡ regions_of file
  pub firsts_are : FirstGranules (regions_of file) firsts
  pub few : length regions ≤ 2 ^ 16

-- the header and each segment by itself have no fault, and these are the segments
pub record IsReady (file : List ℕ) (read : List ProgramHeader) : Type 0 where
  pub table : HasTable file
  pub of_header : header_fault file ≡ None
  pub of_segments : segment_fault (length file) (segments file) ≡ None
  pub segments_are : read ≡ segments file
  pub few : length read < 2 ^ 16
