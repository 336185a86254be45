-- A trace of four events, in which the access is found.
use Rattle.std.proofs.Common.{◌≡◌, false, true, [], refl}
use Rattle.std.specs.Prelude.{IsSome}
use Rattle.run_record.specs.declared.entry.Label.{Label as RunLabel}
use Rattle.trace_parts.specs.declared.event.TraceEvent.{TraceEvent}
use Rattle.trace_parts.specs.declared.event.TraceEvent.TheVariants.{Access, Enter, Lock, Label}
use Rattle.trace_parts.specs.Spelling.{told}
use Rattle.trace_parts.specs.Held.{HeldTrace, with_spare, pushed}
use Rattle.trace_parts.specs.Sought.{first_held}

pub is_found :
    (l : RunLabel) (taken write : TraceEvent) (new roomy one two three four : HeldTrace) → l ≡ record { sid = 0; epoch = 1; era = 0 } → taken ≡ Label 0 1 0 → write ≡ Access 65620 16777216 8 false false → new.part_words ≡ 64 → new.parts ≡ 2 → new.held ≡ [] →
    roomy ≡ with_spare 4 new → one ≡ pushed roomy (told taken) → two ≡ pushed one (told (Enter 65536)) → three ≡ pushed two (told (Lock 32 true)) → four ≡ pushed three (told write) → IsSome (first_held four.held l 16777216 65791)
is_found l taken write new roomy one two three four el et ew words parts held e0 e1 e2 e3 e4 = rw (e4, e3, e2, e1, e0, words, parts, held, el, et, ew) refl
