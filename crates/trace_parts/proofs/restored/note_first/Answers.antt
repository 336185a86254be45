use Rattle.std.proofs.Common.{◌≡◌, ℕ, ◌<◌, ◌≤◌, ◌==◌, length, get_or, refl, sym, ◌∙◌, ap, subst, arith}
use Rattle.trace_parts.specs.declared.event.TraceEvent.{TraceEvent}
use Rattle.trace_parts.specs.declared.event.TraceEvent.TheVariants.{Lock, Unlock}
use Rattle.trace_parts.specs.Spelling.{told, kind_of, words_of_kind}
use Rattle.trace_parts.specs.Snapshot.{snapshot_after}
use Rattle.trace_parts.specs.Part.{snapshot_of}
use Rattle.trace_parts.proofs.ReadBack.{second_word, enter-by_kind, leave-by_kind, lock-by_kind, unlock-by_kind, label-by_kind}
use Rattle.trace_parts.proofs.restored.note_first.Goals as goal

pub returns-then-kind-eq3-clause-noted : goal.returns-then-kind-eq3-clause-noted
returns-then-kind-eq3-clause-noted c =
    λ p e h.
    let words = c.args.words.now in
    let kind : kind_of words ≡ 3 = sym c.bits-kind.ensures.value ∙ c.if-kind-eq3.true in
    c.in_ok-note.ensures.ok ∙ ap (λ (f : TraceEvent). snapshot_after (snapshot_of c.args.standing.now) (told f)) (sym (enter-by_kind p words e (second_word words 3 kind refl c.requires.whole) kind h))

pub returns-then-kind-eq4-clause-noted : goal.returns-then-kind-eq4-clause-noted
returns-then-kind-eq4-clause-noted c =
    λ p e h.
    c.in_ok-note-2.ensures.ok ∙ ap (λ (f : TraceEvent). snapshot_after (snapshot_of c.args.standing.now) (told f)) (sym (leave-by_kind p c.args.words.now e (sym c.bits-kind.ensures.value ∙ c.if-kind-eq4.true) h))

pub returns-then-kind-eq5-clause-noted : goal.returns-then-kind-eq5-clause-noted
returns-then-kind-eq5-clause-noted c =
    λ p e h.
    let words = c.args.words.now in
    let kind : kind_of words ≡ 5 = sym c.bits-kind.ensures.value ∙ c.if-kind-eq5.true in
    c.in_ok-note-3.ensures.ok
    ∙ ap (λ (f : TraceEvent). snapshot_after (snapshot_of c.args.standing.now) (told f))
    (ap (λ (n : ℕ). Lock (get_or words 1 0) (n == 1)) c.bits-read.ensures.value ∙ sym (lock-by_kind p words e (second_word words 5 kind refl c.requires.whole) kind h))

pub returns-then-kind-eq6-clause-noted : goal.returns-then-kind-eq6-clause-noted
returns-then-kind-eq6-clause-noted c =
    λ p e h.
    let words = c.args.words.now in
    let kind : kind_of words ≡ 6 = sym c.bits-kind.ensures.value ∙ c.if-kind-eq6.true in
    c.in_ok-note-4.ensures.ok
    ∙ ap (λ (f : TraceEvent). snapshot_after (snapshot_of c.args.standing.now) (told f))
    (ap (λ (n : ℕ). Unlock (get_or words 1 0) (n == 1)) c.bits-read.ensures.value ∙ sym (unlock-by_kind p words e (second_word words 6 kind refl c.requires.whole) kind h))

pub returns-clause-noted : goal.returns-clause-noted
returns-clause-noted c =
    λ p e h.
    let words = c.args.words.now in
    let kind : kind_of words ≡ 7 = omega (arith, c.bits-kind.ensures.value, c.bits-kind.ensures.small, c.requires.kind, c.if-kind-eq3.false, c.if-kind-eq4.false, c.if-kind-eq5.false, c.if-kind-eq6.false) in
    c.in_ok-note-5.ensures.ok ∙ ap (λ (f : TraceEvent). snapshot_after (snapshot_of c.args.standing.now) (told f)) (c.label_in.ensures ∙ sym (label-by_kind p words e kind h))
