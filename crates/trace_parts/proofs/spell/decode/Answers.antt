use Rattle.std.proofs.Common.{◌≡◌, ◌∙◌, sym, ap, true, ℕ, Some, None, length}
use Rattle.std.specs.List.{starts_with}
use Rattle.std.specs.Prelude.{nat_eq}
use Rattle.trace_parts.specs.Spelling.{is_traceable, spelling, decoded}
use Rattle.trace_parts.proofs.ReadBack.{decoded-none, decoded-untraceable, decoded-yes, decoded-other, spelled_decodes, found}
use Rattle.trace_parts.proofs.spell.decode.Goals as goal
use Rattle.trace_parts.proofs.spell.decode.Goals.{After-from_residual, Then-not-is_traceable, After-count, Else-starts_with}

read_none : (c : After-from_residual) → c.from_residual.result ≡ decoded c.args.previous c.args.words.now
read_none c =
    c.from_residual.ensures ∙ sym (decoded-none c.args.previous c.args.words.now (sym c.fields_in.ensures ∙ c.in_err-event.was))

pub returns-in_err-event-clause-spelled : goal.returns-in_err-event-clause-spelled
returns-in_err-event-clause-spelled c =
    λ e rest t h. read_none c ∙ spelled_decodes c.args.previous c.args.words.now e rest c.ranges.previous.fits t h

read_untraceable : (c : Then-not-is_traceable) → None ≡ decoded c.args.previous c.args.words.now
read_untraceable c =
    sym (decoded-untraceable c.args.previous c.args.words.now c.in_ok-event.event (sym c.fields_in.ensures ∙ c.in_ok-event.was) (sym c.is_traceable.ensures.value ∙ c.if-not-is_traceable.true))

pub returns-then-not-is_traceable-clause-spelled : goal.returns-then-not-is_traceable-clause-spelled
returns-then-not-is_traceable-clause-spelled c =
    λ e rest t h. read_untraceable c ∙ spelled_decodes c.args.previous c.args.words.now e rest c.ranges.previous.fits t h

is_traceable_then : (c : After-count) → is_traceable c.in_ok-event.event ≡ true
is_traceable_then c = sym c.is_traceable.ensures.value ∙ c.if-not-is_traceable.false

begins_then : (c : After-count) → starts_with nat_eq c.args.words.now (spelling c.args.previous c.in_ok-event.event) ≡ true
begins_then c =
    ap (starts_with nat_eq c.args.words.now) (sym (c.as_slice.ensures ∙ c.encode-spelled.ensures.words)) ∙ sym c.starts_with.ensures.value ∙ c.if-starts_with.true

count_then : (c : After-count) → c.count.result ≡ length (spelling c.args.previous c.in_ok-event.event)
count_then c = c.count.ensures ∙ ap length c.encode-spelled.ensures.words

read_event : (c : After-count) → Some (c.in_ok-event.event, c.count.result) ≡ decoded c.args.previous c.args.words.now
read_event c =
    ap (λ (n : ℕ). Some (c.in_ok-event.event, n)) (count_then c)
    ∙ sym (decoded-yes c.args.previous c.args.words.now c.in_ok-event.event (sym c.fields_in.ensures ∙ c.in_ok-event.was) (is_traceable_then c) (begins_then c))

pub returns-then-starts_with-clause-found : goal.returns-then-starts_with-clause-found
returns-then-starts_with-clause-found c =
    found c.args.previous c.count.result c.args.words.now c.in_ok-event.event (is_traceable_then c) (begins_then c) (count_then c)

pub returns-then-starts_with-clause-spelled : goal.returns-then-starts_with-clause-spelled
returns-then-starts_with-clause-spelled c =
    λ e rest t h. read_event c ∙ spelled_decodes c.args.previous c.args.words.now e rest c.ranges.previous.fits t h

read_other : (c : Else-starts_with) → None ≡ decoded c.args.previous c.args.words.now
read_other c =
    sym (decoded-other c.args.previous c.args.words.now c.in_ok-event.event (sym c.fields_in.ensures ∙ c.in_ok-event.was) (sym c.is_traceable.ensures.value ∙ c.if-not-is_traceable.false) (ap (starts_with nat_eq c.args.words.now) (sym (c.as_slice.ensures ∙ c.encode-spelled.ensures.words)) ∙ sym c.starts_with.ensures.value ∙ c.if-starts_with.false))

pub returns-else-starts_with-clause-spelled : goal.returns-else-starts_with-clause-spelled
returns-else-starts_with-clause-spelled c =
    λ e rest t h. read_other c ∙ spelled_decodes c.args.previous c.args.words.now e rest c.ranges.previous.fits t h
