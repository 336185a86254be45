use Rattle.std.proofs.Common.{◌≡◌, ℕ, List, suc, ◌+◌, arith, take, sym, ◌∙◌, subst}
use Rattle.std.proofs.lemmas.List.{take_all}
use Rattle.run_record.specs.declared.entry.Entry.{Entry}
use Rattle.run_laws.specs.Moments.{moments}
use Rattle.lock_order.specs.Found.{Follows}
use Rattle.lock_order.proofs.EdgeLaws.{follows-nothing, follows-entry, are_edges}
use Rattle.lock_order.proofs.edge.edges.Goals as goal

pub loop-entry-init : goal.loop-entry-init
loop-entry-init c = follows-nothing c.new-held.result.items c.new-found.result c.new-held.ensures.items c.new-found.ensures.empty

pub loop-entry-preserved : goal.loop-entry-preserved
loop-entry-preserved c =
    let entries = c.args.history.now.entries in
    let k = c.loop-entry.entry-index in
    let next : k + 1 ≡ suc k = omega arith in
    let l = rw (c.deref-entry-items.ensures.value ∙ c.in_ok-entries.ensures) at c.loop-entry-test.true in
    let is = rw (c.deref-entry-items.ensures.value ∙ c.in_ok-entries.ensures) at c.entry-item.is in
    subst (λ (n : ℕ). Follows (moments (take n entries)) c.note_entry.new.held.items c.note_entry.new.found) (sym next)
    (follows-entry entries k c.entry-item.result c.loop-entry.held.items c.note_entry.new.held.items c.loop-entry.found c.note_entry.new.found
    l is c.in_ok-note_entry.ensures c.loop-entry.invariant)

pub returns : goal.returns
returns c =
    let full = rw (c.deref-entry-items.ensures.value ∙ c.in_ok-entries.ensures) at c.loop-entry-test.false in
    are_edges (moments c.args.history.now.entries) c.loop-entry.held.items c.loop-entry.found c.from_vec.result
    (subst (λ (es : List Entry). Follows (moments es) c.loop-entry.held.items c.loop-entry.found)
    (take_all c.loop-entry.entry-index c.args.history.now.entries full) c.loop-entry.invariant)
    c.listed.ensures.ordered (c.from_vec.ensures ∙ c.in_ok-listed.ensures.items)
