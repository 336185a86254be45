use Rattle.std.proofs.Common.{ℕ, List, ◌++◌, codes, ap, ◌∙◌, append_assoc}
use Rattle.std.specs.List.{flat_map}
use Rattle.report_text.specs.Texts.{address}
use Rattle.lock_order.specs.declared.edge.Edge.{Edge}
use Rattle.lock_order.specs.Texts.{edge_line}
use Rattle.lock_order.proofs.cycle.cycle_text.Goals as goal

pub returns : goal.returns
returns c =
    let es = c.args.cycle.now.edges in
    let addresses : List ℕ = flat_map (λ (e : Edge). codes " " ++ address e.from) es in
    let lines : List ℕ = flat_map edge_line es in
    let first = rw c.as_slice-edges.ensures at c.in_ok-write_addresses.ensures in
    let last = rw c.as_slice-edges.ensures at c.in_ok-write_edges.ensures in
    let start = c.in_ok-text.ensures.ok in
    let middle = c.in_ok-push_str.ensures.bytes in
    ap (λ v. v.items) c.into_bytes.ensures.value ∙ (last
    ∙ (ap (λ (text : List ℕ). text ++ lines) (middle ∙ ap (λ (text : List ℕ). text ++ codes "\n") (first ∙ ap (λ (text : List ℕ). text ++ addresses) start))
    ∙ (append_assoc (codes "lock cycle:" ++ addresses) (codes "\n") lines ∙ append_assoc (codes "lock cycle:") addresses (codes "\n" ++ lines))))
