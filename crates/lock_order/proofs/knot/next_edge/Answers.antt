use Rattle.std.proofs.Common.{◌≡◌, ℕ, ◌<◌, ◌≤◌, List, length, take, get_or, inl, inr, arith, sym, ap, ◌∙◌, subst}
use Rattle.std.specs.List.{Contains}
use Rattle.std.proofs.lemmas.Bool.{cases_order, MatchBool-at_true, MatchBool-at_false}
use Rattle.std.proofs.lemmas.List.{take_more, get_or_default, get_or-take, length-take-le}
use Rattle.std.proofs.lemmas.List.Elements.{Contains-get_or, Contains-push_cases}
use Rattle.lock_order.specs.declared.edge.Edge.{Edge}
use Rattle.lock_order.specs.Edges.{AreOrdered}
use Rattle.lock_order.specs.Knots.{IsNear}
use Rattle.lock_order.proofs.NodeLaws.{ends_rise}
use Rattle.lock_order.proofs.knot.next_edge.Goals as goal
use Rattle.lock_order.proofs.knot.next_edge.Goals.{else-edge-from-via-then-edge-from+else-is_near, else-edge-from-via-else-edge-from}

-- no edge before place k leads on
first_next : (es : List Edge) (nodes left : List ℕ) (a here m k : ℕ) (d f : Edge) → AreOrdered es → k < length es → (get_or es k d).from ≡ here →
    ((e : Edge) → Contains (take k es) e → e.from ≡ here → IsNear nodes left a m e → ⊥) → Contains es f → f.from ≡ here → IsNear nodes left a m f →
    (get_or es k d).to ≤ f.to
first_next es nodes left a here m k d f ordered inside from none (j, l, is) at near =
    let same : get_or es j d ≡ f = get_or_default es j d f l ∙ is in
    elim (cases_order j k) [
      | inl e ↦ omega (arith, ap (λ (n : ℕ). (get_or es n d).to) e, ap (λ (x : Edge). x.to) same)
      | inr (inl less) ↦
          absurd (none f (j, omega (arith, length-take-le k es (omega arith)), get_or-take k es j f less ∙ is) at near)
      | inr (inr more) ↦
          omega (arith, ends_rise es k j d ordered more l (from ∙ (sym at ∙ sym (ap (λ (x : Edge). x.from) same))), ap (λ (x : Edge). x.to) same)
    ]

pub returns-then-is_near : goal.returns-then-is_near
returns-then-is_near c =
    let es = c.args.edges.now in
    let k = c.loop-edge.edge-index in
    let nothing : Edge = record { from = 0; to = 0; tid = 0 } in
    record {
      there = Contains-get_or es k nothing c.loop-edge-test.true;
      from = c.if-edge-from.true;
      near = MatchBool-at_true (IsNear c.args.nodes.now c.args.left.now c.args.target c.args.more (get_or es k nothing))
          (IsNear c.args.nodes.now c.args.left.now c.args.target c.args.more (get_or es k nothing) → ⊥) c.if-is_near.true c.is_near.ensures;
      first = λ f there from near.
          first_next es c.args.nodes.now c.args.left.now c.args.target c.args.from c.args.more k nothing f c.requires.ordered c.loop-edge-test.true
          c.if-edge-from.true c.loop-edge.invariant there from near;
    }

pub loop-edge-preserved : goal.loop-edge-preserved
loop-edge-preserved c = λ e there from near.
    let es = c.args.edges.now in
    let k = c.loop-edge.edge-index in
    let nothing : Edge = record { from = 0; to = 0; tid = 0 } in
    elim (Contains-push_cases (take k es) (get_or es k nothing) e
    (subst (λ (ls : List Edge). Contains ls e) (take_more es k nothing c.loop-edge-test.true) there)) [
      | inl before ↦ c.loop-edge.invariant e before from near
      | inr is ↦ elim c.else-edge-from.branch [
        | else-edge-from-via-then-edge-from+else-is_near w ↦
            MatchBool-at_false (IsNear c.args.nodes.now c.args.left.now c.args.target c.args.more (get_or es k nothing))
            (IsNear c.args.nodes.now c.args.left.now c.args.target c.args.more (get_or es k nothing) → ⊥) w.if-is_near.false w.is_near.ensures
            (subst (IsNear c.args.nodes.now c.args.left.now c.args.target c.args.more) (sym is) near)
        | else-edge-from-via-else-edge-from w ↦ w.if-edge-from.false (ap (λ (x : Edge). x.from) is ∙ from)
      ]
    ]
