use Rattle.std.proofs.Common.{◌≡◌, List, [], ◌∷◌, ◌++◌, sym, ap, ◌∙◌, subst, append-nil}
use Rattle.std.proofs.lemmas.Result.{on_ok_weaker}
use Rattle.offline_audit.specs.declared.order.EventName.{EventName}
use Rattle.offline_audit.specs.declared.group.Group.{Group}
use Rattle.offline_audit.specs.Groups.{AreWithOne}
use Rattle.offline_audit.proofs.GroupLaw.{with_joined, with_own}
use Rattle.offline_audit.proofs.group.add_access.Goals as goal

pub returns-in_ok-push-in-Some-2 : goal.returns-in_ok-push-in-Some-2
returns-in_ok-push-in-Some-2 c =
    let order = c.args.order.now in
    let m = c.args.made.now in
    let g : Group = c.in-Some.group in
    let rest : List Group = c.pop.new.self.items in
    let old : c.args.groups.now.items ≡ rest ++ g ∷ [] = c.in-Some.ensures.items in
    let new : c.push-then-goes_on.new.self.items ≡ rest ++ record { kind = g.kind; names = g.names ++ m.name ∷ [] } ∷ [] =
    c.in_ok-push-in-Some-2.ensures.items ∙ ap (λ (ns : List EventName). rest ++ record { kind = g.kind; names = ns } ∷ []) c.in_ok-push-in-Some.ensures.ok in
    let law = with_joined order m rest g c.if-goes_on.ensures.kind c.if-goes_on.ensures.chain in
    subst (λ (x : List Group). AreWithOne order m x c.push-then-goes_on.new.self.items) (sym old)
    (subst (λ (y : List Group). AreWithOne order m (rest ++ g ∷ []) y) (sym new) law)

pub returns-in_ok-push-in-Some-3 : goal.returns-in_ok-push-in-Some-3
returns-in_ok-push-in-Some-3 c =
    let order = c.args.order.now in
    let m = c.args.made.now in
    let old : List Group = c.args.groups.now.items in
    let back : c.push-else-goes_on.new.self.items ≡ old = c.in_ok-push-in-Some-3.ensures.items ∙ sym c.in-Some.ensures.items in
    let own : Group = record { kind = m.kind; names = m.name ∷ [] } in
    on_ok_weaker c.add_group.result
    (λ (q : c.add_group.new.groups.items ≡ c.push-else-goes_on.new.self.items ++ own ∷ []).
    subst (λ (y : List Group). AreWithOne order m old y) (sym (q ∙ ap (λ (x : List Group). x ++ own ∷ []) back)) (with_own order m old))
    c.add_group.ensures

pub returns-in-None : goal.returns-in-None
returns-in-None c =
    let order = c.args.order.now in
    let m = c.args.made.now in
    let old : List Group = c.args.groups.now.items in
    let rest : List Group = c.pop.new.self.items in
    let back : rest ≡ old = sym (c.in-None.ensures.items ∙ append-nil rest) in
    let own : Group = record { kind = m.kind; names = m.name ∷ [] } in
    on_ok_weaker c.add_group-in-None.result
    (λ (q : c.add_group-in-None.new.groups.items ≡ rest ++ own ∷ []).
    subst (λ (y : List Group). AreWithOne order m old y) (sym (q ∙ ap (λ (x : List Group). x ++ own ∷ []) back)) (with_own order m old))
    c.add_group-in-None.ensures
