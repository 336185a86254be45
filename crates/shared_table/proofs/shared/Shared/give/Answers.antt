use Rattle.std.proofs.Common.{rules, sym, ap, ◌∙◌, subst}
use Rattle.std.proofs.Common.{◌≡◌, [], ◌∷◌, Some}
use Rattle.shared_table.specs.declared.view.Layout.{Layout}
use Rattle.shared_table.specs.Past.{IsSound}
use Rattle.shared_table.specs.Rule.{slot_place}
use Rattle.shared_table.specs.Steps.{Mine, gave}
use Rattle.atomic_table.specs.Table.{rest}
use Rattle.shared_table.proofs.Keeps.{gives_turn}
use Rattle.shared_table.proofs.Owns.{layouts, stays_logged}
use Rattle.shared_table.proofs.shared.Shared.give.Goals as goal

pub fetch_add-requires : goal.fetch_add-requires
fetch_add-requires c = (
  search rules,
  search rules,
  gives_turn _ _ _ _ c.requires.holds.0 c.args.object c.args.value (search rules) (search rules) c.requires.holds.2 (search rules) (subst (λ (l : Layout). IsSound l c.args.object c.args.value) (sym (layouts _ _ c.self.view_is)) c.requires.sound),
)

pub returns-clause-gave : goal.returns-clause-gave
returns-clause-gave c h held =
    let was = c.exchange.ensures.3 in
    let out : c.exchange.new.seat.me.1 ≡ (slot_place c.args.object, Some c.args.value) ∷ [] = ap (λ (m : Mine). m.1) was ∙ ap (λ l. (slot_place c.args.object, Some c.args.value) ∷ rest l) c.requires.holds.3 in
    let gave_ = c.fetch_add.ensures.2 h (slot_place c.args.object) c.args.value (ap (λ (m : Mine). m.0.held) was ∙ held) out in
    gave_ ∙ ap (λ (m : Mine). (gave m.0 h c.args.value, [])) was

pub returns-clause-own : goal.returns-clause-own
returns-clause-own c = stays_logged _ _ _ _ _ _ c.requires.own (c.fetch_add.ensures.0 ∙ c.exchange.ensures.0) (returns-clause-gave c c.requires.holds.0 c.requires.holds.1)
