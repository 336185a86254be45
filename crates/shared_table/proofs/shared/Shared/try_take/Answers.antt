use Rattle.std.proofs.Common.{rules, refl, sym, ap, ◌∙◌, ◌/◌, Some, ◌∷◌, ◌≡◌, subst, IfSome, IfNone}
use Rattle.atomic_table.specs.Table.{rest}
use Rattle.shared_table.specs.declared.object.Object.{Object}
use Rattle.shared_table.specs.Past.{Slot}
use Rattle.shared_table.specs.Rule.{slot_place}
use Rattle.shared_table.specs.Steps.{Mine}
use Rattle.shared_table.specs.Seats.{Took}
use Rattle.shared_table.proofs.Keeps.{takes_turn}
use Rattle.shared_table.proofs.Owns.{seat_layout, stays_logged, taken_out, told_after}
use Rattle.shared_table.proofs.shared.Shared.try_take.Goals as goal

pub compare_exchange-requires : goal.compare_exchange-requires
compare_exchange-requires c = (
  search rules,
  search rules,
  takes_turn _ _ _ _ c.args.object _ _ c.requires.own.live (seat_layout _ _ _ c.self.view_is c.requires.own) c.requires.free.0 (search rules) (search rules) (search rules) refl,
)

pub exchange-requires : goal.exchange-requires
exchange-requires c =
    let got = c.compare_exchange.ensures.2.0 c.if-compare_exchange-word.false c.args.object refl in
    let out = ap (λ (m : Mine). m.1) got.2 in
    (search rules, (Some got.0, out ∙ ap (λ l. (slot_place c.args.object, Some got.0) ∷ rest l) (sym out)))

pub returns-clause-own : goal.returns-clause-own
returns-clause-own c =
    let got = c.compare_exchange.ensures.2.0 c.if-compare_exchange-word.false c.args.object refl in
    let out = taken_out c.args.object _ c.args.seat.now.me _ c.exchange.new.seat.me got.0 c.exchange.result c.requires.free.1 got.2 c.exchange.ensures.2 c.exchange.ensures.3 in
    stays_logged _ _ _ _ _ _ c.requires.own (c.exchange.ensures.0 ∙ c.compare_exchange.ensures.0) out.1

pub returns-clause-some : goal.returns-clause-some
returns-clause-some c =
    let got = c.compare_exchange.ensures.2.0 c.if-compare_exchange-word.false c.args.object refl in
    let out = taken_out c.args.object _ c.args.seat.now.me _ c.exchange.new.seat.me got.0 c.exchange.result c.requires.free.1 got.2 c.exchange.ensures.2 c.exchange.ensures.3 in
    subst (λ (r : Slot). IfSome r (λ (y : Object). Took c.args.object c.args.seat.now.me y c.exchange.new.seat.me)) (sym out.0)
    (record { done = c.peek-word.result / 2; log = out.1; sound = got.1; told = told_after _ _ out.2 got.3 })

pub returns-clause-none : goal.returns-clause-none
returns-clause-none c =
    let got = c.compare_exchange.ensures.2.0 c.if-compare_exchange-word.false c.args.object refl in
    let out = taken_out c.args.object _ c.args.seat.now.me _ c.exchange.new.seat.me got.0 c.exchange.result c.requires.free.1 got.2 c.exchange.ensures.2 c.exchange.ensures.3 in
    subst (λ (r : Slot). IfNone r (c.exchange.new.seat.me ≡ c.args.seat.now.me)) (sym out.0) tt
