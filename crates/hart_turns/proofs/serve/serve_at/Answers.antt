use Rattle.std.proofs.Common.{refl, sym}
use Rattle.hart_turns.proofs.Serving.{granule_found, word_within, turned_granule, on_ok}
use Rattle.hart_turns.proofs.serve.serve_at.Goals as goal

pub serve_at_stripe-requires-clause-index : goal.serve_at_stripe-requires-clause-index
serve_at_stripe-requires-clause-index c =
    let g = granule_found c.args.image.now _ c.args.shared.now c.args.number c.args.tid c.args.hart.now c.args.request.now c.args.stripe.now.words c.in-Some.granule
    c.word_index-index.result c.accepted.ensures c.requires.table c.requires.number c.requires.size c.requires.uses c.requires.asked c.requires.within
    (sym c.in-Some.ensures) c.word_index-index.ensures in
    word_within c.args.image.now c.args.stripe.now.words _ c.word_index-index.result g.inside g.index_is

pub returns-clause-served : goal.returns-clause-served
returns-clause-served c =
    let g = granule_found c.args.image.now _ c.args.shared.now c.args.number c.args.tid c.args.hart.now c.args.request.now c.args.stripe.now.words c.in-Some.granule
    c.word_index-index.result c.accepted.ensures c.requires.table c.requires.number c.requires.size c.requires.uses c.requires.asked c.requires.within
    (sym c.in-Some.ensures) c.word_index-index.ensures in
    on_ok _ _ c.serve_at_stripe.result
    (λ ok. record {
      turned = turned_granule c.args.image.now c.args.number c.args.tid c.args.request.now c.args.hart.now c.serve_at_stripe.new.self c.args.stripe.now.words
          c.serve_at_stripe.new.words c.args.stripe.now.reserved c.serve_at_stripe.new.reserved c.serve_at_stripe.new.events g.uses g.here
          (λ harts asks. ok c.args.image.now harts asks c.requires.within g.index_is);
      size = c.serve_at_stripe.ensures.size;
      sync_is = refl;
      last_is = refl;
    })
    c.serve_at_stripe.ensures.ok
