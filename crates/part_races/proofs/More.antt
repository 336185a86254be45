-- One round more, and a round without entries.
use Rattle.std.proofs.Common.{◌≡◌, ◌+◌, ℕ, cond, List, [], ◌∷◌, ◌++◌, refl, ◌∙◌}
use Rattle.run_record.specs.declared.limits.Limits.{Limits}
use Rattle.report_laws.specs.Awaited.{Awaited}
use Rattle.hart_parts.specs.Rounds.{PartRound}
use Rattle.part_races.specs.Rounds.{Tagged, entries_tagged, all_awaited, RoundAwaits, AllAwait, era_after}

-- a round awaits behind the others
pub one_more_round : (file : List ℕ) (limits : Limits) (era : ℕ) (rs : List PartRound) (r : PartRound) (wss : List (List Awaited)) (ws : List Awaited) →
    AllAwait file limits era rs wss → RoundAwaits file limits (era_after era rs) r ws → AllAwait file limits era (rs ++ r ∷ []) (wss ++ ws ∷ [])
one_more_round file limits era [] r [] ws all one = (one, tt)
one_more_round file limits era [] r (vs ∷ wss) ws all one = absurd all
one_more_round file limits era (q ∷ rs) r [] ws all one = absurd all
one_more_round file limits era (q ∷ rs) r (vs ∷ wss) ws all one = (all.0, one_more_round file limits (cond q.ends (era + 1) era) rs r wss ws all.1 one)

none_tagged : (xs : List Tagged) → entries_tagged xs ≡ [] → all_awaited xs ≡ []
none_tagged [] e = refl
none_tagged (x ∷ xs) e = absurd (cc)

-- without entries nothing awaits
pub none_awaits : (file : List ℕ) (limits : Limits) (era : ℕ) (r : PartRound) (ws : List Awaited) → RoundAwaits file limits era r ws → r.entries ≡ [] →
    ws ≡ []
none_awaits file limits era r ws a none = a.awaited_are ∙ none_tagged a.sorted (a.entries ∙ none)
