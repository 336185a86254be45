use Rattle.symbol_lines.proofs.reading.+sleb_of_at_most.Given as goal

abbrev pub decreases-sleb_of_at_most : goal.decreases-sleb_of_at_most
decreases-sleb_of_at_most l = l.count
