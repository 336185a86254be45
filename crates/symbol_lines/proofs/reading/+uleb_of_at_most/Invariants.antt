use Rattle.symbol_lines.proofs.reading.+uleb_of_at_most.Given as goal

abbrev pub decreases-uleb_of_at_most : goal.decreases-uleb_of_at_most
decreases-uleb_of_at_most l = l.count
