use Rattle.symbol_lines.proofs.operations.+after_numbers.Given as goal

abbrev pub decreases-after_numbers : goal.decreases-after_numbers
decreases-after_numbers l = l.count
