-- Which labels may be among some events.
use Rattle.std.specs.Prelude.{◌==◌, ◌&&◌, Bool, true, false, nat_le}
use Rattle.run_record.specs.declared.entry.Label.{Label}
use Rattle.trace_parts.specs.declared.label_range.LabelRange.{LabelRange}
use Rattle.trace_parts.specs.declared.label_range.LabelRange.TheVariants.{Empty, Epochs, All}

abbrev pub is_in_range : LabelRange → Label → Bool
is_in_range Empty l = false
is_in_range (Epochs sid era least greatest) l = (l.sid == sid) && (l.era == era) && nat_le least l.epoch && nat_le l.epoch greatest
is_in_range All l = true
